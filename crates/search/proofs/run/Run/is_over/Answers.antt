-- `run::is_over` meets its contract: the floor is broken, or nothing waits. Assumes nothing.
use mathlib.Core.Path.{sym, ◌∙◌}
use Rattle.search.specs.Asks.{QueuesSay, OverSays}
use Rattle.search.proofs.Acts.{sent_most, broken_none, broken_ended, over_full, over_queued}
use Rattle.search.proofs.run.Run.is_over.Goals as goal

pub returns-then-is_some : goal.returns-then-is_some
unfolding OverSays
returns-then-is_some c = λ q x rep m w. sym (broken_ended rep c.is_some.ensures c.if-is_some.true)

pub none_full-requires : goal.none_full-requires
none_full-requires c = sent_most c.requires.rep

pub none_queued-requires : goal.none_queued-requires
none_queued-requires c =
    let s = c.requires in
    record { case = s.case; state = s.state; run = c.args.self; rep = s.rep; workers = s.workers }

pub returns-then-none_full : goal.returns-then-none_full
unfolding OverSays QueuesSay
returns-then-none_full c =
    λ q x rep m w.
    over_queued q x rep.held.laid.sound m (broken_none rep c.is_some.ensures c.if-is_some.false) _ _ _ rep (sym c.none_full.ensures ∙ c.if-none_full.true) (c.none_queued.ensures q x _ rep w)

pub returns-else-none_full : goal.returns-else-none_full
unfolding OverSays
returns-else-none_full c =
    λ q x rep m w.
    c.if-none_full.false ∙ sym (over_full q x rep.held.laid.sound m (broken_none rep c.is_some.ensures c.if-is_some.false) _ _ rep (sym c.none_full.ensures ∙ c.if-none_full.false))
