use mathlib.Core.Path.{◌≡◌}
use Prim.Native.Nat.{◌<◌}
use native.Mathlib.Omega.{arith}
use Rattle.model.specs.Graph.{accepting_count}
use Rattle.model.specs.Case.{Case}
use Rattle.model.proofs.Fits.{accepting_few}
use Rattle.search.specs.Rep.{Laid, Rep}
use Rattle.search.specs.Asks.{PushSays, BlankSays, FreshSays, blank_run}
use Rattle.search.proofs.Fresh.{started, rep_started, fresh_is}
use Rattle.search.proofs.run.Run.fresh.Goals as goal

pub blank-requires : goal.blank-requires
blank-requires c = c.requires.laid.long

pub push-requires : goal.push-requires
unfolding BlankSays
push-requires c =
    let begun : (q : Case) → Laid q c.args.work.now → c.args.source < q.graph.vertices → c.args.marks ≡ accepting_count q.graph
    → Rep q (started q c.args.source) (blank_run c.args.marks) c.store_number.new.work = λ q l b m. rw (c.store_number.ensures, m) (rep_started q _ _ c.args.source (c.blank.ensures q l) b) in
    let s = c.requires in
    let b : c.args.source < s.case.graph.vertices = omega (arith, s.starts, s.laid.sound.source) in
    record { case = s.case; state = started s.case c.args.source; run = blank_run c.args.marks; rep = begun s.case s.laid b s.counts; below = b }

pub overflow_cast-result : goal.overflow_cast-result
overflow_cast-result c =
    let s = c.requires in
    record { fits = omega (arith, s.counts, accepting_few s.case s.laid.sound, s.laid.within.vertices) }

pub returns : goal.returns
unfolding FreshSays PushSays BlankSays
returns c =
    let begun : (q : Case) → Laid q c.args.work.now → c.args.source < q.graph.vertices → c.args.marks ≡ accepting_count q.graph
    → Rep q (started q c.args.source) (blank_run c.args.marks) c.store_number.new.work = λ q l b m. rw (c.store_number.ensures, m) (rep_started q _ _ c.args.source (c.blank.ensures q l) b) in
    λ q l s m.
    let b : c.args.source < q.graph.vertices = omega (arith, l.sound.source) in
    rw (← fresh_is q c.args.source s) (c.push.ensures q (started q c.args.source) _ (begun q l b m) b)
