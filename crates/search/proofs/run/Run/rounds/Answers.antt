-- `rounds::rounds` meets its contract: so many rounds are left, and the run that they leave is the one asked for. Assumes nothing.
use mathlib.Core.Path.{◌≡◌, refl}
use mathlib.Core.Bool.{true}
use Prim.Native.Nat.{◌-◌}
use native.Mathlib.Omega.{arith}
use Rattle.model.specs.Case.{Case}
use Rattle.model.specs.Run.{State, no_message, acted, round_acts, Moment}
use Rattle.search.specs.Asks.{RoundLeaves, RoundSays, RoundsDone}
use Rattle.search.specs.Rep.{Rep}
use Rattle.search.proofs.Acts.{broken_none, broken_ended}
use Rattle.search.proofs.Sweeps.{Left, left_start, left_empty, left_step, left_over, left_last, left_done}
use Rattle.search.proofs.run.Run.rounds.Goals as goal

pub loop-init : goal.loop-init
loop-init c = (refl, refl, λ q x rep m w e. left_start q x _ _ _ rep m e)

pub returns-then-is_some : goal.returns-then-is_some
unfolding RoundsDone
returns-then-is_some c =
    λ q x rep m w e.
    let u = c.loop.invariant.2 q x rep m w e in
    left_over q x _ _ _ _ u (broken_ended u.rep c.is_some.ensures c.if-is_some.true)

pub round-scanned-requires : goal.round-scanned-requires
round-scanned-requires c =
    let s = c.requires in
    let u = c.loop.invariant.2 s.case s.state s.rep s.moment s.workers s.empty in
    record {
      case = s.case;
      state = u.at;
      rep = u.rep;
      moment = u.moment;
      workers = s.workers;
      room = omega (arith, s.workers, s.rep.held.laid.within.workers, c.loop.invariant.1);
      empty = left_empty s.case s.state _ _ _ _ u (broken_none u.rep c.is_some.ensures c.if-is_some.false);
    }

pub returns-then-scanned-eq0 : goal.returns-then-scanned-eq0
unfolding RoundsDone RoundSays
returns-then-scanned-eq0 c =
    let again : (q : Case) (x : State) → Rep q x c.args.self.now c.args.work.now → Moment q x → c.args.p ≡ q.workers → no_message x.cells ≡ true
    → (u : Left q x c.args.many (c.args.many - c.loop.counter) c.loop.self c.loop.work)
    × RoundLeaves q (acted q (round_acts q) u.at) c.round-scanned.new.self c.round-scanned.result c.round-scanned.new.work = λ q x rep m w e. let u = c.loop.invariant.2 q x rep m w e in
    (u, c.round-scanned.ensures q u.at u.rep u.moment w (omega (arith, rep.held.laid.within.workers, c.loop.invariant.1)) (left_empty q x _ _ _ _ u (broken_none u.rep c.is_some.ensures c.if-is_some.false))) in
    λ q x rep m w e.
    let t = again q x rep m w e in
    left_last q x _ _ _ _ _ _ t.0 (omega (arith, c.loop-test.true)) t.1.rep (t.1.ended c.if-scanned-eq0.true)

pub loop-preserved : goal.loop-preserved
unfolding RoundSays
loop-preserved c =
    let again : (q : Case) (x : State) → Rep q x c.args.self.now c.args.work.now → Moment q x → c.args.p ≡ q.workers → no_message x.cells ≡ true
    → (u : Left q x c.args.many (c.args.many - c.loop.counter) c.loop.self c.loop.work)
    × RoundLeaves q (acted q (round_acts q) u.at) c.round-scanned.new.self c.round-scanned.result c.round-scanned.new.work = λ q x rep m w e. let u = c.loop.invariant.2 q x rep m w e in
    (u, c.round-scanned.ensures q u.at u.rep u.moment w (omega (arith, rep.held.laid.within.workers, c.loop.invariant.1)) (left_empty q x _ _ _ _ u (broken_none u.rep c.is_some.ensures c.if-is_some.false))) in
    let i = c.loop.invariant in (
      omega (arith, c.round-scanned.auto.work, i.0),
      omega (arith, c.round-scanned.auto.heads, i.1),
      λ q x rep m w e. let t = again q x rep m w e in left_step q x _ _ _ _ _ _ _ t.0 (omega (arith, c.loop-test.true)) t.1.rep,
    )

pub returns : goal.returns
unfolding RoundsDone
returns c = λ q x rep m w e. left_done q x _ _ _ _ (c.loop.invariant.2 q x rep m w e) (omega (arith, c.loop-test.false))
