-- `rounds::turns` meets its contract: the workers before w have had their turns, and every message is on an edge of a vertex in the list. Assumes nothing.
use mathlib.Core.Path.{refl}
use native.Mathlib.Omega.{arith}
use Rattle.search.specs.Asks.{ActSays, TurnsSay}
use Rattle.search.proofs.Steps.{head_there, head_is}
use Rattle.search.proofs.Sweeps.{Turning, turns_start, turns_idle, turns_step, turns_done}
use Rattle.search.proofs.run.Run.turns.Goals as goal

pub loop-w-init : goal.loop-w-init
loop-w-init c = (omega arith, omega arith, refl, refl, λ q x rep m e empty room. turns_start q x _ e _ _ _ rep m empty)

pub load_below-head-requires : goal.load_below-head-requires
load_below-head-requires c =
    let asked : Turning c.requires.case c.requires.state c.args.p c.loop-w.heads c.loop-w.scanned c.loop-w.w c.loop-w.self c.loop-w.work = let s = c.requires in c.loop-w.invariant.4 s.case s.state s.rep s.moment s.workers s.empty s.room in
    let s = c.requires in
    let u = asked in (
      omega (arith, u.along.rep.held.laid.long, s.workers, s.rep.held.laid.within.workers, c.loop-w-test.true),
      head_there s.case u.along.at _ _ _ u.along.rep (omega (arith, s.workers, c.loop-w-test.true)),
    )

pub loop-w-preserved-then-head-eq-QUEUE_END : goal.loop-w-preserved-then-head-eq-QUEUE_END
loop-w-preserved-then-head-eq-QUEUE_END c =
    let i = c.loop-w.invariant in
    let t = c.loop-w-test.true in (
      omega arith,
      omega (arith, i.1),
      i.2,
      i.3,
      λ q x rep m e empty room.
          let u = i.4 q x rep m e empty room in
          turns_idle q x _ e _ _ _ _ _ u t (head_is q u.along.at _ _ _ u.along.rep (omega arith) _ (rw c.if-head-eq-QUEUE_END.true at c.load_below-head.ensures.0)),
    )

pub act-requires : goal.act-requires
act-requires c =
    let asked : Turning c.requires.case c.requires.state c.args.p c.loop-w.heads c.loop-w.scanned c.loop-w.w c.loop-w.self c.loop-w.work = let s = c.requires in c.loop-w.invariant.4 s.case s.state s.rep s.moment s.workers s.empty s.room in
    let s = c.requires in
    let u = asked in
    record { case = s.case; state = u.along.at; rep = u.along.rep; moment = u.along.moment; workers = s.workers; below = omega (arith, c.loop-w-test.true) }

pub insert-requires : goal.insert-requires
insert-requires c =
    let i = c.loop-w.invariant in
    omega (arith, c.requires.room, i.1, i.3, c.loop-w-test.true)

pub loop-w-preserved : goal.loop-w-preserved
unfolding ActSays
loop-w-preserved c =
    let i = c.loop-w.invariant in
    let t = c.loop-w-test.true in (
      omega arith,
      omega (arith, i.1),
      omega (arith, c.act.auto.work, i.2),
      omega (arith, c.insert.auto.list, i.3),
      λ q x rep m e empty room.
          let u = i.4 q x rep m e empty room in
          turns_step q x _ e _ _ _ _ _ _ _ _ _ u t c.insert.ensures (head_is q u.along.at _ _ _ u.along.rep (omega arith) _ c.load_below-head.ensures.0) c.if-head-eq-QUEUE_END.false
          (c.act.ensures q u.along.at u.along.rep u.along.moment e (omega arith)),
    )

pub returns : goal.returns
unfolding TurnsSay
returns c =
    let i = c.loop-w.invariant in
    λ q x rep m e room empty. turns_done q x _ e _ _ _ _ _ (i.4 q x rep m e empty (omega (arith, i.3))) c.loop-w-test.false (omega (arith, i.0, i.1))
