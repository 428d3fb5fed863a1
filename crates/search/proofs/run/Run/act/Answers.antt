use Prim.Native.Nat.{◌≤◌, ◌<◌}
use native.Mathlib.Omega.{arith}
use Rattle.model.proofs.Rounds.{act_over}
use Rattle.search.specs.Asks.{TurnSays, DeliverSays, ActSays}
use Rattle.search.proofs.Acts.{broken_none, broken_ended, turn_act, delivery_act}
use Rattle.search.proofs.run.Run.act.Goals as goal

pub returns-then-is_some : goal.returns-then-is_some
unfolding ActSays
returns-then-is_some c = λ q x rep m w l. rw (act_over q c.args.a x (broken_ended rep c.is_some.ensures c.if-is_some.true)) rep

pub turn-requires : goal.turn-requires
turn-requires c =
    let s = c.requires in
    record { case = s.case; state = s.state; rep = s.rep; moment = s.moment; whole = broken_none s.rep c.is_some.ensures c.if-is_some.false; worker = omega (arith, s.workers, c.if-a-p.true) }

pub returns-then-a-p : goal.returns-then-a-p
unfolding ActSays TurnSays
returns-then-a-p c =
    λ q x rep m w l.
    let a = c.args in
    let whole = broken_none rep c.is_some.ensures c.if-is_some.false in
    let b : a.a < q.workers = omega (arith, c.if-a-p.true) in
    rw (turn_act q x rep.held.laid.sound m whole a.a b) (c.turn.ensures q x rep m whole b)

pub deliver-requires : goal.deliver-requires
deliver-requires c =
    let s = c.requires in
    record { case = s.case; state = s.state; rep = s.rep; moment = s.moment; whole = broken_none s.rep c.is_some.ensures c.if-is_some.false; below = omega (arith, s.workers, s.below, c.if-a-p.false) }

pub returns : goal.returns
unfolding ActSays DeliverSays
returns c =
    λ q x rep m w l.
    let a = c.args in
    let whole = broken_none rep c.is_some.ensures c.if-is_some.false in
    let b : a.p ≤ a.a = omega (arith, c.if-a-p.false) in
    rw (delivery_act q x rep.held.laid.sound m whole a.a a.p w b) (c.deliver.ensures q x rep whole (omega arith))
