-- `rounds::round` meets its contract: the turns, then the deliveries on edges of the vertices that they scanned. Assumes nothing.
use mathlib.Core.Path.{◌≡◌, sym}
use mathlib.Core.Bool.{true}
use Prim.Native.Nat.{◌≤◌}
use native.Mathlib.Omega.{arith}
use lib.ListN.{length}
use lib.Seq.{length-take-le}
use Rattle.model.specs.Case.{Case}
use Rattle.model.specs.Run.{State, no_message, acted, range, Moment}
use Rattle.search.specs.Asks.{TurnsLeave, TurnsSay, SweepSays, RoundSays}
use Rattle.search.specs.Rep.{Rep}
use Rattle.model.proofs.ActRules.{moment_acted}
use Rattle.search.proofs.Sweeps.{listed_front, only_front, round_rep, round_ended}
use Rattle.search.proofs.run.Run.round.Goals as goal
use Rattle.search.proofs.run.Run.round.Goals.{After-turns-scanned}

module _ (c : After-turns-scanned) where
  turned : (q : Case) (x : State) → Rep q x c.args.self.now c.args.work.now → Moment q x → c.args.p ≡ q.workers → c.args.p ≤ length c.args.heads.now → no_message x.cells ≡ true
      → TurnsLeave q (acted q (range q.workers 0) x) c.turns-scanned.new.self c.turns-scanned.result c.turns-scanned.new.work c.turns-scanned.new.heads
  unfolding TurnsSay
  turned q x rep m w r e = c.turns-scanned.ensures q x rep m w (omega (arith, c.turns-scanned.auto.heads)) e

  room : c.turns-scanned.result ≤ length c.turns-scanned.new.heads
  room = let s = c.requires in omega (arith, (turned s.case s.state s.rep s.moment s.workers s.room s.empty).few, s.workers, s.room, c.turns-scanned.auto.heads)

pub slice_bounds-sweep-end : goal.slice_bounds-sweep-end
slice_bounds-sweep-end c = room (goal.at.slice_bounds-sweep-end c).After-turns-scanned

pub slice_bounds-sweep-end-2 : goal.slice_bounds-sweep-end-2
slice_bounds-sweep-end-2 c = sym (length-take-le _ _ (room (goal.at.slice_bounds-sweep-end-2 c).After-turns-scanned))

pub sweep-requires : goal.sweep-requires
sweep-requires c =
    let a = (goal.at.sweep-requires c).After-turns-scanned in
    let s = c.requires in
    let t = turned a s.case s.state s.rep s.moment s.workers s.room s.empty in
    record {
      case = s.case;
      state = acted s.case (range s.case.workers 0) s.state;
      rep = t.rep;
      moment = moment_acted s.case (range s.case.workers 0) s.state s.moment;
      workers = s.workers;
      listed = listed_front _ _ (room a) _ t.listed;
      only = only_front _ _ (room a) s.case _ t.only;
    }

pub returns : goal.returns
unfolding RoundSays SweepSays
returns c =
    λ q x rep m w r e.
    let a = (goal.at.returns c).After-turns-scanned in
    let t = turned a q x rep m w r e in
    let y = acted q (range q.workers 0) x in
    let ok = rep.held.laid.sound in
    record {
      rep = round_rep q x _ _ ok (c.sweep.ensures q y t.rep (moment_acted q (range q.workers 0) x m) w (listed_front _ _ (room a) _ t.listed) (only_front _ _ (room a) q _ t.only));
      ended = λ z. round_ended q ok x _ m (rw z at t.only) (t.idle z);
    }
