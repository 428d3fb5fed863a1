use mathlib.Core.Path.{◌∙◌}
use mathlib.Core.List.{[]}
use mathlib.Core.Option.{none}
use Prim.Native.Nat.{ℕ, ◌-◌, ◌<◌}
use native.Mathlib.Omega.{arith}
use lib.ListN.{get_or}
use mir.Syntax.{w32}
use mir.Val.{SFits}
use mir.Facts.{to_z-of_z}
use Rattle.model.specs.Case.{Case}
use Rattle.model.specs.Run.{State, scan, depth_or, Moment}
use Rattle.model.proofs.Rounds.{scan_count}
use Rattle.search.specs.Asks.{PopSays, ScanSays, TurnSays}
use Rattle.search.specs.Rep.{Rep}
use Rattle.search.proofs.Acts.{depth_low, count_small, scan_room, turned_rep, turn_none, turn_is, head_split, head_low, head_read, without}
use Rattle.search.proofs.Queues.{link_one}
use Rattle.search.proofs.Steps.{head_there, head_is}
use Rattle.search.proofs.run.Run.turn.Goals as goal
use Rattle.search.proofs.run.Run.turn.Goals.{After-scan}

pub load_below-head-requires : goal.load_below-head-requires
load_below-head-requires c =
    let s = c.requires in
    (omega arith, head_there s.case s.state _ _ _ s.rep s.worker)

pub returns-then-head-eq-QUEUE_END : goal.returns-then-head-eq-QUEUE_END
unfolding TurnSays
returns-then-head-eq-QUEUE_END c =
    λ q x rep m whole pw.
    let p = c.args.p in
    rw (turn_none q x p (link_one (get_or x.queues p []) (head_is q x _ _ _ rep pw _ c.load_below-head.ensures.0 ∙ c.if-head-eq-QUEUE_END.true))) rep

pub pop-requires : goal.pop-requires
pop-requires c =
    let s = c.requires in
    let g = c.load_below-head.ensures.0 in
    let n = c.if-head-eq-QUEUE_END.false in
    let t = head_split _ _ s.rep s.worker g n in
    record { case = s.case; state = s.state; run = c.args.self.now; rest = t.0; rep = s.rep; worker = s.worker; below = head_low _ _ s.rep s.worker g n; head = t.1 }

pub scan-requires : goal.scan-requires
unfolding PopSays
scan-requires c =
    let s = c.requires in
    let g = c.load_below-head.ensures.0 in
    let n = c.if-head-eq-QUEUE_END.false in
    let t = head_split _ _ s.rep s.worker g n in
    let popped = c.pop.ensures s.case s.state _ t.0 s.rep s.worker t.1 in
    let ok = s.rep.held.laid in
    let f : SFits w32 c.load-d.result = record { sfits = c.load-d.type_inv } in
    record {
      case = s.case;
      state = without _ _ s.rep s.worker g n;
      depth = depth_or (get_or s.state.depths (c.load_below-head.result - 2) none);
      rep = popped;
      below = head_low _ _ s.rep s.worker g n;
      is = to_z-of_z f ∙ head_read _ _ s.rep s.worker g n popped s.moment _ c.load-d.ensures;
      low = depth_low s.case s.state _ _ t.0 ok.sound ok.within s.moment s.whole t.1;
      room = scan_room s.case s.state _ ok.sound ok.within s.moment popped.counted.tallied;
    }

module _ (c : After-scan) (q : Case) (x : State) (rep : Rep q x c.args.self.now c.args.work.now) (pw : c.args.p < q.workers) where
  abbrev gone : State
  gone = without _ _ rep pw c.load_below-head.ensures.0 c.if-head-eq-QUEUE_END.false

  abbrev depth : ℕ
  depth = depth_or (get_or x.depths (c.load_below-head.result - 2) none)

  done : Moment q x → Rep q (scan q (c.load_below-head.result - 2) depth gone) c.scan.new.self c.scan.new.work
  unfolding PopSays ScanSays
  done m =
      let g = c.load_below-head.ensures.0 in
      let n = c.if-head-eq-QUEUE_END.false in
      let t = head_split _ _ rep pw g n in
      let f : SFits w32 c.load-d.result = record { sfits = c.load-d.type_inv } in
      let popped = c.pop.ensures q x _ t.0 rep pw t.1 in
      c.scan.ensures q _ _ popped (head_low _ _ rep pw g n) (to_z-of_z f ∙ head_read _ _ rep pw g n popped m _ c.load-d.ensures)

pub overflow_add-self : goal.overflow_add-self
overflow_add-self c =
    let a = (goal.at.overflow_add-self c).After-scan in
    let s = c.requires in
    omega (
      arith,
      (done a s.case s.state s.rep s.worker s.moment).counted.acts,
      scan_count s.case (c.load_below-head.result - 2) (depth a s.case s.state s.rep s.worker) (gone a s.case s.state s.rep s.worker),
      count_small s.case s.state s.rep.held.laid.sound s.rep.held.laid.within s.moment,
    )

pub returns : goal.returns
unfolding TurnSays
returns c =
    λ q x rep m whole pw.
    let t = head_split _ _ rep pw c.load_below-head.ensures.0 c.if-head-eq-QUEUE_END.false in
    rw (turn_is q x c.args.p _ t.0 t.1) (turned_rep q _ _ _ (done (goal.at.returns c).After-scan q x rep pw m))
