use mathlib.Core.Path.{◌≡◌, sym, ap, ◌∙◌}
use mathlib.Core.Option.{none, some}
use Prim.Native.Nat.{ℕ, ◌<◌}
use native.Mathlib.Omega.{arith}
use lib.ListN.{get_or}
use lib.IntN.{pos, neg_ℤ}
use lib.Signed.{lt_z}
use mir.Syntax.{w32}
use mir.Val.{SFits, to_z, of_z}
use mir.Facts.{to_z-of_z}
use Rattle.model.specs.Case.{Case}
use Rattle.model.specs.Run.{State}
use Rattle.model.proofs.Shapes.{file_in}
use Rattle.search.specs.Asks.{RelaxSays, DeliverSays}
use Rattle.search.specs.Cells.{far}
use Rattle.search.specs.Rep.{Rep}
use Rattle.search.proofs.Stores.{there}
use Rattle.search.proofs.Acts.{delivery_room, counted_last, emptied_run, emptied_counted, some_there, delivery_none, delivery_some, cell_emptied}
use Rattle.search.proofs.Numbers.{none_is, none_test}
use Rattle.search.proofs.run.Run.deliver.Goals as goal
use Rattle.search.proofs.run.Run.deliver.Goals.{After-missing, After-store_number}

empty : (c : After-missing) (q : Case) (x : State) → Rep q x c.args.self.now c.args.work.now → c.args.e < q.file_edges → c.missing.result ≡ lt_z (pos 0) (far (get_or x.cells c.args.e none))
empty c q x rep h = none_test _ c.load-d.result _ (record { sfits = c.load-d.type_inv }) c.missing.ensures (c.load-d.ensures ∙ there rep.held.cells c.args.e h)

pub returns-then-missing : goal.returns-then-missing
unfolding DeliverSays
returns-then-missing c =
    λ q x rep whole h.
    let a = (goal.at.returns-then-missing c).After-missing in
    rw (delivery_none q c.args.e x (none_is (get_or x.cells c.args.e none) (sym (empty a q x rep h) ∙ c.if-missing.true))) rep

pub overflow_add-self : goal.overflow_add-self
overflow_add-self c =
    let s = c.requires in
    omega (arith, delivery_room s.case s.state c.args.self.now s.rep.held.laid.sound s.rep.held.laid.within s.moment s.rep.counted.tallied)

-- a message waits, and its cell is emptied
module _ (c : After-store_number) (q : Case) (x : State) (rep : Rep q x c.args.self.now c.args.work.now) (m : (o : ℕ) × (get_or x.cells c.args.e none ≡ some o)) (h : c.args.e < q.file_edges) where
  offer-is : to_z w32 (of_z w32 c.load-d.result) ≡ neg_ℤ (pos m.0)
  offer-is =
      let f : SFits w32 c.load-d.result = record { sfits = c.load-d.type_inv } in
      to_z-of_z f ∙ c.load-d.ensures ∙ there rep.held.cells c.args.e h ∙ ap far m.1

  left : Rep q (emptied_counted c.args.e x) (emptied_run c.args.self.now) c.store_number.new.work
  left = rw c.store_number.ensures (cell_emptied q x _ _ c.args.e m.0 rep h m.1)

pub relax-requires : goal.relax-requires
relax-requires c =
    let p = goal.at.relax-requires c in
    let s = c.requires in
    let m = some_there _ (sym (empty p.After-missing s.case s.state s.rep s.below) ∙ c.if-missing.false) in
    record {
      case = s.case;
      state = emptied_counted c.args.e s.state;
      offer = m.0;
      rep = left p.After-store_number s.case s.state s.rep m s.below;
      below = file_in s.case s.rep.held.laid.sound c.args.e s.below;
      is = offer-is p.After-store_number s.case s.state s.rep m s.below;
    }

pub returns : goal.returns
unfolding DeliverSays RelaxSays
returns c =
    λ q x rep whole h.
    let p = goal.at.returns c in
    let e = c.args.e in
    let m = some_there _ (sym (empty p.After-missing q x rep h) ∙ c.if-missing.false) in
    rw (delivery_some q e m.0 x m.1)
    (counted_last q x _ _ e m.0
    (c.relax.ensures q (emptied_counted e x) m.0 (left p.After-store_number q x rep m h) whole (file_in q rep.held.laid.sound e h) (offer-is p.After-store_number q x rep m h)))
