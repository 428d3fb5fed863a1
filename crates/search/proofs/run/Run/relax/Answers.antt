use Rattle.model.proofs.Fits.{accepting_few}
use mathlib.Core.Path.{◌≡◌, refl, sym, ap, ◌∙◌}
use mathlib.Core.Bool.{true, false}
use mathlib.Core.Option.{none}
use Prim.Native.Nat.{ℕ, ◌<◌}
use native.Mathlib.Omega.{arith}
use lib.ListN.{length, get_or}
use lib.IntN.{pos, neg_ℤ}
use Rattle.model.specs.Case.{Case, owner}
use Rattle.model.specs.Run.{State, with_queues, takes, enqueue}
use Rattle.search.specs.Asks.{PushSays, RelaxSays}
use Rattle.search.specs.Rep.{Rep, held_as}
use Rattle.search.proofs.Numbers.{taken_test, floor_test}
use Rattle.search.proofs.Stores.{there}
use Rattle.search.proofs.Steps.{offered, target_there, target_is, target_below, relax_written, relax_kept, relax_taken}
use Rattle.search.proofs.run.Run.relax.Goals as goal
use Rattle.search.proofs.run.Run.relax.Goals.{After-lower, After-push}

pub load_below-v-requires : goal.load_below-v-requires
load_below-v-requires c =
    let s = c.requires in
    (omega arith, target_there s.case _ _ s.rep.held.laid s.below)

pub push-requires : goal.push-requires
push-requires c =
    let s = c.requires in
    let v = c.load_below-v.result in
    let b = target_below s.case _ _ s.rep.held.laid s.below v c.load_below-v.ensures.0 in
    record {
      case = s.case;
      state = offered s.state v s.offer c.args.e;
      run = c.args.self.now;
      rep = relax_written c.args.e v s.offer s.rep b c.ranges.d s.is c.store.ensures c.store_number.ensures;
      below = b;
    }

pub below_floor-requires : goal.below_floor-requires
below_floor-requires c =
    let s = c.requires in
    omega (arith, s.rep.counted.marks, accepting_few s.case s.rep.held.laid.sound, s.rep.held.laid.within.vertices)

-- for every run in the cells and the depth o that is offered
tested : (c : After-lower) (q : Case) (x : State) (o : ℕ) → Rep q x c.args.self.now c.args.work.now → c.args.e < length q.graph.edges → c.args.d ≡ neg_ℤ (pos o)
    → c.lower.result ≡ takes (get_or x.depths c.load_below-v.result none) o
tested c q x o rep h d =
    let b = target_below q _ _ rep.held.laid h c.load_below-v.result c.load_below-v.ensures.0 in
    taken_test _ _ c.load-old.result o _ c.ranges.d (record { sfits = c.load-old.type_inv }) c.lower.ensures d (c.load-old.ensures ∙ there rep.held.depths c.load_below-v.result b)

joined : (c : After-push) (q : Case) (x : State) (o : ℕ) → Rep q x c.args.self.now c.args.work.now → c.args.e < length q.graph.edges → c.args.d ≡ neg_ℤ (pos o)
    → let v = c.load_below-v.result in Rep q (with_queues (enqueue (owner q v) v x.queues) (offered x v o c.args.e)) c.args.self.now c.push.new.work
unfolding PushSays
joined c q x o rep h d =
    let v = c.load_below-v.result in
    let b = target_below q _ _ rep.held.laid h v c.load_below-v.ensures.0 in
    c.push.ensures q _ _ (relax_written c.args.e v o rep b c.ranges.d d c.store.ensures c.store_number.ensures) b

pub returns-then-below_floor : goal.returns-then-below_floor
unfolding RelaxSays
returns-then-below_floor c =
    λ q x o rep whole h d.
    let p = goal.at.returns-then-below_floor c in
    let f = floor_test _ c.args.d c.args.self.now.marks o _ c.ranges.d c.below_floor.ensures d rep.counted.marks in
    relax_taken q x _ _ c.args.e _ o true (target_is q _ _ rep.held.laid h _ c.load_below-v.ensures.0) (sym (tested p.After-lower q x o rep h d) ∙ c.if-lower.true)
    (joined p.After-push q x o rep h d) (sym f ∙ c.if-below_floor.true) _ refl

pub returns-else-below_floor : goal.returns-else-below_floor
unfolding RelaxSays
returns-else-below_floor c =
    λ q x o rep whole h d.
    let p = goal.at.returns-else-below_floor c in
    let f = floor_test _ c.args.d c.args.self.now.marks o _ c.ranges.d c.below_floor.ensures d rep.counted.marks in
    let r = joined p.After-push q x o rep h d in
    relax_taken q x _ _ c.args.e _ o false (target_is q _ _ rep.held.laid h _ c.load_below-v.ensures.0) (sym (tested p.After-lower q x o rep h d) ∙ c.if-lower.true)
    r (sym f ∙ c.if-below_floor.false) _ (r.counted.broke ∙ ap held_as whole)

pub returns-else-lower : goal.returns-else-lower
unfolding RelaxSays
returns-else-lower c =
    λ q x o rep whole h d.
    relax_kept q x _ _ c.args.e _ o rep (target_is q _ _ rep.held.laid h _ c.load_below-v.ensures.0) (sym (tested (goal.at.returns-else-lower c).After-lower q x o rep h d) ∙ c.if-lower.false)
