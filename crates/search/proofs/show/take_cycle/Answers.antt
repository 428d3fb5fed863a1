-- `take_cycle` meets its contract. The invariant: what is written so far, and what is left to go, make the cycle.
use mathlib.Core.Path.{◌≡◌, refl}
use mathlib.Core.List.{List}
use mathlib.Core.Option.{Option}
use Prim.Native.Nat.{ℕ, ◌-◌}
use native.Mathlib.Omega.{arith}
use Rattle.model.specs.Case.{Case}
use Rattle.search.specs.Cells.{cycle_at}
use Rattle.search.specs.Show.{Lies, Chained, Kept, Circling, ParentIs, OneBackIs, Cycled}
use Rattle.search.proofs.Frames.{kept_same, kept_more, kept_set, lies_kept}
use Rattle.search.proofs.Cycles.{circling_start, circling_step, circling_done}
use Rattle.search.proofs.show.take_cycle.Goals as goal
use Rattle.search.proofs.show.take_cycle.Goals.{After-one_back-v}

pub loop-init : goal.loop-init
loop-init c = (omega arith, omega arith, kept_same _ _, λ q ps l f. circling_start q ps _ _ _ l f)

pub parent_edge-e-requires : goal.parent_edge-e-requires
parent_edge-e-requires c =
    let under : let s = c.requires.1 in
    Circling s.case s.parents c.args.start c.args.n c.loop.v (c.args.n - c.loop.counter) c.loop.at c.loop.work = let s = c.requires.1 in c.loop.invariant.3 s.case s.parents s.lies s.chained in
    let s = c.requires.1 in
    let r = under in
    record { case = s.case; parents = s.parents; lies = r.lies; chained = r.chained }

pub store_number-requires : goal.store_number-requires
unfolding ParentIs
store_number-requires c =
    let under : let s = c.requires.1 in
    Circling s.case s.parents c.args.start c.args.n c.loop.v (c.args.n - c.loop.counter) c.loop.at c.loop.work = let s = c.requires.1 in c.loop.invariant.3 s.case s.parents s.lies s.chained in
    let i = c.loop.invariant in
    let r = under in
    let e = c.parent_edge-e.ensures _ _ r.lies r.chained in
    (omega (arith, i.0, i.1, r.lies.laid.long), omega (arith, r.lies.real _ _ e, r.lies.laid.within.edges))

pub one_back-v-requires : goal.one_back-v-requires
one_back-v-requires c =
    let under : let s = c.requires.1 in
    Circling s.case s.parents c.args.start c.args.n c.loop.v (c.args.n - c.loop.counter) c.loop.at c.loop.work = let s = c.requires.1 in c.loop.invariant.3 s.case s.parents s.lies s.chained in
    let put : Kept cycle_at c.loop.work c.store_number.new.work = rw c.store_number.ensures (kept_set cycle_at _ (c.loop.at - 1) _ (omega (arith, c.loop.invariant.0, c.loop-test.true))) in
    let s = c.requires.1 in
    let r = under in
    record { case = s.case; parents = s.parents; lies = lies_kept _ _ cycle_at _ _ (omega arith) put r.lies; chained = r.chained }

module _ (c : After-one_back-v) where
  put : Kept cycle_at c.args.work.now c.store_number.new.work
  put = kept_more _ _ _ _ c.loop.invariant.2 (rw c.store_number.ensures (kept_set cycle_at _ (c.loop.at - 1) _ (omega (arith, c.loop.invariant.0, c.loop-test.true))))

  -- one edge more; k is what is left to go
  stepped : (k : ℕ) → (c.one_back-v.result ≡ c.args.start → k ≡ 0) → ((c.one_back-v.result ≡ c.args.start → ⊥) → k ≡ c.args.n - c.loop.counter - 1) →
      (q : Case) (ps : List (Option ℕ)) → Lies q ps c.args.work.now → Chained q.graph ps c.args.start → Circling q ps c.args.start c.args.n c.one_back-v.result k (c.loop.at - 1) c.store_number.new.work
  unfolding ParentIs OneBackIs
  stepped k y z q ps l f =
      let t = c.loop-test.true in
      let r = c.loop.invariant.3 q ps l f in
      let e = c.parent_edge-e.ensures q ps r.lies r.chained in
      let u = c.one_back-v.ensures q ps (lies_kept q ps cycle_at _ _ (omega arith) put l) r.chained in
      rw c.store_number.ensures (circling_step q ps _ _ _ (c.args.n - c.loop.counter) c.loop.at _ _ _ k r (omega (arith, t)) (omega (arith, c.loop.invariant.0, t)) e u y z)

pub returns-then-v-start : goal.returns-then-v-start
unfolding Cycled
returns-then-v-start c =
    let s = (goal.at.returns-then-v-start c).After-one_back-v in
    (put s, λ q ps l f b p m. circling_done q ps _ _ _ _ b _ (stepped s 0 (λ e. refl) (λ n. absurd (n c.if-v-start.true)) q ps l f) p m)

pub loop-preserved : goal.loop-preserved
loop-preserved c =
    let s = (goal.at.loop-preserved c).After-one_back-v in
    let i = c.loop.invariant in
    (omega arith, omega (arith, i.1), put s, stepped s _ (λ e. absurd (c.if-v-start.false e)) (λ n. omega arith))

pub returns : goal.returns
unfolding Cycled
returns c =
    let z : c.args.n - c.loop.counter ≡ 0 = omega arith in
    (c.loop.invariant.2, λ q ps l f b p m. circling_done q ps _ _ c.loop.v _ b _ (rw z at (c.loop.invariant.3 q ps l f)) p m)
