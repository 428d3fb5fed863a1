-- `rounds::sweep` meets its contract: the deliveries on edges of the first i vertices of the list are done, and all before these. Assumes nothing.
use mathlib.Core.Path.{◌≡◌}
use mathlib.Core.List.{List}
use Prim.Native.Nat.{ℕ, ◌≤◌}
use lib.ListN.{length}
use Rattle.model.specs.Case.{Case}
use Rattle.model.specs.Run.{State, Moment}
use Rattle.search.specs.Asks.{Listed, Only}
use Rattle.search.specs.Rep.{Firsts, Rep}
use Rattle.search.proofs.Sweeps.{Swept}
use Rattle.search.proofs.run.Run.sweep.Given as goal

abbrev pub invariant-loop-head : goal.invariant-loop-head
invariant-loop-head l = (l.head-index ≤ length l.heads) × (length l.work ≡ length l.initial.work)
    × ((c : Case) (x : State) (F : List ℕ) → Rep c x l.initial.self l.initial.work → Moment c x → l.p ≡ c.workers → Listed c.graph.vertices l.heads (length l.heads) → Only c l.heads (length l.heads) x → Firsts c F → Swept c x F l.heads l.head-index l.self l.work)
