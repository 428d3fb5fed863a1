-- `take_cycle` meets its contract. The invariant: what is written so far, and what is left to go, make the cycle.
use mathlib.Core.List.{List}
use mathlib.Core.Option.{Option}
use Prim.Native.Nat.{ℕ, ◌+◌, ◌-◌, ◌≤◌}
use Rattle.model.specs.Case.{Case}
use Rattle.search.specs.Cells.{cycle_at, cells_end}
use Rattle.search.specs.Show.{Lies, Chained, Kept, Circling}
use Rattle.search.proofs.show.take_cycle.Given as goal

abbrev pub invariant-loop : goal.invariant-loop
invariant-loop l = (cycle_at + (l.n - l.counter) ≤ l.at) × (l.at ≤ cells_end) × Kept cycle_at l.initial.work l.work
    × ((c : Case) (ps : List (Option ℕ)) → Lies c ps l.initial.work → Chained c.graph ps l.start → Circling c ps l.start l.n l.v (l.n - l.counter) l.at l.work)
