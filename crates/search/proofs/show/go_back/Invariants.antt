-- `go_back` meets its contract. The invariant: as far back from u as is left is where n back from v leads.
use mathlib.Core.Path.{◌≡◌}
use mathlib.Core.List.{List}
use mathlib.Core.Option.{Option}
use Prim.Native.Nat.{ℕ, ◌-◌}
use Rattle.model.specs.Case.{Case}
use Rattle.model.specs.Answer.{back}
use Rattle.search.specs.Show.{Lies, Chained}
use Rattle.search.proofs.show.go_back.Given as goal

abbrev pub invariant-loop : goal.invariant-loop
invariant-loop l = (c : Case) (ps : List (Option ℕ)) → Lies c ps l.work → Chained c.graph ps l.v → (back (l.n - l.counter) c.graph ps l.u ≡ back l.n c.graph ps l.v) × Chained c.graph ps l.u
