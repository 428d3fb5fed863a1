use mathlib.Core.Path.{◌≡◌}
use Prim.Native.Nat.{ℕ, ◌+◌, ◌-◌, ◌≤◌}
use lib.ListN.{length}
use lib.IntN.{pos, neg_ℤ}
use Rattle.model.specs.Graph.{mark}
use Rattle.model.specs.Case.{Case, owner}
use Rattle.model.specs.Run.{State}
use Rattle.search.specs.Asks.{Room}
use Rattle.search.specs.Rep.{Own, Rep}
use Rattle.search.proofs.Ranges.{Halfway}
use Rattle.search.proofs.run.Run.scan.Given as goal

abbrev pub invariant-loop-e : goal.invariant-loop-e
invariant-loop-e l = (l.e ≤ l.e-end) × (length l.work ≡ length l.initial.work)
    × ((c : Case) (x : State) (o : ℕ) → Rep c x l.initial.self l.initial.work → Own c l.v l.initial.e l.e-end → owner c l.v ≡ l.own → l.offer ≡ neg_ℤ (pos (o + mark c.graph l.v)) → Halfway c x l.v o l.e l.self l.work)
    × (l.initial.e ≤ l.e) × Room (l.e-end - l.e) l.self
