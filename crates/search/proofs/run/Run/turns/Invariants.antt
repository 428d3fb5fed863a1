-- `rounds::turns` meets its contract: the workers before w have had their turns, and every message is on an edge of a vertex in the list. Assumes nothing.
use mathlib.Core.Path.{◌≡◌}
use mathlib.Core.Bool.{true}
use Prim.Native.Nat.{◌≤◌}
use lib.ListN.{length}
use Rattle.model.specs.Case.{Case}
use Rattle.model.specs.Run.{State, no_message, Moment}
use Rattle.search.specs.Rep.{Rep}
use Rattle.search.proofs.Sweeps.{Turning}
use Rattle.search.proofs.run.Run.turns.Given as goal

abbrev pub invariant-loop-w : goal.invariant-loop-w
invariant-loop-w l = (l.w ≤ l.p) × (l.scanned ≤ l.w) × (length l.work ≡ length l.initial.work) × (length l.heads ≡ length l.initial.heads)
    × ((c : Case) (x : State) → Rep c x l.initial.self l.initial.work → Moment c x → l.p ≡ c.workers → no_message x.cells ≡ true → l.p ≤ length l.initial.heads → Turning c x l.p l.heads l.scanned l.w l.self l.work)
