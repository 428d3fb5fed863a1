-- `queue::none_queued` meets its contract: the queues of the workers before w are empty. Assumes nothing.
use mathlib.Core.Path.{◌≡◌}
use mathlib.Core.List.{[]}
use Prim.Native.Nat.{ℕ, ◌≤◌, ◌<◌}
use lib.ListN.{get_or}
use Rattle.model.specs.Case.{Case}
use Rattle.model.specs.Run.{State}
use Rattle.search.specs.declared.run.Run.{Run}
use Rattle.search.specs.Rep.{Rep}
use Rattle.search.proofs.queue.none_queued.Given as goal

abbrev pub invariant-loop-w : goal.invariant-loop-w
invariant-loop-w l = (l.w ≤ l.p) × ((c : Case) (x : State) (k : Run) → Rep c x k l.work → l.p ≡ c.workers → (j : ℕ) → j < l.w → get_or x.queues j [] ≡ [])
