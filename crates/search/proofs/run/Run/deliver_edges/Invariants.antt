use mathlib.Core.Path.{◌≡◌}
use Prim.Native.Nat.{◌+◌, ◌≤◌}
use lib.ListN.{length}
use Rattle.model.specs.Case.{Case}
use Rattle.model.specs.Run.{State, Moment}
use Rattle.search.specs.Rep.{Rep}
use Rattle.search.proofs.Sweeps.{Along}
use Rattle.search.proofs.run.Run.deliver_edges.Given as goal

abbrev pub invariant-loop-e : goal.invariant-loop-e
invariant-loop-e l = (length l.work ≡ length l.initial.work)
    × ((c : Case) (x : State) → Rep c x l.initial.self l.initial.work → Moment c x → l.p ≡ c.workers → l.end ≤ c.file_edges → Along c x (l.p + l.initial.e) (l.p + l.end) (l.p + l.e) l.self l.work)
