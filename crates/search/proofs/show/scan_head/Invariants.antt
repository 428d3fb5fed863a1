-- `scan_head` meets its contract. The invariant: the edges below e of the vertex at the head are scanned.
use Prim.Native.Nat.{◌≤◌, ◌<◌}
use Rattle.model.specs.Case.{Case}
use Rattle.search.specs.Cells.{found_at}
use Rattle.search.specs.Rep.{Laid}
use Rattle.search.specs.Show.{Kept, Searching, Scanning}
use Rattle.search.proofs.show.scan_head.Given as goal

abbrev pub invariant-loop-e : goal.invariant-loop-e
invariant-loop-e l = (l.initial.e ≤ l.e) × Kept found_at l.initial.work l.work × ((c : Case) → Laid c l.initial.work → Searching c l.head 0 l.tail l.initial.work → l.head < l.tail → Scanning c l.head l.v l.e l.last l.work)
