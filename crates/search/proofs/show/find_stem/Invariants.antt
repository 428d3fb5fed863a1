-- `find_stem` meets its contract. The invariant: the walks before the head are scanned.
use mathlib.Core.Path.{◌≡◌}
use Prim.Native.Nat.{◌-◌}
use Rattle.model.specs.Case.{Case}
use Rattle.search.specs.Cells.{found_at}
use Rattle.search.specs.Rep.{Laid}
use Rattle.search.specs.Show.{Kept, Searching}
use Rattle.search.proofs.show.find_stem.Given as goal

abbrev pub invariant-loop-head : goal.invariant-loop-head
invariant-loop-head l = Kept found_at l.initial.work l.work × ((c : Case) → Laid c l.initial.work → l.source ≡ c.graph.source → l.n ≡ c.graph.vertices → Searching c l.head 0 l.tail l.work)

abbrev pub decreases-loop-head : goal.decreases-loop-head
decreases-loop-head l = l.n - l.head
