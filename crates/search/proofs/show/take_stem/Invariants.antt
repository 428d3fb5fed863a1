-- `take_stem` meets its contract. The invariant: the walk to the marked vertex, and the edges that are written, make the stem.
use Rattle.model.specs.Case.{Case}
use Rattle.search.specs.Cells.{stem_at}
use Rattle.search.specs.Rep.{Laid}
use Rattle.search.specs.Show.{Kept, Grown, Stemming}
use Rattle.search.proofs.show.take_stem.Given as goal

abbrev pub invariant-loop-found : goal.invariant-loop-found
invariant-loop-found l = Kept stem_at l.initial.work l.work × ((c : Case) → Laid c l.initial.work → Grown c l.goal l.initial.work → Stemming c l.goal l.found l.at l.work)

abbrev pub decreases-loop-found : goal.decreases-loop-found
decreases-loop-found l = l.at
