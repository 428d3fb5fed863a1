-- `checker::loops::rest_loops`: the marks, then the loops.
use Rattle.model.specs.Case.{most_vertices}
use Rattle.checker.proofs.RestLoops.{unmarked}
use Rattle.checker.proofs.loops.rest_loops.Goals as goal

pub mark_starts-requires : goal.mark_starts-requires
mark_starts-requires c = record { none = unmarked most_vertices }
