-- `casefile::vertex_block`: what is left of the block decides as the whole does, and its lines so far stand in the tables.
use Rattle.casefile.proofs.Blocks.{VerticesLeft}
use Rattle.casefile.proofs.Tables.{LinesTaken}
use Rattle.casefile.proofs.vertex_block.Given as goal

abbrev pub invariant-loop-v : goal.invariant-loop-v
invariant-loop-v l = VerticesLeft l.text l.at l.case.workers l.here l.v × LinesTaken l.text l.at 1 2 l.here l.v l.initial.marks l.marks l.initial.owners l.owners
