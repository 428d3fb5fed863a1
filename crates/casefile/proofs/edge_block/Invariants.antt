-- `casefile::edge_block`: what is left of the block decides as the whole does, and its lines so far stand in the tables.
use Rattle.casefile.proofs.Blocks.{EdgesLeft}
use Rattle.casefile.proofs.Tables.{LinesTaken}
use Rattle.casefile.proofs.edge_block.Given as goal

abbrev pub invariant-loop-e : goal.invariant-loop-e
invariant-loop-e l = EdgesLeft l.text l.at l.case.vertices l.here l.e l.before × LinesTaken l.text l.at 0 1 l.here l.e l.initial.froms l.froms l.initial.tos l.tos
