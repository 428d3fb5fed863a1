-- `write_empty` meets its contract: a count, and three writers one after the other.
use Rattle.search.proofs.Answers.{empty_says}
use Rattle.search.proofs.answer.write_empty.Goals as goal

pub returns-clause-empty : goal.returns-clause-empty
returns-clause-empty c = empty_says c.reached-k.ensures c.write_head.ensures.head c.bytes.ensures.writes c.write_vertices.ensures.vertices
