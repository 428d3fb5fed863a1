-- `write_case` meets its contract: four writers, one after the other.
use Rattle.product.proofs.CaseLines.{case_says}
use Rattle.product.proofs.case.write_case.Goals as goal

pub returns-clause-file : goal.returns-clause-file
returns-clause-file c = case_says _ _ _ _ _ c.write_head.ensures.head c.write_vertices.ensures.lines c.bytes.ensures.writes c.write_edges.ensures.lines
