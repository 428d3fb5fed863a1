-- `write_lasso` meets its contract: four writers, one after the other.
use Rattle.search.proofs.Answers.{lasso_says}
use Rattle.search.proofs.answer.write_lasso.Goals as goal

pub returns-clause-lasso : goal.returns-clause-lasso
returns-clause-lasso c = lasso_says c.write_head.ensures.head c.bytes.ensures.writes c.write_edges.ensures.edges c.write_edges-2.ensures.edges
