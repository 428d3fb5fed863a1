-- `finish::write_answer`: either answer.
use Rattle.search.proofs.Ends.{broken_asks, answered_lasso, answered_empty, distances_at}
use Rattle.search.proofs.finish.write_answer.Goals as goal

pub lasso_answer-requires : goal.lasso_answer-requires
lasso_answer-requires c = broken_asks c.requires c.in-Some.is

pub returns-in-Some-clause-answer : goal.returns-in-Some-clause-answer
returns-in-Some-clause-answer c = answered_lasso c.in-Some.is c.lasso_answer.ensures.lasso

pub write_empty-requires : goal.write_empty-requires
write_empty-requires c = distances_at c.requires.gone

pub returns-in-None-clause-answer : goal.returns-in-None-clause-answer
returns-in-None-clause-answer c = answered_empty c.in-None.is c.write_empty.ensures.empty
