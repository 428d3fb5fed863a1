-- `casefile::judge`: the reader's answer.
use Rattle.casefile.proofs.judge.Goals as goal

pub returns : goal.returns
returns c = c.read_case.ensures.read.answer
