-- `checker::check_answer`: the same in numbers.
use Rattle.checker.proofs.Openings.{says}
use Rattle.checker.proofs.check_answer.Goals as goal

pub returns : goal.returns
returns c = says c.check_files.ensures c.into.ensures
