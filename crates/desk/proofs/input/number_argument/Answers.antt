-- An argument that is missing is what no word says.
use Rattle.desk.proofs.Words.{says_none}
use Rattle.desk.proofs.input.number_argument.Goals as goal

pub returns-in_err-size : goal.returns-in_err-size
returns-in_err-size g c = rw c.from_residual.ensures says_none
