-- `checker::check_files`: the case, then the answer against it.
use mathlib.Core.Path.{sym, ◌∙◌}
use native.Mathlib.Omega.{arith}
use Rattle.std.proofs.Common.{rules}
use Rattle.casefile.proofs.Exits.{passed_on}
use Rattle.checker.proofs.Loads.{case_of, room, stands, stands_in}
use Rattle.checker.proofs.Openings.{case_refused, answer_told}
use Rattle.checker.proofs.check_files.Goals as goal

pub returns-in_err-counts : goal.returns-in_err-counts
returns-in_err-counts c = rw (passed_on c.from_residual.ensures.1) (case_refused _ _ (sym c.read_case.ensures.read.answer ∙ c.in_err-counts.was))

pub check_against-requires : goal.check_against-requires
check_against-requires c = room (case_of (sym c.read_case.ensures.read.answer ∙ c.in_ok-counts.was)) (omega arith) (omega arith)

pub returns : goal.returns
returns c =
    answer_told _ (case_of (sym c.read_case.ensures.read.answer ∙ c.in_ok-counts.was)).is_accepted _
    (c.check_against.ensures _ (stands_in (stands c.read_case.ensures.read c.in_ok-counts.was (omega arith) (omega arith) (omega arith)) (search rules) (search rules) (search rules)))
