-- `checker::check_against`: the opening, then the rest against the graph that the version means.
use mathlib.Core.Path.{sym}
use Rattle.casefile.proofs.Exits.{passed_on}
use Rattle.checker.proofs.RestLoops.{stands_tables}
use Rattle.checker.proofs.Openings.{opening_told, lasso_told, empty_told}
use Rattle.checker.proofs.check_against.Goals as goal

pub returns-in_err-head : goal.returns-in_err-head
returns-in_err-head c = rw (passed_on c.from_residual.ensures.1) (λ g s. opening_told g _ (sym c.in_err-head.ensures))

pub check_lasso-requires : goal.check_lasso-requires
check_lasso-requires c = (sym c.in_ok-head.ensures, c.in-Lasso.is)

pub returns-in-Lasso : goal.returns-in-Lasso
returns-in-Lasso c = λ g s. lasso_told g _ (sym c.in_ok-head.ensures) c.in-Lasso.is (c.check_lasso.ensures _ (stands_tables (c.meant.ensures.stands g _ s)))

pub check_empty-requires : goal.check_empty-requires
check_empty-requires c = (sym c.in_ok-head.ensures, c.in-Empty.is, rw c.meant.ensures.vertices c.requires.few_vertices)

pub returns-in-Empty : goal.returns-in-Empty
returns-in-Empty c = λ g s. empty_told g _ (sym c.in_ok-head.ensures) c.in-Empty.is (c.check_empty.ensures _ (stands_tables (c.meant.ensures.stands g _ s)))
