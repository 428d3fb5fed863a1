-- `header::is_passed` meets its contract. Assumes nothing.
use mathlib.Core.Path.{◌∙◌}
use Rattle.claim.proofs.Skipping.{passed_plain, passed_header, passed_other}
use borrow.Enum.Refused.{opened}
use Rattle.claim.proofs.header.is_passed.Goals as goal

pub returns-in-Name : goal.returns-in-Name
returns-in-Name c = passed_plain _ c.args.t c.in-Name.in-Name-own.keys1

pub returns-in-Header : goal.returns-in-Header
returns-in-Header c = c.is_ascii_lowercase.ensures.value ∙ passed_header _ c.args.t _ _ _ c.in-Header.is c.first_byte.ensures

pub returns-in_default : goal.returns-in_default
returns-in_default c = passed_other _ c.args.t (opened c.in_default.in_default-own.keys3)
