-- `casefile::other_version`: line 2's first field, as a number or not.
use Rattle.std.proofs.Common.{rules}
use Rattle.casefile.proofs.Whole.{version_says}
use Rattle.casefile.proofs.other_version.Goals as goal

pub returns : goal.returns
returns c = rw (← version_says c.args.newest c.args.text.now _ c.second_line_field.ensures.bytes, ← c.number_in.ensures) (search rules)
