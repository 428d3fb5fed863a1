-- `labels::no_atom` meets its contract. Assumes nothing.
use Rattle.claim.proofs.Variants.{no_atom_named, no_atom_other}
use borrow.Enum.Refused.{opened}
use Rattle.claim.proofs.labels.no_atom.Goals as goal

pub returns-in-Alias : goal.returns-in-Alias
returns-in-Alias c = no_atom_named c.args.t c.in-Alias.in-Alias-own.keys1

pub returns-in_default : goal.returns-in_default
returns-in_default c = no_atom_other c.args.t (opened c.in_default.in_default-own.keys2)
