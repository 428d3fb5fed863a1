-- `tokens::is_symbol` meets its contract. Assumes nothing.
use mathlib.Core.Path.{sym}
use Rattle.claim.proofs.Variants.{symbol_other}
use borrow.Enum.Refused.{opened}
use Rattle.claim.proofs.tokens.is_symbol.Goals as goal

pub returns-in-Symbol : goal.returns-in-Symbol
returns-in-Symbol c = sym (rw c.in-Symbol.is)

pub returns-in_default : goal.returns-in_default
returns-in_default c = symbol_other c.args.t c.args.b (opened c.in_default.in_default-own.keys2)
