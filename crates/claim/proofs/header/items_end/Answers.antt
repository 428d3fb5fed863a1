-- `header::items_end` meets its contract. Assumes nothing.
use mathlib.Core.Path.{sym, ap, ◌∙◌}
use mathlib.Core.Bool.{true, false}
use Rattle.std.specs.Prelude.{Ok, Err}
use Rattle.claim.proofs.Variants.{handed_on}
use Rattle.claim.proofs.HeaderLoop.{body_is, body_not}
use borrow.Enum.Refused.{opened}
use Rattle.claim.proofs.header.items_end.Goals as goal

pub returns-in_err-counted-in-Body : goal.returns-in_err-counted-in-Body
returns-in_err-counted-in-Body c = rw (handed_on c.from_residual.ensures) (body_is _ _ _ _ c.in-Body.is (Err _) c.in_err-counted-in-Body.ensures)

pub returns-in_ok-counted-in-Body : goal.returns-in_ok-counted-in-Body
returns-in_ok-counted-in-Body c = body_is _ _ _ _ c.in-Body.is (Ok _) c.in_ok-counted-in-Body.ensures

pub returns-then-continues : goal.returns-then-continues
returns-then-continues c = body_not _ _ _ c.args.t (opened c.in_default.in_default-own.keys2) true (sym c.if-continues.true ∙ c.continues.ensures)

pub returns-else-continues : goal.returns-else-continues
returns-else-continues c = ap Err c.fault.ensures ∙ body_not _ _ _ c.args.t (opened c.in_default.in_default-own.keys2) false (sym c.if-continues.false ∙ c.continues.ensures)
