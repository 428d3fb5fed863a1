-- `header::skipped_end` meets its contract: only what is skipped is passed. Assumes nothing.
use mathlib.Core.Path.{sym, ◌∙◌}
use native.Mathlib.Omega.{arith}
use Rattle.claim.proofs.Skipping.{passed_none, passed_again, passed_ahead, passed_ended}
use Rattle.claim.proofs.header.skipped_end.Goals as goal

pub loop-at-init : goal.loop-at-init
loop-at-init c = passed_none _ _

pub returns-then-not-is_passed : goal.returns-then-not-is_passed
returns-then-not-is_passed c = passed_ended c.loop-at.invariant c.name_or_token-token.ensures (sym c.is_passed.ensures ∙ c.if-not-is_passed.true)

pub loop-at-smaller : goal.loop-at-smaller
loop-at-smaller c = let h = passed_ahead c.loop-at.invariant c.name_or_token-token.ensures (sym c.is_passed.ensures ∙ c.if-not-is_passed.false) in omega (arith, h.more, h.inside)

pub loop-at-preserved : goal.loop-at-preserved
loop-at-preserved c = passed_again c.loop-at.invariant c.name_or_token-token.ensures (sym c.is_passed.ensures ∙ c.if-not-is_passed.false)
