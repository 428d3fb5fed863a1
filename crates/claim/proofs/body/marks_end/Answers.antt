-- `body::marks_end` meets its contract: the numbers so far are the mark's. Assumes nothing.
use mathlib.Core.Path.{refl, sym, ◌∙◌}
use native.Mathlib.Omega.{arith}
use Rattle.claim.specs.declared.tokens.Token.TheVariants.{Number}
use Rattle.claim.proofs.Seeing.{goes_past}
use Rattle.claim.proofs.BodyCode.{marks_begun, marks_more, marks_other, marks_closed, marks_none}
use borrow.Enum.Refused.{opened}
use Rattle.claim.proofs.body.marks_end.Goals as goal

pub loop-v-init : goal.loop-v-init
loop-v-init c = marks_begun _ _

pub returns-then-is_symbol : goal.returns-then-is_symbol
returns-then-is_symbol c = marks_closed c.loop-v.invariant c.claim_token-token.ensures (sym c.is_symbol.ensures ∙ c.if-is_symbol.true)

pub returns-in_default : goal.returns-in_default
returns-in_default c = marks_none c.loop-v.invariant c.claim_token-token.ensures (opened c.in_default.in_default-own.keys2) (sym c.is_symbol.ensures ∙ c.if-is_symbol.false) _ c.fault.ensures

pub returns-then-v-ne0 : goal.returns-then-v-ne0
returns-then-v-ne0 c = marks_other c.loop-v.invariant c.claim_token-token.ensures _ c.in-Number.is c.if-v-ne0.true

pub loop-v-smaller : goal.loop-v-smaller
loop-v-smaller c = let h = goes_past c.claim_token-token.ensures (Number _) c.in-Number.is refl in omega (arith, h.more, h.inside)

pub loop-v-preserved : goal.loop-v-preserved
loop-v-preserved c = marks_more c.loop-v.invariant c.claim_token-token.ensures _ c.in-Number.is c.if-v-ne0.false
