-- `tokens::name_end` meets its contract: only bytes of a name are passed. Assumes nothing.
use mathlib.Core.Path.{refl, sym, ◌∙◌}
use Rattle.claim.proofs.Lexing.{name_more}
use native.Mathlib.Omega.{arith}
use Rattle.claim.proofs.tokens.name_end.Goals as goal

pub loop-e-init : goal.loop-e-init
loop-e-init c = (refl, omega arith, omega arith)

pub loop-e-preserved : goal.loop-e-preserved
loop-e-preserved c = (c.loop-e.invariant.0 ∙ name_more _ _ _ _ c.loop-e.invariant.1 (omega arith) (omega arith) (sym c.name_byte.ensures ∙ c.if-name_byte.true), omega arith, omega arith)

pub returns-else-name_byte : goal.returns-else-name_byte
returns-else-name_byte c = record { same = c.loop-e.invariant.0; ahead = c.loop-e.invariant.1; inside = c.loop-e.invariant.2; stops = λ h g. sym c.name_byte.ensures ∙ c.if-name_byte.false }

pub returns : goal.returns
returns c = record { same = c.loop-e.invariant.0; ahead = c.loop-e.invariant.1; inside = c.loop-e.invariant.2; stops = λ h g. absurd (omega arith) }
