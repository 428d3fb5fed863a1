-- `tokens::blanks_end` meets its contract: only blanks are passed. Assumes nothing.
use mathlib.Core.Path.{refl, sym, ◌∙◌}
use native.Mathlib.Omega.{arith}
use Rattle.claim.proofs.Lexing.{blank_more}
use Rattle.claim.proofs.tokens.blanks_end.Goals as goal

pub loop-e-init : goal.loop-e-init
loop-e-init c = (refl, omega arith, λ h. h)

pub loop-e-preserved : goal.loop-e-preserved
loop-e-preserved c = (c.loop-e.invariant.0 ∙ blank_more _ _ _ (omega arith) (omega arith) (sym c.blank.ensures ∙ c.if-not-blank.false), omega arith, λ h. omega arith)

pub returns-then-not-blank : goal.returns-then-not-blank
returns-then-not-blank c = record { same = c.loop-e.invariant.0; ahead = c.loop-e.invariant.1; inside = c.loop-e.invariant.2; stops = λ h g. sym c.blank.ensures ∙ c.if-not-blank.true }

pub returns : goal.returns
returns c = record { same = c.loop-e.invariant.0; ahead = c.loop-e.invariant.1; inside = c.loop-e.invariant.2; stops = λ h g. absurd (omega arith) }
