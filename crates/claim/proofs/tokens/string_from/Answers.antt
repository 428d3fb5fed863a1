-- `tokens::string_from` meets its contract: the string up to a place that follows no backslash. Assumes nothing.
use Rattle.claim.proofs.Lexing.{string_none, string_more, string_escape, string_whole, string_torn}
use native.Mathlib.Omega.{arith}
use Rattle.claim.proofs.tokens.string_from.Goals as goal

pub loop-e-init : goal.loop-e-init
loop-e-init c = string_none _ _ _

pub returns-then-b-eq34 : goal.returns-then-b-eq34
returns-then-b-eq34 c = string_whole c.loop-e.invariant (omega arith) (omega arith) c.if-b-eq34.true

pub loop-e-preserved-then-b-eq92 : goal.loop-e-preserved-then-b-eq92
loop-e-preserved-then-b-eq92 c = string_escape c.loop-e.invariant (omega arith) (omega arith) c.if-b-eq34.false c.if-b-eq92.true

pub loop-e-preserved : goal.loop-e-preserved
loop-e-preserved c = string_more c.loop-e.invariant (omega arith) (omega arith) c.if-b-eq34.false c.if-b-eq92.false

pub returns : goal.returns
returns c = string_torn c.loop-e.invariant (omega arith)
