-- `Writer::written` meets its contract.
use mathlib.Core.Path.{refl}
use borrow.Author.Tests.{le-leb, lt-leb}
use Rattle.text.specs.Writing.{front}
use Rattle.text.proofs.write.Writer.written.Goals as goal

pub returns-in_default : goal.returns-in_default
unfolding front
returns-in_default c = rw c.in_default.is refl

pub returns-then-self-end : goal.returns-then-self-end
unfolding front
returns-then-self-end c = rw (c.in-Some.is, lt-leb _ _ c.if-self-end.true) refl

pub returns : goal.returns
unfolding front
returns c = rw (c.in-Some.is, le-leb _ _ c.if-self-end.false) refl
