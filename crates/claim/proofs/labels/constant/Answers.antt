-- `labels::constant` meets its contract. Assumes nothing.
use mathlib.Core.Path.{sym}
use Rattle.claim.proofs.labels.constant.Goals as goal

pub returns-then-always : goal.returns-then-always
returns-then-always c = sym (rw c.if-always.true)

pub returns-then-never : goal.returns-then-never
returns-then-never c = sym (rw (c.if-always.false, c.if-never.true))
