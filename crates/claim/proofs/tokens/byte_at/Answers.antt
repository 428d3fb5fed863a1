-- `tokens::byte_at` meets its contract. Assumes nothing.
use mathlib.Core.Path.{sym}
use borrow.Author.Tests.{lt-ltb, le-ltb}
use Rattle.claim.specs.Reads.{byte_of}
use Rattle.claim.proofs.tokens.byte_at.Goals as goal

pub returns-then-at-min : goal.returns-then-at-min
unfolding byte_of
returns-then-at-min c = sym (rw (lt-ltb _ _ (rw c.min.ensures at c.if-at-min.true)))

pub returns-else-at-min : goal.returns-else-at-min
unfolding byte_of
returns-else-at-min c = sym (rw (le-ltb _ _ (rw c.min.ensures at c.if-at-min.false)))
