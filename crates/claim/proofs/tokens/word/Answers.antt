-- `tokens::word` meets its contract. Assumes nothing.
use Rattle.claim.proofs.Lexing.{word_there, word_past}
use borrow.Author.Tests.{lt-leb}
use Rattle.claim.proofs.tokens.word.Goals as goal

pub returns-then-a-stop : goal.returns-then-a-stop
returns-then-a-stop c = word_there _ _ _ _ c.min-stop.ensures c.eq.ensures

pub returns-else-a-stop : goal.returns-else-a-stop
returns-else-a-stop c = rw (lt-leb _ _ c.if-a-stop.false) (word_past _ _ _ _ c.min-stop.ensures c.if-a-stop.false c.requires)
