-- `tokens::name_from` meets its contract. Assumes nothing.
use Rattle.claim.proofs.Lexing.{name_last, name_cut, name_header, name_whole}
use Rattle.claim.proofs.tokens.name_from.Goals as goal

pub returns-then-text-e : goal.returns-then-text-e
returns-then-text-e c = name_last c.name_end-e.ensures c.if-text-e.true

pub returns-then-limit-e : goal.returns-then-limit-e
returns-then-limit-e c = name_cut c.name_end-e.ensures c.if-text-e.false c.if-limit-e.true

pub returns-then-text-e-eq58 : goal.returns-then-text-e-eq58
returns-then-text-e-eq58 c = name_header c.name_end-e.ensures c.if-text-e.false c.if-limit-e.false c.if-text-e-eq58.true

pub returns : goal.returns
returns c = name_whole c.name_end-e.ensures c.if-text-e.false c.if-limit-e.false c.if-text-e-eq58.false
