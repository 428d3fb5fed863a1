-- `tokens::token_at` meets its contract. Assumes nothing.
use Rattle.claim.proofs.Lexing.{blanks_done, blanks_cut, blanks_then}
use Rattle.claim.proofs.tokens.token_at.Goals as goal

pub returns-then-text-e : goal.returns-then-text-e
returns-then-text-e c = blanks_done c.blanks_end-e.ensures c.if-text-e.true

pub returns-then-limit-e : goal.returns-then-limit-e
returns-then-limit-e c = blanks_cut c.blanks_end-e.ensures c.if-text-e.false c.if-limit-e.true

pub token_from-requires : goal.token_from-requires
token_from-requires c = record { at_in_bounds = c.if-text-e.false; at_lt_limit = c.if-limit-e.false; at_value = c.blanks_end-e.ensures.stops c.if-text-e.false c.if-limit-e.false }

pub returns : goal.returns
returns c = blanks_then c.blanks_end-e.ensures c.token_from.ensures
