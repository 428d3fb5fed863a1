-- `tokens::name_or_token` meets its contract: past the blanks a letter begins a name. Assumes nothing.
use mathlib.Core.Path.{sym, ap, ◌∙◌}
use Rattle.model.specs.ClaimTokens.{is_letter}
use Rattle.claim.proofs.Lexing.{first_letter, blanks_then}
use Rattle.claim.proofs.Signs.{byte_inside}
use Rattle.claim.proofs.tokens.name_or_token.Goals as goal

pub name_from-requires : goal.name_from-requires
name_from-requires c = (byte_inside _ _ _ (sym c.in-Some.ensures)).0

pub returns-then-letter : goal.returns-then-letter
returns-then-letter c =
    let (h, g, b) = byte_inside _ _ _ (sym c.in-Some.ensures) in
    blanks_then c.past_blanks-e.ensures (first_letter h g (c.past_blanks-e.ensures.stops h g) (ap is_letter b ∙ (sym c.letter.ensures ∙ c.if-letter.true)) c.name_from.ensures)
