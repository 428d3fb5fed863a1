-- `body::title` meets its contract. Assumes nothing.
use mathlib.Core.Path.{sym, ◌∙◌}
use native.Mathlib.Omega.{arith}
use lib.ListN.{length-set}
use Rattle.std.specs.Prelude.{Ok, Err}
use Rattle.model.specs.declared.refusal.Refusal.TheVariants.{ClaimGrammar}
use mathlib.Core.List.{[]}
use Rattle.claim.proofs.BodyCode.{quoted_at, title_is, title_broken, title_none, title_past}
use borrow.Enum.Refused.{opened}
use Rattle.claim.proofs.body.title.Goals as goal

pub title_fits-requires : goal.title_fits-requires
title_fits-requires c = let q = quoted_at c.claim_token-token.ensures _ _ c.in-Text.is in record { a_le_e = q.ahead; e_in_bounds = q.inside }

pub returns-then-not-title_fits : goal.returns-then-not-title_fits
returns-then-not-title_fits c = title_past c.past_blanks-here.ensures _ (Err ClaimGrammar) [] [] (title_broken c.claim_token-token.ensures _ _ _ c.in-Text.is (sym c.title_fits.ensures ∙ c.if-not-title_fits.true))

pub overflow_cast-cells : goal.overflow_cast-cells
overflow_cast-cells c = let q = quoted_at c.claim_token-token.ensures _ _ c.in-Text.is in omega (arith, q.ahead, q.looked_at)

pub overflow_sub-cells : goal.overflow_sub-cells
overflow_sub-cells c = let q = quoted_at c.claim_token-token.ensures _ _ c.in-Text.is in q.ahead

pub overflow_cast-cells-2 : goal.overflow_cast-cells-2
overflow_cast-cells-2 c = let q = quoted_at c.claim_token-token.ensures _ _ c.in-Text.is in omega (arith, q.ahead, q.looked_at)

pub bounds-cells-c-2 : goal.bounds-cells-c-2
bounds-cells-c-2 c = rw (length-set c.args.cells.now _ _) (omega (arith, c.requires.c_lt_most_states, c.requires.claim_cells_in_bounds))

pub returns : goal.returns
returns c = title_past c.past_blanks-here.ensures _ (Ok _) _ _ (title_is c.claim_token-token.ensures _ _ _ c.in-Text.is (sym c.title_fits.ensures ∙ c.if-not-title_fits.false) c.requires.c_lt_most_states _ c.requires.claim_cells_in_bounds)

pub returns-in_default : goal.returns-in_default
returns-in_default c = title_past c.past_blanks-here.ensures _ (Ok _) _ _ (title_none c.claim_token-token.ensures _ (opened c.in_default.in_default-own.keys2) _)
