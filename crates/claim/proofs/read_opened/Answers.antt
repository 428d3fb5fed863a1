-- `read_opened` meets its contract: a law for each return. Assumes nothing.
use mathlib.Core.List.{[]}
use Rattle.claim.proofs.Variants.{handed_on}
use Rattle.claim.proofs.JudgeCode.{opened_torn, header_torn, body_torn, body_taken}
use Rattle.claim.proofs.read_opened.Goals as goal

pub read_body-requires : goal.read_body-requires
read_body-requires c = let g = c.in_ok-counts.ensures.1 in record { states_le_most_states = g.few_states; count_le_most_propositions = g.few_propositions; claim_cells_in_bounds = c.requires.claim_cells_in_bounds }

pub returns-in_err-items : goal.returns-in_err-items
returns-in_err-items c = rw (handed_on c.from_residual.ensures) (opened_torn c.args.text.now c.requires.text_value [] [] _ c.in_err-items.ensures)

pub returns-in_err-counts : goal.returns-in_err-counts
returns-in_err-counts c = rw (handed_on c.from_residual-in_err-counts.ensures) (header_torn c.args.text.now c.requires.text_value [] [] _ c.in_ok-items.ensures _ c.in_err-counts.ensures)

pub returns-in_err-read_body : goal.returns-in_err-read_body
returns-in_err-read_body c = rw (handed_on c.from_residual-in_err-read_body.ensures) (body_torn c.args.text.now c.requires.text_value c.args.cells.now [] _ c.in_ok-items.ensures _ _ c.in_ok-counts.ensures _ c.in_err-read_body.ensures)

pub returns : goal.returns
returns c = body_taken c.args.text.now c.requires.text_value c.args.cells.now _ _ c.in_ok-items.ensures _ _ c.in_ok-counts.ensures c.in_ok-read_body.ensures
