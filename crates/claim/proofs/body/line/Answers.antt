-- `body::line` meets its contract: a law for each return. Assumes nothing.
use mathlib.Core.List.{[]}
use native.Mathlib.Omega.{arith}
use Rattle.claim.proofs.Variants.{handed_on}
use Rattle.claim.proofs.BodyWhole.{line_broken, line_whole}
use Rattle.claim.proofs.body.line.Goals as goal

pub returns-in_err-c : goal.returns-in_err-c
returns-in_err-c c = rw (handed_on c.from_residual.ensures) (λ is ls en ek listed. c.in_err-c.ensures is ls en listed)

pub line_rest-requires : goal.line_rest-requires
line_rest-requires c = let h = c.in_ok-c.ensures.1 in record { states_le_most_states = c.requires.states_le_most_states; count_le_most_propositions = c.requires.count_le_most_propositions; c_lt_most_states = omega (arith, h, c.requires.states_le_most_states); claim_cells_in_bounds = c.requires.claim_cells_in_bounds }

pub returns-in_err-end : goal.returns-in_err-end
returns-in_err-end c = let a = c.args in rw (handed_on c.from_residual-in_err-end.ensures) (line_broken a.text.now a.states a.count a.listed a.at a.cells.now [] _ _ c.in_ok-c.ensures _ c.in_err-end.ensures)

pub returns : goal.returns
returns c = let a = c.args in line_whole a.text.now a.states a.count a.listed a.at a.cells.now _ _ _ c.in_ok-c.ensures _ c.in_ok-end.ensures
