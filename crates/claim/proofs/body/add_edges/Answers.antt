-- `body::add_edges` meets its contract: a target a turn. Assumes nothing.
use mathlib.Core.List.{[]}
use native.Mathlib.Omega.{arith}
use borrow.Author.Tests.{eq-eqb, ne_eqb}
use Rattle.std.proofs.lemmas.List.{get_or_default}
use Rattle.model.specs.ClaimLabels.{bit}
use Rattle.claim.specs.LabelSays.{nothing}
use Rattle.claim.proofs.MoveCode.{spread_none, spread_past, spread_more, all_led}
use Rattle.claim.proofs.body.add_edges.Goals as goal

pub loop-d-init : goal.loop-d-init
loop-d-init c = spread_none _ _ _ _

pub loop-d-preserved-then-leads-d-ne1 : goal.loop-d-preserved-then-leads-d-ne1
unfolding bit
loop-d-preserved-then-leads-d-ne1 c = spread_past c.loop-d.invariant c.loop-d-test.true (ne_eqb _ 1 c.if-leads-d-ne1.true)

pub loop-d-preserved : goal.loop-d-preserved
unfolding bit
loop-d-preserved c = spread_more c.loop-d.invariant _ c.loop-d-test.true (eq-eqb _ 1 c.if-leads-d-ne1.false) c.add_moves.auto.cells (get_or_default c.args.sets.now c.loop-d.d (record { words = [] }) nothing (omega (arith, c.requires.sets_in_bounds, c.loop-d-test.true))) c.add_moves.ensures

pub returns : goal.returns
returns c = let i = c.loop-d.invariant in all_led i c.requires.c_lt_most_states (omega (arith, c.requires.claim_cells_in_bounds, i.long)) c.loop-d-test.false c.requires.by_index
