-- `casefile::edge_block`: what is left of the block decides as the whole does, and its lines so far stand in the tables.
use native.Mathlib.Omega.{arith}
use mathlib.Core.Path.{◌≡◌, refl, sym}
use mathlib.Core.Bool.{false, ◌&&◌, and-false}
use borrow.Author.Tests.{le-ltb}
use lib.Dec.{ltb, lit<}
use lib.ListN.{get_or}
use Rattle.text.proofs.Reading.{row_read, row_fault}
use Rattle.model.specs.Refusals.{refusal_of}
use Rattle.casefile.proofs.Exits.{none_there}
use Rattle.casefile.proofs.Blocks.{edges_start, edges_clean, edges_torn, edges_out, edges_back, edges_more}
use Rattle.casefile.proofs.Tables.{lines_start, lines_more, block_stops, block_ends}
use Rattle.casefile.proofs.edge_block.Goals as goal
use Rattle.casefile.proofs.edge_block.Goals.{then-case-from-via-then-case-from, then-case-from-via-else-case-from+then-case-to}

pub loop-e-init : goal.loop-e-init
loop-e-init c = (edges_start _ _ _, lines_start _ _ _ _ _ _)

pub returns-in_err-row : goal.returns-in_err-row
unfolding refusal_of
returns-in_err-row c =
    let g = c.loop-e.invariant in
    let n = none_there c.from_residual.ensures.1 c.in_err-row.ensures.value in
    rw n.1 (block_stops g.1 (edges_clean g.0) (omega arith) refl (edges_torn g.0 (row_fault 2 _ _ c.numbers_row.ensures n.0)))

pub returns-then-case-from : goal.returns-then-case-from
unfolding refusal_of
returns-then-case-from c =
    let g = c.loop-e.invariant in
    let row = row_read 2 c.numbers_row.ensures c.in_ok-row.ensures.ok_part in
    let out = elim c.then-case-from.branch as (λ _. (ltb (get_or c.in_ok-row.row.numbers 0 0) c.args.case.vertices && ltb (get_or c.in_ok-row.row.numbers 1 0) c.args.case.vertices) ≡ false) [
      | then-case-from-via-then-case-from w ↦ rw (le-ltb _ _ w.if-case-from.true)
      | then-case-from-via-else-case-from+then-case-to w ↦ rw (le-ltb _ _ w.if-case-to.true, and-false)
    ] in
    block_stops g.1 (edges_clean g.0) (omega arith) refl (edges_out g.0 row out)

pub returns-then-not-rising : goal.returns-then-not-rising
unfolding refusal_of
returns-then-not-rising c =
    let g = c.loop-e.invariant in
    let row = row_read 2 c.numbers_row.ensures c.in_ok-row.ensures.ok_part in
    block_stops g.1 (edges_clean g.0) (omega arith) refl (edges_back g.0 row (omega arith) (omega arith) (sym c.if-not-rising.ensures))

pub loop-e-preserved : goal.loop-e-preserved
loop-e-preserved c =
    let g = c.loop-e.invariant in
    let row = row_read 2 c.numbers_row.ensures c.in_ok-row.ensures.ok_part in
    let rises = sym c.if-not-rising.ensures in
    rw (c.put-in-loop-e.ensures, c.put.ensures)
    (edges_more g.0 row (omega arith) (omega arith) rises, lines_more g.1 row c.loop-e.auto.froms c.loop-e.auto.tos (lit< tt) (lit< tt))

pub returns : goal.returns
returns c = let g = c.loop-e.invariant in block_ends g.1 (edges_clean g.0) (omega arith)
