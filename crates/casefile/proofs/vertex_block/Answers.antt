-- `casefile::vertex_block`: what is left of the block decides as the whole does, and its lines so far stand in the tables.
use native.Mathlib.Omega.{arith}
use mathlib.Core.Path.{refl, sym}
use lib.Dec.{lit<}
use Rattle.text.proofs.Reading.{row_read, row_fault}
use Rattle.model.specs.Refusals.{refusal_of}
use Rattle.casefile.proofs.Exits.{none_there}
use Rattle.casefile.proofs.Blocks.{vertices_start, vertices_clean, vertices_torn, vertices_wrong, vertices_more}
use Rattle.casefile.proofs.Tables.{lines_start, lines_more, block_stops, block_ends}
use Rattle.casefile.proofs.vertex_block.Goals as goal

pub loop-v-init : goal.loop-v-init
loop-v-init c = (vertices_start _ _ _, lines_start _ _ _ _ _ _)

pub returns-in_err-row : goal.returns-in_err-row
unfolding refusal_of
returns-in_err-row c =
    let g = c.loop-v.invariant in
    let n = none_there c.from_residual.ensures.1 c.in_err-row.ensures.value in
    rw n.1 (block_stops g.1 (vertices_clean g.0) (omega arith) refl (vertices_torn g.0 (row_fault 3 _ _ c.numbers_row.ensures n.0)))

pub returns-then-not-vertex_right : goal.returns-then-not-vertex_right
unfolding refusal_of
returns-then-not-vertex_right c =
    let g = c.loop-v.invariant in
    let row = row_read 3 c.numbers_row.ensures c.in_ok-row.ensures.ok_part in
    block_stops g.1 (vertices_clean g.0) (omega arith) refl (vertices_wrong g.0 row (sym c.if-not-vertex_right.ensures))

pub loop-v-preserved : goal.loop-v-preserved
loop-v-preserved c =
    let g = c.loop-v.invariant in
    let row = row_read 3 c.numbers_row.ensures c.in_ok-row.ensures.ok_part in
    let right = sym c.if-not-vertex_right.ensures in
    rw (c.put-in-loop-v.ensures, c.put.ensures)
    (vertices_more g.0 row right, lines_more g.1 row c.loop-v.auto.marks c.loop-v.auto.owners (lit< tt) (lit< tt))

pub returns : goal.returns
returns c = let g = c.loop-v.invariant in block_ends g.1 (vertices_clean g.0) (omega arith)
