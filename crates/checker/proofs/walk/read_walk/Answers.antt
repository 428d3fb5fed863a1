-- `checker::walk::read_walk`: what is left of the lines decides as the whole does.
use native.Mathlib.Omega.{arith}
use Rattle.text.proofs.Reading.{row_read, row_fault}
use Rattle.casefile.proofs.Exits.{none_there}
use Rattle.checker.proofs.Walks.{after, walking_start, walking_end, walking_torn, walking_out, walking_on}
use Rattle.checker.proofs.walk.read_walk.Goals as goal

pub loop-init : goal.loop-init
loop-init c = walking_start _ _ _ _ _

pub returns-in_err-row : goal.returns-in_err-row
returns-in_err-row c =
    let n = none_there c.from_residual.ensures.1 c.in_err-row.ensures.value in
    rw n.1 (walking_torn c.loop.invariant (omega arith) (row_fault 1 _ _ c.numbers_row.ensures n.0))

pub returns-then-graph-e : goal.returns-then-graph-e
returns-then-graph-e c = walking_out c.loop.invariant (omega arith) (row_read 1 c.numbers_row.ensures c.in_ok-row.ensures.ok_part) c.if-graph-e.true

pub loop-preserved : goal.loop-preserved
unfolding after
loop-preserved c =
    rw (c.cell-in-loop.ensures, c.cell.ensures, c.cell-from.ensures)
    (walking_on c.loop.invariant (omega arith) (row_read 1 c.numbers_row.ensures c.in_ok-row.ensures.ok_part) c.if-graph-e.false)

pub returns : goal.returns
returns c = walking_end c.loop.invariant (omega arith)
