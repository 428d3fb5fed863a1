-- `add_row` meets its contract: at each turn so many masks are read.
use Rattle.std.proofs.lemmas.Result.{err_from_is_err_and}
use Rattle.product.proofs.EdgeTables.{row_first, row_next, row_full}
use Rattle.product.proofs.edges.add_row.Goals as goal

pub loop-mask-init : goal.loop-mask-init
loop-mask-init c = row_first _ _ _ _

pub returns-in_err-add_mask : goal.returns-in_err-add_mask
returns-in_err-add_mask c =
    let p = err_from_is_err_and c.from_residual.result c.from_residual.ensures.1 in
    rw (p.1, p.2) (row_full c.loop-mask.invariant c.loop-mask-test.true (c.in_err-add_mask.ensures {u = tt}))

pub loop-mask-preserved : goal.loop-mask-preserved
loop-mask-preserved c = row_next c.loop-mask.invariant c.loop-mask-test.true c.requires.1 (c.in_ok-add_mask.ensures {u = tt})
