-- `add_mask` meets its contract: at each turn t bits are read.
use Rattle.std.proofs.lemmas.Result.{err_from_is_err_and}
use Rattle.product.proofs.EdgeTables.{mask_start, mask_none, mask_one, mask_full, mask_empty}
use Rattle.product.proofs.edges.add_mask.Goals as goal
use Rattle.product.proofs.edges.add_mask.Goals.{then-mask-t-eq1+in_ok-push, else-mask-t-eq1}

pub returns-then-mask-eq0 : goal.returns-then-mask-eq0
returns-then-mask-eq0 c = mask_empty _ _ _ _ c.if-mask-eq0.true

pub loop-t-init : goal.loop-t-init
loop-t-init c = mask_start _ _ _ _ _

pub returns-in_err-push : goal.returns-in_err-push
returns-in_err-push c =
    let p = err_from_is_err_and c.from_residual.result c.from_residual.ensures.1 in
    rw (p.1, p.2) (mask_full c.loop-t.invariant c.loop-t-test.true c.if-mask-t-eq1.true (c.in_err-push.ensures {u = tt}))

pub loop-t-preserved : goal.loop-t-preserved
loop-t-preserved c =
    elim c.if-mask-t-eq1.branch [
      | then-mask-t-eq1+in_ok-push w ↦ rw w.edges-is (mask_one c.loop-t.invariant c.loop-t-test.true w.if-mask-t-eq1.true (w.in_ok-push.ensures {u = tt}))
      | else-mask-t-eq1 w ↦ rw w.edges-is (mask_none c.loop-t.invariant c.loop-t-test.true w.if-mask-t-eq1.false)
    ]
