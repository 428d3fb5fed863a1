-- `read_both` meets its contract: the chart, then the claim, then their counts.
use native.Mathlib.Omega.{arith}
use Rattle.std.proofs.lemmas.Result.{err_from_is_err_and}
use Rattle.product.proofs.BothRead.{chart_no, claim_refused, counts_refused, few_flags, source_fits, both_held}
use Rattle.product.proofs.both.read_both.Goals as goal

pub returns-in_err-chart : goal.returns-in_err-chart
returns-in_err-chart c =
    let p = err_from_is_err_and c.from_residual.result c.from_residual.ensures.1 in
    rw (p.1, p.2) (chart_no _ _ _ (c.in_err-chart.ensures {u = tt}))

pub returns-in_err-claim : goal.returns-in_err-claim
returns-in_err-claim c =
    let p = err_from_is_err_and c.from_residual-in_err-claim.result c.from_residual-in_err-claim.ensures.1 in
    rw (p.1, p.2) (claim_refused _ _ (c.in_ok-chart.ensures {u = tt}) (c.in_err-claim.ensures {u = tt}))

pub returns-then-claim-chart : goal.returns-then-claim-chart
returns-then-claim-chart c = rw c.from.ensures (counts_refused _ _ (c.in_ok-chart.ensures {u = tt}) (c.in_ok-claim.ensures {u = tt}) c.if-claim-chart.true)

pub overflow_mul-result : goal.overflow_mul-result
overflow_mul-result c = omega (arith, source_fits _ _ (c.in_ok-chart.ensures {u = tt}) (c.in_ok-claim.ensures {u = tt}))

pub overflow_add-result : goal.overflow_add-result
overflow_add-result c = omega (arith, source_fits _ _ (c.in_ok-chart.ensures {u = tt}) (c.in_ok-claim.ensures {u = tt}))

pub returns : goal.returns
returns c =
    let few = few_flags _ _ (c.in_ok-chart.ensures {u = tt}) (c.in_ok-claim.ensures {u = tt}) in
    both_held _ _ (c.in_ok-chart.ensures {u = tt}) (c.in_ok-claim.ensures {u = tt}) c.requires c.read_chart.auto.table c.read_claim.auto.cells c.if-claim-chart.false (c.combinations.ensures.0 few)
