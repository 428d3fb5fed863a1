-- `try_list` meets its contract: 11, the texts' refusals, or the listing of what was read.
use native.Mathlib.Omega.{arith}
use Rattle.std.proofs.lemmas.Result.{err_from_is_err_and}
use Rattle.product.proofs.Judged.{steps_small, steps_refused}
use Rattle.product.proofs.try_list.Goals as goal

pub returns-then-output-lt-LEAST_STEPS_OUTPUT : goal.returns-then-output-lt-LEAST_STEPS_OUTPUT
returns-then-output-lt-LEAST_STEPS_OUTPUT c = rw c.from.ensures (steps_small _ _ _ _ c.if-output-lt-LEAST_STEPS_OUTPUT.true)

pub returns-in_err-read_both : goal.returns-in_err-read_both
returns-in_err-read_both c =
    let p = err_from_is_err_and c.from_residual.result c.from_residual.ensures.1 in
    rw (p.1, p.2) (steps_refused _ _ _ _ (omega arith) (c.in_err-read_both.ensures {u = tt}))
