-- `try_build` meets its contract: 11, 5, the texts' refusals, 21, or the file.
use native.Mathlib.Omega.{arith}
use Rattle.std.proofs.Common.{rules}
use Rattle.std.proofs.lemmas.Result.{err_from_is_err_and}
use Rattle.product.proofs.Building.{workers_range, build_small, build_workers, build_refused, build_many, build_fits, build_done}
use Rattle.product.proofs.try_build.Goals as goal

pub returns-then-output-lt-LEAST_CASE_OUTPUT : goal.returns-then-output-lt-LEAST_CASE_OUTPUT
returns-then-output-lt-LEAST_CASE_OUTPUT c = rw c.from.ensures (build_small _ _ _ _ c.if-output-lt-LEAST_CASE_OUTPUT.true)

pub returns-then-not-workers_right : goal.returns-then-not-workers_right
returns-then-not-workers_right c =
    rw c.from-then-not-workers_right.ensures (build_workers _ _ _ _ c.if-output-lt-LEAST_CASE_OUTPUT.false (c.if-not-workers_right.ensures {u = tt}))

pub returns-in_err-read_both : goal.returns-in_err-read_both
returns-in_err-read_both c =
    let p = err_from_is_err_and c.from_residual.result c.from_residual.ensures.1 in
    rw (p.1, p.2) (build_refused _ _ _ _ c.if-output-lt-LEAST_CASE_OUTPUT.false (c.if-not-workers_right.ensures {u = tt}) (c.in_err-read_both.ensures {u = tt}))

pub returns-in_err-find_edges : goal.returns-in_err-find_edges
returns-in_err-find_edges c =
    let p = err_from_is_err_and c.from_residual-in_err-find_edges.result c.from_residual-in_err-find_edges.ensures.1 in
    rw (p.1, p.2) (build_many _ _ _ _ c.if-output-lt-LEAST_CASE_OUTPUT.false (c.if-not-workers_right.ensures {u = tt}) (c.in_ok-read_both.ensures {u = tt}) (c.in_err-find_edges.ensures {u = tt}))

pub write-requires : goal.write-requires
write-requires c = workers_range _ (c.if-not-workers_right.ensures {u = tt})

pub overflow_cast-result : goal.overflow_cast-result
overflow_cast-result c =
    omega (
      arith,
      build_fits _ _ _ _ c.if-output-lt-LEAST_CASE_OUTPUT.false (c.if-not-workers_right.ensures {u = tt}) (c.in_ok-read_both.ensures {u = tt}) (c.in_ok-find_edges.ensures {u = tt}) c.write.ensures.few
          c.new-page.ensures.front c.new-page.ensures.bytes c.write.ensures.file c.unwrap_or.ensures,
    )

pub returns : goal.returns
returns c =
    build_done _ _ _ _ c.if-output-lt-LEAST_CASE_OUTPUT.false (c.if-not-workers_right.ensures {u = tt}) (c.in_ok-read_both.ensures {u = tt}) (c.in_ok-find_edges.ensures {u = tt}) c.write.ensures.few
    c.new-page.ensures.front c.new-page.ensures.bytes c.write.ensures.file c.unwrap_or.ensures (search rules)
