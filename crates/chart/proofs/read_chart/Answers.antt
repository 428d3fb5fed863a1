-- `chart::read_chart`: lines 1 to 3, the lines after them, the pairs.
use mathlib.Core.Path.{sym, ◌∙◌}
use native.Mathlib.Omega.{arith}
use lib.Seq.{length-take-le}
use Rattle.std.proofs.Common.{rules}
use Rattle.chart.proofs.Whole.{headed, in_range, few_pairs, fresh, fault_read, laid_not, laid_all, pair_refused, chart_passes}
use Rattle.chart.proofs.read_chart.Goals as goal

pub returns-in_default : goal.returns-in_default
returns-in_default c = fault_read _ _ c.read_head.ensures c.in_default.is

pub read_rest-requires : goal.read_rest-requires
read_rest-requires c =
    let head = headed c.read_head.ensures c.in-Some.is in
    fresh head (c.combinations.ensures.0 (in_range head).flags)

pub returns-then-not-read_rest : goal.returns-then-not-read_rest
returns-then-not-read_rest c =
    let head = headed c.read_head.ensures c.in-Some.is in
    laid_not head (c.combinations.ensures.0 (in_range head).flags) c.read_rest.ensures c.if-not-read_rest.true _

pub bad_pair-requires : goal.bad_pair-requires
bad_pair-requires c =
    let head = headed c.read_head.ensures c.in-Some.is in
    let f = few_pairs head (c.combinations.ensures.0 (in_range head).flags) in
    record {
      long = omega (arith, f, c.read_rest.ensures.long);
      few = f;
      some = omega (arith, (in_range head).some, c.combinations.ensures.0 (in_range head).flags);
    }

pub returns-in-Some-bad_pair : goal.returns-in-Some-bad_pair
returns-in-Some-bad_pair c =
    let head = headed c.read_head.ensures c.in-Some.is in
    pair_refused head (c.combinations.ensures.0 (in_range head).flags) (laid_all c.read_rest.ensures c.if-not-read_rest.false) (sym c.bad_pair.ensures ∙ c.in-Some-bad_pair.is) _

pub overflow_mul-pairs : goal.overflow_mul-pairs
overflow_mul-pairs c =
    let head = headed c.read_head.ensures c.in-Some.is in
    omega (arith, few_pairs head (c.combinations.ensures.0 (in_range head).flags))

pub slice_bounds-pairs-end : goal.slice_bounds-pairs-end
slice_bounds-pairs-end c =
    let head = headed c.read_head.ensures c.in-Some.is in
    omega (arith, few_pairs head (c.combinations.ensures.0 (in_range head).flags), c.read_rest.ensures.long)

pub slice_bounds-bytes-end : goal.slice_bounds-bytes-end
slice_bounds-bytes-end c =
    let head = headed c.read_head.ensures c.in-Some.is in
    sym (length-take-le _ _ (omega (arith, few_pairs head (c.combinations.ensures.0 (in_range head).flags), c.read_rest.ensures.long)))

pub returns : goal.returns
returns c =
    let head = headed c.read_head.ensures c.in-Some.is in
    chart_passes head (c.combinations.ensures.0 (in_range head).flags) (laid_all c.read_rest.ensures c.if-not-read_rest.false) (sym c.bad_pair.ensures ∙ c.in_default-bad_pair.is)
    c.new.ensures.front c.new.ensures.bytes c.bytes.ensures.writes (search rules)
