-- `read::digits_at` meets its contract: the digits up to a place are read, and those from there on are left. Assumes nothing.
use mathlib.Core.Path.{sym, ◌∙◌}
use native.Mathlib.Omega.{arith}
use lib.ListN.{get_or}
use Rattle.text.proofs.Digits.{digits_none, digits_more, digits_stop, digits_last, digits_fit, digit_high, is_digit_ascii}
use Rattle.text.proofs.read.digits_at.Goals as goal

pub loop-e-init : goal.loop-e-init
loop-e-init c = digits_none _ _

pub whole-requires : goal.whole-requires
whole-requires c = digits_stop c.loop-e.invariant (omega arith) (is_digit_ascii _ ∙ sym c.is_ascii_digit.ensures.value ∙ c.if-not-is_ascii_digit.true)

pub overflow_mul-v : goal.overflow_mul-v
overflow_mul-v c = omega (arith, digits_fit c.loop-e.invariant (omega arith))

pub overflow_add-v : goal.overflow_add-v
overflow_add-v c =
    let b = get_or c.args.text.now c.loop-e.e 0 in
    omega (arith, digits_fit c.loop-e.invariant (omega arith), digit_high b (is_digit_ascii b ∙ sym c.is_ascii_digit.ensures.value ∙ c.if-not-is_ascii_digit.false))

pub loop-e-preserved : goal.loop-e-preserved
loop-e-preserved c =
    rw c.from.ensures
    (digits_more c.loop-e.invariant (omega arith) (is_digit_ascii _ ∙ sym c.is_ascii_digit.ensures.value ∙ c.if-not-is_ascii_digit.false))

pub whole-requires-2 : goal.whole-requires-2
whole-requires-2 c = rw c.max.ensures (digits_last c.loop-e.invariant (omega arith) c.loop-e.auto.e-end c.loop-e-test.false)
