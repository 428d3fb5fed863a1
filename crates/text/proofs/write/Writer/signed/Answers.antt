-- `Writer::signed` meets its contract: sign and digits have room together.
use mathlib.Core.Path.{◌≡◌, refl}
use mathlib.Core.List.{◌∷◌}
use Prim.Native.Nat.{suc, ◌+◌}
use native.Mathlib.Omega.{arith}
use lib.ListN.{length, length-set}
use Rattle.text.specs.Numbers.{decimal, signed_decimal}
use Rattle.text.proofs.Decimals.{decimal_most, width_length, signed_from_zero, signed_below_zero}
use Rattle.text.proofs.Writing.{reserved_room, reserved_as, writes_nothing, writes_there, sign_put}
use Rattle.text.proofs.write.Writer.signed.Goals as goal

pub returns-then-v-ge0-clause-writes : goal.returns-then-v-ge0-clause-writes
returns-then-v-ge0-clause-writes c = rw (signed_from_zero _ _ c.ranges.v c.unsigned_abs-far.ensures.value c.if-v-ge0.true) c.number.ensures.writes

pub overflow_add-size : goal.overflow_add-size
overflow_add-size c = omega (arith, width_length c.width-size.ensures, decimal_most c.unsigned_abs-far.result)

pub bounds-self-at : goal.bounds-self-at
bounds-self-at c = omega (arith, reserved_room c.in-Some.ensures.reserves refl)

pub overflow_add-at : goal.overflow_add-at
overflow_add-at c = omega (arith, reserved_room c.in-Some.ensures.reserves refl)

pub write_digits-requires-clause-size_in_bounds : goal.write_digits-requires-clause-size_in_bounds
write_digits-requires-clause-size_in_bounds c =
    omega (arith, reserved_room c.in-Some.ensures.reserves refl, length-set c.reserve.new.self.output.now c.in-Some.at 45)

pub returns-in-Some-clause-writes : goal.returns-in-Some-clause-writes
returns-in-Some-clause-writes c =
    let below-is : signed_decimal c.args.v ≡ 45 ∷ decimal c.unsigned_abs-far.result = signed_below_zero _ _ c.ranges.v c.unsigned_abs-far.ensures.value c.if-v-ge0.false in
    let long : 1 + c.width-size.result ≡ suc (length (decimal c.unsigned_abs-far.result)) = omega (arith, width_length c.width-size.ensures) in
    rw below-is (writes_there (reserved_as long c.in-Some.ensures.reserves) refl refl (sign_put c.in-Some.at 45 _ c.reserve.new.self.output.now _ (omega (arith, long, reserved_room c.in-Some.ensures.reserves refl)) c.write_digits.ensures))

pub returns-in_default-clause-writes : goal.returns-in_default-clause-writes
returns-in_default-clause-writes c =
    let below-is : signed_decimal c.args.v ≡ 45 ∷ decimal c.unsigned_abs-far.result = signed_below_zero _ _ c.ranges.v c.unsigned_abs-far.ensures.value c.if-v-ge0.false in
    let long : 1 + c.width-size.result ≡ suc (length (decimal c.unsigned_abs-far.result)) = omega (arith, width_length c.width-size.ensures) in
    rw below-is (writes_nothing (reserved_as long c.reserve.ensures.reserves) c.in_default.is)
