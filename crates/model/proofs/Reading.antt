-- Reading: a distance that is written is read back.
use mathlib.Core.Path.{◌≡◌, refl, ap}
use mathlib.Core.Bool.{Bool, true, false}
use mathlib.Core.List.{List}
use Prim.Native.Nat.{ℕ, zero, suc, ◌^◌, ◌<◌}
use native.Mathlib.Omega.{arith}
use lib.Dec.{eqb}
use lib.ListN.{drop}
use lib.IntN.{nat_abs}
use Rattle.text.proofs.Lines.{equal_true}
use Rattle.text.specs.Ascii.{ascii}
use Rattle.text.specs.Lines.{equal}
use Rattle.text.specs.Numbers.{value_from, value, is_signed, signed_value, digits, decimal, signed_decimal}
use Rattle.text.proofs.Decimals.{decimal_value, signed_number, signed_back}
use Rattle.text.proofs.Rows.{Without, decimal_without}
use Rattle.model.specs.Run.{distance}
use Rattle.model.proofs.Signs.{abs_neg}

-- a distance as it is written
pub record Written (d : ℕ) : Type 0 where
  pub spaces : Without 32 (signed_decimal (distance d))
  pub feeds : Without 10 (signed_decimal (distance d))
  pub signed : is_signed (signed_decimal (distance d)) ≡ true
  pub back : signed_value (signed_decimal (distance d)) ≡ distance d
  pub no_minus_zero : equal (signed_decimal (distance d)) (ascii "-0") ≡ false

minus_zero : (d : ℕ) → signed_decimal (distance (suc d)) ≡ ascii "-0" → value (decimal (suc d)) ≡ 0
unfolding distance signed_decimal value value_from
minus_zero d e = ap (λ (w : List ℕ). value (drop 1 w)) e

minus_without : (z d : ℕ) → z < 48 → eqb 45 z ≡ false → Without z (signed_decimal (distance (suc d)))
unfolding distance signed_decimal
minus_without z d l n = (n, decimal_without z (suc d) l)

near : (d : ℕ) → d < 10 ^ 9 → nat_abs (distance d) < 10 ^ 9
unfolding distance
near d h = rw (abs_neg d) h

pub written : (d : ℕ) → d < 10 ^ 9 → Written d
written zero h = record {
  spaces = unfold distance signed_decimal in (decimal_without 32 0 (omega arith));
  feeds = unfold distance signed_decimal in (decimal_without 10 0 (omega arith));
  signed = signed_number (distance 0) (near 0 h);
  back = signed_back (distance 0) (omega (arith, near 0 h));
  no_minus_zero = unfold distance signed_decimal decimal digits equal in refl;
}
written (suc d) h = record {
  spaces = minus_without 32 d (omega arith) refl;
  feeds = minus_without 10 d (omega arith) refl;
  signed = signed_number (distance (suc d)) (near (suc d) h);
  back = signed_back (distance (suc d)) (omega (arith, near (suc d) h));
  no_minus_zero = not_true_false (equal (signed_decimal (distance (suc d))) (ascii "-0")) (λ e. contra (equal_true _ _ e));
}
  where
    not_true_false : (b : Bool) → (b ≡ true → ⊥) → b ≡ false
    not_true_false true n = absurd (n refl)
    not_true_false false n = refl

    contra : signed_decimal (distance (suc d)) ≡ ascii "-0" → ⊥
    contra e = omega (arith, decimal_value (suc d) (omega arith), minus_zero d e)
