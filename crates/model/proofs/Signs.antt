-- Signs: a signed number as its part above 0 and its part below, so that orders and sums are facts of natural
-- numbers, which omega reads.
use mathlib.Core.Path.{◌≡◌, refl, sym, ◌∙◌}
use mathlib.Core.Bool.{Bool, true, false, cond}
use Prim.Native.Nat.{ℕ, zero, suc, ◌+◌, ◌-◌, ◌≤◌}
use native.Mathlib.Omega.{arith}
use lib.Dec.{ltb, leb-zero, leb-suc-zero, leb-suc-suc}
use borrow.Author.Tests.{ltb-true, ltb-false, leb-true, le-leb}
use lib.IntN.{ℤ, pos, negsuc, neg_ℤ, nat_abs, ◌+ℤ◌, sub_ℕ}
use lib.Signed.{le_z, lt_z}
use Rattle.text.proofs.Tests.{clash}

unfoldable pub high : ℤ → ℕ
high (pos n) = n
high (negsuc n) = 0

unfoldable pub low : ℤ → ℕ
low (pos n) = 0
low (negsuc n) = suc n

pub le_parts : (a b : ℤ) → le_z a b ≡ true → high a + low b ≤ high b + low a
unfolding high low
le_parts (pos a) (pos b) h = omega (arith, leb-true)
le_parts (pos a) (negsuc b) h = clash false h refl
le_parts (negsuc a) (pos b) h = omega arith
le_parts (negsuc a) (negsuc b) h = omega (arith, leb-true)

pub parts_le : (a b : ℤ) → high a + low b ≤ high b + low a → le_z a b ≡ true
unfolding high low
parts_le (pos a) (pos b) h = le-leb a b (omega arith)
parts_le (pos a) (negsuc b) h = absurd (omega arith)
parts_le (negsuc a) (pos b) h = refl
parts_le (negsuc a) (negsuc b) h = le-leb b a (omega arith)

sub_parts : (a b : ℕ) → high (sub_ℕ a b) + b ≡ a + low (sub_ℕ a b)
sub_parts a b = go (ltb a b) refl
  where
    go : (t : Bool) → ltb a b ≡ t → high (cond t (negsuc (b - suc a)) (pos (a - b))) + b ≡ a + low (cond t (negsuc (b - suc a)) (pos (a - b)))
    go true h = unfold high low in (omega (arith, ltb-true a b h))
    go false h = unfold high low in (omega (arith, ltb-false a b h))

pub add_parts : (a b : ℤ) → high (a +ℤ b) + (low a + low b) ≡ (high a + high b) + low (a +ℤ b)
add_parts (pos a) (pos b) = unfold high low in (omega arith)
add_parts (pos a) (negsuc b) = unfold high low in (omega (arith, sub_parts a (suc b)))
add_parts (negsuc a) (pos b) = unfold high low in (omega (arith, sub_parts b (suc a)))
add_parts (negsuc a) (negsuc b) = unfold high low in (omega arith)

-- a number that is not above 0
pub low_neg : (d : ℕ) → low (neg_ℤ (pos d)) ≡ d
unfolding low
low_neg zero = refl
low_neg (suc d) = refl

pub high_neg : (d : ℕ) → high (neg_ℤ (pos d)) ≡ 0
unfolding high
high_neg zero = refl
high_neg (suc d) = refl

pub abs_neg : (d : ℕ) → nat_abs (neg_ℤ (pos d)) ≡ d
abs_neg zero = refl
abs_neg (suc d) = refl

-- deeper is lower
pub deeper_le : (d k : ℕ) → d ≤ k → le_z (neg_ℤ (pos k)) (neg_ℤ (pos d)) ≡ true
deeper_le d k h = parts_le (neg_ℤ (pos k)) (neg_ℤ (pos d)) (omega (arith, low_neg d, high_neg d, low_neg k, high_neg k))

-- and strictly
pub deeper_lt : (a b : ℕ) → lt_z (neg_ℤ (pos a)) (neg_ℤ (pos b)) ≡ ltb b a
deeper_lt zero zero = refl
deeper_lt zero (suc b) = sym (leb-suc-zero (suc b))
deeper_lt (suc a) zero = sym (leb-suc-suc zero a ∙ leb-zero a)
deeper_lt (suc a) (suc b) = sym (leb-suc-suc (suc b) a)
