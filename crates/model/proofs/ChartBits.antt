-- Charts: a match and an overlap, bit by bit. Assumes nothing.
use mathlib.Core.Path.{◌≡◌, refl, sym, ap, ◌∙◌}
use mathlib.Core.Bool.{Bool, true, false, ◌&&◌, ◌||◌, and-true, and-false, or-false, or_self}
use Prim.Native.Nat.{ℕ}
use lib.Bits.{bit_and, bit_or, or_comm}
use lib.Dec.{eqb}
use borrow.Author.Tests.{eqb-true, eq-eqb}
use Rattle.model.specs.ClaimLabels.{bit}
use Rattle.model.specs.Chart.{Rule, matches}
use Rattle.model.specs.ChartPromise.{ByBits, OverlapByBits}
use Rattle.model.proofs.Bits.{bit_of_and, bit_of_or, same_bits}

-- a bit outside care is not in value
bit_within : (i v c : ℕ) → bit_and v c ≡ v → bit c i ≡ false → bit v i ≡ false
bit_within i v c w e = ap (λ (x : ℕ). bit x i) (sym w) ∙ bit_of_and v c i ∙ rw e (and-false (bit v i))

-- A MATCH
pub by_bits : ByBits
unfolding ByBits matches
by_bits r f within = (to, from)
  where
    to : eqb (bit_and f r.care) r.value ≡ true → (i : ℕ) → bit r.care i ≡ true → bit f i ≡ bit r.value i
    to m i c = sym (ap (λ (x : ℕ). bit x i) (sym (eqb-true (bit_and f r.care) r.value m)) ∙ bit_of_and f r.care i ∙ rw c (and-true (bit f i)))

    from : ((i : ℕ) → bit r.care i ≡ true → bit f i ≡ bit r.value i) → eqb (bit_and f r.care) r.value ≡ true
    from h = eq-eqb (bit_and f r.care) r.value (same_bits (bit_and f r.care) r.value (λ i. bit_of_and f r.care i ∙ go i (bit r.care i) refl))
      where
        go : (i : ℕ) (b : Bool) → bit r.care i ≡ b → (bit f i && bit r.care i) ≡ bit r.value i
        go i true c = rw c (and-true (bit f i) ∙ h i c)
        go i false c = rw c (and-false (bit f i) ∙ sym (bit_within i r.value r.care within c))

-- AN OVERLAP: where both values agree, both rules match the bits of either value
module _ (r s : Rule) (a : bit_and r.value r.care ≡ r.value) (b : bit_and s.value s.care ≡ s.value) (h : (i : ℕ) → bit r.care i ≡ true → bit s.care i ≡ true → bit r.value i ≡ bit s.value i) where
  either_bit : (i : ℕ) (t : Bool) → bit s.care i ≡ t → bit r.care i ≡ true → (bit r.value i || bit s.value i) ≡ bit r.value i
  either_bit i true q p = rw (← h i p q) (or_self (bit r.value i))
  either_bit i false q p = rw (bit_within i s.value s.care b q) (or-false (bit r.value i))

  either_matches : matches r (bit_or r.value s.value) ≡ true
  unfolding ByBits
  either_matches = (by_bits r (bit_or r.value s.value) a).1 (λ i p. bit_of_or r.value s.value i ∙ either_bit i (bit s.care i) refl p)

pub overlap_by_bits : OverlapByBits
unfolding OverlapByBits ByBits
overlap_by_bits r s a b = (to, λ h. (bit_or r.value s.value, either_matches r s a b h, rw (or_comm r.value s.value) (either_matches s r b a (λ i p q. sym (h i q p)))))
  where
    to : ((f : ℕ) × (matches r f ≡ true) × (matches s f ≡ true)) → (i : ℕ) → bit r.care i ≡ true → bit s.care i ≡ true → bit r.value i ≡ bit s.value i
    to (f, m, n) i p q = sym ((by_bits r f a).0 m i p) ∙ (by_bits s f b).0 n i q
