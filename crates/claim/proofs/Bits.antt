-- The bits of shifted words, and sets of flag values under complement, intersection and union. Assumes nothing.
use mathlib.Core.Path.{◌≡◌, refl, sym, ap, ◌∙◌}
use mathlib.Core.Bool.{Bool, true, false, ◌&&◌, ◌||◌, not, cond}
use mathlib.Core.List.{[], ◌∷◌}
use Prim.Native.Nat.{ℕ, zero, suc, ◌+◌, ◌-◌, ◌*◌, ◌/◌, ◌%◌, ◌^◌, ◌<◌}
use native.Mathlib.Nat.{mod-lt, zero-lt-suc, le_refl, zero-div, div-one, zero-mul}
use native.Mathlib.Omega.{arith}
use lib.Dec.{ltb, eqb, eqb-zero-suc, eqb-suc-zero, eqb-suc-suc}
use lib.Bits.{bit_and, bit_or, bit_xor, shifted_half, shifted_even}
use lib.ListN.{get_or}
use lib.Pow.{shl_exact}
use Rattle.text.proofs.Tests.{clash, and_both, Same, same, other, same?}
use Rattle.model.specs.ClaimLabels.{Level, Label, always, never, proposition, bit, truth}
use Rattle.model.proofs.Bits.{bit_of_and, bit_of_or, flip_if, bit_of_xor, bit_half, bit_zero}
use Rattle.claim.specs.LabelSays.{most_values, word_of, holds, TruthOf, all_bits, everything, nothing, word_by_word, complement_of, intersection_of, union_of}
use Rattle.claim.specs.declared.labels.Values.{Values}

-- A TABLE, entry by entry
all_below : (n : ℕ) → (ℕ → Bool) → Bool
all_below zero p = true
all_below (suc n) p = p n && all_below n p

below : (n : ℕ) (p : ℕ → Bool) → all_below n p ≡ true → (v : ℕ) → v < n → p v ≡ true
unfolding all_below
below zero p e v h = absurd (omega (arith, h))
below (suc n) p e v h = go (and_both (p n) (all_below n p) e) (same? v n) (λ f q. below n p f v q)
  where
    go : (p n ≡ true) × (all_below n p ≡ true) → Same v n → (all_below n p ≡ true → v < n → p v ≡ true) → p v ≡ true
    go (d, f) (same q) less = ap p q ∙ d
    go (d, f) (other q) less = less f (omega (arith, h, q))

-- `1 << t`
bit_one : (t d : ℕ) → bit (1 * 2 ^ t) d ≡ eqb d t
unfolding bit
bit_one zero zero = refl
bit_one zero (suc d) = bit_half 1 d ∙ rw (zero-div (2 ^ d), eqb-suc-zero d) refl
bit_one (suc t) zero = rw (div-one (1 * 2 ^ suc t), shifted_even 1 t, eqb-zero-suc t) refl
bit_one (suc t) (suc d) = bit_half (1 * 2 ^ suc t) d ∙ (ap (λ (y : ℕ). bit y d) (shifted_half 1 t) ∙ (bit_one t d ∙ sym (eqb-suc-suc d t)))

pub bit_shifted : (t d : ℕ) → t < 32 → bit (1 * 2 ^ t % 2 ^ 32) d ≡ eqb d t
bit_shifted t d h = rw (shl_exact 1 t 32 (le_refl 2) (omega (arith, h))) (bit_one t d)

-- `(x >> i) % 2 << t`
pub bit_digit : (x i t d : ℕ) → t < 32 → bit (x / 2 ^ i % 2 * 2 ^ t % 2 ^ 32) d ≡ (bit x i && eqb d t)
unfolding bit
bit_digit x i t d h = go (x / 2 ^ i % 2) (mod-lt (x / 2 ^ i) (zero-lt-suc 1))
  where
    go : (y : ℕ) → y < 2 → bit (y * 2 ^ t % 2 ^ 32) d ≡ (eqb y 1 && eqb d t)
    go zero k = rw (zero-mul (2 ^ t)) (bit_zero d)
    go (suc zero) k = bit_shifted t d h
    go (suc (suc y)) k = absurd (omega (arith, k))

-- `m | 1 << t`
pub bit_set : (m t d : ℕ) → t < 32 → bit (bit_or m (1 * 2 ^ t % 2 ^ 32)) d ≡ (bit m d || eqb d t)
bit_set m t d h = bit_of_or m (1 * 2 ^ t % 2 ^ 32) d ∙ ap (λ (b : Bool). bit m d || b) (bit_shifted t d h)

-- a word with every bit
pub bit_all : (i : ℕ) → i < 64 → bit all_bits i ≡ true
unfolding all_below bit
bit_all i h = below 64 (bit all_bits) refl i h

-- SETS OF FLAG VALUES
abbrev in_word : (first second third : Bool) → Values → (x : ℕ) → Bool
in_word p q r w x = cond p (bit (word_of w 0) x) (cond q (bit (word_of w 1) (x - 64)) (cond r (bit (word_of w 2) (x - 128)) (bit (word_of w 3) (x - 192))))

module _ (op : ℕ → ℕ → ℕ) (f : Bool → Bool → Bool) (law : (a b i : ℕ) → bit (op a b) i ≡ f (bit a i) (bit b i)) where
  holds_by : (v w : Values) (x : ℕ) → holds (word_by_word op v w) x ≡ f (holds v x) (holds w x)
  unfolding holds
  holds_by v w x = go (ltb x 64) (ltb x 128) (ltb x 192)
    where
      go : (p q r : Bool) → in_word p q r (word_by_word op v w) x ≡ f (in_word p q r v x) (in_word p q r w x)
      go true q r = law (word_of v 0) (word_of w 0) x
      go false true r = law (word_of v 1) (word_of w 1) (x - 64)
      go false false true = law (word_of v 2) (word_of w 2) (x - 128)
      go false false false = law (word_of v 3) (word_of w 3) (x - 192)

pub holds_intersection : (v w : Values) (x : ℕ) → holds (intersection_of v w) x ≡ (holds v x && holds w x)
holds_intersection = holds_by bit_and ◌&&◌ bit_of_and

pub holds_union : (v w : Values) (x : ℕ) → holds (union_of v w) x ≡ (holds v x || holds w x)
holds_union = holds_by bit_or ◌||◌ bit_of_or

-- whether a label is true on just these values, by one computed test
abbrev agree : Bool → Bool → Bool
agree true b = b
agree false b = not b

agree_same : (a b : Bool) → agree a b ≡ true → a ≡ b
agree_same true true e = refl
agree_same true false e = clash false e refl
agree_same false true e = clash false e refl
agree_same false false e = refl

unfoldable pub true_on : {l : Level} → Label l → Values → Bool
unfolding all_below truth bit holds
true_on x w = all_below most_values (λ v. agree (truth x v) (holds w v))

tabled : {l : Level} (x : Label l) (w : Values) → true_on x w ≡ true → TruthOf x w
unfolding true_on
tabled x w e = record { agrees = λ v h. agree_same (truth x v) (holds w v) (below most_values (λ v. agree (truth x v) (holds w v)) e v h) }

pub always_everything : TruthOf always everything
unfolding true_on
always_everything = tabled always everything refl

pub never_nothing : TruthOf never nothing
unfolding true_on
never_nothing = tabled never nothing refl

-- the flags by their table: up to 5 one word for all, 6 and 7 by words without any or with all
abbrev flag_word : ℕ → ℕ
flag_word k =
    get_or
    (12297829382473034410 ∷ 14757395258967641292 ∷ 17361641481138401520 ∷ 18374966859414961920 ∷ 18446462603027742720 ∷ 18446744069414584320 ∷ 0 ∷ (2 ^ 64 - 1) ∷ [])
    k 0

abbrev flag_values : ℕ → Values
flag_values i = record { words = flag_word (i - i / 7) ∷ flag_word (i + i / 6 - 2 * (i / 7)) ∷ flag_word i ∷ flag_word (i + i / 6 - i / 7) ∷ [] }

pub flag_truth : (i : ℕ) → i < 8 → TruthOf (proposition i) (flag_values i)
unfolding true_on
flag_truth i h = tabled (proposition i) (flag_values i) (below 8 (λ i. true_on (proposition i) (flag_values i)) refl i h)

pub holds_everything : (x : ℕ) → x < most_values → holds everything x ≡ true
unfolding truth
holds_everything x h = sym (always_everything.agrees x h)

pub holds_nothing : (x : ℕ) → x < most_values → holds nothing x ≡ false
unfolding truth
holds_nothing x h = sym (never_nothing.agrees x h)

pub holds_complement : (w : Values) (x : ℕ) → x < most_values → holds (complement_of w) x ≡ not (holds w x)
holds_complement w x h = holds_by bit_xor flip_if bit_of_xor w everything x ∙ rw (holds_everything x h) refl
