-- Distances as they are written: `-0`, and the value of a sign and a number. Assumes nothing.
use mathlib.Core.Path.{◌≡◌, refl, sym, ◌∙◌}
use mathlib.Core.Bool.{Bool, true, false, ◌&&◌, ◌||◌, not, cond, and-true}
use mathlib.Core.List.{List, [], ◌∷◌}
use Prim.Native.Nat.{ℕ, ◌+◌, ◌*◌, ◌-◌, ◌≤◌}
use native.Mathlib.Omega.{arith}
use lib.Dec.{leb, eqb}
use lib.ListN.{length}
use lib.IntN.{ℤ}
use borrow.Author.Tests.{eqb-false, eq-eqb, ne_eqb}
use Rattle.std.specs.Prelude.{Some, None}
use Rattle.text.specs.Ascii.{ascii, minus, digit_0}
use Rattle.text.specs.Lines.{fields, field, equal}
use Rattle.text.specs.Numbers.{most_digits, is_digit, all_digits, no_leading_zero, is_number, value_from, value, has_minus, without_minus, is_signed, signed_value}
use Rattle.text.specs.Reading.{line_here, signed_line, signed_number}
use Rattle.text.specs.declared.read.Signed.{Signed}
use Rattle.text.specs.declared.read.Signed.TheVariants.{Plus, Minus}
use Rattle.text.proofs.Digits.{digit_low}
use Rattle.text.proofs.Tests.{and_both, Same, same, other, same?, clash, some_if, none_if}
use Rattle.text.proofs.ReadingSigned.{SignedAt, plus_is, minus_is, plus_worth, minus_worth}
use Rattle.model.specs.Case.{farthest}
use Rattle.model.specs.Passing.{distance_good}
use Rattle.model.proofs.Signs.{abs_neg}
use Rattle.checker.specs.Checking.{distance_of}

-- THE NUMBER 0 is `0` alone
value_rises : (v : ℕ) (w : List ℕ) → v ≤ value_from v w
unfolding value_from
value_rises v [] = omega arith
value_rises v (b ∷ w) = omega (arith, value_rises (10 * v + (b - digit_0)) w)

zero_one : (b : ℕ) → is_digit b ≡ true → (eqb b digit_0 && true) ≡ eqb (10 * 0 + (b - digit_0)) 0
zero_one b d = go (same? b digit_0)
  where
    go : Same b digit_0 → (eqb b digit_0 && true) ≡ eqb (10 * 0 + (b - digit_0)) 0
    go (same e) = rw (eq-eqb b digit_0 e, eq-eqb (10 * 0 + (b - digit_0)) 0 (omega arith)) refl
    go (other n) = rw (ne_eqb b digit_0 n, ne_eqb (10 * 0 + (b - digit_0)) 0 (λ q. n (omega (arith, digit_low b d)))) refl

zero_more : (b c : ℕ) (w : List ℕ) → is_digit b ≡ true → eqb b digit_0 ≡ false → eqb (value_from (10 * (10 * 0 + (b - digit_0)) + (c - digit_0)) w) 0 ≡ false
zero_more b c w d e =
    let v = value_from (10 * (10 * 0 + (b - digit_0)) + (c - digit_0)) w in
    let h : 10 * (10 * 0 + (b - digit_0)) + (c - digit_0) ≤ v = value_rises (10 * (10 * 0 + (b - digit_0)) + (c - digit_0)) w in
    let l : 48 ≤ b = digit_low b d in
    let n : b ≡ digit_0 → ⊥ = eqb-false b digit_0 e in
    ne_eqb v 0 (λ q. n (omega arith))

not_flip : (b : Bool) → not b ≡ true → b ≡ false
not_flip true h = cc
not_flip false h = refl

module _ (b : ℕ) (w : List ℕ) (h : is_number (b ∷ w) ≡ true) where
  number_parts : (all_digits (b ∷ w) && no_leading_zero (b ∷ w)) ≡ true
  unfolding is_number
  number_parts = (and_both (leb 1 (length (b ∷ w)) && leb (length (b ∷ w)) most_digits) (all_digits (b ∷ w) && no_leading_zero (b ∷ w)) h).1

  first_digit : is_digit b ≡ true
  unfolding all_digits
  first_digit = (and_both (is_digit b) (all_digits w) (and_both (all_digits (b ∷ w)) (no_leading_zero (b ∷ w)) number_parts).0).0

  first_not : 1 ≤ length w → eqb b digit_0 ≡ false
  unfolding no_leading_zero
  first_not l =
      let n : (eqb (length (b ∷ w)) 1 || not (eqb b digit_0)) ≡ true = (and_both (all_digits (b ∷ w)) (no_leading_zero (b ∷ w)) number_parts).1 in
      not_flip (eqb b digit_0) (rw (ne_eqb (length (b ∷ w)) 1 (λ q. omega arith)) at n)

zero_number : (w : List ℕ) → is_number w ≡ true → equal w (digit_0 ∷ []) ≡ eqb (value w) 0
unfolding is_number value value_from equal
zero_number [] h = clash false h refl
zero_number (b ∷ []) h = zero_one b (first_digit b [] h)
zero_number (b ∷ c ∷ w) h =
    rw (first_not b (c ∷ w) h (omega arith)) (sym (zero_more b c w (first_digit b (c ∷ w) h) (first_not b (c ∷ w) h (omega arith))))

-- `-0`
minus_zero : (w : List ℕ) → is_signed w ≡ true → equal w (ascii "-0") ≡ (has_minus w && eqb (value (without_minus w)) 0)
unfolding is_signed has_minus without_minus equal
minus_zero [] h = refl
minus_zero (b ∷ w) h = go (eqb b minus) h
  where
    go : (t : Bool) → is_number (cond t w (b ∷ w)) ≡ true → (t && equal w (digit_0 ∷ [])) ≡ (t && eqb (value (cond t w (b ∷ w))) 0)
    go true h = zero_number w h
    go false h = refl

-- A SIGNED NUMBER as a distance
good_plus : (w : List ℕ) {d : ℕ} → is_signed w ≡ true → signed_number w ≡ Plus d → distance_good w ≡ leb d farthest
unfolding distance_good
good_plus w {d} h e = rw (plus_worth w e, minus_zero w h, (plus_is w e).0) (and-true (leb d farthest))

good_minus : (w : List ℕ) {d : ℕ} → is_signed w ≡ true → signed_number w ≡ Minus d → distance_good w ≡ (leb d farthest && not (eqb d 0))
unfolding distance_good
good_minus w {d} h e = rw (minus_worth w e, minus_zero w h, (minus_is w e).0, (minus_is w e).1, abs_neg d) refl

distance_read : (w : List ℕ) (g : Signed) → is_signed w ≡ true → signed_number w ≡ g → {x : ℤ} → distance_of g ≡ Some x → (distance_good w ≡ true) × (signed_value w ≡ x)
unfolding distance_of
distance_read w (Plus d) h e q = let k = some_if (leb d farthest) q in (good_plus w h e ∙ k.0, plus_worth w e ∙ k.1)
distance_read w (Minus d) h e q = let k = some_if (leb d farthest && not (eqb d 0)) q in (good_minus w h e ∙ k.0, minus_worth w e ∙ k.1)

distance_none : (w : List ℕ) (g : Signed) → is_signed w ≡ true → signed_number w ≡ g → distance_of g ≡ None → distance_good w ≡ false
unfolding distance_of
distance_none w (Plus d) h e q = good_plus w h e ∙ none_if (leb d farthest) _ q
distance_none w (Minus d) h e q = good_minus w h e ∙ none_if (leb d farthest && not (eqb d 0)) _ q

module _ {s : List ℕ} {at a : ℕ} {g : Signed} {z : ℕ} (r : SignedAt s at a g z) where
  second_signed : is_signed (field (line_here s at) 1) ≡ true
  unfolding signed_line
  second_signed =
      let l = line_here s at in
      (and_both (is_number (field l 0)) (is_signed (field l 1)) (and_both (l.closed && eqb (length (fields l.text)) 2) (is_number (field l 0) && is_signed (field l 1)) r.line).1).1

  pub distance_there : {x : ℤ} → distance_of g ≡ Some x → (distance_good (field (line_here s at) 1) ≡ true) × (signed_value (field (line_here s at) 1) ≡ x)
  distance_there q = distance_read (field (line_here s at) 1) g second_signed r.signed q

  pub distance_gone : distance_of g ≡ None → distance_good (field (line_here s at) 1) ≡ false
  distance_gone q = distance_none (field (line_here s at) 1) g second_signed r.signed q
