-- What is read is written in one way only: a number's field is the decimal of its value, a line's fields joined are the
-- line, and lines that are all closed are the text. Assumes nothing.
use mathlib.Core.Path.{◌≡◌, refl, sym, ap, ◌∙◌}
use mathlib.Core.Bool.{Bool, true, false, ◌&&◌, ◌||◌, not, cond}
use mathlib.Core.List.{List, [], ◌∷◌, ◌++◌, append-nil}
use mathlib.Core.Logic.{◌⊎◌, inl, inr}
use Prim.Native.Nat.{ℕ, suc, ◌+◌, ◌*◌, ◌-◌, ◌/◌, ◌%◌, ◌≤◌}
use native.Mathlib.Nat.{zero-add}
use native.Mathlib.Omega.{arith}
use lib.Dec.{leb, eqb}
use lib.ListN.{length}
use lib.Seq.{append_snoc}
use borrow.Author.Tests.{leb-true, eqb-true, eq-eqb}
use Rattle.text.specs.Lines.{Line, closed_line, put_byte, lines, put_first, fields, joined}
use Rattle.text.specs.Numbers.{is_digit, all_digits, no_leading_zero, is_number, value_from, value, digits, decimal}
use Rattle.text.proofs.Tests.{or_cases, and_both, clash}
use Rattle.text.proofs.Lines.{glue, fields_some}
use Rattle.text.proofs.Decimals.{digits_one, digits_more}

-- a digit is from `0` on, and at most nine more
digit_range : (b : ℕ) → is_digit b ≡ true → (48 ≤ b) × (b ≤ 57)
unfolding is_digit
digit_range b d = let p = and_both (leb 48 b) (leb b 57) d in (leb-true 48 b p.0, leb-true b 57 p.1)

-- after a number that is not 0, further digits are appended as they are
digits_go_on : (ws : List ℕ) (k a : ℕ) → 1 ≤ a → all_digits ws ≡ true → digits (length ws + k) (value_from a ws) ≡ digits k a ++ ws
unfolding all_digits value_from
digits_go_on [] k a l d = rw (zero-add k) (sym (append-nil (digits k a)))
digits_go_on (b ∷ ws) k a l d = go (digit_range b (and_both (is_digit b) (all_digits ws) d).0) (digits_go_on ws (suc k) (10 * a + (b - 48)) (omega arith) (and_both (is_digit b) (all_digits ws) d).1)
  where
    go : (48 ≤ b) × (b ≤ 57) → digits (length ws + suc k) (value_from (10 * a + (b - 48)) ws) ≡ digits (suc k) (10 * a + (b - 48)) ++ ws
        → digits (suc (length ws) + k) (value_from (10 * a + (b - 48)) ws) ≡ digits k a ++ b ∷ ws
    go (p, q) r =
        let e : suc (length ws) + k ≡ length ws + suc k = omega arith in
        let t : (10 * a + (b - 48)) / 10 ≡ a = omega arith in
        let u : 48 + (10 * a + (b - 48)) % 10 ≡ b = omega arith in
        rw (e, r, digits_more k (10 * a + (b - 48)) (omega arith), t, u) (append_snoc (digits k a) b ws)

-- THE DECIMAL of a number's value is the number as it stands
one_digit : (b : ℕ) → is_digit b ≡ true → digits 10 (10 * 0 + (b - 48)) ≡ b ∷ []
one_digit b d = go (digit_range b d)
  where
    go : (48 ≤ b) × (b ≤ 57) → digits 10 (10 * 0 + (b - 48)) ≡ b ∷ []
    go (p, q) =
        let e : 48 + (10 * 0 + (b - 48)) ≡ b = omega arith in
        digits_one 9 (10 * 0 + (b - 48)) (omega arith) ∙ ap (λ (x : ℕ). x ∷ []) e

more_digits : (b : ℕ) (ws : List ℕ) → is_digit b ≡ true → (b ≡ 48 → ⊥) → all_digits ws ≡ true → length ws ≤ 8 → digits 10 (value_from (10 * 0 + (b - 48)) ws) ≡ b ∷ ws
more_digits b ws d n ds l = go (digit_range b d)
  where
    go : (48 ≤ b) × (b ≤ 57) → digits 10 (value_from (10 * 0 + (b - 48)) ws) ≡ b ∷ ws
    go (p, q) =
        let e : 10 ≡ length ws + suc (9 - length ws) = omega arith in
        let u : 48 + (10 * 0 + (b - 48)) ≡ b = omega arith in
        ap (λ (k : ℕ). digits k (value_from (10 * 0 + (b - 48)) ws)) e
        ∙ digits_go_on ws (suc (9 - length ws)) (10 * 0 + (b - 48)) (omega arith) ds
        ∙ ap (λ (x : List ℕ). x ++ ws) (digits_one (9 - length ws) (10 * 0 + (b - 48)) (omega arith) ∙ ap (λ (x : ℕ). x ∷ []) u)

record Digits (b : ℕ) (ws : List ℕ) : Type 0 where
  first : is_digit b ≡ true
  others : all_digits ws ≡ true
  few : length ws ≤ 8
  lead : (eqb (suc (length ws)) 1 || not (eqb b 48)) ≡ true

parts : (b : ℕ) (ws : List ℕ) → is_number (b ∷ ws) ≡ true → Digits b ws
unfolding is_number all_digits no_leading_zero
parts b ws n =
    let p = and_both (leb 1 (suc (length ws)) && leb (suc (length ws)) 9) (all_digits (b ∷ ws) && (eqb (suc (length ws)) 1 || not (eqb b 48))) n in
    let q = and_both (is_digit b && all_digits ws) (eqb (suc (length ws)) 1 || not (eqb b 48)) p.1 in
    let r = and_both (is_digit b) (all_digits ws) q.0 in
    let l : suc (length ws) ≤ 9 = leb-true (suc (length ws)) 9 (and_both (leb 1 (suc (length ws))) (leb (suc (length ws)) 9) p.0).1 in
    record { first = r.0; others = r.1; few = omega arith; lead = q.1 }

not_zero : (n b : ℕ) → (eqb (suc (suc n)) 1 || not (eqb b 48)) ≡ true → b ≡ 48 → ⊥
not_zero n b h e = go (or_cases (eqb (suc (suc n)) 1) (not (eqb b 48)) h)
  where
    go : (eqb (suc (suc n)) 1 ≡ true) ⊎ (not (eqb b 48) ≡ true) → ⊥
    go (inl x) = omega (arith, eqb-true (suc (suc n)) 1 x)
    go (inr x) = clash (not (eqb b 48)) x (rw (eq-eqb b 48 e) refl)

pub number_decimal : (w : List ℕ) → is_number w ≡ true → decimal (value w) ≡ w
unfolding value value_from decimal
number_decimal [] n = clash (is_number []) n (unfold is_number in refl)
number_decimal (b ∷ []) n = one_digit b (parts b [] n).first
number_decimal (b ∷ c ∷ ws) n =
    let p = parts b (c ∷ ws) n in
    more_digits b (c ∷ ws) p.first (not_zero (length ws) b p.lead) p.others p.few

-- A LINE is its fields joined
joined_put : (b : ℕ) (fs : List (List ℕ)) → joined (put_first b fs) ≡ b ∷ joined fs
unfolding joined put_first
joined_put b [] = refl
joined_put b (f ∷ []) = refl
joined_put b (f ∷ g ∷ fs) = refl

joined_space : (fs : List (List ℕ)) → joined ([] ∷ glue [] fs) ≡ 32 ∷ joined (glue [] fs)
unfolding joined glue
joined_space [] = refl
joined_space (f ∷ fs) = refl

pub joined_fields : (t : List ℕ) → joined (fields t) ≡ t
unfolding fields
joined_fields [] = unfold joined in refl
joined_fields (b ∷ t) = go (eqb b 32) refl (joined_fields t)
  where
    go : (x : Bool) → eqb b 32 ≡ x → joined (fields t) ≡ t → joined (cond x ([] ∷ fields t) (put_first b (fields t))) ≡ b ∷ t
    go true e r = ap (λ (fs : List (List ℕ)). joined ([] ∷ fs)) (fields_some t) ∙ joined_space (fields t) ∙ ap (λ (l : List ℕ). 32 ∷ l) (ap joined (sym (fields_some t)) ∙ r) ∙ ap (λ (x : ℕ). x ∷ t) (sym (eqb-true b 32 e))
    go false e r = joined_put b (fields t) ∙ ap (λ (l : List ℕ). b ∷ l) r

-- A TEXT whose lines are all closed is these lines, each with its line feed
unfoldable pub all_closed : List Line → Bool
all_closed [] = true
all_closed (l ∷ ls) = l.closed && all_closed ls

unfoldable pub unlines : List Line → List ℕ
unlines [] = []
unlines (l ∷ ls) = l.text ++ 10 ∷ unlines ls

put_closed : (b : ℕ) (ls : List Line) → all_closed (put_byte b ls) ≡ true → (unlines (put_byte b ls) ≡ b ∷ unlines ls) × (all_closed ls ≡ true)
unfolding put_byte all_closed unlines
put_closed b [] c = clash false c refl
put_closed b (l ∷ ls) c = (refl, c)

pub unlines_lines : (bs : List ℕ) → all_closed (lines bs) ≡ true → unlines (lines bs) ≡ bs
unfolding lines
unlines_lines [] c = unfold unlines in refl
unlines_lines (b ∷ bs) c = go (eqb b 10) refl (unlines_lines bs) c
  where
    go : (x : Bool) → eqb b 10 ≡ x → (all_closed (lines bs) ≡ true → unlines (lines bs) ≡ bs)
        → all_closed (cond x (closed_line [] ∷ lines bs) (put_byte b (lines bs))) ≡ true → unlines (cond x (closed_line [] ∷ lines bs) (put_byte b (lines bs))) ≡ b ∷ bs
    go true e r c = unfold unlines all_closed in (ap (λ (l : List ℕ). 10 ∷ l) (r c) ∙ ap (λ (x : ℕ). x ∷ bs) (sym (eqb-true b 10 e)))
    go false e r c = let p = put_closed b (lines bs) c in p.0 ∙ ap (λ (l : List ℕ). b ∷ l) (r p.1)
