-- What rows write, lines and fields read back: a text of rows has those rows as its lines, and a row its fields.
-- Assumes nothing.
use mathlib.Core.Path.{◌≡◌, refl, sym, ap, ◌∙◌}
use mathlib.Core.Bool.{true, false}
use mathlib.Core.List.{List, [], ◌∷◌, ◌++◌, append_assoc}
use Prim.Native.Nat.{ℕ, zero, suc, ◌*◌, ◌^◌, ◌≤◌, ◌<◌}
use native.Mathlib.Omega.{arith}
use lib.Dec.{eqb}
use lib.ListN.{length, get_or, length-append}
use borrow.Author.Tests.{eq-eqb}
use Rattle.text.specs.Lines.{Line, closed_line, put_byte, lines, put_first, fields, field, joined, text}
use Rattle.text.specs.Numbers.{is_digit, all_digits, is_number, value_from, value, all_numbers, numbers_line, number_at, decimal}
use Rattle.text.proofs.Tests.{and_both, both_true}
use Rattle.text.proofs.Decimals.{decimal_short, decimal_digits, decimal_value, decimal_number, digit_not}

-- no byte is z
abbrev pub Without : ℕ → List ℕ → Type 0
Without z [] = Unit {0}
Without z (b ∷ bs) = (eqb b z ≡ false) × Without z bs

without_append : (z : ℕ) (a b : List ℕ) → Without z a → Without z b → Without z (a ++ b)
without_append z [] b p q = q
without_append z (x ∷ a) b p q = (p.0, without_append z a b p.1 q)

-- LINES AND FIELDS
lines_closed : (t rest : List ℕ) → Without 10 t → lines (t ++ 10 ∷ rest) ≡ closed_line t ∷ lines rest
unfolding lines put_byte
lines_closed [] rest w = refl
lines_closed (b ∷ t) rest w = rw (w.0, lines_closed t rest w.1) refl

fields_one : (t : List ℕ) → Without 32 t → fields t ≡ t ∷ []
unfolding fields put_first
fields_one [] w = refl
fields_one (b ∷ t) w = rw (w.0, fields_one t w.1) refl

fields_more : (t rest : List ℕ) → Without 32 t → fields (t ++ 32 ∷ rest) ≡ t ∷ fields rest
unfolding fields put_first
fields_more [] rest w = refl
fields_more (b ∷ t) rest w = rw (w.0, fields_more t rest w.1) refl

-- a row of fields, at least one, none with a space or a line feed
abbrev pub Plain : List (List ℕ) → Type 0
Plain [] = ⊥
Plain (f ∷ []) = (Without 32 f) × (Without 10 f)
Plain (f ∷ g ∷ fs) = (Without 32 f) × (Without 10 f) × Plain (g ∷ fs)

pub fields_joined : (r : List (List ℕ)) → Plain r → fields (joined r) ≡ r
unfolding joined
fields_joined [] p = absurd p
fields_joined (f ∷ []) p = fields_one f p.0
fields_joined (f ∷ g ∷ fs) p = fields_more f (joined (g ∷ fs)) p.0 ∙ ap (λ (l : List (List ℕ)). f ∷ l) (fields_joined (g ∷ fs) p.2)

joined_without : (r : List (List ℕ)) → Plain r → Without 10 (joined r)
unfolding joined
joined_without [] p = absurd p
joined_without (f ∷ []) p = p.1
joined_without (f ∷ g ∷ fs) p = without_append 10 f (32 ∷ joined (g ∷ fs)) p.1 (refl, joined_without (g ∷ fs) p.2)

-- rows as lines
abbrev pub AllPlain : List (List (List ℕ)) → Type 0
AllPlain [] = Unit {0}
AllPlain (r ∷ rs) = Plain r × AllPlain rs

unfoldable pub row_lines : List (List (List ℕ)) → List Line
row_lines [] = []
row_lines (r ∷ rs) = closed_line (joined r) ∷ row_lines rs

pub lines_text : (rs : List (List (List ℕ))) → AllPlain rs → lines (text rs) ≡ row_lines rs
unfolding text row_lines
lines_text [] p = unfold lines in refl
lines_text (r ∷ rs) p = lines_closed (joined r) (text rs) (joined_without r p.0) ∙ ap (λ (l : List Line). closed_line (joined r) ∷ l) (lines_text rs p.1)

pub field_row : (r : List (List ℕ)) → Plain r → (i : ℕ) → field (closed_line (joined r)) i ≡ get_or r i []
unfolding field
field_row r p i = ap (λ (l : List (List ℕ)). get_or l i []) (fields_joined r p)

-- a decimal has no byte below the digits: no space, line feed or minus sign
digits_without : (z : ℕ) (w : List ℕ) → z < 48 → all_digits w ≡ true → Without z w
unfolding all_digits
digits_without z [] l d = tt
digits_without z (b ∷ w) l d = let p = and_both (is_digit b) (all_digits w) d in (digit_not b z p.0 l, digits_without z w l p.1)

pub decimal_without : (z v : ℕ) → z < 48 → Without z (decimal v)
decimal_without z v l = digits_without z (decimal v) l (decimal_digits v)

-- rows one after the other
pub text_append : (rs qs : List (List (List ℕ))) → text (rs ++ qs) ≡ text rs ++ text qs
unfolding text
text_append [] qs = refl
text_append (r ∷ rs) qs = rw (text_append rs qs) (sym (append_assoc (joined r) (10 ∷ text rs) (text qs)))

pub rows_append : (rs ss : List (List (List ℕ))) → row_lines (rs ++ ss) ≡ row_lines rs ++ row_lines ss
unfolding row_lines
rows_append [] ss = refl
rows_append (r ∷ rs) ss = ap (λ (l : List Line). closed_line (joined r) ∷ l) (rows_append rs ss)

pub plain_append : (rs ss : List (List (List ℕ))) → AllPlain rs → AllPlain ss → AllPlain (rs ++ ss)
plain_append [] ss p q = q
plain_append (r ∷ rs) ss p q = (p.0, plain_append rs ss p.1 q)

-- ROWS OF NUMBERS: each below a bound
abbrev pub AllBelow : ℕ → List ℕ → Type 0
AllBelow k [] = Unit {0}
AllBelow k (n ∷ ns) = (n < k) × AllBelow k ns

abbrev pub decimals : List ℕ → List (List ℕ)
decimals [] = []
decimals (n ∷ ns) = decimal n ∷ decimals ns

pub decimals_plain : (n : ℕ) (ns : List ℕ) → Plain (decimals (n ∷ ns))
decimals_plain n [] = (decimal_without 32 n (omega arith), decimal_without 10 n (omega arith))
decimals_plain n (k ∷ ns) = (decimal_without 32 n (omega arith), decimal_without 10 n (omega arith), decimals_plain k ns)

-- they are read back
decimals_many : (ns : List ℕ) → length (decimals ns) ≡ length ns
decimals_many [] = refl
decimals_many (n ∷ ns) = ap suc (decimals_many ns)

decimals_numbers : (ns : List ℕ) → AllBelow (10 ^ 9) ns → all_numbers (decimals ns) ≡ true
unfolding all_numbers
decimals_numbers [] a = refl
decimals_numbers (n ∷ ns) a = both_true (is_number (decimal n)) (all_numbers (decimals ns)) (decimal_number n a.0) (decimals_numbers ns a.1)

decimals_values : (ns : List ℕ) (i : ℕ) → AllBelow (10 ^ 9) ns → value (get_or (decimals ns) i []) ≡ get_or ns i 0
decimals_values [] i a = unfold value value_from in refl
decimals_values (n ∷ ns) zero a = decimal_value n (omega (arith, a.0))
decimals_values (n ∷ ns) (suc i) a = decimals_values ns i a.1

module _ (n : ℕ) (ns : List ℕ) (a : AllBelow (10 ^ 9) (n ∷ ns)) where
  pub row_numbers : numbers_line (suc (length ns)) (closed_line (joined (decimals (n ∷ ns)))) ≡ true
  unfolding numbers_line
  row_numbers = rw (fields_joined (decimals (n ∷ ns)) (decimals_plain n ns))
      (both_true (eqb (suc (length (decimals ns))) (suc (length ns))) (all_numbers (decimals (n ∷ ns))) (eq-eqb _ _ (ap suc (decimals_many ns))) (decimals_numbers (n ∷ ns) a))

  pub row_number : (i : ℕ) → number_at (closed_line (joined (decimals (n ∷ ns)))) i ≡ get_or (n ∷ ns) i 0
  unfolding number_at
  row_number i = ap value (field_row (decimals (n ∷ ns)) (decimals_plain n ns) i) ∙ decimals_values (n ∷ ns) i a

-- numbers of at most four digits, each with the separator after it
pub row_short : (n : ℕ) (ns : List ℕ) → AllBelow 10000 (n ∷ ns) → suc (length (joined (decimals (n ∷ ns)))) ≤ 5 * suc (length ns)
unfolding joined
row_short n [] a = omega (arith, decimal_short n 4 (omega arith) a.0)
row_short n (k ∷ ns) a =
    omega (arith, length-append (decimal n) (32 ∷ joined (decimals (k ∷ ns))), decimal_short n 4 (omega arith) a.0, row_short k ns a.1)
