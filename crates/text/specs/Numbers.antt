-- "Numbers decimal of 1 to 9 digits without leading zeros", read and written, and the same with a minus sign. Assumes
-- nothing: these are definitions.
use Rattle.std.specs.Prelude.{◌≡◌, Bool, true, false, ◌&&◌, ◌||◌, not, cond, List, [], ◌∷◌, ◌++◌, ℕ, zero, suc, ◌+◌, ◌*◌, ◌-◌, ◌/◌, ◌%◌, ◌^◌, ◌≤◌, ◌<◌, ltb, leb, eqb, length, get_or, ℤ, pos, negsuc, neg_ℤ, nat_abs}
use Rattle.text.specs.Ascii.{minus, digit_0, digit_9}
use Rattle.text.specs.Lines.{Line, fields, field}

-- READING: "of 1 to 9 digits"
abbrev pub most_digits : ℕ
most_digits = 9

unfoldable pub is_digit : ℕ → Bool
is_digit b = leb digit_0 b && leb b digit_9

unfoldable pub all_digits : List ℕ → Bool
all_digits [] = true
all_digits (b ∷ bs) = is_digit b && all_digits bs

-- "without leading zeros": one digit alone, or the first is not 0
unfoldable pub no_leading_zero : List ℕ → Bool
no_leading_zero w = eqb (length w) 1 || not (eqb (get_or w 0 0) digit_0)

unfoldable pub is_number : List ℕ → Bool
is_number w = (leb 1 (length w) && leb (length w) most_digits) && (all_digits w && no_leading_zero w)

-- the value of digits
unfoldable pub value_from : (so_far : ℕ) → List ℕ → ℕ
value_from v [] = v
value_from v (b ∷ bs) = value_from (10 * v + (b - digit_0)) bs

unfoldable pub value : List ℕ → ℕ
value w = value_from 0 w

-- SIGNED: a number, perhaps after a minus sign
unfoldable pub has_minus : List ℕ → Bool
has_minus [] = false
has_minus (b ∷ bs) = eqb b minus

unfoldable pub without_minus : List ℕ → List ℕ
without_minus [] = []
without_minus (b ∷ bs) = cond (eqb b minus) bs (b ∷ bs)

unfoldable pub is_signed : List ℕ → Bool
is_signed w = is_number (without_minus w)

unfoldable pub signed_value : List ℕ → ℤ
signed_value w = cond (has_minus w) (neg_ℤ (pos (value (without_minus w)))) (pos (value w))

-- LINES of numbers: closed, of so many fields, each a number; and the number in field i, from 0
unfoldable pub all_numbers : List (List ℕ) → Bool
all_numbers [] = true
all_numbers (w ∷ ws) = is_number w && all_numbers ws

unfoldable pub numbers_line : (many : ℕ) → Line → Bool
numbers_line k l = l.closed && (eqb (length (fields l.text)) k && all_numbers (fields l.text))

unfoldable pub number_at : Line → (i : ℕ) → ℕ
number_at l i = value (field l i)

-- WRITING: the last so many digits of a number, without leading zeros; 10 hold every unsigned 32-bit number
unfoldable pub digits : (most : ℕ) → (v : ℕ) → List ℕ
digits zero v = []
digits (suc k) v = cond (ltb v 10) ((digit_0 + v) ∷ []) (digits k (v / 10) ++ ((digit_0 + v % 10) ∷ []))

unfoldable pub decimal : ℕ → List ℕ
decimal v = digits 10 v

unfoldable pub signed_decimal : ℤ → List ℕ
signed_decimal (pos v) = decimal v
signed_decimal (negsuc v) = minus ∷ decimal (suc v)

-- LENGTH of what is written: "the least number of digits that holds the value"; 0 needs one
pub record Shortest (v k : ℕ) : Type 0 where
  pub some_digit : 1 ≤ k
  pub holds : v < 10 ^ k
  pub least : (j : ℕ) → 1 ≤ j → v < 10 ^ j → k ≤ j

-- "and one more for a minus sign"
unfoldable pub sign_length : ℤ → ℕ
sign_length (pos v) = 0
sign_length (negsuc v) = 1

-- so many digits are the width of v: the least that hold it, and every number so far from zero takes them and its sign
pub record Width (v k : ℕ) : Type 0 where
  pub shortest : Shortest v k
  pub places : (z : ℤ) → nat_abs z ≡ v → length (signed_decimal z) ≡ sign_length z + k
