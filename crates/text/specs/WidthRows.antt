-- Lengths of written numbers at the boundaries, as a table with a test that computes. proofs/WidthRows.antt proves it.
-- Assumes nothing: these are definitions.
use Rattle.std.specs.Prelude.{Bool, true, ◌&&◌, List, [], ◌∷◌, ℕ, eqb, ℤ, pos, neg_ℤ, length}
use Rattle.text.specs.Numbers.{signed_decimal}

pub record Row : Type 0 where
  pub number : ℤ
  pub places : ℕ

unfoldable pub all_take : List Row → Bool
all_take [] = true
all_take (r ∷ rs) = eqb (length (signed_decimal r.number)) r.places && all_take rs

abbrev up : ℕ → ℕ → Row
up v k = record { number = pos v; places = k }

abbrev down : ℕ → ℕ → Row
down v k = record { number = neg_ℤ (pos v); places = k }

-- from 0 to the greatest unsigned number of 32 bits, and from −1 to the least signed one
abbrev pub rows : List Row
rows =
    up 0 1 ∷ up 1 1 ∷ up 9 1 ∷ up 10 2 ∷ up 99 2 ∷ up 100 3 ∷ up 999 3 ∷ up 1000 4 ∷ up 9999 4 ∷ up 10000 5 ∷ up 99999 5
    ∷ up 100000 6 ∷ up 999999 6 ∷ up 1000000 7 ∷ up 9999999 7 ∷ up 10000000 8 ∷ up 99999999 8 ∷ up 100000000 9
    ∷ up 999999999 9 ∷ up 1000000000 10 ∷ up 2147483647 10 ∷ up 4294967295 10
    ∷ down 1 2 ∷ down 9 2 ∷ down 10 3 ∷ down 99 3 ∷ down 100 4 ∷ down 500 4 ∷ down 999 4 ∷ down 1000 5
    ∷ down 999999999 10 ∷ down 1000000000 11 ∷ down 2147483648 11 ∷ []
