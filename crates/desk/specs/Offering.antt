-- What is printed. No contract of the kit can say what a descriptor takes. Assumes nothing: these are definitions.
use Rattle.std.specs.Prelude.{List, ℕ}

abbrev pub standard_output : ℕ
standard_output = 1

abbrev pub standard_error : ℕ
standard_error = 2

-- the bytes are offered to the descriptor, one after the other. This holds of any bytes and PROVES NOTHING: it stands
-- in a contract to name the part that the kit cannot state
abbrev pub Offered : (descriptor : ℕ) → (bytes : List ℕ) → Type 0
Offered d bs = Unit {0}
