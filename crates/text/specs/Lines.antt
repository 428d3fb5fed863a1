-- "Text, each line ended by one line feed, fields parted by one space": read by lines and fields, written by rows.
-- Assumes nothing: these are definitions.
use Rattle.std.specs.Prelude.{Bool, true, false, ◌&&◌, cond, List, [], ◌∷◌, ◌++◌, ℕ, eqb, length, get_or, take}
use Rattle.text.specs.Ascii.{line_feed, space}

-- LINES: a line is its bytes and whether a line feed ended it; only a text's last line may be open
pub record Line : Type 0 where
  pub text : List ℕ
  pub closed : Bool

abbrev pub closed_line : List ℕ → Line
closed_line t = record { text = t; closed = true }

abbrev pub open_line : List ℕ → Line
open_line t = record { text = t; closed = false }

-- the lines with one byte more in front of the first
unfoldable pub put_byte : ℕ → List Line → List Line
put_byte b [] = open_line (b ∷ []) ∷ []
put_byte b (l ∷ ls) = record { text = b ∷ l.text; closed = l.closed } ∷ ls

-- the lines of a text; what follows the last line feed, if anything does, is an open line
unfoldable pub lines : List ℕ → List Line
lines [] = []
lines (b ∷ bs) = cond (eqb b line_feed) (closed_line [] ∷ lines bs) (put_byte b (lines bs))

-- line i, from 0; past the last line an open one without bytes
unfoldable pub line_at : List Line → (i : ℕ) → Line
line_at ls i = get_or ls i (open_line [])

-- FIELDS: the fields with one byte more in front of the first
unfoldable pub put_first : ℕ → List (List ℕ) → List (List ℕ)
put_first b [] = (b ∷ []) ∷ []
put_first b (f ∷ fs) = (b ∷ f) ∷ fs

-- the fields of a line's bytes, one more than it has spaces
unfoldable pub fields : List ℕ → List (List ℕ)
fields [] = [] ∷ []
fields (b ∷ bs) = cond (eqb b space) ([] ∷ fields bs) (put_first b (fields bs))

-- field i of a line, from 0; past the last field one without bytes
unfoldable pub field : Line → (i : ℕ) → List ℕ
field l i = get_or (fields l.text) i []

-- TESTS: two texts are equal; a text begins so; a line is closed and reads so
unfoldable pub equal : (a b : List ℕ) → Bool
equal [] [] = true
equal [] (y ∷ ys) = false
equal (x ∷ xs) [] = false
equal (x ∷ xs) (y ∷ ys) = eqb x y && equal xs ys

unfoldable pub begins : (front text : List ℕ) → Bool
begins f t = equal (take (length f) t) f

unfoldable pub line_is : (text : List ℕ) → Line → Bool
line_is t l = l.closed && equal l.text t

-- WRITING: a row of fields as a line's bytes, rows as a text
unfoldable pub joined : (row : List (List ℕ)) → List ℕ
joined [] = []
joined (f ∷ []) = f
joined (f ∷ g ∷ fs) = f ++ space ∷ joined (g ∷ fs)

unfoldable pub text : (rows : List (List (List ℕ))) → List ℕ
text [] = []
text (r ∷ rs) = joined r ++ line_feed ∷ text rs
