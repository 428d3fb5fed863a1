-- What the readers of src/read.rt answer at a place of a text, each by the lines and fields of specs/Lines.antt.
-- Assumes nothing: these are definitions.
use Rattle.std.specs.Prelude.{◌≡◌, Bool, ◌&&◌, ◌||◌, cond, List, [], ◌∷◌, ◌++◌, ℕ, zero, suc, ◌+◌, min, ltb, eqb, length, get_or, drop, map, Option, Some, None}
use Rattle.std.specs.Borrow.{Bor}
use Rattle.text.specs.Ascii.{line_feed, space}
use Rattle.text.specs.Lines.{Line, lines, line_at, fields, field, begins}
use Rattle.text.specs.Numbers.{most_digits, is_digit, is_number, value, has_minus, without_minus, is_signed, numbers_line, number_at}
use Rattle.text.specs.declared.read.Row.{Row}
use Rattle.text.specs.declared.read.Signed.{Signed}
use Rattle.text.specs.declared.read.Signed.TheVariants.{Plus, Minus}
use Rattle.text.specs.declared.read.SignedRow.{SignedRow}

-- LINES AND FIELDS: the line that starts at a place; past the text's end an open one without bytes
abbrev pub line_here : (text : List ℕ) → (at : ℕ) → Line
line_here s at = line_at (lines (drop at s)) 0

-- the place past that line: past its line feed, or the text's end where none ends it
unfoldable pub past_line : (text : List ℕ) → (at : ℕ) → ℕ
past_line s at = let l = line_here s at in at + length l.text + cond l.closed 1 0

-- the place past so many lines from a place on
unfoldable pub skip : (lines : ℕ) → (text : List ℕ) → (at : ℕ) → ℕ
skip zero s at = at
skip (suc k) s at = skip k s (past_line s at)

-- the field that starts at a place
abbrev pub field_here : (text : List ℕ) → (at : ℕ) → List ℕ
field_here s at = field (line_here s at) 0

-- "A field is shown as that very part of the text, never a copy": its bytes, and that it lies in the text's own block,
-- at that place
pub record Part (text : Bor (List ℕ)) (at : ℕ) (part : Bor (List ℕ)) : Type 0 where
  pub bytes : part.now ≡ field_here text.now at
  pub block : part.ref_ptr.0 ≡ text.ref_ptr.0
  pub offset : part.ref_ptr.1 ≡ min at (length text.now) + text.ref_ptr.1

-- the place past the line at a place, if it is this one
unfoldable pub named_here : (text : List ℕ) → (at : ℕ) → (names : List ℕ) → Option ℕ
named_here s at names = cond (begins (names ++ line_feed ∷ []) (drop at s)) (Some (at + suc (length names))) None

-- NUMBERS: a part of a text as a number
unfoldable pub number_in : (part : List ℕ) → Option ℕ
number_in w = cond (is_number w) (Some (value w)) None

-- a number, and the place past it
abbrev pub one_number : (v next : ℕ) → Row 1
one_number v z = record { numbers = v ∷ []; next = z }

-- the number in the first field of a longer line, and the place past its space
unfoldable pub leading_here : (text : List ℕ) → (at : ℕ) → Option (Row 1)
leading_here s at =
    cond (is_number (field_here s at) && ltb 1 (length (fields (line_here s at).text)))
    (Some (one_number (value (field_here s at)) (at + suc (length (field_here s at))))) None

-- ROWS: the values of a line's fields
abbrev pub values : Line → List ℕ
values l = map value (fields l.text)

-- the line at a place as a row of so many numbers, and the place past it
unfoldable pub row_here : (many : ℕ) → (text : List ℕ) → (at : ℕ) → Option (Row many)
row_here k s at = let l = line_here s at in cond (numbers_line k l) (Some (record { numbers = values l; next = past_line s at })) None

-- a closed line of a number and a signed number
unfoldable pub signed_line : Line → Bool
signed_line l = (l.closed && eqb (length (fields l.text)) 2) && (is_number (field l 0) && is_signed (field l 1))

-- a signed number, by its sign and the number that follows it
unfoldable pub signed_number : (field : List ℕ) → Signed
signed_number w = cond (has_minus w) (Minus (value (without_minus w))) (Plus (value (without_minus w)))

-- the line at a place as such a row, and the place past it
unfoldable pub signed_row_here : (text : List ℕ) → (at : ℕ) → Option SignedRow
signed_row_here s at =
    let l = line_here s at in
    cond (signed_line l) (Some (record { number = number_at l 0; signed = signed_number (field l 1); next = past_line s at })) None

-- STEPS of the readers: whether a byte ends a field
abbrev pub is_separator : ℕ → Bool
is_separator b = eqb b space || eqb b line_feed

-- the digits in front, so many at most
unfoldable pub run : (most : ℕ) → List ℕ → List ℕ
run zero bs = []
run (suc k) [] = []
run (suc k) (b ∷ bs) = cond (is_digit b) (b ∷ run k bs) []

abbrev pub run_here : (text : List ℕ) → (at : ℕ) → List ℕ
run_here s at = run most_digits (drop at s)

-- these digits end at e and have the value v
pub record DigitsRead (text : List ℕ) (at e v : ℕ) : Type 0 where
  pub ends : at + length (run_here text at) ≡ e
  pub worth : value (run_here text at) ≡ v

-- the number that they are, and where they end
unfoldable pub digits_here : (text : List ℕ) → (at : ℕ) → Option (Row 1)
digits_here s at = cond (is_number (run_here s at)) (Some (one_number (value (run_here s at)) (at + length (run_here s at)))) None

-- the field at a place as a number, where `stop` follows it, and the place past `stop`
unfoldable pub number_before : (text : List ℕ) → (at stop : ℕ) → Option (Row 1)
number_before s at stop =
    cond (is_number (field_here s at) && eqb (get_or s (at + length (field_here s at)) 0) stop)
    (Some (one_number (value (field_here s at)) (at + suc (length (field_here s at))))) None

-- the line at a place as a row of one signed number
unfoldable pub signed_last : (text : List ℕ) → (at : ℕ) → Option (Signed × ℕ)
signed_last s at =
    let l = line_here s at in
    cond ((l.closed && eqb (length (fields l.text)) 1) && is_signed (field l 0)) (Some (signed_number (field l 0), past_line s at)) None
