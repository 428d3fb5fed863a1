-- The lines that the desk programs print. Assumes nothing: these are definitions.
use Rattle.std.specs.Prelude.{◌≡◌, cond, List, [], ◌∷◌, ◌++◌, ℕ, Some}
use Rattle.text.specs.Ascii.{ascii, line_feed}
use Rattle.text.specs.Lines.{text}
use Rattle.text.specs.Numbers.{decimal}
use Rattle.text.specs.Writing.{Chain}
use Rattle.text.specs.declared.write.Writer.{Writer}
use Rattle.model.specs.BuiltEntry.{names_pair}
use Rattle.model.specs.declared.Built.{Built}

-- a name and a number
unfoldable pub count_line : (name : List ℕ) → (count : ℕ) → List ℕ
count_line s n = text ((s ∷ decimal n ∷ []) ∷ [])

-- "On a refusal it prints one line: `refused`, a space and the number"
unfoldable pub refused_line : (refusal : ℕ) → List ℕ
refused_line k = count_line (ascii "refused") k

-- and with 18 and 19 two lines more, for the pair
unfoldable pub pair_lines : (mode flags : ℕ) → List ℕ
pair_lines q f = count_line (ascii "mode") q ++ count_line (ascii "flags") f

unfoldable pub refused_lines : (refusal mode flags : ℕ) → List ℕ
refused_lines k q f = refused_line k ++ cond (names_pair k) (pair_lines q f) []

-- the same in the parts that are written one after the other
abbrev pub count_parts : (word : List ℕ) → (count : ℕ) → List (List ℕ)
count_parts w n = w ∷ decimal n ∷ (line_feed ∷ []) ∷ []

abbrev pub refused_parts : (refusal : ℕ) → List (List ℕ)
refused_parts k = count_parts (ascii "refused ") k

abbrev pub pair_parts : (mode flags : ℕ) → List (List ℕ)
pair_parts q f = count_parts (ascii "mode ") q ++ count_parts (ascii "flags ") f

abbrev pub all_parts : (refusal mode flags : ℕ) → List (List ℕ)
all_parts k q f = refused_parts k ++ cond (names_pair k) (pair_parts q f) []

-- a page after building: its end is as was said, or the lines of the refusal are written
pub record Finishes (b : Built) (w v : Writer) : Type 0 where
  pub built : b.refusal ≡ 0 → (v.end ≡ Some b.written) × (v.output.now ≡ w.output.now)
  pub refused : (b.refusal ≡ 0 → ⊥) → Chain (all_parts b.refusal b.mode b.combination) w v
