-- Rows of numbers and the first lines of a case, in the parts that are written one after the other. Assumes nothing:
-- these are definitions.
use Rattle.std.specs.Prelude.{List, [], ◌∷◌, ◌++◌, ℕ}
use Rattle.text.specs.Ascii.{ascii, line_feed, space}
use Rattle.text.specs.Numbers.{decimal}
use Rattle.model.specs.CaseFile.{head_names, vertex_names}

-- a row of numbers: a space behind each but the last, a line feed behind that
abbrev pub row_parts : List ℕ → List (List ℕ)
row_parts [] = (line_feed ∷ []) ∷ []
row_parts (v ∷ []) = decimal v ∷ (line_feed ∷ []) ∷ []
row_parts (v ∷ w ∷ vs) = decimal v ∷ (space ∷ []) ∷ row_parts (w ∷ vs)

-- a case's first three lines: names, version 1 and the four numbers, names
abbrev pub head_parts : (n m source workers : ℕ) → List (List ℕ)
head_parts n m s p =
    (head_names ++ line_feed ∷ ascii "1 ") ∷ (row_parts (n ∷ m ∷ s ∷ p ∷ []) ++ ((vertex_names ++ line_feed ∷ []) ∷ []))
