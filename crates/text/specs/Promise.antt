-- What is promised of written numbers (Paper 3 of 02). A statement is a type; docs/PROOF-MAP.md names its proof. Assumes
-- nothing: these are definitions.
use Rattle.std.specs.Prelude.{◌≡◌, List, ℕ, ◌^◌, ◌<◌, length, get_or, Some, None}
use Rattle.text.specs.declared.write.Writer.{Writer}
use Rattle.text.specs.Numbers.{decimal, Shortest, Width}
use Rattle.text.specs.Writing.{Writes, Outside}

-- a number's length "is the least number of digits that holds the value, and one more for a minus sign"
unfoldable pub NumbersShortest : Type 0
NumbersShortest = (v : ℕ) → v < 2 ^ 32 → Width v (length (decimal v))

-- there is one such length
unfoldable pub OneLength : Type 0
OneLength = (v j k : ℕ) → Shortest v j → Shortest v k → j ≡ k

-- "No byte outside that place changes", and the buffer keeps its length: of every writer, with room and without, and with no
-- end no byte changes
unfoldable pub OnlyThere : Type 0
OnlyThere =
    (bs : List ℕ) (w v : Writer) → Writes bs w v
    → (length v.output.now ≡ length w.output.now)
    × ((at i : ℕ) → w.end ≡ Some at → Outside at (length bs) i → get_or v.output.now i 0 ≡ get_or w.output.now i 0)
    × (w.end ≡ None → v.output.now ≡ w.output.now)
