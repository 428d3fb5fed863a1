-- What a writer does to its output: bytes in their place, or nothing where they have no room. Assumes nothing: these
-- are definitions.
use Rattle.std.specs.Prelude.{◌≡◌, cond, List, [], ◌∷◌, ◌++◌, ◌⊎◌, ℕ, ◌+◌, ◌≤◌, ◌<◌, leb, length, take, drop, Option, Some, None}
use Rattle.text.specs.declared.write.Writer.{Writer}

-- the output with bs from place at on, every other byte as it was
unfoldable pub put : (at : ℕ) → (bs output : List ℕ) → List ℕ
put at bs o = take at o ++ bs ++ drop (at + length bs) o

-- A WRITER'S END is the place past what it has written. Bytes that have room there go there, and the end is past them; else
-- the output stays as it is, and there is no end any more: nothing has room
unfoldable pub end_after : (end : Option ℕ) → (size room : ℕ) → Option ℕ
end_after None k n = None
end_after (Some at) k n = cond (leb (at + k) n) (Some (at + k)) None

unfoldable pub output_after : (end : Option ℕ) → (bytes output : List ℕ) → List ℕ
output_after None bs o = o
output_after (Some at) bs o = cond (leb (at + length bs) (length o)) (put at bs o) o

-- w is the writer before, v after
pub record Writes (bs : List ℕ) (w v : Writer) : Type 0 where
  pub end : v.end ≡ end_after w.end (length bs) (length w.output.now)
  pub output : v.output.now ≡ output_after w.end bs w.output.now

-- what is written; nothing where something had no room
unfoldable pub front : (end : Option ℕ) → (output : List ℕ) → List ℕ
front None o = []
front (Some n) o = cond (leb n (length o)) (take n o) []

abbrev pub written : Writer → List ℕ
written w = front w.end w.output.now

-- what a caller with room uses of it
pub record Puts (bs : List ℕ) (w v : Writer) : Type 0 where
  pub fits : (at : ℕ) → w.end ≡ Some at → at + length bs ≤ length w.output.now → (v.end ≡ Some (at + length bs)) × (v.output.now ≡ put at bs w.output.now)

-- "outside that place": a byte before it, or past its so many bytes
abbrev pub Outside : (at many i : ℕ) → Type 0
Outside at k i = (i < at) ⊎ (at + k ≤ i)

-- A CHAIN OF WRITES: each part goes to its place if it has room there, and the next one's place is past it
unfoldable pub chain_end : (parts : List (List ℕ)) → (end : Option ℕ) → (output : List ℕ) → Option ℕ
chain_end [] at o = at
chain_end (p ∷ ps) at o = chain_end ps (end_after at (length p) (length o)) (output_after at p o)

unfoldable pub chain_output : (parts : List (List ℕ)) → (end : Option ℕ) → (output : List ℕ) → List ℕ
chain_output [] at o = o
chain_output (p ∷ ps) at o = chain_output ps (end_after at (length p) (length o)) (output_after at p o)

pub record Chain (parts : List (List ℕ)) (w v : Writer) : Type 0 where
  pub end : v.end ≡ chain_end parts w.end w.output.now
  pub output : v.output.now ≡ chain_output parts w.end w.output.now

-- A PLACE for so many bytes, if they have room, and the end past it; the output as it was
unfoldable pub granted : (end : Option ℕ) → (size room : ℕ) → Option ℕ
granted None k n = None
granted (Some at) k n = cond (leb (at + k) n) (Some at) None

pub record Reserves (size : ℕ) (w v : Writer) (r : Option ℕ) : Type 0 where
  pub place : r ≡ granted w.end size (length w.output.now)
  pub end : v.end ≡ end_after w.end size (length w.output.now)
  pub output : v.output.now ≡ w.output.now
