-- The names that the listing shows, as parts of the chart's text or the claim's, and its lines. Assumes nothing: these are
-- definitions.
use Rattle.std.specs.Prelude.{◌≡◌, Bool, true, ◌&&◌, cond, List, [], ◌∷◌, ℕ, ◌+◌, ◌/◌, ◌%◌, ◌<◌, min, eqb, length, get_or, take, drop}
use Rattle.std.specs.Borrow.{Bor}
use Rattle.text.specs.Lines.{Line, lines, text}
use Rattle.text.specs.Numbers.{decimal, numbers_line}
use Rattle.text.specs.Reading.{field_here, Part}
use Rattle.text.specs.Writing.{Puts}
use Rattle.text.specs.declared.write.Writer.{Writer}
use Rattle.model.specs.Graph.{Edge}
use Rattle.model.specs.CaseFile.{column}
use Rattle.claim.specs.Cells.{name_cell, length_cell}
use Rattle.chart.specs.Reading.{name_place}
use Rattle.product.specs.Tables.{end_of}
use Rattle.product.specs.declared.steps.Names.{Names}
use Rattle.product.specs.declared.names.Place.{Place}
use Rattle.product.specs.declared.names.Place.TheVariants.{Mode, State}

-- "the name printed is part of the chart or of the claim, as stored there": its bytes, and that it lies in the text's own block,
-- at that place
pub record Piece (text : Bor (List ℕ)) (at many : ℕ) (part : Bor (List ℕ)) : Type 0 where
  pub bytes : part.now ≡ take many (drop at text.now)
  pub block : part.ref_ptr.0 ≡ text.ref_ptr.0
  pub offset : part.ref_ptr.1 ≡ min at (length text.now) + text.ref_ptr.1

-- a mode's name is a field of the chart, a state's is what stands between its quotes in the claim
abbrev pub NameIs : (chart claim : Bor (List ℕ)) → Place → (name : Bor (List ℕ)) → Type 0
NameIs h k (Mode at) r = Part h at r
NameIs h k (State at many) r = Piece k at many r

-- a claim state, by where its name stands
unfoldable pub state_text : (claim cells : List ℕ) → (state : ℕ) → List ℕ
state_text k cs s =
    let at = get_or cs (name_cell s) 0 in
    cond (eqb at 0) (decimal s) (take (get_or cs (length_cell s) 0) (drop at k))

-- where the modes' names stand
pub record PlacesFilled (chart places : List ℕ) : Type 0 where
  pub at : (q : ℕ) → q < length places → get_or places q 0 ≡ name_place chart q

-- A LINE OF THE LISTING, by these texts, places and cells
unfoldable pub row_by : (chart claim places cells : List ℕ) → (states vertex : ℕ) → List (List ℕ)
row_by h k ps cs n v = field_here h (get_or ps (v / n) 0) ∷ state_text k cs (v % n) ∷ []

abbrev pub named_row : Names → (vertex : ℕ) → List (List ℕ)
named_row n v = row_by n.chart.now n.claim.now n.places.now n.cells.now n.states v

-- one line for each edge of a walk from v on, by the vertex that each leads to
unfoldable pub rows_by : (row : ℕ → List (List ℕ)) → (edges : List Edge) → (v : ℕ) → (walk : List ℕ) → List (List (List ℕ))
rows_by row ds v [] = []
rows_by row ds v (e ∷ es) = row v ∷ rows_by row ds (end_of ds e v) es

unfoldable pub all_single : List Line → Bool
all_single [] = true
all_single (l ∷ ls) = numbers_line 1 l && all_single ls

-- the lines of all edges that stand in an answer from a place on, if nothing else stands there
pub record StepsWritten (row : ℕ → List (List ℕ)) (answer : List ℕ) (at v : ℕ) (edges : List Edge) (w z : Writer) : Type 0 where
  pub lines : all_single (lines (drop at answer)) ≡ true → Puts (text (rows_by row edges v (column 0 (lines (drop at answer))))) w z
