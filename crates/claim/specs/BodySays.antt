-- What the readers of the body say: from a place on, what is left gives the whole, and what was read stands in the cells.
-- Assumes nothing: these are definitions.
use Rattle.std.specs.Prelude.{◌≡◌, Bool, false, ◌&&◌, ◌||◌, List, [], ◌∷◌, ◌++◌, ℕ, ◌<◌, ltb, eqb, length, Option as Maybe, Some, None, Result, Ok, Err, ⊤}
use Rattle.std.proofs.Math.Option.{Option, none}
use Rattle.model.specs.ClaimTokens as T
use Rattle.model.specs.ClaimLabels.{bit, truth, label_start}
use Rattle.model.specs.ClaimGrammar.{Item, Edge, State, Syntax, count_in, propositions_in, has_line, most_states}
use Rattle.model.specs.ClaimTable.{complete, in_lines, wants_state, in_line, in_marks, in_label, numbered, marked, bare, line_at, snoc, with_edge, Next, go, edge_step, marks_step, Told, told, taken_as, refused}
use Rattle.claim.specs.Reads.{claim_tokens, PastBlanks, Ahead, Onward, Parsed}
use Rattle.claim.specs.LabelSays.{most_values, holds}
use Rattle.claim.specs.declared.labels.Values.{Values}
use Rattle.claim.specs.Cells.{set_of, Adds, LinesHeld}
use Rattle.model.specs.Refusals.{number}
use Rattle.model.specs.declared.refusal.Refusal.{Refusal}

-- from where a step looks at the next token
unfoldable pub from_step : (T.Token → Next) → List T.Token → Told
from_step f [] = refused 15
from_step f (t ∷ ts) = told (f t) ts

-- THE NAME of state c, if one is there
abbrev pub TitleSays : (text : List ℕ) → (c at : ℕ) → Result ℕ Refusal → (cells cells_now : List ℕ) → Type 0
TitleSays s c at (Ok n) w v =
    (o : Option (List ℕ))
    × ((is : List Item) (ls : List State) → told (go (in_line is ls (numbered c))) (claim_tokens s at) ≡ from_step (marks_step is ls c o) (claim_tokens s n))
    × Adds s c (bare c none none) (bare c o none) w v
    × Onward s at n
TitleSays s c at (Err j) w v = (is : List Item) (ls : List State) → told (go (in_line is ls (numbered c))) (claim_tokens s at) ≡ refused (number j)

-- THE MARK: the numbers up to }, and whether there are any
abbrev pub MarksSay : (text : List ℕ) → (at : ℕ) → Parsed Bool → Type 0
MarksSay s at (Ok (any, n)) =
    (ms : List ℕ)
    × (any ≡ ltb 0 (length ms))
    × ((is : List Item) (ls : List State) (c : ℕ) (o : Option (List ℕ)) → told (go (in_marks is ls c o [])) (claim_tokens s at) ≡ told (go (in_line is ls (marked c o ms))) (claim_tokens s n))
    × Onward s at n
MarksSay s at (Err j) = (is : List Item) (ls : List State) (c : ℕ) (o : Option (List ℕ)) → told (go (in_marks is ls c o [])) (claim_tokens s at) ≡ refused (number j)

-- the mark of state c, if one is there, after whatever name
abbrev pub MarkSays : (text : List ℕ) → (c at : ℕ) → Result ℕ Refusal → (cells cells_now : List ℕ) → Type 0
MarkSays s c at (Ok n) w v =
    (m : Option (List ℕ))
    × ((is : List Item) (ls : List State) (o : Option (List ℕ)) → from_step (marks_step is ls c o) (claim_tokens s at) ≡ from_step (edge_step (line_at is ls (bare c o m))) (claim_tokens s n))
    × ((o : Option (List ℕ)) → Adds s c (bare c o none) (bare c o m) w v)
    × Onward s at n
MarkSays s c at (Err j) w v = (is : List Item) (ls : List State) (o : Option (List ℕ)) → from_step (marks_step is ls c o) (claim_tokens s at) ≡ refused (number j)

-- EDGES, of n states and k propositions: one, past its [, and that no edge mark follows it; its flag values are among its target's
abbrev pub EdgeSays : (text : List ℕ) → (n k at : ℕ) → Parsed ℕ → (sets sets_now : List Values) → Type 0
EdgeSays s n k at (Ok (d, z)) w v =
    (e : Edge)
    × (e.to ≡ d) × (d < n)
    × ((is : List Item) (ls : List State) (l : State) → count_in is ≡ n → propositions_in is ≡ k → told (go (in_label (line_at is ls l) label_start)) (claim_tokens s at) ≡ from_step (edge_step (line_at is ls (with_edge l e))) (claim_tokens s z))
    × ((t f : ℕ) → f < most_values → holds (set_of v t) f ≡ (holds (set_of w t) f || (truth e.label f && eqb t d)))
    × Onward s at z
    × PastBlanks s z
EdgeSays s n k at (Err j) w v =
    (is : List Item) (ls : List State) (l : State) → count_in is ≡ n → propositions_in is ≡ k → told (go (in_label (line_at is ls l) label_start)) (claim_tokens s at) ≡ refused (number j)

-- all that are there, of state c
abbrev pub with_edges : State → List Edge → State
with_edges l es = record { number = l.number; title = l.title; marks = l.marks; edges = l.edges ++ es }

abbrev pub EdgesSay : (text : List ℕ) → (n k c at : ℕ) → Result ℕ Refusal → (cells cells_now : List ℕ) → Type 0
EdgesSay s n k c at (Ok z) w v =
    (es : List Edge)
    × ((is : List Item) (ls : List State) (l : State) → count_in is ≡ n → propositions_in is ≡ k → from_step (edge_step (line_at is ls l)) (claim_tokens s at) ≡ told (go (in_lines is (snoc ls (with_edges l es)))) (claim_tokens s z))
    × ((l : State) → l.number ≡ c → Adds s c l (with_edges l es) w v)
    × Onward s at z
EdgesSay s n k c at (Err j) w v =
    (is : List Item) (ls : List State) (l : State) → count_in is ≡ n → propositions_in is ≡ k → from_step (edge_step (line_at is ls l)) (claim_tokens s at) ≡ refused (number j)

-- what follows a state's number
abbrev pub RestSays : (text : List ℕ) → (n k c at : ℕ) → Result ℕ Refusal → (cells cells_now : List ℕ) → Type 0
RestSays s n k c at (Ok z) w v =
    (l : State)
    × (l.number ≡ c)
    × ((is : List Item) (ls : List State) → count_in is ≡ n → propositions_in is ≡ k → told (go (in_line is ls (numbered c))) (claim_tokens s at) ≡ told (go (in_lines is (snoc ls l))) (claim_tokens s z))
    × Adds s c (bare c none none) l w v
    × Onward s at z
RestSays s n k c at (Err j) w v = (is : List Item) (ls : List State) → count_in is ≡ n → propositions_in is ≡ k → told (go (in_line is ls (numbered c))) (claim_tokens s at) ≡ refused (number j)

-- A LINE, past its `State:`. Its number is a state that is not listed yet
abbrev pub Listed : List State → (bits : ℕ) → Type 0
Listed ls b = (v : ℕ) → v < most_states → has_line v ls ≡ bit b v

abbrev pub NumberRead : (text : List ℕ) → (n bits at : ℕ) → Parsed ℕ → Type 0
NumberRead s n b at (Ok (c, z)) =
    ((is : List Item) (ls : List State) → count_in is ≡ n → Listed ls b → told (go (wants_state is ls)) (claim_tokens s at) ≡ told (go (in_line is ls (numbered c))) (claim_tokens s z))
    × (c < n) × (bit b c ≡ false) × Onward s at z
NumberRead s n b at (Err j) = (is : List Item) (ls : List State) → count_in is ≡ n → Listed ls b → told (go (wants_state is ls)) (claim_tokens s at) ≡ refused (number j)

-- the whole line: its state's number and the place past it
abbrev pub LineSays : (text : List ℕ) → (n k bits at : ℕ) → Parsed ℕ → (cells cells_now : List ℕ) → Type 0
LineSays s n k b at (Ok (c, z)) w v =
    (l : State)
    × (l.number ≡ c)
    × (c < n) × (bit b c ≡ false)
    × ((is : List Item) (ls : List State) → count_in is ≡ n → propositions_in is ≡ k → Listed ls b → told (go (wants_state is ls)) (claim_tokens s at) ≡ told (go (in_lines is (snoc ls l))) (claim_tokens s z))
    × ((ls : List State) → has_line c ls ≡ false → LinesHeld s ls w → LinesHeld s (snoc ls l) v)
    × Onward s at z
LineSays s n k b at (Err j) w v = (is : List Item) (ls : List State) → count_in is ≡ n → propositions_in is ≡ k → Listed ls b → told (go (wants_state is ls)) (claim_tokens s at) ≡ refused (number j)

-- past --END--
abbrev pub EndSays : (text : List ℕ) → (at : ℕ) → Result ⊤ Refusal → Type 0
EndSays s at (Ok u) = (a : Syntax) → told (go (complete a)) (claim_tokens s at) ≡ taken_as a
EndSays s at (Err j) = (a : Syntax) → told (go (complete a)) (claim_tokens s at) ≡ refused (number j)

-- WHAT IS DUE after so many lines: one more, past its `State:`; none, since the claim is whole; or the refusal
abbrev pub DueSays : (text : List ℕ) → (n many at : ℕ) → Result (Maybe ℕ) Refusal → Type 0
DueSays s n m at (Ok (Some z)) =
    ((is : List Item) (ls : List State) → count_in is ≡ n → length ls ≡ m → told (go (in_lines is ls)) (claim_tokens s at) ≡ told (go (wants_state is ls)) (claim_tokens s z))
    × (m < n) × Ahead s at z
DueSays s n m at (Ok None) =
    (is : List Item) (ls : List State) → count_in is ≡ n → length ls ≡ m → told (go (in_lines is ls)) (claim_tokens s at) ≡ taken_as (record { items = is; states = ls })
DueSays s n m at (Err j) = (is : List Item) (ls : List State) → count_in is ≡ n → length ls ≡ m → told (go (in_lines is ls)) (claim_tokens s at) ≡ refused (number j)

-- THE BODY, past its --BODY-- up to the text's end: its lines stand in the cells; or the refusal
abbrev pub BodySays : (text : List ℕ) → (n k at : ℕ) → Result ⊤ Refusal → (cells cells_now : List ℕ) → Type 0
BodySays s n k at (Ok u) w v =
    (ls : List State)
    × ((is : List Item) → count_in is ≡ n → propositions_in is ≡ k → told (go (in_lines is [])) (claim_tokens s at) ≡ taken_as (record { items = is; states = ls }))
    × (LinesHeld s [] w → LinesHeld s ls v)
BodySays s n k at (Err j) w v = (is : List Item) → count_in is ≡ n → propositions_in is ≡ k → told (go (in_lines is [])) (claim_tokens s at) ≡ refused (number j)
