-- The cells into which a claim is read: where the parts of each state stand, and when they hold the lines read so far.
-- Assumes nothing: these are definitions.
use Rattle.std.specs.Prelude.{◌≡◌, Bool, false, ◌&&◌, ◌||◌, List, ℕ, suc, ◌+◌, ◌*◌, ◌<◌, ◌≤◌, eqb, get_or}
use Rattle.model.specs.ClaimLabels.{bit}
use Rattle.model.specs.ClaimGrammar.{State, has_line, most_states}
use Rattle.model.specs.ClaimTable.{snoc}
use Rattle.model.specs.Claim.{Claim, state, claim_leads, claim_moves, some_edge, some_target, is_marked, edges_of, line_of}
use Rattle.model.specs.ClaimEntry.{mark_of, NameAt}
use Rattle.claim.specs.LabelSays.{most_values, holds, nothing}
use Rattle.claim.specs.declared.labels.Values.{Values}

-- of each state: its mark, the place and the length of its name, and a bit for each state that its edges lead to
abbrev pub name_cell : (state : ℕ) → ℕ
name_cell c = most_states + c

abbrev pub length_cell : (state : ℕ) → ℕ
length_cell c = 2 * most_states + c

abbrev pub lead_cell : (state : ℕ) → ℕ
lead_cell c = 3 * most_states + c

-- of each state and flag values: a bit for each state that it may move to
abbrev pub moves_from : (state : ℕ) → ℕ
moves_from c = 4 * most_states + most_values * c

abbrev pub move_cell : (state values : ℕ) → ℕ
move_cell c f = moves_from c + f

abbrev pub claim_cells : ℕ
claim_cells = 4 * most_states + most_values * most_states

-- a state line is held where those of its state stand
pub record LineHeld (s : List ℕ) (l : State) (c : ℕ) (cells : List ℕ) : Type 0 where
  pub mark : get_or cells c 0 ≡ mark_of (is_marked l.marks)
  pub name : NameAt s l.title (get_or cells (name_cell c) 0) (get_or cells (length_cell c) 0)
  pub leads : (d : ℕ) → bit (get_or cells (lead_cell c) 0) d ≡ some_target (edges_of l.edges) d
  pub moves : (f d : ℕ) → f < most_values → bit (get_or cells (move_cell c f) 0) d ≡ some_edge (edges_of l.edges) f d

-- in so many cells from one on, targets more
pub record Added (first many : ℕ) (more : (cell target : ℕ) → Bool) (cells cells_now : List ℕ) : Type 0 where
  pub added : (i e : ℕ) → i < many → bit (get_or cells_now (first + i) 0) e ≡ (bit (get_or cells (first + i) 0) e || more i e)
  pub before : (i : ℕ) → i < first → get_or cells_now i 0 ≡ get_or cells i 0
  pub behind : (i : ℕ) → first + many ≤ i → get_or cells_now i 0 ≡ get_or cells i 0

-- target d, on the flag values of a word and on those of a set
abbrev pub word_moves : (d word : ℕ) → (cell target : ℕ) → Bool
word_moves d x i e = bit x i && eqb e d

abbrev pub set_moves : (d : ℕ) → Values → (values target : ℕ) → Bool
set_moves d w f e = holds w f && eqb e d

-- sets of flag values, by target
abbrev pub set_of : (sets : List Values) → (target : ℕ) → Values
set_of u t = get_or u t nothing

pub record Gathered (d : ℕ) (w : Values) (sets sets_now : List Values) : Type 0 where
  pub gathered : (t f : ℕ) → holds (set_of sets_now t) f ≡ (holds (set_of sets t) f || (holds w f && eqb t d))

-- edges more: their targets, and on the flag values of each one's set
pub record Led (c leads : ℕ) (sets : List Values) (cells cells_now : List ℕ) : Type 0 where
  pub led : (e : ℕ) → bit (get_or cells_now (lead_cell c) 0) e ≡ (bit (get_or cells (lead_cell c) 0) e || bit leads e)
  pub moved : (f e : ℕ) → f < most_values → bit (get_or cells_now (move_cell c f) 0) e ≡ (bit (get_or cells (move_cell c f) 0) e || (bit leads e && holds (set_of sets e) f))
  pub before : (i : ℕ) → i < moves_from c → (i ≡ lead_cell c → ⊥) → get_or cells_now i 0 ≡ get_or cells i 0
  pub behind : (i : ℕ) → moves_from (suc c) ≤ i → get_or cells_now i 0 ≡ get_or cells i 0

-- the lines so far are held, and of the other states nothing
abbrev pub LinesHeld : (text : List ℕ) → List State → (cells : List ℕ) → Type 0
LinesHeld s ls w = (c : ℕ) → c < most_states → LineHeld s (line_of c ls) c w

-- what a piece of state c's line adds: whatever lines stand before it, where one is held the other is after
abbrev pub Adds : (text : List ℕ) → (c : ℕ) → (before after : State) → (cells cells_now : List ℕ) → Type 0
Adds s c a b w v = (ls : List State) → has_line c ls ≡ false → LinesHeld s (snoc ls a) w → LinesHeld s (snoc ls b) v

-- A CLAIM in its cells
pub record ClaimHeld (s : List ℕ) (k : Claim) (cells : List ℕ) : Type 0 where
  pub marks : (c : ℕ) → c < most_states → get_or cells c 0 ≡ mark_of (state k c).accepting
  pub names : (c : ℕ) → c < most_states → NameAt s (state k c).name (get_or cells (name_cell c) 0) (get_or cells (length_cell c) 0)
  pub leads : (c d : ℕ) → c < most_states → bit (get_or cells (lead_cell c) 0) d ≡ claim_leads k c d
  pub moves : (c f d : ℕ) → c < most_states → f < most_values → bit (get_or cells (move_cell c f) 0) d ≡ claim_moves k f c d
