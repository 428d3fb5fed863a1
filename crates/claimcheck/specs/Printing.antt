-- What `claimcheck` prints of a text. Assumes nothing: these are definitions.
use Rattle.std.specs.Prelude.{◌≡◌, cond, List, [], ◌∷◌, ◌++◌, ℕ, suc, ◌≤◌, eqb, length}
use Rattle.std.proofs.Math.Option.{Option, none, some}
use Rattle.text.specs.Ascii.{ascii, space, line_feed}
use Rattle.text.specs.Lines.{text}
use Rattle.text.specs.Numbers.{decimal}
use Rattle.model.specs.ClaimTable.{claim_refusal}
use Rattle.model.specs.Claim.{ClaimState, Claim, claim_in}
use Rattle.model.specs.ClaimEntry.{mark_of}
use Rattle.claim.specs.Cells.{claim_cells, ClaimHeld}
use Rattle.desk.specs.Lines.{refused_line}

-- A STATE: its number, 1 or 0, and its name as stored, if it has one
unfoldable pub name_fields : Option (List ℕ) → List (List ℕ)
name_fields none = []
name_fields (some w) = w ∷ []

unfoldable pub state_row : (number : ℕ) → ClaimState → List (List ℕ)
state_row c s = decimal c ∷ decimal (mark_of s.accepting) ∷ name_fields s.name

unfoldable pub state_rows : (first : ℕ) → List ClaimState → List (List (List ℕ))
state_rows c [] = []
state_rows c (s ∷ ss) = state_row c s ∷ state_rows (suc c) ss

-- A CLAIM: its counts and its states, each below a line of names
abbrev pub count_names : List (List ℕ)
count_names = ascii "states" ∷ ascii "start" ∷ ascii "propositions" ∷ []

abbrev pub state_names : List (List ℕ)
state_names = ascii "state" ∷ ascii "accepting" ∷ ascii "name" ∷ []

unfoldable pub count_row : (states start propositions : ℕ) → List (List ℕ)
count_row n s p = decimal n ∷ decimal s ∷ decimal p ∷ []

unfoldable pub claim_lines : Claim → List ℕ
claim_lines k = text (count_names ∷ count_row (length k.states) k.start k.propositions ∷ state_names ∷ state_rows 0 k.states)

-- the claim in a text, or the line of the refusal
unfoldable pub printed : (text : List ℕ) → List ℕ
printed bs = cond (eqb (claim_refusal bs) 0) (claim_lines (claim_in bs)) (refused_line (claim_refusal bs))

-- AS IT IS WRITTEN: what follows a state's mark
unfoldable pub name_end : Option (List ℕ) → List ℕ
name_end none = line_feed ∷ []
name_end (some w) = space ∷ w ++ (line_feed ∷ [])

unfoldable pub head_lines : (states start propositions : ℕ) → List ℕ
head_lines n s p = text (count_names ∷ count_row n s p ∷ state_names ∷ [])

-- cells that hold the claim in a text, which is taken
pub record ClaimThere (bs : List ℕ) (cells : List ℕ) : Type 0 where
  pub taken : claim_refusal bs ≡ 0
  pub roomy : claim_cells ≤ length cells
  pub held : ClaimHeld bs (claim_in bs) cells

-- every claim has room here
abbrev pub page_room : ℕ
page_room = 1024
