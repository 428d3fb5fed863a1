-- What a claim means: an automaton over flag values; and the claim in a text. Assumes nothing: these are definitions.
use Rattle.std.specs.Prelude.{◌≡◌, Bool, false, ◌&&◌, ◌||◌, cond, List, [], ◌∷◌, ℕ, zero, suc, ◌≤◌, ◌<◌, ltb, eqb, length, get_or}
use Rattle.std.proofs.Math.Option
use Rattle.std.proofs.Math.Option.{Option, none, some}
use Rattle.text.specs.Ascii.{line_feed}
use Rattle.model.specs.Run.{member}
use Rattle.model.specs.ClaimLabels.{truth}
use Rattle.model.specs.ClaimGrammar.{Edge, State, Syntax, count_in, propositions_in, start_state, most_states, most_propositions, longest_title}
use Rattle.model.specs.ClaimTable.{bare, Told, taken_as, refused, claim_told}

-- an edge leads to its target on the flag values of which its label holds
pub record ClaimEdge : Type 0 where
  pub holds : (values : ℕ) → Bool
  pub target : ℕ

pub record ClaimState : Type 0 where
  pub name : Option (List ℕ)
  pub accepting : Bool
  pub edges : List ClaimEdge

-- states by number
pub record Claim : Type 0 where
  pub propositions : ℕ
  pub start : ℕ
  pub states : List ClaimState

unfoldable pub state : Claim → (c : ℕ) → ClaimState
state k c = get_or k.states c (record { name = none; accepting = false; edges = [] })

-- MOVES: a label that holds of these flag values leads from one state to the other
unfoldable pub some_edge : List ClaimEdge → (values target : ℕ) → Bool
some_edge [] f t = false
some_edge (e ∷ es) f t = (eqb e.target t && e.holds f) || some_edge es f t

unfoldable pub claim_moves : Claim → (values from to : ℕ) → Bool
claim_moves k f c d = some_edge (state k c).edges f d

-- LEADS: an edge line leads from one state to the other, whatever its label
unfoldable pub some_target : List ClaimEdge → (target : ℕ) → Bool
some_target [] t = false
some_target (e ∷ es) t = eqb e.target t || some_target es t

unfoldable pub claim_leads : Claim → (from to : ℕ) → Bool
claim_leads k c d = some_target (state k c).edges d

-- THE CLAIM that is spelled: a state's mark is `{0}`, also with 0 more than once; `{}` marks nothing
unfoldable pub is_marked : Option (List ℕ) → Bool
is_marked none = false
is_marked (some ms) = ltb 0 (length ms)

unfoldable pub edges_of : List Edge → List ClaimEdge
edges_of [] = []
edges_of (e ∷ es) = record { holds = truth e.label; target = e.to } ∷ edges_of es

unfoldable pub state_of_line : State → ClaimState
state_of_line s = record { name = s.title; accepting = is_marked s.marks; edges = edges_of s.edges }

-- "lines in any order": the line of a state, a bare one where there is none
unfoldable pub line_of : (c : ℕ) → List State → State
line_of c [] = bare c none none
line_of c (s ∷ ss) = cond (eqb c s.number) s (line_of c ss)

-- the states from number c on, so many
unfoldable pub states_from : (many c : ℕ) → List State → List ClaimState
states_from zero c ss = []
states_from (suc k) c ss = state_of_line (line_of c ss) ∷ states_from k (suc c) ss

unfoldable pub claim_of : Syntax → Claim
claim_of a =
    record {
      propositions = propositions_in a.items;
      start = Option.get_or (start_state a.items) 0;
      states = states_from (count_in a.items) 0 a.states;
    }

-- THE CLAIM in a text; one without states where the text is refused
unfoldable pub tree_of : Told → Syntax
tree_of (taken_as a) = a
tree_of (refused k) = record { items = []; states = [] }

unfoldable pub claim_in : (text : List ℕ) → Claim
claim_in bs = claim_of (tree_of (claim_told bs))

-- SOUND: what every claim has that is taken
pub record ClaimSound (k : Claim) : Type 0 where
  pub states : length k.states ≤ most_states
  pub start : k.start < length k.states
  pub propositions : k.propositions ≤ most_propositions
  pub names : (c : ℕ) (w : List ℕ) → (state k c).name ≡ some w → length w ≤ longest_title
  pub one_line : (c : ℕ) (w : List ℕ) → (state k c).name ≡ some w → member line_feed w ≡ false
  pub targets : (c d : ℕ) → length k.states ≤ d → claim_leads k c d ≡ false
