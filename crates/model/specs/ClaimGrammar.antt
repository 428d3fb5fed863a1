-- "Reading equals a grammar written without the reader": a claim as a tree, what each part spells, and what is asked of it.
-- Assumes nothing: these are definitions.
use Rattle.std.specs.Prelude.{Bool, true, false, ◌&&◌, ◌||◌, not, List, [], ◌∷◌, ◌++◌, ℕ, ltb, leb, eqb, length}
use Rattle.std.proofs.Math.Option.{Option, none, some, get_or}
use Rattle.text.specs.Ascii.{ascii, line_feed}
use Rattle.model.specs.Run.{member, is_some}
use Rattle.model.specs.ClaimLabels.{Label, or_level, label_tokens, label_depth, label_within, deepest, open_label, close_label, open_bracket, close_bracket, open_mark, close_mark}
use Rattle.model.specs.ClaimTokens.{Token, name, header, number, string, symbol, body_mark, end_mark, alias, comment, stray, is_small}

-- THE HEADER, item by item: "The headers read are HOA, States, Start, AP and Acceptance. Other headers with a small first
-- letter are skipped, as the format says", with the plain tokens after them
pub data Item : Type 0 where
  states : (count : ℕ) → Item
  start : (state : ℕ) → Item
  propositions : (names : List (List ℕ)) → Item
  acceptance : Item
  skipped : (header : List ℕ) → (plain : List Token) → Item

unfoldable pub strings : List (List ℕ) → List Token
strings [] = []
strings (w ∷ ws) = string w ∷ strings ws

-- "with `Acceptance: 1 Inf(0)`"
abbrev pub taken_acceptance : List Token
taken_acceptance = number 1 ∷ name (ascii "Inf") ∷ open_bracket ∷ number 0 ∷ close_bracket ∷ []

unfoldable pub item_tokens : Item → List Token
item_tokens (states n) = header (ascii "States") ∷ number n ∷ []
item_tokens (start s) = header (ascii "Start") ∷ number s ∷ []
item_tokens (propositions ws) = header (ascii "AP") ∷ number (length ws) ∷ strings ws
item_tokens acceptance = header (ascii "Acceptance") ∷ taken_acceptance
item_tokens (skipped h ts) = header h ∷ ts

-- THE BODY: "labels on edges", "state marks", "state names"
pub record Edge : Type 0 where
  pub label : Label or_level
  pub to : ℕ

pub record State : Type 0 where
  pub number : ℕ
  pub title : Option (List ℕ)
  pub marks : Option (List ℕ)
  pub edges : List Edge

unfoldable pub numbers : List ℕ → List Token
numbers [] = []
numbers (v ∷ vs) = number v ∷ numbers vs

unfoldable pub title_tokens : Option (List ℕ) → List Token
title_tokens none = []
title_tokens (some w) = string w ∷ []

unfoldable pub mark_tokens : Option (List ℕ) → List Token
mark_tokens none = []
mark_tokens (some vs) = open_mark ∷ numbers vs ++ (close_mark ∷ [])

unfoldable pub edge_tokens : Edge → List Token
edge_tokens e = open_label ∷ label_tokens e.label ++ (close_label ∷ number e.to ∷ [])

unfoldable pub edges_tokens : List Edge → List Token
edges_tokens [] = []
edges_tokens (e ∷ es) = edge_tokens e ++ edges_tokens es

unfoldable pub state_tokens : State → List Token
state_tokens s = header (ascii "State") ∷ number s.number ∷ title_tokens s.title ++ (mark_tokens s.marks ++ edges_tokens s.edges)

unfoldable pub items_tokens : List Item → List Token
items_tokens [] = []
items_tokens (i ∷ is) = item_tokens i ++ items_tokens is

unfoldable pub states_tokens : List State → List Token
states_tokens [] = []
states_tokens (s ∷ ss) = state_tokens s ++ states_tokens ss

-- A CLAIM as it is spelled
pub record Syntax : Type 0 where
  pub items : List Item
  pub states : List State

unfoldable pub syntax_tokens : Syntax → List Token
syntax_tokens a =
    header (ascii "HOA") ∷ name (ascii "v1") ∷ items_tokens a.items
    ++ (body_mark ∷ states_tokens a.states ++ (end_mark ∷ []))

-- WHAT THE HEADER GIVES
unfoldable pub state_count : List Item → Option ℕ
state_count [] = none
state_count (states n ∷ is) = some n
state_count (start s ∷ is) = state_count is
state_count (propositions ws ∷ is) = state_count is
state_count (acceptance ∷ is) = state_count is
state_count (skipped h ts ∷ is) = state_count is

unfoldable pub start_state : List Item → Option ℕ
start_state [] = none
start_state (states n ∷ is) = start_state is
start_state (start s ∷ is) = some s
start_state (propositions ws ∷ is) = start_state is
start_state (acceptance ∷ is) = start_state is
start_state (skipped h ts ∷ is) = start_state is

unfoldable pub proposition_names : List Item → Option (List (List ℕ))
proposition_names [] = none
proposition_names (states n ∷ is) = proposition_names is
proposition_names (start s ∷ is) = proposition_names is
proposition_names (propositions ws ∷ is) = some ws
proposition_names (acceptance ∷ is) = proposition_names is
proposition_names (skipped h ts ∷ is) = proposition_names is

unfoldable pub has_acceptance : List Item → Bool
has_acceptance [] = false
has_acceptance (states n ∷ is) = has_acceptance is
has_acceptance (start s ∷ is) = has_acceptance is
has_acceptance (propositions ws ∷ is) = has_acceptance is
has_acceptance (acceptance ∷ is) = true
has_acceptance (skipped h ts ∷ is) = has_acceptance is

unfoldable pub count_in : List Item → ℕ
count_in is = get_or (state_count is) 0

-- no AP: no proposition
unfoldable pub propositions_in : List Item → ℕ
propositions_in is = length (get_or (proposition_names is) [])

-- LIMITS: "at most 15 states, 8 propositions", "state names of at most 32 bytes as stored"
abbrev pub most_states : ℕ
most_states = 15

abbrev pub most_propositions : ℕ
most_propositions = 8

abbrev pub longest_title : ℕ
longest_title = 32

-- WHAT IS ASKED of an item: a number below the given one, if it is given
unfoldable pub below_given : Option ℕ → ℕ → Bool
below_given none n = true
below_given (some s) n = ltb s n

-- a plain token of a skipped header
unfoldable pub is_plain : Token → Bool
is_plain (name w) = true
is_plain (header w) = false
is_plain (number v) = true
is_plain (string w) = true
is_plain (symbol b) = false
is_plain body_mark = false
is_plain end_mark = false
is_plain alias = false
is_plain comment = false
is_plain stray = false

unfoldable pub all_plain : List Token → Bool
all_plain [] = true
all_plain (t ∷ ts) = is_plain t && all_plain ts

unfoldable pub small_first : List ℕ → Bool
small_first [] = false
small_first (b ∷ bs) = is_small b

-- an item fits those before it: none of the four comes twice; states 1 to 15; "one single start state", below the states
-- if these are given, and else below 15
unfoldable pub item_fits : (before : List Item) → Item → Bool
item_fits is (states n) = (not (is_some (state_count is)) && (leb 1 n && leb n most_states)) && below_given (start_state is) n
item_fits is (start s) = not (is_some (start_state is)) && ltb s (get_or (state_count is) most_states)
item_fits is (propositions ws) = not (is_some (proposition_names is)) && leb (length ws) most_propositions
item_fits is acceptance = not (has_acceptance is)
item_fits is (skipped h ts) = small_first h && all_plain ts

unfoldable pub items_fit : (before more : List Item) → Bool
items_fit is [] = true
items_fit is (i ∷ js) = item_fits is i && items_fit (is ++ (i ∷ [])) js

-- "a missing state count, start, acceptance"
unfoldable pub header_whole : List Item → Bool
header_whole is = (is_some (state_count is) && is_some (start_state is)) && has_acceptance is

-- of a state line: "state names of at most 32 bytes as stored, without line feed"
unfoldable pub title_fits : Option (List ℕ) → Bool
title_fits none = true
title_fits (some w) = leb (length w) longest_title && not (member line_feed w)

-- the one acceptance set is 0
unfoldable pub all_zero : List ℕ → Bool
all_zero [] = true
all_zero (v ∷ vs) = eqb v 0 && all_zero vs

unfoldable pub marks_fit : Option (List ℕ) → Bool
marks_fit none = true
marks_fit (some vs) = all_zero vs

-- a label is not too deep and names no proposition that is not there; the target is a state
unfoldable pub edge_fits : (n k : ℕ) → Edge → Bool
edge_fits n k e = (leb (label_depth e.label) deepest && label_within k e.label) && ltb e.to n

unfoldable pub edges_fit : (n k : ℕ) → List Edge → Bool
edges_fit n k [] = true
edges_fit n k (e ∷ es) = edge_fits n k e && edges_fit n k es

unfoldable pub has_line : ℕ → List State → Bool
has_line v [] = false
has_line v (s ∷ ss) = eqb v s.number || has_line v ss

-- a state line fits those before it: a state, and no "second .. line for one state"
unfoldable pub state_fits : (n k : ℕ) → (before : List State) → State → Bool
state_fits n k ss s =
    ((ltb s.number n && not (has_line s.number ss)) && (title_fits s.title && marks_fit s.marks))
    && edges_fit n k s.edges

unfoldable pub states_fit : (n k : ℕ) → (before more : List State) → Bool
states_fit n k ss [] = true
states_fit n k ss (t ∷ ts) = state_fits n k ss t && states_fit n k (ss ++ (t ∷ [])) ts

-- TAKEN: every item and every line fits, no header is missing, and every state has its line
unfoldable pub taken : Syntax → Bool
taken a =
    let n = count_in a.items in
    (items_fit [] a.items && header_whole a.items)
    && (states_fit n (propositions_in a.items) [] a.states && eqb (length a.states) n)
