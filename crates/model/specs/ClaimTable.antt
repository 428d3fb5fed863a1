-- "Of 15 and 16 the first in the text decides, each standing where a reader from the front can first tell it": of each
-- place in a claim, the tokens that it takes, those that are named under 16 there, and all others, 15. Assumes nothing:
-- these are definitions.
use Rattle.model.specs.Run.{is_some}
use Rattle.std.specs.Prelude.{Bool, true, false, ◌&&◌, ◌||◌, not, cond, List, [], ◌∷◌, ◌++◌, ℕ, zero, suc, ltb, leb, eqb, length}
use Rattle.std.proofs.Math.Option.{Option, none, some}
use Rattle.text.specs.Ascii.{ascii}
use Rattle.text.specs.Lines.{equal}
use Rattle.model.specs.ClaimTokens.{Token, name, header, number, string, symbol, body_mark, end_mark, alias, comment, stray, tokens, opens, is_capital, is_header, is_name}
use Rattle.model.specs.ClaimLabels.{or_level, Label, open_label, open_bracket, close_bracket, open_mark, close_mark, not_sign, and_sign, or_sign, Reading, label_start, LabelNext, on, label_ends, broken, label_step}
use Rattle.model.specs.ClaimGrammar.{Item, states, start, propositions, acceptance, skipped, Edge, State, Syntax, item_fits, header_whole, state_count, start_state, proposition_names, has_acceptance, small_first, count_in, propositions_in, has_line, title_fits, most_propositions, is_plain}

-- what stands last in the header
pub data Last : Type 0 where
  whole after_start after_acceptance : Last

-- a state line under way, by what it ends with so far
pub data Part : Type 0 where
  numbered : (number : ℕ) → Part
  titled : (number : ℕ) → (title : List ℕ) → Part
  marked : (number : ℕ) → (title : Option (List ℕ)) → (marks : List ℕ) → Part
  edged : State → Part

abbrev pub bare : ℕ → (title marks : Option (List ℕ)) → State
bare v o m = record { number = v; title = o; marks = m; edges = [] }

unfoldable pub state_of : Part → State
state_of (numbered v) = bare v none none
state_of (titled v w) = bare v (some w) none
state_of (marked v o ms) = bare v o (some ms)
state_of (edged s) = s

-- a state line under way, and what stands before it
pub record Line : Type 0 where
  pub items : List Item
  pub states : List State
  pub state : State

-- PLACES: where a reader from the front stands, with what it has read
pub data Place : Type 0 where
  opening version : Place
  in_items : Last → List Item → Place
  in_skipped : List Item → (header : List ℕ) → (plain : List Token) → Place
  wants_count wants_start wants_propositions : List Item → Place
  wants_names : List Item → (more : ℕ) → (names : List (List ℕ)) → Place
  wants_sets wants_inf wants_open wants_set wants_close : List Item → Place
  in_lines wants_state : List Item → List State → Place
  in_line : List Item → List State → Part → Place
  in_marks : List Item → List State → (number : ℕ) → (title : Option (List ℕ)) → (marks : List ℕ) → Place
  in_label : Line → Reading → Place
  wants_target : Line → Label or_level → Place
  complete : Syntax → Place

-- after one more token: a place, or the refusal
pub data Next : Type 0 where
  go : Place → Next
  fault : ℕ → Next

-- a token that is not taken: "16, a comment"
unfoldable pub otherwise : Token → Next
otherwise (name w) = fault 15
otherwise (header w) = fault 15
otherwise (number v) = fault 15
otherwise (string w) = fault 15
otherwise (symbol b) = fault 15
otherwise body_mark = fault 15
otherwise end_mark = fault 15
otherwise alias = fault 15
otherwise comment = fault 16
otherwise stray = fault 15

-- what a place does with a number, or a string, and nothing else
unfoldable pub on_number : Token → (ℕ → Next) → Next
on_number (number v) f = f v
on_number (name w) f = fault 15
on_number (header w) f = fault 15
on_number (string w) f = fault 15
on_number (symbol b) f = fault 15
on_number body_mark f = fault 15
on_number end_mark f = fault 15
on_number alias f = fault 15
on_number comment f = fault 16
on_number stray f = fault 15

unfoldable pub on_string : Token → (List ℕ → Next) → Next → Next
on_string (string w) f n = f w
on_string (name w) f n = n
on_string (header w) f n = n
on_string (number v) f n = n
on_string (symbol b) f n = n
on_string body_mark f n = n
on_string end_mark f n = n
on_string alias f n = n
on_string comment f n = n
on_string stray f n = n

unfoldable pub is_sign : Token → Token → Bool
is_sign (symbol b) (symbol c) = eqb c b
is_sign (symbol b) (name w) = false
is_sign (symbol b) (header w) = false
is_sign (symbol b) (number v) = false
is_sign (symbol b) (string w) = false
is_sign (symbol b) body_mark = false
is_sign (symbol b) end_mark = false
is_sign (symbol b) alias = false
is_sign (symbol b) comment = false
is_sign (symbol b) stray = false
is_sign (name w) t = false
is_sign (header w) t = false
is_sign (number v) t = false
is_sign (string w) t = false
is_sign body_mark t = false
is_sign end_mark t = false
is_sign alias t = false
is_sign comment t = false
is_sign stray t = false

unfoldable pub is_any_name : Token → Bool
is_any_name (name w) = true
is_any_name (header w) = false
is_any_name (number v) = false
is_any_name (string w) = false
is_any_name (symbol b) = false
is_any_name body_mark = false
is_any_name end_mark = false
is_any_name alias = false
is_any_name comment = false
is_any_name stray = false

abbrev pub snoc : {A : Type 0} → List A → A → List A
snoc xs a = xs ++ (a ∷ [])

-- THE HEADER: one more item
unfoldable pub with_item : Last → List Item → Item → Next
with_item l is i = cond (item_fits is i) (go (in_items l (snoc is i))) (fault 15)

-- a header that must not come twice
unfoldable pub unless : (given : Bool) → (number : ℕ) → Place → Next
unless g k p = cond g (fault k) (go p)

unfoldable pub capital_first : List ℕ → Bool
capital_first [] = false
capital_first (b ∷ bs) = is_capital b

-- "a second HOA, States, AP, Acceptance" is 15, a "further start" 16, an "unlisted capital header" 16
unfoldable pub on_header : List Item → List ℕ → Next
on_header is h =
    cond (equal h (ascii "HOA")) (fault 15)
    (cond (equal h (ascii "States")) (unless (is_some (state_count is)) 15 (wants_count is))
    (cond (equal h (ascii "Start")) (unless (is_some (start_state is)) 16 (wants_start is))
    (cond (equal h (ascii "AP")) (unless (is_some (proposition_names is)) 15 (wants_propositions is))
    (cond (equal h (ascii "Acceptance")) (unless (has_acceptance is) 15 (wants_sets is))
    (cond (small_first h) (go (in_skipped is h []))
    (fault (cond (capital_first h) 16 15)))))))

-- after whole items: a header, or the body
unfoldable pub header_step : List Item → Token → Next
header_step is (header h) = on_header is h
header_step is body_mark = cond (header_whole is) (go (in_lines is [])) (fault 15)
header_step is (name w) = fault 15
header_step is (number v) = fault 15
header_step is (string w) = fault 15
header_step is (symbol b) = fault 15
header_step is end_mark = fault 15
header_step is alias = fault 15
header_step is comment = fault 16
header_step is stray = fault 15

-- after the name of a proposition: so many are still wanted
unfoldable pub named : List Item → (left : ℕ) → (names : List (List ℕ)) → Place
named is zero ns = in_items whole (snoc is (propositions ns))
named is (suc l) ns = wants_names is l ns

-- THE BODY: after whole state lines: another, or the end
unfoldable pub line_step : List Item → List State → Token → Next
line_step is ss (header h) = cond (equal h (ascii "State") && ltb (length ss) (count_in is)) (go (wants_state is ss)) (fault 15)
line_step is ss end_mark = cond (eqb (length ss) (count_in is)) (go (complete (record { items = is; states = ss }))) (fault 15)
line_step is ss body_mark = fault 15
line_step is ss (name w) = fault 15
line_step is ss (number v) = fault 15
line_step is ss (string w) = fault 15
line_step is ss (symbol b) = fault 15
line_step is ss alias = fault 15
line_step is ss comment = fault 16
line_step is ss stray = fault 15

abbrev pub line_at : List Item → List State → State → Line
line_at is ss s = record { items = is; states = ss; state = s }

abbrev pub with_edge : State → Edge → State
with_edge s e = record { number = s.number; title = s.title; marks = s.marks; edges = snoc s.edges e }

-- an edge, or what follows the state line
unfoldable pub edge_step : Line → Token → Next
edge_step l t =
    cond (is_sign open_label t) (go (in_label l label_start))
    (line_step l.items (snoc l.states l.state) t)

-- a state mark, or an edge
unfoldable pub marks_step : List Item → List State → (number : ℕ) → (title : Option (List ℕ)) → Token → Next
marks_step is ss v o t = cond (is_sign open_mark t) (go (in_marks is ss v o [])) (edge_step (line_at is ss (bare v o none)) t)

-- a state line under way: its name, its mark, its edges, in this order; "16, .. edge mark"
unfoldable pub part_step : List Item → List State → Part → Token → Next
part_step is ss (numbered v) t = on_string t (λ w. cond (title_fits (some w)) (go (in_line is ss (titled v w))) (fault 15)) (marks_step is ss v none t)
part_step is ss (titled v w) t = marks_step is ss v (some w) t
part_step is ss (marked v o ms) t = edge_step (line_at is ss (bare v o (some ms))) t
part_step is ss (edged s) t = cond (is_sign open_mark t) (fault 16) (edge_step (line_at is ss s) t)

-- a label under way
unfoldable pub from_label : Line → LabelNext → Next
from_label l (on r) = go (in_label l r)
from_label l (label_ends o) = go (wants_target l o)
from_label l (broken k) = fault k

-- THE TABLE. Under 16: "further start (also by &)", "other acceptance", "state label"
unfoldable pub step : Place → Token → Next
step opening t = cond (is_header (ascii "HOA") t) (go version) (otherwise t)
step version t = cond (is_name (ascii "v1") t) (go (in_items whole [])) (otherwise t)
step (in_items whole is) t = header_step is t
step (in_items after_start is) t = cond (is_sign and_sign t) (fault 16) (header_step is t)
step (in_items after_acceptance is) t = cond (is_sign and_sign t || is_sign or_sign t) (fault 16) (header_step is t)
step (in_skipped is h ts) t = cond (is_plain t) (go (in_skipped is h (snoc ts t))) (header_step (snoc is (skipped h ts)) t)
step (wants_count is) t = on_number t (λ n. with_item whole is (states n))
step (wants_start is) t = on_number t (λ s. with_item after_start is (start s))
step (wants_propositions is) t = on_number t (λ k. cond (leb k most_propositions) (go (named is k [])) (fault 15))
step (wants_names is l ns) t = on_string t (λ w. go (named is l (snoc ns w))) (otherwise t)
step (wants_sets is) t = on_number t (λ v. cond (eqb v 1) (go (wants_inf is)) (fault 16))
step (wants_inf is) t = cond (is_name (ascii "Inf") t) (go (wants_open is)) (cond (is_any_name t || is_sign open_bracket t) (fault 16) (otherwise t))
step (wants_open is) t = cond (is_sign open_bracket t) (go (wants_set is)) (otherwise t)
step (wants_set is) t = cond (is_sign not_sign t) (fault 16) (on_number t (λ v. cond (eqb v 0) (go (wants_close is)) (fault 16)))
step (wants_close is) t = cond (is_sign close_bracket t) (go (in_items after_acceptance (snoc is acceptance))) (otherwise t)
step (in_lines is ss) t = line_step is ss t
step (wants_state is ss) t =
    cond (is_sign open_label t) (fault 16)
    (on_number t (λ v. cond (ltb v (count_in is) && not (has_line v ss)) (go (in_line is ss (numbered v))) (fault 15)))
step (in_line is ss p) t = part_step is ss p t
step (in_marks is ss v o ms) t =
    cond (is_sign close_mark t) (go (in_line is ss (marked v o ms)))
    (on_number t (λ m. cond (eqb m 0) (go (in_marks is ss v o (snoc ms m))) (fault 15)))
step (in_label l r) t = from_label l (label_step (propositions_in l.items) r t)
step (wants_target l o) t = on_number t (λ v. cond (ltb v (count_in l.items)) (go (in_line l.items l.states (edged (with_edge l.state (record { label = o; to = v }))))) (fault 15))
step (complete a) t = otherwise t

-- what the tokens from a place on come to
pub data Told : Type 0 where
  taken_as : Syntax → Told
  refused : ℕ → Told

unfoldable pub ended : Place → Told
ended (complete a) = taken_as a
ended opening = refused 15
ended version = refused 15
ended (in_items l is) = refused 15
ended (in_skipped is h ts) = refused 15
ended (wants_count is) = refused 15
ended (wants_start is) = refused 15
ended (wants_propositions is) = refused 15
ended (wants_names is l ns) = refused 15
ended (wants_sets is) = refused 15
ended (wants_inf is) = refused 15
ended (wants_open is) = refused 15
ended (wants_set is) = refused 15
ended (wants_close is) = refused 15
ended (in_lines is ss) = refused 15
ended (wants_state is ss) = refused 15
ended (in_line is ss p) = refused 15
ended (in_marks is ss v o ms) = refused 15
ended (in_label l r) = refused 15
ended (wants_target l o) = refused 15

unfoldable pub told : Next → List Token → Told
told (fault k) [] = refused k
told (fault k) (t ∷ ts) = refused k
told (go p) [] = ended p
told (go p) (t ∷ ts) = told (step p t) ts

-- THE REFUSAL of a text as a claim
unfoldable pub refusal_of : Told → ℕ
refusal_of (taken_as a) = 0
refusal_of (refused k) = k

-- "14, the text does not open with the tokens `HOA:` and v1, blanks aside, first"
unfoldable pub claim_told : (text : List ℕ) → Told
claim_told bs = cond (opens bs) (told (go opening) (tokens bs)) (refused 14)

unfoldable pub claim_refusal : (text : List ℕ) → ℕ
claim_refusal bs = refusal_of (claim_told bs)
