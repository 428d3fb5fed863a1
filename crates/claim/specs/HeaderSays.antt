-- What the readers of the header say: from a place on, what is left gives the whole. Assumes nothing: these are definitions.
use Rattle.model.specs.Run.{is_some}
use Rattle.std.specs.Prelude.{◌≡◌, Bool, true, false, ◌||◌, cond, List, [], ◌∷◌, ℕ, ◌≤◌, ◌<◌, ltb, get_or, is_some as given, unwrap_or, Option as Maybe, Some, None, Result, Ok, Err}
use Rattle.std.proofs.Math.Option.{Option, none, some, get_or as get_some}
use Rattle.text.specs.Ascii.{ascii}
use Rattle.text.specs.Lines.{equal}
use Rattle.model.specs.ClaimTokens as T
use Rattle.model.specs.ClaimTokens.{is_small, is_capital}
use Rattle.model.specs.ClaimGrammar.{Item, count_in, acceptance, state_count, start_state, proposition_names, propositions_in, has_acceptance, header_whole, most_states, most_propositions}
use Rattle.model.specs.ClaimTable.{Last, whole, after_start, after_acceptance, Place, in_items, in_skipped, in_lines, wants_count, wants_start, wants_propositions, wants_names, wants_sets, snoc, Next, go, fault, unless, on_number, otherwise, is_sign, step, ended, told, refused}
use Rattle.claim.specs.Reads.{part, claim_tokens, Ahead, Stands, is_symbol_of, fault_of, Onward, Parsed}
use Rattle.claim.specs.declared.tokens.Token.{Token}
use Rattle.claim.specs.declared.tokens.Token.TheVariants.{Name, Header as HeaderName, Number, Text, Symbol, Body, End, Alias, Comment, Stray, Done}
use Rattle.claim.specs.declared.Counts.{Counts}
use Rattle.claim.specs.declared.header.Given.{Given}
use Rattle.claim.specs.declared.header.Kind.{Kind}
use Rattle.claim.specs.declared.header.Kind.TheVariants.{States, Start, Propositions, Acceptance, Skipped}
use Rattle.model.specs.Refusals.{number}
use Rattle.model.specs.declared.refusal.Refusal.{Refusal}
use Rattle.model.specs.declared.refusal.Refusal.TheVariants.{ClaimGrammar, NotTaken}
use Rattle.model.specs.ClaimLabels.{and_byte, or_byte}

-- a place that takes a number and nothing else
pub record WantsNumber (p : Place) (f : ℕ → Next) : Type 0 where
  pub steps : (t : T.Token) → step p t ≡ on_number t f
  pub open_ended : ended p ≡ refused 15

-- a number is at a place; or whatever place wants one refuses what is there
abbrev pub NumberSays : (text : List ℕ) → (at : ℕ) → Parsed ℕ → Type 0
NumberSays s at (Ok (v, n)) = Stands s at (T.number v) n
NumberSays s at (Err j) = (p : Place) (f : ℕ → Next) → WantsNumber p f → told (go p) (claim_tokens s at) ≡ refused (number j)

-- a place that takes a sign and nothing else
pub record WantsSign (p : Place) (b : ℕ) (m : Place) : Type 0 where
  pub steps : (t : T.Token) → step p t ≡ cond (is_sign (T.symbol b) t) (go m) (otherwise t)
  pub open_ended : ended p ≡ refused 15

-- a sign is at a place; or whatever place wants it refuses what is there
abbrev pub SignSays : (text : List ℕ) → (byte at : ℕ) → Result ℕ Refusal → Type 0
SignSays s b at (Ok n) = Stands s at (T.symbol b) n
SignSays s b at (Err j) = (p m : Place) → WantsSign p b m → told (go p) (claim_tokens s at) ≡ refused (number j)

-- a value, or none
abbrev pub shown : Maybe ℕ → Option ℕ
shown (Some v) = some v
shown None = none

-- these items give that
pub record Gives (is : List Item) (g : Given) : Type 0 where
  pub states : state_count is ≡ shown g.states
  pub start : start_state is ≡ shown g.start
  pub count : propositions_in is ≡ unwrap_or g.propositions 0
  pub named : is_some (proposition_names is) ≡ given g.propositions
  pub acceptance : has_acceptance is ≡ g.acceptance
  pub some_states : 1 ≤ unwrap_or g.states 1
  pub few_states : unwrap_or g.states 0 ≤ most_states
  pub early_start : unwrap_or g.start 0 < most_states
  pub few_propositions : unwrap_or g.propositions 0 ≤ most_propositions

-- an item is read from a place on: whatever stands before it, what is left gives the whole
abbrev pub ItemSays : (text : List ℕ) → (List Item → Place) → Last → (at : ℕ) → Given → Parsed Given → Type 0
ItemSays s p l at g (Ok (h, n)) =
    ((is : List Item) → Gives is g → (js : List Item) × Gives js h × (told (go (p is)) (claim_tokens s at) ≡ told (go (in_items l js)) (claim_tokens s n))) × Ahead s at n
ItemSays s p l at g (Err j) = (is : List Item) → Gives is g → told (go (p is)) (claim_tokens s at) ≡ refused (number j)

-- the most states there may be, and whether a start, if one is given, is below a count
abbrev pub most_states_of : Given → ℕ
most_states_of g = unwrap_or g.states most_states

abbrev pub starts_below : Maybe ℕ → (count : ℕ) → Bool
starts_below (Some v) n = ltb v n
starts_below None n = true

-- from one place to another, whatever items stand before
abbrev pub StepSays : (text : List ℕ) → (from to : List Item → Place) → (at : ℕ) → Result ℕ Refusal → Type 0
StepSays s p q at (Ok n) = ((is : List Item) → told (go (p is)) (claim_tokens s at) ≡ told (go (q is)) (claim_tokens s n)) × Ahead s at n
StepSays s p q at (Err j) = (is : List Item) → told (go (p is)) (claim_tokens s at) ≡ refused (number j)

-- after the acceptance
abbrev pub accepted : List Item → Place
accepted is = in_items after_acceptance (snoc is acceptance)

-- AP: a string is at a place; or whatever wants a name refuses what is there
abbrev pub StringSays : (text : List ℕ) → (at : ℕ) → Result ℕ Refusal → Type 0
StringSays s at (Ok n) = (w : List ℕ) × (claim_tokens s at ≡ T.string w ∷ claim_tokens s n) × Ahead s at n
StringSays s at (Err j) = (is : List Item) (left : ℕ) (ns : List (List ℕ)) → told (go (wants_names is left ns)) (claim_tokens s at) ≡ refused (number j)

-- an item is read from a place on, perhaps of no more tokens
abbrev pub ItemOn : (text : List ℕ) → (List Item → Next) → Last → (at : ℕ) → Given → Parsed Given → Type 0
ItemOn s x l at g (Ok (h, n)) =
    ((is : List Item) → Gives is g → (js : List Item) × Gives js h × (told (x is) (claim_tokens s at) ≡ told (go (in_items l js)) (claim_tokens s n))) × Onward s at n
ItemOn s x l at g (Err j) = (is : List Item) → Gives is g → told (x is) (claim_tokens s at) ≡ refused (number j)

-- SKIPPED HEADERS: the tokens passed over in one, and the name of another
abbrev pub passed_of : (text : List ℕ) → Token → Bool
passed_of s (Name a e) = true
passed_of s (Number v) = true
passed_of s (Text a e) = true
passed_of s (HeaderName a e) = is_small (get_or (part s a e) 0 0)
passed_of s (Symbol b) = false
passed_of s Body = false
passed_of s End = false
passed_of s Alias = false
passed_of s Comment = false
passed_of s Stray = false
passed_of s Done = false

-- from past the name of one, skipped headers stand up to a place: items that give nothing
pub record Skips (s : List ℕ) (at next : ℕ) : Type 0 where
  pub same : (is : List Item) (h : List ℕ) → (js : List Item) × (told (go (in_skipped is h [])) (claim_tokens s at) ≡ told (go (in_items whole js)) (claim_tokens s next)) × ((g : Given) → Gives is g → Gives js g)
  pub onward : Onward s at next

-- NAMES OF HEADERS
-- the refusal for one that is none of the format's, by its first byte, no small letter
abbrev pub no_kind : (first : ℕ) → Refusal
no_kind b = cond (is_capital b) NotTaken ClaimGrammar

abbrev pub kind_of : (name : List ℕ) → Result Kind Refusal
kind_of h =
    cond (equal h (ascii "HOA")) (Err ClaimGrammar)
    (cond (equal h (ascii "States")) (Ok States)
    (cond (equal h (ascii "Start")) (Ok Start)
    (cond (equal h (ascii "AP")) (Ok Propositions)
    (cond (equal h (ascii "Acceptance")) (Ok Acceptance)
    (cond (is_small (get_or h 0 0)) (Ok Skipped)
    (Err (no_kind (get_or h 0 0))))))))

-- the table's `on_header`, by kind
abbrev pub on_kind : List Item → (name : List ℕ) → Kind → Next
on_kind is h States = unless (is_some (state_count is)) 15 (wants_count is)
on_kind is h Start = unless (is_some (start_state is)) 16 (wants_start is)
on_kind is h Propositions = unless (is_some (proposition_names is)) 15 (wants_propositions is)
on_kind is h Acceptance = unless (has_acceptance is) 15 (wants_sets is)
on_kind is h Skipped = go (in_skipped is h [])

abbrev pub on_name : List Item → (name : List ℕ) → Result Kind Refusal → Next
on_name is h (Ok k) = on_kind is h k
on_name is h (Err r) = fault (number r)

-- what stands last after an item
abbrev pub last_of : Kind → Last
last_of Start = after_start
last_of Acceptance = after_acceptance
last_of States = whole
last_of Propositions = whole
last_of Skipped = whole

-- the item of a kind is read from past its header's name on
abbrev pub KindSays : (text : List ℕ) → Kind → (at : ℕ) → Given → Parsed Given → Type 0
KindSays s k at g r = (name : List ℕ) → ItemOn s (λ is. on_kind is name k) (last_of k) at g r

-- whether a token goes on with the item before it: other starts, another acceptance
abbrev pub continues : Kind → Token → Bool
continues Start t = is_symbol_of t and_byte
continues Acceptance t = is_symbol_of t and_byte || is_symbol_of t or_byte
continues States t = false
continues Propositions t = false
continues Skipped t = false

-- the counts of items that are whole
abbrev pub counts_by : (states start propositions : Maybe ℕ) → (acceptance : Bool) → Result Counts Refusal
counts_by (Some n) (Some v) k true = Ok (record { states = n; start = v; propositions = unwrap_or k 0 })
counts_by (Some n) (Some v) k false = Err ClaimGrammar
counts_by (Some n) None k a = Err ClaimGrammar
counts_by None v k a = Err ClaimGrammar

abbrev pub counted : Given → Result Counts Refusal
counted g = counts_by g.states g.start g.propositions g.acceptance

abbrev pub placed : (next : ℕ) → Result Counts Refusal → Parsed Counts
placed n (Ok k) = Ok (k, n)
placed n (Err r) = Err r

abbrev pub no_item : Kind → Token → Parsed Counts
no_item l t = Err (cond (continues l t) NotTaken (fault_of t))

-- what the items come to at a token that begins no other
abbrev pub items_end : Token → (next : ℕ) → Given → Kind → Parsed Counts
items_end Body n g l = placed n (counted g)
items_end (Name a e) n g l = no_item l (Name a e)
items_end (HeaderName a e) n g l = no_item l (HeaderName a e)
items_end (Number v) n g l = no_item l (Number v)
items_end (Text a e) n g l = no_item l (Text a e)
items_end (Symbol b) n g l = no_item l (Symbol b)
items_end End n g l = no_item l End
items_end Alias n g l = no_item l Alias
items_end Comment n g l = no_item l Comment
items_end Stray n g l = no_item l Stray
items_end Done n g l = no_item l Done

-- these items have those counts
pub record HasCounts (is : List Item) (k : Counts) : Type 0 where
  pub states : count_in is ≡ k.states
  pub start : get_some (start_state is) 0 ≡ k.start
  pub propositions : propositions_in is ≡ k.propositions
  pub some_states : 1 ≤ k.states
  pub few_states : k.states ≤ most_states
  pub early_start : k.start < most_states
  pub few_propositions : k.propositions ≤ most_propositions

-- THE WHOLE HEADER, from where no item stands yet up to past its --BODY--: the items, whole, and their counts; or the refusal
abbrev pub HeaderSays : (text : List ℕ) → (at : ℕ) → Parsed Counts → Type 0
HeaderSays s at (Ok (k, n)) =
    (is : List Item) × HasCounts is k × (header_whole is ≡ true) × (told (go (in_items whole [])) (claim_tokens s at) ≡ told (go (in_lines is [])) (claim_tokens s n)) × Ahead s at n
HeaderSays s at (Err j) = told (go (in_items whole [])) (claim_tokens s at) ≡ refused (number j)
