-- How the readers of src/header.rt meet their contracts: a law for each return. Assumes nothing.
use Rattle.model.specs.Run.{is_some}
use mathlib.Core.Path.{◌≡◌, refl, sym, ap, subst, ◌∙◌}
use mathlib.Core.Bool.{Bool, true, false, ◌&&◌, ◌||◌, cond, or-false}
use mathlib.Core.List.{List, [], ◌∷◌}
use mathlib.Core.Option.{Option, none, some, get_or}
use Prim.Native.Nat.{ℕ, ◌≤◌, ◌<◌}
use native.Mathlib.Omega.{arith}
use types.Run.{OneOf, miss}
use denote.Enum.Declared.{tag_of}
use lib.Dec.{ltb, leb, eqb}
use lib.ListN.{length}
use borrow.Author.Tests.{lt-ltb, le-ltb, leb-true, eq-eqb, ne_eqb}
use Rattle.text.specs.Ascii.{ascii}
use Rattle.text.specs.Lines.{equal}
use Rattle.text.proofs.Tests.{and_both, clash}
use Rattle.model.specs.ClaimTokens as T
use Rattle.model.specs.ClaimTokens.{is_name}
use Rattle.model.specs.ClaimGrammar.{Item, states, start, acceptance, state_count, start_state, proposition_names, propositions_in, has_acceptance, below_given, item_fits, most_states}
use Rattle.model.specs.ClaimTable.{is_sign, otherwise, wants_sets, wants_inf, wants_open, wants_set, wants_close, is_any_name, Last, whole, after_start, after_acceptance, Place, in_items, wants_count, wants_start, Next, go, fault, on_number, snoc, with_item, step, ended, told, refused}
use Rattle.model.proofs.ClaimItems.{first_given, given_none, count_append, start_append, names_append, acceptance_append}
use Rattle.claim.specs.Reads.{Stands, part, claim_tokens, spelt, reads_on, is_symbol_of, fault_of, Sees}
use Rattle.claim.specs.HeaderSays.{WantsNumber, NumberSays, WantsSign, SignSays, shown, Gives, ItemSays, StepSays, accepted, most_states_of, starts_below}
use Rattle.claim.specs.declared.tokens.Token.{Token}
use Rattle.claim.specs.declared.tokens.Token.TheVariants.{Name, Header, Number, Text, Symbol, Body, End, Alias, Comment, Stray, Done}
use Rattle.claim.specs.declared.tokens.Seen.{Seen}
use Rattle.claim.specs.declared.header.Given.{Given}
use Rattle.claim.proofs.Places.{ahead}
use Rattle.claim.specs.contracts.tokens.Token.{the_type}
use Rattle.claim.proofs.Seeing.{symbol_is, symbol_next, symbol_past, reads_as, goes_past}
use Rattle.std.specs.Prelude.{is_some as given, unwrap_or, Option as Maybe, Some, None, Result, Ok, Err}
use Rattle.model.specs.Refusals.{number}
use Rattle.model.specs.declared.refusal.Refusal.{Refusal}
use Rattle.model.specs.declared.refusal.Refusal.TheVariants.{ClaimGrammar, NotTaken}

-- A STEP of the table
told_step : (p : Place) (t : T.Token) (r : List T.Token) → told (go p) (t ∷ r) ≡ told (step p t) r
unfolding told
told_step p t r = refl

pub told_end : (p : Place) → told (go p) [] ≡ ended p
unfolding told
told_end p = refl

pub told_fault : (k : ℕ) (r : List T.Token) → told (fault k) r ≡ refused k
unfolding told
told_fault k [] = refl
told_fault k (t ∷ r) = refl

pub stepped : (p : Place) (t : T.Token) (r : List T.Token) (n : Next) → step p t ≡ n → told (go p) (t ∷ r) ≡ told n r
stepped p t r n e = told_step p t r ∙ ap (λ (m : Next). told m r) e

pub refuses : (p : Place) (t : T.Token) (r : List T.Token) (k : ℕ) → step p t ≡ fault k → told (go p) (t ∷ r) ≡ refused k
refuses p t r k e = stepped p t r (fault k) e ∙ told_fault k r

-- NUMBERS
abbrev pub but_number : List ℕ
but_number = 0 ∷ 1 ∷ 3 ∷ 4 ∷ 5 ∷ 6 ∷ 7 ∷ 8 ∷ 9 ∷ 10 ∷ []

module _ {p : Place} {f : ℕ → Next} (w : WantsNumber p f) where
  no_number : (s : List ℕ) (r : List T.Token) (t : Token) → OneOf but_number (tag_of the_type t) → told (go p) (spelt s t r) ≡ refused (number (fault_of t))
  unfolding on_number
  no_number s r (Number v) h = absurd (miss but_number 2 tt h)
  no_number s r (Name a e) h = refuses p _ r 15 (w.steps _)
  no_number s r (Header a e) h = refuses p _ r 15 (w.steps _)
  no_number s r (Text a e) h = refuses p _ r 15 (w.steps _)
  no_number s r (Symbol b) h = refuses p _ r 15 (w.steps _)
  no_number s r Body h = refuses p _ r 15 (w.steps _)
  no_number s r End h = refuses p _ r 15 (w.steps _)
  no_number s r Alias h = refuses p _ r 15 (w.steps _)
  no_number s r Comment h = refuses p _ r 16 (w.steps _)
  no_number s r Stray h = refuses p _ r 15 (w.steps _)
  no_number s r Done h = told_end p ∙ w.open_ended

  pub number_taken : (v : ℕ) (r : List T.Token) → told (go p) (T.number v ∷ r) ≡ told (f v) r
  unfolding on_number
  number_taken v r = stepped p _ r (f v) (w.steps _)

module _ {s : List ℕ} {at : ℕ} {r : Seen} (n : Sees s T.longest_claim at (claim_tokens s at) r) where
  pub number_is : (v : ℕ) → r.token ≡ Number v → Stands s at (T.number v) r.next
  number_is v q = (reads_as n (Number v) q refl, goes_past n (Number v) q refl)

  pub number_not : OneOf but_number (tag_of the_type r.token) → (j : Refusal) → j ≡ fault_of r.token → (p : Place) (f : ℕ → Next) → WantsNumber p f → told (go p) (claim_tokens s at) ≡ refused (number j)
  number_not h j e p f w = ap (λ (ts : List T.Token). told (go p) ts) n.reads ∙ (no_number w s n.rest r.token h ∙ ap (λ (i : Refusal). refused (number i)) (sym e))

count_wants : (is : List Item) → WantsNumber (wants_count is) (λ n. with_item whole is (states n))
unfolding step ended
count_wants is = record { steps = λ t. refl; open_ended = refl }

start_wants : (is : List Item) → WantsNumber (wants_start is) (λ n. with_item after_start is (start n))
unfolding step ended
start_wants is = record { steps = λ t. refl; open_ended = refl }

-- ITEMS: what one more gives
-- an item that gives no propositions and no acceptance
pub record PlainItem (i : Item) : Type 0 where
  pub unnamed : proposition_names (i ∷ []) ≡ none
  pub unaccepting : has_acceptance (i ∷ []) ≡ false

module _ {is : List Item} {g : Given} (h : Gives is g) {i : Item} (p : PlainItem i) where
  names_kept : proposition_names (snoc is i) ≡ proposition_names is
  names_kept = names_append is (i ∷ []) ∙ (ap (λ (o : Option (List (List ℕ))). first_given (proposition_names is) o) p.unnamed ∙ given_none (proposition_names is))

  pub count_kept : propositions_in (snoc is i) ≡ unwrap_or g.propositions 0
  unfolding propositions_in
  count_kept = ap (λ (o : Option (List (List ℕ))). length (get_or o [])) names_kept ∙ h.count

  pub named_kept : is_some (proposition_names (snoc is i)) ≡ given g.propositions
  named_kept = ap (λ (o : Option (List (List ℕ))). is_some o) names_kept ∙ h.named

  pub acceptance_kept : has_acceptance (snoc is i) ≡ g.acceptance
  acceptance_kept = acceptance_append is (i ∷ []) ∙ (ap (λ (b : Bool). has_acceptance is || b) p.unaccepting ∙ (or-false (has_acceptance is) ∙ h.acceptance))

-- an item that fits is taken, another refused
with_taken : (l : Last) (is : List Item) (i : Item) (r : List T.Token) → item_fits is i ≡ true → told (with_item l is i) r ≡ told (go (in_items l (snoc is i))) r
unfolding with_item
with_taken l is i r e = rw e refl

with_broken : (l : Last) (is : List Item) (i : Item) (r : List T.Token) → item_fits is i ≡ false → told (with_item l is i) r ≡ refused 15
unfolding with_item
with_broken l is i r e = rw e (told_fault 15 r)

below_shown : (o : Maybe ℕ) (n : ℕ) → below_given (shown o) n ≡ starts_below o n
unfolding below_given
below_shown (Some v) n = refl
below_shown None n = refl

shown_none : (o : Maybe ℕ) → given o ≡ false → shown o ≡ none
shown_none (Some v) e = clash false (sym e) refl
shown_none None e = refl

-- THE COUNT OF STATES
states_plain : (n : ℕ) → PlainItem (states n)
unfolding proposition_names has_acceptance
states_plain n = record { unnamed = refl; unaccepting = refl }

states_one : (n : ℕ) → state_count (states n ∷ []) ≡ some n
unfolding state_count
states_one n = refl

states_no_start : (n : ℕ) → start_state (states n ∷ []) ≡ none
unfolding start_state
states_no_start n = refl

abbrev with_states : Given → ℕ → Given
with_states g n = record { states = Some n; start = g.start; propositions = g.propositions; acceptance = g.acceptance }

module _ {is : List Item} {g : Given} (h : Gives is g) (fresh : given g.states ≡ false) (n : ℕ) where
  none_yet : state_count is ≡ none
  none_yet = h.states ∙ shown_none g.states fresh

  gives_states : 1 ≤ n → n ≤ most_states → Gives (snoc is (states n)) (with_states g n)
  gives_states m k =
      record {
        states = count_append is (states n ∷ []) ∙ (ap (λ (o : Option ℕ). first_given o (state_count (states n ∷ []))) none_yet ∙ states_one n);
        start = start_append is (states n ∷ []) ∙ (ap (λ (o : Option ℕ). first_given (start_state is) o) (states_no_start n) ∙ (given_none (start_state is) ∙ h.start));
        count = count_kept h (states_plain n);
        named = named_kept h (states_plain n);
        acceptance = acceptance_kept h (states_plain n);
        some_states = m;
        few_states = k;
        early_start = h.early_start;
        few_propositions = h.few_propositions;
      }

  states_fit : item_fits is (states n) ≡ ((leb 1 n && leb n 15) && starts_below g.start n)
  unfolding item_fits is_some
  states_fit = rw (none_yet, h.start) (ap (λ (b : Bool). (leb 1 n && leb n 15) && b) (below_shown g.start n))

pub states_taken : (s : List ℕ) (at : ℕ) (g : Given) → given g.states ≡ false → (n z : ℕ) → NumberSays s at (Ok (n, z)) → ((leb 1 n && leb n 15) && starts_below g.start n) ≡ true → ItemSays s wants_count whole at g (Ok (with_states g n, z))
states_taken s at g fresh n z a t = go' a
  where
    ranged : (leb 1 n ≡ true) × (leb n 15 ≡ true)
    ranged = and_both (leb 1 n) (leb n 15) (and_both (leb 1 n && leb n 15) _ t).0

    go' : NumberSays s at (Ok (n, z)) → ItemSays s wants_count whole at g (Ok (with_states g n, z))
    go' (e, past) = (λ is h. (snoc is (states n), gives_states h fresh n (leb-true 1 n ranged.0) (leb-true n 15 ranged.1), ap (λ (ts : List T.Token). told (go (wants_count is)) ts) e ∙ (number_taken (count_wants is) n _ ∙ taken is h)), past)
      where
        taken : (is : List Item) → Gives is g → told (with_item whole is (states n)) (claim_tokens s z) ≡ told (go (in_items whole (snoc is (states n)))) (claim_tokens s z)
        taken is h = with_taken whole is (states n) _ (states_fit h fresh n ∙ t)

pub states_broken : (s : List ℕ) (at : ℕ) (g : Given) → given g.states ≡ false → (n z : ℕ) → NumberSays s at (Ok (n, z)) → ((leb 1 n && leb n 15) && starts_below g.start n) ≡ false → ItemSays s wants_count whole at g (Err ClaimGrammar)
states_broken s at g fresh n z (e, past) t is h = ap (λ (ts : List T.Token). told (go (wants_count is)) ts) e ∙ (number_taken (count_wants is) n _ ∙ with_broken whole is (states n) _ (states_fit h fresh n ∙ t))

pub states_none : (s : List ℕ) (at : ℕ) (g : Given) (j : Refusal) → NumberSays s at (Err j) → ItemSays s wants_count whole at g (Err j)
states_none s at g j a is h = a (wants_count is) _ (count_wants is)

-- THE START
start_plain : (n : ℕ) → PlainItem (start n)
unfolding proposition_names has_acceptance
start_plain n = record { unnamed = refl; unaccepting = refl }

start_one : (n : ℕ) → start_state (start n ∷ []) ≡ some n
unfolding start_state
start_one n = refl

start_no_count : (n : ℕ) → state_count (start n ∷ []) ≡ none
unfolding state_count
start_no_count n = refl

abbrev with_start : Given → ℕ → Given
with_start g n = record { states = g.states; start = Some n; propositions = g.propositions; acceptance = g.acceptance }

below_most : (o : Maybe ℕ) (n m : ℕ) → unwrap_or o 0 ≤ 15 → m ≡ unwrap_or o most_states → n < m → n < 15
below_most (Some v) n m k e h = omega (arith, k, e, h)
below_most None n m k e h = omega (arith, e, h)

most_shown : (o : Maybe ℕ) → get_or (shown o) most_states ≡ unwrap_or o most_states
most_shown (Some v) = refl
most_shown None = refl

module _ {is : List Item} {g : Given} (h : Gives is g) (fresh : given g.start ≡ false) (n : ℕ) where
  no_start_yet : start_state is ≡ none
  no_start_yet = h.start ∙ shown_none g.start fresh

  gives_start : n < 15 → Gives (snoc is (start n)) (with_start g n)
  gives_start m =
      record {
        states = count_append is (start n ∷ []) ∙ (ap (λ (o : Option ℕ). first_given (state_count is) o) (start_no_count n) ∙ (given_none (state_count is) ∙ h.states));
        start = start_append is (start n ∷ []) ∙ (ap (λ (o : Option ℕ). first_given o (start_state (start n ∷ []))) no_start_yet ∙ start_one n);
        count = count_kept h (start_plain n);
        named = named_kept h (start_plain n);
        acceptance = acceptance_kept h (start_plain n);
        some_states = h.some_states;
        few_states = h.few_states;
        early_start = m;
        few_propositions = h.few_propositions;
      }

  start_fit : item_fits is (start n) ≡ ltb n (most_states_of g)
  unfolding item_fits is_some
  start_fit = rw (no_start_yet, h.states) (ap (λ (m : ℕ). ltb n m) (most_shown g.states))

pub start_taken : (s : List ℕ) (at : ℕ) (g : Given) → given g.start ≡ false → (n z : ℕ) → NumberSays s at (Ok (n, z)) → (m : ℕ) → m ≡ most_states_of g → n < m → ItemSays s wants_start after_start at g (Ok (with_start g n, z))
start_taken s at g fresh n z a m e t = go' a
  where
    taken : (is : List Item) → Gives is g → told (with_item after_start is (start n)) (claim_tokens s z) ≡ told (go (in_items after_start (snoc is (start n)))) (claim_tokens s z)
    taken is h = with_taken after_start is (start n) _ (start_fit h fresh n ∙ lt-ltb n (most_states_of g) (subst (λ (k : ℕ). n < k) e t))

    go' : NumberSays s at (Ok (n, z)) → ItemSays s wants_start after_start at g (Ok (with_start g n, z))
    go' (b, past) = (λ is h. (snoc is (start n), gives_start h fresh n (below_most g.states n m h.few_states e t), ap (λ (ts : List T.Token). told (go (wants_start is)) ts) b ∙ (number_taken (start_wants is) n _ ∙ taken is h)), past)

pub start_broken : (s : List ℕ) (at : ℕ) (g : Given) → given g.start ≡ false → (n z : ℕ) → NumberSays s at (Ok (n, z)) → (m : ℕ) → m ≡ most_states_of g → m ≤ n → ItemSays s wants_start after_start at g (Err ClaimGrammar)
start_broken s at g fresh n z (b, past) m e t is h = ap (λ (ts : List T.Token). told (go (wants_start is)) ts) b ∙ (number_taken (start_wants is) n _ ∙ with_broken after_start is (start n) _ (start_fit h fresh n ∙ le-ltb n (most_states_of g) (subst (λ (k : ℕ). k ≤ n) e t)))

pub start_none : (s : List ℕ) (at : ℕ) (g : Given) (j : Refusal) → NumberSays s at (Err j) → ItemSays s wants_start after_start at g (Err j)
start_none s at g j a is h = a (wants_start is) _ (start_wants is)

-- ACCEPTANCE: one token, and on
module _ {s : List ℕ} {at : ℕ} {r : Seen} (n : Sees s T.longest_claim at (claim_tokens s at) r) (p : List Item → Place) where
  -- a token is taken, and what follows is read from the next place on
  pub passes : (t : Token) → r.token ≡ t → reads_on t ≡ true → (u : T.Token) → spelt s t (claim_tokens s r.next) ≡ u ∷ claim_tokens s r.next → (m : List Item → Place) → ((is : List Item) → step (p is) u ≡ go (m is)) → (q : List Item → Place) (l : Result ℕ Refusal) → StepSays s m q r.next l → StepSays s p q at l
  passes t e d u c m f q (Ok z) (a, past) = (λ is. ap (λ (ts : List T.Token). told (go (p is)) ts) (reads_as n t e d ∙ c) ∙ (stepped (p is) u _ (go (m is)) (f is) ∙ a is), ahead (goes_past n t e d) past)
  passes t e d u c m f q (Err j) a = λ is. ap (λ (ts : List T.Token). told (go (p is)) ts) (reads_as n t e d ∙ c) ∙ (stepped (p is) u _ (go (m is)) (f is) ∙ a is)

  -- a token is refused
  pub tears : (j : Refusal) → ((is : List Item) → told (go (p is)) (spelt s r.token n.rest) ≡ refused (number j)) → (q : List Item → Place) → StepSays s p q at (Err j)
  tears j f q is = ap (λ (ts : List T.Token). told (go (p is)) ts) n.reads ∙ f is

module _ {p : Place} {b : ℕ} {m : Place} (w : WantsSign p b m) where
  sign_steps : step p (T.symbol b) ≡ go m
  unfolding is_sign
  sign_steps = w.steps _ ∙ rw (eq-eqb b b refl) refl

  no_sign : (s : List ℕ) (r : List T.Token) (t : Token) → is_symbol_of t b ≡ false → told (go p) (spelt s t r) ≡ refused (number (fault_of t))
  unfolding is_sign otherwise
  no_sign s r (Symbol c) h = refuses p _ r 15 (w.steps _ ∙ rw h refl)
  no_sign s r (Number v) h = refuses p _ r 15 (w.steps _)
  no_sign s r (Name a e) h = refuses p _ r 15 (w.steps _)
  no_sign s r (Header a e) h = refuses p _ r 15 (w.steps _)
  no_sign s r (Text a e) h = refuses p _ r 15 (w.steps _)
  no_sign s r Body h = refuses p _ r 15 (w.steps _)
  no_sign s r End h = refuses p _ r 15 (w.steps _)
  no_sign s r Alias h = refuses p _ r 15 (w.steps _)
  no_sign s r Comment h = refuses p _ r 16 (w.steps _)
  no_sign s r Stray h = refuses p _ r 15 (w.steps _)
  no_sign s r Done h = told_end p ∙ w.open_ended

close_wants : (is : List Item) → WantsSign (wants_close is) 41 (accepted is)
unfolding step ended
close_wants is = record { steps = λ t. refl; open_ended = refl }

open_wants : (is : List Item) → WantsSign (wants_open is) 40 (wants_set is)
unfolding step ended
open_wants is = record { steps = λ t. refl; open_ended = refl }

sets_wants : (is : List Item) → WantsNumber (wants_sets is) (λ v. cond (eqb v 1) (go (wants_inf is)) (fault 16))
unfolding step ended
sets_wants is = record { steps = λ t. refl; open_ended = refl }

-- a place that looks for a sign, then for a number
pub record SignOrNumber (p : Place) (b : ℕ) (m : Next) (f : ℕ → Next) : Type 0 where
  pub steps : (t : T.Token) → step p t ≡ cond (is_sign (T.symbol b) t) m (on_number t f)
  pub open_ended : ended p ≡ refused 15

module _ {p : Place} {b : ℕ} {m : Next} {f : ℕ → Next} (w : SignOrNumber p b m f) where
  pub sign_then : step p (T.symbol b) ≡ m
  unfolding is_sign
  sign_then = w.steps _ ∙ rw (eq-eqb b b refl) refl

  pub number_then : (v : ℕ) → step p (T.number v) ≡ f v
  unfolding is_sign on_number
  number_then v = w.steps _

  pub neither : (s : List ℕ) (r : List T.Token) (t : Token) → OneOf but_number (tag_of the_type t) → is_symbol_of t b ≡ false → told (go p) (spelt s t r) ≡ refused (number (fault_of t))
  unfolding is_sign on_number
  neither s r (Number v) h e = absurd (miss but_number 2 tt h)
  neither s r (Symbol c) h e = refuses p _ r 15 (w.steps _ ∙ rw e refl)
  neither s r (Name a z) h e = refuses p _ r 15 (w.steps _)
  neither s r (Header a z) h e = refuses p _ r 15 (w.steps _)
  neither s r (Text a z) h e = refuses p _ r 15 (w.steps _)
  neither s r Body h e = refuses p _ r 15 (w.steps _)
  neither s r End h e = refuses p _ r 15 (w.steps _)
  neither s r Alias h e = refuses p _ r 15 (w.steps _)
  neither s r Comment h e = refuses p _ r 16 (w.steps _)
  neither s r Stray h e = refuses p _ r 15 (w.steps _)
  neither s r Done h e = told_end p ∙ w.open_ended

set_wants : (is : List Item) → SignOrNumber (wants_set is) 33 (fault 16) (λ v. cond (eqb v 0) (go (wants_close is)) (fault 16))
unfolding step ended
set_wants is = record { steps = λ t. refl; open_ended = refl }

inf_step : (is : List Item) (w : List ℕ) → step (wants_inf is) (T.name w) ≡ cond (equal w (ascii "Inf")) (go (wants_open is)) (fault 16)
unfolding step is_name is_any_name
inf_step is w = refl

bracket_step : (is : List Item) → step (wants_inf is) (T.symbol 40) ≡ fault 16
unfolding step is_name is_any_name is_sign
bracket_step is = refl

abbrev but_name : List ℕ
but_name = 1 ∷ 2 ∷ 3 ∷ 4 ∷ 5 ∷ 6 ∷ 7 ∷ 8 ∷ 9 ∷ 10 ∷ []

no_inf : (is : List Item) (s : List ℕ) (r : List T.Token) (t : Token) → OneOf but_name (tag_of the_type t) → is_symbol_of t 40 ≡ false → told (go (wants_inf is)) (spelt s t r) ≡ refused (number (fault_of t))
unfolding step is_name is_any_name is_sign otherwise ended
no_inf is s r (Name a z) h e = absurd (miss but_name 0 tt h)
no_inf is s r (Symbol c) h e = refuses (wants_inf is) _ r 15 (rw e refl)
no_inf is s r (Number v) h e = refuses (wants_inf is) _ r 15 refl
no_inf is s r (Header a z) h e = refuses (wants_inf is) _ r 15 refl
no_inf is s r (Text a z) h e = refuses (wants_inf is) _ r 15 refl
no_inf is s r Body h e = refuses (wants_inf is) _ r 15 refl
no_inf is s r End h e = refuses (wants_inf is) _ r 15 refl
no_inf is s r Alias h e = refuses (wants_inf is) _ r 15 refl
no_inf is s r Comment h e = refuses (wants_inf is) _ r 16 refl
no_inf is s r Stray h e = refuses (wants_inf is) _ r 15 refl
no_inf is s r Done h e = told_end (wants_inf is)

module _ {s : List ℕ} {at : ℕ} {r : Seen} (n : Sees s T.longest_claim at (claim_tokens s at) r) (b : ℕ) where
  pub sign_passed : is_symbol_of r.token b ≡ true → SignSays s b at (Ok r.next)
  sign_passed e = (symbol_next n b e, symbol_past n b e)

  pub sign_missed : is_symbol_of r.token b ≡ false → (j : Refusal) → j ≡ fault_of r.token → SignSays s b at (Err j)
  sign_missed e j f p m w = ap (λ (ts : List T.Token). told (go p) ts) n.reads ∙ (no_sign w s n.rest r.token e ∙ ap (λ (i : Refusal). refused (number i)) (sym f))

module _ (s : List ℕ) (at : ℕ) where
  pub closes : (l : Result ℕ Refusal) → SignSays s 41 at l → StepSays s wants_close accepted at l
  closes (Ok z) (c, past) = (λ is. ap (λ (ts : List T.Token). told (go (wants_close is)) ts) c ∙ stepped (wants_close is) _ _ _ (sign_steps (close_wants is)), past)
  closes (Err j) a = λ is. a (wants_close is) _ (close_wants is)

  pub opens_on : (z : ℕ) → SignSays s 40 at (Ok z) → (l : Result ℕ Refusal) → StepSays s wants_set accepted z l → StepSays s wants_open accepted at l
  opens_on z (c, past) (Ok y) (a, past') = (λ is. ap (λ (ts : List T.Token). told (go (wants_open is)) ts) c ∙ (stepped (wants_open is) _ _ _ (sign_steps (open_wants is)) ∙ a is), ahead past past')
  opens_on z (c, past) (Err j) a = λ is. ap (λ (ts : List T.Token). told (go (wants_open is)) ts) c ∙ (stepped (wants_open is) _ _ _ (sign_steps (open_wants is)) ∙ a is)

  pub opens_not : (j : Refusal) → SignSays s 40 at (Err j) → StepSays s wants_open accepted at (Err j)
  opens_not j a is = a (wants_open is) _ (open_wants is)

module _ {s : List ℕ} {at : ℕ} {r : Seen} (n : Sees s T.longest_claim at (claim_tokens s at) r) where
  -- the set: a number; or another acceptance; or none at all
  pub set_is : (v : ℕ) → r.token ≡ Number v → v ≡ 0 → (l : Result ℕ Refusal) → StepSays s wants_close accepted r.next l → StepSays s wants_set accepted at l
  set_is v q e l a = passes n wants_set (Number v) q refl _ refl wants_close (λ is. number_then (set_wants is) v ∙ rw (eq-eqb v 0 e) refl) accepted l a

  pub set_other : (v : ℕ) → r.token ≡ Number v → (v ≡ 0 → ⊥) → StepSays s wants_set accepted at (Err NotTaken)
  set_other v q e = tears n wants_set NotTaken (λ is. ap (λ (t : Token). told (go (wants_set is)) (spelt s t n.rest)) q ∙ refuses (wants_set is) _ n.rest 16 (number_then (set_wants is) v ∙ rw (ne_eqb v 0 e) refl)) accepted

  pub set_negated : is_symbol_of r.token 33 ≡ true → StepSays s wants_set accepted at (Err NotTaken)
  set_negated e = tears n wants_set NotTaken (λ is. ap (λ (t : Token). told (go (wants_set is)) (spelt s t n.rest)) (symbol_is r.token 33 e) ∙ refuses (wants_set is) _ n.rest 16 (sign_then (set_wants is))) accepted

  pub set_not : OneOf but_number (tag_of the_type r.token) → is_symbol_of r.token 33 ≡ false → (j : Refusal) → j ≡ fault_of r.token → StepSays s wants_set accepted at (Err j)
  set_not h e j f = tears n wants_set j (λ is. neither (set_wants is) s n.rest r.token h e ∙ ap (λ (i : Refusal). refused (number i)) (sym f)) accepted

  -- the name Inf; or another acceptance; or none at all
  pub inf_is : (a e : ℕ) → r.token ≡ Name a e → equal (part s a e) (ascii "Inf") ≡ true → (l : Result ℕ Refusal) → StepSays s wants_open accepted r.next l → StepSays s wants_inf accepted at l
  inf_is a e q w l b = passes n wants_inf (Name a e) q refl _ refl wants_open (λ is. inf_step is (part s a e) ∙ rw w refl) accepted l b

  pub inf_other : (a e : ℕ) → r.token ≡ Name a e → equal (part s a e) (ascii "Inf") ≡ false → StepSays s wants_inf accepted at (Err NotTaken)
  inf_other a e q w = tears n wants_inf NotTaken (λ is. ap (λ (t : Token). told (go (wants_inf is)) (spelt s t n.rest)) q ∙ refuses (wants_inf is) _ n.rest 16 (inf_step is (part s a e) ∙ rw w refl)) accepted

  pub inf_bracket : is_symbol_of r.token 40 ≡ true → StepSays s wants_inf accepted at (Err NotTaken)
  inf_bracket e = tears n wants_inf NotTaken (λ is. ap (λ (t : Token). told (go (wants_inf is)) (spelt s t n.rest)) (symbol_is r.token 40 e) ∙ refuses (wants_inf is) _ n.rest 16 (bracket_step is)) accepted

  pub inf_not : OneOf but_name (tag_of the_type r.token) → is_symbol_of r.token 40 ≡ false → (j : Refusal) → j ≡ fault_of r.token → StepSays s wants_inf accepted at (Err j)
  inf_not h e j f = tears n wants_inf j (λ is. no_inf is s n.rest r.token h e ∙ ap (λ (i : Refusal). refused (number i)) (sym f)) accepted

-- the number of sets
pub sets_is : (s : List ℕ) (at : ℕ) (v z : ℕ) → NumberSays s at (Ok (v, z)) → v ≡ 1 → (x : Result ℕ Refusal) → StepSays s wants_inf accepted z x → StepSays s wants_sets accepted at x
sets_is s at v z a e x b = go' x a b
  where
    one : (is : List Item) → claim_tokens s at ≡ T.number v ∷ claim_tokens s z → told (go (wants_sets is)) (claim_tokens s at) ≡ told (go (wants_inf is)) (claim_tokens s z)
    one is c = ap (λ (ts : List T.Token). told (go (wants_sets is)) ts) c ∙ (number_taken (sets_wants is) v _ ∙ rw (eq-eqb v 1 e) refl)

    go' : (x : Result ℕ Refusal) → NumberSays s at (Ok (v, z)) → StepSays s wants_inf accepted z x → StepSays s wants_sets accepted at x
    go' (Ok y) (c, past) (b, past') = (λ is. one is c ∙ b is, ahead past past')
    go' (Err j) (c, past) b = λ is. one is c ∙ b is

pub sets_other : (s : List ℕ) (at : ℕ) (v z : ℕ) → NumberSays s at (Ok (v, z)) → (v ≡ 1 → ⊥) → StepSays s wants_sets accepted at (Err NotTaken)
sets_other s at v z (c, past) e is = ap (λ (ts : List T.Token). told (go (wants_sets is)) ts) c ∙ (number_taken (sets_wants is) v _ ∙ rw (ne_eqb v 1 e) (told_fault 16 _))

pub sets_none : (s : List ℕ) (at : ℕ) (j : Refusal) → NumberSays s at (Err j) → StepSays s wants_sets accepted at (Err j)
sets_none s at j a is = a (wants_sets is) _ (sets_wants is)

-- the item
abbrev with_acceptance : Given → Given
with_acceptance g = record { states = g.states; start = g.start; propositions = g.propositions; acceptance = true }

acceptance_gives : (state_count (acceptance ∷ []) ≡ none) × (start_state (acceptance ∷ []) ≡ none) × (proposition_names (acceptance ∷ []) ≡ none) × (has_acceptance (acceptance ∷ []) ≡ true)
unfolding state_count start_state proposition_names has_acceptance
acceptance_gives = (refl, refl, refl, refl)

or_yes : (b : Bool) → (b || true) ≡ true
or_yes true = refl
or_yes false = refl

module _ {is : List Item} {g : Given} (h : Gives is g) where
  acceptance_names : proposition_names (snoc is acceptance) ≡ proposition_names is
  acceptance_names = names_append is (acceptance ∷ []) ∙ (ap (λ (o : Option (List (List ℕ))). first_given (proposition_names is) o) acceptance_gives.2 ∙ given_none (proposition_names is))

  acceptance_count : propositions_in (snoc is acceptance) ≡ unwrap_or g.propositions 0
  unfolding propositions_in
  acceptance_count = ap (λ (o : Option (List (List ℕ))). length (get_or o [])) acceptance_names ∙ h.count

  gives_acceptance : Gives (snoc is acceptance) (with_acceptance g)
  gives_acceptance =
      record {
        states = count_append is (acceptance ∷ []) ∙ (ap (λ (o : Option ℕ). first_given (state_count is) o) acceptance_gives.0 ∙ (given_none (state_count is) ∙ h.states));
        start = start_append is (acceptance ∷ []) ∙ (ap (λ (o : Option ℕ). first_given (start_state is) o) acceptance_gives.1 ∙ (given_none (start_state is) ∙ h.start));
        count = acceptance_count;
        named = ap (λ (o : Option (List (List ℕ))). is_some o) acceptance_names ∙ h.named;
        acceptance = acceptance_append is (acceptance ∷ []) ∙ (ap (λ (b : Bool). has_acceptance is || b) acceptance_gives.3 ∙ or_yes (has_acceptance is));
        some_states = h.some_states;
        few_states = h.few_states;
        early_start = h.early_start;
        few_propositions = h.few_propositions;
      }

pub acceptance_taken : (s : List ℕ) (at : ℕ) (g : Given) (z : ℕ) → StepSays s wants_sets accepted at (Ok z) → ItemSays s wants_sets after_acceptance at g (Ok (with_acceptance g, z))
acceptance_taken s at g z (b, past) = (λ is h. (snoc is acceptance, gives_acceptance h, b is), past)

pub acceptance_none : (s : List ℕ) (at : ℕ) (g : Given) (j : Refusal) → StepSays s wants_sets accepted at (Err j) → ItemSays s wants_sets after_acceptance at g (Err j)
acceptance_none s at g j a is h = a is
