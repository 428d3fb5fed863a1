-- How the readers of propositions and of skipped headers in src/header.rt meet their contracts. Assumes nothing.
use Rattle.model.specs.Run.{is_some}
use mathlib.Core.Path.{◌≡◌, refl, sym, ap, ◌∙◌}
use mathlib.Core.Bool.{Bool, true, false, ◌||◌, cond, or-false}
use mathlib.Core.List.{List, [], ◌∷◌}
use mathlib.Core.Option.{Option, none, some, get_or}
use Prim.Native.Nat.{ℕ, suc, ◌+◌, ◌≤◌, ◌<◌}
use native.Mathlib.Omega.{arith}
use types.Run.{OneOf, miss}
use denote.Enum.Declared.{tag_of}
use lib.Dec.{leb}
use lib.ListN.{length, length-append}
use borrow.Author.Tests.{le-leb, lt-leb}
use Rattle.text.proofs.Tests.{clash}
use Rattle.model.specs.ClaimTokens as T
use Rattle.model.specs.ClaimGrammar.{Item, propositions, state_count, start_state, proposition_names, propositions_in, has_acceptance, most_propositions}
use Rattle.model.specs.ClaimTable.{otherwise, on_string, whole, Place, in_items, wants_propositions, wants_names, named, go, fault, snoc, step, ended, told, refused}
use Rattle.model.proofs.ClaimItems.{first_given, given_none, count_append, start_append, names_append, acceptance_append}
use Rattle.claim.specs.Reads.{claim_tokens, spelt, fault_of, Sees}
use Rattle.claim.specs.HeaderSays.{WantsNumber, NumberSays, StringSays, Gives, ItemSays, ItemOn}
use Rattle.claim.specs.Reads.{Onward}
use Rattle.claim.specs.declared.tokens.Token.{Token}
use Rattle.claim.specs.declared.tokens.Token.TheVariants.{Name, Header, Number, Text, Symbol, Body, End, Alias, Comment, Stray, Done}
use Rattle.claim.specs.declared.tokens.Seen.{Seen}
use Rattle.claim.specs.declared.header.Given.{Given}
use Rattle.claim.proofs.Places.{stays, onto, onward, ahead_onward}
use Rattle.claim.specs.contracts.tokens.Token.{the_type}
use Rattle.claim.proofs.Seeing.{reads_as, goes_past}
use Rattle.claim.proofs.HeaderCode.{told_end, told_fault, stepped, refuses, number_taken}
use Rattle.std.specs.Prelude.{is_some as given, Some, Ok, Err}
use Rattle.model.specs.Refusals.{number}
use Rattle.model.specs.declared.refusal.Refusal.{Refusal}
use Rattle.model.specs.declared.refusal.Refusal.TheVariants.{ClaimGrammar}
use Rattle.claim.specs.Reads.{Parsed}

-- PLACES
-- STRINGS
abbrev but_text : List ℕ
but_text = 0 ∷ 1 ∷ 2 ∷ 4 ∷ 5 ∷ 6 ∷ 7 ∷ 8 ∷ 9 ∷ 10 ∷ []

module _ (is : List Item) (l : ℕ) (ns : List (List ℕ)) where
  no_name : (s : List ℕ) (r : List T.Token) (t : Token) → OneOf but_text (tag_of the_type t) → told (go (wants_names is l ns)) (spelt s t r) ≡ refused (number (fault_of t))
  unfolding step on_string otherwise ended
  no_name s r (Text a e) h = absurd (miss but_text 3 tt h)
  no_name s r (Name a e) h = refuses (wants_names is l ns) _ r 15 refl
  no_name s r (Header a e) h = refuses (wants_names is l ns) _ r 15 refl
  no_name s r (Number v) h = refuses (wants_names is l ns) _ r 15 refl
  no_name s r (Symbol b) h = refuses (wants_names is l ns) _ r 15 refl
  no_name s r Body h = refuses (wants_names is l ns) _ r 15 refl
  no_name s r End h = refuses (wants_names is l ns) _ r 15 refl
  no_name s r Alias h = refuses (wants_names is l ns) _ r 15 refl
  no_name s r Comment h = refuses (wants_names is l ns) _ r 16 refl
  no_name s r Stray h = refuses (wants_names is l ns) _ r 15 refl
  no_name s r Done h = told_end (wants_names is l ns)

  name_taken : (w : List ℕ) (r : List T.Token) → told (go (wants_names is l ns)) (T.string w ∷ r) ≡ told (go (named is l (snoc ns w))) r
  unfolding step on_string
  name_taken w r = stepped (wants_names is l ns) _ r (go (named is l (snoc ns w))) refl

module _ {s : List ℕ} {at : ℕ} {r : Seen} (n : Sees s T.longest_claim at (claim_tokens s at) r) where
  pub string_is : (a e : ℕ) → r.token ≡ Text a e → StringSays s at (Ok r.next)
  string_is a e q = (_, reads_as n (Text a e) q refl, goes_past n (Text a e) q refl)

  pub string_not : OneOf but_text (tag_of the_type r.token) → (j : Refusal) → j ≡ fault_of r.token → StringSays s at (Err j)
  string_not h j e is l ns = ap (λ (ts : List T.Token). told (go (wants_names is l ns)) ts) n.reads ∙ (no_name is l ns s n.rest r.token h ∙ ap (λ (i : Refusal). refused (number i)) (sym e))

-- NAMES: so many are left of so many
pub record NamesSoFar (s : List ℕ) (at k left here : ℕ) : Type 0 where
  pub names : List (List ℕ)
  pub counted : length names + left ≡ k
  pub same : (is : List Item) → told (go (named is k [])) (claim_tokens s at) ≡ told (go (named is left names)) (claim_tokens s here)
  pub past : Onward s at here

pub names_begun : (s : List ℕ) (at k : ℕ) → NamesSoFar s at k k at
names_begun s at k = record { names = []; counted = omega arith; same = λ is. refl; past = stays }

-- one is wanted
named_more : (is : List Item) (left less : ℕ) (ns : List (List ℕ)) → left ≡ suc less → named is left ns ≡ wants_names is less ns
unfolding named
named_more is left less ns e = ap (λ (l : ℕ). named is l ns) e

named_none : (is : List Item) (left : ℕ) (ns : List (List ℕ)) → left ≤ 0 → named is left ns ≡ in_items whole (snoc is (propositions ns))
unfolding named
named_none is left ns h = let e : left ≡ 0 = omega arith in ap (λ (l : ℕ). named is l ns) e

module _ {s : List ℕ} {at k left here : ℕ} (a : NamesSoFar s at k left here) where
  module _ (less : ℕ) (h : left ≡ suc less) where
    wanted : (is : List Item) → told (go (named is k [])) (claim_tokens s at) ≡ told (go (wants_names is less a.names)) (claim_tokens s here)
    wanted is = a.same is ∙ ap (λ (p : Place). told (go p) (claim_tokens s here)) (named_more is left less a.names h)

    pub names_again : (z : ℕ) → StringSays s here (Ok z) → NamesSoFar s at k less z
    names_again z (w, e, past) =
        record {
          names = snoc a.names w;
          counted = omega (arith, length-append a.names (w ∷ []), a.counted, h);
          same = λ is. wanted is ∙ (ap (λ (ts : List T.Token). told (go (wants_names is less a.names)) ts) e ∙ name_taken is less a.names w _);
          past = onward a.past (onto past);
        }

    pub names_torn : (g : Given) (j : Refusal) → StringSays s here (Err j) → ItemOn s (λ is. go (named is k [])) whole at g (Err j)
    names_torn g j c is x = wanted is ∙ c is less a.names

-- PROPOSITIONS: what the item gives
abbrev with_names : Given → ℕ → Given
with_names g k = record { states = g.states; start = g.start; propositions = Some k; acceptance = g.acceptance }

names_gives : (ns : List (List ℕ)) → (state_count (propositions ns ∷ []) ≡ none) × (start_state (propositions ns ∷ []) ≡ none) × (proposition_names (propositions ns ∷ []) ≡ some ns) × (has_acceptance (propositions ns ∷ []) ≡ false)
unfolding state_count start_state proposition_names has_acceptance
names_gives ns = (refl, refl, refl, refl)

unnamed : (o : Option (List (List ℕ))) → is_some o ≡ false → o ≡ none
unfolding is_some
unnamed none e = refl
unnamed (some ns) e = clash true refl e

is_some_some : (ns : List (List ℕ)) → is_some (some ns) ≡ true
unfolding is_some
is_some_some ns = refl

module _ {is : List Item} {g : Given} (h : Gives is g) (fresh : given g.propositions ≡ false) (ns : List (List ℕ)) where
  names_now : proposition_names (snoc is (propositions ns)) ≡ some ns
  names_now = names_append is (propositions ns ∷ []) ∙ (ap (λ (o : Option (List (List ℕ))). first_given o (proposition_names (propositions ns ∷ []))) (unnamed (proposition_names is) (h.named ∙ fresh)) ∙ (names_gives ns).2)

  count_now : propositions_in (snoc is (propositions ns)) ≡ length ns
  unfolding propositions_in
  count_now = ap (λ (o : Option (List (List ℕ))). length (get_or o [])) names_now

  gives_names : (k : ℕ) → length ns ≡ k → k ≤ most_propositions → Gives (snoc is (propositions ns)) (with_names g k)
  gives_names k e f =
      record {
        states = count_append is (propositions ns ∷ []) ∙ (ap (λ (o : Option ℕ). first_given (state_count is) o) (names_gives ns).0 ∙ (given_none (state_count is) ∙ h.states));
        start = start_append is (propositions ns ∷ []) ∙ (ap (λ (o : Option ℕ). first_given (start_state is) o) (names_gives ns).1 ∙ (given_none (start_state is) ∙ h.start));
        count = count_now ∙ e;
        named = ap (λ (o : Option (List (List ℕ))). is_some o) names_now ∙ is_some_some ns;
        acceptance = acceptance_append is (propositions ns ∷ []) ∙ (ap (λ (b : Bool). has_acceptance is || b) (names_gives ns).3 ∙ (or-false (has_acceptance is) ∙ h.acceptance));
        some_states = h.some_states;
        few_states = h.few_states;
        early_start = h.early_start;
        few_propositions = f;
      }

pub names_read : {s : List ℕ} {at k left here : ℕ} → NamesSoFar s at k left here → left ≤ 0 → (g : Given) → given g.propositions ≡ false → k ≤ most_propositions → ItemOn s (λ is. go (named is k [])) whole at g (Ok (with_names g k, here))
names_read {s} {at} {k} {left} {here} a h g fresh few = (λ is x. (snoc is (propositions a.names), gives_names x fresh a.names k (omega (arith, h, a.counted)) few, a.same is ∙ ap (λ (p : Place). told (go p) (claim_tokens s here)) (named_none is left a.names h)), a.past)

propositions_wants : (is : List Item) → WantsNumber (wants_propositions is) (λ k. cond (leb k most_propositions) (go (named is k [])) (fault 15))
unfolding step ended
propositions_wants is = record { steps = λ t. refl; open_ended = refl }

pub propositions_taken : (s : List ℕ) (at : ℕ) (g : Given) (k z : ℕ) → NumberSays s at (Ok (k, z)) → k ≤ most_propositions → (x : Parsed Given) → ItemOn s (λ is. go (named is k [])) whole z g x → ItemSays s wants_propositions whole at g x
propositions_taken s at g k z a few x b = go' x a b
  where
    one : (is : List Item) → claim_tokens s at ≡ T.number k ∷ claim_tokens s z → told (go (wants_propositions is)) (claim_tokens s at) ≡ told (go (named is k [])) (claim_tokens s z)
    one is e = ap (λ (ts : List T.Token). told (go (wants_propositions is)) ts) e ∙ (number_taken (propositions_wants is) k _ ∙ rw (le-leb k most_propositions few) refl)

    go' : (x : Parsed Given) → NumberSays s at (Ok (k, z)) → ItemOn s (λ is. go (named is k [])) whole z g x → ItemSays s wants_propositions whole at g x
    go' (Ok (h, y)) (e, past) (b, more) = (λ is i. ((b is i).0, (b is i).1, one is e ∙ (b is i).2), ahead_onward past more)
    go' (Err j) (e, past) b = λ is i. one is e ∙ b is i

pub propositions_many : (s : List ℕ) (at : ℕ) (g : Given) (k z : ℕ) → NumberSays s at (Ok (k, z)) → most_propositions < k → ItemSays s wants_propositions whole at g (Err ClaimGrammar)
propositions_many s at g k z (e, past) many is h = ap (λ (ts : List T.Token). told (go (wants_propositions is)) ts) e ∙ (number_taken (propositions_wants is) k _ ∙ rw (lt-leb k most_propositions many) (told_fault 15 _))

pub propositions_none : (s : List ℕ) (at : ℕ) (g : Given) (j : Refusal) → NumberSays s at (Err j) → ItemSays s wants_propositions whole at g (Err j)
propositions_none s at g j a is h = a (wants_propositions is) _ (propositions_wants is)
