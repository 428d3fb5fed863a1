-- How the loop over a header's items in src/header.rt meets its contract: the kinds of items, and what each comes to. Assumes nothing.
use Rattle.model.specs.Run.{is_some}
use mathlib.Core.Path.{◌≡◌, refl, sym, ap, subst, ◌∙◌}
use mathlib.Core.Bool.{Bool, true, false, ◌&&◌, ◌||◌, cond}
use mathlib.Core.List.{List, [], ◌∷◌}
use mathlib.Core.Option.{Option, none, get_or as get_some}
use Prim.Native.Nat.{ℕ, ◌≤◌, ◌<◌}
use native.Mathlib.Omega.{arith}
use types.Run.{OneOf, miss}
use denote.Enum.Declared.{tag_of}
use lib.Dec.{leb}
use lib.ListN.{length, get_or}
use Rattle.text.specs.Ascii.{ascii}
use Rattle.text.specs.Lines.{equal}
use Rattle.model.specs.ClaimTokens as T
use Rattle.model.specs.ClaimGrammar.{Item, count_in, skipped, state_count, start_state, proposition_names, propositions_in, has_acceptance, header_whole, small_first, most_states}
use Rattle.model.specs.ClaimTable.{is_sign, Last, whole, after_start, after_acceptance, Place, in_items, in_lines, wants_count, wants_start, wants_propositions, wants_sets, go, fault, snoc, unless, capital_first, on_header, header_step, step, ended, told, refused}
use Rattle.model.proofs.ClaimItems.{first_given, given_none, count_append, start_append}
use Rattle.model.proofs.ClaimComplete.{small_not}
use Rattle.claim.specs.Reads.{part, claim_tokens, spelt, is_symbol_of, fault_of, starts, Sees, Ahead}
use Rattle.claim.specs.HeaderSays.{shown, Gives, ItemSays, ItemOn, Skips, kind_of, on_kind, on_name, last_of, KindSays, continues, no_item, items_end, HeaderSays, counted, counts_by, placed}
use Rattle.claim.specs.Reads.{Onward}
use Rattle.claim.specs.declared.tokens.Token.{Token}
use Rattle.claim.specs.declared.tokens.Token.TheVariants.{Name, Header, Number, Text, Symbol, Body, End, Alias, Comment, Stray, Done}
use Rattle.claim.specs.declared.tokens.Seen.{Seen}
use Rattle.claim.specs.declared.Counts.{Counts}
use Rattle.claim.specs.declared.header.Given.{Given}
use Rattle.claim.specs.declared.header.Kind.{Kind}
use Rattle.claim.specs.declared.header.Kind.TheVariants.{States, Start, Propositions, Acceptance, Skipped}
use Rattle.claim.proofs.Places.{stays, onto, onward, ahead_onward}
use Rattle.claim.specs.contracts.tokens.Token.{the_type}
use Rattle.claim.specs.contracts.header.Kind.{the_type as kind_type}
use Rattle.claim.proofs.Lexing.{part_cons, part_past, part_cut}
use Rattle.claim.proofs.Seeing.{reads_as, goes_past, ends_as, starts_as}
use Rattle.claim.proofs.HeaderCode.{told_end, told_fault, stepped, refuses, PlainItem, count_kept, named_kept, acceptance_kept}
use Rattle.model.specs.ClaimLabels.{and_byte, or_byte}
use Rattle.std.specs.Prelude.{is_some as given, unwrap_or, Option as Maybe, Some, None, Result, Ok, Err}
use Rattle.model.specs.Refusals.{number}
use Rattle.model.specs.declared.refusal.Refusal.{Refusal}
use Rattle.model.specs.declared.refusal.Refusal.TheVariants.{ClaimGrammar, NotTaken}
use Rattle.claim.specs.Reads.{Parsed}

-- THE FIRST BYTE of a name
module _ (s : List ℕ) (a e : ℕ) where
  pub first_is : a < length s → a < e → get_or s a 0 ≡ get_or (part s a e) 0 0
  first_is h g = sym (ap (λ (w : List ℕ). get_or w 0 0) (part_cons s e a h g))

  pub first_past : length s ≤ a → 0 ≡ get_or (part s a e) 0 0
  first_past h = sym (ap (λ (w : List ℕ). get_or w 0 0) (part_past s e a h))

  pub first_cut : e ≤ a → 0 ≡ get_or (part s a e) 0 0
  first_cut h = sym (ap (λ (w : List ℕ). get_or w 0 0) (part_cut s e a h))

-- KINDS
small_at : (w : List ℕ) → small_first w ≡ T.is_small (get_or w 0 0)
unfolding small_first T.is_small
small_at [] = refl
small_at (b ∷ w) = refl

capital_at : (w : List ℕ) → capital_first w ≡ T.is_capital (get_or w 0 0)
unfolding capital_first T.is_capital
capital_at [] = refl
capital_at (b ∷ w) = refl

-- a name that begins with a small letter is skipped: none of the format's does
pub small_skipped : (w : List ℕ) (b : ℕ) → b ≡ get_or w 0 0 → (leb 97 b && leb b 122) ≡ true → Ok Skipped ≡ kind_of w
unfolding T.is_small
small_skipped [] b q e = cc
small_skipped (c ∷ w) b q e =
    let s : T.is_small c ≡ true = rw q at e in
    sym (rw (small_not c 72 w (ascii "OA") s (omega arith), small_not c 83 w (ascii "tates") s (omega arith), small_not c 83 w (ascii "tart") s (omega arith), small_not c 65 w (ascii "P") s (omega arith), small_not c 65 w (ascii "cceptance") s (omega arith), s) refl)

-- the table's own choice
module _ (is : List Item) (w : List ℕ) where
  kinds : (a b c d e f g : Bool) → cond a (fault 15) (cond b (on_kind is w States) (cond c (on_kind is w Start) (cond d (on_kind is w Propositions) (cond e (on_kind is w Acceptance) (cond f (on_kind is w Skipped) (fault (cond g 16 15))))))) ≡ on_name is w (cond a (Err ClaimGrammar) (cond b (Ok States) (cond c (Ok Start) (cond d (Ok Propositions) (cond e (Ok Acceptance) (cond f (Ok Skipped) (Err (cond g NotTaken ClaimGrammar))))))))
  kinds true b c d e f g = refl
  kinds false true c d e f g = refl
  kinds false false true d e f g = refl
  kinds false false false true e f g = refl
  kinds false false false false true f g = refl
  kinds false false false false false true g = refl
  kinds false false false false false false true = refl
  kinds false false false false false false false = refl

  by_kind : on_header is w ≡ on_name is w (kind_of w)
  unfolding on_header
  by_kind = rw (small_at w, capital_at w) (kinds (equal w (ascii "HOA")) (equal w (ascii "States")) (equal w (ascii "Start")) (equal w (ascii "AP")) (equal w (ascii "Acceptance")) (T.is_small (get_or w 0 0)) (T.is_capital (get_or w 0 0)))

-- an item that is given once
unless_told : (b : Bool) (k : ℕ) (p : Place) (r : List T.Token) → told (unless b k p) r ≡ cond b (refused k) (told (go p) r)
unfolding unless
unless_told true k p r = told_fault k r
unless_told false k p r = refl

module _ (s : List ℕ) (at : ℕ) (g : Given) (p : List Item → Place) (l : Last) (given : List Item → Bool) (k : Refusal) where
  first_one : ((is : List Item) → Gives is g → given is ≡ false) → (x : Parsed Given) → ItemSays s p l at g x → ItemOn s (λ is. unless (given is) (number k) (p is)) l at g x
  first_one f (Ok (h, n)) (a, past) = (λ is i. ((a is i).0, (a is i).1, unless_told (given is) (number k) (p is) _ ∙ (rw (f is i) refl ∙ (a is i).2)), record { more = omega (arith, past.more); inside = λ z. past.inside })
  first_one f (Err j) a = λ is i. unless_told (given is) (number k) (p is) _ ∙ (rw (f is i) refl ∙ a is i)

  second_one : ((is : List Item) → Gives is g → given is ≡ true) → ItemOn s (λ is. unless (given is) (number k) (p is)) l at g (Err k)
  second_one f is i = unless_told (given is) (number k) (p is) _ ∙ rw (f is i) refl

some_shown : (o : Maybe ℕ) → is_some (shown o) ≡ given o
unfolding is_some
some_shown (Some v) = refl
some_shown None = refl

shown_or : (o : Maybe ℕ) → get_some (shown o) 0 ≡ unwrap_or o 0
shown_or (Some v) = refl
shown_or None = refl

module _ {is : List Item} {g : Given} (h : Gives is g) where
  states_given : is_some (state_count is) ≡ given g.states
  states_given = ap (λ (o : Option ℕ). is_some o) h.states ∙ some_shown g.states

  start_given : is_some (start_state is) ≡ given g.start
  start_given = ap (λ (o : Option ℕ). is_some o) h.start ∙ some_shown g.start

  whole_given : header_whole is ≡ ((given g.states && given g.start) && g.acceptance)
  unfolding header_whole
  whole_given = rw (states_given, start_given, h.acceptance) refl

  count_given : count_in is ≡ unwrap_or g.states 0
  unfolding count_in
  count_given = ap (λ (o : Option ℕ). get_some o 0) h.states ∙ shown_or g.states

  first_given_start : get_some (start_state is) 0 ≡ unwrap_or g.start 0
  first_given_start = ap (λ (o : Option ℕ). get_some o 0) h.start ∙ shown_or g.start

skipped_plain : (w : List ℕ) (ts : List T.Token) → PlainItem (skipped w ts)
unfolding proposition_names has_acceptance
skipped_plain w ts = record { unnamed = refl; unaccepting = refl }

skipped_gives : (w : List ℕ) (ts : List T.Token) → (state_count (skipped w ts ∷ []) ≡ none) × (start_state (skipped w ts ∷ []) ≡ none)
unfolding state_count start_state
skipped_gives w ts = (refl, refl)

pub gives_skipped : {is : List Item} {g : Given} → Gives is g → (w : List ℕ) (ts : List T.Token) → Gives (snoc is (skipped w ts)) g
gives_skipped {is} {g} h w ts =
    record {
      states = count_append is (skipped w ts ∷ []) ∙ (ap (λ (o : Option ℕ). first_given (state_count is) o) (skipped_gives w ts).0 ∙ (given_none (state_count is) ∙ h.states));
      start = start_append is (skipped w ts ∷ []) ∙ (ap (λ (o : Option ℕ). first_given (start_state is) o) (skipped_gives w ts).1 ∙ (given_none (start_state is) ∙ h.start));
      count = count_kept h (skipped_plain w ts);
      named = named_kept h (skipped_plain w ts);
      acceptance = acceptance_kept h (skipped_plain w ts);
      some_states = h.some_states;
      few_states = h.few_states;
      early_start = h.early_start;
      few_propositions = h.few_propositions;
    }

-- the item of each kind
module _ (s : List ℕ) (k : Kind) (at : ℕ) (g : Given) where
  of_kind : (i : Kind) → k ≡ i → (x : Parsed Given) → KindSays s i at g x → KindSays s k at g x
  of_kind i q x a = subst (λ (j : Kind). KindSays s j at g x) (sym q) a

  pub states_first : k ≡ States → given g.states ≡ false → (x : Parsed Given) → ItemSays s wants_count whole at g x → KindSays s k at g x
  states_first q e x a = of_kind States q x (λ w. first_one s at g wants_count whole (λ is. is_some (state_count is)) ClaimGrammar (λ is i. states_given i ∙ e) x a)

  pub states_again : k ≡ States → given g.states ≡ true → KindSays s k at g (Err ClaimGrammar)
  states_again q e = of_kind States q (Err ClaimGrammar) (λ w. second_one s at g wants_count whole (λ is. is_some (state_count is)) ClaimGrammar (λ is i. states_given i ∙ e))

  pub start_first : k ≡ Start → given g.start ≡ false → (x : Parsed Given) → ItemSays s wants_start after_start at g x → KindSays s k at g x
  start_first q e x a = of_kind Start q x (λ w. first_one s at g wants_start after_start (λ is. is_some (start_state is)) NotTaken (λ is i. start_given i ∙ e) x a)

  pub start_again : k ≡ Start → given g.start ≡ true → KindSays s k at g (Err NotTaken)
  start_again q e = of_kind Start q (Err NotTaken) (λ w. second_one s at g wants_start after_start (λ is. is_some (start_state is)) NotTaken (λ is i. start_given i ∙ e))

  pub propositions_first : k ≡ Propositions → given g.propositions ≡ false → (x : Parsed Given) → ItemSays s wants_propositions whole at g x → KindSays s k at g x
  propositions_first q e x a = of_kind Propositions q x (λ w. first_one s at g wants_propositions whole (λ is. is_some (proposition_names is)) ClaimGrammar (λ is i. i.named ∙ e) x a)

  pub propositions_again : k ≡ Propositions → given g.propositions ≡ true → KindSays s k at g (Err ClaimGrammar)
  propositions_again q e = of_kind Propositions q (Err ClaimGrammar) (λ w. second_one s at g wants_propositions whole (λ is. is_some (proposition_names is)) ClaimGrammar (λ is i. i.named ∙ e))

  pub acceptance_first : k ≡ Acceptance → g.acceptance ≡ false → (x : Parsed Given) → ItemSays s wants_sets after_acceptance at g x → KindSays s k at g x
  acceptance_first q e x a = of_kind Acceptance q x (λ w. first_one s at g wants_sets after_acceptance has_acceptance ClaimGrammar (λ is i. i.acceptance ∙ e) x a)

  pub acceptance_again : k ≡ Acceptance → g.acceptance ≡ true → KindSays s k at g (Err ClaimGrammar)
  acceptance_again q e = of_kind Acceptance q (Err ClaimGrammar) (λ w. second_one s at g wants_sets after_acceptance has_acceptance ClaimGrammar (λ is i. i.acceptance ∙ e))

  pub skipped_read : k ≡ Skipped → (n : ℕ) → Skips s at n → KindSays s k at g (Ok (g, n))
  skipped_read q n a = of_kind Skipped q (Ok (g, n)) (λ w. (λ is i. let m = a.same is w in (m.0, m.2 g i, m.1), a.onward))

-- SIGNS after an item
module _ (l : Kind) (t : Token) where
  pub continues_start : l ≡ Start → (x : Bool) → x ≡ is_symbol_of t and_byte → x ≡ continues l t
  continues_start q x e = e ∙ sym (ap (λ (k : Kind). continues k t) q)

  pub continues_acceptance : l ≡ Acceptance → (x y : Bool) → x ≡ is_symbol_of t and_byte → y ≡ is_symbol_of t or_byte → (x || y) ≡ continues l t
  continues_acceptance q x y e f = rw (e, f) (sym (ap (λ (k : Kind). continues k t) q))

abbrev but_signed : List ℕ
but_signed = 0 ∷ 2 ∷ 4 ∷ []

pub continues_not : (l : Kind) (t : Token) → OneOf but_signed (tag_of kind_type l) → false ≡ continues l t
continues_not Start t h = absurd (miss but_signed 1 tt h)
continues_not Acceptance t h = absurd (miss but_signed 3 tt h)
continues_not States t h = refl
continues_not Propositions t h = refl
continues_not Skipped t h = refl

-- THE END of the items
abbrev but_body : List ℕ
but_body = 0 ∷ 1 ∷ 2 ∷ 3 ∷ 4 ∷ 6 ∷ 7 ∷ 8 ∷ 9 ∷ 10 ∷ []

module _ (n : ℕ) (g : Given) (l : Kind) where
  pub body_is : (t : Token) → t ≡ Body → (x : Result Counts Refusal) → x ≡ counted g → placed n x ≡ items_end t n g l
  body_is t q x e = ap (placed n) e ∙ sym (ap (λ (u : Token). items_end u n g l) q)

  pub body_not : (t : Token) → OneOf but_body (tag_of the_type t) → (b : Bool) → b ≡ continues l t → Err (cond b NotTaken (fault_of t)) ≡ items_end t n g l
  body_not Body h b e = absurd (miss but_body 5 tt h)
  body_not (Name a z) h b e = ap (λ (x : Bool). Err (cond x NotTaken ClaimGrammar)) e
  body_not (Header a z) h b e = ap (λ (x : Bool). Err (cond x NotTaken ClaimGrammar)) e
  body_not (Number v) h b e = ap (λ (x : Bool). Err (cond x NotTaken ClaimGrammar)) e
  body_not (Text a z) h b e = ap (λ (x : Bool). Err (cond x NotTaken ClaimGrammar)) e
  body_not (Symbol c) h b e = ap (λ (x : Bool). Err (cond x NotTaken ClaimGrammar)) e
  body_not End h b e = ap (λ (x : Bool). Err (cond x NotTaken ClaimGrammar)) e
  body_not Alias h b e = ap (λ (x : Bool). Err (cond x NotTaken ClaimGrammar)) e
  body_not Comment h b e = ap (λ (x : Bool). Err (cond x NotTaken NotTaken)) e
  body_not Stray h b e = ap (λ (x : Bool). Err (cond x NotTaken ClaimGrammar)) e
  body_not Done h b e = ap (λ (x : Bool). Err (cond x NotTaken ClaimGrammar)) e

-- what stands last asks for a sign or none; all else is as after whole items
after_start_told : (is : List Item) (ts : List T.Token) → told (go (in_items after_start is)) ts ≡ cond (starts and_byte ts) (refused 16) (told (go (in_items whole is)) ts)
unfolding told step ended starts
after_start_told is [] = refl
after_start_told is (t ∷ r) = go' (is_sign (T.symbol and_byte) t)
  where
    go' : (b : Bool) → told (cond b (fault 16) (header_step is t)) r ≡ cond b (refused 16) (told (header_step is t) r)
    go' true = told_fault 16 r
    go' false = refl

after_acceptance_told : (is : List Item) (ts : List T.Token) → told (go (in_items after_acceptance is)) ts ≡ cond (starts and_byte ts || starts or_byte ts) (refused 16) (told (go (in_items whole is)) ts)
unfolding told step ended starts
after_acceptance_told is [] = refl
after_acceptance_told is (t ∷ r) = go' (is_sign (T.symbol and_byte) t || is_sign (T.symbol or_byte) t)
  where
    go' : (b : Bool) → told (cond b (fault 16) (header_step is t)) r ≡ cond b (refused 16) (told (header_step is t) r)
    go' true = told_fault 16 r
    go' false = refl

-- a token after whole items
pub header_told : (is : List Item) (w : List ℕ) (r : List T.Token) → told (go (in_items whole is)) (T.header w ∷ r) ≡ told (on_name is w (kind_of w)) r
unfolding step header_step
header_told is w r = stepped (in_items whole is) _ r (on_name is w (kind_of w)) (by_kind is w)

body_told : (is : List Item) (r : List T.Token) (b : Bool) → header_whole is ≡ b → told (go (in_items whole is)) (T.body_mark ∷ r) ≡ told (cond b (go (in_lines is [])) (fault 15)) r
unfolding step header_step
body_told is r b e = stepped (in_items whole is) _ r (cond b (go (in_lines is [])) (fault 15)) (ap (λ (x : Bool). cond x (go (in_lines is [])) (fault 15)) e)

-- THE LOOP: what the items so far give, and what stands last
pub record ItemsSoFar (s : List ℕ) (at : ℕ) (g : Given) (last : Kind) (here : ℕ) : Type 0 where
  pub items : List Item
  pub gives : Gives items g
  pub same : told (go (in_items whole [])) (claim_tokens s at) ≡ told (go (in_items (last_of last) items)) (claim_tokens s here)
  pub past : Onward s at here

abbrev nothing_yet : Given
nothing_yet = record { states = None; start = None; propositions = None; acceptance = false }

gives_nothing : Gives [] nothing_yet
unfolding state_count start_state proposition_names propositions_in has_acceptance is_some
gives_nothing = record { states = refl; start = refl; count = refl; named = refl; acceptance = refl; some_states = omega arith; few_states = omega arith; early_start = omega arith; few_propositions = omega arith }

pub items_begun : (s : List ℕ) (at : ℕ) → ItemsSoFar s at nothing_yet Skipped at
items_begun s at = record { items = []; gives = gives_nothing; same = refl; past = stays }

no_sign : (l : Kind) (t : Token) → is_symbol_of t and_byte ≡ false → is_symbol_of t or_byte ≡ false → continues l t ≡ false
no_sign Start t e f = e
no_sign Acceptance t e f = rw (e, f) refl
no_sign States t e f = refl
no_sign Propositions t e f = refl
no_sign Skipped t e f = refl

abbrev but_header : List ℕ
but_header = 0 ∷ 2 ∷ 3 ∷ 4 ∷ 5 ∷ 6 ∷ 7 ∷ 8 ∷ 9 ∷ 10 ∷ []

module _ {s : List ℕ} {at : ℕ} {g : Given} {l : Kind} {here : ℕ} (a : ItemsSoFar s at g l here) {r : Seen} (n : Sees s T.longest_claim here (claim_tokens s here) r) where
  last_told : (k : Kind) (is : List Item) → told (go (in_items (last_of k) is)) (claim_tokens s here) ≡ cond (continues k r.token) (refused 16) (told (go (in_items whole is)) (claim_tokens s here))
  last_told Start is = after_start_told is _ ∙ rw (starts_as n and_byte _ refl) refl
  last_told Acceptance is = after_acceptance_told is _ ∙ rw (starts_as n and_byte _ refl, starts_as n or_byte _ refl) refl
  last_told States is = refl
  last_told Propositions is = refl
  last_told Skipped is = refl

  -- a token that is no sign
  whole_told : is_symbol_of r.token and_byte ≡ false → is_symbol_of r.token or_byte ≡ false → told (go (in_items whole [])) (claim_tokens s at) ≡ told (go (in_items whole a.items)) (claim_tokens s here)
  whole_told e f = a.same ∙ (last_told l a.items ∙ rw (no_sign l r.token e f) refl)

  -- a header
  module _ (b e : ℕ) (q : r.token ≡ Header b e) (k : Result Kind Refusal) (o : k ≡ kind_of (part s b e)) where
    kind_told : told (go (in_items whole [])) (claim_tokens s at) ≡ told (on_name a.items (part s b e) k) (claim_tokens s r.next)
    kind_told =
        whole_told (ap (λ (t : Token). is_symbol_of t and_byte) q) (ap (λ (t : Token). is_symbol_of t or_byte) q)
        ∙ (ap (λ (ts : List T.Token). told (go (in_items whole a.items)) ts) (reads_as n (Header b e) q refl)
        ∙ (header_told a.items (part s b e) _ ∙ ap (λ (i : Result Kind Refusal). told (on_name a.items (part s b e) i) (claim_tokens s r.next)) (sym o)))

  module _ (b e : ℕ) (q : r.token ≡ Header b e) where
    pub items_unknown : (j : Refusal) → Err j ≡ kind_of (part s b e) → HeaderSays s at (Err j)
    items_unknown j o = kind_told b e q (Err j) o ∙ told_fault (number j) _

    module _ (k : Kind) (o : Ok k ≡ kind_of (part s b e)) where
      pub items_again : (h : Given) (z : ℕ) → KindSays s k r.next g (Ok (h, z)) → ItemsSoFar s at h k z
      items_again h z d = let m = (d (part s b e)).0 a.items a.gives in record { items = m.0; gives = m.1; same = kind_told b e q (Ok k) o ∙ m.2; past = onward (onward a.past (onto (goes_past n (Header b e) q refl))) (d (part s b e)).1 }

      pub items_ahead : (h : Given) (z : ℕ) → KindSays s k r.next g (Ok (h, z)) → Ahead s here z
      items_ahead h z d = ahead_onward (goes_past n (Header b e) q refl) (d (part s b e)).1

      pub items_broken : (j : Refusal) → KindSays s k r.next g (Err j) → HeaderSays s at (Err j)
      items_broken j c = kind_told b e q (Ok k) o ∙ c (part s b e) a.items a.gives

  -- the body
  body_ended : r.token ≡ Body → HeaderSays s at (placed r.next (counted g))
  body_ended q = go' g.states g.start g.acceptance refl refl refl
    where
      body_next : told (go (in_items whole [])) (claim_tokens s at) ≡ told (go (in_items whole a.items)) (T.body_mark ∷ claim_tokens s r.next)
      body_next = whole_told (ap (λ (t : Token). is_symbol_of t and_byte) q) (ap (λ (t : Token). is_symbol_of t or_byte) q) ∙ ap (λ (ts : List T.Token). told (go (in_items whole a.items)) ts) (reads_as n Body q refl)

      past : Ahead s here r.next
      past = goes_past n Body q refl

      torn : header_whole a.items ≡ false → HeaderSays s at (Err ClaimGrammar)
      torn w = body_next ∙ (body_told a.items _ false w ∙ told_fault 15 _)

      whole_by : (n v : Maybe ℕ) (b : Bool) → g.states ≡ n → g.start ≡ v → g.acceptance ≡ b → header_whole a.items ≡ ((given n && given v) && b)
      whole_by n v b e f h = whole_given a.gives ∙ rw (e, f, h) refl

      go' : (n v : Maybe ℕ) (b : Bool) → g.states ≡ n → g.start ≡ v → g.acceptance ≡ b → HeaderSays s at (placed r.next (counts_by n v g.propositions b))
      go' (Some n) (Some v) true e f h =
          let w = whole_by (Some n) (Some v) true e f h in (
            a.items,
            record {
              states = count_given a.gives ∙ ap (λ (o : Maybe ℕ). unwrap_or o 0) e;
              start = first_given_start a.gives ∙ ap (λ (o : Maybe ℕ). unwrap_or o 0) f;
              propositions = a.gives.count;
              some_states = subst (λ (o : Maybe ℕ). 1 ≤ unwrap_or o 1) e a.gives.some_states;
              few_states = subst (λ (o : Maybe ℕ). unwrap_or o 0 ≤ most_states) e a.gives.few_states;
              early_start = subst (λ (o : Maybe ℕ). unwrap_or o 0 < most_states) f a.gives.early_start;
              few_propositions = a.gives.few_propositions;
            },
            w,
            body_next ∙ body_told a.items _ true w,
            record { more = omega (arith, past.more, a.past.more); inside = past.inside },
          )
      go' (Some n) (Some v) false e f h = torn (whole_by (Some n) (Some v) false e f h)
      go' (Some n) None b e f h = torn (whole_by (Some n) None b e f h)
      go' None v b e f h = torn (whole_by None v b e f h)

  -- neither
  other_ended : (t : Token) → r.token ≡ t → told (go (in_items whole a.items)) (spelt s t n.rest) ≡ refused (number (fault_of t)) → HeaderSays s at (no_item l t)
  other_ended t q f = go' (continues l t) (a.same ∙ (last_told l a.items ∙ ap (λ (u : Token). cond (continues l u) (refused 16) (told (go (in_items whole a.items)) (claim_tokens s here))) q))
    where
      go' : (b : Bool) → told (go (in_items whole [])) (claim_tokens s at) ≡ cond b (refused 16) (told (go (in_items whole a.items)) (claim_tokens s here)) → HeaderSays s at (Err (cond b NotTaken (fault_of t)))
      go' true e = e
      go' false e = e ∙ (ap (λ (ts : List T.Token). told (go (in_items whole a.items)) ts) (ends_as n t q) ∙ f)

  ended_by : (t : Token) → r.token ≡ t → OneOf but_header (tag_of the_type t) → HeaderSays s at (items_end t r.next g l)
  unfolding step header_step ended
  ended_by (Header b e) q h = absurd (miss but_header 1 tt h)
  ended_by Body q h = body_ended q
  ended_by (Name b e) q h = other_ended _ q (refuses (in_items whole a.items) _ _ 15 refl)
  ended_by (Number v) q h = other_ended _ q (refuses (in_items whole a.items) _ _ 15 refl)
  ended_by (Text b e) q h = other_ended _ q (refuses (in_items whole a.items) _ _ 15 refl)
  ended_by (Symbol b) q h = other_ended _ q (refuses (in_items whole a.items) _ _ 15 refl)
  ended_by End q h = other_ended _ q (refuses (in_items whole a.items) _ _ 15 refl)
  ended_by Alias q h = other_ended _ q (refuses (in_items whole a.items) _ _ 15 refl)
  ended_by Comment q h = other_ended _ q (refuses (in_items whole a.items) _ _ 16 refl)
  ended_by Stray q h = other_ended _ q (refuses (in_items whole a.items) _ _ 15 refl)
  ended_by Done q h = other_ended _ q (told_end (in_items whole a.items))

  pub items_ended : OneOf but_header (tag_of the_type r.token) → (x : Parsed Counts) → x ≡ items_end r.token r.next g l → HeaderSays s at x
  items_ended h x e = subst (λ (y : Parsed Counts). HeaderSays s at y) (sym e) (ended_by r.token refl h)
