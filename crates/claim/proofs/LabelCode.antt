-- How the answers of the label readers of src/labels.rt follow from each other: a law for each return and each turn of a loop. Assumes nothing.
use mathlib.Core.Path.{◌≡◌, refl, sym, ap, subst, ◌∙◌}
use mathlib.Core.Bool.{Bool, true, false, not, cond, and-true}
use mathlib.Core.List.{List, [], ◌∷◌}
use mathlib.Core.Option.{Option, none, some}
use Prim.Native.Nat.{ℕ, suc, ◌+◌, ◌≤◌, ◌<◌}
use native.Mathlib.Numerals.{add-one}
use native.Mathlib.Omega.{arith}
use types.Run.{OneOf, miss}
use denote.Enum.Declared.{tag_of}
use lib.Dec.{ltb, eqb}
use borrow.Author.Tests.{le-ltb}
use Rattle.text.specs.Ascii.{ascii}
use Rattle.model.specs.ClaimTokens as T
use Rattle.text.specs.Lines.{equal}
use Rattle.model.specs.ClaimLabels.{not_byte, and_byte, or_byte, open_byte, close_byte, end_label_byte, or_level, and_level, atom, Label, always, never, proposition, term, either, deepest, Under, Reading, due, stands, LabelNext, on, broken, depth_of, with_atom, deeper, on_name, atom_step, close_step, operator_step, label_step, label_told, label_is, no_label, label_start, whole_or}
use Rattle.model.specs.ClaimTable.{is_sign}
use Rattle.claim.specs.LabelSays.{TruthOf, everything, nothing, intersection_of, union_of, Read, Got, No, AtomSays, AndSays, OrSays}
use Rattle.std.specs.Prelude.{Some}
use Rattle.claim.specs.Reads.{part, claim_tokens, byte_of, PastBlanks, Sign, Stands, BlanksEnd, spelt, Sees, Ahead, starts, first_fault, AtomRead, AndRead, OrRead, negated_of, Closed, LabelSays, constant_if, PropositionRead, no_atom_of}
use Rattle.claim.specs.declared.tokens.Token.{Token}
use Rattle.claim.specs.declared.tokens.Token.TheVariants.{Name, Header, Number, Text, Symbol, Body, End, Alias, Comment, Stray, Done}
use Rattle.claim.specs.declared.tokens.Seen.{Seen}
use Rattle.claim.specs.declared.labels.Values.{Values}
use Rattle.claim.proofs.Places.{ahead, ahead_onward, from_ahead, over_blanks}
use Rattle.claim.specs.contracts.tokens.Token.{the_type}
use Rattle.claim.proofs.Seeing.{reads_as, goes_past}
use Rattle.claim.proofs.Signs.{not_sign, and_sign, or_sign, open_sign, sign_is, sign_past, sign_not}
use Rattle.claim.proofs.Bits.{always_everything, never_nothing}
use Rattle.model.proofs.ClaimLabels.{step_open}
use Rattle.claim.proofs.LabelSteps.{flipped, atom_not, atom_twice, and_everything, or_nothing, atom_bracket, atom_bracket_fault, one_deeper, and_first, and_more, and_fault, or_first, or_more, or_fault, label_whole}
use Rattle.std.specs.Prelude.{Ok, Err}
use Rattle.model.specs.Refusals.{number}
use Rattle.model.specs.declared.refusal.Refusal.{Refusal}
use Rattle.model.specs.declared.refusal.Refusal.TheVariants.{ClaimGrammar}
use Rattle.claim.specs.Reads.{Parsed}

-- ONE TOKEN
module _ (k : ℕ) where
  told_due : (us : List Under) (u : Under) (t : T.Token) (r : List T.Token) → label_told k (on (due us u)) (t ∷ r) ≡ label_told k (atom_step k us u t) r
  unfolding label_told label_step
  told_due us u t r = refl

  told_stands : (us : List Under) (o : Option (Label or_level)) (c : Label and_level) (t : T.Token) (r : List T.Token) → label_told k (on (stands us o c)) (t ∷ r) ≡ label_told k (operator_step us o c t) r
  unfolding label_told label_step
  told_stands us o c t r = refl

  told_none : (y : Reading) → label_told k (on y) [] ≡ no_label 15
  unfolding label_told
  told_none y = refl

  told_broken : (n : ℕ) (r : List T.Token) → label_told k (broken n) r ≡ no_label n
  unfolding label_told
  told_broken n [] = refl
  told_broken n (t ∷ r) = refl

  -- ATOMS: a name
  name_step : (w : List ℕ) (us : List Under) (u : Under) → atom_step k us u (T.name w) ≡ cond (equal w (ascii "t")) (on (with_atom us u always)) (cond (equal w (ascii "f")) (on (with_atom us u never)) (broken 15))
  unfolding atom_step on_name
  name_step w us u = refl

  -- a number
  number_step : (i : ℕ) (us : List Under) (u : Under) → atom_step k us u (T.number i) ≡ cond (ltb i k) (on (with_atom us u (proposition i))) (broken 15)
  unfolding atom_step
  number_step i us u = refl

  -- a symbol that goes too deep
  deep_step : (b : ℕ) (us : List Under) (u : Under) → deepest ≤ u.nots + depth_of us → atom_step k us u (T.symbol b) ≡ broken 15
  unfolding atom_step deeper
  deep_step b us u h = rw (le-ltb (u.nots + depth_of us) deepest h) (go (eqb b 33) (eqb b 40))
    where
      go : (p q : Bool) → cond p (broken 15) (cond q (broken 15) (broken 15)) ≡ broken 15
      go true q = refl
      go false true = refl
      go false false = refl

module _ (k d : ℕ) where
  leaf : (a : Label atom) (t : T.Token) (r : List T.Token) (w : Values) → ((us : List Under) (u : Under) → atom_step k us u t ≡ on (with_atom us u a)) → TruthOf a w → AtomSays k d (t ∷ r) (Got w r)
  leaf a t r w f e = (a, e, λ us u q. told_due k us u t r ∙ ap (λ (y : LabelNext). label_told k y r) (f us u))

  no_leaf : (t : T.Token) (r : List T.Token) (n : ℕ) → ((us : List Under) (u : Under) → u.nots + depth_of us ≡ d → atom_step k us u t ≡ broken n) → AtomSays k d (t ∷ r) (No n)
  no_leaf t r n f us u q = told_due k us u t r ∙ (ap (λ (y : LabelNext). label_told k y r) (f us u q) ∙ told_broken k n r)

abbrev no_atom_keys : List ℕ
no_atom_keys = 1 ∷ 3 ∷ 4 ∷ 5 ∷ 6 ∷ 7 ∷ 8 ∷ 9 ∷ 10 ∷ []

-- a token that begins no atom
none_spelt : (k d : ℕ) (s : List ℕ) (r : List T.Token) (t : Token) → OneOf no_atom_keys (tag_of the_type t) → starts not_byte (spelt s t r) ≡ false → starts open_byte (spelt s t r) ≡ false → AtomSays k d (spelt s t r) (No (number (no_atom_of t)))
unfolding atom_step starts is_sign
none_spelt k d s r (Name a e) h p z = absurd (miss no_atom_keys 0 tt h)
none_spelt k d s r (Number v) h p z = absurd (miss no_atom_keys 2 tt h)
none_spelt k d s r (Symbol b) h p z = no_leaf k d _ _ 15 (λ us u q. rw (p, z) refl)
none_spelt k d s r (Header a e) h p z = no_leaf k d _ _ 15 (λ us u q. refl)
none_spelt k d s r (Text a e) h p z = no_leaf k d _ _ 15 (λ us u q. refl)
none_spelt k d s r Body h p z = no_leaf k d _ _ 15 (λ us u q. refl)
none_spelt k d s r End h p z = no_leaf k d _ _ 15 (λ us u q. refl)
none_spelt k d s r Alias h p z = no_leaf k d _ _ 16 (λ us u q. refl)
none_spelt k d s r Comment h p z = no_leaf k d _ _ 16 (λ us u q. refl)
none_spelt k d s r Stray h p z = no_leaf k d _ _ 15 (λ us u q. refl)
none_spelt k d s r Done h p z = λ us u q. told_none k (due us u)

-- a bracket that does not close
open_step : (us : List Under) (u : Under) (o : Option (Label or_level)) (c : Label and_level) (t : T.Token) (r : List T.Token) → starts and_byte (t ∷ r) ≡ false → starts or_byte (t ∷ r) ≡ false → starts close_byte (t ∷ r) ≡ false → operator_step (u ∷ us) o c t ≡ broken (first_fault (t ∷ r))
unfolding operator_step close_step starts is_sign first_fault
open_step us u o c (T.symbol b) r e f g = rw (e, f, g) refl
open_step us u o c (T.name w) r e f g = refl
open_step us u o c (T.header w) r e f g = refl
open_step us u o c (T.number w) r e f g = refl
open_step us u o c (T.string w) r e f g = refl
open_step us u o c T.body_mark r e f g = refl
open_step us u o c T.end_mark r e f g = refl
open_step us u o c T.alias r e f g = refl
open_step us u o c T.comment r e f g = refl
open_step us u o c T.stray r e f g = refl

none_first : first_fault [] ≡ 15
unfolding first_fault
none_first = refl

open_told : (k : ℕ) (us : List Under) (u : Under) (o : Option (Label or_level)) (c : Label and_level) (q : List T.Token) → starts and_byte q ≡ false → starts or_byte q ≡ false → starts close_byte q ≡ false → label_told k (on (stands (u ∷ us) o c)) q ≡ no_label (first_fault q)
open_told k us u o c [] e f g = told_none k (stands (u ∷ us) o c) ∙ ap no_label (sym none_first)
open_told k us u o c (t ∷ r) e f g = told_stands k (u ∷ us) o c t r ∙ (ap (λ (y : LabelNext). label_told k y r) (open_step us u o c t r e f g) ∙ told_broken k _ r)

open_or : (k : ℕ) (us : List Under) (u : Under) (o : Label or_level) (q : List T.Token) → starts and_byte q ≡ false → starts or_byte q ≡ false → starts close_byte q ≡ false → label_told k (on (whole_or (u ∷ us) o)) q ≡ no_label (first_fault q)
open_or k us u (term c) q e f g = open_told k us u none c q e f g
open_or k us u (either o c) q e f g = open_told k us u (some o) c q e f g

atom_open : (k d : ℕ) (ts q : List T.Token) (w : Values) → d < deepest → OrSays k (suc d) ts (Got w q) → starts and_byte q ≡ false → starts or_byte q ≡ false → starts close_byte q ≡ false → AtomSays k d (T.symbol open_byte ∷ ts) (No (first_fault q))
atom_open k d ts q w h (o, t, s) e f g us u p = step_open k us u ts (omega (arith, h, p)) ∙ (s (u ∷ us) (one_deeper us u d p) ∙ open_or k us u o q e f g)

-- a letter alone
pub letter_is : (b c : ℕ) → equal (b ∷ []) (c ∷ []) ≡ eqb b c
unfolding equal
letter_is b c = and-true (eqb b c)

-- what the code reads at a leaf: a token, and the blanks past it
module _ (s : List ℕ) (k d at : ℕ) (t : T.Token) (next past : ℕ) (h : Stands s at t next) (b : BlanksEnd s T.longest_claim next past) where
  leaf_read : (a : Label atom) (w : Values) → ((us : List Under) (u : Under) → atom_step k us u t ≡ on (with_atom us u a)) → TruthOf a w → AtomRead s k d at (Ok (w, past))
  leaf_read a w f v =
      (subst (λ (ts : List T.Token). AtomSays k d ts (Got w (claim_tokens s past))) (sym (h.0 ∙ ap (λ (ts : List T.Token). t ∷ ts) b.same)) (leaf k d a t _ w f v), ahead_onward h.1 (over_blanks b), b.stops)

  leaf_broken : ((us : List Under) (u : Under) → atom_step k us u t ≡ broken 15) → AtomRead s k d at (Err ClaimGrammar)
  leaf_broken f = subst (λ (ts : List T.Token). AtomSays k d ts (No 15)) (sym h.0) (no_leaf k d t _ 15 (λ us u q. f us u))

module _ (s : List ℕ) (k d at next past : ℕ) where
  pub leaf_number : (i : ℕ) → Stands s at (T.number i) next → BlanksEnd s T.longest_claim next past → (l : Parsed Values) → PropositionRead i k past l → AtomRead s k d at l
  leaf_number i h b (Ok (w, m)) (y, t, z) = rw z (leaf_read s k d at (T.number i) next past h b (proposition i) w (λ us u. number_step k i us u ∙ rw y refl) t)
  leaf_number i h b (Err j) (y, z) = rw z (leaf_broken s k d at (T.number i) next past h b (λ us u. number_step k i us u ∙ rw y refl))

  pub leaf_name : (w : List ℕ) → Stands s at (T.name w) next → BlanksEnd s T.longest_claim next past → (t f : Bool) → equal w (ascii "t") ≡ t → equal w (ascii "f") ≡ f → (l : Parsed Values) → l ≡ constant_if t f past → AtomRead s k d at l
  leaf_name w h b t f x x' l p = subst (λ (y : Parsed Values). AtomRead s k d at y) (sym p) (go t x f x')
    where
      go : (y : Bool) → equal w (ascii "t") ≡ y → (z : Bool) → equal w (ascii "f") ≡ z → AtomRead s k d at (constant_if y z past)
      go true y z' z = leaf_read s k d at (T.name w) next past h b always everything (λ us u. name_step k w us u ∙ rw y refl) always_everything
      go false y true z = leaf_read s k d at (T.name w) next past h b never nothing (λ us u. name_step k w us u ∙ rw (y, z) refl) never_nothing
      go false y false z = leaf_broken s k d at (T.name w) next past h b (λ us u. name_step k w us u ∙ rw (y, z) refl)

module _ {s : List ℕ} {at : ℕ} {r : Seen} (n : Sees s T.longest_claim at (claim_tokens s at) r) where
  pub name_is : (a e : ℕ) → r.token ≡ Name a e → Stands s at (T.name (part s a e)) r.next
  name_is a e q = (reads_as n (Name a e) q refl, goes_past n (Name a e) q refl)

  -- the token begins no atom
  pub leaf_refused : (k d : ℕ) → OneOf no_atom_keys (tag_of the_type r.token) → starts not_byte (claim_tokens s at) ≡ false → starts open_byte (claim_tokens s at) ≡ false → (j : Refusal) → j ≡ no_atom_of r.token → AtomRead s k d at (Err j)
  leaf_refused k d h p q j e =
      subst (λ (ts : List T.Token). AtomSays k d ts (No (number j))) (sym n.reads) (subst (λ (i : Refusal). AtomSays k d (spelt s r.token n.rest) (No (number i))) (sym e) (none_spelt k d s n.rest r.token h (ap (starts not_byte) (sym n.reads) ∙ p) (ap (starts open_byte) (sym n.reads) ∙ q)))

-- BRACKETS
module _ (s : List ℕ) (k d here : ℕ) where
  opened_as : (R : Read) → byte_of s here ≡ Some open_byte → AtomSays k d (T.symbol open_byte ∷ claim_tokens s (here + 1)) R → AtomSays k d (claim_tokens s here) R
  opened_as R e a = subst (λ (y : List T.Token). AtomSays k d y R) (sym (sign_is s here open_byte open_sign e)) a

  pub atom_closed : byte_of s here ≡ Some open_byte → d < deepest → (l m : Parsed Values) → OrRead s k (d + 1) (here + 1) l → Closed s close_byte l m → AtomRead s k d here m
  atom_closed e h (Err j) m a c = subst (λ (y : Parsed Values). AtomRead s k d here y) (sym c) (opened_as (No (number j)) e (atom_bracket_fault k d _ (number j) h (rw (add-one d) at a)))
  atom_closed e h (Ok (v, z)) (Ok (w, y)) (o, past, stop, a, p) (u, t, past', stop') = (
    opened_as (Got w (claim_tokens s y)) e (subst (λ (x : Values). AtomSays k d (T.symbol open_byte ∷ claim_tokens s (here + 1)) (Got x (claim_tokens s y))) (sym u) (atom_bracket k d _ _ v h (bracketed o))),
    ahead (sign_past s here open_byte open_sign e) (ahead past past'),
    stop',
  )
    where
      bracketed : OrSays k (d + 1) (claim_tokens s (here + 1)) (Got v (claim_tokens s z)) → OrSays k (suc d) (claim_tokens s (here + 1)) (Got v (T.symbol close_byte ∷ claim_tokens s y))
      bracketed o = subst (λ (ts : List T.Token). OrSays k (suc d) (claim_tokens s (here + 1)) (Got v ts)) t (rw (add-one d) at o)
  atom_closed e h (Ok (v, z)) (Err j) (o, past, stop, a, p) c =
      let (t, f) = c stop in
      opened_as (No (number j)) e (subst (λ (i : ℕ). AtomSays k d (T.symbol open_byte ∷ claim_tokens s (here + 1)) (No i)) (sym f) (atom_open k d _ _ v h (rw (add-one d) at o) a p t))

  -- a negation or a bracket that is one too many
  pub too_deep : (b : ℕ) → Sign b → byte_of s here ≡ Some b → deepest ≤ d → AtomRead s k d here (Err ClaimGrammar)
  too_deep b y e h = subst (λ (ts : List T.Token). AtomSays k d ts (No 15)) (sym (sign_is s here b y e)) (no_leaf k d _ _ 15 (λ us u q. deep_step k b us u (omega (arith, h, q))))

-- NEGATIONS: what stands past those that are read gives the whole
abbrev negated_read : Bool → Read → Read
negated_read true R = flipped R
negated_read false R = R

pub record NotsSoFar (s : List ℕ) (k d at : ℕ) (here down : ℕ) (odd : Bool) : Type 0 where
  pub carries : (R : Read) → AtomSays k down (claim_tokens s here) R → AtomSays k d (claim_tokens s at) (negated_read odd R)
  pub past : at ≤ here
  pub deeper : d ≤ down
  pub stops : PastBlanks s here

pub nots_none : (s : List ℕ) (k d at here : ℕ) → BlanksEnd s T.longest_claim at here → NotsSoFar s k d at here d false
nots_none s k d at here b =
    record { carries = λ R a. subst (λ (ts : List T.Token). AtomSays k d ts R) (sym b.same) a; past = b.ahead; deeper = omega arith; stops = b.stops }

module _ {s : List ℕ} {k d at here down : ℕ} {odd : Bool} (n : NotsSoFar s k d at here down odd) where
  again : (odd : Bool) (R : Read) → AtomSays k d (claim_tokens s at) (negated_read odd (flipped R)) → AtomSays k d (claim_tokens s at) (negated_read (not odd) R)
  again true R a = atom_twice k d _ R a
  again false R a = a

  pub nots_more : {e : ℕ} → byte_of s here ≡ Some not_byte → down < deepest → BlanksEnd s T.longest_claim (here + 1) e → NotsSoFar s k d at e (down + 1) (not odd)
  nots_more q h b =
      record {
        carries = λ R a. again odd R (n.carries (flipped R) (subst (λ (ts : List T.Token). AtomSays k down ts (flipped R)) (sym (sign_is s here not_byte not_sign q)) (atom_not k down _ R h (subst (λ (ts : List T.Token). AtomSays k (suc down) ts R) (sym b.same) (rw (add-one down) at a)))));
        past = omega (arith, n.past, b.ahead);
        deeper = omega (arith, n.deeper);
        stops = b.stops;
      }

  pub nots_carried : (l m : Parsed Values) → m ≡ negated_of odd l → AtomRead s k down here l → AtomRead s k d at m
  nots_carried l m q a = subst (λ (y : Parsed Values). AtomRead s k d at y) (sym q) (go odd n.carries l a)
    where
      go : (odd : Bool) → ((R : Read) → AtomSays k down (claim_tokens s here) R → AtomSays k d (claim_tokens s at) (negated_read odd R)) → (l : Parsed Values) → AtomRead s k down here l → AtomRead s k d at (negated_of odd l)
      go true c (Ok (w, e)) (a, past, stop) = (c (Got w (claim_tokens s e)) a, from_ahead n.past past, stop)
      go false c (Ok (w, e)) (a, past, stop) = (c (Got w (claim_tokens s e)) a, from_ahead n.past past, stop)
      go true c (Err j) a = c (No (number j)) a
      go false c (Err j) a = c (No (number j)) a

  pub nots_deep : (b : ℕ) → Sign b → byte_of s here ≡ Some b → deepest ≤ down → AtomRead s k d at (Err ClaimGrammar)
  nots_deep b y q h = go odd (n.carries (No 15) (too_deep s k down here b y q h))
    where
      go : (odd : Bool) → AtomSays k d (claim_tokens s at) (negated_read odd (No 15)) → AtomSays k d (claim_tokens s at) (No 15)
      go true a = a
      go false a = a

-- TERMS AND EXPRESSIONS: what stands from a place on gives the whole, joined to what is read
pub record Due (Below Here : List T.Token → Read → Type 0) (join : Values → Values → Values) (s : List ℕ) (at : ℕ) (v : Values) (here : ℕ) : Type 0 where
  pub more : (w : Values) (q : List T.Token) → Below (claim_tokens s here) (Got w q) → Here (claim_tokens s at) (Got (join v w) q)
  pub fault : (j : ℕ) → Below (claim_tokens s here) (No j) → Here (claim_tokens s at) (No j)
  pub past : at ≤ here

module _ (s : List ℕ) (k d at : ℕ) where
  abbrev pub AndDue : Values → ℕ → Type 0
  AndDue = Due (AtomSays k d) (AndSays k d) intersection_of s at

  abbrev pub OrDue : Values → ℕ → Type 0
  OrDue = Due (AndSays k d) (OrSays k d) union_of s at

  pub and_first_due : (v : Values) → v ≡ everything → AndDue v at
  and_first_due v e = rw e (record { more = λ w q a. and_everything k d _ w q (and_first k d _ (Got w q) a); fault = λ j a. and_first k d _ (No j) a; past = omega arith })

  pub or_first_due : (v : Values) → v ≡ nothing → OrDue v at
  or_first_due v e = rw e (record { more = λ w q a. or_nothing k d _ w q (or_first k d _ (Got w q) a); fault = λ j a. or_first k d _ (No j) a; past = omega arith })

module _ {s : List ℕ} (k : ℕ) {d at : ℕ} {v : Values} {here : ℕ} (n : AndDue s k d at v here) where
  pub and_broken : (j : Refusal) → AtomRead s k d here (Err j) → AndRead s k d at (Err j)
  and_broken j b = n.fault (number j) b

  module _ (w : Values) (e : ℕ) (atom_there : AtomRead s k d here (Ok (w, e))) (m : Values) (p : m ≡ intersection_of v w) where
    joined : AndSays k d (claim_tokens s at) (Got m (claim_tokens s e))
    joined = rw p (n.more w _ atom_there.0)

    pub and_ended : (byte_of s e ≡ Some and_byte → ⊥) → AndRead s k d at (Ok (m, e))
    and_ended b = (joined, from_ahead n.past atom_there.1, atom_there.2, sign_not s e and_byte atom_there.2 b)

    pub and_again : byte_of s e ≡ Some and_byte → AndDue s k d at m (e + 1)
    and_again b =
        let j = subst (λ (ts : List T.Token). AndSays k d (claim_tokens s at) (Got m ts)) (sign_is s e and_byte and_sign b) joined in
        record { more = λ x y z. and_more k d _ _ m x y j z; fault = λ i z. and_fault k d _ _ m i j z; past = omega (arith, n.past, atom_there.1.more) }

    pub and_ahead : byte_of s e ≡ Some and_byte → Ahead s here (e + 1)
    and_ahead b = ahead atom_there.1 (sign_past s e and_byte and_sign b)

module _ {s : List ℕ} (k : ℕ) {d at : ℕ} {v : Values} {here : ℕ} (n : OrDue s k d at v here) where
  pub or_broken : (j : Refusal) → AndRead s k d here (Err j) → OrRead s k d at (Err j)
  or_broken j b = n.fault (number j) b

  module _ (w : Values) (e : ℕ) (term_there : AndRead s k d here (Ok (w, e))) (m : Values) (p : m ≡ union_of v w) where
    parted : OrSays k d (claim_tokens s at) (Got m (claim_tokens s e))
    parted = rw p (n.more w _ term_there.0)

    pub or_ended : (byte_of s e ≡ Some or_byte → ⊥) → OrRead s k d at (Ok (m, e))
    or_ended b = (parted, from_ahead n.past term_there.1, term_there.2, term_there.3, sign_not s e or_byte term_there.2 b)

    pub or_again : byte_of s e ≡ Some or_byte → OrDue s k d at m (e + 1)
    or_again b =
        let j = subst (λ (ts : List T.Token). OrSays k d (claim_tokens s at) (Got m ts)) (sign_is s e or_byte or_sign b) parted in
        record { more = λ x y z. or_more k d _ _ m x y j z; fault = λ i z. or_fault k d _ _ m i j z; past = omega (arith, n.past, term_there.1.more) }

    pub or_ahead : byte_of s e ≡ Some or_byte → Ahead s here (e + 1)
    or_ahead b = ahead term_there.1 (sign_past s e or_byte or_sign b)

-- THE WHOLE LABEL
no_end_step : (o : Option (Label or_level)) (c : Label and_level) (t : T.Token) (r : List T.Token) → starts and_byte (t ∷ r) ≡ false → starts or_byte (t ∷ r) ≡ false → starts end_label_byte (t ∷ r) ≡ false → operator_step [] o c t ≡ broken (first_fault (t ∷ r))
unfolding operator_step close_step starts is_sign first_fault
no_end_step o c (T.symbol b) r e f g = rw (e, f, g) refl
no_end_step o c (T.name w) r e f g = refl
no_end_step o c (T.header w) r e f g = refl
no_end_step o c (T.number w) r e f g = refl
no_end_step o c (T.string w) r e f g = refl
no_end_step o c T.body_mark r e f g = refl
no_end_step o c T.end_mark r e f g = refl
no_end_step o c T.alias r e f g = refl
no_end_step o c T.comment r e f g = refl
no_end_step o c T.stray r e f g = refl

no_end_told : (k : ℕ) (o : Option (Label or_level)) (c : Label and_level) (q : List T.Token) → starts and_byte q ≡ false → starts or_byte q ≡ false → starts end_label_byte q ≡ false → label_told k (on (stands [] o c)) q ≡ no_label (first_fault q)
no_end_told k o c [] e f g = told_none k (stands [] o c) ∙ ap no_label (sym none_first)
no_end_told k o c (t ∷ r) e f g = told_stands k [] o c t r ∙ (ap (λ (y : LabelNext). label_told k y r) (no_end_step o c t r e f g) ∙ told_broken k _ r)

no_end_or : (k : ℕ) (o : Label or_level) (q : List T.Token) → starts and_byte q ≡ false → starts or_byte q ≡ false → starts end_label_byte q ≡ false → label_told k (on (whole_or [] o)) q ≡ no_label (first_fault q)
no_end_or k (term c) q e f g = no_end_told k none c q e f g
no_end_or k (either o c) q e f g = no_end_told k (some o) c q e f g

at_top : depth_of [] ≡ 0
unfolding depth_of
at_top = refl

pub label_closed : (s : List ℕ) (k at : ℕ) (l m : Parsed Values) → OrRead s k 0 at l → Closed s end_label_byte l m → LabelSays s k at m
label_closed s k at (Err j) m a c = subst (λ (y : Parsed Values). LabelSays s k at y) (sym c) (a [] at_top)
label_closed s k at (Ok (v, e)) (Ok (w, n)) (o, past, stop, a, p) (u, t, past', stop') = go (label_whole k _ _ v (subst (λ (ts : List T.Token). OrSays k 0 (claim_tokens s at) (Got v ts)) t o))
  where
    go : (o : Label or_level) × TruthOf o v × (label_told k (on label_start) (claim_tokens s at) ≡ label_is o (claim_tokens s n)) → LabelSays s k at (Ok (w, n))
    go (o, h, q) = (o, rw u h, q, ahead past past', stop')
label_closed s k at (Ok (v, e)) (Err j) ((o, h, f), past, stop, a, p) c = let (t, i) = c stop in f [] at_top ∙ (no_end_or k o _ a p t ∙ ap no_label (sym i))
