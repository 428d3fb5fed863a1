-- How the skipping of headers in src/header.rt meets its contract: plain tokens and names of further such headers. Assumes nothing.
use mathlib.Core.Path.{◌≡◌, refl, sym, ap, subst, ◌∙◌}
use mathlib.Core.Bool.{true, false, ◌&&◌}
use mathlib.Core.List.{List, [], ◌∷◌}
use Prim.Native.Nat.{ℕ}
use types.Run.{OneOf, miss}
use denote.Enum.Declared.{tag_of}
use lib.Dec.{leb}
use lib.ListN.{get_or}
use Rattle.text.proofs.Tests.{clash}
use Rattle.model.specs.ClaimTokens as T
use Rattle.model.specs.ClaimGrammar.{Item, skipped, is_plain}
use Rattle.model.specs.ClaimTable.{whole, in_items, in_skipped, go, snoc, step, ended, told}
use Rattle.claim.specs.Reads.{part, claim_tokens, spelt, reads_on, Sees, Ahead, Onward}
use Rattle.claim.specs.HeaderSays.{Gives, Skips, passed_of, on_name}
use Rattle.claim.specs.declared.tokens.Token.{Token}
use Rattle.claim.specs.declared.tokens.Token.TheVariants.{Name, Header, Number, Text, Symbol, Body, End, Alias, Comment, Stray, Done}
use Rattle.claim.specs.declared.tokens.Seen.{Seen}
use Rattle.claim.specs.declared.header.Given.{Given}
use Rattle.claim.proofs.Places.{stays, onto, onward}
use Rattle.claim.specs.contracts.tokens.Token.{the_type}
use Rattle.claim.proofs.Seeing.{reads_as, goes_past}
use Rattle.claim.proofs.HeaderCode.{stepped}
use Rattle.std.specs.Prelude.{Result}
use Rattle.model.specs.declared.refusal.Refusal.{Refusal}
use Rattle.claim.specs.declared.header.Kind.{Kind}
use Rattle.claim.proofs.HeaderLoop.{gives_skipped, header_told, small_skipped}

-- from inside a skipped header, with plain tokens so far, tokens lead on to the inside of one, with items that give the same
abbrev Skipping : List Item → (header : List ℕ) → (plain from to : List T.Token) → Type 0
Skipping is h ts us r = (js : List Item) × (w : List ℕ) × (vs : List T.Token) × (told (go (in_skipped is h ts)) us ≡ told (go (in_skipped js w vs)) r) × ((g : Given) → Gives is g → Gives js g)

-- so many are passed
pub record PassedSoFar (s : List ℕ) (at here : ℕ) : Type 0 where
  pub same : (is : List Item) (h : List ℕ) → Skipping is h [] (claim_tokens s at) (claim_tokens s here)
  pub past : Onward s at here

pub passed_none : (s : List ℕ) (at : ℕ) → PassedSoFar s at at
passed_none s at = record { same = λ is h. (is, h, [], refl, λ g i. i); past = stays }

module _ (is : List Item) (h : List ℕ) (ts : List T.Token) (s : List ℕ) (r : List T.Token) where
  plain_step : (t : T.Token) → is_plain t ≡ true → told (go (in_skipped is h ts)) (t ∷ r) ≡ told (go (in_skipped is h (snoc ts t))) r
  unfolding step
  plain_step t q = stepped (in_skipped is h ts) t r (go (in_skipped is h (snoc ts t))) (rw q refl)

  -- another is read as after a whole item
  plain_not : (t : T.Token) → is_plain t ≡ false → told (go (in_skipped is h ts)) (t ∷ r) ≡ told (go (in_items whole (snoc is (skipped h ts)))) (t ∷ r)
  unfolding told step
  plain_not t q = rw (told, q) refl

  -- the header under way, or the next one, goes on
  passed_step : (t : Token) → passed_of s t ≡ true → Skipping is h ts (spelt s t r) r
  unfolding is_plain T.is_small
  passed_step (Name a e) q = (is, h, snoc ts (T.name (part s a e)), plain_step (T.name (part s a e)) refl, λ g i. i)
  passed_step (Number v) q = (is, h, snoc ts (T.number v), plain_step (T.number v) refl, λ g i. i)
  passed_step (Text a e) q = (is, h, snoc ts (T.string (part s a e)), plain_step (T.string (part s a e)) refl, λ g i. i)
  passed_step (Header a e) q = (
    snoc is (skipped h ts),
    part s a e,
    [],
    plain_not (T.header (part s a e)) refl ∙ (header_told (snoc is (skipped h ts)) (part s a e) r ∙ ap (λ (k : Result Kind Refusal). told (on_name (snoc is (skipped h ts)) (part s a e) k) r) (sym (small_skipped (part s a e) _ refl q))),
    λ g i. gives_skipped i h ts,
  )
  passed_step (Symbol b) q = clash false q refl
  passed_step Body q = clash false q refl
  passed_step End q = clash false q refl
  passed_step Alias q = clash false q refl
  passed_step Comment q = clash false q refl
  passed_step Stray q = clash false q refl
  passed_step Done q = clash false q refl

  passed_not : (t : Token) → passed_of s t ≡ false → told (go (in_skipped is h ts)) (spelt s t r) ≡ told (go (in_items whole (snoc is (skipped h ts)))) (spelt s t r)
  unfolding is_plain told ended
  passed_not (Name a e) q = clash true refl q
  passed_not (Number v) q = clash true refl q
  passed_not (Text a e) q = clash true refl q
  passed_not (Header a e) q = plain_not _ refl
  passed_not (Symbol b) q = plain_not _ refl
  passed_not Body q = plain_not _ refl
  passed_not End q = plain_not _ refl
  passed_not Alias q = plain_not _ refl
  passed_not Comment q = plain_not _ refl
  passed_not Stray q = plain_not _ refl
  passed_not Done q = refl

passed_reads : (s : List ℕ) (t : Token) → passed_of s t ≡ true → reads_on t ≡ true
passed_reads s (Name a e) q = refl
passed_reads s (Number v) q = refl
passed_reads s (Text a e) q = refl
passed_reads s (Header a e) q = refl
passed_reads s (Symbol b) q = clash false q refl
passed_reads s Body q = clash false q refl
passed_reads s End q = clash false q refl
passed_reads s Alias q = clash false q refl
passed_reads s Comment q = clash false q refl
passed_reads s Stray q = clash false q refl
passed_reads s Done q = clash false q refl

module _ {s : List ℕ} {at here : ℕ} (a : PassedSoFar s at here) {r : Seen} (n : Sees s T.longest_claim here (claim_tokens s here) r) where
  pub passed_ahead : passed_of s r.token ≡ true → Ahead s here r.next
  passed_ahead e = goes_past n r.token refl (passed_reads s r.token e)

  pub passed_again : passed_of s r.token ≡ true → PassedSoFar s at r.next
  passed_again e = record { same = λ is h. on is h (a.same is h); past = onward a.past (onto (passed_ahead e)) }
    where
      on : (is : List Item) (h : List ℕ) → Skipping is h [] (claim_tokens s at) (claim_tokens s here) → Skipping is h [] (claim_tokens s at) (claim_tokens s r.next)
      on is h (js, w, ts, q, k) = let (js', w', ts', q', k') = passed_step js w ts s (claim_tokens s r.next) r.token e in (js', w', ts', q ∙ (ap (λ (us : List T.Token). told (go (in_skipped js w ts)) us) (reads_as n r.token refl (passed_reads s r.token e)) ∙ q'), λ g i. k' g (k g i))

  pub passed_ended : passed_of s r.token ≡ false → Skips s at here
  passed_ended e = record { same = λ is h. on is h (a.same is h); onward = a.past }
    where
      on : (is : List Item) (h : List ℕ) → Skipping is h [] (claim_tokens s at) (claim_tokens s here) → (js : List Item) × (told (go (in_skipped is h [])) (claim_tokens s at) ≡ told (go (in_items whole js)) (claim_tokens s here)) × ((g : Given) → Gives is g → Gives js g)
      on is h (js, w, ts, q, k) = (snoc js (skipped w ts), q ∙ subst (λ (us : List T.Token). told (go (in_skipped js w ts)) us ≡ told (go (in_items whole (snoc js (skipped w ts)))) us) (sym n.reads) (passed_not js w ts s n.rest r.token e), λ g i. gives_skipped (k g i) w ts)

-- what the code tells apart
pub passed_header : (s : List ℕ) (t : Token) (a e b : ℕ) → t ≡ Header a e → b ≡ get_or (part s a e) 0 0 → (leb 97 b && leb b 122) ≡ passed_of s t
unfolding T.is_small
passed_header s t a e b q p = rw (q, p) refl

abbrev plain_keys : List ℕ
plain_keys = 0 ∷ 2 ∷ 3 ∷ []

pub passed_plain : (s : List ℕ) (t : Token) → OneOf plain_keys (tag_of the_type t) → true ≡ passed_of s t
passed_plain s (Name a e) h = refl
passed_plain s (Number v) h = refl
passed_plain s (Text a e) h = refl
passed_plain s (Header a e) h = absurd (miss plain_keys 1 tt h)
passed_plain s (Symbol b) h = absurd (miss plain_keys 4 tt h)
passed_plain s Body h = absurd (miss plain_keys 5 tt h)
passed_plain s End h = absurd (miss plain_keys 6 tt h)
passed_plain s Alias h = absurd (miss plain_keys 7 tt h)
passed_plain s Comment h = absurd (miss plain_keys 8 tt h)
passed_plain s Stray h = absurd (miss plain_keys 9 tt h)
passed_plain s Done h = absurd (miss plain_keys 10 tt h)

abbrev others : List ℕ
others = 4 ∷ 5 ∷ 6 ∷ 7 ∷ 8 ∷ 9 ∷ 10 ∷ []

pub passed_other : (s : List ℕ) (t : Token) → OneOf others (tag_of the_type t) → false ≡ passed_of s t
passed_other s (Name a e) h = absurd (miss others 0 tt h)
passed_other s (Number v) h = absurd (miss others 2 tt h)
passed_other s (Text a e) h = absurd (miss others 3 tt h)
passed_other s (Header a e) h = absurd (miss others 1 tt h)
passed_other s (Symbol b) h = refl
passed_other s Body h = refl
passed_other s End h = refl
passed_other s Alias h = refl
passed_other s Comment h = refl
passed_other s Stray h = refl
passed_other s Done h = refl
