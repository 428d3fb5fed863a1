-- How the readers of the opening in src/lib.rt meet their contracts: a law for each return. Assumes nothing.
use mathlib.Core.Path.{◌≡◌, refl, sym, ap, ◌∙◌}
use mathlib.Core.Bool.{Bool, true, false, ◌&&◌, cond, and-false}
use mathlib.Core.List.{List, [], ◌∷◌}
use Prim.Native.Nat.{ℕ}
use types.Run.{OneOf, miss}
use denote.Enum.Declared.{tag_of}
use Rattle.text.specs.Ascii.{ascii}
use Rattle.text.specs.Lines.{equal}
use Rattle.text.proofs.Lines.{equal_true}
use Rattle.model.specs.ClaimTokens as T
use Rattle.model.specs.ClaimTokens.{is_header, is_name, opens_so}
use Rattle.model.specs.ClaimTable.{Place, opening, version, in_items, whole, go, fault, otherwise, step, ended, told, refused}
use Rattle.claim.specs.Reads.{part, tokens_at, spelt, fault_of, Sees}
use Rattle.claim.specs.Judging.{VersionSays, OpeningSays}
use Rattle.claim.specs.declared.tokens.Token.{Token}
use Rattle.claim.specs.declared.tokens.Token.TheVariants.{Name, Header, Number, Text, Symbol, Body, End, Alias, Comment, Stray, Done}
use Rattle.claim.specs.declared.tokens.Seen.{Seen}
use Rattle.claim.proofs.Places.{ahead}
use Rattle.claim.specs.contracts.tokens.Token.{the_type}
use Rattle.claim.proofs.Seeing.{reads_as, goes_past}
use Rattle.claim.proofs.HeaderCode.{refuses, stepped}
use Rattle.std.specs.Prelude.{Result, Ok, Err}
use Rattle.model.specs.Refusals.{number}
use Rattle.model.specs.declared.refusal.Refusal.{Refusal}
use Rattle.model.specs.declared.refusal.Refusal.TheVariants.{ClaimGrammar}

-- a token other than the one that is due: it refuses, and the text does not open so
abbrev Refuses : Place → List T.Token → Refusal → Type 0
Refuses p ts j = told (go p) ts ≡ refused (number j)

no_version : (t u : T.Token) (ts : List T.Token) → is_name (ascii "v1") u ≡ false → opens_so (t ∷ u ∷ ts) ≡ false
unfolding opens_so
no_version t u ts e = ap (λ (b : Bool). is_header (ascii "HOA") t && b) e ∙ and-false (is_header (ascii "HOA") t)

no_opening : (t : T.Token) (ts : List T.Token) → is_header (ascii "HOA") t ≡ false → opens_so (t ∷ ts) ≡ false
unfolding opens_so
no_opening t [] e = refl
no_opening t (u ∷ ts) e = ap (λ (b : Bool). b && is_name (ascii "v1") u) e

one_only : (t : T.Token) → opens_so (t ∷ []) ≡ false
unfolding opens_so
one_only t = refl

abbrev but_name : List ℕ
but_name = 1 ∷ 2 ∷ 3 ∷ 4 ∷ 5 ∷ 6 ∷ 7 ∷ 8 ∷ 9 ∷ 10 ∷ []

abbrev but_header : List ℕ
but_header = 0 ∷ 2 ∷ 3 ∷ 4 ∷ 5 ∷ 6 ∷ 7 ∷ 8 ∷ 9 ∷ 10 ∷ []

module _ (s : List ℕ) (r : List T.Token) where
  unversioned : (t : Token) → OneOf but_name (tag_of the_type t) → ((u : T.Token) → opens_so (u ∷ spelt s t r) ≡ false) × Refuses version (spelt s t r) (fault_of t)
  unfolding step is_name otherwise told ended
  unversioned (Name a e) h = absurd (miss but_name 0 tt h)
  unversioned (Header a e) h = (λ u. no_version u (T.header (part s a e)) r refl, refuses version (T.header (part s a e)) r 15 refl)
  unversioned (Number v) h = (λ u. no_version u (T.number v) r refl, refuses version (T.number v) r 15 refl)
  unversioned (Text a e) h = (λ u. no_version u (T.string (part s a e)) r refl, refuses version (T.string (part s a e)) r 15 refl)
  unversioned (Symbol b) h = (λ u. no_version u (T.symbol b) r refl, refuses version (T.symbol b) r 15 refl)
  unversioned Body h = (λ u. no_version u T.body_mark r refl, refuses version T.body_mark r 15 refl)
  unversioned End h = (λ u. no_version u T.end_mark r refl, refuses version T.end_mark r 15 refl)
  unversioned Alias h = (λ u. no_version u T.alias r refl, refuses version T.alias r 15 refl)
  unversioned Comment h = (λ u. no_version u T.comment r refl, refuses version T.comment r 16 refl)
  unversioned Stray h = (λ u. no_version u T.stray r refl, refuses version T.stray r 15 refl)
  unversioned Done h = (λ u. one_only u, refl)

  unopened : (t : Token) → OneOf but_header (tag_of the_type t) → (opens_so (spelt s t r) ≡ false) × Refuses opening (spelt s t r) (fault_of t)
  unfolding step is_header otherwise told ended opens_so
  unopened (Header a e) h = absurd (miss but_header 1 tt h)
  unopened (Name a e) h = (no_opening (T.name (part s a e)) r refl, refuses opening (T.name (part s a e)) r 15 refl)
  unopened (Number v) h = (no_opening (T.number v) r refl, refuses opening (T.number v) r 15 refl)
  unopened (Text a e) h = (no_opening (T.string (part s a e)) r refl, refuses opening (T.string (part s a e)) r 15 refl)
  unopened (Symbol b) h = (no_opening (T.symbol b) r refl, refuses opening (T.symbol b) r 15 refl)
  unopened Body h = (no_opening T.body_mark r refl, refuses opening T.body_mark r 15 refl)
  unopened End h = (no_opening T.end_mark r refl, refuses opening T.end_mark r 15 refl)
  unopened Alias h = (no_opening T.alias r refl, refuses opening T.alias r 15 refl)
  unopened Comment h = (no_opening T.comment r refl, refuses opening T.comment r 16 refl)
  unopened Stray h = (no_opening T.stray r refl, refuses opening T.stray r 15 refl)
  unopened Done h = (refl, refl)

name_step : (w : List ℕ) → step version (T.name w) ≡ cond (equal w (ascii "v1")) (go (in_items whole [])) (fault 15)
unfolding step is_name otherwise
name_step w = refl

header_step : (w : List ℕ) → step opening (T.header w) ≡ cond (equal w (ascii "HOA")) (go version) (fault 15)
unfolding step is_header otherwise
header_step w = refl

name_test : (w : List ℕ) → is_name (ascii "v1") (T.name w) ≡ equal w (ascii "v1")
unfolding is_name
name_test w = refl

header_test : (w : List ℕ) → is_header (ascii "HOA") (T.header w) ≡ equal w (ascii "HOA")
unfolding is_header
header_test w = refl

-- THE VERSION
module _ (s : List ℕ) (l at : ℕ) {r : Seen} (n : Sees s l at (tokens_at s l at) r) where
  pub version_is : (a e : ℕ) → r.token ≡ Name a e → equal (part s a e) (ascii "v1") ≡ true → VersionSays s l at (Ok r.next)
  version_is a e q t = (reads_as n (Name a e) q refl ∙ ap (λ (w : List ℕ). T.name w ∷ tokens_at s l r.next) (equal_true _ _ t), goes_past n (Name a e) q refl)

  pub version_other : (a e : ℕ) → r.token ≡ Name a e → equal (part s a e) (ascii "v1") ≡ false → VersionSays s l at (Err ClaimGrammar)
  version_other a e q t =
      let p = reads_as n (Name a e) q refl in (
        λ u. ap (λ (ts : List T.Token). opens_so (u ∷ ts)) p ∙ no_version u _ _ (name_test _ ∙ t),
        ap (λ (ts : List T.Token). told (go version) ts) p ∙ refuses version _ _ 15 (name_step _ ∙ ap (λ (b : Bool). cond b (go (in_items whole [])) (fault 15)) t),
      )

  pub version_none : OneOf but_name (tag_of the_type r.token) → (j : Refusal) → j ≡ fault_of r.token → VersionSays s l at (Err j)
  version_none h j e =
      let p = unversioned s n.rest r.token h in (
        λ u. ap (λ (ts : List T.Token). opens_so (u ∷ ts)) n.reads ∙ p.0 u,
        ap (λ (ts : List T.Token). told (go version) ts) n.reads ∙ (p.1 ∙ ap (λ (i : Refusal). refused (number i)) (sym e)),
      )

-- THE OPENING
module _ (s : List ℕ) (l : ℕ) {r : Seen} (n : Sees s l 0 (tokens_at s l 0) r) where
  module _ (a e : ℕ) (q : r.token ≡ Header a e) where
    pub opening_is : equal (part s a e) (ascii "HOA") ≡ true → (x : Result ℕ Refusal) → VersionSays s l r.next x → OpeningSays s l x
    opening_is t (Ok z) v =
        let p = reads_as n (Header a e) q refl ∙ ap (λ (w : List ℕ). T.header w ∷ tokens_at s l r.next) (equal_true _ _ t) in
        (p ∙ ap (λ (ts : List T.Token). T.header (ascii "HOA") ∷ ts) v.0, ahead (goes_past n (Header a e) q refl) v.1)
    opening_is t (Err j) v =
        let p = reads_as n (Header a e) q refl in (
          ap opens_so p ∙ v.0 _,
          ap (λ (ts : List T.Token). told (go opening) ts) p ∙ (stepped opening _ _ (go version) (header_step _ ∙ ap (λ (b : Bool). cond b (go version) (fault 15)) t) ∙ v.1),
        )

    pub opening_other : equal (part s a e) (ascii "HOA") ≡ false → OpeningSays s l (Err ClaimGrammar)
    opening_other t =
        let p = reads_as n (Header a e) q refl in (
          ap opens_so p ∙ no_opening _ _ (header_test _ ∙ t),
          ap (λ (ts : List T.Token). told (go opening) ts) p ∙ refuses opening _ _ 15 (header_step _ ∙ ap (λ (b : Bool). cond b (go version) (fault 15)) t),
        )

  pub opening_none : OneOf but_header (tag_of the_type r.token) → (j : Refusal) → j ≡ fault_of r.token → OpeningSays s l (Err j)
  opening_none h j e =
      let p = unopened s n.rest r.token h in (
        ap opens_so n.reads ∙ p.0,
        ap (λ (ts : List T.Token). told (go opening) ts) n.reads ∙ (p.1 ∙ ap (λ (i : Refusal). refused (number i)) (sym e)),
      )
