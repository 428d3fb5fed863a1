-- What a token that was seen says of the tokens from its place on. Assumes nothing.
use mathlib.Core.Path.{◌≡◌, refl, sym, ap, subst, ◌∙◌}
use mathlib.Core.Bool.{Bool, true, false}
use mathlib.Core.List.{List, ◌∷◌}
use Prim.Native.Nat.{ℕ, ◌+◌}
use borrow.Author.Tests.{eqb-true}
use Rattle.model.specs.ClaimTokens as T
use Rattle.model.specs.ClaimTable.{is_sign}
use Rattle.std.specs.Prelude.{Some}
use Rattle.claim.specs.Reads.{tokens_at, claim_tokens, spelt, reads_on, Bounds, byte_of, Sign, BlanksEnd, Sees, Ahead, is_symbol_of, fault_of, starts, first_fault, Closed}
use Rattle.claim.specs.declared.tokens.Token.{Token}
use Rattle.claim.specs.declared.tokens.Token.TheVariants.{Name, Header, Number, Text, Symbol, Body, End, Alias, Comment, Stray, Done}
use Rattle.claim.specs.declared.tokens.Seen.{Seen}
use Rattle.claim.specs.declared.labels.Values.{Values}
use Rattle.text.proofs.Tests.{clash}
use Rattle.claim.proofs.Places.{ahead_onward, over_blanks}
use Rattle.claim.proofs.Signs.{sign_is, sign_past, sign_not}
use Rattle.std.specs.Prelude.{Ok, Err}
use Rattle.model.specs.Refusals.{number}
use Rattle.model.specs.declared.refusal.Refusal.{Refusal}

pub symbol_is : (t : Token) (b : ℕ) → is_symbol_of t b ≡ true → t ≡ Symbol b
symbol_is (Symbol c) b e = ap Symbol (eqb-true c b e)
symbol_is (Name a z) b e = clash false e refl
symbol_is (Header a z) b e = clash false e refl
symbol_is (Number v) b e = clash false e refl
symbol_is (Text a z) b e = clash false e refl
symbol_is Body b e = clash false e refl
symbol_is End b e = clash false e refl
symbol_is Alias b e = clash false e refl
symbol_is Comment b e = clash false e refl
symbol_is Stray b e = clash false e refl
symbol_is Done b e = clash false e refl

module _ (s : List ℕ) (rest : List T.Token) where
  starts_spelt : (t : Token) (b : ℕ) → starts b (spelt s t rest) ≡ is_symbol_of t b
  unfolding starts is_sign
  starts_spelt (Symbol c) b = refl
  starts_spelt (Name a z) b = refl
  starts_spelt (Header a z) b = refl
  starts_spelt (Number v) b = refl
  starts_spelt (Text a z) b = refl
  starts_spelt Body b = refl
  starts_spelt End b = refl
  starts_spelt Alias b = refl
  starts_spelt Comment b = refl
  starts_spelt Stray b = refl
  starts_spelt Done b = refl

  fault_spelt : (t : Token) → first_fault (spelt s t rest) ≡ number (fault_of t)
  unfolding first_fault
  fault_spelt (Symbol c) = refl
  fault_spelt (Name a z) = refl
  fault_spelt (Header a z) = refl
  fault_spelt (Number v) = refl
  fault_spelt (Text a z) = refl
  fault_spelt Body = refl
  fault_spelt End = refl
  fault_spelt Alias = refl
  fault_spelt Comment = refl
  fault_spelt Stray = refl
  fault_spelt Done = refl

module _ {s : List ℕ} {limit at : ℕ} {ts : List T.Token} {r : Seen} (n : Sees s limit at ts r) where
  pub reads_as : (t : Token) → r.token ≡ t → reads_on t ≡ true → ts ≡ spelt s t (tokens_at s limit r.next)
  reads_as t q e = n.reads ∙ (ap (λ (x : Token). spelt s x n.rest) q ∙ ap (λ (y : List T.Token). spelt s t y) (n.goes (ap reads_on q ∙ e)))

  pub goes_past : (t : Token) → r.token ≡ t → reads_on t ≡ true → Ahead s at r.next
  goes_past t q e = n.past (ap reads_on q ∙ e)

  pub bounds_as : (t : Token) → r.token ≡ t → Bounds s limit t
  bounds_as t q = subst (λ (x : Token). Bounds s limit x) q n.bounds

  pub ends_as : (t : Token) → r.token ≡ t → ts ≡ spelt s t n.rest
  ends_as t q = n.reads ∙ ap (λ (x : Token). spelt s x n.rest) q

  pub starts_as : (b : ℕ) (x : Bool) → is_symbol_of r.token b ≡ x → starts b ts ≡ x
  starts_as b x e = ap (λ (y : List T.Token). starts b y) n.reads ∙ (starts_spelt s n.rest r.token b ∙ e)

  pub fault_as : number (fault_of r.token) ≡ first_fault ts
  fault_as = sym (ap first_fault n.reads ∙ fault_spelt s n.rest r.token)

  pub symbol_next : (b : ℕ) → is_symbol_of r.token b ≡ true → ts ≡ T.symbol b ∷ tokens_at s limit r.next
  symbol_next b e = reads_as (Symbol b) (symbol_is r.token b e) refl

  pub symbol_past : (b : ℕ) → is_symbol_of r.token b ≡ true → Ahead s at r.next
  symbol_past b e = goes_past (Symbol b) (symbol_is r.token b e) refl

-- BRACKETS
module _ (s : List ℕ) (b : ℕ) (w : Values) (e : ℕ) where
  pub closed_is : Sign b → byte_of s e ≡ Some b → {z : ℕ} → BlanksEnd s T.longest_claim (e + 1) z → Closed s b (Ok (w, e)) (Ok (w, z))
  closed_is y p n = (refl, sign_is s e b y p ∙ ap (λ (ts : List T.Token). T.symbol b ∷ ts) n.same, ahead_onward (sign_past s e b y p) (over_blanks n), n.stops)

  pub closed_not : (byte_of s e ≡ Some b → ⊥) → {r : Seen} → Sees s T.longest_claim e (claim_tokens s e) r → (j : Refusal) → j ≡ fault_of r.token → Closed s b (Ok (w, e)) (Err j)
  closed_not p n j f h = (sign_not s e b h p, ap number f ∙ fault_as n)
