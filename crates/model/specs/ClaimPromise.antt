-- What is promised of claims: which texts are taken, where a fault stands, and what a taken text is. A statement is a type;
-- docs/PROOF-MAP.md names its proof. Assumes nothing: these are definitions.
use Rattle.std.specs.Prelude.{◌≡◌, true, List, [], ◌∷◌, ◌++◌, ◌⊎◌, ℕ}
use Rattle.model.specs.ClaimTokens.{Token, tokens, opens}
use Rattle.model.specs.ClaimGrammar.{Syntax, syntax_tokens, taken}
use Rattle.model.specs.ClaimTable.{Place, opening, Next, go, fault, step, told, refused, claim_refusal}
use Rattle.model.specs.Claim.{claim_of, claim_in, ClaimSound}

-- "Reading equals a grammar written without the reader": the text opens rightly, and a tree within the limits spells its tokens
pub record OfGrammar (bs : List ℕ) : Type 0 where
  pub opened : opens bs ≡ true
  pub tree : Syntax
  pub within : taken tree ≡ true
  pub spells : tokens bs ≡ syntax_tokens tree

unfoldable pub TakenExactly : Type 0
TakenExactly = (bs : List ℕ) → (claim_refusal bs ≡ 0 → OfGrammar bs) × (OfGrammar bs → claim_refusal bs ≡ 0)

-- there is one tree only
unfoldable pub OneTree : Type 0
OneTree = (a b : Syntax) → taken a ≡ true → taken b ≡ true → syntax_tokens a ≡ syntax_tokens b → a ≡ b

-- "each standing where a reader from the front can first tell it": where tokens lead to a place that refuses the next one,
-- they begin some taken claim, with that token they begin none, and whatever follows it the refusal is the same
unfoldable pub reached : Next → List Token → Next
reached (fault k) [] = fault k
reached (fault k) (t ∷ ts) = fault k
reached (go p) [] = go p
reached (go p) (t ∷ ts) = reached (step p t) ts

pub record FirstTold (ts : List Token) (t : Token) (k : ℕ) : Type 0 where
  pub before : (a : Syntax) × (rest : List Token) × (taken a ≡ true) × (syntax_tokens a ≡ ts ++ rest)
  pub with_it : (a : Syntax) (rest : List Token) → taken a ≡ true → syntax_tokens a ≡ ts ++ (t ∷ rest) → ⊥
  pub refuses : (rest : List Token) → told (go opening) (ts ++ (t ∷ rest)) ≡ refused k

unfoldable pub FaultsFirst : Type 0
FaultsFirst = (ts : List Token) (t : Token) (p : Place) (k : ℕ) → reached (go opening) ts ≡ go p → step p t ≡ fault k → FirstTold ts t k

-- every text is taken or gets 14, 15 or 16
unfoldable pub ClaimsDefinite : Type 0
ClaimsDefinite = (bs : List ℕ) → (claim_refusal bs ≡ 0) ⊎ ((claim_refusal bs ≡ 14) ⊎ ((claim_refusal bs ≡ 15) ⊎ (claim_refusal bs ≡ 16)))

-- the claim in a taken text is what its tree spells, and within the limits
pub record ClaimRight (bs : List ℕ) : Type 0 where
  pub spelled : (g : OfGrammar bs) → claim_in bs ≡ claim_of g.tree
  pub sound : ClaimSound (claim_in bs)

unfoldable pub ClaimsRight : Type 0
ClaimsRight = (bs : List ℕ) → claim_refusal bs ≡ 0 → ClaimRight bs
