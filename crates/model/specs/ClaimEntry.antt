-- What the entries `read_claim` and `claim_moves` return, for all texts. Assumes nothing: these are definitions.
use Rattle.std.specs.Prelude.{◌≡◌, Bool, ◌&&◌, cond, List, ℕ, ◌+◌, ◌^◌, ◌≤◌, ◌<◌, ltb, length, get_or, take, drop}
use Rattle.std.proofs.Math.Option.{Option, none, some}
use Rattle.model.specs.ClaimLabels.{bit}
use Rattle.model.specs.ClaimGrammar.{most_states}
use Rattle.model.specs.ClaimTable.{claim_refusal}
use Rattle.model.specs.Claim.{state, claim_moves, claim_in}
use Rattle.model.specs.declared.Claimed.{Claimed}

-- a mark as a number
abbrev pub mark_of : Bool → ℕ
mark_of b = cond b 1 0

-- a name is that part of the text, "as stored": never at its front, so that 0 and 0 stand for no name
abbrev pub NameAt : (text : List ℕ) → (name : Option (List ℕ)) → (at long : ℕ) → Type 0
NameAt s none a l = (a ≡ 0) × (l ≡ 0)
NameAt s (some w) a l = (1 ≤ a) × (a + l ≤ length s) × (take l (drop a s) ≡ w)

-- a claim's counts, marks and names; a refused text has none
pub record ClaimSays (bs : List ℕ) (r : Claimed) : Type 0 where
  pub refusal : r.refusal ≡ claim_refusal bs
  pub states : r.states ≡ length (claim_in bs).states
  pub start : r.start ≡ (claim_in bs).start
  pub propositions : r.propositions ≡ (claim_in bs).propositions
  pub accepting : (c : ℕ) → c < most_states → get_or r.accepting c 0 ≡ mark_of (state (claim_in bs) c).accepting
  pub names : (c : ℕ) → c < most_states → NameAt bs (state (claim_in bs) c).name (get_or r.name_at c 0) (get_or r.name_length c 0)

-- where a state may move on these flag values, bit d for state d; nowhere on values that the propositions do not have
pub record MovesSay (bs : List ℕ) (c f r : ℕ) : Type 0 where
  pub bits : (d : ℕ) → bit r d ≡ (ltb f (2 ^ (claim_in bs).propositions) && claim_moves (claim_in bs) f c d)
