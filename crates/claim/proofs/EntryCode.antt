-- How the entries of src/lib.rt meet their contracts: a law for each return. Assumes nothing.
use mathlib.Core.Path.{◌≡◌, refl, sym, ap, subst, ◌∙◌}
use mathlib.Core.Bool.{Bool, true, false, ◌&&◌, cond, and-false}
use mathlib.Core.List.{List, []}
use mathlib.Core.Option.{none}
use Prim.Native.Nat.{ℕ, ◌+◌, ◌*◌, ◌^◌, ◌%◌, ◌<◌, ◌≤◌}
use native.Mathlib.Nat.{le_refl, le_of_lt, one-mul}
use native.Mathlib.Omega.{arith}
use lib.Dec.{ltb, eqb}
use lib.ListN.{take, drop, length, get_or, get_or-eq_default}
use lib.Pow.{pow-lt, shl_exact}
use lib.Seq.{get_or-drop}
use Rattle.std.proofs.Common.{get_or-take}
use borrow.Author.Tests.{lt-ltb, le-ltb, eqb-true, eqb-false}
use Rattle.text.proofs.Tests.{Same, same, other, same?}
use Rattle.model.specs.ClaimGrammar.{state_count, start_state, proposition_names, count_in, propositions_in, most_states, most_propositions}
use Rattle.model.specs.ClaimTable.{Told, taken_as, refused, refusal_of as told_number, claim_told, claim_refusal}
use Rattle.model.specs.Claim.{Claim, ClaimState, state, some_edge, claim_moves, state_of_line, edges_of, line_of, states_from, claim_of, tree_of, claim_in, ClaimSound}
use Rattle.model.specs.ClaimEntry.{mark_of, NameAt, ClaimSays, MovesSay}
use Rattle.model.specs.ClaimPromise.{ClaimsRight}
use Rattle.model.proofs.ClaimWhole.{claims_right}
use Rattle.claim.specs.LabelSays.{most_values}
use Rattle.claim.specs.Cells.{move_cell, ClaimHeld}
use Rattle.claim.specs.Judging.{counts_of, judged_claim}
use Rattle.claim.specs.declared.Counts.{Counts}
use Rattle.model.proofs.Bits.{bit_zero}
use Rattle.claim.proofs.JudgeCode.{no_claim}
use Rattle.std.specs.Prelude.{Result, Ok, Err}
use Rattle.model.specs.Refusals.{number, refusal_of}
use Rattle.model.specs.ClaimPromise.{ClaimsDefinite}
use Rattle.model.proofs.ClaimDefinite.{claims_definite}
use Rattle.std.proofs.Common.{inl, inr}
use Rattle.model.specs.declared.refusal.Refusal.{Refusal}

-- WHAT THE JUDGE SAYS, by variant
told_by : (bs : List ℕ) (x : Told) → claim_told bs ≡ x → (told_number x ≡ 0 → ⊥) → claim_told bs ≡ refused (told_number x)
unfolding told_number
told_by bs (taken_as a) q n = absurd (n refl)
told_by bs (refused k) q n = q

pub record Unread (bs : List ℕ) (r : Refusal) : Type 0 where
  pub by_number : number r ≡ claim_refusal bs
  pub told : claim_told bs ≡ refused (number r)

pub record SomeClaim (bs : List ℕ) (c : Counts) : Type 0 where
  pub by_number : claim_refusal bs ≡ 0
  pub counts : c ≡ counts_of (claim_in bs)

abbrev by_variant : List ℕ → Result Counts Refusal → Type 0
by_variant bs (Err r) = Unread bs r
by_variant bs (Ok c) = SomeClaim bs c

refused_told : (bs : List ℕ) → (claim_refusal bs ≡ 0 → ⊥) → claim_told bs ≡ refused (claim_refusal bs)
unfolding claim_refusal
refused_told bs n = told_by bs (claim_told bs) refl n

-- the number of a refused text is one of three
own_number : (bs : List ℕ) → (claim_refusal bs ≡ 0 → ⊥) → number (refusal_of (claim_refusal bs)) ≡ claim_refusal bs
unfolding ClaimsDefinite refusal_of
own_number bs n = elim (claims_definite bs) [ inl e ↦ absurd (n e) | inr m ↦ elim m [ inl e ↦ rw e | inr k ↦ elim k [ inl e ↦ rw e | inr e ↦ rw e ] ] ]

judged_so : (bs : List ℕ) → by_variant bs (judged_claim bs)
unfolding judged_claim
judged_so bs = go (eqb (claim_refusal bs) 0) refl
  where
    go : (b : Bool) → eqb (claim_refusal bs) 0 ≡ b → by_variant bs (cond b (Ok (counts_of (claim_in bs))) (Err (refusal_of (claim_refusal bs))))
    go true e = record { by_number = eqb-true (claim_refusal bs) 0 e; counts = refl }
    go false e =
        let there : number (refusal_of (claim_refusal bs)) ≡ claim_refusal bs = own_number bs (eqb-false _ 0 e) in
        record { by_number = there; told = refused_told bs (eqb-false _ 0 e) ∙ ap refused (sym there) }

pub judged_by : (bs : List ℕ) (r x : Result Counts Refusal) → r ≡ judged_claim bs → r ≡ x → by_variant bs x
judged_by bs r x e q = subst (λ (y : Result Counts Refusal). by_variant bs y) (sym e ∙ q) (judged_so bs)

-- MOVES: nowhere where there is no edge
nowhere : (bs : List ℕ) (c f : ℕ) → ((d : ℕ) → claim_moves (claim_in bs) f c d ≡ false) → MovesSay bs c f 0
nowhere bs c f n = record { bits = λ d. bit_zero d ∙ sym (ap (λ (b : Bool). ltb f (2 ^ (claim_in bs).propositions) && b) (n d) ∙ and-false (ltb f (2 ^ (claim_in bs).propositions))) }

pub moves_refused : (bs : List ℕ) (r : Refusal) (c f : ℕ) → Unread bs r → MovesSay bs c f 0
moves_refused bs r c f n = nowhere bs c f (λ d. no_edge d)
  where
    no_edge : (d : ℕ) → claim_moves (claim_in bs) f c d ≡ false
    no_edge d = unfold claim_moves in (ap (λ (x : ClaimState). some_edge x.edges f d) (no_claim bs (number r) n.told c) ∙ unfold state_of_line line_of edges_of some_edge in refl)

state_beyond : (k : Claim) (c f d : ℕ) → length k.states ≤ c → claim_moves k f c d ≡ false
unfolding claim_moves state some_edge
state_beyond k c f d h = rw (get_or-eq_default k.states (record { name = none; accepting = false; edges = [] }) h) refl

module _ (bs : List ℕ) (k : Counts) (s : SomeClaim bs k) (c f : ℕ) where
  sound : ClaimSound (claim_in bs)
  sound = unfold ClaimsRight in (claims_right bs s.by_number).sound

  many : k.states ≡ length (claim_in bs).states
  many = ap (λ (x : Counts). x.states) s.counts ∙ unfold counts_of in refl

  known : k.propositions ≡ (claim_in bs).propositions
  known = ap (λ (x : Counts). x.propositions) s.counts ∙ unfold counts_of in refl

  pub few_flags : k.propositions < 32
  few_flags = let h = sound.propositions in omega (arith, known, h)

  pub moves_far : k.states ≤ c → MovesSay bs c f 0
  moves_far h = nowhere bs c f (λ d. state_beyond (claim_in bs) c f d (omega (arith, h, many)))

  shifted : 1 * 2 ^ k.propositions % 2 ^ 32 ≡ 2 ^ (claim_in bs).propositions
  shifted = shl_exact 1 k.propositions 32 (le_refl 2) (omega (arith, few_flags)) ∙ (one-mul (2 ^ k.propositions) ∙ ap (λ (p : ℕ). 2 ^ p) known)

  pub moves_over : 1 * 2 ^ k.propositions % 2 ^ 32 ≤ f → MovesSay bs c f 0
  moves_over h = record { bits = λ d. bit_zero d ∙ sym (ap (λ (b : Bool). b && claim_moves (claim_in bs) f c d) (le-ltb f (2 ^ (claim_in bs).propositions) (subst (λ (p : ℕ). p ≤ f) shifted h))) }

  few_values : 2 ^ (claim_in bs).propositions ≤ most_values
  few_values = go (same? (claim_in bs).propositions most_propositions)
    where
      go : Same (claim_in bs).propositions most_propositions → 2 ^ (claim_in bs).propositions ≤ most_values
      go (same e) = subst (λ (p : ℕ). 2 ^ p ≤ most_values) (sym e) (le_refl most_values)
      go (other n) = let h = sound.propositions in le_of_lt (pow-lt {i = (claim_in bs).propositions} {j = most_propositions} (omega (arith, h, n)))

  module _ (h : c < k.states) (g : f < 1 * 2 ^ k.propositions % 2 ^ 32) where
    below : f < 2 ^ (claim_in bs).propositions
    below = subst (λ (p : ℕ). f < p) shifted g

    pub low_values : f < most_values
    low_values = omega (arith, below, few_values)

    pub low_state : c < most_states
    low_state = let n = sound.states in omega (arith, h, many, n)

    pub moves_in : (w : List ℕ) → ClaimHeld bs (claim_in bs) w → MovesSay bs c f (get_or w (move_cell c f) 0)
    moves_in w held = record { bits = λ d. held.moves c f d low_state low_values ∙ sym (ap (λ (b : Bool). b && claim_moves (claim_in bs) f c d) (lt-ltb f (2 ^ (claim_in bs).propositions) below)) }

-- A CLAIM DESCRIBED
no_counts : (bs : List ℕ) (k : ℕ) → claim_told bs ≡ refused k → (length (claim_in bs).states ≡ 0) × ((claim_in bs).start ≡ 0) × ((claim_in bs).propositions ≡ 0)
unfolding claim_in tree_of claim_of states_from count_in state_count start_state propositions_in proposition_names
no_counts bs k e = rw e (refl, refl, refl)

-- the three parts of cells that hold the claim
pub record Parts (bs : List ℕ) (marks names lengths : List ℕ) : Type 0 where
  pub cells : List ℕ
  pub held : ClaimHeld bs (claim_in bs) cells
  pub marks_of : marks ≡ take 15 cells
  pub names_of : names ≡ take 15 (drop 15 cells)
  pub lengths_of : lengths ≡ take 15 (drop 30 cells)

part_cell : (w : List ℕ) (at i : ℕ) → i < most_states → get_or (take 15 (drop at w)) i 0 ≡ get_or w (at + i) 0
part_cell w at i h = get_or-take 15 (drop at w) i 0 h ∙ get_or-drop at w i 0

module _ (bs : List ℕ) (a b c : List ℕ) (p : Parts bs a b c) where
  marked : (i : ℕ) → i < most_states → get_or a i 0 ≡ mark_of (state (claim_in bs) i).accepting
  marked i h = ap (λ (w : List ℕ). get_or w i 0) p.marks_of ∙ (get_or-take 15 p.cells i 0 h ∙ p.held.marks i h)

  named : (i : ℕ) → i < most_states → NameAt bs (state (claim_in bs) i).name (get_or b i 0) (get_or c i 0)
  named i h = rw (p.names_of, p.lengths_of, part_cell p.cells 15 i h, part_cell p.cells 30 i h) (p.held.names i h)

  pub describes_refused : (r : Refusal) (k : ℕ) → k ≡ number r → Unread bs r → ClaimSays bs (record { refusal = k; states = 0; start = 0; propositions = 0; accepting = a; name_at = b; name_length = c })
  describes_refused r k q n =
      let z = no_counts bs (number r) n.told in
      record { refusal = q ∙ n.by_number; states = sym z.0; start = sym z.1; propositions = sym z.2; accepting = marked; names = named }

  pub describes : (k : Counts) → SomeClaim bs k → ClaimSays bs (record { refusal = 0; states = k.states; start = k.start; propositions = k.propositions; accepting = a; name_at = b; name_length = c })
  describes k s =
      let e : k ≡ record { states = length (claim_in bs).states; start = (claim_in bs).start; propositions = (claim_in bs).propositions } = s.counts ∙ unfold counts_of in refl in
      record { refusal = sym s.by_number; states = ap (λ (x : Counts). x.states) e; start = ap (λ (x : Counts). x.start) e; propositions = ap (λ (x : Counts). x.propositions) e; accepting = marked; names = named }
