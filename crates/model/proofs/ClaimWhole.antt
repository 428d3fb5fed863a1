-- The table and the grammar agree on every text, the grammar has one tree for it, and the claim that it spells is sound.
use mathlib.Core.Path.{◌≡◌, refl, sym, ap, ◌∙◌}
use mathlib.Core.Bool.{Bool, true, false, cond}
use mathlib.Core.List.{List}
use Prim.Native.Nat.{ℕ}
use native.Mathlib.Omega.{arith}
use Rattle.model.specs.ClaimTokens.{tokens, opens}
use Rattle.model.specs.ClaimTable.{go, opening, told, refused, refusal_of, claim_told, claim_refusal}
use Rattle.model.specs.Claim.{claim_of, tree_of, claim_in}
use Rattle.model.specs.ClaimPromise.{OfGrammar, TakenExactly, OneTree, ClaimsRight}
use Rattle.model.proofs.ClaimSpelling.{taken_spelled}
use Rattle.model.proofs.ClaimComplete.{taken_read}
use Rattle.model.proofs.ClaimGood.{told_taken}
use Rattle.model.proofs.ClaimDefinite.{not_refused}
use Rattle.model.proofs.ClaimSound.{taken_sound}

pub one_tree : OneTree
unfolding OneTree tree_of
one_tree a b f g e = ap tree_of (sym (taken_read a f) ∙ (ap (told (go opening)) e ∙ taken_read b g))

grammar_taken : (bs : List ℕ) → OfGrammar bs → claim_refusal bs ≡ 0
unfolding claim_refusal claim_told refusal_of
grammar_taken bs g = rw (g.opened, g.spells, taken_read g.tree g.within) refl

opened_not : refusal_of (refused 14) ≡ 0 → ⊥
unfolding refusal_of
opened_not e = absurd (omega (arith, e))

taken_grammar : (bs : List ℕ) → claim_refusal bs ≡ 0 → OfGrammar bs
unfolding claim_refusal claim_told
taken_grammar bs e = pick (opens bs) refl e
  where
    pick : (b : Bool) → opens bs ≡ b → refusal_of (cond b (told (go opening) (tokens bs)) (refused 14)) ≡ 0 → OfGrammar bs
    pick true q e =
        let t = not_refused (tokens bs) e in
        record { opened = q; tree = t.tree; within = told_taken t.tree (tokens bs) t.comes; spells = sym (taken_spelled t.tree (tokens bs) t.comes) }
    pick false q e = absurd (opened_not e)

pub taken_exactly : TakenExactly
unfolding TakenExactly
taken_exactly bs = (taken_grammar bs, grammar_taken bs)

spelled_by : (bs : List ℕ) (g : OfGrammar bs) → claim_in bs ≡ claim_of g.tree
unfolding claim_in claim_told tree_of
spelled_by bs g = rw (g.opened, g.spells, taken_read g.tree g.within) refl

pub claims_right : ClaimsRight
unfolding ClaimsRight
claims_right bs e =
    let g = taken_grammar bs e in
    record { spelled = spelled_by bs; sound = rw (spelled_by bs g) (taken_sound g.tree g.within) }
