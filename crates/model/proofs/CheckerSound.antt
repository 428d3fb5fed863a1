-- CheckerSound: along any walk of listed vertices the number falls at least as the length does, so a passed "empty"
-- is true; a passed "lasso" shows one.
use mathlib.Core.Path.{◌≡◌, refl, sym, ap, subst, ◌∙◌}
use mathlib.Core.Bool.{Bool, true, false, ◌&&◌, not, cond}
use mathlib.Core.List.{List, [], ◌∷◌}
use mathlib.Core.Option.{Option, none, some}
use Prim.Native.Nat.{ℕ, zero, suc, ◌+◌, ◌≤◌, ◌<◌}
use native.Mathlib.Omega.{arith}
use lib.Dec.{leb, eqb}
use borrow.Author.Tests.{le-leb, lt-leb, leb-true, leb-false, eqb-false}
use lib.ListN.{length, take, drop}
use lib.IntN.{ℤ, pos, neg_ℤ, ◌+ℤ◌}
use lib.Signed.{le_z}
use Rattle.text.specs.Lines.{Line, lines, line_at, field}
use Rattle.text.specs.Numbers.{is_number, value, number_at}
use Rattle.model.specs.Graph.{Graph, edge, edge_depth, edge_length, is_walk, walk_end, walk_depth, walk_length, is_lasso, HasLasso, NoLasso}
use Rattle.model.specs.Case.{known_version, answer_version}
use Rattle.model.specs.CaseFile.{other_version}
use Rattle.model.specs.Passing.{says_lasso, Listed, number_of, is_listed, leads, all_lead, passes_empty, stem_in, cycle_in, listed_in, lasso_refusal, empty_refusal, refusal_against, meant, answer_refusal, older_refusal, answer_verdict}
use Rattle.model.specs.Promise.{CheckerSound, AsBefore}
use Rattle.text.proofs.Tests.{Test, test, Same, same?, and_both, clash, holds, fails, same, other}
use Rattle.model.proofs.Walks.{steps, Lasso, lasso_parts}
use Rattle.model.proofs.Signs.{high, low, le_parts, parts_le, add_parts, low_neg, high_neg}
use Rattle.model.proofs.Accepting.{first_zero, refuse_not}

-- k is at most h less n
abbrev pub Under : (k h : ℤ) (n : ℕ) → Type 0
Under k h n = high k + (low h + n) ≤ high h + low k

pub le_under : (k h : ℤ) (n : ℕ) → le_z k (h +ℤ neg_ℤ (pos n)) ≡ true → Under k h n
le_under k h n e = omega (arith, le_parts k (h +ℤ neg_ℤ (pos n)) e, add_parts h (neg_ℤ (pos n)), low_neg n, high_neg n)

pub under_le : (k h : ℤ) (n : ℕ) → Under k h n → le_z k (h +ℤ neg_ℤ (pos n)) ≡ true
under_le k h n u = parts_le k (h +ℤ neg_ℤ (pos n)) (omega (arith, add_parts h (neg_ℤ (pos n)), low_neg n, high_neg n))

-- numbers on vertices that pass
abbrev pub Leads : Graph → (ℕ → Option ℤ) → Type 0
Leads g N = (e : ℕ) → e < length g.edges → leads (N (edge g e).from) (N (edge g e).to) (edge_length g e) ≡ true

leads_parts : (a b : Option ℤ) (n : ℕ) (h : ℤ) → leads a b (neg_ℤ (pos n)) ≡ true → a ≡ some h → (k : ℤ) × (b ≡ some k) × Under k h n
unfolding leads
leads_parts none b n h e i = let z : ◌≡◌ {A = ℕ} 0 1 = cc in absurd (omega arith)
leads_parts (some j) none n h e i = clash false e refl
leads_parts (some j) (some k) n h e i = (k, refl, le_under k h n (subst (λ (y : ℤ). le_z k (y +ℤ neg_ℤ (pos n)) ≡ true) (let q : j ≡ h = cc in q) e))

walk_under : (g : Graph) (N : ℕ → Option ℤ) → Leads g N → (v : ℕ) (h : ℤ) (es : List ℕ) → N v ≡ some h → is_walk g v es ≡ true → (k : ℤ) × (N (walk_end g v es) ≡ some k) × Under k h (walk_depth g es)
unfolding walk_end walk_depth
walk_under g N p v h [] i w = (h, i, omega arith)
walk_under g N p v h (e ∷ es) i w =
    let s = steps g v e es w in
    let a = leads_parts (N (edge g e).from) (N (edge g e).to) (edge_depth g e) h (unfold edge_length in (p e s.below)) (ap N s.from ∙ i) in
    let b = walk_under g N p (edge g e).to a.0 es a.1 s.rest in
    (b.0, b.1, omega (arith, a.2, b.2))

-- number(end) ≤ number(start) + length: what Paper 13 rests on
pub number_walk : (g : Graph) (N : ℕ → Option ℤ) → Leads g N → (v : ℕ) (h : ℤ) (es : List ℕ) → N v ≡ some h → is_walk g v es ≡ true →
    (k : ℤ) × (N (walk_end g v es) ≡ some k) × (le_z k (h +ℤ walk_length g es) ≡ true)
unfolding walk_length
number_walk g N p v h es i w = let r = walk_under g N p v h es i w in (r.0, r.1, under_le r.0 h (walk_depth g es) r.2)

pub numbers_no_lasso : (g : Graph) (N : ℕ → Option ℤ) → Leads g N → (h : ℤ) → N g.source ≡ some h → NoLasso g
unfolding NoLasso
numbers_no_lasso g N p h i ss es = go (test (is_lasso g ss es))
  where
    bad : Lasso g ss es → ⊥
    bad l =
        let a = walk_under g N p g.source h ss i l.stem in
        let b = walk_under g N p (walk_end g g.source ss) a.0 es a.1 l.cycle in
        let z : b.0 ≡ a.0 = let q : some b.0 ≡ some a.0 = sym b.1 ∙ ap N l.closes ∙ a.1 in cc in
        let u : Under a.0 a.0 (walk_depth g es) = subst (λ (k : ℤ). Under k a.0 (walk_depth g es)) z b.2 in
        omega (arith, u, l.accepts)

    go : Test (is_lasso g ss es) → is_lasso g ss es ≡ false
    go (fails f) = f
    go (holds l) = absurd (bad (lasso_parts g ss es l))

all_lead_at : (l e : ℕ) (g : Graph) (vs : List Listed) → all_lead l e g vs ≡ true → (f : ℕ) → e ≤ f → f < e + l → leads (number_of vs (edge g f).from) (number_of vs (edge g f).to) (edge_length g f) ≡ true
unfolding all_lead
all_lead_at zero e g vs h f a b = absurd (omega arith)
all_lead_at (suc l) e g vs h f a b =
    let p = and_both (leads (number_of vs (edge g e).from) (number_of vs (edge g e).to) (edge_length g e)) (all_lead l (suc e) g vs) h in
    go (same? e f) p.0 (λ i. all_lead_at l (suc e) g vs p.1 f i (omega arith))
  where
    go : Same e f → leads (number_of vs (edge g e).from) (number_of vs (edge g e).to) (edge_length g e) ≡ true →
        (suc e ≤ f → leads (number_of vs (edge g f).from) (number_of vs (edge g f).to) (edge_length g f) ≡ true) → leads (number_of vs (edge g f).from) (number_of vs (edge g f).to) (edge_length g f) ≡ true
    go (same q) p r = subst (λ (z : ℕ). leads (number_of vs (edge g z).from) (number_of vs (edge g z).to) (edge_length g z) ≡ true) q p
    go (other n) p r = r (omega (arith, n))

listed_some : (o : Option ℤ) → is_listed o ≡ true → (h : ℤ) × (o ≡ some h)
unfolding is_listed
listed_some none e = clash false e refl
listed_some (some h) e = (h, refl)

pub empty_true : (g : Graph) (vs : List Listed) → passes_empty g vs ≡ true → NoLasso g
unfolding passes_empty
empty_true g vs p =
    let a = and_both (is_listed (number_of vs g.source)) (all_lead (length g.edges) 0 g vs) p in
    let s = listed_some (number_of vs g.source) a.0 in
    numbers_no_lasso g (number_of vs) (λ e l. all_lead_at (length g.edges) 0 g vs a.1 e (omega arith) (omega arith)) s.0 s.1

lasso_passed : (g : Graph) (h : Line) (ls : List Line) → lasso_refusal g h ls ≡ 0 → HasLasso g
unfolding lasso_refusal
lasso_passed g h ls e = record {
  stem = stem_in h (drop 3 ls);
  cycle = cycle_in h (drop 3 ls);
  lasso = refuse_not (is_lasso g (stem_in h (drop 3 ls)) (cycle_in h (drop 3 ls))) 12 (first_zero _ _ (first_zero _ _ (first_zero _ _ (first_zero _ _ e).1).1).1).0;
}

empty_passed : (g : Graph) (h : Line) (ls : List Line) → empty_refusal g h ls ≡ 0 → NoLasso g
unfolding empty_refusal
empty_passed g h ls e = empty_true g (listed_in (take (number_at h 4) (drop 3 ls)))
    (refuse_not (passes_empty g (listed_in (take (number_at h 4) (drop 3 ls)))) 12 (first_zero _ _ (first_zero _ _ (first_zero _ _ (first_zero _ _ e).1).1).1).0)

pub checker_sound : CheckerSound
unfolding CheckerSound answer_refusal refusal_against answer_verdict
checker_sound f ts e = go (says_lasso (line_at (lines ts) 1)) (first_zero _ _ (first_zero _ _ (first_zero _ _ (first_zero _ _ (first_zero _ _ (first_zero _ _ e).1).1).1).1).1).0
  where
    g : Graph
    g = meant f ts

    go : (b : Bool) → cond b (lasso_refusal g (line_at (lines ts) 1) (lines ts)) (empty_refusal g (line_at (lines ts) 1) (lines ts)) ≡ 0 → (◌≡◌ {A = ℕ} (cond b 1 2) 1 → HasLasso g) × (◌≡◌ {A = ℕ} (cond b 1 2) 2 → NoLasso g)
    go true z = (λ _. lasso_passed g (line_at (lines ts) 1) (lines ts) z, λ q. absurd (omega arith))
    go false z = (λ q. absurd (omega arith), λ _. empty_passed g (line_at (lines ts) 1) (lines ts) z)

-- a text that does not say version 2 is judged as 01's checker judges it
versions_agree : (ls : List Line) → eqb (number_at (line_at ls 1) 0) answer_version ≡ false → other_version answer_version ls ≡ other_version known_version ls
unfolding other_version number_at
versions_agree ls n = ap (λ (b : Bool). is_number w && not (leb 1 (value w) && b)) (go (test (leb (value w) known_version)))
  where
    w : List ℕ
    w = field (line_at ls 1) 0

    go : Test (leb (value w) known_version) → leb (value w) answer_version ≡ leb (value w) known_version
    go (holds t) = le-leb (value w) answer_version (omega (arith, leb-true (value w) known_version t)) ∙ sym t
    go (fails t) = lt-leb (value w) answer_version (omega (arith, leb-false (value w) known_version t, eqb-false (value w) answer_version n)) ∙ sym t

pub as_before : AsBefore
unfolding AsBefore answer_refusal older_refusal refusal_against meant
as_before g ts n = rw (n, versions_agree (lines ts) n) refl
