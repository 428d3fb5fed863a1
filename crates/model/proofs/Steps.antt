-- Case principles: what a try, an edge of a scan, an act and a list of acts keep. After these no proof unfolds an
-- operation.
use mathlib.Core.Path.{◌≡◌, refl, subst}
use mathlib.Core.Bool.{Bool, true, false, ◌||◌, not, cond}
use mathlib.Core.List.{List, [], ◌∷◌}
use mathlib.Core.Option.{Option, none, some}
use Prim.Native.Nat.{ℕ, zero, suc, ◌+◌, ◌-◌, ◌≤◌, ◌<◌}
use native.Mathlib.Omega.{arith}
use lib.Dec.{ltb, eqb}
use borrow.Author.Tests.{ltb-true, ltb-false, eqb-true, eqb-false}
use lib.ListN.{length, get_or, set}
use Rattle.model.specs.Graph.{edge, edge_depth}
use Rattle.model.specs.Case.{Case, owner}
use Rattle.model.specs.Run.{State, is_some, ended_lasso, has_ended, with_queues, emptied, takes, taken, relax, send, scan_edge, scan_from, scan, counted, depth_or, turn_of, turn, delivery_of, delivery, act, acted}

-- a try: the offer is not taken, or it is
pub relax_cases : (P : State → Type 0) (c : Case) (e d : ℕ) (x : State) → (takes (get_or x.depths (edge c.graph e).to none) d ≡ false → P x) →
    (takes (get_or x.depths (edge c.graph e).to none) d ≡ true → P (taken c e d x)) → P (relax c e d x)
unfolding relax
relax_cases P c e d x f g = go (takes (get_or x.depths (edge c.graph e).to none) d) f g
  where
    go : (b : Bool) → (b ≡ false → P x) → (b ≡ true → P (taken c e d x)) → P (cond b (taken c e d x) x)
    go true f g = g refl
    go false f g = f refl

-- a scan: what holds before edge e holds before the next
pub record Scans (c : Case) (v d : ℕ) (P : ℕ → State → Type 0) : Type 0 where
  pub halt : (e : ℕ) (x : State) → (b : ℕ) → x.broken ≡ some b → P e x → P (suc e) x
  pub pass : (e : ℕ) (x : State) → ((edge c.graph e).from ≡ v → ⊥) → P e x → P (suc e) x
  pub own : (e : ℕ) (x : State) → x.broken ≡ none → e < length c.graph.edges → (edge c.graph e).from ≡ v → P e x → P (suc e) (relax c e (d + edge_depth c.graph e) x)
  pub other : (e : ℕ) (x : State) → x.broken ≡ none → e < length c.graph.edges → (edge c.graph e).from ≡ v → (owner c (edge c.graph e).to ≡ owner c v → ⊥) → P e x → P (suc e) (send e (d + edge_depth c.graph e) x)

scan_edge_keeps : (c : Case) (v d : ℕ) (P : ℕ → State → Type 0) → Scans c v d P → (e : ℕ) (x : State) → e < length c.graph.edges → P e x → P (suc e) (scan_edge c v d e x)
unfolding scan_edge ended_lasso
scan_edge_keeps c v d P s e x l p = go x.broken refl (eqb (edge c.graph e).from v) refl (eqb (owner c (edge c.graph e).to) (owner c v)) refl
  where
    go : (o : Option ℕ) → x.broken ≡ o → (a : Bool) → eqb (edge c.graph e).from v ≡ a → (b : Bool) → eqb (owner c (edge c.graph e).to) (owner c v) ≡ b → P (suc e) (cond (is_some o || not a) x (cond b (relax c e (d + edge_depth c.graph e) x) (send e (d + edge_depth c.graph e) x)))
    go (some k) h a q b r = unfold is_some in (s.halt e x k h p)
    go none h false q b r = unfold is_some in (s.pass e x (eqb-false (edge c.graph e).from v q) p)
    go none h true q true r = unfold is_some in (s.own e x h l (eqb-true (edge c.graph e).from v q) p)
    go none h true q false r = unfold is_some in (s.other e x h l (eqb-true (edge c.graph e).from v q) (eqb-false (owner c (edge c.graph e).to) (owner c v) r) p)

-- after so many edges from e on
pub scan_from_keeps : (c : Case) (v d : ℕ) (P : ℕ → State → Type 0) → Scans c v d P → (k e : ℕ) (x : State) → e + k ≤ length c.graph.edges → P e x → P (e + k) (scan_from k e c v d x)
unfolding scan_from
scan_from_keeps c v d P s zero e x h p = subst (λ (i : ℕ). P i x) (let z : e ≡ e + 0 = omega arith in z) p
scan_from_keeps c v d P s (suc k) e x h p =
    let z : suc e + k ≡ e + suc k = omega arith in
    subst (λ (i : ℕ). P i (scan_from k (suc e) c v d (scan_edge c v d e x))) z
    (scan_from_keeps c v d P s k (suc e) (scan_edge c v d e x) (omega arith) (scan_edge_keeps c v d P s e x (omega arith) p))

pub scan_keeps : (c : Case) (v d : ℕ) (P : ℕ → State → Type 0) → Scans c v d P → (x : State) → P 0 x → P (length c.graph.edges) (scan c v d x)
unfolding scan
scan_keeps c v d P s x p =
    let m = length c.graph.edges in
    let z : 0 + m ≡ m = omega arith in
    subst (λ (i : ℕ). P i (scan_from m 0 c v d x)) z (scan_from_keeps c v d P s m 0 x (omega arith) p)

-- an act that is not idle, of a run that is not over
pub record Acts (c : Case) (P : State → Type 0) : Type 0 where
  pub turn : (w v : ℕ) (q : List ℕ) (x : State) → has_ended x ≡ false → w < c.workers → get_or x.queues w [] ≡ v ∷ q → P x →
      P (counted (scan c v (depth_or (get_or x.depths v none)) (with_queues (set x.queues w q) x)))
  pub delivery : (e d : ℕ) (x : State) → has_ended x ≡ false → get_or x.cells e none ≡ some d → P x →
      P (counted (relax c e d (emptied e x)))

-- an act by its number: nothing is done after the end; a turn, idle or not; a delivery, idle or not
pub act_cases : (P : State → Type 0) (c : Case) (a : ℕ) (x : State) → (has_ended x ≡ true → P x) →
    (a < c.workers → get_or x.queues a [] ≡ [] → P x) →
    ((v : ℕ) (q : List ℕ) → has_ended x ≡ false → a < c.workers → get_or x.queues a [] ≡ v ∷ q → P (counted (scan c v (depth_or (get_or x.depths v none)) (with_queues (set x.queues a q) x)))) →
    (c.workers ≤ a → get_or x.cells (a - c.workers) none ≡ none → P x) →
    ((d : ℕ) → has_ended x ≡ false → c.workers ≤ a → get_or x.cells (a - c.workers) none ≡ some d → P (counted (relax c (a - c.workers) d (emptied (a - c.workers) x)))) → P (act c a x)
unfolding act turn delivery turn_of delivery_of
act_cases P c a x over no_turn turn no_delivery delivery = go (has_ended x) (ltb a c.workers) refl refl
  where
    turns : (q : List ℕ) → has_ended x ≡ false → a < c.workers → get_or x.queues a [] ≡ q → P (turn_of c a q x)
    turns [] o l e = no_turn l e
    turns (v ∷ q) o l e = turn v q o l e

    delivers : (o : Option ℕ) → has_ended x ≡ false → c.workers ≤ a → get_or x.cells (a - c.workers) none ≡ o → P (delivery_of c (a - c.workers) o x)
    delivers none o l h = no_delivery l h
    delivers (some d) o l h = delivery d o l h

    go : (o t : Bool) → has_ended x ≡ o → ltb a c.workers ≡ t → P (cond o x (cond t (turn_of c a (get_or x.queues a []) x) (delivery_of c (a - c.workers) (get_or x.cells (a - c.workers) none) x)))
    go true t e h = over e
    go false true e h = turns (get_or x.queues a []) e (ltb-true a c.workers h) refl
    go false false e h = delivers (get_or x.cells (a - c.workers) none) e (ltb-false a c.workers h) refl

pub act_keeps : (c : Case) (P : State → Type 0) → Acts c P → (a : ℕ) (x : State) → P x → P (act c a x)
act_keeps c P s a x p = act_cases P c a x (λ _. p) (λ _ _. p) (λ v q o l e. s.turn a v q x o l e p) (λ _ _. p) (λ d o _ h. s.delivery (a - c.workers) d x o h p)

pub acted_keeps : (c : Case) (P : State → Type 0) → Acts c P → (xs : List ℕ) (x : State) → P x → P (acted c xs x)
unfolding acted
acted_keeps c P s [] x p = p
acted_keeps c P s (a ∷ xs) x p = acted_keeps c P s xs (act c a x) (act_keeps c P s a x p)
