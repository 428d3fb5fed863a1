-- Loops: from a broken floor the parents never end, n edges back one stands on a cycle, and it leaves an accepting
-- vertex.
use mathlib.Core.Path.{◌≡◌, refl, sym, ap, subst, ◌∙◌}
use mathlib.Core.Bool.{Bool, true, false, cond}
use mathlib.Core.List.{List, [], ◌∷◌}
use mathlib.Core.Logic.{◌⊎◌, inl, inr}
use mathlib.Core.Option.{Option, none, some}
use Prim.Native.Nat.{ℕ, zero, suc, ◌+◌, ◌-◌, ◌≤◌, ◌<◌}
use native.Mathlib.Omega.{arith}
use native.Mathlib.Nat.{zero-add, suc-add}
use lib.Dec.{ltb, eqb}
use borrow.Author.Tests.{ltb-true, ltb-false, eqb-true, eqb-false}
use lib.ListN.{length, get_or, get_or-eq_default}
use Rattle.model.specs.Graph.{Graph, edge, edge_depth, accepting_count, is_walk, walk_end, walk_depth}
use Rattle.model.specs.Case.{Case}
use Rattle.model.specs.Run.{State, member}
use Rattle.model.specs.Answer.{one_back, back, cycle_start, with_parent, cycle_from, cycle}
use Rattle.text.proofs.Tests.{Test, test, or_cases, clash, holds, fails}
use Rattle.model.proofs.Tools.{Once, some_not_none, some_inj}
use Rattle.model.proofs.Pigeon.{marks_on, once_marks, Twice, pigeon_twice}
use Rattle.model.proofs.Walks.{walk_cons}
use Rattle.model.proofs.Trace.{Link, Traced}

unfoldable pub up : Graph → List (Option ℕ) → ℕ → ℕ
up g ps v = one_back g (get_or ps v none) v

pub up_is : (g : Graph) (ps : List (Option ℕ)) (v e : ℕ) → get_or ps v none ≡ some e → up g ps v ≡ (edge g e).from
unfolding up one_back
up_is g ps v e h = rw h refl

-- v has k parents above it, and the last has none
abbrev pub Roots : Graph → List (Option ℕ) → ℕ → ℕ → Type 0
Roots g ps v zero = get_or ps v none ≡ none
Roots g ps v (suc k) = (e : ℕ) × (get_or ps v none ≡ some e) × Roots g ps (edge g e).from k

roots_same : (g : Graph) (ps : List (Option ℕ)) (k j v : ℕ) → Roots g ps v k → Roots g ps v j → k ≡ j
roots_same g ps zero zero v p q = refl
roots_same g ps zero (suc j) v p q = some_not_none (get_or ps v none) q.0 q.1 p
roots_same g ps (suc k) zero v p q = some_not_none (get_or ps v none) p.0 p.1 q
roots_same g ps (suc k) (suc j) v p q =
    let z : p.0 ≡ q.0 = some_inj p.0 q.0 (sym p.1 ∙ q.1) in
    ap suc (roots_same g ps k j (edge g q.0).from (subst (λ (e : ℕ). Roots g ps (edge g e).from k) z p.2) q.2)

-- the k vertices above v
unfoldable pub ancestors : Graph → List (Option ℕ) → (k : ℕ) → ℕ → List ℕ
ancestors g ps zero v = []
ancestors g ps (suc k) v = up g ps v ∷ ancestors g ps k (up g ps v)

roots_up : (g : Graph) (ps : List (Option ℕ)) (k v : ℕ) → Roots g ps v (suc k) → Roots g ps (up g ps v) k
roots_up g ps k v r = rw (up_is g ps v r.0 r.1) r.2

ancestors_roots : (g : Graph) (ps : List (Option ℕ)) (k v u : ℕ) → Roots g ps v k → member u (ancestors g ps k v) ≡ true → (j : ℕ) × (j < k) × Roots g ps u j
unfolding ancestors member
ancestors_roots g ps zero v u r m = clash false m refl
ancestors_roots g ps (suc k) v u r m = go (or_cases (eqb u (up g ps v)) (member u (ancestors g ps k (up g ps v))) m) (ancestors_roots g ps k (up g ps v) u (roots_up g ps k v r))
  where
    go : (eqb u (up g ps v) ≡ true) ⊎ (member u (ancestors g ps k (up g ps v)) ≡ true) → (member u (ancestors g ps k (up g ps v)) ≡ true → (j : ℕ) × (j < k) × Roots g ps u j) → (j : ℕ) × (j < suc k) × Roots g ps u j
    go (inl e) f = (k, omega arith, subst (λ (z : ℕ). Roots g ps z k) (sym (eqb-true u (up g ps v) e)) (roots_up g ps k v r))
    go (inr m) f = let z = f m in (z.0, omega (arith, z.1), z.2)

ancestors_once : (g : Graph) (ps : List (Option ℕ)) (k v : ℕ) → Roots g ps v k → Once (ancestors g ps k v)
unfolding ancestors Once
ancestors_once g ps zero v r = tt
ancestors_once g ps (suc k) v r = (go (test (member (up g ps v) (ancestors g ps k (up g ps v)))), ancestors_once g ps k (up g ps v) (roots_up g ps k v r))
  where
    go : Test (member (up g ps v) (ancestors g ps k (up g ps v))) → member (up g ps v) (ancestors g ps k (up g ps v)) ≡ false
    go (fails f) = f
    go (holds m) =
        let z = ancestors_roots g ps k (up g ps v) (up g ps v) (roots_up g ps k v r) m in
        absurd (omega (arith, z.1, roots_same g ps k z.0 (up g ps v) (roots_up g ps k v r) z.2))

link_most : (g : Graph) (ds : List (Option ℕ)) (t : ℕ → ℕ) (v e : ℕ) (l : Link g ds t v e) → l.dv ≤ l.du + edge_depth g e
link_most g ds t v e l = go l.falls
  where
    go : (l.dv < l.du + edge_depth g e) ⊎ ((l.dv ≡ l.du + edge_depth g e) × (t (edge g e).from < t v)) → l.dv ≤ l.du + edge_depth g e
    go (inl p) = omega arith
    go (inr p) = omega (arith, p.0)

-- ALIVE: parents never end
abbrev pub Alive : Graph → List (Option ℕ) → ℕ → Type 0
Alive g ps v = (k : ℕ) → Roots g ps v k → ⊥

pub alive_parent : (g : Graph) (ps : List (Option ℕ)) (v : ℕ) → Alive g ps v → (e : ℕ) × (get_or ps v none ≡ some e)
alive_parent g ps v f = go (get_or ps v none) refl
  where
    go : (o : Option ℕ) → get_or ps v none ≡ o → (e : ℕ) × (get_or ps v none ≡ some e)
    go none h = absurd (f 0 h)
    go (some e) h = (e, h)

pub alive_up : (g : Graph) (ps : List (Option ℕ)) (v : ℕ) → Alive g ps v → Alive g ps (up g ps v)
alive_up g ps v f k r =
    let p = alive_parent g ps v f in
    f (suc k) (p.0, p.1, rw (up_is g ps v p.0 p.1) at r)

back_suc : (k : ℕ) (g : Graph) (ps : List (Option ℕ)) (v : ℕ) → back (suc k) g ps v ≡ back k g ps (up g ps v)
unfolding back up
back_suc k g ps v = refl

back_add : (i j : ℕ) (g : Graph) (ps : List (Option ℕ)) (v : ℕ) → back (i + j) g ps v ≡ back j g ps (back i g ps v)
unfolding back up
back_add zero j g ps v = ap (λ (k : ℕ). back k g ps v) (zero-add j)
back_add (suc i) j g ps v = ap (λ (k : ℕ). back k g ps v) (suc-add i j) ∙ back_add i j g ps (up g ps v)

pub back_alive : (k : ℕ) (g : Graph) (ps : List (Option ℕ)) (v : ℕ) → Alive g ps v → Alive g ps (back k g ps v)
back_alive zero g ps v f = unfold back in f
back_alive (suc k) g ps v f = rw (back_suc k g ps v) (back_alive k g ps (up g ps v) (alive_up g ps v f))

alive_below : (n : ℕ) (g : Graph) (ps : List (Option ℕ)) (v : ℕ) → length ps ≡ n → Alive g ps v → v < n
alive_below n g ps v s f = go (test (ltb v (length ps))) (alive_parent g ps v f)
  where
    go : Test (ltb v (length ps)) → (e : ℕ) × (get_or ps v none ≡ some e) → v < n
    go (holds h) p = rw s at (ltb-true v (length ps) h)
    go (fails h) p = some_not_none (get_or ps v none) p.0 p.1 (get_or-eq_default ps none (ltb-false v (length ps) h))

-- n back from where the parents never end one is on a cycle
on_cycle : (n : ℕ) (g : Graph) (ps : List (Option ℕ)) (b : ℕ) → length ps ≡ n → Alive g ps b → (p : ℕ) × (p < n) × (back (suc p) g ps (back n g ps b) ≡ back n g ps b)
on_cycle n g ps b s f = go (pigeon_twice n (λ i. back i g ps b) (λ i. alive_below n g ps (back i g ps b) s (back_alive i g ps b f)))
  where
    go : Twice (suc n) (λ i. back i g ps b) → (p : ℕ) × (p < n) × (back (suc p) g ps (back n g ps b) ≡ back n g ps b)
    go w =
        let p = w.j - suc w.i in
        let r = n - w.i in
        let e1 : back (suc p) g ps (back n g ps b) ≡ back (n + suc p) g ps b = sym (back_add n (suc p) g ps b) in
        let n1 : n + suc p ≡ w.j + r = omega (arith, w.rises, w.below) in
        let e2 : back (w.j + r) g ps b ≡ back r g ps (back w.j g ps b) = back_add w.j r g ps b in
        let e3 : back (w.i + r) g ps b ≡ back r g ps (back w.i g ps b) = back_add w.i r g ps b in
        let n2 : w.i + r ≡ n = omega (arith, w.rises, w.below) in
        (p, omega (arith, w.rises, w.below), e1 ∙ ap (λ (k : ℕ). back k g ps b) n1 ∙ e2 ∙ ap (λ (v : ℕ). back r g ps v) (sym w.same) ∙ sym e3 ∙ ap (λ (k : ℕ). back k g ps b) n2)

-- a closed walk that leaves an accepting vertex
pub record Closed (g : Graph) (s : ℕ) (es : List ℕ) : Type 0 where
  pub walks : is_walk g s es ≡ true
  pub closes : walk_end g s es ≡ s
  pub some_edge : 1 ≤ length es
  pub accepts : 1 ≤ walk_depth g es

-- what has been gone so far, from v to s
record SoFar (g : Graph) (ds : List (Option ℕ)) (t : ℕ → ℕ) (s v : ℕ) (es : List ℕ) : Type 0 where
  walks : is_walk g v es ≡ true
  walk_end : walk_end g v es ≡ s
  deep : ℕ
  dv : ℕ
  last : get_or ds s none ≡ some deep
  here : get_or ds v none ≡ some dv
  falls : (deep < dv + walk_depth g es) ⊎ ((deep ≡ dv + walk_depth g es) × (t v ≤ t s))

module _ (c : Case) (x : State) (t : ℕ → ℕ) (T : ℕ) (a : Traced c x t T) where
  roots_depth : (k v d : ℕ) → Roots c.graph x.parents v k → get_or x.depths v none ≡ some d → d ≤ marks_on c.graph.accepting (ancestors c.graph x.parents k v)
  unfolding ancestors marks_on edge_depth
  roots_depth zero v d r h = omega (arith, (a.root v d r h).1)
  roots_depth (suc k) v d r h =
      let l = a.parent v r.0 r.1 in
      let z : l.dv ≡ d = some_inj l.dv d (sym l.here ∙ h) in
      let q : up c.graph x.parents v ≡ (edge c.graph r.0).from = up_is c.graph x.parents v r.0 r.1 in
      rw q (omega (arith, link_most c.graph x.depths t v r.0 l, roots_depth k (edge c.graph r.0).from l.du r.2 l.before))

  -- a floor is broken only where the parents never end
  pub broken_alive : (b : ℕ) → x.broken ≡ some b → Alive c.graph x.parents b
  unfolding accepting_count
  broken_alive b h k r =
      let z = a.broke b h in
      omega (arith, z.2, roots_depth k b z.0 r z.1, once_marks c.graph.accepting (ancestors c.graph x.parents k b) (ancestors_once c.graph x.parents k b r))

  -- one parent edge more: strictly older, or strictly further down
  more : (s v e : ℕ) (es : List ℕ) → get_or x.parents v none ≡ some e → (z : SoFar c.graph x.depths t s v es) →
      (SoFar c.graph x.depths t s (edge c.graph e).from (e ∷ es)) × ((edge c.graph e).from ≡ s → Closed c.graph s (e ∷ es))
  unfolding walk_end walk_depth
  more s v e es h z = (
    far,
    λ q. record {
      walks = subst (λ (u : ℕ). is_walk c.graph u (e ∷ es) ≡ true) q far.walks;
      closes = subst (λ (u : ℕ). walk_end c.graph u (e ∷ es) ≡ s) q far.walk_end;
      some_edge = omega arith;
      accepts = down q falls;
    },
  )
    where
      l : Link c.graph x.depths t v e
      l = a.parent v e h

      same_depth : l.dv ≡ z.dv
      same_depth = some_inj l.dv z.dv (sym l.here ∙ z.here)

      falls : (z.deep < l.du + (edge_depth c.graph e + walk_depth c.graph es)) ⊎ ((z.deep ≡ l.du + (edge_depth c.graph e + walk_depth c.graph es)) × (t (edge c.graph e).from < t s))
      falls = go l.falls z.falls
        where
          go : (l.dv < l.du + edge_depth c.graph e) ⊎ ((l.dv ≡ l.du + edge_depth c.graph e) × (t (edge c.graph e).from < t v)) → (z.deep < z.dv + walk_depth c.graph es) ⊎ ((z.deep ≡ z.dv + walk_depth c.graph es) × (t v ≤ t s)) →
              (z.deep < l.du + (edge_depth c.graph e + walk_depth c.graph es)) ⊎ ((z.deep ≡ l.du + (edge_depth c.graph e + walk_depth c.graph es)) × (t (edge c.graph e).from < t s))
          go (inl p) (inl q) = inl (omega (arith, same_depth))
          go (inl p) (inr q) = inl (omega (arith, same_depth, q.0))
          go (inr p) (inl q) = inl (omega (arith, same_depth, p.0))
          go (inr p) (inr q) = inr (omega (arith, same_depth, p.0, q.0), omega (arith, p.1, q.1))

      weak : (z.deep < l.du + (edge_depth c.graph e + walk_depth c.graph es)) ⊎ ((z.deep ≡ l.du + (edge_depth c.graph e + walk_depth c.graph es)) × (t (edge c.graph e).from < t s)) →
          (z.deep < l.du + (edge_depth c.graph e + walk_depth c.graph es)) ⊎ ((z.deep ≡ l.du + (edge_depth c.graph e + walk_depth c.graph es)) × (t (edge c.graph e).from ≤ t s))
      weak (inl p) = inl p
      weak (inr p) = inr (p.0, omega (arith, p.1))

      far : SoFar c.graph x.depths t s (edge c.graph e).from (e ∷ es)
      far = record {
        walks = walk_cons c.graph e es l.below (rw l.to z.walks);
        walk_end = rw l.to z.walk_end;
        deep = z.deep;
        dv = l.du;
        last = z.last;
        here = l.before;
        falls = weak falls;
      }

      down : (edge c.graph e).from ≡ s → (z.deep < l.du + (edge_depth c.graph e + walk_depth c.graph es)) ⊎ ((z.deep ≡ l.du + (edge_depth c.graph e + walk_depth c.graph es)) × (t (edge c.graph e).from < t s)) → 1 ≤ edge_depth c.graph e + walk_depth c.graph es
      down q (inl p) = let y : l.du ≡ z.deep = some_inj l.du z.deep (sym l.before ∙ (rw q z.last)) in omega arith
      down q (inr p) = absurd (omega (arith, p.1, ap t q))

  closes_from : (k j s v : ℕ) (es : List ℕ) → Alive c.graph x.parents v → back (suc j) c.graph x.parents v ≡ s → j < k → SoFar c.graph x.depths t s v es → Closed c.graph s (cycle_from k c.graph x.parents s v es)
  closes_from zero j s v es f b l z = absurd (omega arith)
  closes_from (suc k) j s v es f b l z = go (alive_parent c.graph x.parents v f) (λ i u ds f b l z. closes_from k i s u ds f b l z)
    where
      go : (e : ℕ) × (get_or x.parents v none ≡ some e) → ((i u : ℕ) (ds : List ℕ) → Alive c.graph x.parents u → back (suc i) c.graph x.parents u ≡ s → i < k → SoFar c.graph x.depths t s u ds → Closed c.graph s (cycle_from k c.graph x.parents s u ds)) → Closed c.graph s (cycle_from (suc k) c.graph x.parents s v es)
      go (e, h) ih = unfold cycle_from one_back with_parent in (rw h (at (eqb (edge c.graph e).from s) j refl (sym (up_back j) ∙ b) l))
        where
          m : (SoFar c.graph x.depths t s (edge c.graph e).from (e ∷ es)) × ((edge c.graph e).from ≡ s → Closed c.graph s (e ∷ es))
          m = more s v e es h z

          u : up c.graph x.parents v ≡ (edge c.graph e).from
          u = up_is c.graph x.parents v e h

          up_back : (i : ℕ) → back (suc i) c.graph x.parents v ≡ back i c.graph x.parents (edge c.graph e).from
          up_back i = back_suc i c.graph x.parents v ∙ ap (λ (w : ℕ). back i c.graph x.parents w) u

          at : (q : Bool) (j : ℕ) → eqb (edge c.graph e).from s ≡ q → back j c.graph x.parents (edge c.graph e).from ≡ s → j < suc k →
              Closed c.graph s (cond q (e ∷ es) (cycle_from k c.graph x.parents s (edge c.graph e).from (e ∷ es)))
          at true j h b l = m.1 (eqb-true (edge c.graph e).from s h)
          at false zero h b l = absurd (eqb-false (edge c.graph e).from s h (unfold back in b))
          at false (suc j) h b l = ih j (edge c.graph e).from (e ∷ es) (subst (λ (w : ℕ). Alive c.graph x.parents w) u (alive_up c.graph x.parents v f)) b (omega arith) m.0

  module _ (b : ℕ) (h : x.broken ≡ some b) where
    start_link : (e : ℕ) × Link c.graph x.depths t (cycle_start c.graph x.parents b) e
    start_link =
        let alive = back_alive c.graph.vertices c.graph x.parents b (broken_alive b h) in
        let p = alive_parent c.graph x.parents (back c.graph.vertices c.graph x.parents b) alive in
        unfold cycle_start in (p.0, a.parent (back c.graph.vertices c.graph x.parents b) p.0 p.1)

    pub cycle_closed : Closed c.graph (cycle_start c.graph x.parents b) (cycle c.graph x.parents b)
    unfolding cycle cycle_start
    cycle_closed = closes_from c.graph.vertices r.0 s s [] (back_alive c.graph.vertices c.graph x.parents b (broken_alive b h)) r.2 r.1 start
      where
        s : ℕ
        s = back c.graph.vertices c.graph x.parents b

        r : (p : ℕ) × (p < c.graph.vertices) × (back (suc p) c.graph x.parents s ≡ s)
        r = on_cycle c.graph.vertices c.graph x.parents b a.shape.parents (broken_alive b h)

        start : SoFar c.graph x.depths t s s []
        start = record { walks = unfold is_walk in refl; walk_end = unfold walk_end in refl; deep = start_link.1.dv; dv = start_link.1.dv; last = start_link.1.here; here = start_link.1.here; falls = inr (unfold walk_depth in (omega arith), omega arith) }

    -- the start is reached
    pub start_depth : (d : ℕ) × (get_or x.depths (cycle_start c.graph x.parents b) none ≡ some d)
    start_depth = (start_link.1.dv, start_link.1.here)
