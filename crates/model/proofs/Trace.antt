-- Trace: parents, stamped by the time of their last try; each parent edge goes down as far as the depths say, or its
-- start is older.
use mathlib.Core.Path.{◌≡◌, refl, sym, subst, ◌∙◌}
use mathlib.Core.Bool.{Bool, true, false, cond}
use mathlib.Core.List.{List, [], ◌∷◌}
use mathlib.Core.Logic.{◌⊎◌, inl, inr}
use mathlib.Core.Option.{Option, none, some}
use Prim.Native.Nat.{ℕ, suc, ◌+◌, ◌≤◌, ◌<◌}
use native.Mathlib.Omega.{arith}
use lib.Dec.{ltb, eqb, T}
use borrow.Author.Tests.{ltb-true, eq-eqb, ne_eqb}
use lib.ListN.{length, get_or, set}
use lib.Seq.{get_or-set_same, get_or-set_other}
use Rattle.model.specs.Graph.{Graph, edge, edge_depth, accepting_count}
use Rattle.model.specs.Case.{Case, Sound}
use Rattle.model.specs.Run.{Tallies, State, fresh, with_queues, with_cells, emptied, takes, below_floor, taken, relax, send, scan, counted, depth_or, by_list}
use Rattle.text.proofs.Tests.{Same, same?, same, other}
use Rattle.model.proofs.Tools.{some_not_none, getD_replicate_same, set_some, some_inj}
use Rattle.model.proofs.Steps.{relax_cases, scan_keeps, Acts, acted_keeps}
use Rattle.model.proofs.Shapes.{Shape, not_broken, shape_relax, shape_cell, shape_queue, shape_counted, cell_in, head_depth, fresh_depth, fresh_shape, file_in, sent_in}
use Rattle.model.proofs.Walked.{lower_cases, takes_less, taken_at, taken_other, taken_deeper}

-- v's parent edge: it goes down at least as far as the two depths say, and where not further its start is older
pub record Link (g : Graph) (ds : List (Option ℕ)) (t : ℕ → ℕ) (v e : ℕ) : Type 0 where
  pub below : e < length g.edges
  pub to : (edge g e).to ≡ v
  pub dv : ℕ
  pub du : ℕ
  pub here : get_or ds v none ≡ some dv
  pub before : get_or ds (edge g e).from none ≡ some du
  pub falls : (dv < du + edge_depth g e) ⊎ ((dv ≡ du + edge_depth g e) × (t (edge g e).from < t v))

-- an offer on e: not more than its start's depth allows
pub record Offer (g : Graph) (ds : List (Option ℕ)) (e o : ℕ) : Type 0 where
  pub du : ℕ
  pub before : get_or ds (edge g e).from none ≡ some du
  pub fits : o ≤ du + edge_depth g e

pub record Traced (c : Case) (x : State) (t : ℕ → ℕ) (T : ℕ) : Type 0 where
  pub shape : Shape c x
  pub early : (v : ℕ) → t v < T
  pub parent : (v e : ℕ) → get_or x.parents v none ≡ some e → Link c.graph x.depths t v e
  pub cell : (e o : ℕ) → get_or x.cells e none ≡ some o → Offer c.graph x.depths e o
  pub root : (v d : ℕ) → get_or x.parents v none ≡ none → get_or x.depths v none ≡ some d → (v ≡ c.graph.source) × (d ≡ 0)
  pub broke : (b : ℕ) → x.broken ≡ some b → (d : ℕ) × (get_or x.depths b none ≡ some d) × (accepting_count c.graph < d)

pub record Trace (c : Case) (x : State) : Type 0 where
  pub t : ℕ → ℕ
  pub T : ℕ
  pub traced : Traced c x t T

unfoldable pub stamp : (t : ℕ → ℕ) (v T : ℕ) → ℕ → ℕ
stamp t v T u = cond (eqb u v) T (t u)

stamp_at : (t : ℕ → ℕ) (v T : ℕ) → stamp t v T v ≡ T
unfolding stamp
stamp_at t v T = rw (eq-eqb v v refl) refl

stamp_other : (t : ℕ → ℕ) (v T u : ℕ) → (u ≡ v → ⊥) → stamp t v T u ≡ t u
unfolding stamp
stamp_other t v T u n = rw (ne_eqb u v n) refl

module _ (c : Case) (ok : Sound c) where
  module _ (e d : ℕ) (x : State) (l : e < length c.graph.edges) (t : ℕ → ℕ) (T : ℕ) (a : Traced c x t T) (o : Offer c.graph x.depths e d)
      (k : takes (get_or x.depths (edge c.graph e).to none) d ≡ true) (b : x.broken ≡ none) where
    link_new : Link c.graph (taken c e d x).depths (stamp t (edge c.graph e).to T) (edge c.graph e).to e
    link_new = go (same? (edge c.graph e).from (edge c.graph e).to)
      where
        s : Shape c x
        s = a.shape

        v : ℕ
        v = (edge c.graph e).to

        go : Same (edge c.graph e).from v → Link c.graph (taken c e d x).depths (stamp t v T) v e
        go (same q) = record {
          below = l;
          to = refl;
          dv = d;
          du = d;
          here = taken_at c ok e d x l s;
          before = rw q (taken_at c ok e d x l s);
          falls = inl (omega (arith, o.fits, takes_less (get_or x.depths v none) d o.du k (rw q at o.before)));
        }
        go (other n) = record {
          below = l;
          to = refl;
          dv = d;
          du = o.du;
          here = taken_at c ok e d x l s;
          before = taken_other c ok e d x l s (edge c.graph e).from n ∙ o.before;
          falls = tie (same? d (o.du + edge_depth c.graph e));
        }
          where
            tie : Same d (o.du + edge_depth c.graph e) → (d < o.du + edge_depth c.graph e) ⊎ ((d ≡ o.du + edge_depth c.graph e) × (stamp t v T (edge c.graph e).from < stamp t v T v))
            tie (same q) = inr (q, omega (arith, stamp_at t v T, stamp_other t v T (edge c.graph e).from n, a.early (edge c.graph e).from))
            tie (other m) = inl (omega (arith, m, o.fits))

    link_old : (u f : ℕ) → (u ≡ (edge c.graph e).to → ⊥) → Link c.graph x.depths t u f → Link c.graph (taken c e d x).depths (stamp t (edge c.graph e).to T) u f
    link_old u f n h = go (same? (edge c.graph f).from (edge c.graph e).to)
      where
        s : Shape c x
        s = a.shape

        v : ℕ
        v = (edge c.graph e).to

        most : h.dv ≤ h.du + edge_depth c.graph f
        most = le h.falls
          where
            le : (h.dv < h.du + edge_depth c.graph f) ⊎ ((h.dv ≡ h.du + edge_depth c.graph f) × (t (edge c.graph f).from < t u)) → h.dv ≤ h.du + edge_depth c.graph f
            le (inl p) = omega arith
            le (inr p) = omega (arith, p.0)

        go : Same (edge c.graph f).from v → Link c.graph (taken c e d x).depths (stamp t v T) u f
        go (same q) = record {
          below = h.below;
          to = h.to;
          dv = h.dv;
          du = d;
          here = taken_other c ok e d x l s u n ∙ h.here;
          before = rw q (taken_at c ok e d x l s);
          falls = inl (omega (arith, most, takes_less (get_or x.depths v none) d h.du k (rw q at h.before)));
        }
        go (other m) = record {
          below = h.below;
          to = h.to;
          dv = h.dv;
          du = h.du;
          here = taken_other c ok e d x l s u n ∙ h.here;
          before = taken_other c ok e d x l s (edge c.graph f).from m ∙ h.before;
          falls = tie h.falls;
        }
          where
            tie : (h.dv < h.du + edge_depth c.graph f) ⊎ ((h.dv ≡ h.du + edge_depth c.graph f) × (t (edge c.graph f).from < t u)) → (h.dv < h.du + edge_depth c.graph f) ⊎ ((h.dv ≡ h.du + edge_depth c.graph f) × (stamp t v T (edge c.graph f).from < stamp t v T u))
            tie (inl p) = inl p
            tie (inr p) = inr (p.0, omega (arith, p.1, stamp_other t v T u n, stamp_other t v T (edge c.graph f).from m))

    traced_taken : Traced c (taken c e d x) (stamp t (edge c.graph e).to T) (suc T)
    traced_taken = record {
      shape = subst (λ (y : State). Shape c y) tried (shape_relax c ok e d x b l a.shape);
      early = λ u. early u (same? u v);
      parent = parent;
      cell = cell;
      root = root;
      broke = broke;
    }
      where
        s : Shape c x
        s = a.shape

        v : ℕ
        v = (edge c.graph e).to

        tried : relax c e d x ≡ taken c e d x
        tried = unfold relax in (rw k refl)

        early : (u : ℕ) → Same u v → stamp t v T u < suc T
        early u (same q) = rw q (omega (arith, stamp_at t v T))
        early u (other n) = omega (arith, stamp_other t v T u n, a.early u)

        parent_in : v < length x.parents
        parent_in = rw s.parents (ok.to e l)

        parent : (u f : ℕ) → get_or (taken c e d x).parents u none ≡ some f → Link c.graph (taken c e d x).depths (stamp t v T) u f
        parent u f h = (set_some x.parents v u (some e) f parent_in h
            (λ p q. subst (λ (z : ℕ). Link c.graph (taken c e d x).depths (stamp t v T) z f) (sym p) (subst (λ (z : ℕ). Link c.graph (taken c e d x).depths (stamp t v T) v z) (some_inj e f q) link_new))
            (λ n q. link_old u f n (a.parent u f q)))

        cell : (f j : ℕ) → get_or (taken c e d x).cells f none ≡ some j → Offer c.graph (taken c e d x).depths f j
        cell f j h =
            let p = a.cell f j (h) in
            let r = taken_deeper c ok e d x l s (edge c.graph f).from p.du k p.before in
            record { du = r.0; before = r.1; fits = omega (arith, r.2, p.fits) }

        root : (u j : ℕ) → get_or (taken c e d x).parents u none ≡ none → get_or (taken c e d x).depths u none ≡ some j → (u ≡ c.graph.source) × (j ≡ 0)
        root u j h i = go (same? u v)
          where
            go : Same u v → (u ≡ c.graph.source) × (j ≡ 0)
            go (same q) = some_not_none (get_or (set x.parents v (some e)) v none) e (get_or-set_same x.parents v (some e) none parent_in) ((rw q at h))
            go (other n) = a.root u j (sym (get_or-set_other x.parents v u (some e) none n) ∙ (h)) (sym (taken_other c ok e d x l s u n) ∙ i)

        broke : (w : ℕ) → (taken c e d x).broken ≡ some w → (j : ℕ) × (get_or (taken c e d x).depths w none ≡ some j) × (accepting_count c.graph < j)
        broke w h = go (ltb (accepting_count c.graph) d) refl (unfold below_floor in h)
          where
            go : (z : Bool) → ltb (accepting_count c.graph) d ≡ z → cond z (some v) none ≡ some w → (j : ℕ) × (get_or (taken c e d x).depths w none ≡ some j) × (accepting_count c.graph < j)
            go true i q = (d, subst (λ (y : ℕ). get_or (taken c e d x).depths y none ≡ some d) (some_inj v w q) (taken_at c ok e d x l s), ltb-true (accepting_count c.graph) d i)
            go false i q = some_not_none none w q refl

  trace_relax : (e d : ℕ) (x : State) → x.broken ≡ none → e < length c.graph.edges → Offer c.graph x.depths e d → Trace c x → Trace c (relax c e d x)
  trace_relax e d x b l o r = relax_cases (Trace c) c e d x (λ _. r) (λ k. record { t = stamp r.t (edge c.graph e).to r.T; T = suc r.T; traced = traced_taken e d x l r.t r.T r.traced o k b })

  trace_cell : (e : ℕ) (k : Option ℕ) {u : Tallies} (x : State) → e < c.file_edges → ((o : ℕ) → k ≡ some o → Offer c.graph x.depths e o) → Trace c x → Trace c (with_cells (set x.cells e k) u x)
  trace_cell e k {u} x l o r = record {
    t = r.t;
    T = r.T;
    traced = record {
      shape = shape_cell c ok e k x a.shape;
      early = a.early;
      parent = a.parent;
      cell = cell;
      root = a.root;
      broke = a.broke;
    };
  }
    where
      a : Traced c x r.t r.T
      a = r.traced

      cell : (f j : ℕ) → get_or (with_cells (set x.cells e k) u x).cells f none ≡ some j → Offer c.graph (with_cells (set x.cells e k) u x).depths f j
      cell f j h = (set_some x.cells e f k j (rw a.shape.cells l) h (λ p q. rw p (o j q)) (λ _ q. a.cell f j q))

  trace_send : (e d : ℕ) (x : State) → e < c.file_edges → Offer c.graph x.depths e d → Trace c x → Trace c (send e d x)
  trace_send e d x l o r = trace_cell e _ x l (λ k q. subst (λ (z : ℕ). Offer c.graph x.depths e z) (some_inj _ k q)
      (lower_cases (λ z. Offer c.graph x.depths e z) (get_or x.cells e none) d o (λ j h. r.traced.cell e j h))) r

  trace_queue : (w v : ℕ) (q : List ℕ) (x : State) → w < c.workers → get_or x.queues w [] ≡ v ∷ q → Trace c x → Trace c (with_queues (set x.queues w q) x)
  trace_queue w v q x l e r = record {
    t = r.t;
    T = r.T;
    traced = record {
      shape = shape_queue c ok w v q x l e r.traced.shape;
      early = r.traced.early;
      parent = r.traced.parent;
      cell = r.traced.cell;
      root = r.traced.root;
      broke = r.traced.broke;
    };
  }

  trace_counted : (x : State) → Trace c x → Trace c (counted x)
  trace_counted x r = record {
    t = r.t;
    T = r.T;
    traced = record {
      shape = shape_counted c ok x r.traced.shape;
      early = r.traced.early;
      parent = r.traced.parent;
      cell = r.traced.cell;
      root = r.traced.root;
      broke = r.traced.broke;
    };
  }

  -- depths only go down
  pub relax_deeper : (e d : ℕ) (x : State) → e < length c.graph.edges → Shape c x → (u k : ℕ) → get_or x.depths u none ≡ some k → (j : ℕ) × (get_or (relax c e d x).depths u none ≡ some j) × (k ≤ j)
  relax_deeper e d x l s u k h = relax_cases (λ y. (j : ℕ) × (get_or y.depths u none ≡ some j) × (k ≤ j)) c e d x (λ _. (k, h, omega arith)) (λ t. taken_deeper c ok e d x l s u k t h)

  trace_scan : (v d : ℕ) (x : State) → get_or x.depths v none ≡ some d → Trace c x → Trace c (scan c v d x)
  trace_scan v d x h r = (scan_keeps c v d (λ _ y. (Trace c y) × ((j : ℕ) × (get_or y.depths v none ≡ some j) × (d ≤ j))) (record {
    halt = λ _ _ _ _ p. p;
    pass = λ _ _ _ p. p;
    own = λ e y b l i p. (trace_relax e (d + edge_depth c.graph e) y b l (offer e y i p.1) p.0, after e y l p.0 p.1);
    other = λ e y b l i n p. (trace_send e (d + edge_depth c.graph e) y (sent_in c ok v e l i n) (offer e y i p.1) p.0, p.1);
  }) x (r, (d, h, omega arith))).0
    where
      offer : (e : ℕ) (y : State) → (edge c.graph e).from ≡ v → (j : ℕ) × (get_or y.depths v none ≡ some j) × (d ≤ j) → Offer c.graph y.depths e (d + edge_depth c.graph e)
      offer e y i (j, p, q) = record { du = j; before = rw i p; fits = omega arith }

      after : (e : ℕ) (y : State) → e < length c.graph.edges → Trace c y → (j : ℕ) × (get_or y.depths v none ≡ some j) × (d ≤ j) → (j : ℕ) × (get_or (relax c e (d + edge_depth c.graph e) y).depths v none ≡ some j) × (d ≤ j)
      after e y l r (j, p, q) = let z = relax_deeper e (d + edge_depth c.graph e) y l r.traced.shape v j p in (z.0, z.1, omega (arith, z.2))

  pub trace_acts : Acts c (Trace c)
  trace_acts = record {
    turn = λ w v q x o l e r. trace_counted _ (trace_scan v (depth_or (get_or x.depths v none)) (with_queues (set x.queues w q) x) ((head_depth c ok w v q x r.traced.shape e)) (trace_queue w v q x l e r));
    delivery = λ e d x o h r.
        let l = cell_in c ok x e d r.traced.shape h in
        trace_counted _ (trace_relax e d (emptied e x) (not_broken x o) (file_in c ok e l) ((r.traced.cell e d h)) (trace_cell e none x l (λ k q. some_not_none none k q refl) r));
  }

  trace_fresh : Trace c (fresh c)
  trace_fresh = record {
    t = λ _. 0;
    T = 1;
    traced = record {
      shape = fresh_shape c ok;
      early = λ _. omega arith;
      parent = λ v e h. some_not_none _ e h (unfold fresh in (getD_replicate_same c.graph.vertices v none));
      cell = λ e o h. some_not_none _ o h (unfold fresh in (getD_replicate_same c.file_edges e none));
      root = λ v d _ h. fresh_depth c ok v d h (λ p q. (p, q));
      broke = λ b h. some_not_none _ b h (unfold fresh in refl);
    };
  }

  pub trace : (xs : List ℕ) → Trace c (by_list c xs)
  unfolding by_list
  trace xs = acted_keeps c (Trace c) trace_acts xs (fresh c) trace_fresh
