-- Moments: no act raises a distance, and an offer that joins a waiting message is the lower one. The idea: a vertex
-- stands in a queue only if its distance has fallen since its last scan, so what it offers next is below what it sent
-- then.
use mathlib.Core.Path.{◌≡◌, refl, sym, subst, ◌∙◌}
use mathlib.Core.Bool.{Bool, true, false, not, ◌||◌, cond}
use mathlib.Core.List.{List, [], ◌∷◌, ◌++◌}
use mathlib.Core.Option.{Option, none, some}
use Prim.Native.Nat.{ℕ, zero, suc, ◌+◌, ◌≤◌, ◌<◌}
use native.Mathlib.Omega.{arith}
use lib.Dec.{eqb}
use lib.ListN.{length, get_or, set}
use lib.Seq.{get_or-set_same, get_or-set_other}
use Rattle.model.specs.Graph.{edge, edge_depth}
use Rattle.model.specs.Case.{Case, owner, Sound}
use Rattle.model.specs.Run.{Tallies, State, ended_lasso, fresh, with_queues, with_cells, emptied, takes, member, taken, relax, send, scan_edge, scan_from, counted, depth_or, acted, by_list}
use Rattle.text.proofs.Tests.{Same, same?, same, other, clash}
use Rattle.model.proofs.Tools.{some_not_none, getD_replicate_same, member_later, member_first, once_head, set_some, some_inj, snoc_in}
use Rattle.model.proofs.Steps.{relax_cases, scan_keeps, Acts, acted_keeps}
use Rattle.model.proofs.Shapes.{Shape, enqueue_cases, not_broken, shape_relax, shape_cell, shape_queue, shape_counted, cell_in, head_depth, fresh_shape, file_in, sent_in}
use Rattle.model.proofs.Few.{waiting, relax_cells}
use Rattle.model.proofs.Rounds.{acted_append}
use Rattle.model.proofs.Walked.{lower_cases, takes_less, taken_at, taken_other}
use Rattle.model.proofs.Trace.{relax_deeper}

-- NO DISTANCE RISES: v's depth is d or deeper
abbrev Deeper : (v d : ℕ) → State → Type 0
Deeper v d x = (k : ℕ) × (get_or x.depths v none ≡ some k) × (d ≤ k)

abbrev Stays : Case → (v d : ℕ) → State → Type 0
Stays c v d x = Shape c x × Deeper v d x

module _ (c : Case) (ok : Sound c) (v d : ℕ) where
  stays_relax : (e o : ℕ) (x : State) → x.broken ≡ none → e < length c.graph.edges → Stays c v d x → Stays c v d (relax c e o x)
  stays_relax e o x b l (s, (k, h, i)) = let r = relax_deeper c ok e o x l s v k h in (shape_relax c ok e o x b l s, (r.0, r.1, omega (arith, r.2)))

  stays_acts : Acts c (Stays c v d)
  stays_acts = record {
    turn = λ w u q x o l e p.
        let r = scan_keeps c u (depth_or (get_or x.depths u none)) (λ _ y. Stays c v d y) (record {
          halt = λ _ _ _ _ p. p;
          pass = λ _ _ _ p. p;
          own = λ e y b l i p. stays_relax e _ y b l p;
          other = λ e y b l i _ p. (shape_cell c ok e _ y p.0, p.1);
        }) (with_queues (set x.queues w q) x) (shape_queue c ok w u q x l e p.0, p.1) in
        (shape_counted c ok _ r.0, r.1);
    delivery = λ e o x n h p.
        let r = stays_relax e o (emptied e x) (not_broken x n) (file_in c ok e (cell_in c ok x e o p.0 h)) (shape_cell c ok e none x p.0, p.1) in
        (shape_counted c ok _ r.0, r.1);
  }

pub never_raised : (c : Case) → Sound c → (xs ys : List ℕ) → Shape c (by_list c xs) → (v d : ℕ) → get_or (by_list c xs).depths v none ≡ some d → Deeper v d (by_list c (xs ++ ys))
unfolding by_list
never_raised c ok xs ys s v d h =
    subst (λ (y : State). Deeper v d y) (sym (acted_append c xs ys (fresh c))) (acted_keeps c (Stays c v d) (stays_acts c ok v d) ys (acted c xs (fresh c)) (s, (d, h, omega arith))).1

-- JOINING: a message on e is at most what its start would offer now, and less if that start waits in a queue
record Late (c : Case) (x : State) (e k : ℕ) : Type 0 where
  du : ℕ
  before : get_or x.depths (edge c.graph e).from none ≡ some du
  fits : k ≤ du + edge_depth c.graph e
  newer : waiting c x (edge c.graph e).from ≡ true → k < du + edge_depth c.graph e

record Lates (c : Case) (x : State) : Type 0 where
  shape : Shape c x
  late : (e k : ℕ) → get_or x.cells e none ≡ some k → Late c x e k

-- while v is scanned at depth d: it is that deep or deeper, and deeper if it waits again
record Scanned (c : Case) (v d : ℕ) (x : State) : Type 0 where
  dv : ℕ
  here : get_or x.depths v none ≡ some dv
  deep : d ≤ dv
  newer : waiting c x v ≡ true → d < dv

module _ (c : Case) (ok : Sound c) where
  -- another vertex's place in the queues is as it was
  waits_taken : (e o : ℕ) (x : State) → e < length c.graph.edges → Shape c x → (u : ℕ) → (u ≡ (edge c.graph e).to → ⊥) → waiting c (taken c e o x) u ≡ true → waiting c x u ≡ true
  unfolding waiting
  waits_taken e o x l s u n = let v = (edge c.graph e).to in
      enqueue_cases (owner c v) v x.queues (owner c u) (λ q. member u q ≡ true → member u (get_or x.queues (owner c u) []) ≡ true) (rw s.queues (ok.owner v (ok.to e l)))
      (λ _ m. m) (λ _ _ m. snoc_in u v (get_or x.queues (owner c u) []) m (λ z. z) (λ q. absurd (n q)))

  late_relax : (e o : ℕ) (x : State) → x.broken ≡ none → e < length c.graph.edges → Lates c x → Lates c (relax c e o x)
  late_relax e o x b l s = relax_cases (Lates c) c e o x (λ _. s) (λ t. record {
    shape = subst (λ (y : State). Shape c y) (tried t) (shape_relax c ok e o x b l s.shape);
    late = λ f k h. go t f k (s.late f k h) (same? (edge c.graph f).from (edge c.graph e).to);
  })
    where
      tried : takes (get_or x.depths (edge c.graph e).to none) o ≡ true → relax c e o x ≡ taken c e o x
      tried t = unfold relax in (rw t refl)

      go : takes (get_or x.depths (edge c.graph e).to none) o ≡ true → (f k : ℕ) → Late c x f k → Same (edge c.graph f).from (edge c.graph e).to → Late c (taken c e o x) f k
      go t f k p (same q) =
          let g : p.du < o = takes_less (get_or x.depths (edge c.graph e).to none) o p.du t (rw q at p.before) in
          record { du = o; before = rw q (taken_at c ok e o x l s.shape); fits = omega (arith, p.fits); newer = λ _. omega (arith, p.fits) }
      go t f k p (other n) = record {
        du = p.du;
        before = taken_other c ok e o x l s.shape (edge c.graph f).from n ∙ p.before;
        fits = p.fits;
        newer = λ w. p.newer (waits_taken e o x l s.shape (edge c.graph f).from n w);
      }

  scanned_relax : (v d e o : ℕ) (x : State) → e < length c.graph.edges → Shape c x → Scanned c v d x → Scanned c v d (relax c e o x)
  scanned_relax v d e o x l s p = relax_cases (Scanned c v d) c e o x (λ _. p) (λ t. go t (same? v (edge c.graph e).to))
    where
      go : takes (get_or x.depths (edge c.graph e).to none) o ≡ true → Same v (edge c.graph e).to → Scanned c v d (taken c e o x)
      go t (same q) =
          let g : p.dv < o = takes_less (get_or x.depths (edge c.graph e).to none) o p.dv t (rw q at p.here) in
          record { dv = o; here = rw q (taken_at c ok e o x l s); deep = omega (arith, p.deep); newer = λ _. omega (arith, p.deep) }
      go t (other n) = record {
        dv = p.dv;
        here = taken_other c ok e o x l s v n ∙ p.here;
        deep = p.deep;
        newer = λ w. p.newer (waits_taken e o x l s v n w);
      }

  late_cell : (e : ℕ) (o : Option ℕ) {t : Tallies} (x : State) → e < c.file_edges → ((k : ℕ) → o ≡ some k → Late c x e k) → Lates c x → Lates c (with_cells (set x.cells e o) t x)
  late_cell e o {t} x l p s = record {
    shape = shape_cell c ok e o x s.shape;
    late = λ f k h. move f k (set_some x.cells e f o k (rw s.shape.cells l) h (λ i q. subst (λ (z : ℕ). Late c x z k) (sym i) (p k q)) (λ _ q. s.late f k q));
  }
    where
      move : (f k : ℕ) → Late c x f k → Late c (with_cells (set x.cells e o) t x) f k
      move f k p = record { du = p.du; before = p.before; fits = p.fits; newer = λ w. p.newer (unfold waiting in w) }

  late_send : (v d e : ℕ) (x : State) → e < c.file_edges → (edge c.graph e).from ≡ v → Scanned c v d x → Lates c x → Lates c (send e (d + edge_depth c.graph e) x)
  late_send v d e x l i p s = late_cell e _ x l (λ k q. subst (λ (z : ℕ). Late c x e z) (some_inj _ k q) (lower_cases (Late c x e) (get_or x.cells e none) _ offer (λ j h. s.late e j h))) s
    where
      offer : Late c x e (d + edge_depth c.graph e)
      offer = record { du = p.dv; before = rw i p.here; fits = omega (arith, p.deep); newer = λ w. omega (arith, p.newer (rw i at w)) }

  -- the head of a queue leaves it
  pops : (w v : ℕ) (q : List ℕ) (x : State) → w < c.workers → get_or x.queues w [] ≡ v ∷ q → Shape c x → (u : ℕ) → waiting c (with_queues (set x.queues w q) x) u ≡ true → waiting c x u ≡ true
  unfolding waiting
  pops w v q x l e s u m = go (same? (owner c u) w) m
    where
      go : Same (owner c u) w → member u (get_or (set x.queues w q) (owner c u) []) ≡ true → member u (get_or x.queues (owner c u) []) ≡ true
      go (same p) m = rw (p, e) (member_later u v q (rw (p, get_or-set_same x.queues w q [] (rw s.queues l)) at m))
      go (other n) m = rw (get_or-set_other x.queues w (owner c u) q [] n) at m

  -- and no longer waits
  popped : (w v : ℕ) (q : List ℕ) (x : State) → w < c.workers → get_or x.queues w [] ≡ v ∷ q → Shape c x → waiting c (with_queues (set x.queues w q) x) v ≡ false
  unfolding waiting
  popped w v q x l e s =
      let o : owner c v ≡ w = s.owned v w (rw e (member_first v q)) in
      rw (o, get_or-set_same x.queues w q [] (rw s.queues l)) (once_head v q (rw e at (s.once w)))

  -- a queue's head waits
  head_waits : (w v : ℕ) (q : List ℕ) (x : State) → Shape c x → get_or x.queues w [] ≡ v ∷ q → waiting c x v ≡ true
  unfolding waiting
  head_waits w v q x s h =
      let o : owner c v ≡ w = s.owned v w (rw h (member_first v q)) in
      rw (o, h) (member_first v q)

  late_queue : (w v : ℕ) (q : List ℕ) (x : State) → w < c.workers → get_or x.queues w [] ≡ v ∷ q → Lates c x → Lates c (with_queues (set x.queues w q) x)
  late_queue w v q x l e s = record {
    shape = shape_queue c ok w v q x l e s.shape;
    late = λ f k h. let p = s.late f k h in record { du = p.du; before = p.before; fits = p.fits; newer = λ m. p.newer (pops w v q x l e s.shape (edge c.graph f).from m) };
  }

  late_counted : (x : State) → Lates c x → Lates c (counted x)
  late_counted x s = record {
    shape = shape_counted c ok x s.shape;
    late = λ f k h. let p = s.late f k h in record { du = p.du; before = p.before; fits = p.fits; newer = λ m. p.newer (unfold waiting in m) };
  }

  late_acts : Acts c (Lates c)
  late_acts = record {
    turn = λ w v q x n l e s. let d = depth_or (get_or x.depths v none) in
        late_counted _ (scan_keeps c v d (λ _ y. Lates c y × Scanned c v d y) (record {
          halt = λ _ _ _ _ p. p;
          pass = λ _ _ _ p. p;
          own = λ e y b l i p. (late_relax e (d + edge_depth c.graph e) y b l p.0, scanned_relax v d e (d + edge_depth c.graph e) y l p.0.shape p.1);
          other = λ e y b l i n p. (late_send v d e y (sent_in c ok v e l i n) i p.1 p.0, record { dv = p.1.dv; here = p.1.here; deep = p.1.deep; newer = λ m. p.1.newer (unfold waiting in m) });
        }) (with_queues (set x.queues w q) x) (
          late_queue w v q x l e s,
          record {
            dv = d;
            here = head_depth c ok w v q x s.shape e;
            deep = omega arith;
            newer = λ m. clash _ m (popped w v q x l e s.shape);
          },
        )).0;
    delivery = λ e o x n h s.
        let l = cell_in c ok x e o s.shape h in
        late_counted _ (late_relax e o (emptied e x) (not_broken x n) (file_in c ok e l) (late_cell e none x l (λ k q. some_not_none none k q refl) s));
  }

  lates : (xs : List ℕ) → Lates c (by_list c xs)
  unfolding by_list
  lates xs = acted_keeps c (Lates c) late_acts xs (fresh c) (record {
    shape = fresh_shape c ok;
    late = λ e k h. some_not_none _ k h (unfold fresh in (getD_replicate_same c.file_edges e none));
  })

  -- edges before e leave its cell alone
  edge_leaves : (v d f e : ℕ) (x : State) → f < e → get_or (scan_edge c v d f x).cells e none ≡ get_or x.cells e none
  unfolding scan_edge
  edge_leaves v d f e x l = go (ended_lasso x || not (eqb (edge c.graph f).from v)) (eqb (owner c (edge c.graph f).to) (owner c v))
    where
      go : (a b : Bool) → get_or (cond a x (cond b (relax c f (d + edge_depth c.graph f) x) (send f (d + edge_depth c.graph f) x))).cells e none ≡ get_or x.cells e none
      go true b = refl
      go false true = rw (relax_cells c f (d + edge_depth c.graph f) x) refl
      go false false = get_or-set_other x.cells f e _ none (λ q. omega arith)

  scan_leaves : (k i v d e : ℕ) (x : State) → i + k ≤ e → get_or (scan_from k i c v d x).cells e none ≡ get_or x.cells e none
  unfolding scan_from
  scan_leaves zero i v d e x l = refl
  scan_leaves (suc k) i v d e x l = scan_leaves k (suc i) v d e (scan_edge c v d i x) (omega arith) ∙ edge_leaves v d i e x (omega arith)

  pub joins_lower : (xs : List ℕ) (w v : ℕ) (q : List ℕ) (e k : ℕ) → let x = by_list c xs in let d = depth_or (get_or x.depths v none) in
      get_or x.queues w [] ≡ v ∷ q → (edge c.graph e).from ≡ v → get_or (scan_from e 0 c v d (with_queues (set x.queues w q) x)).cells e none ≡ some k → k < d + edge_depth c.graph e
  joins_lower xs w v q e k h i m =
      let x = by_list c xs in
      let s = lates xs in
      let p = s.late e k (sym (scan_leaves e 0 v (depth_or (get_or x.depths v none)) e (with_queues (set x.queues w q) x) (omega arith)) ∙ m) in
      let z : p.du ≡ depth_or (get_or x.depths v none) = some_inj _ _ (sym p.before ∙ (rw i (head_depth c ok w v q x s.shape h))) in
      omega (arith, p.newer (rw i (head_waits w v q x s.shape h)), z)
