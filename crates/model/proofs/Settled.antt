-- Settled: each edge out of a vertex with a distance waits for its vertex's scan, or is relaxed, or a good enough
-- offer waits in its cell.
use mathlib.Core.Path.{◌≡◌, refl, sym, subst, ◌∙◌}
use mathlib.Core.Bool.{true, false, ◌&&◌, not}
use mathlib.Core.List.{List, [], ◌∷◌}
use mathlib.Core.Logic.{◌⊎◌, inl, inr}
use mathlib.Core.Option.{Option, none, some}
use Prim.Native.Nat.{ℕ, suc, ◌+◌, ◌≤◌, ◌<◌}
use native.Mathlib.Omega.{arith}
use lib.ListN.{length, get_or, set}
use lib.Seq.{get_or-set_same, get_or-set_other}
use Rattle.model.specs.Graph.{edge, edge_depth}
use Rattle.model.specs.Case.{Case, owner, Sound}
use Rattle.model.specs.Run.{Tallies, State, is_some, fresh, with_queues, with_cells, emptied, takes, member, taken, relax, lower, send, scan, no_vertex, no_message, counted, depth_or, by_list}
use Rattle.text.proofs.Tests.{Same, same?, and_both, clash, same, other}
use Rattle.model.proofs.Tools.{some_not_none, member_first, no_queue, no_cell, member_end, member_before, some_inj, member_rest}
use Rattle.model.proofs.Walks.{Relaxed}
use Rattle.model.proofs.Steps.{relax_cases, scan_keeps, Acts, acted_keeps}
use Rattle.model.proofs.Shapes.{Shape, enqueue_cases, not_broken, shape_relax, shape_cell, shape_queue, cell_in, head_depth, fresh_depth, source_queued, sent_in, file_in}
use Rattle.model.proofs.Few.{waiting, Paid}
use Rattle.model.proofs.Walked.{lower_offer, lower_old, takes_not, to_owned, taken_at, taken_other, taken_deeper, Walked, walked_relax, walked_cell, walked_queue, walked_counted, walked_scan, walked_fresh}

pub data Settled (c : Case) (x : State) (f du : ℕ) : Type 0 where
  later : waiting c x (edge c.graph f).from ≡ true → Settled c x f du
  done : (dv : ℕ) → get_or x.depths (edge c.graph f).to none ≡ some dv → du + edge_depth c.graph f ≤ dv → Settled c x f du
  there : (o : ℕ) → get_or x.cells f none ≡ some o → du + edge_depth c.graph f ≤ o → Settled c x f du

-- all edges are settled, but those with X
abbrev AllBut : (X : ℕ → ℕ → Type 0) → Case → State → Type 0
AllBut X c x = x.broken ≡ none → (f du : ℕ) → f < length c.graph.edges → get_or x.depths (edge c.graph f).from none ≡ some du → Settled c x f du ⊎ X f du

-- edges of v from number e on are owed at depth d
abbrev Owed : Case → (v d e : ℕ) → ℕ → ℕ → Type 0
Owed c v d e f du = ((edge c.graph f).from ≡ v) × (du ≡ d) × (e ≤ f)

-- THE RUN's tale: walks to every depth and offer, all edges settled
pub record Tale (c : Case) (x : State) : Type 0 where
  pub walked : Walked c x
  pub settled : AllBut (λ _ _. ⊥) c x

module _ (c : Case) (ok : Sound c) where
  module _ (e d : ℕ) (x : State) (l : e < length c.graph.edges) (s : Shape c x) where
    taken_waits : waiting c (taken c e d x) (edge c.graph e).to ≡ true
    unfolding waiting
    taken_waits = let v = (edge c.graph e).to in enqueue_cases (owner c v) v x.queues (owner c v) (λ q. member v q ≡ true) (to_owned c ok e d x l s) (λ f. f refl) (λ _ _. member_end v (get_or x.queues (owner c v) []))

    taken_waiting : (u : ℕ) → waiting c x u ≡ true → waiting c (taken c e d x) u ≡ true
    unfolding waiting
    taken_waiting u h = let v = (edge c.graph e).to in enqueue_cases (owner c v) v x.queues (owner c u) (λ q. member u q ≡ true) (to_owned c ok e d x l s) (λ _. h) (λ _ _. member_before u v (get_or x.queues (owner c u) []) h)

    taken_settled : (f du : ℕ) → takes (get_or x.depths (edge c.graph e).to none) d ≡ true → Settled c x f du → Settled c (taken c e d x) f du
    taken_settled f du t (later h) = later (taken_waiting (edge c.graph f).from h)
    taken_settled f du t (done dv h i) = let r = taken_deeper c ok e d x l s (edge c.graph f).to dv t h in done r.0 r.1 (omega (arith, r.2))
    taken_settled f du t (there o h i) = there o h i

  -- a try settles its own edge and unsettles none
  settle_relax : (X Y : ℕ → ℕ → Type 0) (e d : ℕ) (x : State) → x.broken ≡ none → e < length c.graph.edges → Shape c x → AllBut X c x →
      ((f du : ℕ) → f < length c.graph.edges → X f du → ((f ≡ e) × (du + edge_depth c.graph e ≤ d)) ⊎ Y f du) → AllBut Y c (relax c e d x)
  settle_relax X Y e d x b l s a g = relax_cases (AllBut Y c) c e d x
      (λ t n f du i h. kept t f du i (a n f du i h))
      (λ t n f du i h. changed t f du i h (a b) (same? (edge c.graph f).from (edge c.graph e).to))
    where
      fit : (f du : ℕ) → takes (get_or x.depths (edge c.graph e).to none) d ≡ false → ((f ≡ e) × (du + edge_depth c.graph e ≤ d)) ⊎ Y f du → Settled c x f du ⊎ Y f du
      fit f du t (inl (q, h)) = let r = takes_not _ d t in inl (subst (λ (z : ℕ). Settled c x z du) (sym q) (done r.0 r.1 (omega (arith, r.2))))
      fit f du t (inr y) = inr y

      kept : takes (get_or x.depths (edge c.graph e).to none) d ≡ false → (f du : ℕ) → f < length c.graph.edges → Settled c x f du ⊎ X f du → Settled c x f du ⊎ Y f du
      kept t f du i (inl p) = inl p
      kept t f du i (inr p) = fit f du t (g f du i p)

      fit' : (f du : ℕ) → takes (get_or x.depths (edge c.graph e).to none) d ≡ true → ((f ≡ e) × (du + edge_depth c.graph e ≤ d)) ⊎ Y f du → Settled c (taken c e d x) f du ⊎ Y f du
      fit' f du t (inl (q, h)) = inl (subst (λ (z : ℕ). Settled c (taken c e d x) z du) (sym q) (done d (taken_at c ok e d x l s) h))
      fit' f du t (inr y) = inr y

      still : (f du : ℕ) → takes (get_or x.depths (edge c.graph e).to none) d ≡ true → f < length c.graph.edges → Settled c x f du ⊎ X f du → Settled c (taken c e d x) f du ⊎ Y f du
      still f du t i (inl p) = inl (taken_settled e d x l s f du t p)
      still f du t i (inr p) = fit' f du t (g f du i p)

      changed : takes (get_or x.depths (edge c.graph e).to none) d ≡ true → (f du : ℕ) → f < length c.graph.edges → get_or (taken c e d x).depths (edge c.graph f).from none ≡ some du →
          ((f du : ℕ) → f < length c.graph.edges → get_or x.depths (edge c.graph f).from none ≡ some du → Settled c x f du ⊎ X f du) → Same (edge c.graph f).from (edge c.graph e).to → Settled c (taken c e d x) f du ⊎ Y f du
      changed t f du i h a (same q) = inl (later (rw q (taken_waits e d x l s)))
      changed t f du i h a (other n) = still f du t i (a f du i (sym (taken_other c ok e d x l s (edge c.graph f).from n) ∙ h))

  -- a write to e's cell unsettles no other edge
  settle_cell : (X Y : ℕ → ℕ → Type 0) (e : ℕ) (k : Option ℕ) {t : Tallies} (x : State) → AllBut X c x →
      ((f du : ℕ) → (f ≡ e → ⊥) → X f du → Y f du) →
      ((du : ℕ) → Settled c x e du ⊎ X e du → Settled c (with_cells (set x.cells e k) t x) e du ⊎ Y e du) → AllBut Y c (with_cells (set x.cells e k) t x)
  settle_cell X Y e k {t} x a g h = λ n f du i q. go f du (a n f du i q) (same? f e)
    where
      move : (f du : ℕ) → (f ≡ e → ⊥) → Settled c x f du → Settled c (with_cells (set x.cells e k) t x) f du
      move f du n (later p) = later (unfold waiting in p)
      move f du n (done dv p i) = done dv p i
      move f du n (there o p i) = there o (get_or-set_other x.cells e f k none n ∙ p) i

      go : (f du : ℕ) → Settled c x f du ⊎ X f du → Same f e → Settled c (with_cells (set x.cells e k) t x) f du ⊎ Y f du
      go f du p (same q) = subst (λ (z : ℕ). Settled c (with_cells (set x.cells e k) t x) z du ⊎ Y z du) (sym q) (h du (subst (λ (z : ℕ). Settled c x z du ⊎ X z du) q p))
      go f du (inl p) (other n) = inl (move f du n p)
      go f du (inr p) (other n) = inr (g f du n p)

  settle_send : (e d v : ℕ) (x : State) → e < c.file_edges → (edge c.graph e).from ≡ v → Shape c x → AllBut (Owed c v d e) c x → AllBut (Owed c v d (suc e)) c (send e (d + edge_depth c.graph e) x)
  settle_send e d v x l i s a = settle_cell (Owed c v d e) (Owed c v d (suc e)) e (some k) x a (λ f du n p. (p.0, p.1, omega (arith, n, p.2))) settled
    where
      k : ℕ
      k = lower (get_or x.cells e none) (d + edge_depth c.graph e)

      cell : get_or (set x.cells e (some k)) e none ≡ some k
      cell = get_or-set_same x.cells e (some k) none (rw s.cells l)

      settled : (du : ℕ) → Settled c x e du ⊎ Owed c v d e e du → Settled c (send e (d + edge_depth c.graph e) x) e du ⊎ Owed c v d (suc e) e du
      settled du (inl (later p)) = inl (later (unfold waiting in p))
      settled du (inl (done dv p h)) = inl (done dv p h)
      settled du (inl (there o p h)) = inl (there k cell (omega (arith, lower_old (get_or x.cells e none) (d + edge_depth c.graph e) o p)))
      settled du (inr p) = inl (there k cell (omega (arith, p.1, lower_offer (get_or x.cells e none) (d + edge_depth c.graph e))))

  settle_queue : (w v d : ℕ) (q : List ℕ) (x : State) → w < c.workers → get_or x.queues w [] ≡ v ∷ q → get_or x.depths v none ≡ some d → Shape c x →
      AllBut (λ _ _. ⊥) c x → AllBut (Owed c v d 0) c (with_queues (set x.queues w q) x)
  settle_queue w v d q x l e h s a = λ n f du i p. go f du p (same? (edge c.graph f).from v) (a n f du i p)
    where
      still : (u : ℕ) → (u ≡ v → ⊥) → Same (owner c u) w → waiting c x u ≡ true → waiting c (with_queues (set x.queues w q) x) u ≡ true
      still u n (same p) h = unfold waiting in (rw (p, get_or-set_same x.queues w q [] (rw s.queues l)) (member_rest u v q n (rw (p, e) at h)))
      still u n (other m) h = unfold waiting in (rw (get_or-set_other x.queues w (owner c u) q [] m) h)

      go : (f du : ℕ) → get_or x.depths (edge c.graph f).from none ≡ some du → Same (edge c.graph f).from v → Settled c x f du ⊎ ⊥ → Settled c (with_queues (set x.queues w q) x) f du ⊎ Owed c v d 0 f du
      go f du p (same i) t = inr (i, some_inj du d (sym p ∙ (rw i h)), omega arith)
      go f du p (other n) (inl (later j)) = inl (later (still (edge c.graph f).from n (same? (owner c (edge c.graph f).from) w) j))
      go f du p (other n) (inl (done dv j i)) = inl (done dv j i)
      go f du p (other n) (inl (there o j i)) = inl (there o j i)
      go f du p (other n) (inr z) = absurd z

  settle_scan : (v d : ℕ) (x : State) → Shape c x → AllBut (Owed c v d 0) c x → AllBut (λ _ _. ⊥) c (scan c v d x)
  settle_scan v d x s a = λ n f du i p. end f du i ((scan_keeps c v d (λ e y. (Shape c y) × AllBut (Owed c v d e) c y) (record {
    halt = λ e y b h p. (p.0, λ n. some_not_none y.broken b h n);
    pass = λ e y m p. (p.0, λ n f du i q. pass e f du m (p.1 n f du i q));
    own = λ e y b l i p. (shape_relax c ok e (d + edge_depth c.graph e) y b l p.0, settle_relax (Owed c v d e) (Owed c v d (suc e)) e (d + edge_depth c.graph e) y b l p.0 p.1 (λ f du _ q. owed e f du q (same? f e)));
    other = λ e y b l i n p. (shape_cell c ok e _ y p.0, settle_send e d v y (sent_in c ok v e l i n) i p.0 p.1);
  }) x (s, a)).1 n f du i p)
    where
      pass : (e f du : ℕ) {y : State} → ((edge c.graph e).from ≡ v → ⊥) → Settled c y f du ⊎ Owed c v d e f du → Settled c y f du ⊎ Owed c v d (suc e) f du
      pass e f du m (inl p) = inl p
      pass e f du m (inr (p, q, r)) = inr (p, q, past (same? f e))
        where
          past : Same f e → suc e ≤ f
          past (same i) = absurd (m (rw i at p))
          past (other n) = omega (arith, n)

      owed : (e f du : ℕ) → Owed c v d e f du → Same f e → ((f ≡ e) × (du + edge_depth c.graph e ≤ d + edge_depth c.graph e)) ⊎ Owed c v d (suc e) f du
      owed e f du (p, q, r) (same i) = inl (i, omega arith)
      owed e f du (p, q, r) (other n) = inr (p, q, omega (arith, n))

      end : (f du : ℕ) {y : State} → f < length c.graph.edges → Settled c y f du ⊎ Owed c v d (length c.graph.edges) f du → Settled c y f du ⊎ ⊥
      end f du i (inl p) = inl p
      end f du i (inr (p, q, r)) = absurd (omega arith)

  settle_delivery : (e d : ℕ) (x : State) → x.broken ≡ none → get_or x.cells e none ≡ some d → Shape c x → AllBut (λ _ _. ⊥) c x → AllBut (λ _ _. ⊥) c (relax c e d (emptied e x))
  settle_delivery e d x b h s a = settle_relax (λ f du. (f ≡ e) × (du + edge_depth c.graph e ≤ d)) (λ _ _. ⊥) e d (emptied e x) b (file_in c ok e (cell_in c ok x e d s h)) (shape_cell c ok e none x s)
      (settle_cell (λ _ _. ⊥) (λ f du. (f ≡ e) × (du + edge_depth c.graph e ≤ d)) e none x a (λ f du n z. absurd z) go) (λ f du i p. inl p)
    where
      go : (du : ℕ) → Settled c x e du ⊎ ⊥ → Settled c (emptied e x) e du ⊎ ((e ≡ e) × (du + edge_depth c.graph e ≤ d))
      go du (inl (later p)) = inl (later (unfold waiting in p))
      go du (inl (done dv p i)) = inl (done dv p i)
      go du (inl (there o p i)) = inr (refl, let z : o ≡ d = some_inj o d (sym p ∙ h) in omega arith)
      go du (inr z) = absurd z

  tale_counted : (x : State) → Walked c x → AllBut (λ _ _. ⊥) c x → Tale c (counted x)
  tale_counted x w a = record { walked = walked_counted c ok x w; settled = λ n f du i p. move f du (a n f du i p) }
    where
      move : (f du : ℕ) → Settled c x f du ⊎ ⊥ → Settled c (counted x) f du ⊎ ⊥
      move f du (inl (later p)) = inl (later (unfold waiting in p))
      move f du (inl (done dv p i)) = inl (done dv p i)
      move f du (inl (there o p i)) = inl (there o p i)
      move f du (inr z) = absurd z

  pub tale_acts : Acts c (Tale c)
  tale_acts = record {
    turn = λ w v q x o l e t.
        let d = depth_or (get_or x.depths v none) in
        let s = t.walked.shape in
        let h = head_depth c ok w v q x s e in
        tale_counted _ (walked_scan c ok v d (with_queues (set x.queues w q) x) (t.walked.depths v d h) (walked_queue c ok w v q x l e t.walked))
        (settle_scan v d (with_queues (set x.queues w q) x) (shape_queue c ok w v q x l e s) (settle_queue w v d q x l e h s t.settled));
    delivery = λ e d x o h t.
        let s = t.walked.shape in
        let l = cell_in c ok x e d s h in
        let b = not_broken x o in
        tale_counted _ (walked_relax c ok e d (emptied e x) b (file_in c ok e l) (t.walked.cells e d h) (walked_cell c ok e none x l (λ k q. some_not_none none k q refl) t.walked))
        (settle_delivery e d x b h s t.settled);
  }

  tale_fresh : Tale c (fresh c)
  tale_fresh = record {
    walked = walked_fresh c ok;
    settled = λ n f du i p. inl (fresh_depth c ok (edge c.graph f).from du p (λ q z. later (unfold waiting in (rw (q, source_queued c ok) (member_first c.graph.source [])))));
  }

  pub tale : (xs : List ℕ) → Tale c (by_list c xs)
  unfolding by_list
  tale xs = acted_keeps c (Tale c) tale_acts xs (fresh c) tale_fresh

  -- AT AN EMPTY END every edge of a reached vertex is relaxed
  pub relaxed : (x : State) → Paid c x → Tale c x → x.broken ≡ none → x.ended_empty ≡ true → Relaxed c.graph x.depths
  relaxed x p t n e f du i h = go (t.settled n f du i h)
    where
      all : (no_vertex x.queues ≡ true) × (no_message x.cells ≡ true)
      all = and_both (no_vertex x.queues) (no_message x.cells) (and_both (not (is_some x.broken)) (no_vertex x.queues && no_message x.cells) (sym p.told ∙ e)).1

      go : Settled c x f du ⊎ ⊥ → (dv : ℕ) × (get_or x.depths (edge c.graph f).to none ≡ some dv) × (du + edge_depth c.graph f ≤ dv)
      go (inl (later w)) = clash (waiting c x (edge c.graph f).from) w (unfold waiting member in (rw (no_queue x.queues all.0 (owner c (edge c.graph f).from)) refl))
      go (inl (done dv p q)) = (dv, p, q)
      go (inl (there o p q)) = some_not_none (get_or x.cells f none) o p (no_cell x.cells all.1 f)
      go (inr z) = absurd z
