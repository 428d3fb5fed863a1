-- The shape of a run, kept by every act: lengths, what stands in a queue, and no distance below the floor before it
-- is broken.
use mathlib.Core.Path.{◌≡◌, refl, sym, ap, subst, ◌∙◌}
use mathlib.Core.Bool.{Bool, true, false, cond}
use mathlib.Core.List.{List, [], ◌∷◌, ◌++◌}
use mathlib.Core.Option.{Option, none, some}
use Prim.Native.Nat.{ℕ, ◌≤◌, ◌<◌}
use native.Mathlib.Omega.{arith}
use lib.Dec.{ltb}
use borrow.Author.Tests.{ltb-true, ltb-false}
use lib.ListN.{length, get_or, set, replicate, length-set, length-replicate, get_or-eq_default}
use lib.Seq.{get_or-set_same, get_or-set_other}
use Rattle.model.specs.Graph.{edge, accepting_count}
use Rattle.model.specs.Case.{Case, owner, Sound}
use Rattle.model.specs.Run.{Tallies, State, is_some, ended_lasso, has_ended, fresh, with_queues, with_cells, member, enqueue, below_floor, relax, counted, depth_or}
use Rattle.text.proofs.Tests.{Test, test, Same, same?, or_false, clash, holds, fails, same, other}
use Rattle.model.proofs.Tools.{Once, once_snoc, some_not_none, none_of, once_tail, member_later, member_first, getD_replicate_same, set_some, some_inj, snoc_in, some_after}
use Rattle.model.proofs.Steps.{relax_cases}

pub record Shape (c : Case) (x : State) : Type 0 where
  pub depths : length x.depths ≡ c.graph.vertices
  pub parents : length x.parents ≡ c.graph.vertices
  pub queues : length x.queues ≡ c.workers
  pub cells : length x.cells ≡ c.file_edges
  pub below : (v w : ℕ) → member v (get_or x.queues w []) ≡ true → v < c.graph.vertices
  pub owned : (v w : ℕ) → member v (get_or x.queues w []) ≡ true → owner c v ≡ w
  pub deep : (v w : ℕ) → member v (get_or x.queues w []) ≡ true → is_some (get_or x.depths v none) ≡ true
  pub once : (w : ℕ) → Once (get_or x.queues w [])
  pub above : x.broken ≡ none → (v d : ℕ) → get_or x.depths v none ≡ some d → d ≤ accepting_count c.graph

-- a queue after v may have joined o's
pub enqueue_cases : (o v : ℕ) (qs : List (List ℕ)) (w : ℕ) (P : List ℕ → Type 0) → o < length qs →
    ((w ≡ o → member v (get_or qs w []) ≡ true) → P (get_or qs w [])) →
    (w ≡ o → member v (get_or qs w []) ≡ false → P (get_or qs w [] ++ (v ∷ []))) → P (get_or (enqueue o v qs) w [])
unfolding enqueue
enqueue_cases o v qs w P l f g = go (member v (get_or qs o [])) refl
  where
    put : member v (get_or qs o []) ≡ false → Same w o → P (get_or (set qs o (get_or qs o [] ++ (v ∷ []))) w [])
    put e (same q) = subst (λ (i : ℕ). P (get_or (set qs o (get_or qs o [] ++ (v ∷ []))) i [])) (sym q)
        (rw (get_or-set_same qs o (get_or qs o [] ++ (v ∷ [])) [] l) (subst (λ (i : ℕ). P (get_or qs i [] ++ (v ∷ []))) q (g q (rw q e))))
    put e (other n) = rw (get_or-set_other qs o w (get_or qs o [] ++ (v ∷ [])) [] n) (f (λ q. absurd (n q)))

    go : (b : Bool) → member v (get_or qs o []) ≡ b → P (get_or (cond b qs (set qs o (get_or qs o [] ++ (v ∷ [])))) w [])
    go true e = f (λ q. rw q e)
    go false e = put e (same? w o)

length_enqueue : (o v : ℕ) (qs : List (List ℕ)) → length (enqueue o v qs) ≡ length qs
unfolding enqueue
length_enqueue o v qs = go (member v (get_or qs o []))
  where
    go : (b : Bool) → length (cond b qs (set qs o (get_or qs o [] ++ (v ∷ [])))) ≡ length qs
    go true = refl
    go false = simp length-set

some_at : (l : List (Option ℕ)) (v u d : ℕ) → v < length l → u ≡ v → is_some (get_or (set l v (some d)) u none) ≡ true
unfolding is_some
some_at l v u d h q = rw (q, get_or-set_same l v (some d) none h) refl

above_kept : (a : ℕ) (ds : List (Option ℕ)) (v d : ℕ) → ((v d : ℕ) → get_or ds v none ≡ some d → d ≤ a) → below_floor a v d ≡ none → v < length ds →
    (u k : ℕ) → get_or (set ds v (some d)) u none ≡ some k → k ≤ a
unfolding below_floor
above_kept a ds v d f g l u k e = go (ltb a d) refl g
  where
    go : (t : Bool) → ltb a d ≡ t → cond t (some v) none ≡ none → k ≤ a
    go true r g = some_not_none (some v) v refl g
    go false r g = set_some ds v u (some d) k l e (λ _ q. let y : d ≡ k = some_inj d k q in omega (arith, ltb-false)) (λ _ q. f u k q)

pub not_broken : (x : State) → has_ended x ≡ false → x.broken ≡ none
unfolding has_ended ended_lasso
not_broken x o = none_of x.broken (or_false (is_some x.broken) x.ended_empty o).0

module _ (c : Case) (ok : Sound c) where
  pub shape_relax : (e d : ℕ) (x : State) → x.broken ≡ none → e < length c.graph.edges → Shape c x → Shape c (relax c e d x)
  shape_relax e d x b l s = relax_cases (λ y. Shape c y) c e d x (λ _. s) (λ t.
      let v = (edge c.graph e).to in
      let h : v < c.graph.vertices = ok.to e l in
      let o : owner c v < length x.queues = rw s.queues (ok.owner v h) in
      record {
        depths = simp length-set s.depths;
        parents = simp length-set s.parents;
        queues = length_enqueue (owner c v) v x.queues ∙ s.queues;
        cells = s.cells;
        below = λ u w. enqueue_cases (owner c v) v x.queues w (λ q. member u q ≡ true → u < c.graph.vertices) o (λ _. s.below u w) (λ i n m. snoc_in u v _ m (s.below u w) (λ q. rw q h));
        owned = λ u w. enqueue_cases (owner c v) v x.queues w (λ q. member u q ≡ true → owner c u ≡ w) o (λ _. s.owned u w) (λ i n m. snoc_in u v _ m (s.owned u w) (λ q. rw q (sym i)));
        deep = λ u w. enqueue_cases (owner c v) v x.queues w (λ q. member u q ≡ true → is_some (get_or (set x.depths v (some d)) u none) ≡ true) o (λ _ m. some_after x.depths v u d (s.deep u w m))
            (λ i n m. snoc_in u v _ m (λ m. some_after x.depths v u d (s.deep u w m)) (λ q. some_at x.depths v u d (rw s.depths h) q));
        once = λ w. enqueue_cases (owner c v) v x.queues w Once o (λ _. s.once w) (λ i n. once_snoc v _ (s.once w) n);
        above = λ g. above_kept (accepting_count c.graph) x.depths v d (s.above b) g (rw s.depths h);
      })

  pub shape_cell : (e : ℕ) (o : Option ℕ) {t : Tallies} (x : State) → Shape c x → Shape c (with_cells (set x.cells e o) t x)
  shape_cell e o x s = record {
    depths = s.depths;
    parents = s.parents;
    queues = s.queues;
    cells = simp length-set s.cells;
    below = s.below;
    owned = s.owned;
    deep = s.deep;
    once = s.once;
    above = s.above;
  }

  pub shape_queue : (w v : ℕ) (q : List ℕ) (x : State) → w < c.workers → get_or x.queues w [] ≡ v ∷ q → Shape c x → Shape c (with_queues (set x.queues w q) x)
  shape_queue w v q x l e s = record {
    depths = s.depths;
    parents = s.parents;
    queues = simp length-set s.queues;
    cells = s.cells;
    below = λ u i m. s.below u i (still u i (same? i w) m);
    owned = λ u i m. s.owned u i (still u i (same? i w) m);
    deep = λ u i m. s.deep u i (still u i (same? i w) m);
    once = λ i. once (same? i w);
    above = s.above;
  }
    where
      in_range : w < length x.queues
      in_range = rw s.queues l

      still : (u i : ℕ) → Same i w → member u (get_or (set x.queues w q) i []) ≡ true → member u (get_or x.queues i []) ≡ true
      still u i (same p) m = rw (p, e) (member_later u v q (rw (p, get_or-set_same x.queues w q [] in_range) at m))
      still u i (other n) m = rw (get_or-set_other x.queues w i q [] n) at m

      once : {i : ℕ} → Same i w → Once (get_or (set x.queues w q) i [])
      once {i} (same p) = rw (p, get_or-set_same x.queues w q [] in_range) (once_tail v q (rw e at (s.once w)))
      once {i} (other n) = rw (get_or-set_other x.queues w i q [] n) (s.once i)

  pub shape_counted : (x : State) → Shape c x → Shape c (counted x)
  shape_counted x s = record {
    depths = s.depths;
    parents = s.parents;
    queues = s.queues;
    cells = s.cells;
    below = s.below;
    owned = s.owned;
    deep = s.deep;
    once = s.once;
    above = s.above;
  }

  -- a message stands on a file edge, and so does one that is sent: a loop stays with one owner
  pub cell_in : (x : State) (e d : ℕ) → Shape c x → get_or x.cells e none ≡ some d → e < c.file_edges
  cell_in x e d s h = go (test (ltb e (length x.cells)))
    where
      go : Test (ltb e (length x.cells)) → e < c.file_edges
      go (holds t) = rw s.cells at (ltb-true e (length x.cells) t)
      go (fails t) = some_not_none (get_or x.cells e none) d h (get_or-eq_default x.cells none (omega (arith, ltb-false)))

  pub file_in : (e : ℕ) → e < c.file_edges → e < length c.graph.edges
  file_in e l = omega (arith, ok.file)

  pub sent_in : (v e : ℕ) → e < length c.graph.edges → (edge c.graph e).from ≡ v → (owner c (edge c.graph e).to ≡ owner c v → ⊥) → e < c.file_edges
  sent_in v e l i n = go (test (ltb e c.file_edges))
    where
      go : Test (ltb e c.file_edges) → e < c.file_edges
      go (holds t) = ltb-true e c.file_edges t
      go (fails t) = absurd (n (ap (owner c) (ok.loops e (ltb-false e c.file_edges t) l ∙ i)))

  -- the depth that a scan reads
  pub head_depth : (w v : ℕ) (q : List ℕ) (x : State) → Shape c x → get_or x.queues w [] ≡ v ∷ q → get_or x.depths v none ≡ some (depth_or (get_or x.depths v none))
  head_depth w v q x s e = go (get_or x.depths v none) (s.deep v w (rw e (member_first v q)))
    where
      go : (o : Option ℕ) → is_some o ≡ true → o ≡ some (depth_or o)
      go none h = clash false (unfold is_some in h) refl
      go (some d) h = unfold depth_or in refl

-- A FRESH RUN
abbrev no_queue_yet : List ℕ
no_queue_yet = []

module _ (c : Case) (ok : Sound c) where
  fresh_queues : (w : ℕ) (P : List ℕ → Type 0) → P [] → (w ≡ owner c c.graph.source → P (c.graph.source ∷ [])) → P (get_or (fresh c).queues w [])
  unfolding fresh
  fresh_queues w P f g = go (same? w (owner c c.graph.source))
    where
      base : List (List ℕ)
      base = replicate c.workers []

      o : owner c c.graph.source < length base
      o = simp length-replicate (ok.owner c.graph.source ok.source)

      go : Same w (owner c c.graph.source) → P (get_or (set base (owner c c.graph.source) (c.graph.source ∷ [])) w [])
      go (same q) = rw (q, get_or-set_same base (owner c c.graph.source) (c.graph.source ∷ []) [] o) (g q)
      go (other n) = rw (get_or-set_other base (owner c c.graph.source) w (c.graph.source ∷ []) [] n, getD_replicate_same c.workers w no_queue_yet) f

  fresh_queue : {X : Type 0} (w v : ℕ) → member v (get_or (fresh c).queues w []) ≡ true → (w ≡ owner c c.graph.source → v ≡ c.graph.source → X) → X
  unfolding member
  fresh_queue {X} w v m f = fresh_queues w (λ q. member v q ≡ true → X) (λ m. clash _ m refl) (λ q m. snoc_in v c.graph.source [] m (λ z. clash _ z refl) (λ p. f q p)) m

  pub fresh_depth : {X : Type 0} (v d : ℕ) → get_or (fresh c).depths v none ≡ some d → (v ≡ c.graph.source → d ≡ 0 → X) → X
  unfolding fresh
  fresh_depth {X} v d e f = set_some (replicate c.graph.vertices none) c.graph.source v (some 0) d (simp length-replicate ok.source) e
      (λ p q. f p (sym (some_inj 0 d q))) (λ _ q. some_not_none _ d q (getD_replicate_same c.graph.vertices v none))

  pub fresh_source : get_or (fresh c).depths c.graph.source none ≡ some 0
  unfolding fresh
  fresh_source = get_or-set_same (replicate c.graph.vertices none) c.graph.source (some 0) none (simp length-replicate ok.source)

  pub fresh_shape : Shape c (fresh c)
  unfolding fresh
  fresh_shape = record {
    depths = simp (length-set, length-replicate);
    parents = simp length-replicate;
    queues = simp (length-set, length-replicate);
    cells = simp length-replicate;
    below = λ v w m. fresh_queue w v m (λ _ q. rw q ok.source);
    owned = λ v w m. fresh_queue w v m (λ p q. rw (p, q) refl);
    deep = λ v w m. fresh_queue w v m (λ _ q. rw (q, fresh_source) (unfold is_some in refl));
    once = λ w. fresh_queues w Once (unfold Once in tt) (λ _. unfold Once member in (refl, tt));
    above = λ _ v d e. fresh_depth v d e (λ _ q. rw q (omega arith));
  }

  pub source_queued : get_or (fresh c).queues (owner c c.graph.source) [] ≡ c.graph.source ∷ []
  unfolding fresh
  source_queued = get_or-set_same (replicate c.workers no_queue_yet) (owner c c.graph.source) (c.graph.source ∷ []) [] (simp length-replicate (ok.owner c.graph.source ok.source))
