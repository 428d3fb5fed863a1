-- Walked: each distance, and each offer that waits, is the length of a real walk.
use mathlib.Core.Path.{◌≡◌, refl, sym, subst, ◌∙◌}
use mathlib.Core.Bool.{Bool, true, false, cond}
use mathlib.Core.List.{List, [], ◌∷◌}
use mathlib.Core.Option.{Option, none, some}
use Prim.Native.Nat.{ℕ, ◌+◌, ◌≤◌, ◌<◌}
use native.Mathlib.Omega.{arith}
use lib.Dec.{ltb}
use borrow.Author.Tests.{ltb-true, ltb-false}
use lib.ListN.{length, get_or, set}
use lib.Seq.{get_or-set_same, get_or-set_other}
use Rattle.model.specs.Graph.{edge, edge_depth, is_walk, walk_end, walk_depth}
use Rattle.model.specs.Case.{Case, owner, Sound}
use Rattle.model.specs.Run.{Tallies, State, is_some, fresh, with_queues, with_cells, takes, taken, relax, lower, send, scan, counted, by_list}
use Rattle.text.proofs.Tests.{Same, same?, clash, same, other}
use Rattle.model.proofs.Tools.{some_not_none, is_some_of, getD_replicate_same, set_some, some_inj, some_after}
use Rattle.model.proofs.Walks.{Walk, walk_on}
use Rattle.model.proofs.Steps.{relax_cases, scan_keeps, Acts, acted_keeps}
use Rattle.model.proofs.Shapes.{Shape, not_broken, shape_relax, shape_cell, shape_queue, shape_counted, cell_in, head_depth, fresh_depth, fresh_source, fresh_shape, file_in, sent_in}
use Rattle.model.proofs.Few.{relax_cells}

pub lower_cases : (P : ℕ → Type 0) (o : Option ℕ) (d : ℕ) → P d → ((k : ℕ) → o ≡ some k → P k) → P (lower o d)
unfolding lower
lower_cases P none d p f = p
lower_cases P (some k) d p f = go (ltb k d)
  where
    go : (b : Bool) → P (cond b d k)
    go true = p
    go false = f k refl

pub lower_offer : (o : Option ℕ) (d : ℕ) → d ≤ lower o d
unfolding lower
lower_offer none d = omega arith
lower_offer (some k) d = go (ltb k d) refl
  where
    go : (b : Bool) → ltb k d ≡ b → d ≤ cond b d k
    go true h = omega arith
    go false h = omega (arith, ltb-false)

pub lower_old : (o : Option ℕ) (d k : ℕ) → o ≡ some k → k ≤ lower o d
unfolding lower
lower_old none d k e = some_not_none none k e refl
lower_old (some j) d k e = go (ltb j d) refl (some_inj j k e)
  where
    go : (b : Bool) → ltb j d ≡ b → j ≡ k → k ≤ cond b d j
    go true h q = omega (arith, ltb-true)
    go false h q = omega arith

pub takes_not : (o : Option ℕ) (d : ℕ) → takes o d ≡ false → (k : ℕ) × (o ≡ some k) × (d ≤ k)
unfolding takes
takes_not none d e = clash true refl e
takes_not (some k) d e = (k, refl, omega (arith, ltb-false))

pub takes_less : (o : Option ℕ) (d k : ℕ) → takes o d ≡ true → o ≡ some k → k < d
unfolding takes
takes_less none d k e q = some_not_none none k q refl
takes_less (some j) d k e q = let z : j ≡ k = cc in omega (arith, ltb-true)

-- what a taken offer changes
module _ (c : Case) (ok : Sound c) (e d : ℕ) (x : State) (l : e < length c.graph.edges) (s : Shape c x) where
  to_in : (edge c.graph e).to < length x.depths
  to_in = rw s.depths (ok.to e l)

  pub to_owned : owner c (edge c.graph e).to < length x.queues
  to_owned = rw s.queues (ok.owner (edge c.graph e).to (ok.to e l))

  pub taken_at : get_or (taken c e d x).depths (edge c.graph e).to none ≡ some d
  taken_at = get_or-set_same x.depths (edge c.graph e).to (some d) none to_in

  pub taken_other : (u : ℕ) → (u ≡ (edge c.graph e).to → ⊥) → get_or (taken c e d x).depths u none ≡ get_or x.depths u none
  taken_other u n = get_or-set_other x.depths (edge c.graph e).to u (some d) none n

  pub taken_deeper : (u k : ℕ) → takes (get_or x.depths (edge c.graph e).to none) d ≡ true → get_or x.depths u none ≡ some k → (j : ℕ) × (get_or (taken c e d x).depths u none ≡ some j) × (k ≤ j)
  taken_deeper u k t h = go (same? u (edge c.graph e).to)
    where
      go : Same u (edge c.graph e).to → (j : ℕ) × (get_or (taken c e d x).depths u none ≡ some j) × (k ≤ j)
      go (same q) = (d, rw q taken_at, omega (arith, takes_less (get_or x.depths (edge c.graph e).to none) d k t (rw q at h)))
      go (other n) = (k, taken_other u n ∙ h, omega arith)

pub record Walked (c : Case) (x : State) : Type 0 where
  pub shape : Shape c x
  pub depths : (v d : ℕ) → get_or x.depths v none ≡ some d → Walk c.graph v d
  pub cells : (e d : ℕ) → get_or x.cells e none ≡ some d → Walk c.graph (edge c.graph e).to d
  pub source : is_some (get_or x.depths c.graph.source none) ≡ true

module _ (c : Case) (ok : Sound c) where
  pub walked_relax : (e d : ℕ) (x : State) → x.broken ≡ none → e < length c.graph.edges → Walk c.graph (edge c.graph e).to d → Walked c x → Walked c (relax c e d x)
  walked_relax e d x b l w s =
      record {
        shape = shape_relax c ok e d x b l s.shape;
        depths = relax_cases (λ y. (v k : ℕ) → get_or y.depths v none ≡ some k → Walk c.graph v k) c e d x (λ _. s.depths) (λ _. deep);
        cells = λ f k h. s.cells f k (subst (λ (z : List (Option ℕ)). get_or z f none ≡ some k) (relax_cells c e d x) h);
        source = relax_cases (λ y. is_some (get_or y.depths c.graph.source none) ≡ true) c e d x (λ _. s.source) (λ _. some_after x.depths (edge c.graph e).to c.graph.source d s.source);
      }
    where
      deep : (v k : ℕ) → get_or (taken c e d x).depths v none ≡ some k → Walk c.graph v k
      deep v k i = set_some x.depths (edge c.graph e).to v (some d) k (to_in c ok e d x l s.shape) i
          (λ p q. subst (λ (z : ℕ). Walk c.graph z k) (sym p) (subst (λ (z : ℕ). Walk c.graph (edge c.graph e).to z) (some_inj d k q) w)) (λ _ q. s.depths v k q)

  pub walked_cell : (e : ℕ) (o : Option ℕ) {t : Tallies} (x : State) → e < c.file_edges → ((d : ℕ) → o ≡ some d → Walk c.graph (edge c.graph e).to d) → Walked c x → Walked c (with_cells (set x.cells e o) t x)
  walked_cell e o x l w s = record {
    shape = shape_cell c ok e o x s.shape;
    depths = s.depths;
    cells = λ f d h. set_some x.cells e f o d (rw s.shape.cells l) h (λ p q. rw p (w d q)) (λ _ q. s.cells f d q);
    source = s.source;
  }

  walked_send : (e d : ℕ) (x : State) → e < c.file_edges → Walk c.graph (edge c.graph e).to d → Walked c x → Walked c (send e d x)
  walked_send e d x l w s = walked_cell e _ x l (λ k q. subst (λ (z : ℕ). Walk c.graph (edge c.graph e).to z) (some_inj _ k q)
      (lower_cases (λ z. Walk c.graph (edge c.graph e).to z) (get_or x.cells e none) d w (λ j h. s.cells e j h))) s

  pub walked_queue : (w v : ℕ) (q : List ℕ) (x : State) → w < c.workers → get_or x.queues w [] ≡ v ∷ q → Walked c x → Walked c (with_queues (set x.queues w q) x)
  walked_queue w v q x l e s = record { shape = shape_queue c ok w v q x l e s.shape; depths = s.depths; cells = s.cells; source = s.source }

  pub walked_counted : (x : State) → Walked c x → Walked c (counted x)
  walked_counted x s = record { shape = shape_counted c ok x s.shape; depths = s.depths; cells = s.cells; source = s.source }

  pub walked_scan : (v d : ℕ) (x : State) → Walk c.graph v d → Walked c x → Walked c (scan c v d x)
  walked_scan v d x w s = scan_keeps c v d (λ _ y. Walked c y) (record {
    halt = λ _ _ _ _ p. p;
    pass = λ _ _ _ p. p;
    own = λ e y b l i p. walked_relax e (d + edge_depth c.graph e) y b l (walk_on c.graph v d e w l i) p;
    other = λ e y b l i n p. walked_send e (d + edge_depth c.graph e) y (sent_in c ok v e l i n) (walk_on c.graph v d e w l i) p;
  }) x s

  pub walked_acts : Acts c (Walked c)
  walked_acts = record {
    turn = λ w v q x o l e s. walked_counted _ (walked_scan v _ _ (s.depths v _ (head_depth c ok w v q x s.shape e)) (walked_queue w v q x l e s));
    delivery = λ e d x o h s.
        let l = cell_in c ok x e d s.shape h in
        walked_counted _ (walked_relax e d _ (not_broken x o) (file_in c ok e l) (s.cells e d h) (walked_cell e none x l (λ k q. some_not_none none k q refl) s));
  }

  pub walked_fresh : Walked c (fresh c)
  walked_fresh = record {
    shape = fresh_shape c ok;
    depths = λ v d e. fresh_depth c ok v d e (λ p q. record { edges = []; reaches = record { walks = unfold is_walk in refl; arrives = unfold walk_end in (sym p) }; depth = unfold walk_depth in (sym q) });
    cells = λ e d h. some_not_none _ d h (unfold fresh in (getD_replicate_same c.file_edges e none));
    source = is_some_of _ 0 (fresh_source c ok);
  }

  pub walked : (xs : List ℕ) → Walked c (by_list c xs)
  unfolding by_list
  walked xs = acted_keeps c (Walked c) walked_acts xs (fresh c) walked_fresh
