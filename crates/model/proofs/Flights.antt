-- The walks of the product are the flights of the chart that the claim goes along with.
use mathlib.Core.Path.{◌≡◌, refl, sym, ap, subst}
use mathlib.Core.Bool.{true}
use mathlib.Core.List.{List, [], ◌∷◌}
use Prim.Native.Nat.{ℕ, ◌/◌, ◌%◌, ◌<◌}
use lib.Dec.{ltb, eqb}
use lib.ListN.{length}
use borrow.Author.Tests.{ltb-true, eqb-true, eq-eqb}
use Rattle.text.proofs.Tests.{and_both, both_true}
use Rattle.model.specs.Graph.{Edge, edge, is_walk}
use Rattle.model.specs.Chart.{Chart, next_mode}
use Rattle.model.specs.Claim.{Claim, claim_moves}
use Rattle.model.specs.Product.{product, chart_automaton, claim_automaton, has_edge, graph_of, product_graph}
use Rattle.model.specs.ProductPromise.{Step, Together, walk_through, all_under, WalksTogether, TogetherWalks}
use Rattle.model.proofs.Walks.{steps, walk_cons}
use Rattle.model.proofs.Rising.{in_at, at_in}
use Rattle.model.proofs.Automata.{edge_by, by_edge, edge_listed}
use Rattle.model.proofs.Products.{both, move_edge}

module _ (h : Chart) (k : Claim) where
  move_step : (v w : ℕ) → has_edge (both h k) v w ≡ true → (f : ℕ) × Step h k f v w
  unfolding product chart_automaton claim_automaton
  move_step v w e =
      let n = length k.states in
      let (f, l, m) = by_edge (both h k) v w e in
      let p = and_both (eqb (next_mode h (v / n) f) (w / n)) (claim_moves k f (v % n) (w % n)) m in
      (f, record { below = l; mode = eqb-true (next_mode h (v / n) f) (w / n) p.0; claim = p.1 })

  step_move : (f v w : ℕ) → Step h k f v w → has_edge (both h k) v w ≡ true
  unfolding product chart_automaton claim_automaton
  step_move f v w s =
      let n = length k.states in
      edge_by (both h k) v w f s.below (both_true (eqb (next_mode h (v / n) f) (w / n)) (claim_moves k f (v % n) (w % n)) (eq-eqb _ _ s.mode) s.claim)

  -- the number of a move's edge
  move_number : (v w : ℕ) → v < (product_graph h k).vertices → w < (product_graph h k).vertices → has_edge (both h k) v w ≡ true
      → (e : ℕ) × (e < length (product_graph h k).edges) × (edge (product_graph h k) e ≡ record { from = v; to = w })
  unfolding edge graph_of
  move_number v w a b m = at_in (product_graph h k).edges (record { from = v; to = w }) (edge_listed (both h k) (record { from = v; to = w }) (record { from = a; to = b; moves = m }))

  edge_moves : (e : ℕ) → e < length (product_graph h k).edges → has_edge (both h k) (edge (product_graph h k) e).from (edge (product_graph h k) e).to ≡ true
  unfolding edge
  edge_moves e l = (move_edge h k _ (in_at (product_graph h k).edges e l)).moves

pub walks_together : WalksTogether
unfolding WalksTogether walk_through
walks_together h k v [] w = ([], tt)
walks_together h k v (e ∷ es) w = go (steps (product_graph h k) v e es w).from (move_step h k (edge (product_graph h k) e).from (edge (product_graph h k) e).to (edge_moves h k e (steps (product_graph h k) v e es w).below))
    (walks_together h k (edge (product_graph h k) e).to es (steps (product_graph h k) v e es w).rest)
  where
    go : (edge (product_graph h k) e).from ≡ v → (f : ℕ) × Step h k f (edge (product_graph h k) e).from (edge (product_graph h k) e).to
        → (fs : List ℕ) × Together h k (edge (product_graph h k) e).to fs (walk_through (product_graph h k) es)
        → (fs : List ℕ) × Together h k v fs ((edge (product_graph h k) e).to ∷ walk_through (product_graph h k) es)
    go q (f, s) (fs, t) = (f ∷ fs, (subst (λ (x : ℕ). Step h k f x (edge (product_graph h k) e).to) q s, t))

pub together_walks : TogetherWalks
unfolding TogetherWalks all_under walk_through is_walk
together_walks h k v [] [] u t = ([], refl, refl)
together_walks h k v [] (w ∷ ws) u t = absurd t
together_walks h k v (f ∷ fs) [] u t = absurd t
together_walks h k v (f ∷ fs) (w ∷ ws) u t =
    let g = product_graph h k in
    let a = and_both (ltb v g.vertices) (all_under g.vertices (w ∷ ws)) u in
    let b = and_both (ltb w g.vertices) (all_under g.vertices ws) a.1 in
    let (e, l, q) = move_number h k v w (ltb-true v g.vertices a.0) (ltb-true w g.vertices b.0) (step_move h k f v w t.0) in
    let (es, i, p) = together_walks h k w fs ws a.1 t.1 in
    let j : is_walk g (edge g e).to es ≡ true = subst (λ (d : Edge). is_walk g d.to es ≡ true) (sym q) i in
    (e ∷ es, subst (λ (d : Edge). is_walk g d.from (e ∷ es) ≡ true) q (walk_cons g e es l j), cc (ap (λ (d : Edge). d.to) q, p))
