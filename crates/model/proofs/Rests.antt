-- Rest loops: what they are, that a case stays sound with them, and which lassos come with them.
-- Assumes nothing.
use mathlib.Core.Path.{◌≡◌, refl, sym, ap, subst, ◌∙◌}
use mathlib.Core.Bool.{Bool, true, false, ◌||◌, or_assoc}
use mathlib.Core.List.{List, [], ◌∷◌, ◌++◌}
use mathlib.Core.Logic.{◌⊎◌, inl, inr, ⊎_elim}
use Prim.Native.Nat.{ℕ, zero, suc, ◌+◌, ◌-◌, ◌≤◌, ◌<◌}
use native.Mathlib.Omega.{arith}
use lib.Dec.{ltb, leb, eqb}
use lib.ListN.{length, get_or, length-append, get_or-append}
use lib.Seq.{get_or-append-add}
use borrow.Author.Tests.{ltb-true, ltb-false, eqb-true, eq-eqb, ne_eqb}
use Rattle.text.proofs.Tests.{test, holds, fails, same?, same, other, or_left, or_right, or_cases, clash}
use Rattle.model.specs.Graph.{Edge, Graph, edge, mark, leaves, loop, loops_from, rested, is_walk, walk_end, walk_depth, edge_depth, leaves_accepting, is_lasso, HasLasso}
use Rattle.model.specs.Case.{owner, resting}
use Rattle.model.specs.Promise.{IsRestLoop, LoopsOnly, RestLoops, RestingSound, DeadEnd, RestLasso}
use Rattle.model.proofs.Walks.{steps, walk_cons, lasso_parts, lasso_whole, leaves_down, down_leaves}

-- WHETHER AN EDGE LEAVES v, by the edge's number
pub leaves_at : (es : List Edge) (e v : ℕ) → e < length es → (get_or es e (record { from = 0; to = 0 })).from ≡ v → leaves es v ≡ true
unfolding leaves
leaves_at [] e v h q = absurd (omega arith)
leaves_at (d ∷ es) zero v h q = or_left (eqb d.from v) (leaves es v) (eq-eqb d.from v q)
leaves_at (d ∷ es) (suc e) v h q = or_right (eqb d.from v) (leaves es v) (leaves_at es e v (omega arith) q)

pub leaves_where : (es : List Edge) (v : ℕ) → leaves es v ≡ true → (e : ℕ) × (e < length es) × ((get_or es e (record { from = 0; to = 0 })).from ≡ v)
unfolding leaves
leaves_where [] v h = clash false h refl
leaves_where (d ∷ es) v h =
    ⊎_elim (λ q. (0, omega arith, eqb-true d.from v q)) (λ q. let (e, l, f) = leaves_where es v q in (suc e, omega arith, f))
    (or_cases (eqb d.from v) (leaves es v) h)

pub leaves_none : (es : List Edge) (v : ℕ) → ((e : ℕ) → e < length es → (get_or es e (record { from = 0; to = 0 })).from ≡ v → ⊥) → leaves es v ≡ false
leaves_none es v h = elim (test (leaves es v)) [ holds q ↦ (let (e, l, f) = leaves_where es v q in absurd (h e l f)) | fails q ↦ q ]

leaves_append : (ds es : List Edge) (v : ℕ) → leaves (ds ++ es) v ≡ (leaves ds v || leaves es v)
unfolding leaves
leaves_append [] es v = refl
leaves_append (d ∷ ds) es v = ap (λ (b : Bool). eqb d.from v || b) (leaves_append ds es v) ∙ sym (or_assoc (eqb d.from v) (leaves ds v) (leaves es v))

-- THE LOOPS of k vertices from v on, one vertex at a time
pub rests_skip : (k v : ℕ) (es : List Edge) → leaves es v ≡ true → loops_from (suc k) v es ≡ loops_from k (suc v) es
unfolding loops_from
rests_skip k v es h = rw h refl

pub rests_take : (k v : ℕ) (es : List Edge) → leaves es v ≡ false → loops_from (suc k) v es ≡ loop v ∷ loops_from k (suc v) es
unfolding loops_from
rests_take k v es h = rw h refl

record LoopIn (k v : ℕ) (es : List Edge) (d : Edge) : Type 0 where
  pub loop : d.to ≡ d.from
  pub above : v ≤ d.from
  pub below : d.from < v + k
  pub rests : leaves es d.from ≡ false

record LoopsIn (k v : ℕ) (es ls : List Edge) : Type 0 where
  pub each : (i : ℕ) → i < length ls → LoopIn k v es (get_or ls i (record { from = 0; to = 0 }))
  pub rising : (i j : ℕ) → i < j → j < length ls → (get_or ls i (record { from = 0; to = 0 })).from < (get_or ls j (record { from = 0; to = 0 })).from
  pub every : (u : ℕ) → v ≤ u → u < v + k → (leaves es u || leaves ls u) ≡ true
  pub few : length ls ≤ k

later : (k v : ℕ) (es : List Edge) (d : Edge) → LoopIn k (suc v) es d → LoopIn (suc k) v es d
later k v es d l = record { loop = l.loop; above = omega (arith, l.above); below = omega (arith, l.below); rests = l.rests }

skipped : (k v : ℕ) (es ls : List Edge) → leaves es v ≡ true → LoopsIn k (suc v) es ls → LoopsIn (suc k) v es ls
skipped k v es ls h r = record {
  each = λ i p. later k v es _ (r.each i p);
  rising = r.rising;
  every = λ u a b. elim (same? u v) [ same q ↦ or_left (leaves es u) (leaves ls u) (ap (leaves es) q ∙ h) | other n ↦ r.every u (omega (arith, n)) (omega arith) ];
  few = omega (arith, r.few);
}

taken : (k v : ℕ) (es ls : List Edge) → leaves es v ≡ false → LoopsIn k (suc v) es ls → LoopsIn (suc k) v es (loop v ∷ ls)
unfolding leaves
taken k v es ls h r = record {
  each = elim [ zero ↦ (λ p. record { loop = refl; above = omega arith; below = omega arith; rests = h }) | suc i ↦ (λ p. later k v es _ (r.each i (omega arith))) ];
  rising = rising;
  every = λ u a b. elim (same? v u) [
    | same q ↦ or_right (leaves es u) (eqb v u || leaves ls u) (or_left (eqb v u) (leaves ls u) (eq-eqb v u q))
    | other n ↦ rw (ne_eqb v u n) (r.every u (omega (arith, n)) (omega arith))
  ];
  few = omega (arith, r.few);
}
  where
    rising : (i j : ℕ) → i < j → j < length (loop v ∷ ls) → (get_or (loop v ∷ ls) i (record { from = 0; to = 0 })).from < (get_or (loop v ∷ ls) j (record { from = 0; to = 0 })).from
    rising i zero p q = absurd (omega arith)
    rising zero (suc j) p q = (r.each j (omega arith)).above
    rising (suc i) (suc j) p q = r.rising i j (omega arith) (omega arith)

loops_in : (k v : ℕ) (es : List Edge) → LoopsIn k v es (loops_from k v es)
unfolding loops_from
loops_in zero v es = record { each = λ i p. absurd (omega arith); rising = λ i j p q. absurd (omega arith); every = λ u a b. absurd (omega arith); few = omega arith }
loops_in (suc k) v es =
    let r = loops_in k (suc v) es in
    elim (test (leaves es v)) [ holds h ↦ rw (rests_skip k v es h) (skipped k v es _ h r) | fails h ↦ rw (rests_take k v es h) (taken k v es _ h r) ]

module _ (g : Graph) where
  abbrev rests : List Edge
  rests = loops_from g.vertices 0 g.edges

  are : LoopsIn g.vertices 0 g.edges rests
  are = loops_in g.vertices 0 g.edges

  long : length (rested g).edges ≡ length g.edges + length rests
  unfolding rested
  long = length-append g.edges rests

  past : (e : ℕ) → length g.edges ≤ e → edge (rested g) e ≡ get_or rests (e - length g.edges) (record { from = 0; to = 0 })
  unfolding edge rested
  past e h =
      let q : e ≡ length g.edges + (e - length g.edges) = omega arith in
      ap (λ (i : ℕ). get_or (g.edges ++ rests) i (record { from = 0; to = 0 })) q ∙ get_or-append-add g.edges rests (e - length g.edges) (record { from = 0; to = 0 })

  rest_loop : (e : ℕ) → length g.edges ≤ e → e < length (rested g).edges → IsRestLoop g e
  rest_loop e a b =
      let l = are.each (e - length g.edges) (omega (arith, long)) in
      record { loop = rw (past e a) l.loop; below = rw (past e a) (omega (arith, l.below)); rests = rw (past e a) l.rests }

  pub loops_of : LoopsOnly g
  loops_of = record {
    kept = λ e l. unfold edge rested in (get_or-append g.edges rests (record { from = 0; to = 0 }) e l);
    loops = rest_loop;
    rising = λ d e a b l. rw (past d a, past e (omega arith)) (are.rising (d - length g.edges) (e - length g.edges) (omega arith) (omega (arith, long)));
    every = λ v l. unfold rested in (leaves_append g.edges rests v ∙ are.every v (omega arith) (omega arith));
    few = omega (arith, long, are.few);
  }

  -- an edge is one of the file's, or a loop; of a vertex that rests, its loop
  pub rested_edge : (P : Edge → Type 0) (e : ℕ) → e < length (rested g).edges → (e < length g.edges → P (edge g e)) → (IsRestLoop g e → P (edge (rested g) e)) → P (edge (rested g) e)
  rested_edge P e l a b = elim (test (ltb e (length g.edges))) [
    | holds h ↦ (let i = ltb-true e (length g.edges) h in subst P (sym (loops_of.kept e i)) (a i))
    | fails h ↦ b (rest_loop e (ltb-false e (length g.edges) h) l)
  ]

  pub at_rest : (v e : ℕ) → leaves g.edges v ≡ false → e < length (rested g).edges → (edge (rested g) e).from ≡ v → IsRestLoop g e
  unfolding edge
  at_rest v e h l = rested_edge (λ d. d.from ≡ v → IsRestLoop g e) e l (λ i q. clash (leaves g.edges v) (leaves_at g.edges e v i q) h) (λ r q. r)

pub loops_only : RestLoops
unfolding RestLoops
loops_only = loops_of

-- A SOUND CASE stays sound, and within the limits
pub resting_sound : RestingSound
unfolding RestingSound resting rested owner
resting_sound c ok =
    let g = c.graph in (
      record {
        source = ok.source;
        marks = ok.marks;
        owned = ok.owned;
        mark = ok.mark;
        owner = ok.owner;
        from = λ e l. rested_edge g (λ d. d.from < g.vertices) e l (ok.from e) (λ r. r.below);
        to = λ e l. rested_edge g (λ d. d.to < g.vertices) e l (ok.to e) (λ r. rw r.loop r.below);
        file = omega (arith, ok.file, long g);
        loops = λ e a l. rested_edge g (λ d. d.to ≡ d.from) e l (ok.loops e a) (λ r. r.loop);
      },
      (λ w q. record { vertices = w.vertices; file = w.file; edges = omega (arith, w.vertices, w.file, q, (loops_of g).few); workers = w.workers }),
    )

module _ (g : Graph) where
  -- A WALK of the graph is one with its loops too, to the same end and as far down
  pub walk_kept : (v : ℕ) (es : List ℕ) → is_walk g v es ≡ true → is_walk (rested g) v es ≡ true
  unfolding is_walk
  walk_kept v [] w = refl
  walk_kept v (e ∷ es) w =
      let s = steps g v e es w in
      let k = (loops_of g).kept e s.below in
      subst (λ (u : ℕ). is_walk (rested g) u (e ∷ es) ≡ true) (ap (λ (d : Edge). d.from) k ∙ s.from)
      (walk_cons (rested g) e es (omega (arith, long g, s.below)) (subst (λ (d : Edge). is_walk (rested g) d.to es ≡ true) (sym k) (walk_kept (edge g e).to es s.rest)))

  pub end_kept : (v : ℕ) (es : List ℕ) → is_walk g v es ≡ true → walk_end (rested g) v es ≡ walk_end g v es
  unfolding walk_end
  end_kept v [] w = refl
  end_kept v (e ∷ es) w =
      let s = steps g v e es w in
      ap (λ (d : Edge). walk_end (rested g) d.to es) ((loops_of g).kept e s.below) ∙ end_kept (edge g e).to es s.rest

  pub depth_kept : (v : ℕ) (es : List ℕ) → is_walk g v es ≡ true → walk_depth (rested g) es ≡ walk_depth g es
  unfolding walk_depth edge_depth rested
  depth_kept v [] w = refl
  depth_kept v (e ∷ es) w =
      let s = steps g v e es w in
      omega (arith, ap (λ (d : Edge). mark g d.from) ((loops_of g).kept e s.below), depth_kept (edge g e).to es s.rest)

  -- without its loops a walk leads where it led
  abbrev pub Way : (v u : ℕ) → Type 0
  Way v u = (es : List ℕ) × (is_walk g v es ≡ true) × (walk_end g v es ≡ u)

  pub walk_without : (v : ℕ) (es : List ℕ) → is_walk (rested g) v es ≡ true → Way v (walk_end (rested g) v es)
  unfolding is_walk walk_end
  walk_without v [] w = ([], refl, refl)
  walk_without v (e ∷ es) w =
      let s = steps (rested g) v e es w in
      let u = walk_end (rested g) (edge (rested g) e).to es in
      rested_edge g (λ d. d.from ≡ v → Way d.to u → Way v u) e s.below
      (λ l f (fs, a, b). (e ∷ fs, subst (λ (x : ℕ). is_walk g x (e ∷ fs) ≡ true) f (walk_cons g e fs l a), b))
      (λ r f i. subst (λ (x : ℕ). Way x u) (r.loop ∙ f) i)
      s.from (walk_without (edge (rested g) e).to es s.rest)

  -- after a loop there are only loops: a walk that ends at a vertex that does not rest has none
  rests_end : (v : ℕ) (es : List ℕ) → leaves g.edges v ≡ false → is_walk g v es ≡ true → walk_end (rested g) v es ≡ v
  unfolding walk_end edge
  rests_end v [] h w = refl
  rests_end v (e ∷ es) h w = let s = steps g v e es w in clash (leaves g.edges v) (leaves_at g.edges e v s.below s.from) h

  pub walk_back : (v : ℕ) (es : List ℕ) → is_walk (rested g) v es ≡ true → leaves g.edges (walk_end (rested g) v es) ≡ true → is_walk g v es ≡ true
  unfolding is_walk walk_end
  walk_back v [] w h = refl
  walk_back v (e ∷ es) w h =
      let s = steps (rested g) v e es w in
      let u = (edge (rested g) e).to in
      rested_edge g (λ d. d.from ≡ v → is_walk g d.to es ≡ true → is_walk g v (e ∷ es) ≡ true) e s.below
      (λ l f i. subst (λ (x : ℕ). is_walk g x (e ∷ es) ≡ true) f (walk_cons g e es l i))
      (λ r f i. let q : leaves g.edges u ≡ false = rw r.loop r.rests in clash _ h (ap (leaves g.edges) (rests_end u es q i) ∙ q))
      s.from (walk_back u es s.rest h)

  -- and a walk from a vertex that rests leaves no other
  rests_accepting : (v : ℕ) (es : List ℕ) → leaves g.edges v ≡ false → is_walk (rested g) v es ≡ true → leaves_accepting (rested g) es ≡ true → (v < g.vertices) × (leb 1 (mark g v) ≡ true)
  unfolding leaves_accepting rested
  rests_accepting v [] h w a = clash false a refl
  rests_accepting v (e ∷ es) h w a =
      let s = steps (rested g) v e es w in
      let r = at_rest g v e h s.below s.from in
      ⊎_elim (λ m. (subst (λ (u : ℕ). u < g.vertices) s.from r.below, subst (λ (u : ℕ). leb 1 (mark g u) ≡ true) s.from m))
      (λ b. rests_accepting v es h (subst (λ (u : ℕ). is_walk (rested g) u es ≡ true) (r.loop ∙ s.from) s.rest) b)
      (or_cases (leb 1 (mark g (edge (rested g) e).from)) (leaves_accepting (rested g) es) a)

  -- LASSOS: one of the graph; at a dead end; and no other, since a cycle begins where no loop is taken, or at a dead end
  pub lasso_kept : (ss es : List ℕ) → is_lasso g ss es ≡ true → is_lasso (rested g) ss es ≡ true
  unfolding rested
  lasso_kept ss es h =
      let l = lasso_parts g ss es h in
      let q = end_kept g.source ss l.stem in
      lasso_whole (rested g) ss es (record {
        stem = walk_kept g.source ss l.stem;
        cycle = rw q (walk_kept _ es l.cycle);
        some_edge = l.some_edge;
        closes = rw q (end_kept _ es l.cycle ∙ l.closes);
        accepts = rw (depth_kept _ es l.cycle) l.accepts;
      })

  dead_lasso : DeadEnd g → HasLasso (rested g)
  unfolding rested edge walk_end is_walk leaves_accepting
  dead_lasso d =
      let (e, l, f) = leaves_where (rested g).edges d.vertex ((loops_of g).every d.vertex d.below) in
      let q = f ∙ sym (end_kept g.source d.walk d.reaches.walks ∙ d.reaches.arrives) in
      let whole = lasso_whole (rested g) d.walk (e ∷ []) (record {
        stem = walk_kept g.source d.walk d.reaches.walks;
        cycle = subst (λ (u : ℕ). is_walk (rested g) u (e ∷ []) ≡ true) q (walk_cons (rested g) e [] l refl);
        some_edge = omega arith;
        closes = (at_rest g d.vertex e d.rests l f).loop ∙ q;
        accepts = leaves_down (rested g) (e ∷ []) (or_left _ false (subst (λ (u : ℕ). leb 1 (mark g u) ≡ true) (sym f) d.accepting));
      }) in
      record { stem = d.walk; cycle = e ∷ []; lasso = whole }

  lasso_dead : HasLasso (rested g) → HasLasso g ⊎ DeadEnd g
  unfolding rested
  lasso_dead h =
      let l = lasso_parts (rested g) h.stem h.cycle h.lasso in
      let v = walk_end (rested g) g.source h.stem in
      let (fs, w, q) = walk_without g.source h.stem l.stem in
      elim (test (leaves g.edges v)) [
        | holds b ↦ (
            let c = walk_back v h.cycle l.cycle (rw l.closes b) in
            let whole = lasso_whole g fs h.cycle (record {
              stem = w;
              cycle = rw q c;
              some_edge = l.some_edge;
              closes = rw q (sym (end_kept v h.cycle c) ∙ l.closes);
              accepts = rw (sym (depth_kept v h.cycle c)) l.accepts;
            }) in
            inl (record { stem = fs; cycle = h.cycle; lasso = whole })
            )
        | fails b ↦ (
            let (n, m) = rests_accepting v h.cycle b l.cycle (down_leaves (rested g) h.cycle l.accepts) in
            inr (record { vertex = v; below = n; walk = fs; reaches = record { walks = w; arrives = q }; accepting = m; rests = b })
            )
      ]

pub rest_lasso : RestLasso
unfolding RestLasso
rest_lasso g = (lasso_dead g, ⊎_elim (λ h. record { stem = h.stem; cycle = h.cycle; lasso = lasso_kept g h.stem h.cycle h.lasso }) (dead_lasso g))
