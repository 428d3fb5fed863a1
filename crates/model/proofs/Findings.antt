-- Findings: an ended run shows a lasso exactly if there is one, else all distances; two ended runs on one graph
-- agree.
use mathlib.Core.Path.{◌≡◌, refl, sym, ap, subst, ◌∙◌}
use mathlib.Core.Bool.{true, false}
use mathlib.Core.List.{List}
use mathlib.Core.Logic.{◌⊎◌, inl, inr}
use mathlib.Core.Option.{Option, none, some}
use Prim.Native.Nat.{ℕ, ◌+◌, ◌≤◌, ◌<◌}
use native.Mathlib.Omega.{arith}
use lib.ListN.{length, get_or}
use lib.Seq.{ext_get_or}
use lib.IntN.{ℤ, pos, neg_ℤ}
use lib.Signed.{le_z}
use Rattle.model.specs.Graph.{Graph, is_walk, walk_end, walk_depth, walk_length, Reaches, is_lasso, NoLasso, HasWalk, Fewest}
use Rattle.model.specs.Case.{Case, most_acts, Sound}
use Rattle.model.specs.Run.{State, distance, is_some, ended_lasso, has_ended, fresh, by_list, by_rounds, Moment}
use Rattle.model.specs.Answer.{cycle_start, cycle, stem, empty_text, answer_of, answer}
use Rattle.model.specs.Promise.{Ended, Finding, whole_rounds}
use Rattle.text.proofs.Tests.{Test, test, or_cases, clash, holds, fails}
use Rattle.model.proofs.Tools.{some_not_none, is_some_not, is_some_of, none_of, some_of, some_inj}
use Rattle.model.proofs.Walks.{Walk, Lasso, lasso_parts, lasso_whole, Relaxed, relax_walk, no_lasso_in}
use Rattle.model.proofs.Few.{Paid, paid}
use Rattle.model.proofs.Rounds.{rounds_listed}
use Rattle.model.proofs.Settled.{Tale, tale, relaxed}
use Rattle.model.proofs.Trace.{Trace, trace}
use Rattle.model.proofs.Loops.{cycle_closed, start_depth}
use Rattle.model.proofs.Stems.{stem_fewest, stem_short}
use Rattle.model.proofs.Signs.{le_parts, low_neg, high_neg, deeper_le}

-- every ended run is a moment of a run
pub ended_listed : (c : Case) (x : State) → Ended c x → Moment c x
ended_listed c x e = go e.run
  where
    go : Moment c x ⊎ (x ≡ by_rounds c) → Moment c x
    go (inl m) = m
    go (inr q) = record { acts = whole_rounds (most_acts c) c; is = q ∙ (unfold by_rounds by_list in (rounds_listed (most_acts c) c (fresh c))) }

-- what holds at every moment, ended or not
pub record Known (c : Case) (x : State) : Type 0 where
  pub paid : Paid c x
  pub tale : Tale c x
  pub trace : Trace c x

pub moment_known : (c : Case) (ok : Sound c) (x : State) → Moment c x → Known c x
moment_known c ok x m = subst (λ (y : State). Known c y) (sym m.is) (record { paid = paid c ok m.acts; tale = tale c ok m.acts; trace = trace c ok m.acts })

pub known : (c : Case) (ok : Sound c) (x : State) → Ended c x → Known c x
known c ok x e = moment_known c ok x (ended_listed c x e)

pub walk_real : (g : Graph) (v d : ℕ) → Walk g v d → HasWalk g v (distance d)
unfolding walk_length distance
walk_real g v d w = record { walk = w.edges; reaches = w.reaches; length_is = ap (λ (i : ℕ). neg_ℤ (pos i)) w.depth }

distance_le : (g : Graph) (d : ℕ) (es : List ℕ) → walk_depth g es ≤ d → le_z (distance d) (walk_length g es) ≡ true
unfolding distance walk_length
distance_le g d es h = deeper_le (walk_depth g es) d h

pub distances_le : (d k : ℕ) → d ≤ k → le_z (distance k) (distance d) ≡ true
unfolding distance
distances_le d k h = deeper_le d k h

le_distance : (d k : ℕ) → le_z (distance d) (distance k) ≡ true → k ≤ d
unfolding distance
le_distance d k h = omega (arith, le_parts (neg_ℤ (pos d)) (neg_ℤ (pos k)) h, low_neg k, high_neg k, low_neg d, high_neg d)

no_lasso : (g : Graph) (ds : List (Option ℕ)) → Relaxed g ds → (d : ℕ) → get_or ds g.source none ≡ some d → NoLasso g
unfolding NoLasso
no_lasso g ds r d h ss es = go (test (is_lasso g ss es))
  where
    go : Test (is_lasso g ss es) → is_lasso g ss es ≡ false
    go (fails f) = f
    go (holds l) = absurd (no_lasso_in g ds r d h ss es (lasso_parts g ss es l))

module _ (c : Case) (ok : Sound c) (x : State) where
  empty_finding : Known c x → x.broken ≡ none → x.ended_empty ≡ true → Finding c.graph x
  empty_finding k n e = record {
    shown = λ b h. some_not_none x.broken b h n;
    fewest = λ b h. some_not_none x.broken b h n;
    none_there = λ _. no_lasso c.graph x.depths r root.0 root.1;
    distances = λ _ v d h.
        let w = k.tale.walked.depths v d h in
        record { real = walk_real c.graph v d w; least = λ es q. at_most v d h es q };
    reached = λ _ v es q. subst (λ (u : ℕ). is_some (get_or x.depths u none) ≡ true) q.arrives (is_some_of (get_or x.depths (walk_end c.graph c.graph.source es) none) (get es q.walks).0 (get es q.walks).1);
  }
    where
      r : Relaxed c.graph x.depths
      r = relaxed c ok x k.paid k.tale n e

      root : (d : ℕ) × (get_or x.depths c.graph.source none ≡ some d)
      root = some_of (get_or x.depths c.graph.source none) k.tale.walked.source

      get : (es : List ℕ) → is_walk c.graph c.graph.source es ≡ true → (j : ℕ) × (get_or x.depths (walk_end c.graph c.graph.source es) none ≡ some j) × (root.0 + walk_depth c.graph es ≤ j)
      get es w = relax_walk c.graph x.depths r c.graph.source root.0 es root.1 w

      at_most : (v d : ℕ) → get_or x.depths v none ≡ some d → (es : List ℕ) → Reaches c.graph v es → le_z (distance d) (walk_length c.graph es) ≡ true
      at_most v d h es q =
          let j = get es q.walks in
          let z : j.0 ≡ d = some_inj j.0 d (sym j.1 ∙ (rw q.arrives h)) in
          distance_le c.graph d es (omega (arith, j.2))

  start_reached : Known c x → (b : ℕ) → x.broken ≡ some b → (d : ℕ) × Walk c.graph (cycle_start c.graph x.parents b) d
  start_reached k b h =
      let s = start_depth c x k.trace.t k.trace.T k.trace.traced b h in
      (s.0, k.tale.walked.depths (cycle_start c.graph x.parents b) s.0 s.1)

  pub stem_is : Known c x → (b : ℕ) → x.broken ≡ some b → Fewest c.graph (cycle_start c.graph x.parents b) (stem c.graph (cycle_start c.graph x.parents b))
  stem_is k b h = let w = start_reached k b h in stem_fewest c ok (cycle_start c.graph x.parents b) w.1.edges w.1.reaches

  pub stem_few : Known c x → (b : ℕ) → x.broken ≡ some b → length (stem c.graph (cycle_start c.graph x.parents b)) < c.graph.vertices
  stem_few k b h = let w = start_reached k b h in stem_short c ok (cycle_start c.graph x.parents b) w.1.edges w.1.reaches

  pub lasso_shown : Known c x → (b : ℕ) → x.broken ≡ some b → Lasso c.graph (stem c.graph (cycle_start c.graph x.parents b)) (cycle c.graph x.parents b)
  lasso_shown k b h =
      let s = (stem_is k b h).reaches in
      let y = cycle_closed c x k.trace.t k.trace.T k.trace.traced b h in
      record {
        stem = s.walks;
        cycle = rw s.arrives y.walks;
        some_edge = y.some_edge;
        closes = rw s.arrives y.closes;
        accepts = y.accepts;
      }

  pub finding : Ended c x → Finding c.graph x
  finding e = go x.broken refl (unfold has_ended ended_lasso in (or_cases (is_some x.broken) x.ended_empty e.ended))
    where
      k : Known c x
      k = known c ok x e

      go : (b : Option ℕ) → x.broken ≡ b → (is_some x.broken ≡ true) ⊎ (x.ended_empty ≡ true) → Finding c.graph x
      go none h (inl i) = is_some_not x.broken i h
      go none h (inr i) = empty_finding k h i
      go (some b) h _ = record {
        shown = λ b h. lasso_whole c.graph _ _ (lasso_shown k b h);
        fewest = λ b h. stem_is k b h;
        none_there = λ n. some_not_none x.broken b h n;
        distances = λ n. some_not_none x.broken b h n;
        reached = λ n. some_not_none x.broken b h n;
      }

-- one run's depth is not below the other's
half : (g : Graph) (x y : State) → Finding g x → Finding g y → x.broken ≡ none → y.broken ≡ none → (i k : ℕ) → get_or x.depths i none ≡ some k →
    (j : ℕ) × (get_or y.depths i none ≡ some j) × (k ≤ j)
half g x y F G bx by i k h =
    let w = (F.distances bx i k h).real in
    let r = some_of (get_or y.depths i none) (G.reached by i w.walk w.reaches) in
    let m : le_z (distance r.0) (distance k) ≡ true = subst (λ (z : ℤ). le_z (distance r.0) z ≡ true) w.length_is ((G.distances by i r.0 r.1).least w.walk w.reaches) in
    (r.0, r.1, le_distance r.0 k m)

depths_same : (g : Graph) (x y : State) → Finding g x → Finding g y → length x.depths ≡ length y.depths → x.broken ≡ none → y.broken ≡ none → x.depths ≡ y.depths
depths_same g x y F G s bx by = ext_get_or none x.depths y.depths s (λ i _. go i (get_or x.depths i none) (get_or y.depths i none) refl refl)
  where
    go : (i : ℕ) (a b : Option ℕ) → get_or x.depths i none ≡ a → get_or y.depths i none ≡ b → get_or x.depths i none ≡ get_or y.depths i none
    go i none none p q = p ∙ sym q
    go i none (some k) p q = let r = half g y x G F by bx i k q in some_not_none (get_or x.depths i none) r.0 r.1 p
    go i (some k) b p q =
        let r = half g x y F G bx by i k p in
        let s = half g y x G F by bx i r.0 r.1 in
        let z : s.0 ≡ k = some_inj s.0 k (sym s.1 ∙ p) in
        let e : r.0 ≡ k = omega (arith, r.2, s.2) in
        p ∙ ap {B = Option ℕ} some (sym e) ∙ sym r.1

answer_empty : (g : Graph) (x : State) → x.broken ≡ none → answer g x ≡ empty_text x.depths
unfolding answer answer_of
answer_empty g x h = ap (λ (o : Option ℕ). answer_of g o x.parents x.depths) h

pub alike : (g : Graph) (x y : State) → Finding g x → Finding g y → length x.depths ≡ length y.depths →
    (ended_lasso x ≡ ended_lasso y) × (ended_lasso x ≡ false → answer g x ≡ answer g y)
unfolding ended_lasso NoLasso
alike g x y F G s = go x.broken y.broken refl refl
  where
    go : (a b : Option ℕ) → x.broken ≡ a → y.broken ≡ b → (is_some x.broken ≡ is_some y.broken) × (is_some x.broken ≡ false → answer g x ≡ answer g y)
    go (some a) (some b) p q = (is_some_of x.broken a p ∙ sym (is_some_of y.broken b q), λ f. some_not_none x.broken a p (none_of x.broken f))
    go none none p q = (ap is_some (p ∙ sym q), λ _. answer_empty g x p ∙ ap empty_text (depths_same g x y F G s p q) ∙ sym (answer_empty g y q))
    go (some a) none p q = clash (is_lasso g (stem g (cycle_start g x.parents a)) (cycle g x.parents a)) (F.shown a p) (G.none_there q _ _)
    go none (some b) p q = clash (is_lasso g (stem g (cycle_start g y.parents b)) (cycle g y.parents b)) (G.shown b q) (F.none_there p _ _)
