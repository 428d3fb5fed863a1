-- The act rules in their own words: idle acts change nothing, the others are counted once, when a run has ended, and that
-- no message stands within one owner; and what a moment of a run leads to.
use mathlib.Core.Path.{◌≡◌, refl, sym, ap, subst, ◌∙◌}
use mathlib.Core.Bool.{Bool, true, false, ◌&&◌, ◌||◌, not, cond}
use mathlib.Core.List.{List, [], ◌∷◌, ◌++◌}
use mathlib.Core.Option.{Option, none, some}
use Prim.Native.Nat.{ℕ, zero, suc, ◌+◌, ◌-◌, ◌≤◌}
use native.Mathlib.Omega.{arith}
use lib.Dec.{ltb, eqb}
use borrow.Author.Tests.{ltb-true, lt-ltb, ne_eqb}
use lib.ListN.{length, get_or, set}
use lib.Seq.{get_or-set_other}
use Rattle.model.specs.Graph.{edge, edge_depth, accepting_count}
use Rattle.model.specs.Case.{Case, owner, Sound}
use Rattle.model.specs.Run.{State, distance, is_some, ended_lasso, has_ended, fresh, with_queues, emptied, no_vertex, no_message, depth_or, turn, turn_of, delivery, delivery_of, idle, does_something, act, acted, acts_done, by_list, Moment}
use Rattle.model.specs.Promise.{BelowFloor, NothingWaits, RulesKept}
use Rattle.text.proofs.Tests.{Test, test, holds, fails, Same, same?, same, other, or_left, or_right, and_both, clash}
use Rattle.model.proofs.Tools.{getD_replicate_same, some_not_none, some_of, none_of}
use Rattle.model.proofs.Steps.{scan_keeps, Acts, acted_keeps}
use Rattle.model.proofs.Few.{relax_cells}
use Rattle.model.proofs.Rounds.{acted_append, act_over, turn_count, delivery_count}
use Rattle.model.proofs.Signs.{deeper_lt}
use Rattle.model.proofs.Findings.{Known, moment_known}

-- MOMENTS: a fresh run is one, and what acts leave of one
pub moment_fresh : (c : Case) → Moment c (fresh c)
moment_fresh c = record { acts = []; is = unfold by_list acted in refl }

pub moment_acted : (c : Case) (xs : List ℕ) (x : State) → Moment c x → Moment c (acted c xs x)
unfolding by_list
moment_acted c xs x m = record { acts = m.acts ++ xs; is = ap (acted c xs) m.is ∙ sym (acted_append c m.acts xs (fresh c)) }

pub moment_act : (c : Case) (a : ℕ) (x : State) → Moment c x → Moment c (act c a x)
moment_act c a x m = unfold acted in (moment_acted c (a ∷ []) x m)

-- IDLE ACTS
idle_same : (c : Case) (a : ℕ) (x : State) → idle c a x ≡ true → act c a x ≡ x
unfolding act idle turn delivery
idle_same c a x h = go (has_ended x) (ltb a c.workers) h
  where
    turns : (q : List ℕ) → eqb (length q) 0 ≡ true → turn_of c a q x ≡ x
    turns [] e = unfold turn_of in refl
    turns (v ∷ q) e = clash _ e (ne_eqb (suc (length q)) 0 (λ z. omega arith))

    delivers : (e : ℕ) (o : Option ℕ) → not (is_some o) ≡ true → delivery_of c e o x ≡ x
    delivers e none h = unfold delivery_of in refl
    delivers e (some d) h = clash _ h (unfold is_some in refl)

    go : (o t : Bool) → cond t (eqb (length (get_or x.queues a [])) 0) (not (is_some (get_or x.cells (a - c.workers) none))) ≡ true →
        cond o x (cond t (turn_of c a (get_or x.queues a []) x) (delivery_of c (a - c.workers) (get_or x.cells (a - c.workers) none) x)) ≡ x
    go true t h = refl
    go false true h = turns (get_or x.queues a []) h
    go false false h = delivers (a - c.workers) (get_or x.cells (a - c.workers) none) h

-- COUNTS
act_count : (c : Case) (a : ℕ) (x : State) → (act c a x).count ≡ cond (does_something c a x) (suc x.count) x.count
unfolding act idle does_something turn delivery
act_count c a x = go (has_ended x) (ltb a c.workers)
  where
    turns : (q : List ℕ) → (turn_of c a q x).count ≡ cond (not (eqb (length q) 0)) (suc x.count) x.count
    turns [] = unfold turn_of in refl
    turns (v ∷ q) = rw (ne_eqb (suc (length q)) 0 (λ z. omega arith)) (unfold turn_of in (turn_count c a v (depth_or (get_or x.depths v none)) q x))

    delivers : (e : ℕ) (o : Option ℕ) → (delivery_of c e o x).count ≡ cond (not (not (is_some o))) (suc x.count) x.count
    delivers e none = unfold delivery_of is_some in refl
    delivers e (some d) = unfold delivery_of is_some in (delivery_count c e d x)

    go : (o t : Bool) → (cond o x (cond t (turn_of c a (get_or x.queues a []) x) (delivery_of c (a - c.workers) (get_or x.cells (a - c.workers) none) x))).count
        ≡ cond (not o && not (cond t (eqb (length (get_or x.queues a [])) 0) (not (is_some (get_or x.cells (a - c.workers) none))))) (suc x.count) x.count
    go true t = refl
    go false true = turns (get_or x.queues a [])
    go false false = delivers (a - c.workers) (get_or x.cells (a - c.workers) none)

acted_count : (c : Case) (xs : List ℕ) (x : State) → (acted c xs x).count ≡ acts_done c xs x + x.count
unfolding acted acts_done
acted_count c [] x = omega arith
acted_count c (a ∷ xs) x = go (does_something c a x) (act_count c a x) (acted_count c xs (act c a x))
  where
    go : (b : Bool) → (act c a x).count ≡ cond b (suc x.count) x.count → (acted c xs (act c a x)).count ≡ acts_done c xs (act c a x) + (act c a x).count →
        (acted c xs (act c a x)).count ≡ cond b (suc (acts_done c xs (act c a x))) (acts_done c xs (act c a x)) + x.count
    go true e ih = omega arith
    go false e ih = omega arith

pub counts : (c : Case) (xs : List ℕ) → (by_list c xs).count ≡ acts_done c xs (fresh c)
unfolding by_list
counts c xs = let z : (fresh c).count ≡ 0 = unfold fresh in refl in omega (arith, acted_count c xs (fresh c))

-- no more than the list has
acts_done_few : (c : Case) (xs : List ℕ) (x : State) → acts_done c xs x ≤ length xs
unfolding acts_done
acts_done_few c [] x = omega arith
acts_done_few c (a ∷ xs) x = go (does_something c a x) (acts_done_few c xs (act c a x))
  where
    go : (b : Bool) → acts_done c xs (act c a x) ≤ length xs → cond b (suc (acts_done c xs (act c a x))) (acts_done c xs (act c a x)) ≤ suc (length xs)
    go true h = omega arith
    go false h = omega arith

pub count_few : (c : Case) (xs : List ℕ) → (by_list c xs).count ≤ length xs
count_few c xs = omega (arith, counts c xs, acts_done_few c xs (fresh c))

-- WITHIN ONE OWNER no message is ever sent
module _ (c : Case) (e : ℕ) (own : owner c (edge c.graph e).to ≡ owner c (edge c.graph e).from) where
  silent_acts : Acts c (λ x. get_or x.cells e none ≡ none)
  silent_acts = record {
    turn = λ w v q x _ _ _ p. scan_keeps c v (depth_or (get_or x.depths v none)) (λ _ y. get_or y.cells e none ≡ none) (record {
      halt = λ _ _ _ _ p. p;
      pass = λ _ _ _ p. p;
      own = λ f y _ _ _ p. rw (relax_cells c f (depth_or (get_or x.depths v none) + edge_depth c.graph f) y) p;
      other = λ f y _ _ i n p. get_or-set_other y.cells f e _ none (λ q. n (subst (λ (j : ℕ). owner c (edge c.graph j).to ≡ owner c v) q (own ∙ ap (owner c) (ap (λ (j : ℕ). (edge c.graph j).from) q ∙ i)))) ∙ p;
    }) (with_queues (set x.queues w q) x) p;
    delivery = λ f d x _ h p. rw (relax_cells c f d (emptied f x)) (go f d x h p (same? e f));
  }
    where
      go : (f d : ℕ) (x : State) → get_or x.cells f none ≡ some d → get_or x.cells e none ≡ none → Same e f → get_or (set x.cells f none) e none ≡ none
      go f d x h p (same q) = some_not_none _ d h (sym (ap (λ (j : ℕ). get_or x.cells j none) q) ∙ p)
      go f d x h p (other n) = get_or-set_other x.cells f e none none n ∙ p

  silent : (x : State) → Moment c x → get_or x.cells e none ≡ none
  silent x m = rw m.is (unfold by_list in (acted_keeps c (λ y. get_or y.cells e none ≡ none) silent_acts m.acts (fresh c) (unfold fresh in (getD_replicate_same c.file_edges e none))))

-- THE END of a run is told as it is
begun_acts : (c : Case) → Acts c (λ x. x.count ≡ 0 → x.ended_empty ≡ false)
begun_acts c = record {
  turn = λ w v q x _ _ _ _ z. absurd (omega (arith, turn_count c w v (depth_or (get_or x.depths v none)) q x));
  delivery = λ e d x _ _ _ z. absurd (omega (arith, delivery_count c e d x));
}

module _ (c : Case) (ok : Sound c) (x : State) (m : Moment c x) where
  k : Known c x
  k = moment_known c ok x m

  begun : x.ended_empty ≡ true → 1 ≤ x.count
  begun e = go x.count refl
    where
      still : x.count ≡ 0 → x.ended_empty ≡ false
      still = subst (λ (y : State). y.count ≡ 0 → y.ended_empty ≡ false) (sym m.is)
          (unfold by_list in (acted_keeps c (λ y. y.count ≡ 0 → y.ended_empty ≡ false) (begun_acts c) m.acts (fresh c) (λ _. unfold fresh in refl)))

      go : (i : ℕ) → x.count ≡ i → 1 ≤ x.count
      go zero z = clash _ e (still z)
      go (suc i) z = omega arith

  waits_not : x.ended_empty ≡ true → NothingWaits x
  waits_not e =
      let b = and_both (no_vertex x.queues) (no_message x.cells) (and_both (not (is_some x.broken)) (no_vertex x.queues && no_message x.cells) (sym k.paid.told ∙ e)).1 in
      record { queues = b.0; cells = b.1 }

  then_ended : NothingWaits x → has_ended x ≡ true
  unfolding has_ended ended_lasso
  then_ended n = go (test (is_some x.broken))
    where
      go : Test (is_some x.broken) → (is_some x.broken || x.ended_empty) ≡ true
      go (holds b) = or_left (is_some x.broken) x.ended_empty b
      go (fails b) = or_right (is_some x.broken) x.ended_empty (rw (k.paid.told, b, n.queues, n.cells) refl)

  breaks : ended_lasso x ≡ true → BelowFloor c x
  unfolding ended_lasso distance
  breaks e =
      let b = some_of x.broken e in
      let d = k.trace.traced.broke b.0 b.1 in
      record { vertex = b.0; depth = d.0; at = d.1; below = deeper_lt d.0 (accepting_count c.graph) ∙ lt-ltb (accepting_count c.graph) d.0 d.2 }

  broken : BelowFloor c x → ended_lasso x ≡ true
  unfolding ended_lasso distance
  broken f = go (test (is_some x.broken))
    where
      go : Test (is_some x.broken) → is_some x.broken ≡ true
      go (holds b) = b
      go (fails b) = absurd (omega (
        arith,
        k.paid.shape.above (none_of x.broken b) f.vertex f.depth f.at,
        ltb-true (accepting_count c.graph) f.depth (sym (deeper_lt f.depth (accepting_count c.graph)) ∙ f.below),
      ))

  pub rules_kept : RulesKept c x
  rules_kept = record {
    idle_changes_nothing = λ a h. idle_same c a x h;
    not_done_after_end = λ a h. act_over c a x h;
    counted_once = λ a h. act_count c a x ∙ (rw h refl);
    lasso_only = breaks;
    lasso_always = broken;
    empty_only = λ e. (begun e, waits_not e);
    empty_always = then_ended;
    no_cell = λ e own. silent c e own x m;
  }
