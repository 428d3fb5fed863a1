-- The cells in a round: all are empty when it begins, each gets one offer at most, and all are empty at its end. So no
-- message joins.
use mathlib.Core.Path.{◌≡◌, refl, sym, ap, ◌∙◌}
use mathlib.Core.Bool.{Bool, true, false, cond}
use mathlib.Core.List.{List, [], ◌∷◌}
use mathlib.Core.Logic.{◌⊎◌, inl, inr}
use mathlib.Core.Option.{Option, none, some}
use Prim.Native.Nat.{ℕ, zero, suc, ◌+◌, ◌-◌, ◌≤◌, ◌<◌}
use native.Mathlib.Omega.{arith}
use lib.ListN.{length, get_or, set}
use Rattle.model.specs.Graph.{edge, edge_depth}
use Rattle.model.specs.Case.{Case, owner, most_acts, Sound}
use Rattle.model.specs.Run.{Tallies, State, is_some, has_ended, fresh, with_queues, emptied, relax, scan, no_message, counted, depth_or, act, acted, range, round_acts, rounds, by_rounds}
use Rattle.text.proofs.Tests.{Same, same?, same, other, clash}
use Rattle.model.proofs.Tools.{some_not_none, set_some, no_cell, no_cells, getD_replicate_same, member_first}
use Rattle.model.proofs.Steps.{Scans, scan_keeps, act_cases}
use Rattle.model.proofs.Shapes.{Shape, not_broken, shape_relax, shape_cell, shape_queue, shape_counted, cell_in, fresh_shape, file_in, sent_in}
use Rattle.model.proofs.Few.{relax_cells, relax_tallies}

-- INVARIANT before act a of a round: a message stands on an edge of a vertex that was scanned in it, and was not
-- delivered yet
record Before (c : Case) (joined a : ℕ) (x : State) : Type 0 where
  shape : Shape c x
  joins : x.tallies.joined ≡ joined
  cells : has_ended x ≡ false → (e d : ℕ) → get_or x.cells e none ≡ some d → (owner c (edge c.graph e).from < a) × (a ≤ c.workers + e)

-- and inside worker a's scan of v, before its edge e
record Inside (c : Case) (joined a v e : ℕ) (x : State) : Type 0 where
  shape : Shape c x
  joins : x.tallies.joined ≡ joined
  cells : (f d : ℕ) → get_or x.cells f none ≡ some d → (owner c (edge c.graph f).from < a) ⊎ (((edge c.graph f).from ≡ v) × (f < e))

module _ (c : Case) (ok : Sound c) (j : ℕ) where
  inside : (a v d : ℕ) → owner c v ≡ a → Scans c v d (Inside c j a v)
  inside a v d own = record {
    halt = λ e x _ _ p. next e x p;
    pass = λ e x _ p. next e x p;
    own = λ e x b l _ p.
        let o = d + edge_depth c.graph e in
        let n = next e x p in
        record {
          shape = shape_relax c ok e o x b l p.shape;
          joins = ap (λ (t : Tallies). t.joined) (relax_tallies c e o x) ∙ p.joins;
          cells = λ f k h. n.cells f k (sym (ap (λ (os : List (Option ℕ)). get_or os f none) (relax_cells c e o x)) ∙ h);
        };
    other = λ e x _ l i o p.
        let n = next e x p in
        record {
          shape = shape_cell c ok e _ x p.shape;
          joins = fresh_cell e x i p;
          cells = λ f k h. set_some x.cells e f _ k (rw p.shape.cells (sent_in c ok v e l i o)) h (λ q _. inr (rw q i, omega arith)) (λ _ g. n.cells f k g);
        };
  }
    where
      next : (e : ℕ) (x : State) → Inside c j a v e x → Inside c j a v (suc e) x
      next e x p = record { shape = p.shape; joins = p.joins; cells = λ f k h. later (p.cells f k h) }
        where
          later : {f : ℕ} → (owner c (edge c.graph f).from < a) ⊎ (((edge c.graph f).from ≡ v) × (f < e)) → (owner c (edge c.graph f).from < a) ⊎ (((edge c.graph f).from ≡ v) × (f < suc e))
          later (inl l) = inl l
          later (inr (i, l)) = inr (i, omega arith)

      -- edge e's cell is empty
      fresh_cell : (e : ℕ) (x : State) → (edge c.graph e).from ≡ v → Inside c j a v e x → cond (is_some (get_or x.cells e none)) (x.tallies.joined + 1) x.tallies.joined ≡ j
      fresh_cell e x i p = go (get_or x.cells e none) refl
        where
          not_there : (d : ℕ) → (owner c (edge c.graph e).from < a) ⊎ (((edge c.graph e).from ≡ v) × (e < e)) → ⊥
          not_there d (inl l) = let z : owner c (edge c.graph e).from ≡ a = ap (owner c) i ∙ own in omega arith
          not_there d (inr (_, l)) = omega arith

          go : (o : Option ℕ) → get_or x.cells e none ≡ o → cond (is_some o) (x.tallies.joined + 1) x.tallies.joined ≡ j
          go none h = unfold is_some in p.joins
          go (some d) h = absurd (not_there d (p.cells e d h))

  -- one act
  step : (a : ℕ) (x : State) → Before c j a x → Before c j (suc a) (act c a x)
  step a x p = act_cases (Before c j (suc a)) c a x (λ o. after (λ z _ _ _. clash _ o z)) (λ l _. after (λ z e d h. (omega (arith, (p.cells z e d h).0), omega arith))) turn
      (λ l n. after (λ z e d h. later z e d h (same? e (a - c.workers)) n)) deliver
    where
      after : (has_ended x ≡ false → (e d : ℕ) → get_or x.cells e none ≡ some d → (owner c (edge c.graph e).from < suc a) × (suc a ≤ c.workers + e)) → Before c j (suc a) x
      after f = record { shape = p.shape; joins = p.joins; cells = f }

      later : has_ended x ≡ false → (e d : ℕ) → get_or x.cells e none ≡ some d → Same e (a - c.workers) → get_or x.cells (a - c.workers) none ≡ none → (owner c (edge c.graph e).from < suc a) × (suc a ≤ c.workers + e)
      later z e d h (same q) n = some_not_none (get_or x.cells e none) d h (ap (λ (i : ℕ). get_or x.cells i none) q ∙ n)
      later z e d h (other q) n = let r = p.cells z e d h in (omega (arith, r.0), omega (arith, r.1, q))

      turn : (v : ℕ) (q : List ℕ) → has_ended x ≡ false → a < c.workers → get_or x.queues a [] ≡ v ∷ q → Before c j (suc a) (counted (scan c v (depth_or (get_or x.depths v none)) (with_queues (set x.queues a q) x)))
      turn v q o l e = record { shape = shape_counted c ok _ s.shape; joins = s.joins; cells = λ _ f k h. (scanned (s.cells f k h), omega arith) }
        where
          d : ℕ
          d = depth_or (get_or x.depths v none)

          own : owner c v ≡ a
          own = p.shape.owned v a (rw e (member_first v q))

          s : Inside c j a v (length c.graph.edges) (scan c v d (with_queues (set x.queues a q) x))
          s = scan_keeps c v d (Inside c j a v) (inside a v d own) (with_queues (set x.queues a q) x)
              (record { shape = shape_queue c ok a v q x l e p.shape; joins = p.joins; cells = λ f k h. inl (p.cells o f k h).0 })

          scanned : {f : ℕ} → (owner c (edge c.graph f).from < a) ⊎ (((edge c.graph f).from ≡ v) × (f < length c.graph.edges)) → owner c (edge c.graph f).from < suc a
          scanned (inl l) = omega arith
          scanned {f} (inr (i, _)) = let z : owner c (edge c.graph f).from ≡ a = ap (owner c) i ∙ own in omega arith

      deliver : (d : ℕ) → has_ended x ≡ false → c.workers ≤ a → get_or x.cells (a - c.workers) none ≡ some d → Before c j (suc a) (counted (relax c (a - c.workers) d (emptied (a - c.workers) x)))
      deliver d o l h = record {
        shape = shape_counted c ok _ (shape_relax c ok e d (emptied e x) (not_broken x o) (file_in c ok e below) (shape_cell c ok e none x p.shape));
        joins = ap (λ (t : Tallies). t.joined) (relax_tallies c e d (emptied e x)) ∙ p.joins;
        cells = λ _ f k g. set_some x.cells e f none k (rw p.shape.cells below) (sym (ap (λ (os : List (Option ℕ)). get_or os f none) (relax_cells c e d (emptied e x))) ∙ g) (λ _ z. some_not_none none k z refl)
            (λ n z. let r = p.cells o f k z in (omega (arith, r.0), omega (arith, r.1, n)));
      }
        where
          e : ℕ
          e = a - c.workers

          below : e < c.file_edges
          below = cell_in c ok x e d p.shape h

  steps : (k a : ℕ) (x : State) → Before c j a x → Before c j (a + k) (acted c (range k a) x)
  unfolding acted range
  steps zero a x p = rw (let z : a + 0 ≡ a = omega arith in z) p
  steps (suc k) a x p = rw (let z : a + suc k ≡ suc a + k = omega arith in z) (steps k (suc a) (act c a x) (step a x p))

-- BETWEEN ROUNDS no cell has a message, unless the run has ended
pub record Between (c : Case) (joined : ℕ) (x : State) : Type 0 where
  pub shape : Shape c x
  pub joins : x.tallies.joined ≡ joined
  pub empty : has_ended x ≡ false → no_message x.cells ≡ true

module _ (c : Case) (ok : Sound c) (j : ℕ) where
  pub round_keeps : (x : State) → Between c j x → Between c j (acted c (round_acts c) x)
  unfolding round_acts
  round_keeps x p = record { shape = s.shape; joins = s.joins; empty = λ o. no_cells _ (λ e. none_there e o _ refl) }
    where
      y : State
      y = acted c (range (c.workers + c.file_edges) 0) x

      s : Before c j (0 + (c.workers + c.file_edges)) y
      s = steps c ok j (c.workers + c.file_edges) 0 x
          (record { shape = p.shape; joins = p.joins; cells = λ o e d h. some_not_none (get_or x.cells e none) d h (no_cell x.cells (p.empty o) e) })

      none_there : (e : ℕ) → has_ended y ≡ false → (o : Option ℕ) → get_or y.cells e none ≡ o → get_or y.cells e none ≡ none
      none_there e o none h = h
      none_there e o (some d) h = absurd (omega (arith, cell_in c ok y e d s.shape h, (s.cells o e d h).1))

  rounds_keep : (k : ℕ) (x : State) → Between c j x → Between c j (rounds k c x)
  unfolding rounds
  rounds_keep zero x p = p
  rounds_keep (suc k) x p = go (has_ended x) (rounds_keep k (acted c (round_acts c) x) (round_keeps x p))
    where
      go : (b : Bool) → Between c j (rounds k c (acted c (round_acts c) x)) → Between c j (cond b x (rounds k c (acted c (round_acts c) x)))
      go true r = p
      go false r = r

pub rounds_join_none : (c : Case) → Sound c → (by_rounds c).tallies.joined ≡ 0
unfolding by_rounds
rounds_join_none c ok = (rounds_keep c ok 0 (most_acts c) (fresh c) fresh_between).joins
  where
    fresh_between : Between c 0 (fresh c)
    fresh_between = record {
      shape = fresh_shape c ok;
      joins = unfold fresh in refl;
      empty = λ _. no_cells (fresh c).cells (λ e. unfold fresh in (getD_replicate_same c.file_edges e none));
    }
