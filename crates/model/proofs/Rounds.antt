-- Rounds: each round of a run that is not over counts an act, so rounds end; rounds are a list of acts.
use mathlib.Core.Path.{◌≡◌, refl, sym, ap, subst, ◌∙◌}
use mathlib.Core.Bool.{Bool, true, false, ◌||◌, cond}
use mathlib.Core.List.{List, [], ◌∷◌, ◌++◌}
use mathlib.Core.Logic.{◌⊎◌, inl, inr}
use mathlib.Core.Option.{Option, none, some}
use Prim.Native.Nat.{ℕ, zero, suc, ◌+◌, ◌-◌, ◌≤◌, ◌<◌}
use native.Mathlib.Omega.{arith}
use lib.Dec.{eqb}
use borrow.Author.Tests.{lt-ltb, le-ltb, eq-eqb, ne_eqb}
use lib.ListN.{get_or, set}
use Rattle.model.specs.Graph.{edge_depth}
use Rattle.model.specs.Case.{Case, most_acts, Sound}
use Rattle.model.specs.Run.{State, is_some, ended_lasso, has_ended, fresh, with_queues, emptied, member, relax, scan, counted, depth_or, turn_of, turn, delivery_of, delivery, act, acted, range, round_acts, rounds}
use Rattle.model.specs.Promise.{whole_rounds}
use Rattle.text.proofs.Tests.{Same, same?, or_left, or_right, clash, same, other}
use Rattle.model.proofs.Tools.{member_first, no_queues, no_cells}
use Rattle.model.proofs.Steps.{scan_keeps, act_keeps, acted_keeps}
use Rattle.model.proofs.Shapes.{not_broken, cell_in}
use Rattle.model.proofs.Few.{relax_count, Paid, paid_acts, fresh_paid, few}

pub acted_append : (c : Case) (xs ys : List ℕ) (x : State) → acted c (xs ++ ys) x ≡ acted c ys (acted c xs x)
unfolding acted
acted_append c [] ys x = refl
acted_append c (a ∷ xs) ys x = acted_append c xs ys (act c a x)

-- nothing is done after the end
pub act_over : (c : Case) (a : ℕ) (x : State) → has_ended x ≡ true → act c a x ≡ x
unfolding act
act_over c a x o = rw o refl

pub acted_over : (c : Case) (xs : List ℕ) (x : State) → has_ended x ≡ true → acted c xs x ≡ x
unfolding acted
acted_over c [] x o = refl
acted_over c (a ∷ xs) x o = rw (act_over c a x o) (acted_over c xs x o)

pub rounds_listed : (k : ℕ) (c : Case) (x : State) → rounds k c x ≡ acted c (whole_rounds k c) x
unfolding rounds whole_rounds acted
rounds_listed zero c x = refl
rounds_listed (suc k) c x = go (has_ended x) refl (rounds_listed k c (acted c (round_acts c) x))
  where
    go : (b : Bool) → has_ended x ≡ b → rounds k c (acted c (round_acts c) x) ≡ acted c (whole_rounds k c) (acted c (round_acts c) x) →
        cond b x (rounds k c (acted c (round_acts c) x)) ≡ acted c (round_acts c ++ whole_rounds k c) x
    go true o ih = sym (acted_over c (round_acts c ++ whole_rounds k c) x o)
    go false o ih = ih ∙ sym (acted_append c (round_acts c) (whole_rounds k c) x)

-- counts
pub scan_count : (c : Case) (v d : ℕ) (x : State) → (scan c v d x).count ≡ x.count
scan_count c v d x = scan_keeps c v d (λ _ y. y.count ≡ x.count) (record {
  halt = λ _ _ _ _ p. p;
  pass = λ _ _ _ p. p;
  own = λ e y _ _ _ p. relax_count c e (d + edge_depth c.graph e) y ∙ p;
  other = λ _ _ _ _ _ _ p. p;
}) x refl

pub turn_count : (c : Case) (w v d : ℕ) (q : List ℕ) (x : State) → (counted (scan c v d (with_queues (set x.queues w q) x))).count ≡ suc x.count
turn_count c w v d q x = ap suc (scan_count c v d (with_queues (set x.queues w q) x))

pub delivery_count : (c : Case) (e d : ℕ) (x : State) → (counted (relax c e d (emptied e x))).count ≡ suc x.count
delivery_count c e d x = ap suc (relax_count c e d (emptied e x))

-- idle, or counted
pub act_or : (c : Case) (a : ℕ) (x : State) → (act c a x ≡ x) ⊎ (x.count < (act c a x).count)
act_or c a x = act_keeps c (λ y. (y ≡ x) ⊎ (x.count < y.count)) (record {
  turn = λ w v q y o l e p. inr (turn w v q y p);
  delivery = λ e d y o h p. inr (delivery e d y p);
}) a x (inl refl)
  where
    least : (y : State) → (y ≡ x) ⊎ (x.count < y.count) → x.count ≤ y.count
    least y (inl q) = rw q (omega arith)
    least y (inr l) = omega arith

    turn : (w v : ℕ) (q : List ℕ) (y : State) → (y ≡ x) ⊎ (x.count < y.count) → x.count < (counted (scan c v (depth_or (get_or y.depths v none)) (with_queues (set y.queues w q) y))).count
    turn w v q y p = omega (arith, least y p, turn_count c w v (depth_or (get_or y.depths v none)) q y)

    delivery : (e d : ℕ) (y : State) → (y ≡ x) ⊎ (x.count < y.count) → x.count < (counted (relax c e d (emptied e y))).count
    delivery e d y p = omega (arith, least y p, delivery_count c e d y)

pub acted_mono : (c : Case) (xs : List ℕ) (x : State) → x.count ≤ (acted c xs x).count
unfolding acted
acted_mono c [] x = omega arith
acted_mono c (a ∷ xs) x = go (act_or c a x) (acted_mono c xs (act c a x))
  where
    go : (act c a x ≡ x) ⊎ (x.count < (act c a x).count) → (act c a x).count ≤ (acted c xs (act c a x)).count → x.count ≤ (acted c xs (act c a x)).count
    go (inl q) h = let z : (act c a x).count ≡ x.count = ap (λ (y : State). y.count) q in omega arith
    go (inr l) h = omega arith

-- a list that counts nothing holds idle acts only
all_idle : (c : Case) (xs : List ℕ) (x : State) → (acted c xs x).count ≡ x.count → (a : ℕ) → member a xs ≡ true → act c a x ≡ x
unfolding acted member
all_idle c [] x e a m = clash _ m refl
all_idle c (b ∷ xs) x e a m = go (act_or c b x) (same? a b) e (all_idle c xs x)
  where
    go : (act c b x ≡ x) ⊎ (x.count < (act c b x).count) → Same a b → (acted c xs (act c b x)).count ≡ x.count → ((acted c xs x).count ≡ x.count → (a : ℕ) → member a xs ≡ true → act c a x ≡ x) → act c a x ≡ x
    go (inl q) (same i) e ih = rw i q
    go (inl q) (other n) e ih = ih (subst (λ (y : State). (acted c xs y).count ≡ x.count) q e) a (rw (ne_eqb a b n) at m)
    go (inr l) s e ih = absurd (omega (arith, acted_mono c xs (act c b x)))

in_numbers : (k i a : ℕ) → i ≤ a → a < i + k → member a (range k i) ≡ true
unfolding range member
in_numbers zero i a h l = absurd (omega arith)
in_numbers (suc k) i a h l = go (same? a i) (λ h. in_numbers k (suc i) a h (omega arith))
  where
    go : Same a i → (suc i ≤ a → member a (range k (suc i)) ≡ true) → (eqb a i || member a (range k (suc i))) ≡ true
    go (same e) r = or_left (eqb a i) (member a (range k (suc i))) (eq-eqb a i e)
    go (other n) r = or_right (eqb a i) (member a (range k (suc i))) (r (omega (arith, n)))

act_turn : (c : Case) (w v : ℕ) (q : List ℕ) (x : State) → has_ended x ≡ false → w < c.workers → get_or x.queues w [] ≡ v ∷ q → (act c w x).count ≡ suc x.count
unfolding act turn turn_of
act_turn c w v q x o l e = rw (o, lt-ltb w c.workers l, e) (turn_count c w v (depth_or (get_or x.depths v none)) q x)

act_delivery : (c : Case) (e d : ℕ) (x : State) → has_ended x ≡ false → get_or x.cells e none ≡ some d → (act c (c.workers + e) x).count ≡ suc x.count
unfolding act delivery delivery_of
act_delivery c e d x o h =
    let k : (c.workers + e) - c.workers ≡ e = omega arith in
    rw (o, le-ltb (c.workers + e) c.workers (omega arith), k, h) (delivery_count c e d x)

module _ (c : Case) (ok : Sound c) where
  -- a round of a run that is not over counts an act
  round_counts : (x : State) → Paid c x → has_ended x ≡ false → x.count < (acted c (round_acts c) x).count
  round_counts x p o = go (same? x.count (acted c (round_acts c) x).count)
    where
      idle_turn : (w v : ℕ) (q : List ℕ) → w < c.workers → get_or x.queues w [] ≡ v ∷ q → act c w x ≡ x → ⊥
      idle_turn w v q l e i =
          let y : (act c w x).count ≡ x.count = ap (λ (y : State). y.count) i in
          omega (arith, act_turn c w v q x o l e)

      idle_delivery : (e d : ℕ) → get_or x.cells e none ≡ some d → act c (c.workers + e) x ≡ x → ⊥
      idle_delivery e d h i =
          let y : (act c (c.workers + e) x).count ≡ x.count = ap (λ (y : State). y.count) i in
          omega (arith, act_delivery c e d x o h)

      idle : x.count ≡ (acted c (round_acts c) x).count → (a : ℕ) → a < c.workers + c.file_edges → act c a x ≡ x
      idle e a l = all_idle c (round_acts c) x (sym e) a (unfold round_acts in (in_numbers (c.workers + c.file_edges) 0 a (omega arith) (omega arith)))

      queues : ((a : ℕ) → a < c.workers + c.file_edges → act c a x ≡ x) → (w : ℕ) (q : List ℕ) → get_or x.queues w [] ≡ q → get_or x.queues w [] ≡ []
      queues f w [] e = e
      queues f w (v ∷ q) e =
          let m : member v (get_or x.queues w []) ≡ true = rw e (member_first v q) in
          let l : w < c.workers = rw (p.shape.owned v w m) at (ok.owner v (p.shape.below v w m)) in
          absurd (idle_turn w v q l e (f w (omega arith)))

      cells : ((a : ℕ) → a < c.workers + c.file_edges → act c a x ≡ x) → (e : ℕ) (o : Option ℕ) → get_or x.cells e none ≡ o → get_or x.cells e none ≡ none
      cells f e none h = h
      cells f e (some d) h = absurd (idle_delivery e d h (f (c.workers + e) (omega (arith, cell_in c ok x e d p.shape h))))

      ended : ((a : ℕ) → a < c.workers + c.file_edges → act c a x ≡ x) → x.ended_empty ≡ true
      ended f = rw (p.told, not_broken x o, no_queues x.queues (λ w. queues f w (get_or x.queues w []) refl), no_cells x.cells (λ e. cells f e (get_or x.cells e none) refl)) (unfold is_some in refl)

      go : Same x.count (acted c (round_acts c) x).count → x.count < (acted c (round_acts c) x).count
      go (same e) = clash (has_ended x) (unfold has_ended ended_lasso in (or_right (is_some x.broken) x.ended_empty (ended (idle e)))) o
      go (other n) = omega (arith, n, acted_mono c (round_acts c) x)

  pub rounds_end_from : (k : ℕ) (x : State) → Paid c x → most_acts c ≤ x.count + k → has_ended (rounds k c x) ≡ true
  unfolding rounds
  rounds_end_from zero x p h = (few c ok x p).1 (omega (arith, (few c ok x p).0))
  rounds_end_from (suc k) x p h = go (has_ended x) refl (λ l. rounds_end_from k (acted c (round_acts c) x) (acted_keeps c (Paid c) (paid_acts c ok) (round_acts c) x p) (omega arith))
    where
      go : (b : Bool) → has_ended x ≡ b → (x.count < (acted c (round_acts c) x).count → has_ended (rounds k c (acted c (round_acts c) x)) ≡ true) → has_ended (cond b x (rounds k c (acted c (round_acts c) x))) ≡ true
      go true o ih = o
      go false o ih = ih (round_counts x p o)

  pub rounds_end : has_ended (rounds (most_acts c) c (fresh c)) ≡ true
  rounds_end = rounds_end_from (most_acts c) (fresh c) (fresh_paid c ok) (omega arith)
