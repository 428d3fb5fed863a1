-- A sorted list: a number goes to its place among the first of a list, and what holds of the list then. Assumes nothing.
use mathlib.Core.Path.{◌≡◌, sym, ap, subst, ◌∙◌}
use mathlib.Core.List.{List}
use mathlib.Core.Logic.{◌⊎◌, inl, inr}
use Prim.Native.Nat.{ℕ, ◌+◌, ◌-◌, ◌≤◌, ◌<◌}
use native.Mathlib.Omega.{arith}
use lib.ListN.{length, get_or, set, length-set}
use lib.Seq.{get_or-set_same, get_or-set_other}
use Rattle.search.specs.Asks.{Inserted, Among, Listed}
use Rattle.search.proofs.Regions.{same_or, below_or}

-- THE LOOP: those from i on, all at least as great, have moved up by one
pub record Shifting (many h : ℕ) (l : List ℕ) (i : ℕ) (m : List ℕ) : Type 0 where
  pub within : i ≤ many
  pub long : length m ≡ length l
  pub kept : (j : ℕ) → j < i → get_or m j 0 ≡ get_or l j 0
  pub moved : (j : ℕ) → i ≤ j → j < many → get_or m (j + 1) 0 ≡ get_or l j 0
  pub high : (j : ℕ) → i ≤ j → j < many → h ≤ get_or l j 0

module _ {many h i : ℕ} {l m : List ℕ} (s : Shifting many h l i m) (room : many < length l) where
  pub shift_step : 0 < i → h ≤ get_or m (i - 1) 0 → Shifting many h l (i - 1) (set m i (get_or m (i - 1) 0))
  shift_step g c =
      record {
        within = omega (arith, s.within);
        long = length-set m i (get_or m (i - 1) 0) ∙ s.long;
        kept = λ j b. get_or-set_other m i j (get_or m (i - 1) 0) 0 (λ q. omega arith) ∙ s.kept j (omega arith);
        moved = λ j a b. go j a b (same_or (j + 1) i);
        high = λ j a b. top j a b (same_or (j + 1) i);
      }
    where
      go : (j : ℕ) → i - 1 ≤ j → j < many → (j + 1 ≡ i) ⊎ (j + 1 ≡ i → ⊥) → get_or (set m i (get_or m (i - 1) 0)) (j + 1) 0 ≡ get_or l j 0
      go j a b (inl q) =
          let z : i - 1 ≡ j = omega arith in
          ap (λ (n : ℕ). get_or (set m i (get_or m (i - 1) 0)) n 0) q ∙ get_or-set_same m i (get_or m (i - 1) 0) 0 (omega (arith, s.within, s.long)) ∙ ap (λ (n : ℕ). get_or m n 0) z ∙ s.kept j (omega arith)
      go j a b (inr n) = get_or-set_other m i (j + 1) (get_or m (i - 1) 0) 0 n ∙ s.moved j (omega (arith, n)) b

      top : (j : ℕ) → i - 1 ≤ j → j < many → (j + 1 ≡ i) ⊎ (j + 1 ≡ i → ⊥) → h ≤ get_or l j 0
      top j a b (inl q) = let z : i - 1 ≡ j = omega arith in omega (arith, s.kept j (omega arith), ap (λ (n : ℕ). get_or m n 0) z)
      top j a b (inr n) = s.high j (omega (arith, n)) b

  pub shift_done : (0 < i → get_or m (i - 1) 0 < h) → Inserted many h l (set m i h)
  shift_done g =
      record {
        place = i;
        within = s.within;
        before = λ j b. get_or-set_other m i j h 0 (λ q. omega arith) ∙ s.kept j b;
        here = get_or-set_same m i h 0 (omega (arith, s.within, s.long));
        behind = λ j a b. get_or-set_other m i (j + 1) h 0 (λ q. omega arith) ∙ s.moved j a b;
        low = λ b. omega (arith, g b, s.kept (i - 1) (omega arith));
        high = s.high;
      }

-- THE LIST THEN
module _ {H H' : List ℕ} {k h : ℕ} (s : Inserted k h H H') where
  -- what stands at a place comes from there, from the place below, or is the number
  data From (j : ℕ) : Type 0 where
    lower : j < s.place → get_or H' j 0 ≡ get_or H j 0 → From j
    itself : j ≡ s.place → get_or H' j 0 ≡ h → From j
    upper : (i : ℕ) → j ≡ i + 1 → s.place ≤ i → i < k → get_or H' j 0 ≡ get_or H i 0 → From j

  from? : (j : ℕ) → j < k + 1 → From j
  from? j l = go (below_or j s.place) (same_or j s.place)
    where
      go : (j < s.place) ⊎ (s.place ≤ j) → (j ≡ s.place) ⊎ (j ≡ s.place → ⊥) → From j
      go (inl b) q = lower b (s.before j b)
      go (inr b) (inl q) = itself q (ap (λ (i : ℕ). get_or H' i 0) q ∙ s.here)
      go (inr b) (inr n) =
          let z : j ≡ (j - 1) + 1 = omega (arith, n) in
          let g : s.place ≤ j - 1 = omega (arith, n) in
          let m : j - 1 < k = omega (arith, n) in
          upper (j - 1) z g m (ap (λ (i : ℕ). get_or H' i 0) z ∙ s.behind (j - 1) g m)

  pub among_new : Among H' (k + 1) h
  among_new = record { place = s.place; below = omega (arith, s.within); is = s.here }

  pub among_old : (g : ℕ) → Among H k g → Among H' (k + 1) g
  among_old g a = go (below_or a.place s.place)
    where
      go : (a.place < s.place) ⊎ (s.place ≤ a.place) → Among H' (k + 1) g
      go (inl b) = record { place = a.place; below = omega (arith, a.below); is = s.before a.place b ∙ a.is }
      go (inr b) = record { place = a.place + 1; below = omega (arith, a.below); is = s.behind a.place b a.below ∙ a.is }

  pub listed_more : (n : ℕ) → Listed n H k → 2 ≤ h → h < n + 2 → ((j : ℕ) → j < k → h ≡ get_or H j 0 → ⊥) → Listed n H' (k + 1)
  listed_more n l two top new = record { rising = λ i j b m. rises i j b m (from? i (omega arith)) (from? j m); low = λ j m. lows j (from? j m); high = λ j m. highs j (from? j m) }
    where
      under : (i : ℕ) → i < s.place → get_or H i 0 < h
      under i b = go (same_or (i + 1) s.place)
        where
          go : (i + 1 ≡ s.place) ⊎ (i + 1 ≡ s.place → ⊥) → get_or H i 0 < h
          go (inl q) = let z : s.place - 1 ≡ i = omega arith in subst (λ (u : ℕ). get_or H u 0 < h) z (s.low (omega arith))
          go (inr q) = omega (arith, l.rising i (s.place - 1) (omega (arith, q)) (omega (arith, s.within)), s.low (omega arith))

      rises : (i j : ℕ) → i < j → j < k + 1 → From i → From j → get_or H' i 0 < get_or H' j 0
      rises i j b m (lower p e) (lower q f) = omega (arith, l.rising i j b (omega (arith, s.within)))
      rises i j b m (lower p e) (itself q f) = omega (arith, under i p)
      rises i j b m (lower p e) (upper y z g t f) = omega (arith, l.rising i y (omega arith) t)
      rises i j b m (itself p e) (lower q f) = absurd (omega arith)
      rises i j b m (itself p e) (itself q f) = absurd (omega arith)
      rises i j b m (itself p e) (upper y z g t f) = omega (arith, s.high y g t, new y t)
      rises i j b m (upper x u v o e) (lower q f) = absurd (omega arith)
      rises i j b m (upper x u v o e) (itself q f) = absurd (omega arith)
      rises i j b m (upper x u v o e) (upper y z g t f) = omega (arith, l.rising x y (omega arith) t)

      lows : (j : ℕ) → From j → 2 ≤ get_or H' j 0
      lows j (lower p e) = omega (arith, l.low j (omega (arith, s.within)))
      lows j (itself p e) = omega arith
      lows j (upper y z g t f) = omega (arith, l.low y t)

      highs : (j : ℕ) → From j → get_or H' j 0 < n + 2
      highs j (lower p e) = omega (arith, l.high j (omega (arith, s.within)))
      highs j (itself p e) = omega arith
      highs j (upper y z g t f) = omega (arith, l.high y t)

  -- and what holds of each number holds of each then
  pub each_more : (P : ℕ → Type 0) → ((j : ℕ) → j < k → P (get_or H j 0)) → P h → (j : ℕ) → j < k + 1 → P (get_or H' j 0)
  each_more P old new j m = go (from? j m)
    where
      go : From j → P (get_or H' j 0)
      go (lower p e) = subst P (sym e) (old j (omega (arith, s.within)))
      go (itself p e) = subst P (sym e) new
      go (upper y z g t e) = subst P (sym e) (old y t)
