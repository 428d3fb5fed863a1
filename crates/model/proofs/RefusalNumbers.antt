-- A refusal is told by its number: each number from 1 to 21 is one's.
use mathlib.Core.Bool.{Bool, true, ◌&&◌}
use mathlib.Core.Path.{◌≡◌, refl}
use Prim.Native.Nat.{ℕ, zero, suc, ◌≤◌, ◌<◌}
use borrow.Author.Tests.{eqb-true}
use native.Mathlib.Omega.{arith}
use lib.Dec.{eqb}
use Rattle.text.proofs.Tests.{Same, same?, same, other, and_both}
use Rattle.model.specs.Refusals.{number, refusal_of}

unfoldable own : ℕ → Bool
own k = eqb (number (refusal_of (suc k))) (suc k)

unfoldable all_own : ℕ → Bool
all_own zero = true
all_own (suc k) = own k && all_own k

one_of : (n k : ℕ) → all_own n ≡ true → k < n → own k ≡ true
unfolding own all_own
one_of zero k e l = absurd (omega arith)
one_of (suc n) k e l = go (same? k n) (one_of n k (and_both (own n) (all_own n) e).1)
  where
    go : Same k n → (k < n → own k ≡ true) → own k ≡ true
    go (same p) _ = rw p (and_both (own n) (all_own n) e).0
    go (other p) below = below (omega arith)

pub number_of : (k : ℕ) → 1 ≤ k → k ≤ 21 → number (refusal_of k) ≡ k
unfolding own all_own refusal_of
number_of zero p l = absurd (omega arith)
number_of (suc k) p l = eqb-true _ (suc k) (one_of 21 k refl l)
