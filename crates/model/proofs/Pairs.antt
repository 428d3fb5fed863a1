-- Pairs as numbers: (u, v) with v below n is u × n + v. Assumes nothing.
use mathlib.Core.Path.{◌≡◌, ap, ◌∙◌}
use Prim.Native.Nat.{ℕ, zero, suc, ◌+◌, ◌*◌, ◌/◌, ◌%◌, ◌≤◌, ◌<◌}
use native.Mathlib.Nat.{add-zero, suc-mul, mul-le-mul_right, mul-add-div_right, mul-add-mod_self_right, div-eq_of_lt, mod-eq_of_lt, mod-lt, div-add-mod', div-lt_iff_lt-mul}
use native.Mathlib.Omega.{arith}

module _ (n u v : ℕ) (h : v < n) where
  pub pair_first : (u * n + v) / n ≡ u
  pair_first = mul-add-div_right {m = n} (omega arith) u v ∙ ap (λ (m : ℕ). u + m) (div-eq_of_lt h) ∙ add-zero u

  pub pair_second : (u * n + v) % n ≡ v
  pair_second = mul-add-mod_self_right u n v ∙ mod-eq_of_lt h

-- the pairs of a first part end where those of the next begin
pub next_base : (n : ℕ) {u m : ℕ} → u < m → u * n + n ≤ m * n
next_base n {u} {m} l = omega (arith, suc-mul u n, mul-le-mul_right n l)

pub pair_below : (n u v m : ℕ) → v < n → u < m → u * n + v < m * n
pair_below n u v m h l = omega (arith, next_base n l)

-- every number below m × n is one
pub record Pair (m n v : ℕ) : Type 0 where
  pub first : v / n < m
  pub second : v % n < n
  pub whole : v / n * n + v % n ≡ v

pub pair : (m n v : ℕ) → v < m * n → Pair m n v
pair m zero v h = absurd (omega arith)
pair m (suc n) v h = record { first = (div-lt_iff_lt-mul {k = suc n} (omega arith)).1 h; second = mod-lt v (omega arith); whole = div-add-mod' v (suc n) }
