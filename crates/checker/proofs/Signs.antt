-- Signed numbers: the length of an edge, and whether one leads right between two listed numbers. Assumes nothing.
use mathlib.Core.Path.{◌≡◌, refl, ◌∙◌}
use mathlib.Core.Bool.{true, false}
use Prim.Native.Nat.{ℕ, zero, suc}
use native.Mathlib.Omega.{arith}
use lib.Dec.{lit<}
use lib.IntN.{ℤ, pos, negsuc, ◌+ℤ◌, +ℤ_idr, -ℤ_one}
use lib.Signed.{le_z}
use mir.Facts.{to_z-of_z}
use mir.Syntax.{w16, w32}
use mir.Val.{SFits, to_z, of_z}
use Rattle.std.specs.Prelude.{Option, Some, None}
use Rattle.model.specs.Passing.{leads}
use Rattle.checker.specs.Checking.{held, length_by}

-- the length of an edge by the mark of its start
pub length_level : (k : ℕ) → k ≡ 0 → pos 0 ≡ length_by k
unfolding length_by
length_level k e = rw e refl

pub length_down : (k : ℕ) → (k ≡ 0 → ⊥) → negsuc 0 ≡ length_by k
unfolding length_by
length_down zero n = absurd (n refl)
length_down (suc k) n = refl

-- whether an edge leads right
pub leads_none : (k : ℕ) (b : Option ℤ) → true ≡ leads (held None) (held b) (length_by k)
unfolding leads held
leads_none k b = refl

pub leads_lost : (k : ℕ) (a : ℤ) → false ≡ leads (held (Some a)) (held None) (length_by k)
unfolding leads held
leads_lost k a = refl

-- a listed number and a length have a sum
sum_fits : (k : ℕ) (a : ℤ) → SFits w16 a → SFits w32 (a +ℤ length_by k)
unfolding length_by
sum_fits zero (pos a) f = rw (+ℤ_idr (pos a)) (record { sfits = omega (arith, f.sfits) })
sum_fits zero (negsuc a) f = rw (+ℤ_idr (negsuc a)) (record { sfits = omega (arith, f.sfits) })
sum_fits (suc k) (pos zero) f = rw (-ℤ_one (pos zero)) (record { sfits = lit< tt })
sum_fits (suc k) (pos (suc a)) f = rw (-ℤ_one (pos (suc a))) (record { sfits = omega (arith, f.sfits) })
sum_fits (suc k) (negsuc a) f = rw (-ℤ_one (negsuc a)) (record { sfits = omega (arith, f.sfits) })

-- a number that was widened
widened : {a x : ℤ} → SFits w16 a → x ≡ to_z w16 (of_z w16 a) → SFits w32 x → to_z w32 (of_z w32 x) ≡ a
widened f e g = to_z-of_z g ∙ e ∙ to_z-of_z f

pub sum_near : (k : ℕ) {a x l : ℤ} → SFits w16 a → x ≡ to_z w16 (of_z w16 a) → SFits w32 x → l ≡ length_by k → SFits w32 l → SFits w32 (to_z w32 (of_z w32 x) +ℤ to_z w32 (of_z w32 l))
sum_near k {a} f e g q h = rw (widened f e g, to_z-of_z h, q) (sum_fits k a f)

pub leads_on : (k : ℕ) {a b x y l : ℤ} → SFits w16 a → SFits w16 b → x ≡ to_z w16 (of_z w16 a) → SFits w32 x → y ≡ to_z w16 (of_z w16 b) → SFits w32 y → l ≡ length_by k → SFits w32 l
    → le_z (to_z w32 (of_z w32 y)) (to_z w32 (of_z w32 (to_z w32 (of_z w32 x) +ℤ to_z w32 (of_z w32 l)))) ≡ leads (held (Some a)) (held (Some b)) (length_by k)
unfolding leads held
leads_on k {a} f f' e g e' g' q h = rw (to_z-of_z (sum_near k f e g q h), widened f e g, widened f' e' g', to_z-of_z h, q) refl
