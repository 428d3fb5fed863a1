use Prim.Native.Nat.{zero}
use lib.IntN.{+ℤ_idl}
use lib.Dec.{lit<}
use Prim.Native.Nat.{ℕ, suc, ◌≤◌, ◌<◌, ◌^◌}
use native.Mathlib.Omega.{arith}
use lib.IntN.{pos, neg_ℤ}
use mir.Syntax.{w32}
use mir.Val.{SFits}
use mir.Facts.{to_z-of_z, to_z_pos}
use Rattle.search.proofs.run.negated.Goals as goal

fit : (a : ℕ) → a ≤ 500 → SFits w32 (neg_ℤ (pos a))
fit zero h = record { sfits = lit< tt }
fit (suc n) h = record { sfits = omega arith }

pub returns : goal.returns
returns c =
    let h : c.args.n < 2 ^ 31 = omega arith in
    rw (to_z_pos w32 h, +ℤ_idl, to_z-of_z (fit c.args.n (omega arith)))
