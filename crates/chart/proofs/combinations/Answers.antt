-- `chart::combinations`: the shift loses nothing.
use native.Mathlib.Omega.{arith}
use native.Mathlib.Nat.{mod-eq_of_lt, one-mul, pow-le-pow_right}
use lib.Dec.{lit<}
use Rattle.chart.proofs.combinations.Goals as goal

pub returns : goal.returns
returns c = (λ h. rw (one-mul _) (mod-eq_of_lt (omega (arith, pow-le-pow_right {n = 2} (lit< tt) h))), λ h. absurd (omega arith))
