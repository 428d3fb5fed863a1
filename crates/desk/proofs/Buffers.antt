-- Buffers that are long enough for a run. Assumes nothing.
use mathlib.Core.Path.{◌≡◌, refl}
use Prim.Native.Nat.{ℕ, ◌≤◌}
use borrow.Author.Tests.{le-ltb}
use Rattle.model.specs.Case.{least_output, least_work}
use Rattle.model.specs.CaseFile.{refuse}
use Rattle.model.specs.Entry.{buffer_refusal}

pub long_buffers : (o w : ℕ) → least_output ≤ o → least_work ≤ w → buffer_refusal o w ≡ 0
unfolding buffer_refusal refuse
long_buffers o w a b = rw (le-ltb o least_output a, le-ltb w least_work b) refl
