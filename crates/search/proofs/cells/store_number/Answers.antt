use native.Mathlib.Omega.{arith}
use Prim.Native.Nat.{◌<◌, ◌^◌}
use mir.Syntax.{w32}
use mir.Facts.{to_z_pos}
use Rattle.search.proofs.cells.store_number.Goals as goal

pub returns : goal.returns
returns c =
    let h : c.args.v < 2 ^ 31 = omega arith in
    rw (to_z_pos w32 h)
