-- `read_claim` meets its contract. Assumes nothing.
use mathlib.Core.Path.{sym, ◌∙◌}
use Prim.Native.Nat.{ℕ}
use native.Mathlib.Omega.{arith}
use lib.ListN.{length}
use lib.Seq.{length-take-le}
use Rattle.claim.proofs.JudgeCode.{read_short, zeros_front, read_whole}
use Rattle.claim.proofs.read_claim.Goals as goal

pub returns-then-cells-lt-CELLS : goal.returns-then-cells-lt-CELLS
returns-then-cells-lt-CELLS c =
    let a = c.args in
    rw (c.fill.ensures.after (λ y e. e)) (read_short a.text.now c.read_into.result a.cells.now _ c.read_into.ensures (omega (arith, c.if-cells-lt-CELLS.true, c.fill.ensures.len)))

pub slice_bounds-read_into-end-3 : goal.slice_bounds-read_into-end-3
slice_bounds-read_into-end-3 c = sym (length-take-le {A = ℕ} 3900 c.fill.new.self c.if-cells-lt-CELLS.false)

pub read_into-requires-2 : goal.read_into-requires-2
read_into-requires-2 c =
    rw (c.fill.ensures.after (λ y e. e)) (
    let z = zeros_front (length c.args.cells.now) 3900 (omega (arith, c.if-cells-lt-CELLS.false, c.fill.ensures.len)) in
    record { claim_cells_in_bounds = z.0; cells_value = z.1 }
    )

pub returns : goal.returns
returns c =
    let a = c.args in
    rw (c.fill.ensures.after (λ y e. e)) (read_whole a.text.now c.read_into-2.result a.cells.now _ (length a.cells.now) c.read_into-2.ensures (c.read_into-2.auto.cells ∙ length-take-le {A = ℕ} 3900 c.fill.new.self c.if-cells-lt-CELLS.false) (omega (arith, c.if-cells-lt-CELLS.false, c.fill.ensures.len)))
