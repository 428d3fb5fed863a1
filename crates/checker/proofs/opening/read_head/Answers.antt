-- `checker::opening::read_head`: the number, the word and its space, the counts.
use native.Mathlib.Omega.{arith}
use mathlib.Core.Path.{sym, ap, ◌∙◌}
use Prim.Native.Nat.{◌+◌}
use lib.ListN.{length}
use Rattle.text.specs.Ascii.{ascii}
use Rattle.text.proofs.ReadingSteps.{field_low, named_end}
use Rattle.text.proofs.Reading.{leading_read}
use Rattle.checker.proofs.Heads.{head_unspaced, head_lasso, head_empty, head_neither, head_torn}
use Rattle.checker.proofs.opening.read_head.Goals as goal

pub returns-in_err-row : goal.returns-in_err-row
returns-in_err-row c = rw c.from_residual.ensures (head_torn _ _ c.leading_number.ensures c.in_err-row.was)

pub overflow_add-end : goal.overflow_add-end
overflow_add-end c = omega (arith, ap length c.field-verdict.ensures.bytes, field_low c.args.text.now c.in_ok-row.row.next 18446744073709551615 (omega arith) (omega arith))

pub returns-then-not-begins_at : goal.returns-then-not-begins_at
returns-then-not-begins_at c = head_unspaced (leading_read c.leading_number.ensures c.in_ok-row.was) c.field-verdict.ensures.bytes (sym c.if-not-begins_at.ensures)

pub overflow_add-end-then-same : goal.overflow_add-end-then-same
overflow_add-end-then-same c = omega (arith, named_end c.args.text.now (c.in_ok-row.row.next + length c.field-verdict.result.now) (ascii " ") (sym (sym c.if-not-begins_at.ensures)))

pub returns-then-same : goal.returns-then-same
returns-then-same c = c.read_counts.ensures ∙ head_lasso (leading_read c.leading_number.ensures c.in_ok-row.was) c.field-verdict.ensures.bytes (sym c.if-not-begins_at.ensures) (sym c.if-same.ensures)

pub overflow_add-end-then-same-2 : goal.overflow_add-end-then-same-2
overflow_add-end-then-same-2 c = omega (arith, named_end c.args.text.now (c.in_ok-row.row.next + length c.field-verdict.result.now) (ascii " ") (sym (sym c.if-not-begins_at.ensures)))

pub returns-then-same-2 : goal.returns-then-same-2
returns-then-same-2 c = c.read_counts-then-same-2.ensures ∙ head_empty (leading_read c.leading_number.ensures c.in_ok-row.was) c.field-verdict.ensures.bytes (sym c.if-not-begins_at.ensures) (sym c.if-same.ensures) (sym c.if-same-2.ensures)

pub returns : goal.returns
returns c = head_neither (leading_read c.leading_number.ensures c.in_ok-row.was) c.field-verdict.ensures.bytes (sym c.if-same.ensures) (sym c.if-same-2.ensures)
