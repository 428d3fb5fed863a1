-- `read::number_before` meets its contract: the digits are the whole field and `stop` follows, or there is a fault. Assumes nothing.
use mathlib.Core.Path.{◌∙◌}
use native.Mathlib.Omega.{arith}
use Rattle.text.proofs.Digits.{run_read, before_is, before_other, before_end, before_none}
use Rattle.text.proofs.read.number_before.Goals as goal
use Rattle.text.proofs.read.number_before.Goals.{else-end-text-via-then-end-text+else-text-end, else-end-text-via-else-end-text}

pub returns-in_err-row : goal.returns-in_err-row
returns-in_err-row c = c.from_residual.ensures ∙ before_none _ _ c.digits_at.ensures c.in_err-row.was _

pub returns-then-text-end : goal.returns-then-text-end
returns-then-text-end c = before_is (run_read c.digits_at.ensures c.in_ok-row.was) _ (omega arith) c.requires c.if-text-end.true

pub returns : goal.returns
returns c =
    let r = run_read c.digits_at.ensures c.in_ok-row.was in
    elim c.else-end-text.branch [
      | else-end-text-via-then-end-text+else-text-end w ↦ before_other r _ w.if-text-end.false
      | else-end-text-via-else-end-text w ↦ before_end r _ c.requires w.if-end-text.false
    ]
