-- `list_checked` meets its contract: the checker's refusal, nothing for "empty", or the steps.
use mathlib.Core.Path.{◌∙◌}
use Prim.Native.Nat.{ℕ}
use native.Mathlib.Omega.{arith}
use lib.ListN.{length-replicate}
use Rattle.std.proofs.Common.{rules}
use Rattle.model.specs.Chart.{most_modes}
use Rattle.product.proofs.Judged.{checked_refused, checked_empty, checked_fits, checked_lasso}
use Rattle.product.proofs.list_checked.Goals as goal

pub returns-then-checked-ne0 : goal.returns-then-checked-ne0
returns-then-checked-ne0 c = checked_refused c.requires c.check_answer-checked.ensures c.if-checked-ne0.true

pub returns-then-checked-eq-EMPTY : goal.returns-then-checked-eq-EMPTY
returns-then-checked-eq-EMPTY c = checked_empty c.requires c.check_answer-checked.ensures c.if-checked-ne0.false c.if-checked-eq-EMPTY.true

pub overflow_cast-result : goal.overflow_cast-result
overflow_cast-result c =
    omega (
      arith,
      checked_fits c.requires c.check_answer-checked.ensures c.if-checked-ne0.false c.if-checked-eq-EMPTY.false c.past_head-steps.ensures c.fill_places.ensures (c.fill_places.auto.places ∙ length-replicate {A = ℕ} most_modes 0)
          c.new-page.ensures.front c.new-page.ensures.bytes c.write_steps.ensures.lines c.unwrap_or.ensures,
    )

pub returns : goal.returns
returns c =
    checked_lasso c.requires c.check_answer-checked.ensures c.if-checked-ne0.false c.if-checked-eq-EMPTY.false c.past_head-steps.ensures c.fill_places.ensures (c.fill_places.auto.places ∙ length-replicate {A = ℕ} most_modes 0)
    c.new-page.ensures.front c.new-page.ensures.bytes c.write_steps.ensures.lines c.unwrap_or.ensures (search rules)
