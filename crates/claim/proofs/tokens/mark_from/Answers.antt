-- `tokens::mark_from` meets its contract. Assumes nothing.
use native.Mathlib.Omega.{arith}
use mathlib.Core.Path.{sym, ◌∙◌}
use Rattle.claim.proofs.Lexing.{stands, mark_body, mark_end, mark_none, mark_fits, end_fits}
use Rattle.claim.proofs.tokens.mark_from.Goals as goal

pub overflow_add-result : goal.overflow_add-result
overflow_add-result c = omega (arith, mark_fits c.args.text.now c.args.limit c.args.at (sym (stands c.args.text.now c.args.limit c.args.at _ _ c.min.ensures) ∙ (sym c.starts_with.ensures.value ∙ c.if-starts_with.true)))

pub returns-then-starts_with : goal.returns-then-starts_with
returns-then-starts_with c = mark_body _ _ _ (sym (stands c.args.text.now c.args.limit c.args.at _ _ c.min.ensures) ∙ (sym c.starts_with.ensures.value ∙ c.if-starts_with.true))

pub overflow_add-result-then-starts_with-2 : goal.overflow_add-result-then-starts_with-2
overflow_add-result-then-starts_with-2 c = omega (arith, end_fits c.args.text.now c.args.limit c.args.at (sym (stands c.args.text.now c.args.limit c.args.at _ _ c.min.ensures) ∙ (sym c.starts_with-2.ensures.value ∙ c.if-starts_with-2.true)))

pub returns-then-starts_with-2 : goal.returns-then-starts_with-2
returns-then-starts_with-2 c = mark_end _ _ _ (sym (stands c.args.text.now c.args.limit c.args.at _ _ c.min.ensures) ∙ (sym c.starts_with-2.ensures.value ∙ c.if-starts_with-2.true))

pub returns : goal.returns
returns c = mark_none _ _ _ (sym (stands c.args.text.now c.args.limit c.args.at _ _ c.min.ensures) ∙ (sym c.starts_with.ensures.value ∙ c.if-starts_with.false)) (sym (stands c.args.text.now c.args.limit c.args.at _ _ c.min.ensures) ∙ (sym c.starts_with-2.ensures.value ∙ c.if-starts_with-2.false))
