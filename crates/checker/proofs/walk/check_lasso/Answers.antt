-- `checker::walk::check_lasso`: the names, two walks, the end, then the rule.
use mathlib.Core.Path.{refl}
use Rattle.text.proofs.Reading.{named_read, named_other}
use Rattle.model.specs.Answer.{lasso_names}
use Rattle.casefile.proofs.Exits.{passed_on, none_there}
use Rattle.checker.proofs.Openings.{said, lasso_unnamed, lasso_lines}
use Rattle.checker.proofs.Walks.{stem_refused, cycle_refused, lasso_trailed, lasso_passes, lasso_fails}
use Rattle.checker.proofs.walk.check_lasso.Goals as goal

pub returns-in_err-rows : goal.returns-in_err-rows
returns-in_err-rows c =
    let n = none_there c.from_residual.ensures.1 c.in_err-rows.ensures.value in
    rw n.1 (lasso_unnamed (said c.requires.0) (named_other lasso_names _ _ refl c.name_line.ensures n.0))

pub returns-in_err-stem : goal.returns-in_err-stem
returns-in_err-stem c =
    let named = named_read refl c.name_line.ensures c.in_ok-rows.ensures.ok_part in
    rw (passed_on c.from_residual-in_err-stem.ensures.1) (lasso_lines (said c.requires.0) named (stem_refused c.args.answer.now c.in_ok-rows.rows c.args.head.stem c.args.head.cycle c.in_err-stem.ensures))

pub returns-in_err-cycle : goal.returns-in_err-cycle
returns-in_err-cycle c =
    let named = named_read refl c.name_line.ensures c.in_ok-rows.ensures.ok_part in
    rw (passed_on c.from_residual-in_err-cycle.ensures.1) (lasso_lines (said c.requires.0) named (cycle_refused c.args.answer.now c.in_ok-rows.rows c.args.head.stem c.args.head.cycle c.in_ok-stem.ensures c.in_err-cycle.ensures))

pub returns-then-cycle-answer : goal.returns-then-cycle-answer
returns-then-cycle-answer c =
    let named = named_read refl c.name_line.ensures c.in_ok-rows.ensures.ok_part in
    lasso_lines (said c.requires.0) named (lasso_trailed c.args.answer.now c.in_ok-rows.rows c.args.head.stem c.args.head.cycle c.in_ok-stem.ensures c.in_ok-cycle.ensures c.if-cycle-answer.true)

pub returns-then-not-is_lasso : goal.returns-then-not-is_lasso
returns-then-not-is_lasso c =
    let named = named_read refl c.name_line.ensures c.in_ok-rows.ensures.ok_part in
    lasso_lines (said c.requires.0) named
    (lasso_fails c.args.answer.now c.in_ok-rows.rows c.args.head.stem c.args.head.cycle c.in_ok-stem.ensures c.in_ok-cycle.ensures c.if-cycle-answer.false c.if-not-is_lasso.ensures refl)

pub returns : goal.returns
returns c =
    let named = named_read refl c.name_line.ensures c.in_ok-rows.ensures.ok_part in
    lasso_lines (said c.requires.0) named
    (lasso_passes c.args.answer.now c.in_ok-rows.rows c.args.head.stem c.args.head.cycle c.in_ok-stem.ensures c.in_ok-cycle.ensures c.if-cycle-answer.false c.if-not-is_lasso.ensures refl)
