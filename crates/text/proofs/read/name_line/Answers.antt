-- `read::name_line` meets its contract. Assumes nothing.
use mathlib.Core.Path.{sym, ◌∙◌}
use native.Mathlib.Omega.{arith}
use Rattle.text.proofs.ReadingSteps.{named_end, named_past, named_other, named_end_other, named_none}
use Rattle.text.proofs.read.name_line.Goals as goal
use Rattle.text.proofs.read.name_line.Goals.{else-e-text-via-then-e-text+else-text-e-eq-LINE_FEED, else-e-text-via-else-e-text}

pub returns-then-not-begins_at : goal.returns-then-not-begins_at
returns-then-not-begins_at c = named_none _ _ _ (sym c.if-not-begins_at.true ∙ c.begins_at.ensures)

pub overflow_add-e : goal.overflow_add-e
overflow_add-e c =
    let a = c.args in
    omega (arith, named_end a.text.now a.at a.names.now (sym c.if-not-begins_at.false ∙ c.begins_at.ensures))

pub returns-then-text-e-eq-LINE_FEED : goal.returns-then-text-e-eq-LINE_FEED
returns-then-text-e-eq-LINE_FEED c =
    named_past _ _ _ (sym c.if-not-begins_at.false ∙ c.begins_at.ensures) c.if-text-e-eq-LINE_FEED.true

pub returns : goal.returns
returns c =
    elim c.else-e-text.branch [
      | else-e-text-via-then-e-text+else-text-e-eq-LINE_FEED w ↦ named_other _ _ _ w.if-text-e-eq-LINE_FEED.false
      | else-e-text-via-else-e-text w ↦ named_end_other _ _ _ w.if-e-text.false
    ]
