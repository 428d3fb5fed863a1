-- `read_into` meets its contract. Assumes nothing.
use mathlib.Core.Path.{sym, ◌∙◌}
use lib.ListN.{length}
use Rattle.claim.proofs.JudgeCode.{into_refused, into_kept}
use Rattle.claim.proofs.read_into.Goals as goal

pub returns-then-is_err : goal.returns-then-is_err
returns-then-is_err c = rw (c.fill.ensures.after (λ y e. e)) (into_refused c.args.text.now c.read_text-judged.result (sym c.is_err.ensures.value ∙ c.if-is_err.true) c.args.cells.now _ c.read_text-judged.ensures (length c.read_text-judged.new.cells))

pub returns-else-is_err : goal.returns-else-is_err
returns-else-is_err c = into_kept c.args.text.now c.read_text-judged.result (sym c.is_err.ensures.value ∙ c.if-is_err.false) c.args.cells.now _ c.read_text-judged.ensures (length c.args.cells.now) c.requires.cells_value
