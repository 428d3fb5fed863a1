-- `find`: the answer stands at the front already, or the line of the refusal is put there.
use mathlib.Core.Path.{refl, ◌∙◌}
use Rattle.desk.proofs.Writing.{refused_puts}
use Rattle.loopfind.proofs.Printing.{found, turned}
use Rattle.loopfind.proofs.find.Goals as goal

pub returns-then-outcome-eq0 : goal.returns-then-outcome-eq0
returns-then-outcome-eq0 c = c.written.ensures ∙ found _ _ _ _ _ _ c.requires.1 c.requires.2 c.run_rounds-outcome.ensures c.if-outcome-eq0.true

pub returns : goal.returns
returns c = c.written-2.ensures ∙ turned _ _ _ _ _ _ c.requires.1 c.requires.2 c.run_rounds-outcome.ensures c.if-outcome-eq0.false c.requires.0 refl (refused_puts _ c.write_refusal.ensures.chain)
