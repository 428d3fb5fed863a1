-- `page::write_count`: a number between the name and the line's end.
use mathlib.Core.List.{[], ◌∷◌}
use Rattle.desk.proofs.Writing.{between_puts}
use Rattle.looplist.proofs.page.write_count.Goals as goal

pub returns-clause-puts : goal.returns-clause-puts
returns-clause-puts c =
    let a = c.args in
    between_puts a.name.now a.count (10 ∷ []) c.write_between.ensures.chain
