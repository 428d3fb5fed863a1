-- `write_step` meets its contract: four writers, one after the other.
use Rattle.std.proofs.Common.{◌≡◌, ◌/◌, get_or, rules}
use Rattle.product.proofs.StepRows.{step_puts}
use Rattle.product.proofs.steps.Names.write_step.Goals as goal

pub returns-clause-line : goal.returns-clause-line
returns-clause-line c =
    let n = c.args.self.now in
    let place : c.unwrap_or-place.result ≡ get_or n.places.now (c.args.v / n.states) 0 = search rules in
    step_puts n c.args.v place c.name_at.ensures.bytes c.bytes.ensures.writes c.byte.ensures.writes c.write_state.ensures.name c.byte-2.ensures.writes
