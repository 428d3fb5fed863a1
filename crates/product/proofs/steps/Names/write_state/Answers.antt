-- `write_state` meets its contract.
use mathlib.Core.Path.{refl}
use Rattle.product.proofs.StepRows.{state_number, state_name}
use Rattle.product.proofs.steps.Names.write_state.Goals as goal

pub returns-then-place-eq0-clause-name : goal.returns-then-place-eq0-clause-name
returns-then-place-eq0-clause-name c = state_number _ _ _ refl c.if-place-eq0.true c.number.ensures.writes

pub returns-clause-name : goal.returns-clause-name
returns-clause-name c = state_name _ _ _ refl c.if-place-eq0.false refl c.name_at.ensures.bytes c.bytes.ensures.writes
