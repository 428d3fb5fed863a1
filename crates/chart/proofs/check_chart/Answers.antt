-- `chart::check_chart`: what reading returns.
use mathlib.Core.Path.{ap, ◌∙◌}
use Rattle.std.specs.Prelude.{Err}
use Prim.Native.Nat.{ℕ}
use Rattle.model.specs.Chart.{charted}
use Rattle.chart.specs.Reading.{returned}
use Rattle.chart.proofs.Whole.{read_returns}
use Rattle.chart.proofs.check_chart.Goals as goal

pub returns-in-Ok : goal.returns-in-Ok
unfolding returned
returns-in-Ok c = c.without_pair.ensures ∙ read_returns c.read_chart.ensures c.in-Ok.is

pub returns-in-Err-Fault : goal.returns-in-Err-Fault
unfolding returned
returns-in-Err-Fault c =
    c.without_pair-in-Err-Fault.ensures ∙ ap (λ (k : ℕ). charted k 0 0) c.number.ensures
    ∙ read_returns c.read_chart.ensures (c.in-Err-Fault.is ∙ ap Err c.in-Err-Fault.field-0-is)

pub returns-in-Err-Bad : goal.returns-in-Err-Bad
unfolding returned
returns-in-Err-Bad c = read_returns c.read_chart.ensures (c.in-Err-Bad.is ∙ ap Err c.in-Err-Bad.field-0-is)
