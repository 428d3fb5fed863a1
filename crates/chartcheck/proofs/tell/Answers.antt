-- `tell`: the bad pair, or nothing.
use mathlib.Core.Path.{sym, ap, ◌∙◌}
use native.Mathlib.Omega.{arith}
use Rattle.std.specs.Prelude.{Err}
use Rattle.chart.specs.Reading.{returned}
use Rattle.chart.proofs.Whole.{bad_read, bad_flags}
use Rattle.chartcheck.proofs.Printing.{tells_pair, tells_nothing}
use Rattle.chartcheck.proofs.tell.Goals as goal

pub returns-in-Ok : goal.returns-in-Ok
unfolding returned
returns-in-Ok c = sym (tells_nothing c.read_chart.ensures c.in-Ok.is (omega arith))

pub returns-in-Err-Fault : goal.returns-in-Err-Fault
unfolding returned
returns-in-Err-Fault c = sym (tells_nothing c.read_chart.ensures (c.in-Err-Fault.is ∙ ap Err c.in-Err-Fault.field-0-is) (omega arith))

pub write_pair-requires : goal.write_pair-requires
write_pair-requires c = (bad_flags (bad_read c.read_chart.ensures (c.in-Err-Bad.is ∙ ap Err c.in-Err-Bad.field-0-is))).1

pub returns-in-Err-Bad : goal.returns-in-Err-Bad
returns-in-Err-Bad c =
    c.written.ensures
    ∙ tells_pair (bad_read c.read_chart.ensures (c.in-Err-Bad.is ∙ ap Err c.in-Err-Bad.field-0-is)) c.mode_name-name.ensures.bytes c.write_pair.ensures.puts c.requires.0 c.requires.1
