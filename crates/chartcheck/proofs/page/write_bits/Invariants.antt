-- `page::write_bits`: the flags below i are still to be written.
use Rattle.std.specs.Prelude.{◌≡◌}
use Rattle.text.proofs.Chains.{Still}
use Rattle.chartcheck.specs.Printing.{bits}
use Rattle.chartcheck.proofs.page.write_bits.Given as goal

abbrev pub invariant-loop-i : goal.invariant-loop-i
invariant-loop-i l = (l.page.output.ghost_name ≡ l.initial.page.output.ghost_name) × Still (bits l.many l.flags) l.initial.page (bits l.i l.flags) l.page
