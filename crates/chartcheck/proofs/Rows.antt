-- The examples come out as they are listed: by computation.
use mathlib.Core.Path.{◌≡◌, refl}
use mathlib.Core.Bool.{true}
use Rattle.text.specs.Lines.{joined, text}
use Rattle.text.specs.Numbers.{digits, decimal}
use Rattle.model.specs.ClaimLabels.{bit}
use Rattle.model.proofs.ChartRows.{computed}
use Rattle.model.specs.BuiltEntry.{names_pair}
use Rattle.desk.specs.Lines.{count_line, refused_line, pair_lines, refused_lines}
use Rattle.chartcheck.specs.Printing.{charted_lines, printed, bit_digit, bits, fault_words, pair_words, told}
use Rattle.chartcheck.specs.Rows.{all_print, rows}

pub rows_print : all_print rows ≡ true
unfolding computed joined text digits decimal bit names_pair count_line refused_line pair_lines refused_lines charted_lines printed bit_digit bits fault_words pair_words told all_print
rows_print = refl
