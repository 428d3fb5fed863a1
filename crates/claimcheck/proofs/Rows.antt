-- The examples come out as they are listed: by computation.
use mathlib.Core.Path.{◌≡◌, refl}
use mathlib.Core.Bool.{true}
use Rattle.text.specs.Lines.{joined, text}
use Rattle.text.specs.Numbers.{digits, decimal}
use Rattle.model.proofs.ClaimRows.{computed}
use Rattle.desk.specs.Lines.{count_line, refused_line}
use Rattle.claimcheck.specs.Printing.{name_fields, state_row, state_rows, count_row, claim_lines, printed}
use Rattle.claimcheck.specs.Rows.{all_print, rows}

pub rows_print : all_print rows ≡ true
unfolding computed joined text digits decimal count_line refused_line name_fields state_row state_rows count_row claim_lines printed all_print
rows_print = refl
