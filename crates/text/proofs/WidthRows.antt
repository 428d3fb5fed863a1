-- The lengths in the table come out as they are listed: by computation.
use mathlib.Core.Path.{◌≡◌, refl}
use mathlib.Core.Bool.{true}
use Rattle.text.specs.Numbers.{digits, decimal, signed_decimal}
use Rattle.text.specs.WidthRows.{all_take, rows}

pub rows_take : all_take rows ≡ true
unfolding digits decimal signed_decimal all_take
rows_take = refl
