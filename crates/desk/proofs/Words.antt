-- No bytes are no number. Assumes nothing.
use Rattle.std.specs.Prelude.{None}
use mathlib.Core.Path.{refl}
use mathlib.Core.List.{[]}
use Rattle.text.specs.Numbers.{is_number}
use Rattle.text.specs.Reading.{number_in}
use Rattle.desk.specs.Filling.{SaidByWord}

pub says_none : SaidByWord None
unfolding number_in is_number
says_none = record { word = []; says = refl }
