-- `Writer::number` meets its contract.
use mathlib.Core.Path.{refl}
use Rattle.text.proofs.Decimals.{width_length}
use Rattle.text.proofs.Writing.{reserved_room, writes_nothing, writes_there, reserved_as}
use Rattle.text.proofs.write.Writer.number.Goals as goal

pub write_digits-requires-clause-size_in_bounds : goal.write_digits-requires-clause-size_in_bounds
write_digits-requires-clause-size_in_bounds c = reserved_room c.in-Some.ensures.reserves refl

pub returns-in-Some-clause-writes : goal.returns-in-Some-clause-writes
returns-in-Some-clause-writes c = writes_there (reserved_as (width_length c.width-size.ensures) c.in-Some.ensures.reserves) refl refl c.write_digits.ensures

pub returns-in_default-clause-writes : goal.returns-in_default-clause-writes
returns-in_default-clause-writes c = writes_nothing (reserved_as (width_length c.width-size.ensures) c.reserve.ensures.reserves) c.in_default.is
