-- `Writer::bytes` meets its contract.
use mathlib.Core.Path.{refl}
use Rattle.text.proofs.Writing.{reserved_room, writes_nothing, writes_there}
use Rattle.text.proofs.write.Writer.bytes.Goals as goal

pub copy_to-requires : goal.copy_to-requires
copy_to-requires c = reserved_room c.in-Some.ensures.reserves refl

pub returns-in-Some-clause-writes : goal.returns-in-Some-clause-writes
returns-in-Some-clause-writes c = writes_there c.in-Some.ensures.reserves refl refl c.copy_to.ensures

pub returns-in_default-clause-writes : goal.returns-in_default-clause-writes
returns-in_default-clause-writes c = writes_nothing c.reserve.ensures.reserves c.in_default.is
