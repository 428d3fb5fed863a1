-- `Writer::byte` meets its contract.
use mathlib.Core.Path.{refl, sym}
use native.Mathlib.Omega.{arith}
use Rattle.text.proofs.Writing.{reserved_room, writes_nothing, writes_there, put_one}
use Rattle.text.proofs.write.Writer.byte.Goals as goal

pub bounds-self-at : goal.bounds-self-at
bounds-self-at c = omega (arith, reserved_room c.in-Some.ensures.reserves refl)

pub returns-in-Some-clause-writes : goal.returns-in-Some-clause-writes
returns-in-Some-clause-writes c = writes_there c.in-Some.ensures.reserves refl refl (sym (put_one _ _ _ (omega (arith, reserved_room c.in-Some.ensures.reserves refl))))

pub returns-in_default-clause-writes : goal.returns-in_default-clause-writes
returns-in_default-clause-writes c = writes_nothing c.reserve.ensures.reserves c.in_default.is
