-- `Writer::reserve` meets its contract: there is no end, no room, or a place.
use mathlib.Core.Path.{refl}
use Rattle.text.proofs.Writing.{none_reserved, not_reserved, is_reserved}
use Rattle.text.proofs.write.Writer.reserve.Goals as goal

pub returns-in_default-clause-reserves : goal.returns-in_default-clause-reserves
returns-in_default-clause-reserves c = none_reserved _ _ c.in_default.is

pub returns-then-not-room-clause-reserves : goal.returns-then-not-room-clause-reserves
returns-then-not-room-clause-reserves c = not_reserved _ _ _ _ c.in-Some.is c.if-not-room.ensures refl refl

pub returns-clause-reserves : goal.returns-clause-reserves
returns-clause-reserves c = is_reserved _ _ _ _ c.in-Some.is c.if-not-room.ensures refl refl
