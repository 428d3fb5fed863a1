-- `room` meets its contract.
use native.Mathlib.Omega.{arith}
use Rattle.text.proofs.Writing.{room_inside, room_outside}
use Rattle.text.proofs.write.room.Goals as goal

pub returns-then-at-len : goal.returns-then-at-len
returns-then-at-len c = room_inside c.args.len c.args.at c.args.size (omega arith)

pub returns-else-at-len : goal.returns-else-at-len
returns-else-at-len c = room_outside c.args.len c.args.at c.args.size (omega arith)
