use mir.Facts.{to_z-of_z}
use Rattle.search.proofs.run.below_floor.Goals as goal

pub returns : goal.returns
returns c = rw (to_z-of_z c.ranges.d, to_z-of_z (record { sfits = c.negated.type_inv }), c.negated.ensures)
