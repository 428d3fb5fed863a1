-- `labels::atom`, `and_level` and `or_level` meet their contracts: each call goes deeper, or one level down. Assumes nothing.
use Prim.Native.Nat.{◌+◌, ◌*◌, ◌-◌}
use lib.ListN.{length}
use Rattle.claim.proofs.LabelCode.{NotsSoFar, AndDue, OrDue}
use Rattle.claim.proofs.labels.+and_level_atom_or_level.Given as goal

abbrev pub decreases-and_level : goal.decreases-and_level
decreases-and_level l = 3 * (16 - l.deep) + 1

abbrev pub decreases-atom : goal.decreases-atom
decreases-atom l = 3 * (16 - l.deep)

abbrev pub decreases-or_level : goal.decreases-or_level
decreases-or_level l = 3 * (16 - l.deep) + 2

abbrev pub invariant-and_level-loop-w : goal.invariant-and_level-loop-w
invariant-and_level-loop-w l = AndDue l.text l.count l.deep l.at l.values l.here

abbrev pub decreases-and_level-loop-w : goal.decreases-and_level-loop-w
decreases-and_level-loop-w l = length l.text - l.here

abbrev pub invariant-atom-loop-at : goal.invariant-atom-loop-at
invariant-atom-loop-at l = NotsSoFar l.text l.count l.deep l.at l.here l.down l.odd

abbrev pub decreases-atom-loop-at : goal.decreases-atom-loop-at
decreases-atom-loop-at l = length l.text - l.here

abbrev pub invariant-or_level-loop-w : goal.invariant-or_level-loop-w
invariant-or_level-loop-w l = OrDue l.text l.count l.deep l.at l.values l.here

abbrev pub decreases-or_level-loop-w : goal.decreases-or_level-loop-w
decreases-or_level-loop-w l = length l.text - l.here
