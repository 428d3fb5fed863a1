-- `replay_file`: the length of the text's room is told by a law: to count it is too deep for the checker.
use Rattle.std.proofs.Common.{ℕ, sym}
use lib.ListN.{length-replicate}
use Rattle.looplist.proofs.replay_file.Goals as goal

pub slice_bounds-read_argument-end : goal.slice_bounds-read_argument-end
slice_bounds-read_argument-end g c = sym (length-replicate {0} {A = ℕ} 4000001 0)
