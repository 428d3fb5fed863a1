-- `replay_text`: the acts read are within the buffer, and the line that is no act is near.
use Rattle.std.proofs.Common.{ℕ, ◌∙◌}
use lib.ListN.{length-replicate}
use Rattle.looplist.proofs.Listing.{few_taken, near}
use Rattle.looplist.proofs.replay_text.Goals as goal

pub print_replay-requires : goal.print_replay-requires
print_replay-requires g c = few_taken _ _ c.in-Ok.ensures.holds.0 (c.list_acts.auto.acts ∙ length-replicate {0} {A = ℕ} 400000 0)

pub complain_of-requires : goal.complain_of-requires
complain_of-requires g c = near c.list_acts.ensures c.in-Err.is (length-replicate {0} {A = ℕ} 400000 0)
