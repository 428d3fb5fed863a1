-- `labels::flagged` meets its contract: its words are those of the flags' table. Assumes nothing.
use Rattle.claim.proofs.Bits.{flag_truth}
use Rattle.claim.proofs.labels.flagged.Goals as goal

pub returns : goal.returns
returns c = flag_truth _ c.requires
