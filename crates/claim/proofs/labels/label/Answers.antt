-- `labels::label` meets its contract. Assumes nothing.
use Rattle.claim.proofs.LabelCode.{label_closed}
use Rattle.claim.proofs.Signs.{label_end_sign}
use Rattle.claim.proofs.labels.label.Goals as goal

pub closed-requires : goal.closed-requires
closed-requires c = label_end_sign

pub returns : goal.returns
returns c = label_closed c.args.text.now c.args.count c.args.at c.or_level.result c.closed.result c.or_level.ensures c.closed.ensures
