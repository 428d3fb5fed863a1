-- `body::unlisted` meets its contract. Assumes nothing.
use Rattle.model.specs.ClaimLabels.{bit}
use Rattle.claim.proofs.LineCode.{no_state, a_state}
use Rattle.claim.proofs.body.unlisted.Goals as goal

pub returns-then-states-c : goal.returns-then-states-c
returns-then-states-c c = no_state _ _ _ c.if-states-c.true

pub returns : goal.returns
unfolding bit
returns c = a_state _ _ _ c.if-states-c.false
