-- `page::write_states`: after c turns the lines of the first c states are written.
use Rattle.model.specs.Claim.{claim_in}
use Rattle.claimcheck.proofs.Printing.{Listed}
use Rattle.claimcheck.proofs.page.write_states.Given as goal

abbrev pub invariant-loop-c : goal.invariant-loop-c
invariant-loop-c l = Listed (claim_in l.text) l.c l.initial.page l.page
