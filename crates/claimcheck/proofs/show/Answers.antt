-- `show`: the line of the refusal, or the lines of the claim.
use mathlib.Core.Path.{◌∙◌}
use Rattle.claim.proofs.EntryCode.{judged_by}
use Rattle.claimcheck.proofs.Printing.{refused_shows, claim_there, accepted_shows}
use Rattle.claimcheck.proofs.show.Goals as goal

pub write_claim-requires : goal.write_claim-requires
write_claim-requires c =
    record { counts_value = (judged_by _ _ _ c.read_claim.ensures.answer c.in-Ok.is).counts; claim_there = claim_there _ c.read_claim.ensures _ c.in-Ok.is c.requires.2 c.read_claim.auto.cells }

pub returns-in-Err : goal.returns-in-Err
returns-in-Err c = c.written.ensures ∙ refused_shows _ c.read_claim.ensures _ c.in-Err.is _ c.number.ensures c.requires.0 c.requires.1 c.write_refusal.ensures.chain

pub returns-in-Ok : goal.returns-in-Ok
returns-in-Ok c = c.written-in-Ok.ensures ∙ accepted_shows _ c.read_claim.ensures _ c.in-Ok.is c.requires.0 c.requires.1 c.write_claim.ensures.puts
