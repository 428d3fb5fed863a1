-- `describe_claim` meets its contract: the parts of the cells, and what the judge says. Assumes nothing.
use Rattle.claim.proofs.EntryCode.{judged_by, describes_refused, describes}
use Rattle.claim.proofs.describe_claim.Goals as goal

pub returns-in-Err : goal.returns-in-Err
returns-in-Err c =
    describes_refused c.args.text.now _ _ _
    (record { cells = _; held = c.read_into-judged.ensures.held; marks_of = c.copy_from_slice.ensures.after; names_of = c.copy_from_slice-2.ensures.after; lengths_of = c.copy_from_slice-3.ensures.after })
    _ _ c.number.ensures (judged_by _ _ _ c.read_into-judged.ensures.answer c.in-Err.is)

pub returns-in-Ok : goal.returns-in-Ok
returns-in-Ok c =
    describes c.args.text.now _ _ _
    (record { cells = _; held = c.read_into-judged.ensures.held; marks_of = c.copy_from_slice.ensures.after; names_of = c.copy_from_slice-2.ensures.after; lengths_of = c.copy_from_slice-3.ensures.after })
    _ (judged_by _ _ _ c.read_into-judged.ensures.answer c.in-Ok.is)
