-- `rezkundo_judge_claim`: the reader's refusal, or 0 for a claim that is taken.
use mathlib.Core.Path.{sym, ◌∙◌}
use Rattle.claim.proofs.EntryCode.{judged_by}
use Rattle.judge_bench.proofs.rezkundo_judge_claim.Goals as goal

pub returns-in-Err : goal.returns-in-Err
returns-in-Err c = c.number.ensures ∙ (judged_by _ _ _ c.read_claim.ensures.answer c.in-Err.is).by_number

pub returns-in-Ok : goal.returns-in-Ok
returns-in-Ok c = sym (judged_by _ _ _ c.read_claim.ensures.answer c.in-Ok.is).by_number
