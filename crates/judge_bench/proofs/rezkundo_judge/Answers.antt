-- `rezkundo_judge`: the judge's refusal, or 0 for an accepted case.
use mathlib.Core.Path.{sym, ◌∙◌}
use Rattle.casefile.proofs.Whole.{turned, taken_right}
use Rattle.judge_bench.proofs.rezkundo_judge.Goals as goal

pub returns-in-Err : goal.returns-in-Err
returns-in-Err c = c.number.ensures ∙ (turned _ c.judge.ensures c.in-Err.is).0

pub returns-in-Ok : goal.returns-in-Ok
returns-in-Ok c = sym (taken_right _ c.judge.ensures c.in-Ok.is)
