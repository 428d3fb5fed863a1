-- What `loopfind` prints of a case. Assumes nothing: these are definitions.
use Rattle.std.specs.Prelude.{cond, List, ℕ}
use Rattle.model.specs.CaseFile.{case_refusal, accepted, run_case}
use Rattle.model.specs.Run.{by_rounds}
use Rattle.model.specs.Answer.{answer}
use Rattle.desk.specs.Lines.{refused_line}

-- the answer of the run by rounds, or the line of the refusal
unfoldable pub printed : (case : List ℕ) → List ℕ
printed bs = cond (accepted bs) (answer (run_case bs).graph (by_rounds (run_case bs))) (refused_line (case_refusal bs))
