-- The refusals and verdicts of the code and their numbers, 1 to 21, and 1 and 2. Assumes nothing: these are definitions.
use Rattle.std.specs.Prelude.{cond, ℕ, eqb, Result, Ok, Err}
use Rattle.model.specs.declared.Checked.{Checked}
use Rattle.model.specs.declared.verdict.Verdict.{Verdict}
use Rattle.model.specs.declared.verdict.Verdict.TheVariants.{Lasso, Empty}
use Rattle.model.specs.declared.refusal.Refusal.{Refusal}
use Rattle.model.specs.declared.refusal.Refusal.TheVariants.{LongFile, NoVersion, OtherVersion, CaseLayout, OutOfRange, VertexLine, EdgeEnd, EdgeOrder, ActRange, Unended, ShortBuffer, AnswerLayout, NotShown, NoClaim, ClaimGrammar, NotTaken, ChartFault, NoRule, TwoRules, CountsDiffer, TooManyEdges}

abbrev pub number : Refusal → ℕ
number LongFile = 1
number NoVersion = 2
number OtherVersion = 3
number CaseLayout = 4
number OutOfRange = 5
number VertexLine = 6
number EdgeEnd = 7
number EdgeOrder = 8
number ActRange = 9
number Unended = 10
number ShortBuffer = 11
number AnswerLayout = 12
number NotShown = 13
number NoClaim = 14
number ClaimGrammar = 15
number NotTaken = 16
number ChartFault = 17
number NoRule = 18
number TwoRules = 19
number CountsDiffer = 20
number TooManyEdges = 21

-- and which one a number of those is
unfoldable pub refusal_of : ℕ → Refusal
refusal_of k =
    cond (eqb k 1) LongFile
    (cond (eqb k 2) NoVersion
    (cond (eqb k 3) OtherVersion
    (cond (eqb k 4) CaseLayout
    (cond (eqb k 5) OutOfRange
    (cond (eqb k 6) VertexLine
    (cond (eqb k 7) EdgeEnd
    (cond (eqb k 8) EdgeOrder
    (cond (eqb k 9) ActRange
    (cond (eqb k 10) Unended
    (cond (eqb k 11) ShortBuffer
    (cond (eqb k 12) AnswerLayout
    (cond (eqb k 13) NotShown
    (cond (eqb k 14) NoClaim
    (cond (eqb k 15) ClaimGrammar
    (cond (eqb k 16) NotTaken
    (cond (eqb k 17) ChartFault
    (cond (eqb k 18) NoRule
    (cond (eqb k 19) TwoRules
    (cond (eqb k 20) CountsDiffer
    TooManyEdges)))))))))))))))))))

-- VERDICTS
abbrev pub verdict_number : Verdict → ℕ
verdict_number Lasso = 1
verdict_number Empty = 2

-- what a check returns of a passing answer's verdict, or of a refusal
abbrev pub checked_as : Result Verdict Refusal → Checked
checked_as (Ok v) = record { refusal = 0; verdict = verdict_number v }
checked_as (Err r) = record { refusal = number r; verdict = 0 }
