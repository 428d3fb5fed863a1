-- What `looplist` prints of a case and a list of acts. Assumes nothing: these are definitions.
use Rattle.std.specs.Prelude.{Bool, true, false, cond, List, [], ◌∷◌, ◌++◌, ℕ, zero, suc, eqb}
use Rattle.desk.specs.Lines.{count_line}
use Rattle.text.specs.Ascii.{ascii}
use Rattle.text.specs.Lines.{text}
use Rattle.model.specs.Case.{Case}
use Rattle.model.specs.CaseFile.{first_of, case_refusal, case_in, run_case}
use Rattle.model.specs.Run.{Tallies, no_tallies, State, has_ended, by_list}
use Rattle.model.specs.Answer.{lasso_word, empty_word, lasso_verdict, empty_verdict, no_verdict, answer}
use Rattle.model.specs.Entry.{acts_refusal, verdict}

unfoldable pub verdict_word : (verdict : ℕ) → List ℕ
verdict_word v = cond (eqb v lasso_verdict) lasso_word (cond (eqb v empty_verdict) empty_word (ascii "none"))

unfoldable pub verdict_line : (verdict : ℕ) → List ℕ
verdict_line v = text ((ascii "verdict" ∷ verdict_word v ∷ []) ∷ [])

unfoldable pub tally_lines : Tallies → List ℕ
tally_lines t = count_line (ascii "sent") t.sent ++ count_line (ascii "delivered") t.delivered ++ count_line (ascii "joined") t.joined

unfoldable pub head : (refusal verdict acts : ℕ) → Tallies → List ℕ
head k v n t = count_line (ascii "refusal") k ++ verdict_line v ++ count_line (ascii "acts") n ++ tally_lines t

-- they have room here
abbrev pub head_room : ℕ
head_room = 128

-- words and a number on standard error have room here
abbrev pub complaint_room : ℕ
complaint_room = 128

-- THE PAGE: refused; ended, with the answer; or cut short, refusal 10
unfoldable pub page : (refusal : ℕ) → (ended : Bool) → Case → State → List ℕ
page (suc k) b c x = head (suc k) no_verdict 0 no_tallies
page zero true c x = head 0 (verdict x) x.count x.tallies ++ answer c.graph x
page zero false c x = head 10 no_verdict x.count x.tallies

unfoldable pub printed : (case acts : List ℕ) → List ℕ
printed bs xs =
    let x = by_list (run_case bs) xs in
    page (first_of (case_refusal bs ∷ acts_refusal (case_in bs) xs ∷ [])) (has_ended x) (run_case bs) x
