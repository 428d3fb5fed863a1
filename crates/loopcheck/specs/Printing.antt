-- What `loopcheck` prints of a case and an answer. Assumes nothing: these are definitions.
use Rattle.std.specs.Prelude.{cond, List, [], ◌∷◌, ℕ, eqb}
use Rattle.text.specs.Ascii.{ascii}
use Rattle.text.specs.Lines.{text}
use Rattle.model.specs.Answer.{lasso_verdict, lasso_word, empty_word}
use Rattle.model.specs.Passing.{check_refusal, answer_verdict}
use Rattle.desk.specs.Lines.{refused_line}

-- "A pass returns the verdict": `pass` and its word
unfoldable pub pass_line : (word : List ℕ) → List ℕ
pass_line w = text ((ascii "pass" ∷ w ∷ []) ∷ [])

unfoldable pub checked_line : (refusal verdict : ℕ) → List ℕ
checked_line k v = cond (eqb k 0) (cond (eqb v lasso_verdict) (pass_line lasso_word) (pass_line empty_word)) (refused_line k)

unfoldable pub printed : (case answer : List ℕ) → List ℕ
printed bs ts = checked_line (check_refusal bs ts) (answer_verdict ts)
