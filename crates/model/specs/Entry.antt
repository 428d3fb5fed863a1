-- What the entries `run_list`, `run_rounds` and `check_answer` return and leave in every buffer, for all inputs: 11
-- first, then 1 to 8, then 9, then the run, then 10. Assumes nothing: these are definitions.
use Rattle.std.specs.Prelude.{◌≡◌, Bool, true, false, ◌||◌, cond, List, [], ◌∷◌, ◌++◌, ℕ, zero, suc, ◌+◌, ltb, leb, eqb, length, drop, replicate, ℤ, pos}
use Rattle.model.specs.Case.{Case, least_output, least_work}
use Rattle.model.specs.CaseFile.{refuse, first_of, case_refusal, case_in, run_case}
use Rattle.model.specs.Run.{Tallies, no_tallies, State, has_ended, ended_lasso, by_list, by_rounds}
use Rattle.model.specs.Answer.{lasso_verdict, empty_verdict, no_verdict, answer}
use Rattle.model.specs.Passing.{check_refusal, answer_verdict}
use Rattle.model.specs.declared.Outcome.{Outcome}
use Rattle.model.specs.declared.Checked.{Checked}

-- "11: output under 8,192 bytes, or work under 16,384 signed 32-bit cells. Checked first"
unfoldable pub buffer_refusal : (output work : ℕ) → ℕ
buffer_refusal o w = refuse (ltb o least_output || ltb w least_work) 11

-- "9: an act at or above P + m anywhere in the list, checked after the whole case and before the first act"; "act numbers
-- still cover file edges only"
unfoldable pub any_at_or_above : (limit : ℕ) → (acts : List ℕ) → Bool
any_at_or_above l [] = false
any_at_or_above l (a ∷ more) = leb l a || any_at_or_above l more

unfoldable pub acts_refusal : Case → (acts : List ℕ) → ℕ
acts_refusal c xs = refuse (any_at_or_above (c.workers + c.file_edges) xs) 9

-- every refusal but 10; the buffers count by their lengths only
unfoldable pub list_refusal : (case acts : List ℕ) → (output work : ℕ) → ℕ
list_refusal bs xs o w = first_of (buffer_refusal o w ∷ case_refusal bs ∷ acts_refusal (case_in bs) xs ∷ [])

unfoldable pub rounds_refusal : (case : List ℕ) → (output work : ℕ) → ℕ
rounds_refusal bs o w = first_of (buffer_refusal o w ∷ case_refusal bs ∷ [])

unfoldable pub verdict : State → ℕ
verdict x = cond (ended_lasso x) lasso_verdict empty_verdict

-- "the answer is at the front of the output, the rest unchanged"; "all zeros"
unfoldable pub in_front : (new old : List ℕ) → List ℕ
in_front new old = new ++ drop (length new) old

unfoldable pub zeros : List ℤ → List ℤ
zeros ws = replicate (length ws) (pos 0)

-- "A result carries three tallies: sent, delivered, joined"
abbrev pub tallies_of : Outcome → Tallies
tallies_of r = record { sent = r.sent; delivered = r.delivered; joined = r.joined }

-- A REFUSED CALL. "A refusal returns its number, answer length 0 and 0 acts. It changes neither output nor work";
-- "other refusals return zeros" as tallies. Buffers: output o before and z after, work w before and v after
pub record Refused (k : ℕ) (r : Outcome) (o z : List ℕ) (w v : List ℤ) : Type 0 where
  pub refusal : r.refusal ≡ k
  pub verdict : r.verdict ≡ no_verdict
  pub acts : r.acts ≡ 0
  pub written : r.written ≡ 0
  pub tallies : tallies_of r ≡ no_tallies
  pub output : z ≡ o
  pub work : v ≡ w

-- A RUN CUT SHORT. "10: the list ran out before the run ended"; "10 returns the acts counted", the tallies, and
-- "leaves work all zeros"
pub record CutShort (x : State) (r : Outcome) (o z : List ℕ) (w v : List ℤ) : Type 0 where
  pub refusal : r.refusal ≡ 10
  pub verdict : r.verdict ≡ no_verdict
  pub acts : r.acts ≡ x.count
  pub written : r.written ≡ 0
  pub tallies : tallies_of r ≡ x.tallies
  pub output : z ≡ o
  pub work : v ≡ zeros w

-- A FINISHED RUN. "After a result the answer is at the front of the output, the rest unchanged, and the work buffer
-- all zeros"
pub record Finished (c : Case) (x : State) (r : Outcome) (o z : List ℕ) (w v : List ℤ) : Type 0 where
  pub refusal : r.refusal ≡ 0
  pub verdict : r.verdict ≡ verdict x
  pub acts : r.acts ≡ x.count
  pub written : r.written ≡ length (answer c.graph x)
  pub tallies : tallies_of r ≡ x.tallies
  pub output : z ≡ in_front (answer c.graph x) o
  pub work : v ≡ zeros w

unfoldable pub RunSays : (refusal : ℕ) → (ended : Bool) → Case → State → Outcome → (output output_now : List ℕ) → (work work_now : List ℤ) → Type 0
RunSays (suc k) b c x r o z w v = Refused (suc k) r o z w v
RunSays zero true c x r o z w v = Finished c x r o z w v
RunSays zero false c x r o z w v = CutShort x r o z w v

-- THE ENTRIES: what `run_list`, `run_rounds` and `check_answer` say of their inputs
unfoldable pub ListSays : (case acts : List ℕ) → Outcome → (output output_now : List ℕ) → (work work_now : List ℤ) → Type 0
ListSays bs xs r o z w v =
    let x = by_list (run_case bs) xs in RunSays (list_refusal bs xs (length o) (length w)) (has_ended x) (run_case bs) x r o z w v

unfoldable pub RoundsSay : (case : List ℕ) → Outcome → (output output_now : List ℕ) → (work work_now : List ℤ) → Type 0
RoundsSay bs r o z w v =
    let x = by_rounds (run_case bs) in RunSays (rounds_refusal bs (length o) (length w)) (has_ended x) (run_case bs) x r o z w v

pub record CheckSays (bs ts : List ℕ) (r : Checked) : Type 0 where
  pub refusal : r.refusal ≡ check_refusal bs ts
  pub verdict : r.verdict ≡ cond (eqb (check_refusal bs ts) 0) (answer_verdict ts) no_verdict
