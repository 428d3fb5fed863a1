-- What the entries `build_case` and `list_steps` return and leave in the output, for all inputs. Assumes nothing: these are
-- definitions.
use Rattle.std.specs.Prelude.{◌≡◌, Bool, ◌||◌, cond, List, ℕ, eqb, length}
use Rattle.model.specs.Entry.{in_front}
use Rattle.model.specs.CaseText.{case_file}
use Rattle.model.specs.Chart.{chart_says}
use Rattle.model.specs.Product.{built_case, build_refusal}
use Rattle.model.specs.Steps.{listing, steps_refusal}
use Rattle.model.specs.declared.Charted.{Charted}
use Rattle.model.specs.declared.Built.{Built}

-- with 18 and 19 "the first bad pair .. is returned"
unfoldable pub names_pair : (refusal : ℕ) → Bool
names_pair k = eqb k 18 || eqb k 19

-- with refusal k, what the chart says of itself, and the text that is written where nothing is refused: it is at the front of
-- the output; else the output is as it was
pub record BuiltSays (k : ℕ) (pair : Charted) (text : List ℕ) (r : Built) (o z : List ℕ) : Type 0 where
  pub refusal : r.refusal ≡ k
  pub mode : r.mode ≡ cond (names_pair k) pair.mode 0
  pub combination : r.combination ≡ cond (names_pair k) pair.combination 0
  pub written : r.written ≡ cond (eqb k 0) (length text) 0
  pub output : z ≡ cond (eqb k 0) (in_front text o) o

unfoldable pub BuildSays : (chart claim : List ℕ) → (workers : ℕ) → Built → (output output_now : List ℕ) → Type 0
BuildSays bs cs p r o z = BuiltSays (build_refusal bs cs p (length o)) (chart_says bs) (case_file (built_case bs cs p)) r o z

unfoldable pub StepsSay : (chart claim answer : List ℕ) → Built → (output output_now : List ℕ) → Type 0
StepsSay bs cs ts r o z = BuiltSays (steps_refusal bs cs ts (length o)) (chart_says bs) (listing bs cs ts) r o z
