-- What the end of a run asks and says. Assumes nothing: these are definitions.
use Rattle.std.specs.Prelude.{◌≡◌, true, List, ℕ, ◌≤◌, length, ℤ, Option, None, Some}
use Rattle.std.proofs.Math.Option.{some}
use Rattle.text.specs.Writing.{Puts}
use Rattle.text.specs.declared.write.Writer.{Writer}
use Rattle.model.specs.Case.{Case, least_output}
use Rattle.model.specs.Run.{State, has_ended, Moment}
use Rattle.model.specs.Answer.{answer}
use Rattle.model.specs.Entry.{in_front, RunSays}
use Rattle.model.specs.declared.Outcome.{Outcome}
use Rattle.model.specs.declared.verdict.Verdict.{Verdict}
use Rattle.model.specs.declared.verdict.Verdict.TheVariants.{Lasso, Empty}
use Rattle.search.specs.Rep.{Rep}
use Rattle.search.specs.declared.run.Run.{Run}

-- a run stands in the cells, with its source and its number of vertices
pub record Gone (c : Case) (x : State) (k : Run) (n source : ℕ) (w : List ℤ) : Type 0 where
  pub rep : Rep c x k w
  pub moment : Moment c x
  pub vertices : n ≡ c.graph.vertices
  pub start : source ≡ c.graph.source

pub record AnswerAsks (k : Run) (n source : ℕ) (w : List ℤ) : Type 0 where
  pub case : Case
  pub state : State
  pub gone : Gone case state k n source w

pub record BrokenAsks (b n source : ℕ) (w : List ℤ) : Type 0 where
  pub case : Case
  pub state : State
  pub run : Run
  pub gone : Gone case state run n source w
  pub broke : state.broken ≡ some b

-- the answer of a run that broke the floor at b; of any run that has ended
pub record LassoDone (b n source : ℕ) (w : List ℤ) (p q : Writer) : Type 0 where
  pub answers : (c : Case) (x : State) (k : Run) → Gone c x k n source w → x.broken ≡ some b → Puts (answer c.graph x) p q

pub record AnswerDone (k : Run) (n source : ℕ) (w : List ℤ) (p q : Writer) : Type 0 where
  pub answers : (c : Case) (x : State) → Gone c x k n source w → has_ended x ≡ true → Puts (answer c.graph x) p q

-- by the vertex that broke the floor
abbrev pub verdict_of : Option ℕ → Verdict
verdict_of None = Empty
verdict_of (Some b) = Lasso

-- such a run, with its number of workers, and an output that is long enough
pub record FinishAsks (k : Run) (p n source : ℕ) (w : List ℤ) (o : List ℕ) : Type 0 where
  pub answer : AnswerAsks k n source w
  pub workers : p ≡ answer.case.workers
  pub room : least_output ≤ length o

-- a whole answer at the output's front, the rest as it was
pub record Answers (answer : List ℕ) (r : ℕ) (o z : List ℕ) : Type 0 where
  pub written : r ≡ length answer
  pub output : z ≡ in_front answer o

-- the outcome and what is left in every buffer, as `Entry` says of a case without a refusal
pub record FinishSays (k : Run) (p n source : ℕ) (r : Outcome) (w v : List ℤ) (o z : List ℕ) : Type 0 where
  pub says : (c : Case) (x : State) → Gone c x k n source w → p ≡ c.workers → RunSays 0 (has_ended x) c x r o z w v
