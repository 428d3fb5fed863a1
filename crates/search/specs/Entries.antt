-- What the steps of the entries ask and say. Assumes nothing: these are definitions.
use Rattle.std.specs.Prelude.{◌≡◌, ◌||◌, ltb, true, false, List, [], ◌∷◌, ℕ, ◌+◌, ◌<◌, length, ℤ, Result, Ok, Err}
use Rattle.model.specs.Graph.{accepting_count}
use Rattle.model.specs.CaseFile.{first_of, case_refusal, accepted, case_in, run_case}
use Rattle.model.specs.Answer.{no_verdict}
use Rattle.model.specs.Case.{least_output, least_work}
use Rattle.model.specs.Entry.{any_at_or_above, acts_refusal, list_refusal}
use Rattle.model.specs.declared.Outcome.{Outcome}
use Rattle.casefile.specs.Judging.{header}
use Rattle.casefile.specs.declared.Case.{Case}
use Rattle.search.specs.declared.Loaded.{Loaded}
use Rattle.search.specs.declared.Begun.{Begun}
use Rattle.model.specs.Refusals.{number}
use Rattle.model.specs.declared.refusal.Refusal.{Refusal}
use Rattle.search.specs.Asks.{FreshSays}
use Rattle.search.specs.Rep as rep

-- "A refusal returns its number, answer length 0 and 0 acts"; "other refusals return zeros" as tallies
abbrev pub refused_by : (number : ℕ) → Outcome
refused_by k = record { refusal = k; verdict = no_verdict; acts = 0; written = 0; sent = 0; delivered = 0; joined = 0 }

-- LOADING: refusals 1 to 8, then 9, which change no cell
unfoldable pub load_refusal : (case acts : List ℕ) → ℕ
load_refusal bs xs = first_of (case_refusal bs ∷ acts_refusal (case_in bs) xs ∷ [])

-- or the case of the text's runs stands in the cells: count of its vertices accept, and it has so many edges
pub record CaseLaid (bs xs : List ℕ) (c : Case) (count edges : ℕ) (w v : List ℤ) : Type 0 where
  pub taken : accepted bs ≡ true
  pub is : c ≡ header bs
  pub in_range : any_at_or_above (c.workers + c.edges) xs ≡ false
  pub laid : rep.Laid (run_case bs) v
  pub counted : count ≡ accepting_count (run_case bs).graph
  pub many : edges ≡ length (run_case bs).graph.edges
  pub long : length v ≡ length w

abbrev pub Loads : (case acts : List ℕ) → Result Loaded Refusal → (work work_now : List ℤ) → Type 0
Loads bs xs (Err r) w v = (load_refusal bs xs ≡ number r) × (0 < number r) × (v ≡ w)
Loads bs xs (Ok l) w v = CaseLaid bs xs l.case l.marks l.edges w v

-- BEGINNING: 11 first, then loading, then the fresh run in the cells; a refused call changes no cell
pub record RunBegun (bs xs : List ℕ) (output : ℕ) (b : Begun) (w v : List ℤ) : Type 0 where
  pub enough : (ltb output least_output || ltb (length w) least_work) ≡ false
  pub marks : ℕ
  pub loaded : List ℤ
  pub laid : CaseLaid bs xs b.case marks b.edges w loaded
  pub fresh : FreshSays b.case.source marks b.run loaded v
  pub long : length v ≡ length w

abbrev pub Begins : (case acts : List ℕ) → (output : ℕ) → Result Begun Refusal → (work work_now : List ℤ) → Type 0
Begins bs xs o (Err r) w v = (list_refusal bs xs o (length w) ≡ number r) × (0 < number r) × (v ≡ w)
Begins bs xs o (Ok b) w v = RunBegun bs xs o b w v
