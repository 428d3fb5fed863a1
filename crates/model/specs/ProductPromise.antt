-- What is promised of case files as texts, of the product and of the listing: the output is the product's only case file,
-- an edge stands exactly where both parts can move, and each step of a passing lasso is named. A statement is a type;
-- docs/PROOF-MAP.md names its proof. Assumes nothing: these are definitions.
use Rattle.std.specs.Prelude.{◌≡◌, Bool, true, ◌&&◌, List, [], ◌∷◌, ◌⊎◌, ◌↔◌, ℕ, ◌+◌, ◌*◌, ◌/◌, ◌%◌, ◌≤◌, ◌<◌, ltb, length, take}
use Rattle.std.proofs.Math.Option.{none}
use Rattle.text.specs.Lines.{text}
use Rattle.model.specs.Graph.{Edge, Graph, edge, mark, leaves, is_walk}
use Rattle.model.specs.Case.{Case, owner, most_workers, Sound, Within}
use Rattle.model.specs.CaseFile.{accepted, case_in}
use Rattle.model.specs.Answer.{lasso_verdict, empty_verdict}
use Rattle.model.specs.Passing.{answer_refusal, check_refusal, answer_verdict}
use Rattle.model.specs.CaseText.{case_file, all_rise}
use Rattle.model.specs.Claim.{Claim, state, claim_moves, claim_in}
use Rattle.model.specs.ClaimEntry.{mark_of}
use Rattle.model.specs.Chart.{Chart, combinations, next_mode, chart_in}
use Rattle.model.specs.Product.{product_graph, product_case, graph_in, built_case, product_refusal}
use Rattle.model.specs.Steps.{step_rows, walk_in, listing, least_steps_output, steps_refusal}
use Rattle.model.specs.BuiltEntry.{BuildSays, StepsSay}
use Rattle.model.specs.declared.Built.{Built}

-- CASE FILES AS TEXTS: one that is accepted is what its case is written as, so no two texts have one case; and a sound case
-- within the limits, all of whose edges are a file's and rise, is read back from what it is written as
unfoldable pub OnlyFile : Type 0
OnlyFile = (bs : List ℕ) → accepted bs ≡ true → case_file (case_in bs) ≡ bs

unfoldable pub ReadsBack : Type 0
ReadsBack =
    (c : Case) → Sound c → Within c → c.file_edges ≡ length c.graph.edges → all_rise none c.graph.edges ≡ true →
    (accepted (case_file c) ≡ true) × (case_in (case_file c) ≡ c)

-- THE PRODUCT. "There is an edge when some flag combination lets both parts move"
pub record Joint (h : Chart) (k : Claim) (q s r t : ℕ) : Type 0 where
  pub flags : ℕ
  pub below : flags < combinations h
  pub mode : next_mode h q flags ≡ r
  pub claim : claim_moves k flags s t ≡ true

pub record EdgeIn (e : Edge) (g : Graph) : Type 0 where
  pub number : ℕ
  pub below : number < length g.edges
  pub is : edge g number ≡ e

-- what a reader believes of a case: "mode q and claim state c make vertex q × (claim states) + c"; a vertex is accepting
-- exactly if its claim state is, since every mode is, but for "accepting 0 for a product vertex with no edge"; "the owner is
-- the vertex number's remainder by workers"
pub record IsProduct (h : Chart) (k : Claim) (p : ℕ) (c : Case) : Type 0 where
  pub vertices : c.graph.vertices ≡ h.modes * length k.states
  pub source : c.graph.source ≡ h.start * length k.states + k.start
  pub workers : c.workers ≡ p
  pub marks :
      (q s : ℕ) → q < h.modes → s < length k.states →
      let v = q * length k.states + s in mark c.graph v ≡ mark_of ((state k s).accepting && leaves c.graph.edges v)
  pub owners : (v : ℕ) → v < c.graph.vertices → owner c v ≡ v % p
  pub edges : (q s r t : ℕ) → q < h.modes → s < length k.states → r < h.modes → t < length k.states →
      let n = length k.states in EdgeIn (record { from = q * n + s; to = r * n + t }) c.graph ↔ Joint h k q s r t

unfoldable pub OnlyProduct : Type 0
OnlyProduct =
    (h : Chart) (k : Claim) (p : ℕ) (bs : List ℕ) → accepted bs ≡ true → IsProduct h k p (case_in bs) → bs ≡ case_file (product_case h k p)

-- FLIGHTS, what 003's Lemma 3 rests on: at each step one combination of flags takes the chart from mode to mode and the claim
-- from state to state, through these vertices
pub record Step (h : Chart) (k : Claim) (flags v w : ℕ) : Type 0 where
  pub below : flags < combinations h
  pub mode : next_mode h (v / length k.states) flags ≡ w / length k.states
  pub claim : claim_moves k flags (v % length k.states) (w % length k.states) ≡ true

abbrev pub Together : Chart → Claim → (v : ℕ) → (flags vertices : List ℕ) → Type 0
Together h k v [] [] = Unit {0}
Together h k v [] (w ∷ ws) = ⊥
Together h k v (f ∷ fs) [] = ⊥
Together h k v (f ∷ fs) (w ∷ ws) = Step h k f v w × Together h k w fs ws

-- the vertices that a walk comes to
unfoldable pub walk_through : Graph → (walk : List ℕ) → List ℕ
walk_through g [] = []
walk_through g (e ∷ es) = (edge g e).to ∷ walk_through g es

unfoldable pub all_under : (limit : ℕ) → List ℕ → Bool
all_under n [] = true
all_under n (v ∷ vs) = ltb v n && all_under n vs

-- the walks of the product are the flights of the chart that the claim goes along with
unfoldable pub WalksTogether : Type 0
WalksTogether =
    (h : Chart) (k : Claim) (v : ℕ) (es : List ℕ) →
    let g = product_graph h k in is_walk g v es ≡ true → (fs : List ℕ) × Together h k v fs (walk_through g es)

unfoldable pub TogetherWalks : Type 0
TogetherWalks =
    (h : Chart) (k : Claim) (v : ℕ) (fs vs : List ℕ) → let g = product_graph h k in all_under g.vertices (v ∷ vs) ≡ true → Together h k v fs vs →
    (es : List ℕ) × (is_walk g v es ≡ true) × (walk_through g es ≡ vs)

-- THE LISTING judges an answer as the checker does against the case file built, whatever the workers
unfoldable pub StepsCheck : Type 0
StepsCheck =
    (bs cs ts : List ℕ) (p : ℕ) → product_refusal bs cs ≡ 0 → 1 ≤ p → p ≤ most_workers →
    check_refusal (case_file (built_case bs cs p)) ts ≡ answer_refusal (graph_in bs cs) ts

-- it fits the least output
unfoldable pub StepsFit : Type 0
StepsFit = (bs cs ts : List ℕ) (o : ℕ) → steps_refusal bs cs ts o ≡ 0 → length (listing bs cs ts) ≤ least_steps_output

-- THE ENTRIES. Every call gets a listed number; a refused one leaves the output as it was
pub record DefiniteBuilt (r : Built) (o z : List ℕ) : Type 0 where
  pub output : (r.refusal ≡ 0 → ⊥) → z ≡ o
  pub length_zero : (r.refusal ≡ 0 → ⊥) → r.written ≡ 0
  pub no_pair : (r.refusal ≡ 18 → ⊥) → (r.refusal ≡ 19 → ⊥) → (r.mode ≡ 0) × (r.combination ≡ 0)

-- 0, and 14 to 21: of chart and claim
abbrev pub ProductNumber : ℕ → Type 0
ProductNumber n = (n ≡ 0) ⊎ ((14 ≤ n) × (n ≤ 21))

unfoldable pub BuildDefinite : Type 0
BuildDefinite =
    (bs cs : List ℕ) (p : ℕ) (r : Built) (o z : List ℕ) → BuildSays bs cs p r o z →
    DefiniteBuilt r o z × ((r.refusal ≡ 5) ⊎ ((r.refusal ≡ 11) ⊎ ProductNumber r.refusal))

unfoldable pub StepsDefinite : Type 0
StepsDefinite =
    (bs cs ts : List ℕ) (r : Built) (o z : List ℕ) → StepsSay bs cs ts r o z →
    DefiniteBuilt r o z × ((r.refusal ≡ 1) ⊎ ((r.refusal ≡ 3) ⊎ (((11 ≤ r.refusal) × (r.refusal ≤ 13)) ⊎ ProductNumber r.refusal)))

-- "The output is the only case file for that product, and reading it back gives the product but for those marks"
pub record CaseBuilt (h : Chart) (k : Claim) (p : ℕ) (bs : List ℕ) : Type 0 where
  pub taken : accepted bs ≡ true
  pub product : IsProduct h k p (case_in bs)
  pub only : (ds : List ℕ) → accepted ds ≡ true → IsProduct h k p (case_in ds) → ds ≡ bs

unfoldable pub BuildRight : Type 0
BuildRight =
    (bs cs : List ℕ) (p : ℕ) (r : Built) (o z : List ℕ) → BuildSays bs cs p r o z → r.refusal ≡ 0 →
    CaseBuilt (chart_in bs) (claim_in cs) p (take r.written z) × (length z ≡ length o)

-- "For a lasso the checker passes, a listing names each step, on one line for each edge of the answer"; "for an empty that the
-- checker passes, the listing has length 0"
pub record StepsListed (h : Chart) (k : Claim) (ts shown : List ℕ) : Type 0 where
  pub passes : (p : ℕ) → 1 ≤ p → p ≤ most_workers → check_refusal (case_file (product_case h k p)) ts ≡ 0
  pub lasso : answer_verdict ts ≡ lasso_verdict → shown ≡ text (step_rows h k (walk_in ts))
  pub empty : answer_verdict ts ≡ empty_verdict → shown ≡ []

unfoldable pub StepsRight : Type 0
StepsRight =
    (bs cs ts : List ℕ) (r : Built) (o z : List ℕ) → StepsSay bs cs ts r o z → r.refusal ≡ 0 →
    StepsListed (chart_in bs) (claim_in cs) ts (take r.written z) × (length z ≡ length o)
