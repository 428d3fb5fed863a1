-- The listing: the steps of a passing lasso by names. Assumes nothing: these are definitions.
use Rattle.std.specs.Prelude.{cond, List, [], ◌∷◌, ◌++◌, ℕ, ◌/◌, ◌%◌, ltb, length, drop}
use Rattle.std.proofs.Math.Option.{Option, none, some}
use Rattle.text.specs.Lines.{lines, line_at, text}
use Rattle.text.specs.Numbers.{decimal}
use Rattle.model.specs.Graph.{edge, rested}
use Rattle.model.specs.CaseFile.{refuse, first_of}
use Rattle.model.specs.Passing.{says_lasso, stem_in, cycle_in, answer_refusal}
use Rattle.model.specs.Claim.{Claim, state, claim_in}
use Rattle.model.specs.Chart.{Chart, mode_name, chart_in}
use Rattle.model.specs.Product.{product_graph, graph_in, product_refusal}

-- "the name printed is part of the chart or of the claim, as stored there, without quotes; an unnamed claim state
-- prints its number"
unfoldable pub shown : (name : Option (List ℕ)) → (number : ℕ) → List ℕ
shown none c = decimal c
shown (some w) c = w

-- "the mode, a space and the claim state that the edge leaves"
unfoldable pub step_row : Chart → Claim → (vertex : ℕ) → List (List ℕ)
step_row h k v =
    let n = length k.states in
    mode_name h (v / n) ∷ shown (state k (v % n)).name (v % n) ∷ []

-- "on one line for each edge of the answer"; the edge may be a rest loop, which leaves its vertex
unfoldable pub step_rows : Chart → Claim → (walk : List ℕ) → List (List (List ℕ))
step_rows h k [] = []
step_rows h k (e ∷ es) = step_row h k (edge (rested (product_graph h k)) e).from ∷ step_rows h k es

-- the edges that an answer lists, stem first; "for an empty the listing has length 0"
unfoldable pub walk_in : (answer : List ℕ) → List ℕ
walk_in ts = let ls = lines ts in let h = line_at ls 1 in cond (says_lasso h) (stem_in h (drop 3 ls) ++ cycle_in h (drop 3 ls)) []

unfoldable pub steps_text : Chart → Claim → (answer : List ℕ) → List ℕ
steps_text h k ts = text (step_rows h k (walk_in ts))

-- "It and the listing each need an output of 65,536 bytes, else number 11"; a constant of its own, since it is about lines and
-- not about case files
abbrev pub least_steps_output : ℕ
least_steps_output = 65536

-- the listing of two texts, a chart's and a claim's
abbrev pub listing : (chart claim answer : List ℕ) → List ℕ
listing bs cs ts = steps_text (chart_in bs) (claim_in cs) ts

-- 20 and 21 come "before the listing reads its answer", which is judged as the checker judges it
unfoldable pub steps_refusal : (chart claim answer : List ℕ) → (output : ℕ) → ℕ
steps_refusal bs cs ts o =
    first_of (refuse (ltb o least_steps_output) 11 ∷ product_refusal bs cs ∷ answer_refusal (graph_in bs cs) ts ∷ [])
