-- What is read of two texts, a chart's and a claim's, before the product is built. Assumes nothing: these are definitions.
use Rattle.std.specs.Prelude.{◌≡◌, not, List, [], ◌∷◌, ℕ, ◌^◌, ◌≤◌, ◌<◌, eqb, length, Result, Ok, Err}
use Rattle.model.specs.CaseFile.{refuse, first_of}
use Rattle.model.specs.ClaimTable.{claim_refusal}
use Rattle.model.specs.Claim.{claim_in}
use Rattle.model.specs.Chart.{chart_in, chart_says}
use Rattle.model.specs.BuiltEntry.{BuiltSays}
use Rattle.claim.specs.Cells.{claim_cells, ClaimHeld}
use Rattle.chart.specs.Pairs.{most_pairs}
use Rattle.product.specs.Refused.{built_as}
use Rattle.product.specs.Edges.{Asks}
use Rattle.product.specs.Written.{Held}
use Rattle.product.specs.declared.edges.Sizes.{Sizes}
use Rattle.product.specs.declared.refused.Refused.{Refused}

-- the refusals of chart and claim but 21, for which the edges are counted
unfoldable pub texts_refusal : (chart claim : List ℕ) → ℕ
texts_refusal bs cs =
    first_of ((chart_says bs).refusal ∷ claim_refusal cs ∷ refuse (not (eqb (claim_in cs).propositions (chart_in bs).flags)) 20 ∷ [])

pub record BothAsks (follow cells : List ℕ) : Type 0 where
  pub follow_long : most_pairs ≤ length follow
  pub cells_long : claim_cells ≤ length cells

-- A CHART AND A CLAIM that nothing refuses, in their tables
pub record BothHeld (bs cs : List ℕ) (z : Sizes) (follow cells : List ℕ) : Type 0 where
  pub passes : texts_refusal bs cs ≡ 0
  pub held : Held (chart_in bs) (claim_in cs) z follow cells
  pub claim : ClaimHeld cs (claim_in cs) cells
  pub tables : Asks z follow cells
  pub near : z.source < 2 ^ 32

-- or what is returned, whatever the output
pub record BothRefused (bs cs : List ℕ) (r : Refused) : Type 0 where
  pub fails : texts_refusal bs cs ≡ 0 → ⊥
  pub says : (text o : List ℕ) → BuiltSays (texts_refusal bs cs) (chart_says bs) text (built_as (Err r)) o o

abbrev pub BothSays : (chart claim : List ℕ) → Result Sizes Refused → (follow cells : List ℕ) → Type 0
BothSays bs cs (Ok z) follow cells = BothHeld bs cs z follow cells
BothSays bs cs (Err r) follow cells = BothRefused bs cs r
