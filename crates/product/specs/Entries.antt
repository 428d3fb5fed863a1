-- What the two entries ask of what is read, written and checked on the way. Assumes nothing: these are definitions.
use Rattle.std.specs.Prelude.{◌≡◌, Bool, ◌&&◌, List, ℕ, ◌≤◌, leb, length}
use Rattle.model.specs.Graph.{Edge}
use Rattle.model.specs.Case.{most_workers}
use Rattle.model.specs.CaseText.{case_file}
use Rattle.model.specs.Claim.{claim_in}
use Rattle.model.specs.Product.{graph_in, built_case, product_refusal}
use Rattle.model.specs.Steps.{least_steps_output}
use Rattle.claim.specs.Cells.{claim_cells, ClaimHeld}
use Rattle.product.specs.Both.{BothHeld}
use Rattle.product.specs.declared.edges.Sizes.{Sizes}

-- "A worker count outside 01's range gets 5"
unfoldable pub workers_right : ℕ → Bool
workers_right p = leb 1 p && leb p most_workers

-- THE LISTING, once both texts are read
pub record ListAsks (bs cs : List ℕ) (z : Sizes) (follow cells o : List ℕ) : Type 0 where
  pub both : BothHeld bs cs z follow cells
  pub room : least_steps_output ≤ length o

-- and once the case file is written: it, the edges, the counts and the claim's cells
pub record CheckAsks (bs cs case : List ℕ) (z : Sizes) (cells : List ℕ) (edges : List Edge) (o : List ℕ) : Type 0 where
  pub passes : product_refusal bs cs ≡ 0
  pub file : case ≡ case_file (built_case bs cs 1)
  pub ends : edges ≡ (graph_in bs cs).edges
  pub claim : ClaimHeld cs (claim_in cs) cells
  pub roomy : claim_cells ≤ length cells
  pub of_states : z.states ≡ length (claim_in cs).states
  pub of_source : z.source ≡ (graph_in bs cs).source
  pub room : least_steps_output ≤ length o
