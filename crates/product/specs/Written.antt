-- The product written as a case file out of the tables into which a chart and a claim were read. Assumes nothing: these are
-- definitions.
use Rattle.std.specs.Prelude.{◌≡◌, cond, List, ℕ, ◌+◌, ◌*◌, ◌%◌, ◌≤◌, ◌<◌, length, get_or, take, replicate}
use Rattle.model.specs.Graph.{Edge, leaves, table_of}
use Rattle.model.specs.Case.{Case, most_vertices}
use Rattle.model.specs.Claim.{Claim, state}
use Rattle.model.specs.ClaimEntry.{mark_of}
use Rattle.model.specs.Chart.{Chart}
use Rattle.model.specs.Product.{remainder_by}
use Rattle.product.specs.Tables.{tabled}
use Rattle.product.specs.Edges.{Given}
use Rattle.product.specs.declared.edges.Sizes.{Sizes}

-- the mark of a vertex that an edge leaves is that of its claim state, in the claim's first cells; "accepting 0 for a product
-- vertex with no edge"
unfoldable pub mark_by : (cells : List ℕ) → List Edge → (states v : ℕ) → ℕ
mark_by cs es n v = cond (leaves es v) (get_or cs (v % n) 0) 0

pub record MarksAsk (states : ℕ) (cells marks : List ℕ) : Type 0 where
  pub some_states : 1 ≤ states
  pub states_long : states ≤ length cells
  pub fresh : marks ≡ replicate most_vertices 0

pub record StartsMarked (states : ℕ) (cells : List ℕ) (edges : List Edge) (marks : List ℕ) : Type 0 where
  pub marked : (n : ℕ) → n ≤ most_vertices → take n marks ≡ table_of (mark_by cells edges states) n 0

-- THE CASE with these edges
unfoldable pub case_by : Sizes → (workers : ℕ) → (cells : List ℕ) → List Edge → Case
case_by z p cs es =
    let n = z.modes * z.states in
    tabled z.source p (table_of (mark_by cs es z.states) n 0) (table_of (remainder_by p) n 0) es

-- THE TABLES of a chart and a claim, and the product's counts
pub record Held (h : Chart) (k : Claim) (z : Sizes) (follow cells : List ℕ) : Type 0 where
  pub given : Given h k z follow cells
  pub source : z.source ≡ h.start * length k.states + k.start
  pub marks : (s : ℕ) → s < length k.states → get_or cells s 0 ≡ mark_of (state k s).accepting
