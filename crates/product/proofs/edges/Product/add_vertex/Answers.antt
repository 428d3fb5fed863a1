-- `add_vertex` meets its contract: a row is filled, and read off.
use mathlib.Core.Path.{◌∙◌}
use Prim.Native.Nat.{ℕ}
use native.Mathlib.Omega.{arith}
use lib.ListN.{length-replicate}
use Rattle.model.specs.Chart.{most_modes}
use Rattle.product.proofs.EdgeTables.{vertex_asks, vertex_adds}
use Rattle.product.proofs.edges.Product.add_vertex.Goals as goal

pub fill_row-requires : goal.fill_row-requires
fill_row-requires c = vertex_asks c.args.self.now.asks c.requires (omega arith) (omega arith)

pub returns : goal.returns
returns c = vertex_adds c.args.self.now.asks c.requires (omega arith) (omega arith) c.fill_row.ensures (c.fill_row.auto.row ∙ length-replicate {A = ℕ} most_modes 0) c.add_row.ensures
