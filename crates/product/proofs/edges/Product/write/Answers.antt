-- `write` meets its contract: the vertices' tables are filled, and their fronts written.
use native.Mathlib.Omega.{arith}
use lib.Seq.{length-take-le}
use Rattle.product.proofs.EdgeTables.{few_vertices}
use Rattle.product.proofs.Writing.{case_puts}
use Rattle.product.proofs.edges.Product.write.Goals as goal

pub returns-clause-file : goal.returns-clause-file
returns-clause-file c =
    let few = few_vertices c.args.self.now.asks in
    rw (← c.as_slice-edges.ensures.ends) (case_puts _ _ _ _ _ (omega arith) c.mark_starts.ensures c.fill_owners.ensures (length-take-le _ _ (omega arith)) c.write_case.ensures.file)
