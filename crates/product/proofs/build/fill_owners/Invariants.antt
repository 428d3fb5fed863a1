-- `fill_owners` meets its contract: at each turn the vertices below v are done.
use Rattle.product.proofs.Writing.{FillingOwners}
use Rattle.product.proofs.build.fill_owners.Given as goal

abbrev pub invariant-loop-v : goal.invariant-loop-v
invariant-loop-v l = FillingOwners l.workers l.v l.owners
