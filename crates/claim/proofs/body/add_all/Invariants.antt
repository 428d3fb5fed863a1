-- `body::add_all` meets its contract: a cell at a time. Assumes nothing.
use Rattle.claim.specs.LabelSays.{all_bits}
use Rattle.claim.proofs.MoveCode.{Adding}
use Rattle.claim.proofs.body.add_all.Given as goal

abbrev pub invariant-loop-i : goal.invariant-loop-i
invariant-loop-i l = Adding l.first l.d all_bits l.initial.cells l.cells l.i
