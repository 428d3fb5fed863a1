-- `search::load::load_loops`: vertex by vertex, each that rests gets its loop.
use mathlib.Core.Path.{◌≡◌}
use Prim.Native.Nat.{◌≤◌}
use lib.ListN.{length}
use Rattle.model.specs.Case.{Case}
use Rattle.search.specs.Loading.{Filed, Looping}
use Rattle.search.proofs.load.load_loops.Given as goal

abbrev pub invariant-loop-v : goal.invariant-loop-v
invariant-loop-v l = (l.v ≤ l.n) × (length l.work ≡ length l.initial.work) × ((c : Case) → Filed c l.initial.work → l.n ≡ c.graph.vertices → l.m ≡ c.file_edges → Looping c l.v l.k l.work)
