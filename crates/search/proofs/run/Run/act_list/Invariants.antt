use mathlib.Core.Path.{◌≡◌}
use Prim.Native.Nat.{ℕ, ◌+◌, ◌≤◌, ◌<◌}
use lib.ListN.{length, get_or}
use Rattle.model.specs.Case.{Case}
use Rattle.model.specs.Run.{State, Moment}
use Rattle.search.specs.Rep.{Rep}
use Rattle.search.proofs.Acts.{Onward}
use Rattle.search.proofs.run.Run.act_list.Given as goal

abbrev pub invariant-loop-a : goal.invariant-loop-a
invariant-loop-a l = (l.a-index ≤ length l.acts) × (length l.work ≡ length l.initial.work)
    × ((c : Case) (x : State) → Rep c x l.initial.self l.initial.work → Moment c x → l.p ≡ c.workers → ((j : ℕ) → j < length l.acts → get_or l.acts j 0 < l.p + c.file_edges) → Onward c x l.acts l.a-index l.self l.work)
