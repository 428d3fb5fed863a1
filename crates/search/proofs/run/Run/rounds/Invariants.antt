-- `rounds::rounds` meets its contract: so many rounds are left, and the run that they leave is the one asked for. Assumes nothing.
use mathlib.Core.Path.{◌≡◌}
use mathlib.Core.Bool.{true}
use Prim.Native.Nat.{◌-◌}
use lib.ListN.{length}
use Rattle.model.specs.Case.{Case}
use Rattle.model.specs.Run.{State, no_message, Moment}
use Rattle.search.specs.Rep.{Rep}
use Rattle.search.proofs.Sweeps.{Left}
use Rattle.search.proofs.run.Run.rounds.Given as goal

abbrev pub invariant-loop : goal.invariant-loop
invariant-loop l = (length l.work ≡ length l.initial.work) × (length l.heads ≡ length l.initial.heads)
    × ((c : Case) (x : State) → Rep c x l.initial.self l.initial.work → Moment c x → l.p ≡ c.workers → no_message x.cells ≡ true → Left c x l.many (l.many - l.counter) l.self l.work)
