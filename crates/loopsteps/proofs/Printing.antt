-- From what listing says to what is printed. Assumes nothing.
use mathlib.Core.Path.{◌≡◌, refl}
use mathlib.Core.List.{List}
use Prim.Native.Nat.{ℕ, ◌≤◌}
use native.Mathlib.Omega.{arith}
use lib.ListN.{length}
use borrow.Author.Tests.{le-ltb}
use Rattle.std.specs.Prelude.{Some}
use Rattle.text.specs.declared.write.Writer.{Writer}
use Rattle.text.specs.Writing.{written}
use Rattle.model.specs.Chart.{chart_says}
use Rattle.model.specs.Steps.{listing, least_steps_output, steps_refusal}
use Rattle.model.specs.BuiltEntry.{BuiltSays, StepsSay}
use Rattle.model.specs.declared.Built.{Built}
use Rattle.desk.specs.Lines.{Finishes}
use Rattle.desk.proofs.Built.{page_shows}
use Rattle.loopsteps.specs.Printing.{page_room, printed}

-- a longer page changes no refusal
same_refusal : (bs cs ts : List ℕ) (o : ℕ) → page_room ≤ o → steps_refusal bs cs ts o ≡ steps_refusal bs cs ts page_room
unfolding steps_refusal
same_refusal bs cs ts o h = rw (le-ltb o least_steps_output h) refl

module _ (bs cs ts : List ℕ) (b : Built) (o : List ℕ) (w : Writer) (s : StepsSay bs cs ts b o w.output.now) (room : page_room ≤ length o) where
  says : BuiltSays (steps_refusal bs cs ts page_room) (chart_says bs) (listing bs cs ts) b o w.output.now
  unfolding StepsSay
  says = rw (← same_refusal bs cs ts (length o) room) s

  pub shows : {v : Writer} → Finishes b w v → w.end ≡ Some 0 → written v ≡ printed bs cs ts
  unfolding printed
  shows f e = page_shows says f e (omega arith)
