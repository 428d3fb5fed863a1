-- From what building says to what is printed. Assumes nothing.
use mathlib.Core.Path.{◌≡◌, refl}
use mathlib.Core.List.{List}
use Prim.Native.Nat.{ℕ, ◌≤◌}
use native.Mathlib.Omega.{arith}
use lib.ListN.{length}
use borrow.Author.Tests.{le-ltb}
use Rattle.std.specs.Prelude.{Some}
use Rattle.text.specs.declared.write.Writer.{Writer}
use Rattle.text.specs.Writing.{written}
use Rattle.model.specs.CaseText.{case_file}
use Rattle.model.specs.Chart.{chart_says}
use Rattle.model.specs.Product.{built_case, least_case_output, build_refusal}
use Rattle.model.specs.BuiltEntry.{BuiltSays, BuildSays}
use Rattle.model.specs.declared.Built.{Built}
use Rattle.desk.specs.Lines.{Finishes}
use Rattle.desk.proofs.Built.{page_shows}
use Rattle.casebuild.specs.Printing.{page_room, printed}

-- a longer page changes no refusal
same_refusal : (bs cs : List ℕ) (p o : ℕ) → page_room ≤ o → build_refusal bs cs p o ≡ build_refusal bs cs p page_room
unfolding build_refusal
same_refusal bs cs p o h = rw (le-ltb o least_case_output h) refl

module _ (bs cs : List ℕ) (p : ℕ) (b : Built) (o : List ℕ) (w : Writer) (s : BuildSays bs cs p b o w.output.now) (room : page_room ≤ length o) where
  says : BuiltSays (build_refusal bs cs p page_room) (chart_says bs) (case_file (built_case bs cs p)) b o w.output.now
  unfolding BuildSays
  says = rw (← same_refusal bs cs p (length o) room) s

  pub shows : {v : Writer} → Finishes b w v → w.end ≡ Some 0 → written v ≡ printed bs cs p
  unfolding printed
  shows f e = page_shows says f e (omega arith)
