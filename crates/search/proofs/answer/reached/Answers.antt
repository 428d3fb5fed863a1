-- `reached` meets its contract: at each turn k of v vertices have a distance.
use mathlib.Core.Path.{◌∙◌}
use native.Mathlib.Omega.{arith}
use mir.Facts.{to_z-of_z}
use mir.Syntax.{w32}
use mir.Val.{SFits}
use Rattle.search.proofs.Answers.{counted_start, counted_some, counted_none, counted_end}
use Rattle.search.proofs.answer.reached.Goals as goal
use Rattle.search.proofs.answer.reached.Goals.{then-load-le0, else-load-le0}

pub loop-v-init : goal.loop-v-init
loop-v-init c = counted_start _ _

pub loop-v-preserved : goal.loop-v-preserved
loop-v-preserved c =
    let loaded : SFits w32 c.load.result = record { sfits = c.load.type_inv } in
    elim c.if-load-le0.branch [
      | then-load-le0 w ↦ rw w.k-is (counted_some c.loop-v.invariant c.loop-v-test.true (to_z-of_z loaded ∙ c.load.ensures) w.if-load-le0.true)
      | else-load-le0 w ↦ rw w.k-is (counted_none c.loop-v.invariant c.loop-v-test.true (to_z-of_z loaded ∙ c.load.ensures) w.if-load-le0.false)
    ]

pub returns : goal.returns
returns c = counted_end c.loop-v.invariant (omega arith)
