-- What `loopsteps` prints of a chart, a claim and an answer. Assumes nothing: these are definitions.
use Rattle.std.specs.Prelude.{cond, List, ℕ, eqb}
use Rattle.model.specs.Chart.{chart_says}
use Rattle.model.specs.Steps.{listing, least_steps_output, steps_refusal}
use Rattle.desk.specs.Lines.{refused_lines}

-- all of it has room here
abbrev pub page_room : ℕ
page_room = least_steps_output

-- the listing; or `refused` and the number, and with 18 and 19 two lines for the pair
unfoldable pub printed : (chart claim answer : List ℕ) → List ℕ
printed bs cs ts =
    let k = steps_refusal bs cs ts page_room in
    cond (eqb k 0) (listing bs cs ts) (refused_lines k (chart_says bs).mode (chart_says bs).combination)
