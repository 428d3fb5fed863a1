-- What `casebuild` prints of a chart and a claim. Assumes nothing: these are definitions.
use Rattle.std.specs.Prelude.{cond, List, ℕ, eqb}
use Rattle.model.specs.CaseText.{case_file}
use Rattle.model.specs.Chart.{chart_says}
use Rattle.model.specs.Product.{built_case, least_case_output, build_refusal}
use Rattle.desk.specs.Lines.{refused_lines}

-- all of it has room here
abbrev pub page_room : ℕ
page_room = least_case_output

-- the case file; or `refused` and the number, and with 18 and 19 two lines for the pair
unfoldable pub printed : (chart claim : List ℕ) → (workers : ℕ) → List ℕ
printed bs cs p =
    let k = build_refusal bs cs p page_room in
    cond (eqb k 0) (case_file (built_case bs cs p)) (refused_lines k (chart_says bs).mode (chart_says bs).combination)
