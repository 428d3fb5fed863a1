-- What the functions of src answer, by model's definition of charts. Assumes nothing: these are definitions.
use Rattle.std.specs.Prelude.{◌≡◌, Bool, ◌&&◌, cond, List, ℕ, eqb, length, drop, Option, Some, None, Result, Ok, Err}
use Rattle.text.specs.Lines.{lines, line_at, line_is}
use Rattle.text.specs.Numbers.{number_at}
use Rattle.text.specs.Reading.{line_here, past_line, skip}
use Rattle.model.specs.Chart.{rule_names, name_line, names_right, rules_fit, rules_in, charted, chart_head_right, chart_right, chart_says}
use Rattle.chart.specs.Pairs.{most_pairs, AllMarked, table_after}
use Rattle.model.specs.declared.Charted.{Charted}
use Rattle.chart.specs.declared.Chart.{Chart}
use Rattle.chart.specs.declared.NoChart.{NoChart}
use Rattle.chart.specs.declared.NoChart.TheVariants.{Fault, Bad}

-- NAMES: the line at a place, and so many lines from a place on
unfoldable pub name_here : (text : List ℕ) → (at : ℕ) → Option ℕ
name_here s at = cond (name_line (line_here s at)) (Some (past_line s at)) None

unfoldable pub names_here : (many : ℕ) → (text : List ℕ) → (at : ℕ) → Option ℕ
names_here k s at = cond (names_right k (lines (drop at s))) (Some (skip k s at)) None

-- where the name of a mode stands
abbrev pub name_place : (text : List ℕ) → (mode : ℕ) → ℕ
name_place s q = skip q s (skip 3 s 0)

-- LINES 1 TO 3: the counts, and the place past these lines
unfoldable pub counts_in : (file : List ℕ) → Chart
counts_in bs =
    let h = line_at (lines bs) 1 in
    record { modes = number_at h 1; start = number_at h 2; flags = number_at h 3 }

unfoldable pub head_says : (file : List ℕ) → Option (Chart × ℕ)
head_says bs = cond (chart_head_right bs) (Some (counts_in bs, skip 3 bs 0)) None

-- THE LINES AFTER THEM, from the place of the first name on; where the rules start
abbrev pub rules_place : (text : List ℕ) → (names modes : ℕ) → ℕ
rules_place s at m = past_line s (skip m s at)

unfoldable pub rest_right : (text : List ℕ) → (names modes count : ℕ) → Bool
rest_right s at m c =
    names_right m (lines (drop at s)) && (line_is rule_names (line_here s (skip m s at)) && rules_fit m c (lines (drop (rules_place s at m) s)))

pub record ChartLaid (text : List ℕ) (names modes count : ℕ) (r : Bool) (table : List ℕ) : Type 0 where
  pub answer : r ≡ rest_right text names modes count
  pub long : length table ≡ most_pairs
  pub all : AllMarked r modes count (rules_in (lines (drop (rules_place text names modes) text))) table

-- THE WHOLE: what each answer returns, and the answer
unfoldable pub returned : Result Chart NoChart → Charted
returned (Ok h) = charted 0 0 0
returned (Err Fault) = charted 17 0 0
returned (Err (Bad h c)) = c

unfoldable pub read_says : (file : List ℕ) → Result Chart NoChart
read_says bs =
    let c = chart_says bs in
    cond (chart_right bs) (cond (eqb c.refusal 0) (Ok (counts_in bs)) (Err (Bad (counts_in bs) c))) (Err Fault)

pub record ChartRead (text : List ℕ) (r : Result Chart NoChart) (before after : List ℕ) : Type 0 where
  pub answer : r ≡ read_says text
  pub returns : returned r ≡ chart_says text
  pub table : after ≡ table_after text before
