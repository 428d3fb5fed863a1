-- `chart::read_head`: lines 1 to 3, fault by fault.
use mathlib.Core.Path.{refl, sym, ◌∙◌}
use Rattle.text.proofs.Reading.{named_read, named_other, row_read, row_fault}
use Rattle.model.specs.Chart.{chart_names, mode_names}
use Rattle.chart.proofs.Whole.{head_long, head_unnamed, head_torn, head_miscounted, head_untitled, head_whole}
use Rattle.chart.proofs.read_head.Goals as goal

pub returns-then-text-gt-LONGEST_FILE : goal.returns-then-text-gt-LONGEST_FILE
returns-then-text-gt-LONGEST_FILE c = head_long _ c.if-text-gt-LONGEST_FILE.true

pub returns-in_err-second : goal.returns-in_err-second
returns-in_err-second c = c.from_residual.ensures ∙ head_unnamed _ (named_other chart_names _ 0 refl c.name_line.ensures c.in_err-second.was)

pub returns-in_err-row : goal.returns-in_err-row
returns-in_err-row c =
    c.from_residual-in_err-row.ensures
    ∙ head_torn (named_read {names = chart_names} refl c.name_line.ensures c.in_ok-second.was) (row_fault 4 _ _ c.numbers_row.ensures c.in_err-row.was)

pub returns-then-not-counts_good : goal.returns-then-not-counts_good
returns-then-not-counts_good c =
    head_miscounted (named_read {names = chart_names} refl c.name_line.ensures c.in_ok-second.was) (row_read 4 c.numbers_row.ensures c.in_ok-row.was)
    (sym c.counts_good.ensures ∙ c.if-not-counts_good.true)

pub returns-in_err-names : goal.returns-in_err-names
returns-in_err-names c =
    c.from_residual-in_err-names.ensures
    ∙ head_untitled (named_read {names = chart_names} refl c.name_line.ensures c.in_ok-second.was) (row_read 4 c.numbers_row.ensures c.in_ok-row.was)
    (named_other mode_names _ _ refl c.name_line-2.ensures c.in_err-names.was)

pub returns : goal.returns
returns c =
    head_whole (named_read {names = chart_names} refl c.name_line.ensures c.in_ok-second.was) (row_read 4 c.numbers_row.ensures c.in_ok-row.was)
    c.if-text-gt-LONGEST_FILE.false (sym c.counts_good.ensures ∙ c.if-not-counts_good.false) (named_read refl c.name_line-2.ensures c.in_ok-names.was)
