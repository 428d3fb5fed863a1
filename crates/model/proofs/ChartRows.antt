-- The examples of charts come out as they are listed: by computation.
use mathlib.Core.Path.{◌≡◌, refl}
use mathlib.Core.Bool.{Bool, true}
use Rattle.text.specs.Lines.{put_byte, lines, line_at, put_first, fields, field, equal, line_is}
use Rattle.text.specs.Numbers.{is_digit, all_digits, no_leading_zero, is_number, value_from, value, all_numbers, numbers_line, number_at}
use Rattle.model.specs.ClaimTokens.{is_capital, is_small}
use Rattle.model.specs.Chart.{mode_name, combinations, matches, rules_for, pair_refusal, leads_to, next_mode, mode_of, flags_of, refusal_at, first_bad, chart_counts_good, is_alphanumeric, all_alphanumeric, is_name, name_line, names_right, rule_of, rule_good, rules_right, rules_fit, chart_head_right, chart_rest_right, chart_right, texts_of, rules_in, chart_in, chart_says}
use Rattle.model.specs.ChartRows.{is_charted, all_charted, times, rows}

-- to name this on an `unfolding` line is to let every definition compute
unfoldable pub computed : Bool → Bool
unfolding put_byte lines line_at put_first fields field equal line_is is_digit all_digits no_leading_zero is_number value_from value all_numbers numbers_line number_at mode_name combinations matches rules_for pair_refusal leads_to next_mode mode_of flags_of refusal_at first_bad chart_counts_good is_capital is_small is_alphanumeric all_alphanumeric is_name name_line names_right rule_of rule_good rules_right rules_fit chart_head_right chart_rest_right chart_right texts_of rules_in chart_in chart_says
computed b = b

pub charts_so : all_charted rows ≡ true
unfolding computed is_charted all_charted times
charts_so = refl
