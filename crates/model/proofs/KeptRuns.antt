-- K1 to K11 come out as document 01 says, the runs with messages under way as 02 says, and the examples of refusals as they are listed: both tables by
-- computation.
use mathlib.Core.Path.{◌≡◌, refl}
use mathlib.Core.Bool.{Bool, true}
use Rattle.text.specs.Lines.{put_byte, lines, line_at, put_first, fields, field, equal, begins, line_is, joined, text}
use Rattle.text.specs.Numbers.{is_digit, all_digits, no_leading_zero, is_number, value_from, value, has_minus, without_minus, is_signed, signed_value, all_numbers, numbers_line, number_at, digits, decimal, signed_decimal}
use Rattle.model.specs.Graph.{edge, leaves, loops_from, rested, is_walk, walk_end, leaves_accepting, is_lasso, edge_depth, edge_length, walk_depth, walk_length, total, accepting_count}
use Rattle.model.specs.Case.{owner, resting, most_acts}
use Rattle.model.specs.CaseFile.{refuse, first_of, other_version, counts_good, vertex_good, vertices_refusal, edge_of, edge_good, rises, edges_refusal, case_refusal, accepted, column, edges_in, case_in}
use Rattle.model.specs.Run.{distance, is_some, ended_lasso, has_ended, fresh, takes, member, enqueue, below_floor, relax, lower, scan_edge, scan_from, scan, no_vertex, no_message, depth_or, turn_of, turn, delivery_of, delivery, act, acted, range, round_acts, rounds, by_list, by_rounds}
use Rattle.model.specs.Answer.{one_back, back, cycle_start, with_parent, cycle_from, cycle, with_edge, or_walk, walk_of, walk_or, stem_from, stem, head_row, edge_rows, lasso_text, vertex_rows, empty_text, answer_of, answer}
use Rattle.model.specs.Passing.{says_lasso, says_empty, head_layout, counts_suit, counts_fit, listed_edges_refusal, vertex_layout, above, distance_good, listed_vertices_refusal, number_of, is_listed, leads, all_lead, passes_empty, stem_in, cycle_in, listed_of, listed_in, lasso_refusal, empty_refusal, refusal_against, meant, answer_refusal, check_refusal, answer_verdict}
use Rattle.model.specs.Entry.{buffer_refusal, any_at_or_above, acts_refusal, list_refusal, rounds_refusal, verdict, in_front, zeros}
use Rattle.model.specs.KeptRuns.{are_tallies, is_outcome, comes, holds_by, all_hold, refusal_by, all_refused, kept_runs, examples}

-- to name this on an `unfolding` line is to let every definition compute
unfoldable pub computed : Bool → Bool
unfolding put_byte lines line_at put_first fields field equal begins line_is joined text is_digit all_digits no_leading_zero is_number value_from value has_minus without_minus is_signed signed_value all_numbers numbers_line number_at digits decimal signed_decimal edge leaves loops_from rested is_walk walk_end leaves_accepting is_lasso edge_depth edge_length walk_depth walk_length total accepting_count owner resting most_acts refuse first_of other_version counts_good vertex_good vertices_refusal edge_of edge_good rises edges_refusal case_refusal accepted column edges_in case_in distance is_some ended_lasso has_ended fresh takes member enqueue below_floor relax lower scan_edge scan_from scan no_vertex no_message depth_or turn_of turn delivery_of delivery act acted range round_acts rounds by_list by_rounds one_back back cycle_start with_parent cycle_from cycle with_edge or_walk walk_of walk_or stem_from stem head_row edge_rows lasso_text vertex_rows empty_text answer_of answer says_lasso says_empty head_layout counts_suit counts_fit listed_edges_refusal vertex_layout above distance_good listed_vertices_refusal number_of is_listed leads all_lead passes_empty stem_in cycle_in listed_of listed_in lasso_refusal empty_refusal refusal_against meant answer_refusal check_refusal answer_verdict buffer_refusal any_at_or_above acts_refusal list_refusal rounds_refusal verdict in_front zeros are_tallies is_outcome comes holds_by all_hold refusal_by all_refused
computed b = b

pub kept_runs_hold : all_hold kept_runs ≡ true
unfolding computed
kept_runs_hold = refl

pub examples_hold : all_refused examples ≡ true
unfolding computed
examples_hold = refl
