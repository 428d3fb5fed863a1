-- The examples of claims come out as they are listed: by computation.
use mathlib.Core.Path.{◌≡◌, refl}
use mathlib.Core.Bool.{Bool, true}
use Rattle.text.specs.Lines.{equal, begins}
use Rattle.text.specs.Numbers.{is_digit}
use Rattle.model.specs.Run.{is_some, member}
use Rattle.model.specs.ClaimTokens.{is_blank, is_capital, is_small, is_letter, is_name_byte, is_symbol, begin, digit_more, mark_more, byte, at_end, lex, tokens, is_header, is_name, opens_so, opens}
use Rattle.model.specs.ClaimLabels.{bit, truth, depth_of, negations, extend, close_or, with_atom, deeper, on_name, atom_step, close_step, operator_step, label_step}
use Rattle.model.specs.ClaimGrammar.{state_count, start_state, proposition_names, has_acceptance, below_given, is_plain, all_plain, small_first, item_fits, header_whole, title_fits, has_line, count_in, propositions_in}
use Rattle.model.specs.ClaimTable.{otherwise, on_number, on_string, is_sign, is_any_name, with_item, unless, capital_first, on_header, header_step, named, line_step, edge_step, marks_step, part_step, from_label, step, ended, told, refusal_of, claim_told, claim_refusal}
use Rattle.model.specs.Claim.{state, some_edge, claim_moves, some_target, claim_leads, is_marked, edges_of, state_of_line, line_of, states_from, claim_of, tree_of, claim_in}
use Rattle.model.specs.ClaimRows.{all_so, rows, same_bool, all_move, moves, is_named, is_unnamed, means, watched}

-- to name this on an `unfolding` line is to let every definition compute
unfoldable pub computed : Bool → Bool
unfolding equal begins is_digit member is_some is_blank is_capital is_small is_letter is_name_byte is_symbol begin digit_more mark_more byte at_end lex tokens is_header is_name opens_so opens bit truth state_count start_state proposition_names has_acceptance below_given is_plain all_plain small_first item_fits header_whole title_fits has_line count_in propositions_in otherwise on_number on_string is_sign is_any_name with_item unless capital_first on_header header_step named line_step edge_step marks_step part_step from_label depth_of negations extend close_or with_atom deeper on_name atom_step close_step operator_step label_step step ended told refusal_of claim_told claim_refusal state some_edge claim_moves some_target claim_leads is_marked edges_of state_of_line line_of states_from claim_of tree_of claim_in all_so same_bool all_move is_named is_unnamed means
computed b = b

pub rows_so : all_so rows ≡ true
unfolding computed
rows_so = refl

pub moves_so : all_move moves ≡ true
unfolding computed
moves_so = refl

pub watched_means : means (claim_in watched) ≡ true
unfolding computed
watched_means = refl
