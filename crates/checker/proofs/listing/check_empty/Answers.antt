-- `checker::listing::check_empty`: the names, the lines, the end, then the rule.
use mathlib.Core.Path.{refl}
use Rattle.text.proofs.Reading.{named_read, named_other}
use Rattle.model.specs.Answer.{empty_names}
use Rattle.casefile.proofs.Exits.{passed_on, none_there}
use Rattle.checker.proofs.Openings.{said, empty_unnamed, empty_lines}
use Rattle.checker.proofs.Listings.{blank, listing_refused, empty_trailed, source_lost, empty_passes, empty_fails}
use Rattle.checker.proofs.listing.check_empty.Goals as goal

pub returns-in_err-rows : goal.returns-in_err-rows
returns-in_err-rows c =
    let n = none_there c.from_residual.ensures.1 c.in_err-rows.ensures.value in
    rw n.1 (empty_unnamed (said c.requires.0) (named_other empty_names _ _ refl c.name_line.ensures n.0))

pub vertex_lines-requires : goal.vertex_lines-requires
vertex_lines-requires c = blank _ c.requires.2

pub returns-in_err-last : goal.returns-in_err-last
returns-in_err-last c =
    let named = named_read refl c.name_line.ensures c.in_ok-rows.ensures.ok_part in
    rw (passed_on c.from_residual-in_err-last.ensures.1) (empty_lines (said c.requires.0) named (listing_refused c.args.answer.now c.in_ok-rows.rows c.args.head.reached c.vertex_lines.new.numbers c.in_err-last.ensures))

pub returns-then-last-answer : goal.returns-then-last-answer
returns-then-last-answer c =
    let named = named_read refl c.name_line.ensures c.in_ok-rows.ensures.ok_part in
    empty_lines (said c.requires.0) named (empty_trailed c.args.answer.now c.in_ok-rows.rows c.args.head.reached c.vertex_lines.new.numbers c.in_ok-last.ensures c.if-last-answer.true)

pub returns-then-is_none : goal.returns-then-is_none
returns-then-is_none c =
    let named = named_read refl c.name_line.ensures c.in_ok-rows.ensures.ok_part in
    empty_lines (said c.requires.0) named (source_lost c.args.answer.now c.in_ok-rows.rows c.args.head.reached c.vertex_lines.new.numbers c.in_ok-last.ensures c.if-last-answer.false c.is_none.result c.number_of.ensures c.is_none.ensures c.if-is_none.true)

pub returns-then-not-all_lead : goal.returns-then-not-all_lead
returns-then-not-all_lead c =
    let named = named_read refl c.name_line.ensures c.in_ok-rows.ensures.ok_part in
    empty_lines (said c.requires.0) named
    (empty_fails c.args.answer.now c.in_ok-rows.rows c.args.head.reached c.vertex_lines.new.numbers c.in_ok-last.ensures c.if-last-answer.false c.is_none.result c.number_of.ensures c.is_none.ensures c.if-is_none.false c.if-not-all_lead.ensures refl)

pub returns : goal.returns
returns c =
    let named = named_read refl c.name_line.ensures c.in_ok-rows.ensures.ok_part in
    empty_lines (said c.requires.0) named
    (empty_passes c.args.answer.now c.in_ok-rows.rows c.args.head.reached c.vertex_lines.new.numbers c.in_ok-last.ensures c.if-last-answer.false c.is_none.result c.number_of.ensures c.is_none.ensures c.if-is_none.false c.if-not-all_lead.ensures refl)
