-- `search::load_text`: the text in tables, the acts, then the tables in the cells.
use Rattle.std.proofs.Common.{rules}
use mathlib.Core.Path.{sym, ◌∙◌}
use native.Mathlib.Omega.{arith}
use lib.Seq.{length-take-le}
use Rattle.casefile.proofs.Exits.{passed_on}
use Rattle.search.proofs.Entries.{text_refused, counts_few, acts_refused, tables_ask, loops_ask, case_laid}
use Rattle.search.proofs.load_text.Goals as goal

pub returns-in_err-case : goal.returns-in_err-case
returns-in_err-case c =
    rw (passed_on c.from_residual.ensures.1) (text_refused _ c.read_case.ensures.read.answer _ _ c.in_err-case.was)

pub overflow_add-case : goal.overflow_add-case
overflow_add-case c = let f = counts_few _ c.read_case.ensures.read.answer c.in_ok-case.was in omega (arith, f.0, f.1)

pub returns-then-out_of_range : goal.returns-then-out_of_range
returns-then-out_of_range c = acts_refused _ c.read_case.ensures.read.answer c.in_ok-case.was _ _ (sym c.out_of_range.ensures ∙ c.if-out_of_range.true)

pub slice_bounds-marks-end : goal.slice_bounds-marks-end
slice_bounds-marks-end c = omega (arith, (counts_few _ c.read_case.ensures.read.answer c.in_ok-case.was).2)

pub slice_bounds-load_case-end : goal.slice_bounds-load_case-end
slice_bounds-load_case-end c = sym (length-take-le _ _ (omega (arith, (counts_few _ c.read_case.ensures.read.answer c.in_ok-case.was).2)))

pub slice_bounds-owners-end : goal.slice_bounds-owners-end
slice_bounds-owners-end c = omega (arith, (counts_few _ c.read_case.ensures.read.answer c.in_ok-case.was).2)

pub slice_bounds-load_case-end-2 : goal.slice_bounds-load_case-end-2
slice_bounds-load_case-end-2 c = sym (length-take-le _ _ (omega (arith, (counts_few _ c.read_case.ensures.read.answer c.in_ok-case.was).2)))

pub slice_bounds-froms-end : goal.slice_bounds-froms-end
slice_bounds-froms-end c = omega (arith, (counts_few _ c.read_case.ensures.read.answer c.in_ok-case.was).1)

pub slice_bounds-load_case-end-3 : goal.slice_bounds-load_case-end-3
slice_bounds-load_case-end-3 c = sym (length-take-le _ _ (omega (arith, (counts_few _ c.read_case.ensures.read.answer c.in_ok-case.was).1)))

pub slice_bounds-tos-end : goal.slice_bounds-tos-end
slice_bounds-tos-end c = omega (arith, (counts_few _ c.read_case.ensures.read.answer c.in_ok-case.was).1)

pub slice_bounds-load_case-end-4 : goal.slice_bounds-load_case-end-4
slice_bounds-load_case-end-4 c = sym (length-take-le _ _ (omega (arith, (counts_few _ c.read_case.ensures.read.answer c.in_ok-case.was).1)))

pub load_case-accepting-requires : goal.load_case-accepting-requires
load_case-accepting-requires c = tables_ask _ c.read_case.ensures.read c.in_ok-case.was (record { marks = omega arith; owners = omega arith; froms = omega arith; tos = omega arith })
    (record { marks_are = search rules; owners_are = search rules; froms_are = search rules; tos_are = search rules; marks_room = search rules; owners_room = search rules; froms_room = search rules; tos_room = search rules }) c.requires

pub load_loops-edges-requires : goal.load_loops-edges-requires
load_loops-edges-requires c = loops_ask _ c.read_case.ensures.read c.in_ok-case.was (record { marks = omega arith; owners = omega arith; froms = omega arith; tos = omega arith })
    (record { marks_are = search rules; owners_are = search rules; froms_are = search rules; tos_are = search rules; marks_room = search rules; owners_room = search rules; froms_room = search rules; tos_room = search rules }) c.requires c.load_case-accepting.ensures

pub returns : goal.returns
returns c = case_laid _ c.read_case.ensures.read c.in_ok-case.was (record { marks = omega arith; owners = omega arith; froms = omega arith; tos = omega arith })
    (record { marks_are = search rules; owners_are = search rules; froms_are = search rules; tos_are = search rules; marks_room = search rules; owners_room = search rules; froms_room = search rules; tos_room = search rules }) c.requires c.load_case-accepting.ensures _ (sym c.out_of_range.ensures ∙ c.if-out_of_range.false) c.load_loops-edges.ensures c.load_loops-edges.auto.work
