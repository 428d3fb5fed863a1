-- `casefile::read_case`: the first three lines, the vertex lines, the names, the edge lines and the end, fault by fault.
use mathlib.Core.Path.{refl, sym, ◌∙◌}
use Rattle.text.proofs.Reading.{named_read, named_other}
use Rattle.model.specs.CaseFile.{edge_names}
use Rattle.casefile.proofs.Exits.{passed_on, none_there}
use Rattle.casefile.proofs.Whole.{head_stops, headed, vertices_stop, names_stop, rest_place, before_right, edges_refused, end_refused, all_accepted}
use Rattle.casefile.proofs.Tables.{none_read, rows_read, case_read}
use Rattle.casefile.proofs.read_case.Goals as goal

pub returns-in_err-case-clause-read : goal.returns-in_err-case-clause-read
returns-in_err-case-clause-read c =
    rw (passed_on c.from_residual.ensures.1) (none_read (head_stops _ c.in_err-case.ensures) _)

pub returns-in_err-names-clause-read : goal.returns-in_err-names-clause-read
returns-in_err-names-clause-read c =
    let h = headed _ _ _ (sym c.in_ok-case.ensures) in
    rw (passed_on c.from_residual-in_err-names.ensures.1) (rows_read h c.vertex_block.ensures (vertices_stop h (sym c.in_err-names.was ∙ c.vertex_block.ensures.answer)) refl refl)

pub returns-in_err-edge_rows-clause-read : goal.returns-in_err-edge_rows-clause-read
returns-in_err-edge_rows-clause-read c =
    let none = none_there c.from_residual-in_err-edge_rows.ensures.1 c.in_err-edge_rows.ensures.value in
    let v = c.vertex_block.ensures in
    let h = headed _ _ _ (sym c.in_ok-case.ensures) in
    let past = sym c.in_ok-names.was ∙ v.answer in
    rw none.1 (rows_read h v (names_stop h _ past (named_other edge_names _ _ refl c.name_line.ensures none.0)) refl refl)

pub returns-in_err-end-clause-read : goal.returns-in_err-end-clause-read
returns-in_err-end-clause-read c =
    let v = c.vertex_block.ensures in
    let h = headed _ _ _ (sym c.in_ok-case.ensures) in
    let past = sym c.in_ok-names.was ∙ v.answer in
    let title = named_read refl c.name_line.ensures c.in_ok-edge_rows.ensures.ok_part in
    let g = c.edge_block.ensures in
    rw (passed_on c.from_residual-in_err-end.ensures.1) (case_read h v (before_right h _ past _ title) (rest_place h _ past _ title) g (edges_refused h _ past _ title (sym c.in_err-end.was ∙ g.answer)))

pub returns-then-end-text-clause-read : goal.returns-then-end-text-clause-read
returns-then-end-text-clause-read c =
    let v = c.vertex_block.ensures in
    let h = headed _ _ _ (sym c.in_ok-case.ensures) in
    let past = sym c.in_ok-names.was ∙ v.answer in
    let title = named_read refl c.name_line.ensures c.in_ok-edge_rows.ensures.ok_part in
    let g = c.edge_block.ensures in
    case_read h v (before_right h _ past _ title) (rest_place h _ past _ title) g (end_refused h _ past _ title _ (sym c.in_ok-end.was ∙ g.answer) c.if-end-text.true)

pub returns-clause-read : goal.returns-clause-read
returns-clause-read c =
    let v = c.vertex_block.ensures in
    let h = headed _ _ _ (sym c.in_ok-case.ensures) in
    let past = sym c.in_ok-names.was ∙ v.answer in
    let title = named_read refl c.name_line.ensures c.in_ok-edge_rows.ensures.ok_part in
    let g = c.edge_block.ensures in
    case_read h v (before_right h _ past _ title) (rest_place h _ past _ title) g (all_accepted h _ past _ title _ (sym c.in_ok-end.was ∙ g.answer) c.if-end-text.false)
