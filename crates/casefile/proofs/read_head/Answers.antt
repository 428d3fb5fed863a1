-- `casefile::read_head`: lines 1 to 3, fault by fault.
use mathlib.Core.Path.{refl, sym}
use Rattle.text.proofs.Reading.{named_read, named_other, row_read, row_fault}
use Rattle.model.specs.CaseFile.{head_names, vertex_names}
use Rattle.casefile.proofs.Exits.{none_there}
use Rattle.casefile.proofs.Whole.{opened_with, head_1, head_2, head_3, head_unnamed, head_torn, head_miscounted, head_untitled, head_whole}
use Rattle.casefile.proofs.read_head.Goals as goal

pub returns-then-text-gt-LONGEST_FILE : goal.returns-then-text-gt-LONGEST_FILE
returns-then-text-gt-LONGEST_FILE c = head_1 _ c.if-text-gt-LONGEST_FILE.true

pub returns-then-not-begins_at : goal.returns-then-not-begins_at
returns-then-not-begins_at c = head_2 _ c.if-text-gt-LONGEST_FILE.false (sym c.if-not-begins_at.ensures)

pub returns-then-other_version : goal.returns-then-other_version
returns-then-other_version c = head_3 _ c.if-text-gt-LONGEST_FILE.false (sym c.if-not-begins_at.ensures) (sym c.if-other_version.ensures)

pub returns-in_err-second : goal.returns-in_err-second
returns-in_err-second c =
    let n = none_there c.from_residual.ensures.1 c.in_err-second.ensures.value in
    let o = opened_with c.if-text-gt-LONGEST_FILE.false c.if-not-begins_at.ensures c.if-other_version.ensures in
    rw n.1 (head_unnamed o (named_other head_names _ 0 refl c.name_line.ensures n.0))

pub returns-in_err-row : goal.returns-in_err-row
returns-in_err-row c =
    let n = none_there c.from_residual-in_err-row.ensures.1 c.in_err-row.ensures.value in
    let o = opened_with c.if-text-gt-LONGEST_FILE.false c.if-not-begins_at.ensures c.if-other_version.ensures in
    let named = named_read refl c.name_line.ensures c.in_ok-second.ensures.ok_part in
    rw n.1 (head_torn o named (row_fault 5 _ _ c.numbers_row.ensures n.0))

pub returns-then-not-in_range : goal.returns-then-not-in_range
returns-then-not-in_range c =
    let o = opened_with c.if-text-gt-LONGEST_FILE.false c.if-not-begins_at.ensures c.if-other_version.ensures in
    let named = named_read refl c.name_line.ensures c.in_ok-second.ensures.ok_part in
    head_miscounted o named (row_read 5 c.numbers_row.ensures c.in_ok-row.ensures.ok_part) (sym c.if-not-in_range.ensures)

pub returns-in_err-rows : goal.returns-in_err-rows
returns-in_err-rows c =
    let n = none_there c.from_residual-in_err-rows.ensures.1 c.in_err-rows.ensures.value in
    let o = opened_with c.if-text-gt-LONGEST_FILE.false c.if-not-begins_at.ensures c.if-other_version.ensures in
    let named = named_read refl c.name_line.ensures c.in_ok-second.ensures.ok_part in
    rw n.1 (head_untitled o named (row_read 5 c.numbers_row.ensures c.in_ok-row.ensures.ok_part) (sym c.if-not-in_range.ensures) (named_other vertex_names _ _ refl c.name_line-2.ensures n.0))

pub returns : goal.returns
returns c =
    let o = opened_with c.if-text-gt-LONGEST_FILE.false c.if-not-begins_at.ensures c.if-other_version.ensures in
    let named = named_read refl c.name_line.ensures c.in_ok-second.ensures.ok_part in
    head_whole o named (row_read 5 c.numbers_row.ensures c.in_ok-row.ensures.ok_part) (sym c.if-not-in_range.ensures) (named_read refl c.name_line-2.ensures c.in_ok-rows.ensures.ok_part)
