-- `checker::opening::read_opening`: fault by fault.
use mathlib.Core.Path.{refl, sym}
use Rattle.text.proofs.Reading.{named_read, named_other}
use Rattle.casefile.proofs.Whole.{opened_with}
use Rattle.casefile.proofs.Exits.{none_there}
use Rattle.model.specs.Answer.{answer_names}
use Rattle.checker.proofs.Openings.{headed, no_head, too_long, no_version, another_version, unnamed, unheaded, miscounted, opens}
use Rattle.checker.proofs.opening.read_opening.Goals as goal

pub returns-then-text-gt-LONGEST_FILE : goal.returns-then-text-gt-LONGEST_FILE
returns-then-text-gt-LONGEST_FILE c = too_long _ c.if-text-gt-LONGEST_FILE.true

pub returns-then-not-begins_at : goal.returns-then-not-begins_at
returns-then-not-begins_at c = no_version _ c.if-text-gt-LONGEST_FILE.false (sym c.if-not-begins_at.ensures)

pub returns-then-other_version : goal.returns-then-other_version
returns-then-other_version c = another_version _ c.if-text-gt-LONGEST_FILE.false (sym c.if-not-begins_at.ensures) (sym c.if-other_version.ensures)

pub returns-in_err-second : goal.returns-in_err-second
returns-in_err-second c =
    let n = none_there c.from_residual.ensures.1 c.in_err-second.ensures.value in
    let o = opened_with c.if-text-gt-LONGEST_FILE.false c.if-not-begins_at.ensures c.if-other_version.ensures in
    rw n.1 (unnamed o (named_other answer_names _ 0 refl c.name_line.ensures n.0))

pub returns-in_err-head : goal.returns-in_err-head
returns-in_err-head c =
    let n = none_there c.from_residual-in_err-head.ensures.1 c.in_err-head.ensures.value in
    let o = opened_with c.if-text-gt-LONGEST_FILE.false c.if-not-begins_at.ensures c.if-other_version.ensures in
    let named = named_read refl c.name_line.ensures c.in_ok-second.ensures.ok_part in
    rw n.1 (unheaded o named (no_head _ _ c.read_head.ensures n.0))

pub returns-then-not-right : goal.returns-then-not-right
returns-then-not-right c =
    let o = opened_with c.if-text-gt-LONGEST_FILE.false c.if-not-begins_at.ensures c.if-other_version.ensures in
    let named = named_read refl c.name_line.ensures c.in_ok-second.ensures.ok_part in
    miscounted o named (headed c.read_head.ensures c.in_ok-head.ensures.ok_part) (sym c.if-not-right.ensures)

pub returns : goal.returns
returns c =
    let o = opened_with c.if-text-gt-LONGEST_FILE.false c.if-not-begins_at.ensures c.if-other_version.ensures in
    let named = named_read refl c.name_line.ensures c.in_ok-second.ensures.ok_part in
    opens o named (headed c.read_head.ensures c.in_ok-head.ensures.ok_part) (sym c.if-not-right.ensures)
