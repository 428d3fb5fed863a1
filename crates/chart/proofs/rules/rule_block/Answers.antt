-- `rules::rule_block`: what is left of the rules decides as the whole does, and the rules so far stand in the table.
use mathlib.Core.Path.{refl, sym}
use native.Mathlib.Omega.{arith}
use Prim.Native.Nat.{ℕ}
use Rattle.std.proofs.lemmas.List.{length-take}
use Rattle.text.proofs.Reading.{row_read, row_fault}
use Rattle.chart.proofs.Entries.{mode_within, part_marked}
use Rattle.chart.proofs.RuleLines.{bounded, rules_start, rules_end, rules_many, rules_torn, rules_wrong, rules_more}
use Rattle.chart.proofs.rules.rule_block.Goals as goal

pub loop-here-init : goal.loop-here-init
loop-here-init c = rules_start _ _ c.requires

pub returns-then-many-ge-MOST_RULES : goal.returns-then-many-ge-MOST_RULES
returns-then-many-ge-MOST_RULES c = rules_many c.loop-here.invariant (omega arith) c.if-many-ge-MOST_RULES.true

pub returns-in_default : goal.returns-in_default
returns-in_default c = rules_torn c.loop-here.invariant (omega arith) (row_fault 4 _ _ c.numbers_row.ensures c.in_default.is)

pub returns-then-not-good : goal.returns-then-not-good
returns-then-not-good c =
    rules_wrong c.loop-here.invariant (omega arith) (row_read 4 c.numbers_row.ensures c.in-Some.is) (sym c.if-not-good.ensures)

pub slice_bounds-mark_rule-end : goal.slice_bounds-mark_rule-end
slice_bounds-mark_rule-end c = let w = bounded _ _ _ (sym c.if-not-good.ensures) in omega (arith, mode_within c.requires w.mode, c.loop-here.invariant.marked.long)

pub overflow_cast-care : goal.overflow_cast-care
overflow_cast-care c = let w = bounded _ _ _ (sym c.if-not-good.ensures) in omega (arith, w.care, c.requires.few_flags)

pub overflow_cast-value : goal.overflow_cast-value
overflow_cast-value c = let w = bounded _ _ _ (sym c.if-not-good.ensures) in omega (arith, w.care, w.value, c.requires.few_flags)

pub overflow_cast-next : goal.overflow_cast-next
overflow_cast-next c = let w = bounded _ _ _ (sym c.if-not-good.ensures) in omega (arith, w.next, c.requires.few_modes)

pub overflow_add-next : goal.overflow_add-next
overflow_add-next c = let w = bounded _ _ _ (sym c.if-not-good.ensures) in omega (arith, w.next, c.requires.few_modes)

pub mark_rule-requires : goal.mark_rule-requires
mark_rule-requires c =
    let w = bounded _ _ _ (sym c.if-not-good.ensures) in
    (omega (arith, length-take {A = ℕ}, c.requires.few_flags), omega (arith, w.next, c.requires.few_modes))

pub loop-here-preserved : goal.loop-here-preserved
loop-here-preserved c =
    let g = sym c.if-not-good.ensures in
    let w = bounded _ _ _ g in
    rules_more c.loop-here.invariant c.loop-here-test.true (row_read 4 c.numbers_row.ensures c.in-Some.is) c.if-many-ge-MOST_RULES.false g
    (omega (arith, w.next, c.requires.few_modes)) refl
    (part_marked _ (omega arith) (omega (arith, mode_within c.requires w.mode, c.loop-here.invariant.marked.long)) c.mark_rule.ensures)

pub returns : goal.returns
returns c = rules_end c.loop-here.invariant c.loop-here-test.false
