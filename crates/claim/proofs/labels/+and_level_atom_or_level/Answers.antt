-- `labels::atom`, `and_level` and `or_level` meet their contracts: each call goes deeper, or one level down. Assumes nothing.
use mathlib.Core.Path.{refl, sym, ◌∙◌}
use native.Mathlib.Omega.{arith}
use Rattle.model.specs.ClaimLabels.{not_byte, open_byte}
use Rattle.claim.proofs.Signs.{not_sign, open_sign, close_sign, byte_inside, sign_not, byte_equal, byte_seen, byte_unequal, byte_unseen}
use Rattle.claim.proofs.LabelCode.{nots_none, nots_more, nots_carried, nots_deep, atom_closed, and_first_due, and_broken, and_ended, and_again, and_ahead, or_first_due, or_broken, or_ended, or_again, or_ahead}
use Rattle.claim.proofs.Variants.{handed_on}
use Rattle.claim.proofs.labels.+and_level_atom_or_level.Goals as goal

pub and_level-loop-w-init : goal.and_level-loop-w-init
and_level-loop-w-init t c = and_first_due _ _ _ _ _ refl

pub and_level-returns-in_err-w : goal.and_level-returns-in_err-w
and_level-returns-in_err-w t c = rw (handed_on c.from_residual.ensures) (and_broken _ c.loop-w.invariant _ c.in_err-w.ensures)

pub and_level-returns-then-ne : goal.and_level-returns-then-ne
and_level-returns-then-ne t c = and_ended _ c.loop-w.invariant _ _ c.in_ok-w.ensures _ c.bitand-values.ensures (byte_unequal _ c.byte_at.ensures (sym c.ne.ensures ∙ c.if-ne.true))

pub and_level-loop-w-smaller : goal.and_level-loop-w-smaller
and_level-loop-w-smaller t c = let h = and_ahead _ c.loop-w.invariant _ _ c.in_ok-w.ensures _ c.bitand-values.ensures (byte_equal _ c.byte_at.ensures (sym c.ne.ensures ∙ c.if-ne.false)) in omega (arith, h.more, h.inside)

pub and_level-loop-w-preserved : goal.and_level-loop-w-preserved
and_level-loop-w-preserved t c = and_again _ c.loop-w.invariant _ _ c.in_ok-w.ensures _ c.bitand-values.ensures (byte_equal _ c.byte_at.ensures (sym c.ne.ensures ∙ c.if-ne.false))

pub atom-loop-at-init : goal.atom-loop-at-init
atom-loop-at-init t c = nots_none _ _ _ _ _ c.past_blanks-here.ensures

pub atom-returns-then-down-ge-DEEPEST : goal.atom-returns-then-down-ge-DEEPEST
atom-returns-then-down-ge-DEEPEST t c = nots_deep c.loop-at.invariant not_byte not_sign (byte_seen _ c.byte_at.ensures (sym c.eq.ensures ∙ c.loop-at-test.true)) c.if-down-ge-DEEPEST.true

pub atom-overflow_add-here : goal.atom-overflow_add-here
atom-overflow_add-here t c = omega (arith, (byte_inside _ _ not_byte (byte_seen _ c.byte_at.ensures (sym c.eq.ensures ∙ c.loop-at-test.true))).0)

pub atom-loop-at-smaller : goal.atom-loop-at-smaller
atom-loop-at-smaller t c = let h = (byte_inside _ _ not_byte (byte_seen _ c.byte_at.ensures (sym c.eq.ensures ∙ c.loop-at-test.true))).0 in omega (arith, h, c.past_blanks-here-in-loop-at.ensures.ahead)

pub atom-loop-at-preserved : goal.atom-loop-at-preserved
atom-loop-at-preserved t c = nots_more c.loop-at.invariant (byte_seen _ c.byte_at.ensures (sym c.eq.ensures ∙ c.loop-at-test.true)) c.if-down-ge-DEEPEST.false c.past_blanks-here-in-loop-at.ensures

pub atom-leaf-requires-clause-at_value : goal.atom-leaf-requires-clause-at_value
atom-leaf-requires-clause-at_value t c = sign_not _ _ not_byte c.loop-at.invariant.stops (byte_unseen _ c.byte_at.ensures (sym c.eq.ensures ∙ c.loop-at-test.false))

pub atom-leaf-requires-clause-at_value_2 : goal.atom-leaf-requires-clause-at_value_2
atom-leaf-requires-clause-at_value_2 t c = sign_not _ _ open_byte c.loop-at.invariant.stops (byte_unequal _ c.byte_at-2.ensures (sym c.ne.ensures ∙ c.if-ne.true))

pub atom-returns-then-ne : goal.atom-returns-then-ne
atom-returns-then-ne t c = nots_carried c.loop-at.invariant c.leaf.result c.negated.result c.negated.ensures (c.leaf.ensures _)

pub atom-returns-then-down-ge-DEEPEST-2 : goal.atom-returns-then-down-ge-DEEPEST-2
atom-returns-then-down-ge-DEEPEST-2 t c = nots_deep c.loop-at.invariant open_byte open_sign (byte_equal _ c.byte_at-2.ensures (sym c.ne.ensures ∙ c.if-ne.false)) c.if-down-ge-DEEPEST-2.true

pub atom-overflow_add-here-2 : goal.atom-overflow_add-here-2
atom-overflow_add-here-2 t c = omega (arith, (byte_inside _ _ open_byte (byte_equal _ c.byte_at-2.ensures (sym c.ne.ensures ∙ c.if-ne.false))).0)

pub atom-closed-requires : goal.atom-closed-requires
atom-closed-requires t c = close_sign

pub atom-returns : goal.atom-returns
atom-returns t c = nots_carried c.loop-at.invariant c.closed.result c.negated-2.result c.negated-2.ensures (atom_closed _ _ _ _ (byte_equal _ c.byte_at-2.ensures (sym c.ne.ensures ∙ c.if-ne.false)) c.if-down-ge-DEEPEST-2.false c.or_level-inside.result c.closed.result c.or_level-inside.ensures c.closed.ensures)

pub or_level-loop-w-init : goal.or_level-loop-w-init
or_level-loop-w-init t c = or_first_due _ _ _ _ _ refl

pub or_level-returns-in_err-w : goal.or_level-returns-in_err-w
or_level-returns-in_err-w t c = rw (handed_on c.from_residual.ensures) (or_broken _ c.loop-w.invariant _ c.in_err-w.ensures)

pub or_level-returns-then-ne : goal.or_level-returns-then-ne
or_level-returns-then-ne t c = or_ended _ c.loop-w.invariant _ _ c.in_ok-w.ensures _ c.bitor-values.ensures (byte_unequal _ c.byte_at.ensures (sym c.ne.ensures ∙ c.if-ne.true))

pub or_level-loop-w-smaller : goal.or_level-loop-w-smaller
or_level-loop-w-smaller t c = let h = or_ahead _ c.loop-w.invariant _ _ c.in_ok-w.ensures _ c.bitor-values.ensures (byte_equal _ c.byte_at.ensures (sym c.ne.ensures ∙ c.if-ne.false)) in omega (arith, h.more, h.inside)

pub or_level-loop-w-preserved : goal.or_level-loop-w-preserved
or_level-loop-w-preserved t c = or_again _ c.loop-w.invariant _ _ c.in_ok-w.ensures _ c.bitor-values.ensures (byte_equal _ c.byte_at.ensures (sym c.ne.ensures ∙ c.if-ne.false))
