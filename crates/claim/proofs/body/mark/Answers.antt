-- `body::mark` meets its contract. Assumes nothing.
use mathlib.Core.Path.{sym, ◌∙◌}
use native.Mathlib.Omega.{arith}
use Rattle.claim.proofs.Variants.{handed_on}
use Rattle.claim.proofs.Signs.{byte_inside, byte_equal, byte_unequal}
use Rattle.claim.proofs.BodyCode.{mark_none, mark_broken, mark_read}
use Rattle.claim.proofs.body.mark.Goals as goal

pub returns-then-ne : goal.returns-then-ne
returns-then-ne c = mark_none c.past_blanks-here.ensures _ (byte_unequal _ c.byte_at.ensures (sym c.ne.ensures ∙ c.if-ne.true)) _

pub overflow_add-here : goal.overflow_add-here
overflow_add-here c = let h = byte_inside c.args.text.now c.past_blanks-here.result 123 (byte_equal _ c.byte_at.ensures (sym c.ne.ensures ∙ c.if-ne.false)) in omega (arith, h.1)

pub returns-in_err-any : goal.returns-in_err-any
returns-in_err-any c = rw (handed_on c.from_residual.ensures) (mark_broken c.past_blanks-here.ensures _ (byte_equal _ c.byte_at.ensures (sym c.ne.ensures ∙ c.if-ne.false)) _ c.in_err-any.ensures)

pub returns : goal.returns
returns c = rw c.from.ensures (mark_read c.past_blanks-here.ensures _ (byte_equal _ c.byte_at.ensures (sym c.ne.ensures ∙ c.if-ne.false)) _ _ c.in_ok-any.ensures c.requires.c_lt_most_states _ c.requires.claim_cells_in_bounds)
