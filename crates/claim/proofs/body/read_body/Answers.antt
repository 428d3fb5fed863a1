-- `body::read_body` meets its contract: a state line a turn. Assumes nothing.
use mathlib.Core.List.{[]}
use native.Mathlib.Omega.{arith}
use borrow.Author.Rules.{rules}
use Rattle.claim.proofs.Variants.{handed_on}
use Rattle.claim.proofs.BodyWhole.{lines_begun, body_stopped, body_whole, body_broken, lines_ahead, lines_more}
use Rattle.claim.proofs.body.read_body.Goals as goal

pub loop-next-init : goal.loop-next-init
loop-next-init c = lines_begun _ _ _ _ _

pub due_at-requires : goal.due_at-requires
due_at-requires c = c.loop-next.invariant.few

pub returns-in_err-next : goal.returns-in_err-next
returns-in_err-next c = rw (handed_on c.from_residual.ensures) (body_stopped c.loop-next.invariant _ c.in_err-next.ensures)

pub returns : goal.returns
returns c = body_whole c.loop-next.invariant (rw c.in_default.is at c.in_ok-next.ensures)

pub returns-in_err-c : goal.returns-in_err-c
returns-in_err-c c = rw (handed_on c.from_residual-in_err-c.ensures) (body_broken c.loop-next.invariant _ (rw c.in-Some.is at c.in_ok-next.ensures) [] _ c.in_err-c.ensures)

pub overflow_shl-listed : goal.overflow_shl-listed
overflow_shl-listed c = let h = c.in_ok-c.ensures.2 in omega (arith, h, c.requires.states_le_most_states)

pub loop-next-smaller : goal.loop-next-smaller
loop-next-smaller c = let h = lines_ahead c.loop-next.invariant _ (rw c.in-Some.is at c.in_ok-next.ensures) _ _ _ c.in_ok-c.ensures in omega (arith, h.more, h.inside)

pub loop-next-preserved : goal.loop-next-preserved
loop-next-preserved c = lines_more c.loop-next.invariant _ (rw c.in-Some.is at c.in_ok-next.ensures) _ _ _ c.in_ok-c.ensures c.requires.states_le_most_states (search rules)
