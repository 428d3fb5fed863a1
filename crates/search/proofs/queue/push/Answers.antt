use mathlib.Core.Path.{◌≡◌, ap, ◌∙◌}
use Prim.Native.Nat.{◌+◌}
use native.Mathlib.Omega.{arith}
use lib.ListN.{get_or}
use lib.IntN.{pos}
use Rattle.search.specs.Asks.{PushSays}
use Rattle.search.specs.Cells.{link_at}
use Rattle.search.proofs.Steps.{owner_there, head_there, link_there, push_kept, worker_below, push_first, push_next, tail_there}
use Rattle.search.proofs.queue.push.Goals as goal

pub load_below-next-requires : goal.load_below-next-requires
load_below-next-requires c =
    let s = c.requires in
    (omega arith, link_there s.case s.state _ _ _ s.rep s.below)

pub returns-then-next-ne-NOT_QUEUED : goal.returns-then-next-ne-NOT_QUEUED
unfolding PushSays
returns-then-next-ne-NOT_QUEUED c = λ q x k rep below. push_kept q x _ _ _ rep below _ c.load_below-next.ensures.0 c.if-next-ne-NOT_QUEUED.true

pub load_below-p-requires : goal.load_below-p-requires
load_below-p-requires c =
    let s = c.requires in
    (omega arith, owner_there s.case _ _ s.rep.held.laid s.below)

pub load_below-head-requires : goal.load_below-head-requires
load_below-head-requires c =
    let free : get_or c.args.work.now (link_at + c.args.v) (pos 0) ≡ pos 0 = c.load_below-next.ensures.0 ∙ ap pos c.if-next-ne-NOT_QUEUED.false in
    let s = c.requires in
    (omega arith, head_there s.case s.state _ _ _ s.rep (worker_below s.case s.state _ _ _ s.rep s.below _ free c.load_below-p.ensures.0))

pub returns-then-head-eq-QUEUE_END : goal.returns-then-head-eq-QUEUE_END
unfolding PushSays
returns-then-head-eq-QUEUE_END c =
    let free : get_or c.args.work.now (link_at + c.args.v) (pos 0) ≡ pos 0 = c.load_below-next.ensures.0 ∙ ap pos c.if-next-ne-NOT_QUEUED.false in
    λ q x k rep below.
    rw (c.store_number-then-head-eq-QUEUE_END-2.ensures, c.store_number-then-head-eq-QUEUE_END.ensures, c.store_number.ensures)
    (push_first q x _ _ _ rep below _ free c.load_below-p.ensures.0 (c.load_below-head.ensures.0 ∙ ap pos c.if-head-eq-QUEUE_END.true))

pub load_below-tail-requires : goal.load_below-tail-requires
load_below-tail-requires c =
    let free : get_or c.args.work.now (link_at + c.args.v) (pos 0) ≡ pos 0 = c.load_below-next.ensures.0 ∙ ap pos c.if-next-ne-NOT_QUEUED.false in
    let s = c.requires in
    (omega arith, tail_there s.case s.state _ _ _ s.rep s.below _ free c.load_below-p.ensures.0 _ c.load_below-head.ensures.0 c.if-head-eq-QUEUE_END.false)

pub returns : goal.returns
unfolding PushSays
returns c =
    let free : get_or c.args.work.now (link_at + c.args.v) (pos 0) ≡ pos 0 = c.load_below-next.ensures.0 ∙ ap pos c.if-next-ne-NOT_QUEUED.false in
    λ q x k rep below.
    rw (c.store_number-4.ensures, c.store_number-3.ensures, c.store_number-2.ensures)
    (push_next q x _ _ _ rep below _ free c.load_below-p.ensures.0 _ _ c.load_below-head.ensures.0 c.if-head-eq-QUEUE_END.false c.load_below-tail.ensures.0)
