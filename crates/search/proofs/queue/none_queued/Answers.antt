-- `queue::none_queued` meets its contract: the queues of the workers before w are empty. Assumes nothing.
use mathlib.Core.Path.{sym}
use mathlib.Core.List.{[]}
use native.Mathlib.Omega.{arith}
use lib.ListN.{get_or}
use Rattle.search.specs.Asks.{QueuesSay}
use Rattle.search.proofs.Steps.{head_there, head_is}
use Rattle.search.proofs.Queues.{link_one, some_vertex, all_empty, one_more}
use Rattle.search.proofs.queue.none_queued.Goals as goal

pub load_below-head-requires : goal.load_below-head-requires
load_below-head-requires c =
    let s = c.requires in
    let l = s.rep.held.laid in (
      omega (arith, l.long, s.workers, l.within.workers, c.loop-w-test.true),
      head_there s.case s.state _ _ _ s.rep (omega (arith, s.workers, c.loop-w-test.true)),
    )

pub returns-then-head-ne-QUEUE_END : goal.returns-then-head-ne-QUEUE_END
unfolding QueuesSay
returns-then-head-ne-QUEUE_END c =
    λ q x k rep e.
    some_vertex x.queues _ _ (head_is q x _ _ _ rep (omega (arith, c.loop-w-test.true)) _ c.load_below-head.ensures.0) c.if-head-ne-QUEUE_END.true

pub loop-w-preserved : goal.loop-w-preserved
loop-w-preserved c = (
  omega (arith, c.loop-w-test.true),
  λ q x k rep e.
      one_more x.queues c.loop-w.w (c.loop-w.invariant.1 q x k rep e)
      (link_one (get_or x.queues c.loop-w.w []) (head_is q x _ _ _ rep (omega (arith, c.loop-w-test.true)) _ (rw c.if-head-ne-QUEUE_END.false at c.load_below-head.ensures.0))),
)

pub returns : goal.returns
unfolding QueuesSay
returns c = λ q x k rep e. sym (all_empty x.queues _ (omega (arith, rep.lined.sized, c.loop-w-test.false)) (λ j h. c.loop-w.invariant.1 q x k rep e j h))
