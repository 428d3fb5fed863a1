use native.Mathlib.Omega.{arith}
use Rattle.search.specs.Asks.{PopSays}
use Rattle.search.proofs.Steps.{link_there, pop_step}
use Rattle.search.proofs.queue.pop.Goals as goal

pub load_below-next-requires : goal.load_below-next-requires
load_below-next-requires c =
    let s = c.requires in
    (omega arith, link_there s.case s.state _ _ _ s.rep s.below)

pub returns : goal.returns
unfolding PopSays
returns c =
    λ q x k r rep pw head.
    rw (c.store_number-2.ensures, c.store_number.ensures) (pop_step q x _ _ _ _ r rep pw head _ c.load_below-next.ensures.0)
