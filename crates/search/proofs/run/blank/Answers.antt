use Rattle.search.specs.Asks.{BlankSays}
use Rattle.search.proofs.Fresh.{rep_blank}
use Rattle.search.proofs.run.blank.Goals as goal

pub returns : goal.returns
unfolding BlankSays
returns c =
    λ q l.
    rep_blank q _ _ _ _ _ _ _ l c.fill.ensures c.fill-2.ensures c.fill-3.ensures c.fill-4.ensures c.fill-5.ensures c.fill-6.ensures
