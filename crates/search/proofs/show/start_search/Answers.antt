-- `start_search` meets its contract.
use native.Mathlib.Omega.{arith}
use Rattle.search.specs.Show.{Started}
use Rattle.search.proofs.Frames.{kept_more, kept_set, kept_filled}
use Rattle.search.proofs.Search.{search_start}
use Rattle.search.proofs.show.start_search.Goals as goal

pub returns : goal.returns
unfolding Started
returns c =
    rw (c.store_number-2.ensures, c.store_number.ensures)
    (kept_more _ _ _ _ (kept_filled _ _ _ _ _ _ c.fill.ensures (omega arith)) (kept_more _ _ _ _ (kept_set _ _ _ _ (omega arith)) (kept_set _ _ _ _ (omega arith))), λ q l s n. search_start q _ _ _ _ l s n c.fill.ensures)
