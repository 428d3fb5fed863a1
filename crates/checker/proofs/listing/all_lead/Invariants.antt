-- `checker::listing::all_lead`: the edges that are left decide as all do.
use Rattle.checker.proofs.Listings.{Leading}
use Rattle.checker.proofs.listing.all_lead.Given as goal

abbrev pub invariant-loop-e : goal.invariant-loop-e
invariant-loop-e l = Leading l.graph l.numbers l.e
