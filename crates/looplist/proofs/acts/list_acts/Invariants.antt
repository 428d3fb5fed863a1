-- `acts::list_acts`: what is still to read gives the whole; each act takes the place past it.

use Rattle.looplist.proofs.Listing.{ListsOn}
use Rattle.looplist.proofs.acts.list_acts.Given as goal

abbrev pub invariant-loop-count : goal.invariant-loop-count
invariant-loop-count l = ListsOn l.text l.at l.count l.initial.acts l.acts
