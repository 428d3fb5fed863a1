-- `checker::listing::vertex_lines`: what is left of the lines decides as the whole does.
use Rattle.checker.proofs.Listings.{Listing}
use Rattle.checker.proofs.listing.vertex_lines.Given as goal

abbrev pub invariant-loop : goal.invariant-loop
invariant-loop l = Listing l.text l.at l.k l.n l.initial.numbers l.here l.counter l.least l.numbers
