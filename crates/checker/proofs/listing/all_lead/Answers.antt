-- `checker::listing::all_lead`: the edges that are left decide as all do.
use native.Mathlib.Omega.{arith}
use mathlib.Core.Path.{refl}
use Rattle.checker.proofs.Listings.{leading_start, leading_end, leading_on, leading_not}
use Rattle.checker.proofs.listing.all_lead.Goals as goal

pub loop-e-init : goal.loop-e-init
loop-e-init c = leading_start _ _

pub returns-then-not-leads_right : goal.returns-then-not-leads_right
returns-then-not-leads_right c =
    leading_not c.loop-e.invariant (omega arith) c.cell-from.ensures c.cell-to.ensures c.number_of-a.ensures c.number_of-b.ensures c.cell.ensures c.if-not-leads_right.ensures refl

pub loop-e-preserved : goal.loop-e-preserved
loop-e-preserved c =
    leading_on c.loop-e.invariant (omega arith) c.cell-from.ensures c.cell-to.ensures c.number_of-a.ensures c.number_of-b.ensures c.cell.ensures c.if-not-leads_right.ensures refl

pub returns : goal.returns
returns c = leading_end c.loop-e.invariant (omega arith)
