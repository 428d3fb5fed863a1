-- `checker::listing::vertex_lines`: what is left of the lines decides as the whole does.
use native.Mathlib.Omega.{arith}
use mathlib.Core.Path.{◌∙◌, sym}
use mir.Facts.{to_z-of_z}
use mir.Syntax.{w16}
use mir.Val.{SFits}
use Rattle.std.proofs.Common.{rules}
use Rattle.text.proofs.ReadingSigned.{signed_at, signed_fault}
use Rattle.casefile.proofs.Exits.{none_there}
use Rattle.checker.proofs.Listings.{listing_start, listing_end, listing_torn, listing_wrong, listing_far, in_table, listing_on}
use Rattle.checker.proofs.listing.vertex_lines.Goals as goal

pub loop-init : goal.loop-init
loop-init c = listing_start _ _ _ _ _ c.requires

pub returns-in_err-row : goal.returns-in_err-row
returns-in_err-row c =
    let n = none_there c.from_residual.ensures.1 c.in_err-row.ensures.value in
    rw n.1 (listing_torn c.loop.invariant (omega arith) (signed_fault _ _ c.signed_row.ensures n.0))

pub returns-then-v-least : goal.returns-then-v-least
returns-then-v-least c = listing_wrong c.loop.invariant (omega arith) (signed_at c.signed_row.ensures c.in_ok-row.ensures.ok_part) c.then-v-least.either

pub returns-in_err-number : goal.returns-in_err-number
returns-in_err-number c =
    let n = none_there c.from_residual-in_err-number.ensures.1 c.in_err-number.ensures.value in
    rw n.1 (listing_far c.loop.invariant (omega arith) (signed_at c.signed_row.ensures c.in_ok-row.ensures.ok_part) c.if-v-least.false c.if-n-v.false (sym c.distance.ensures ∙ n.0))

pub bounds-numbers-v : goal.bounds-numbers-v
bounds-numbers-v c = in_table c.loop.invariant (omega arith) (signed_at c.signed_row.ensures c.in_ok-row.ensures.ok_part) c.if-v-least.false c.if-n-v.false

pub loop-preserved : goal.loop-preserved
loop-preserved c =
    let fits : SFits w16 c.in_ok-number.number = search rules in
    rw (to_z-of_z fits)
    (listing_on c.loop.invariant (omega arith) (signed_at c.signed_row.ensures c.in_ok-row.ensures.ok_part) c.if-v-least.false c.if-n-v.false (sym c.distance.ensures ∙ c.in_ok-number.ensures.ok_part))

pub returns : goal.returns
returns c = listing_end c.loop.invariant (omega arith)
