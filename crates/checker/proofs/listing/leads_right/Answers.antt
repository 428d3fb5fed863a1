-- `checker::listing::leads_right`: by what is listed.
use Rattle.std.proofs.Common.{rules}
use mir.Syntax.{w16}
use mir.Val.{SFits}
use Rattle.checker.proofs.Signs.{leads_none, leads_lost, leads_on, sum_near}
use Rattle.checker.proofs.listing.leads_right.Goals as goal

pub returns-in-None-default : goal.returns-in-None-default
returns-in-None-default c = rw c.in-None-default.is-0 (leads_none c.args.mark c.args.b)

pub returns-in-Some-None : goal.returns-in-Some-None
returns-in-Some-None c = rw (c.in-Some-None.is-0, c.in-Some-None.is-1) (leads_lost c.args.mark c.in-Some-None.field-0-0)

pub overflow_add-result : goal.overflow_add-result
overflow_add-result c =
    let a : SFits w16 c.in-Some-Some.a = search rules in
    sum_near c.args.mark a c.from-in-Some-Some.ensures (record { sfits = c.from-in-Some-Some.type_inv }) c.edge_length.ensures (record { sfits = c.edge_length.type_inv })

pub returns-in-Some-Some : goal.returns-in-Some-Some
returns-in-Some-Some c =
    let a : SFits w16 c.in-Some-Some.a = search rules in
    let b : SFits w16 c.in-Some-Some.b = search rules in
    rw (c.in-Some-Some.is-0, c.in-Some-Some.is-1)
    (leads_on c.args.mark a b c.from-in-Some-Some.ensures (record { sfits = c.from-in-Some-Some.type_inv }) c.from.ensures (record { sfits = c.from.type_inv }) c.edge_length.ensures (record { sfits = c.edge_length.type_inv }))
