use mathlib.Core.Path.{◌≡◌, sym, ap, ◌∙◌}
use Prim.Native.Nat.{◌+◌, ◌<◌}
use native.Mathlib.Omega.{arith}
use lib.ListN.{length}
use mir.Facts.{to_z-of_z}
use Rattle.model.specs.Graph.{edge, edge_depth}
use Rattle.model.specs.Case.{Case, owner}
use Rattle.model.specs.Run.{State}
use Rattle.model.proofs.Shapes.{sent_in}
use Rattle.search.specs.Asks.{SendSays, RelaxSays, EdgeSays}
use Rattle.search.specs.Rep.{Rep}
use Rattle.search.proofs.Steps.{owner_there, owner_is, target_there, target_is, target_below, edge_own, edge_other}
use Rattle.search.proofs.run.Run.scan_edge.Goals as goal

pub load_below-to-requires : goal.load_below-to-requires
load_below-to-requires c =
    let s = c.requires.offer in
    (omega arith, target_there s.case _ _ s.rep.held.laid s.below)

pub load_below-other-requires : goal.load_below-other-requires
load_below-other-requires c =
    let s = c.requires.offer in
    (omega arith, owner_there s.case _ _ s.rep.held.laid (target_below s.case _ _ s.rep.held.laid s.below _ c.load_below-to.ensures.0))

pub relax-requires : goal.relax-requires
relax-requires c =
    let s = c.requires.offer in
    record { case = s.case; state = s.state; offer = s.offer; rep = s.rep; below = s.below; is = to_z-of_z c.ranges.d ∙ s.is }

pub returns-then-other-own : goal.returns-then-other-own
unfolding EdgeSays RelaxSays
returns-then-other-own c =
    let other-is : (q : Case) (x : State) → let a = c.args in
    Rep q x a.self.now a.work.now → a.e < length q.graph.edges
    → owner q (edge q.graph a.e).to ≡ c.load_below-other.result = λ q x rep h. let e = c.args.e in
    let to = c.load_below-to.result in
    let g = c.load_below-to.ensures.0 in
    ap (owner q) (sym (target_is q _ e rep.held.laid h to g)) ∙ owner_is q _ to rep.held.laid (target_below q _ e rep.held.laid h to g) _ c.load_below-other.ensures.0 in
    λ q x v o rep whole h from own d.
    let e = c.args.e in
    rw (edge_own q x e v o whole from (other-is q x rep h ∙ c.if-other-own.true ∙ sym own))
    (c.relax.ensures q x (o + edge_depth q.graph e) rep whole h (to_z-of_z c.ranges.d ∙ d))

pub send-requires : goal.send-requires
send-requires c =
    let s = c.requires.offer in
    record { offer = record { case = s.case; state = s.state; offer = s.offer; rep = s.rep; below = s.below; is = to_z-of_z c.ranges.d ∙ s.is }; room = c.requires.room }

pub returns : goal.returns
unfolding EdgeSays SendSays
returns c =
    let other-is : (q : Case) (x : State) → let a = c.args in
    Rep q x a.self.now a.work.now → a.e < length q.graph.edges
    → owner q (edge q.graph a.e).to ≡ c.load_below-other.result = λ q x rep h. let e = c.args.e in
    let to = c.load_below-to.result in
    let g = c.load_below-to.ensures.0 in
    ap (owner q) (sym (target_is q _ e rep.held.laid h to g)) ∙ owner_is q _ to rep.held.laid (target_below q _ e rep.held.laid h to g) _ c.load_below-other.ensures.0 in
    λ q x v o rep whole h from own d.
    let e = c.args.e in
    rw (edge_other q x e v o whole from (λ i. c.if-other-own.false (sym (other-is q x rep h) ∙ i ∙ own)))
    (c.send.ensures q x (o + edge_depth q.graph e) rep (sent_in q rep.held.laid.sound v e h from (λ i. c.if-other-own.false (sym (other-is q x rep h) ∙ i ∙ own))) (to_z-of_z c.ranges.d ∙ d))
