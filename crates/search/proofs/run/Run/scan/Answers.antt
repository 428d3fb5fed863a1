use mathlib.Core.Path.{◌≡◌, refl, sym, ap, ◌∙◌}
use Prim.Native.Nat.{ℕ, ◌+◌, ◌-◌, ◌<◌}
use native.Mathlib.Omega.{arith}
use lib.IntN.{pos, neg_ℤ}
use mir.Syntax.{w32}
use mir.Val.{SFits, to_z, of_z}
use mir.Facts.{to_z-of_z}
use Rattle.model.specs.Graph.{mark}
use Rattle.model.specs.Case.{Case, owner}
use Rattle.model.specs.Run.{State, scan_edge}
use Rattle.search.specs.Asks.{RangeSays, OfferedIs, EdgeSays, ScanSays}
use Rattle.search.specs.Rep.{Own, Laid, Rep}
use Rattle.search.proofs.Ranges.{Halfway, half_start, half_step, half_broken, half_done, depth_is, room_step}
use Rattle.search.proofs.Steps.{owner_there, owner_is}
use Rattle.search.proofs.Acts.{broken_some, broken_none}
use Rattle.search.proofs.run.Run.scan.Goals as goal
use Rattle.search.proofs.run.Run.scan.Goals.{At-loop-e}

pub load_below-own-requires : goal.load_below-own-requires
load_below-own-requires c = let s = c.requires in (omega arith, owner_there s.case _ _ s.rep.held.laid s.below)

pub offered-offer-requires : goal.offered-offer-requires
offered-offer-requires c =
    let s = c.requires in
    record { case = s.case; depth = s.depth; laid = s.rep.held.laid; below = s.below; is = to_z-of_z c.ranges.d ∙ s.is; low = s.low }

pub edges_of-edges-requires : goal.edges_of-edges-requires
edges_of-edges-requires c = let s = c.requires in record { case = s.case; laid = s.rep.held.laid; below = s.below }

pub loop-e-init : goal.loop-e-init
unfolding RangeSays
loop-e-init c =
    let s = c.requires in
    let own = c.edges_of-edges.ensures s.case s.rep.held.laid s.below in
    (own.order, refl, λ q x o rep own p i. half_start q x _ o _ _ own _ _ rep, omega arith, record { sent = omega (arith, own.below, s.room.sent); joined = omega (arith, own.below, s.room.joined) })

-- where an edge is to be scanned, or none is left
module _ (c : At-loop-e) where
  ranged : (q : Case) → Laid q c.args.work.now → c.args.v < q.graph.vertices → Own q c.args.v c.edges_of-edges.result.start c.edges_of-edges.result.end
  unfolding RangeSays
  ranged q laid h = c.edges_of-edges.ensures q laid h

  offer-is : (q : Case) (o : ℕ) → Laid q c.args.work.now → c.args.v < q.graph.vertices → c.args.d ≡ neg_ℤ (pos o) → to_z w32 (of_z w32 c.offered-offer.result) ≡ neg_ℤ (pos (o + mark q.graph c.args.v))
  unfolding OfferedIs
  offer-is q o laid h d =
      let fits : SFits w32 c.offered-offer.result = record { sfits = c.offered-offer.type_inv } in
      to_z-of_z fits ∙ c.offered-offer.ensures q o laid h (to_z-of_z c.ranges.d ∙ d)

  owned : (q : Case) → Laid q c.args.work.now → c.args.v < q.graph.vertices → owner q c.args.v ≡ c.load_below-own.result
  owned q laid h = owner_is q _ _ laid h _ c.load_below-own.ensures.0

  so_far : (q : Case) (x : State) (o : ℕ) → Rep q x c.args.self.now c.args.work.now → c.args.v < q.graph.vertices → c.args.d ≡ neg_ℤ (pos o) → Halfway q x c.args.v o c.loop-e.e c.loop-e.self c.loop-e.work
  so_far q x o rep h d = let l = rep.held.laid in c.loop-e.invariant.2 q x o rep (ranged q l h) (owned q l h) (offer-is q o l h d)

pub returns-then-is_some : goal.returns-then-is_some
unfolding ScanSays
returns-then-is_some c =
    λ q x o rep h d.
    let a = (goal.at.returns-then-is_some c).At-loop-e in
    let u = so_far a q x o rep h d in
    half_broken q x _ o _ _ (ranged a q rep.held.laid h) _ _ _ u (broken_some u.rep c.is_some.ensures c.if-is_some.true)

pub scan_edge-requires : goal.scan_edge-requires
scan_edge-requires c =
    let a = (goal.at.scan_edge-requires c).At-loop-e in
    let s = c.requires in
    let u = so_far a s.case s.state s.depth s.rep s.below s.is in
    let test = c.loop-e-test.true in
    record {
      offer = record {
        case = s.case;
        state = u.at;
        offer = s.depth + mark s.case.graph c.args.v;
        rep = u.rep;
        below = omega (arith, (ranged a s.case s.rep.held.laid s.below).below, test);
        is = offer-is a s.case s.depth s.rep.held.laid s.below s.is;
      };
      room = record { sent = omega (arith, c.loop-e.invariant.4.sent, test); joined = omega (arith, c.loop-e.invariant.4.joined, test) };
    }

pub loop-e-preserved : goal.loop-e-preserved
unfolding EdgeSays
loop-e-preserved c =
    let a = (goal.at.loop-e-preserved c).At-loop-e in
    let test = c.loop-e-test.true in
    let stepped : let v = c.args.v in (q : Case) (x : State) (o : ℕ) → (u : Halfway q x v o c.loop-e.e c.loop-e.self c.loop-e.work) → Own q v c.edges_of-edges.result.start c.edges_of-edges.result.end
    → owner q v ≡ c.load_below-own.result → to_z w32 (of_z w32 c.offered-offer.result) ≡ neg_ℤ (pos (o + mark q.graph v)) → Rep q (scan_edge q v o c.loop-e.e u.at) c.scan_edge.new.self c.scan_edge.new.work = λ q x o u own p i. let e = c.loop-e.e in
    let from = own.inside e c.loop-e.invariant.3 test in
    c.scan_edge.ensures q u.at _ o u.rep (broken_none u.rep c.is_some.ensures c.if-is_some.false) (omega (arith, own.below, test)) from p
    (i ∙ ap (λ (n : ℕ). neg_ℤ (pos (o + n))) (sym (depth_is q _ e from))) in
    let s = c.requires in
    let l = s.rep.held.laid in
    let u = so_far a s.case s.state s.depth s.rep s.below s.is in
    let n = c.edges_of-edges.result.end - (c.loop-e.e + 1) in
    let z : c.edges_of-edges.result.end - c.loop-e.e ≡ n + 1 = omega (arith, test) in (
      omega (arith, test),
      omega (arith, c.scan_edge.auto.work, c.loop-e.invariant.1),
      λ q x o rep own p i. half_step q x _ o _ _ own c.loop-e.e _ _ _ _ (c.loop-e.invariant.2 q x o rep own p i) test (stepped q x o (c.loop-e.invariant.2 q x o rep own p i) own p i),
      omega (arith, c.loop-e.invariant.3),
      room_step c.args.v s.depth c.loop-e.e n u.rep
          (stepped s.case s.state s.depth u (ranged a s.case l s.below) (owned a s.case l s.below) (offer-is a s.case s.depth l s.below s.is)) (rw z at c.loop-e.invariant.4),
    )

pub returns : goal.returns
unfolding ScanSays
returns c =
    λ q x o rep h d.
    let a = (goal.at.returns c).At-loop-e in
    half_done q x _ o _ _ (ranged a q rep.held.laid h) _ _ _ (so_far a q x o rep h d) (omega (arith, c.loop-e-test.false, c.loop-e.invariant.0))
