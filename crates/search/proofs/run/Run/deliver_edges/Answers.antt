use mathlib.Core.Path.{◌≡◌, sym, ◌∙◌}
use mathlib.Core.List.{List}
use Prim.Native.Nat.{ℕ, ◌+◌, ◌≤◌, ◌<◌}
use native.Mathlib.Omega.{arith}
use lib.ListN.{get_or}
use Rattle.model.specs.Case.{Case}
use Rattle.search.specs.Asks.{DeliverSays, EdgesSay}
use Rattle.search.specs.Rep.{Firsts, Laid}
use Rattle.search.proofs.Ranges.{first_is}
use Rattle.search.proofs.Sweeps.{along_step, along_over, along_done, act_rep, first_same, edges_rep}
use Rattle.search.proofs.Acts.{broken_none, broken_ended}
use Rattle.search.proofs.run.Run.deliver_edges.Goals as goal

pub returns-then-is_some : goal.returns-then-is_some
unfolding EdgesSay
returns-then-is_some c =
    let start_is : (q : Case) (F : List ℕ) → let a = c.args in
    Laid q a.work.now → a.v < q.graph.vertices → Firsts q F → c.load_below-first.result ≡ get_or F a.v 0 = λ q F laid h f. let v = c.args.v in
    let l : v ≤ q.graph.vertices = omega arith in
    sym (first_is q _ v laid l _ c.load_below-first.ensures.0) ∙ first_same q laid.first F v laid.firsts f l in
    let end_is : (q : Case) (F : List ℕ) → Laid q c.args.work.now → c.args.v < q.graph.vertices → Firsts q F → c.load_below-end.result ≡ get_or F (c.args.v + 1) 0 = λ q F laid h f. let v = c.args.v in
    let l : v + 1 ≤ q.graph.vertices = omega arith in
    sym (first_is q _ (v + 1) laid l _ c.load_below-end.ensures.0) ∙ first_same q laid.first F (v + 1) laid.firsts f l in
    let end_low : (q : Case) → Laid q c.args.work.now → c.args.v < q.graph.vertices → c.load_below-end.result ≤ q.file_edges = λ q laid h. omega (arith, end_is q laid.first laid h laid.firsts, laid.firsts.below (c.args.v + 1) (omega arith)) in
    λ q x F rep m w h f.
    let laid = rep.held.laid in
    let u = c.loop-e.invariant.1 q x rep m w (end_low q laid h) in
    edges_rep q x _ _ c.args.p c.load_below-first.result c.load_below-end.result _ _ w (start_is q F laid h f) (end_is q F laid h f)
    (along_over q x _ _ _ _ _ u (broken_ended u.rep c.is_some.ensures c.if-is_some.true))

pub deliver-requires : goal.deliver-requires
deliver-requires c =
    let end_is : (q : Case) (F : List ℕ) → Laid q c.args.work.now → c.args.v < q.graph.vertices → Firsts q F → c.load_below-end.result ≡ get_or F (c.args.v + 1) 0 = λ q F laid h f. let v = c.args.v in
    let l : v + 1 ≤ q.graph.vertices = omega arith in
    sym (first_is q _ (v + 1) laid l _ c.load_below-end.ensures.0) ∙ first_same q laid.first F (v + 1) laid.firsts f l in
    let end_low : (q : Case) → Laid q c.args.work.now → c.args.v < q.graph.vertices → c.load_below-end.result ≤ q.file_edges = λ q laid h. omega (arith, end_is q laid.first laid h laid.firsts, laid.firsts.below (c.args.v + 1) (omega arith)) in
    let s = c.requires in
    let l = end_low s.case s.rep.held.laid s.below in
    let u = c.loop-e.invariant.1 s.case s.state s.rep s.moment s.workers l in
    record { case = s.case; state = u.at; rep = u.rep; moment = u.moment; whole = broken_none u.rep c.is_some.ensures c.if-is_some.false; below = omega (arith, l, c.loop-e-test.true) }

pub loop-e-preserved : goal.loop-e-preserved
unfolding DeliverSays
loop-e-preserved c = (
  omega (arith, c.deliver.auto.work, c.loop-e.invariant.0),
  λ q x rep m w l.
      let p = c.args.p in
      let e = c.loop-e.e in
      let z : p + (e + 1) ≡ p + e + 1 = omega arith in
      let t = c.loop-e-test.true in
      let u = c.loop-e.invariant.1 q x rep m w l in
      let whole = broken_none u.rep c.is_some.ensures c.if-is_some.false in
      rw z (along_step q x _ _ (p + e) _ _ _ _ u (omega arith) (act_rep q e p u.at _ _ w u.moment whole (c.deliver.ensures q u.at u.rep whole (omega arith)))),
)

pub returns : goal.returns
unfolding EdgesSay
returns c =
    let start_is : (q : Case) (F : List ℕ) → let a = c.args in
    Laid q a.work.now → a.v < q.graph.vertices → Firsts q F → c.load_below-first.result ≡ get_or F a.v 0 = λ q F laid h f. let v = c.args.v in
    let l : v ≤ q.graph.vertices = omega arith in
    sym (first_is q _ v laid l _ c.load_below-first.ensures.0) ∙ first_same q laid.first F v laid.firsts f l in
    let end_is : (q : Case) (F : List ℕ) → Laid q c.args.work.now → c.args.v < q.graph.vertices → Firsts q F → c.load_below-end.result ≡ get_or F (c.args.v + 1) 0 = λ q F laid h f. let v = c.args.v in
    let l : v + 1 ≤ q.graph.vertices = omega arith in
    sym (first_is q _ (v + 1) laid l _ c.load_below-end.ensures.0) ∙ first_same q laid.first F (v + 1) laid.firsts f l in
    let end_low : (q : Case) → Laid q c.args.work.now → c.args.v < q.graph.vertices → c.load_below-end.result ≤ q.file_edges = λ q laid h. omega (arith, end_is q laid.first laid h laid.firsts, laid.firsts.below (c.args.v + 1) (omega arith)) in
    λ q x F rep m w h f.
    let laid = rep.held.laid in
    edges_rep q x _ _ c.args.p c.load_below-first.result c.load_below-end.result _ _ w (start_is q F laid h f) (end_is q F laid h f)
    (along_done q x _ _ _ _ _ (c.loop-e.invariant.1 q x rep m w (end_low q laid h)) (omega (arith, c.loop-e-test.false)))
