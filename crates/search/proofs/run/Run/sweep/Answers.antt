-- `rounds::sweep` meets its contract: the deliveries on edges of the first i vertices of the list are done, and all before these. Assumes nothing.
use mathlib.Core.Path.{refl, sym, ◌∙◌}
use native.Mathlib.Omega.{arith}
use Rattle.search.specs.Asks.{EdgesSay, SweepSays}
use Rattle.search.proofs.Acts.{sent_most}
use Rattle.search.proofs.Sweeps.{sweep_start, sweep_step, sweep_empty, sweep_done}
use Rattle.search.proofs.run.Run.sweep.Goals as goal

pub loop-head-init : goal.loop-head-init
loop-head-init c = (omega arith, refl, λ q x F rep m e l only f. sweep_start q rep.held.laid.sound F _ f l x _ _ rep m only)

pub none_full-requires : goal.none_full-requires
none_full-requires c =
    let s = c.requires in
    sent_most (c.loop-head.invariant.2 s.case s.state s.rep.held.laid.first s.rep s.moment s.workers s.listed s.only s.rep.held.laid.firsts).rep

pub returns-then-none_full : goal.returns-then-none_full
unfolding SweepSays
returns-then-none_full c =
    λ q x rep m e l only.
    let f = rep.held.laid.firsts in
    sweep_empty q rep.held.laid.sound rep.held.laid.first _ f l (c.loop-head.invariant.2 q x _ rep m e l only f) (sym c.none_full.ensures ∙ c.if-none_full.true)

pub deliver_edges-requires : goal.deliver_edges-requires
deliver_edges-requires c =
    let s = c.requires in
    let u = c.loop-head.invariant.2 s.case s.state s.rep.held.laid.first s.rep s.moment s.workers s.listed s.only s.rep.held.laid.firsts in
    let t = c.loop-head-test.true in
    record { case = s.case; state = u.state; rep = u.rep; moment = u.moment; workers = s.workers; below = omega (arith, s.listed.low _ t, s.listed.high _ t) }

pub loop-head-preserved : goal.loop-head-preserved
unfolding EdgesSay
loop-head-preserved c =
    let v = c.loop-head.invariant in
    let t = c.loop-head-test.true in (
      omega arith,
      omega (arith, c.deliver_edges.auto.work, v.1),
      λ q x F rep m e l only f.
          let u = v.2 q x F rep m e l only f in
          sweep_step q rep.held.laid.sound F _ f l u t (c.deliver_edges.ensures q u.state F u.rep u.moment e (omega (arith, l.low _ t, l.high _ t)) f),
    )

pub returns : goal.returns
unfolding SweepSays
returns c =
    λ q x rep m e l only.
    let f = rep.held.laid.firsts in
    sweep_done q rep.held.laid.sound rep.held.laid.first _ f l (c.loop-head.invariant.2 q x _ rep m e l only f) c.loop-head-test.false
