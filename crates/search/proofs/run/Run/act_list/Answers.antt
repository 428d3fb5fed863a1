use native.Mathlib.Omega.{arith}
use Rattle.search.specs.Asks.{ActSays, ListDone}
use Rattle.search.proofs.Acts.{onward_step, onward_done}
use Rattle.search.proofs.run.Run.act_list.Goals as goal

pub act-requires : goal.act-requires
act-requires c =
    let s = c.requires in
    let u = c.loop-a.invariant.2 s.case s.state s.rep s.moment s.workers s.below in
    record { case = s.case; state = u.at; rep = u.rep; moment = u.moment; workers = s.workers; below = s.below c.loop-a.a-index (omega arith) }

pub loop-a-preserved : goal.loop-a-preserved
unfolding ActSays
loop-a-preserved c = (
  omega arith,
  omega (arith, c.act.auto.work),
  λ q x rep m w l.
      let u = c.loop-a.invariant.2 q x rep m w l in
      onward_step q x _ _ _ _ _ _ u (omega arith) (c.act.ensures q u.at u.rep u.moment w (l c.loop-a.a-index (omega arith))),
)

pub returns : goal.returns
unfolding ListDone
returns c = λ q x rep m w l. onward_done q x _ _ _ _ (c.loop-a.invariant.2 q x rep m w l) c.loop-a-test.false
