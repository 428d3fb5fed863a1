-- `search::load::load_loops`: vertex by vertex, each that rests gets its loop.
use mathlib.Core.Path.{◌≡◌, refl}
use native.Mathlib.Omega.{arith}
use Rattle.model.specs.Graph.{rested}
use Rattle.model.specs.Case.{resting}
use Rattle.search.specs.Loading.{LoopSays, LoopsSay}
use Rattle.search.proofs.RestLoops.{loops_start, loops_many, loops_laid}
use Rattle.search.proofs.load.load_loops.Goals as goal

pub loop-v-init : goal.loop-v-init
loop-v-init c = (omega arith, refl, λ q f a b. rw b (loops_start f))

pub load_loop-k-requires : goal.load_loop-k-requires
load_loop-k-requires c =
    let s = c.requires in
    record { case = s.case; looping = c.loop-v.invariant.2 s.case s.filed s.vertices s.edges; below = omega (arith, c.loop-v-test.true, s.vertices) }

pub loop-v-preserved : goal.loop-v-preserved
unfolding LoopSays
loop-v-preserved c =
    let i = c.loop-v.invariant in
    (omega (arith, c.loop-v-test.true), omega (arith, c.load_loop-k.auto.work, i.1), λ q f a b. c.load_loop-k.ensures q (i.2 q f a b) (omega (arith, c.loop-v-test.true, a)))

pub returns : goal.returns
unfolding LoopsSay resting rested
returns c =
    λ q f a b.
    let i = c.loop-v.invariant in
    let v = c.loop-v.v in
    let end : v ≡ q.graph.vertices = omega (arith, i.0, c.loop-v-test.false, a) in
    let l = rw end at (i.2 q f a b) in
    (loops_laid l, loops_many l)
