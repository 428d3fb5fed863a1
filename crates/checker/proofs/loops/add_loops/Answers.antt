-- `checker::loops::add_loops`: the loops of the vertices before v stand behind the edges, and those of the others are to come.
use native.Mathlib.Omega.{arith}
use Rattle.checker.proofs.RestLoops.{rests, is_start, adding_start, adding_skip, adding_loop, adding_done}
use Rattle.checker.proofs.loops.add_loops.Goals as goal

pub loop-v-init : goal.loop-v-init
loop-v-init c = (omega arith, λ es e. adding_start e)

pub loop-v-preserved-then-starts-v : goal.loop-v-preserved-then-starts-v
loop-v-preserved-then-starts-v c =
    let i = c.loop-v.invariant in
    (omega (arith, i.0), λ es e. adding_skip (i.1 es e) c.loop-v-test.true (is_start e c.requires.1 _ c.if-starts-v.true))

pub overflow_add-k : goal.overflow_add-k
overflow_add-k c =
    let pre = c.requires in
    omega (arith, c.loop-v-test.true, c.loop-v.invariant.0, pre.0.few_vertices, pre.0.few_edges)

pub loop-v-preserved : goal.loop-v-preserved
loop-v-preserved c =
    let i = c.loop-v.invariant in
    let pre = c.requires in
    let t = c.loop-v-test.true in (
      omega (arith, i.0),
      λ es e.
          adding_loop (i.1 es e) t (rests e pre.1 _ (omega (arith, pre.2)) c.if-starts-v.false)
          (omega (arith, i.0, c.loop-v.auto.froms, pre.0.few_vertices, pre.0.few_edges, pre.0.from_room)) (omega (arith, i.0, c.loop-v.auto.tos, pre.0.few_vertices, pre.0.few_edges, pre.0.to_room)) c.put.ensures c.put-in-loop-v.ensures,
    )

pub returns : goal.returns
returns c = λ g q e. adding_done g q (c.loop-v.invariant.1 _ e) c.loop-v-test.false
