-- `go_back` meets its contract. The invariant: as far back from u as is left is where n back from v leads.
use mathlib.Core.Path.{◌≡◌, sym, ◌∙◌}
use Prim.Native.Nat.{◌+◌, ◌-◌, ◌<◌}
use native.Mathlib.Omega.{arith}
use Rattle.std.proofs.Math.Nat.{sub-zero}
use Rattle.search.specs.Show.{OneBackIs, Backed}
use Rattle.search.proofs.Cycles.{back_step, back_none, chained_up}
use Rattle.search.proofs.show.go_back.Goals as goal

pub loop-init : goal.loop-init
loop-init c = λ q ps l f. (simp sub-zero, f)

pub one_back-u-requires : goal.one_back-u-requires
one_back-u-requires c =
    let s = c.requires in
    record { case = s.case; parents = s.parents; lies = s.lies; chained = (c.loop.invariant _ _ s.lies s.chained).1 }

pub loop-preserved : goal.loop-preserved
unfolding OneBackIs
loop-preserved c =
    λ q ps l f.
    let i = c.loop.invariant q ps l f in
    let left = c.args.n - c.loop.counter in
    let g : 0 < left = omega arith in
    let one_less : left - 1 ≡ c.args.n - (c.loop.counter + 1) = omega arith in
    rw (c.one_back-u.ensures q ps l i.1, ← one_less) (sym (back_step left q.graph ps c.loop.u g) ∙ i.0, chained_up q.graph ps _ i.1)

pub returns : goal.returns
unfolding Backed
returns c =
    λ q ps l f.
    let z : c.args.n - c.loop.counter ≡ 0 = omega arith in
    let i = c.loop.invariant q ps l f in
    (sym (back_none q.graph ps c.loop.u) ∙ (rw z at i.0), i.1)
