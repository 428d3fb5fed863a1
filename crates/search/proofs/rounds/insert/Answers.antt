-- `rounds::insert` meets its contract: the numbers from i on have moved up by one. Assumes nothing.
use mathlib.Core.Path.{◌≡◌, subst}
use Prim.Native.Nat.{ℕ, ◌+◌, ◌-◌}
use native.Mathlib.Omega.{arith}
use lib.ListN.{set}
use Rattle.search.specs.Asks.{Inserted}
use Rattle.search.proofs.Inserts.{shift_step, shift_done}
use Rattle.search.proofs.rounds.insert.Goals as goal

pub returns-then-list-i : goal.returns-then-list-i
returns-then-list-i c =
    let up : c.loop-i.i - 1 + 1 ≡ c.loop-i.i = omega (arith, c.loop-i-test.true) in
    rw up (shift_done c.loop-i.invariant c.requires (λ b. c.if-list-i.true))

pub loop-i-preserved : goal.loop-i-preserved
loop-i-preserved c =
    let up : c.loop-i.i - 1 + 1 ≡ c.loop-i.i = omega (arith, c.loop-i-test.true) in
    rw up (shift_step c.loop-i.invariant c.requires c.loop-i-test.true c.if-list-i.false)

pub returns : goal.returns
returns c =
    let z : c.loop-i.i ≡ 0 = omega (arith, c.loop-i-test.false) in
    subst (λ (n : ℕ). Inserted c.args.many c.args.h c.args.list.now (set c.loop-i.list n c.args.h)) z
    (shift_done c.loop-i.invariant c.requires (λ b. absurd (omega arith)))
