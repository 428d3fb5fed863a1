-- `claim_moves` meets its contract: a law for each return. Assumes nothing.
use native.Mathlib.Omega.{arith}
use Rattle.claim.proofs.EntryCode.{judged_by, moves_refused, few_flags, moves_far, moves_over, low_state, low_values, moves_in}
use Rattle.claim.proofs.claim_moves.Goals as goal

pub returns-then-c-state : goal.returns-then-c-state
returns-then-c-state c =
    let a = c.args in
    let k = judged_by a.text.now c.read_into.result _ c.read_into.ensures.answer c.in-Ok.is in
    moves_far a.text.now _ k a.state a.values c.if-c-state.true

pub overflow_shl-c : goal.overflow_shl-c
overflow_shl-c c =
    let a = c.args in
    let k = judged_by a.text.now c.read_into.result _ c.read_into.ensures.answer c.in-Ok.is in
    few_flags a.text.now _ k a.state a.values

pub returns-then-c-values : goal.returns-then-c-values
returns-then-c-values c =
    let a = c.args in
    let k = judged_by a.text.now c.read_into.result _ c.read_into.ensures.answer c.in-Ok.is in
    moves_over a.text.now _ k a.state a.values c.if-c-values.true

pub bounds-cells-state : goal.bounds-cells-state
bounds-cells-state c =
    let a = c.args in
    let k = judged_by a.text.now c.read_into.result _ c.read_into.ensures.answer c.in-Ok.is in
    let h = low_state a.text.now _ k a.state a.values c.if-c-state.false c.if-c-values.false in
    let g = low_values a.text.now _ k a.state a.values c.if-c-state.false c.if-c-values.false in
    omega (arith, h, g)

pub returns-in-Err : goal.returns-in-Err
returns-in-Err c =
    let a = c.args in
    moves_refused a.text.now _ a.state a.values (judged_by a.text.now c.read_into.result _ c.read_into.ensures.answer c.in-Err.is)

pub returns-else-c-values : goal.returns-else-c-values
returns-else-c-values c =
    let a = c.args in
    let k = judged_by a.text.now c.read_into.result _ c.read_into.ensures.answer c.in-Ok.is in
    moves_in a.text.now _ k a.state a.values c.if-c-state.false c.if-c-values.false _ c.read_into.ensures.held
