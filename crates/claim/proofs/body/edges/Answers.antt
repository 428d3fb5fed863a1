-- `body::edges` meets its contract: an edge a turn. Assumes nothing.
use mathlib.Core.Path.{sym, ◌∙◌}
use mathlib.Core.List.{[]}
use native.Mathlib.Omega.{arith}
use Rattle.claim.proofs.Variants.{handed_on}
use Rattle.claim.proofs.Signs.{byte_inside, byte_seen, byte_unseen}
use Rattle.claim.proofs.EdgeCode.{edges_begun, edges_done, edges_broken, edges_ahead, edges_more}
use Rattle.claim.proofs.body.edges.Goals as goal

pub loop-sets-init : goal.loop-sets-init
loop-sets-init c = edges_begun _ _ _ _ _ c.past_blanks-here.ensures

pub overflow_add-here : goal.overflow_add-here
overflow_add-here c = let h = byte_inside c.args.text.now c.loop-sets.here 91 (byte_seen _ c.byte_at.ensures (sym c.eq.ensures ∙ c.loop-sets-test.true)) in omega (arith, h.1)

pub returns-in_err-d : goal.returns-in_err-d
returns-in_err-d c = rw (handed_on c.from_residual.ensures) (edges_broken c.loop-sets.invariant (byte_seen _ c.byte_at.ensures (sym c.eq.ensures ∙ c.loop-sets-test.true)) [] 0 [] [] _ c.in_err-d.ensures)

pub overflow_shl-leads : goal.overflow_shl-leads
overflow_shl-leads c = let h = c.in_ok-d.ensures.2 in omega (arith, h, c.requires.states_le_most_states)

pub loop-sets-smaller : goal.loop-sets-smaller
loop-sets-smaller c = let h = edges_ahead c.loop-sets.invariant (byte_seen _ c.byte_at.ensures (sym c.eq.ensures ∙ c.loop-sets-test.true)) _ _ _ c.in_ok-d.ensures in omega (arith, h.more, h.inside)

pub loop-sets-preserved : goal.loop-sets-preserved
loop-sets-preserved c = edges_more c.loop-sets.invariant (byte_seen _ c.byte_at.ensures (sym c.eq.ensures ∙ c.loop-sets-test.true)) _ _ _ c.in_ok-d.ensures c.requires.states_le_most_states c.edge.auto.sets

pub add_edges-requires : goal.add_edges-requires
add_edges-requires c = let i = c.loop-sets.invariant in record { c_lt_most_states = c.requires.c_lt_most_states; claim_cells_in_bounds = c.requires.claim_cells_in_bounds; sets_in_bounds = omega (arith, i.long); by_index = i.near_all }

pub returns : goal.returns
returns c = edges_done c.loop-sets.invariant _ _ _ (byte_unseen _ c.byte_at.ensures (sym c.eq.ensures ∙ c.loop-sets-test.false)) c.requires.c_lt_most_states c.add_edges.ensures
