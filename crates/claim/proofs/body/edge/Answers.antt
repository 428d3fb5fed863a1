-- `body::edge` meets its contract: a law for each return. Assumes nothing.
use mathlib.Core.Path.{sym, ◌∙◌}
use mathlib.Core.List.{[]}
use Rattle.claim.proofs.Variants.{handed_on}
use Rattle.claim.proofs.EdgeCode.{edge_unlabelled, edge_untargeted, edge_far, edge_marked, edge_taken}
use Rattle.claim.proofs.Signs.{byte_seen, byte_unseen}
use Rattle.claim.proofs.body.edge.Goals as goal

pub returns-in_err-w : goal.returns-in_err-w
returns-in_err-w c = let a = c.args in rw (handed_on c.from_residual.ensures) (edge_unlabelled a.text.now a.states a.count a.at [] [] _ c.in_err-w.ensures)

pub returns-in_err-d : goal.returns-in_err-d
returns-in_err-d c = let a = c.args in rw (handed_on c.from_residual-in_err-d.ensures) (edge_untargeted a.text.now a.states a.count a.at [] [] _ _ c.in_ok-w.ensures _ c.in_err-d.ensures)

pub returns-then-states-d : goal.returns-then-states-d
returns-then-states-d c = let a = c.args in edge_far a.text.now a.states a.count a.at [] [] _ _ c.in_ok-w.ensures _ _ c.in_ok-d.ensures c.if-states-d.true

pub returns-then-eq : goal.returns-then-eq
returns-then-eq c =
    let a = c.args in
    edge_marked a.text.now a.states a.count a.at [] [] _ _ c.in_ok-w.ensures _ _ c.in_ok-d.ensures _ c.past_blanks-next.ensures c.if-states-d.false (byte_seen _ c.byte_at.ensures (sym c.eq.ensures ∙ c.if-eq.true))

pub returns : goal.returns
returns c =
    let a = c.args in
    edge_taken a.text.now a.states a.count a.at a.sets.now _ _ _ c.in_ok-w.ensures _ _ c.in_ok-d.ensures _ c.past_blanks-next.ensures c.if-states-d.false (byte_unseen _ c.byte_at.ensures (sym c.eq.ensures ∙ c.if-eq.false)) c.add_values.ensures
