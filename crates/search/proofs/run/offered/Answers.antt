use mathlib.Core.Path.{◌≡◌, ◌∙◌}
use Prim.Native.Nat.{ℕ, ◌+◌, ◌<◌}
use native.Mathlib.Omega.{arith}
use lib.IntN.{pos, neg_ℤ, ◌+ℤ◌}
use mir.Syntax.{w32}
use mir.Val.{SFits, to_z, of_z}
use mir.Facts.{to_z-of_z}
use Rattle.model.specs.Graph.{mark}
use Rattle.model.specs.Case.{Case}
use Rattle.search.specs.Rep.{Laid}
use Rattle.search.specs.Asks.{OfferedIs}
use Rattle.search.proofs.Steps.{mark_is, length_of, lowered_is, mag_neg}
use Rattle.search.proofs.run.offered.Goals as goal

pub edge_length-length-requires : goal.edge_length-length-requires
edge_length-length-requires c = c.load_below.ensures.1

pub overflow_add-result : goal.overflow_add-result
overflow_add-result c =
    let sum_is : (q : Case) (o : ℕ) → let a = c.args in Laid q a.work.now → a.v < q.graph.vertices → a.d ≡ neg_ℤ (pos o)
    → to_z w32 (of_z w32 a.d) +ℤ to_z w32 (of_z w32 c.edge_length-length.result) ≡ neg_ℤ (pos (o + mark q.graph a.v)) = λ q o laid h d. let f : SFits w32 c.edge_length-length.result = record { sfits = c.edge_length-length.type_inv } in
    rw (to_z-of_z c.ranges.d, to_z-of_z f, d, length_of _ _ c.edge_length-length.ensures, mark_is q _ c.args.v laid h _ c.load_below.ensures.0) (lowered_is o c.load_below.result) in
    let fit : SFits w32 (to_z w32 (of_z w32 c.args.d) +ℤ to_z w32 (of_z w32 c.edge_length-length.result)) = let s = c.requires in
    let v = c.args.v in
    rw (sum_is s.case s.depth s.laid s.below s.is) (record { sfits = omega (arith, mag_neg (s.depth + mark s.case.graph v), s.laid.sound.mark v s.below, s.low) }) in
    fit

pub returns : goal.returns
unfolding OfferedIs
returns c =
    let sum_is : (q : Case) (o : ℕ) → let a = c.args in Laid q a.work.now → a.v < q.graph.vertices → a.d ≡ neg_ℤ (pos o)
    → to_z w32 (of_z w32 a.d) +ℤ to_z w32 (of_z w32 c.edge_length-length.result) ≡ neg_ℤ (pos (o + mark q.graph a.v)) = λ q o laid h d. let f : SFits w32 c.edge_length-length.result = record { sfits = c.edge_length-length.type_inv } in
    rw (to_z-of_z c.ranges.d, to_z-of_z f, d, length_of _ _ c.edge_length-length.ensures, mark_is q _ c.args.v laid h _ c.load_below.ensures.0) (lowered_is o c.load_below.result) in
    let fit : SFits w32 (to_z w32 (of_z w32 c.args.d) +ℤ to_z w32 (of_z w32 c.edge_length-length.result)) = let s = c.requires in
    let v = c.args.v in
    rw (sum_is s.case s.depth s.laid s.below s.is) (record { sfits = omega (arith, mag_neg (s.depth + mark s.case.graph v), s.laid.sound.mark v s.below, s.low) }) in
    λ q o laid h d. to_z-of_z fit ∙ sum_is q o laid h d
