-- What the steps' writer leaves is the listing of a lasso that passes. Assumes nothing.
use mathlib.Core.Path.{◌≡◌, refl, sym, ap, ◌∙◌}
use mathlib.Core.Bool.{true}
use mathlib.Core.List.{List, [], ◌∷◌, map}
use mathlib.Core.Option.{Option, none, some}
use Prim.Native.Nat.{ℕ, zero, suc, ◌*◌, ◌/◌, ◌%◌, ◌≤◌, ◌<◌}
use native.Mathlib.Omega.{arith}
use lib.ListN.{length, get_or, drop, length-drop, get_or-map}
use Rattle.std.proofs.lemmas.List.{length-map}
use lib.Seq.{take_all}
use borrow.Author.Tests.{eq-eqb, ne_eqb}
use Rattle.text.specs.Lines.{Line, lines, line_at, text}
use Rattle.text.specs.Numbers.{numbers_line}
use Rattle.text.proofs.Tests.{both_true}
use Rattle.model.specs.Graph.{Edge, Graph, loop, edge, rested, is_walk}
use Rattle.model.specs.CaseFile.{column}
use Rattle.model.specs.Answer.{lasso_verdict}
use Rattle.model.specs.Passing.{listed_edges_refusal, answer_refusal, answer_verdict}
use Rattle.model.specs.Claim.{state, claim_in, ClaimSound}
use Rattle.model.specs.ClaimEntry.{NameAt}
use Rattle.model.specs.Chart.{chart_right, chart_in}
use Rattle.model.specs.Product.{product, chart_automaton, claim_automaton, graph_of, graph_in}
use Rattle.model.specs.Steps.{shown, step_row, step_rows, walk_in, steps_text, listing}
use Rattle.model.proofs.Pairs.{pair}
use Rattle.model.proofs.Accepting.{first_zero, refuse_not}
use Rattle.model.proofs.Walks.{steps}
use Rattle.model.proofs.Rising.{in_at}
use Rattle.model.proofs.Products.{move_edge}
use Rattle.model.proofs.StepLines.{LassoLines, lasso_lines, walk_walks, rested_to, rested_below}
use Rattle.claim.specs.Cells.{name_cell, length_cell, ClaimHeld}
use Rattle.chart.proofs.Whole.{name_part}
use Rattle.product.specs.Tables.{end_of}
use Rattle.product.specs.Names.{state_text, PlacesFilled, row_by, rows_by, all_single}

-- THE EDGES stand alone on their lines, up to the answer's end
single : (k m : ℕ) (ls : List Line) → listed_edges_refusal k m ls ≡ 0 → length ls ≤ k → all_single ls ≡ true
unfolding all_single listed_edges_refusal line_at
single k m [] e h = refl
single zero m (l ∷ ls) e h = absurd (omega arith)
single (suc k) m (l ∷ ls) e h =
    let a = first_zero _ _ e in
    both_true (numbers_line 1 l) (all_single ls) (refuse_not _ 11 a.0) (single k m ls (first_zero _ _ (first_zero _ _ a.1).1).0 (omega arith))

-- where an edge leads, by the graph and by the graph with its rest loops
end_is : (g : Graph) (e : ℕ) → e < length (rested g).edges → end_of g.edges e (edge (rested g) e).from ≡ (edge (rested g) e).to
unfolding edge
end_is g e h =
    let to : Edge → ℕ = λ d. d.to in
    sym (get_or-map to g.edges e (loop (edge (rested g) e).from))
    ∙ rested_to g (map to g.edges) (length-map g.edges to) (λ i l. get_or-map to g.edges i (loop 0)) e h

-- a name, or a number
shown_is : (o : Option (List ℕ)) (claim cells : List ℕ) (s : ℕ) → NameAt claim o (get_or cells (name_cell s) 0) (get_or cells (length_cell s) 0) → state_text claim cells s ≡ shown o s
unfolding state_text shown
shown_is none claim cells s e = rw (eq-eqb (get_or cells (name_cell s) 0) 0 e.0) refl
shown_is (some w) claim cells s e = rw (ne_eqb (get_or cells (name_cell s) 0) 0 (λ q. omega (arith, e.0))) e.2

module _ (bs cs : List ℕ) (right : chart_right bs ≡ true) (sound : ClaimSound (claim_in cs)) {cells : List ℕ} (held : ClaimHeld cs (claim_in cs) cells) {places : List ℕ} (filled : PlacesFilled bs places) (most : (chart_in bs).modes ≤ length places) where
  abbrev size : ℕ
  size = length (claim_in cs).states

  row_is : (v : ℕ) → v < (chart_in bs).modes * size → row_by bs cs places cells size v ≡ step_row (chart_in bs) (claim_in cs) v
  unfolding row_by step_row
  row_is v b =
      let d = pair (chart_in bs).modes size v b in
      rw (filled.at (v / size) (omega (arith, d.first)), name_part bs right (v / size) d.first, shown_is (state (claim_in cs) (v % size)).name cs cells (v % size) (held.names (v % size) (omega (arith, d.second, sound.states)))) refl

  to_below : (e : ℕ) → e < length (rested (graph_in bs cs)).edges → (edge (rested (graph_in bs cs)) e).to < (chart_in bs).modes * size
  unfolding edge graph_of product chart_automaton claim_automaton
  to_below e l =
      rested_below (graph_in bs cs) ((chart_in bs).modes * size) (omega arith) (λ i b. (move_edge (chart_in bs) (claim_in cs) _ (in_at (graph_in bs cs).edges i b)).to) e l

  -- along a walk of the graph with its rest loops, by a table that has each other edge's end
  rows_are : (v : ℕ) (es : List ℕ) → v < (chart_in bs).modes * size → is_walk (rested (graph_in bs cs)) v es ≡ true
      → rows_by (row_by bs cs places cells size) (graph_in bs cs).edges v es ≡ step_rows (chart_in bs) (claim_in cs) es
  unfolding rows_by step_rows
  rows_are v [] b w = refl
  rows_are v (e ∷ es) b w =
      let g = rested (graph_in bs cs) in
      let s = steps g v e es w in
      let next : end_of (graph_in bs cs).edges e v ≡ (edge g e).to = ap (end_of (graph_in bs cs).edges e) (sym s.from) ∙ end_is (graph_in bs cs) e s.below in
      rw (row_is v b, s.from, next, rows_are (edge g e).to es (to_below e s.below) s.rest) refl

  -- the answer's lines from the fourth on
  module _ (ts : List ℕ) (passes : answer_refusal (graph_in bs cs) ts ≡ 0) (lasso : answer_verdict ts ≡ lasso_verdict) where
    found : LassoLines (graph_in bs cs) ts
    found = lasso_lines (graph_in bs cs) ts passes lasso

    pub edges_single : all_single (drop 3 (lines ts)) ≡ true
    edges_single = single found.many _ (drop 3 (lines ts)) found.edges (omega (arith, found.few, length-drop 3 (lines ts)))

    pub rows_listed : (graph_in bs cs).source < (chart_in bs).modes * size → text (rows_by (row_by bs cs places cells size) (graph_in bs cs).edges (graph_in bs cs).source (column 0 (drop 3 (lines ts)))) ≡ listing bs cs ts
    unfolding steps_text
    rows_listed b =
        let w : walk_in ts ≡ column 0 (drop 3 (lines ts)) = found.walk ∙ ap (column 0) (take_all found.many (drop 3 (lines ts)) (omega (arith, found.few, length-drop 3 (lines ts)))) in
        ap text (ap (rows_by (row_by bs cs places cells size) (graph_in bs cs).edges (graph_in bs cs).source) (sym w) ∙ rows_are (graph_in bs cs).source (walk_in ts) b (walk_walks (graph_in bs cs) ts passes))
