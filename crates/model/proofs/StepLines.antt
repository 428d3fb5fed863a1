-- The listing: it judges an answer as the checker does, and fits the least output. Assumes nothing.
use mathlib.Core.Path.{◌≡◌, refl, sym, ap, ◌∙◌}
use mathlib.Core.Bool.{Bool, true, false, ◌&&◌, cond}
use mathlib.Core.List.{List, [], ◌∷◌, ◌++◌}
use mathlib.Core.Option.{Option, none, some}
use Prim.Native.Nat.{ℕ, zero, suc, ◌+◌, ◌*◌, ◌/◌, ◌%◌, ◌≤◌, ◌<◌}
use native.Mathlib.Omega.{arith}
use lib.Dec.{ltb, leb, eqb}
use lib.Seq.{take-add}
use lib.ListN.{length, get_or, take, drop, length-append, get_or-eq_default}
use borrow.Author.Tests.{ltb-true, ltb-false, leb-true, eqb-true}
use Rattle.text.specs.Ascii.{space}
use Rattle.text.specs.Lines.{Line, lines, line_at, joined, text}
use Rattle.text.specs.Numbers.{number_at}
use Rattle.text.proofs.Tests.{Test, test, holds, fails, and_both}
use Rattle.text.proofs.Decimals.{decimal_most}
use Rattle.model.specs.Graph.{Edge, Graph, edge, rested, is_walk}
use Rattle.model.specs.Case.{most_listed, answer_version}
use Rattle.model.specs.CaseFile.{first_of, accepted, column, case_refusal}
use Rattle.model.specs.CaseText.{case_file}
use Rattle.model.specs.Answer.{lasso_verdict, empty_verdict}
use Rattle.model.specs.Passing.{listed_edges_refusal, says_lasso, counts_suit, counts_fit, stem_in, cycle_in, lasso_refusal, empty_refusal, refusal_against, meant, answer_refusal, check_refusal, answer_verdict}
use Rattle.model.specs.ClaimGrammar.{longest_title}
use Rattle.model.specs.Claim.{Claim, state, claim_in, ClaimSound}
use Rattle.model.specs.Chart.{Chart, longest_name, mode_name, chart_in, ChartSound}
use Rattle.model.specs.Product.{product_graph, product_case, graph_in, built_case}
use Rattle.model.specs.Steps.{shown, step_row, step_rows, walk_in, steps_text, steps_refusal}
use Rattle.model.specs.ProductPromise.{StepsCheck, StepsFit}
use Rattle.model.proofs.Tools.{getD_inside}
use Rattle.model.proofs.Walks.{walk_append, lasso_parts}
use Rattle.model.proofs.Accepting.{first_zero, first_one, refuse_zero, refuse_not}
use Rattle.model.proofs.Fits.{text_length}
use Rattle.model.proofs.Products.{right, unrefused}
use Rattle.model.proofs.Rests.{loops_of, rested_edge, walk_kept}

-- AS THE CHECKER DOES: an accepted case leaves the answer's refusal
pub steps_check : StepsCheck
unfolding StepsCheck check_refusal accepted product_case first_of
steps_check bs cs ts p e s l =
    let u = unrefused bs cs e in
    let x = right (chart_in bs) (claim_in cs) p u.chart u.claim s l u.edges in
    rw (eqb-true (case_refusal (case_file (built_case bs cs p))) 0 x.accepted, x.back) (first_one (answer_refusal (graph_in bs cs) ts))

-- HOW LONG: a name of the chart or of the claim, or a number
shown_short : (k : Claim) → ClaimSound k → (c : ℕ) (o : Option (List ℕ)) → (state k c).name ≡ o → length (shown o c) ≤ longest_title
unfolding shown
shown_short k ks c none e = omega (arith, decimal_most c)
shown_short k ks c (some w) e = ks.names c w e

row_short : (h : Chart) (k : Claim) → ChartSound h → ClaimSound k → (v : ℕ) → length (joined (step_row h k v)) ≤ longest_name + 1 + longest_title
unfolding step_row joined
row_short h k hs ks v =
    let n = length k.states in
    let w = shown (state k (v % n)).name (v % n) in
    omega (arith, length-append (mode_name h (v / n)) (space ∷ w), hs.names (v / n), shown_short k ks (v % n) (state k (v % n)).name refl)

rows_short : (h : Chart) (k : Claim) → ChartSound h → ClaimSound k → (es : List ℕ) → length (text (step_rows h k es)) ≤ 50 * length es
unfolding step_rows
rows_short h k hs ks [] = unfold text in (omega arith)
rows_short h k hs ks (e ∷ es) =
    let v = (edge (rested (product_graph h k)) e).from in
    omega (arith, text_length (step_row h k v) (step_rows h k es), row_short h k hs ks v, rows_short h k hs ks es)

column_few : (i k : ℕ) (ls : List Line) → length (column i (take k ls)) ≤ k
unfolding column
column_few i zero ls = omega arith
column_few i (suc k) [] = omega arith
column_few i (suc k) (l ∷ ls) = omega (arith, column_few i k ls)

walk_few : (h : Line) (ls : List Line) → counts_fit h ≡ true → length (stem_in h ls ++ cycle_in h ls) ≤ most_listed + most_listed
unfolding counts_fit stem_in cycle_in
walk_few h ls e =
    let a = number_at h 2 in
    let b = number_at h 3 in
    let d = number_at h 4 in
    let p = (and_both (leb a most_listed && (leb b most_listed && leb d most_listed)) (counts_suit (says_lasso h) a b d) e).0 in
    let q = and_both (leb a most_listed) (leb b most_listed && leb d most_listed) p in
    let x = leb-true a most_listed q.0 in
    let y = leb-true b most_listed (and_both (leb b most_listed) (leb d most_listed) q.1).0 in
    omega (arith, length-append (column 0 (take a ls)) (column 0 (take b (drop a ls))), column_few 0 a ls, column_few 0 b (drop a ls))

answer_counts : (g : Graph) (ts : List ℕ) → answer_refusal g ts ≡ 0 → counts_fit (line_at (lines ts) 1) ≡ true
unfolding answer_refusal refusal_against
answer_counts g ts e = refuse_not _ 11 (first_zero _ _ (first_zero _ _ (first_zero _ _ (first_zero _ _ (first_zero _ _ e).1).1).1).1).0

walk_in_few : (g : Graph) (ts : List ℕ) → answer_refusal g ts ≡ 0 → length (walk_in ts) ≤ most_listed + most_listed
unfolding walk_in
walk_in_few g ts e = go (says_lasso (line_at (lines ts) 1))
  where
    go : (b : Bool) → length (cond b (stem_in (line_at (lines ts) 1) (drop 3 (lines ts)) ++ cycle_in (line_at (lines ts) 1) (drop 3 (lines ts))) []) ≤ most_listed + most_listed
    go true = walk_few (line_at (lines ts) 1) (drop 3 (lines ts)) (answer_counts g ts e)
    go false = omega arith

pub steps_fit : StepsFit
unfolding StepsFit steps_refusal steps_text
steps_fit bs cs ts o e =
    let a = first_zero _ _ (first_zero _ _ e).1 in
    let u = unrefused bs cs a.0 in
    omega (
      arith,
      rows_short (chart_in bs) (claim_in cs) u.chart u.claim (walk_in ts),
      walk_in_few (graph_in bs cs) ts (first_zero _ _ a.1).0,
    )

-- NOTHING for "empty"
pub steps_silent : (h : Chart) (k : Claim) (ts : List ℕ) → answer_verdict ts ≡ empty_verdict → steps_text h k ts ≡ []
unfolding steps_text walk_in answer_verdict
steps_silent h k ts e = go (says_lasso (line_at (lines ts) 1)) e
  where
    go : (b : Bool) → cond b lasso_verdict empty_verdict ≡ empty_verdict → text (step_rows h k (cond b (stem_in (line_at (lines ts) 1) (drop 3 (lines ts)) ++ cycle_in (line_at (lines ts) 1) (drop 3 (lines ts))) [])) ≡ []
    go true e = absurd (omega arith)
    go false e = unfold text step_rows in refl

-- AS A PROGRAM READS IT: the edges are on the answer's lines from the fourth on
column_append : (i : ℕ) (ls ms : List Line) → column i (ls ++ ms) ≡ column i ls ++ column i ms
unfolding column
column_append i [] ms = refl
column_append i (l ∷ ls) ms = ap (λ (xs : List ℕ). number_at l i ∷ xs) (column_append i ls ms)

walk_lines : (h : Line) (ls : List Line) → stem_in h ls ++ cycle_in h ls ≡ column 0 (take (number_at h 2 + number_at h 3) ls)
unfolding stem_in cycle_in
walk_lines h ls =
    let a = number_at h 2 in
    let b = number_at h 3 in
    sym (ap (column 0) (take-add a b ls) ∙ column_append 0 (take a ls) (take b (drop a ls)))

-- a lasso that passes lists as many edges as its line 2 says, up to its end: edges of the graph that its version means
pub record LassoLines (g : Graph) (ts : List ℕ) : Type 0 where
  pub many : ℕ
  pub edges : listed_edges_refusal many (length (meant g ts).edges) (drop 3 (lines ts)) ≡ 0
  pub few : length (lines ts) ≤ 3 + many
  pub walk : walk_in ts ≡ column 0 (take many (drop 3 (lines ts)))

pub lasso_lines : (g : Graph) (ts : List ℕ) → answer_refusal g ts ≡ 0 → answer_verdict ts ≡ lasso_verdict → LassoLines g ts
unfolding answer_refusal refusal_against answer_verdict walk_in lasso_refusal
lasso_lines g ts e v = go (says_lasso (line_at (lines ts) 1)) refl v (first_zero _ _ (first_zero _ _ (first_zero _ _ (first_zero _ _ (first_zero _ _ (first_zero _ _ e).1).1).1).1).1).0
  where
    k : ℕ
    k = number_at (line_at (lines ts) 1) 2 + number_at (line_at (lines ts) 1) 3

    go : (b : Bool) → says_lasso (line_at (lines ts) 1) ≡ b → cond b lasso_verdict empty_verdict ≡ lasso_verdict
        → cond b (lasso_refusal (meant g ts) (line_at (lines ts) 1) (lines ts)) (empty_refusal (meant g ts) (line_at (lines ts) 1) (lines ts)) ≡ 0 → LassoLines g ts
    go true q v z =
        let a = first_zero _ _ (first_zero _ _ z).1 in
        record {
          many = k;
          edges = a.0;
          few = ltb-false (3 + k) (length (lines ts)) (refuse_zero _ 11 (first_zero _ _ a.1).0);
          walk = rw q (walk_lines (line_at (lines ts) 1) (drop 3 (lines ts)));
        }
    go false q v z = absurd (omega arith)

lasso_walks : (g : Graph) (h : Line) (ls : List Line) → lasso_refusal g h ls ≡ 0 → is_walk g g.source (stem_in h (drop 3 ls) ++ cycle_in h (drop 3 ls)) ≡ true
unfolding lasso_refusal
lasso_walks g h ls e =
    let x = lasso_parts g (stem_in h (drop 3 ls)) (cycle_in h (drop 3 ls)) (refuse_not _ 12 (first_zero _ _ (first_zero _ _ (first_zero _ _ (first_zero _ _ e).1).1).1).0) in
    walk_append g g.source (stem_in h (drop 3 ls)) (cycle_in h (drop 3 ls)) x.stem x.cycle

meant_walks : (g : Graph) (ts : List ℕ) → answer_refusal g ts ≡ 0 → is_walk (meant g ts) (meant g ts).source (walk_in ts) ≡ true
unfolding answer_refusal refusal_against walk_in
meant_walks g ts e = go (says_lasso (line_at (lines ts) 1)) (first_zero _ _ (first_zero _ _ (first_zero _ _ (first_zero _ _ (first_zero _ _ (first_zero _ _ e).1).1).1).1).1).0
  where
    go : (b : Bool) → cond b (lasso_refusal (meant g ts) (line_at (lines ts) 1) (lines ts)) (empty_refusal (meant g ts) (line_at (lines ts) 1) (lines ts)) ≡ 0
        → is_walk (meant g ts) (meant g ts).source (cond b (stem_in (line_at (lines ts) 1) (drop 3 (lines ts)) ++ cycle_in (line_at (lines ts) 1) (drop 3 (lines ts))) []) ≡ true
    go true z = lasso_walks (meant g ts) (line_at (lines ts) 1) (lines ts) z
    go false z = unfold is_walk in refl

-- WITH ITS REST LOOPS: whichever version an answer has, what it lists is a walk of the graph with them
pub walk_walks : (g : Graph) (ts : List ℕ) → answer_refusal g ts ≡ 0 → is_walk (rested g) g.source (walk_in ts) ≡ true
unfolding meant
walk_walks g ts e = go (eqb (number_at (line_at (lines ts) 1) 0) answer_version) (meant_walks g ts e)
  where
    go : (b : Bool) → is_walk (cond b (rested g) g) (cond b (rested g) g).source (walk_in ts) ≡ true → is_walk (rested g) g.source (walk_in ts) ≡ true
    go true w = unfold rested in w
    go false w = walk_kept g g.source (walk_in ts) w

-- where each edge leads, by a table of the file edges' ends: past it stand loops, which stay
pub rested_to : (g : Graph) (tos : List ℕ) → length tos ≡ length g.edges → ((e : ℕ) → e < length g.edges → get_or tos e 0 ≡ (edge g e).to)
    → (e : ℕ) → e < length (rested g).edges → get_or tos e (edge (rested g) e).from ≡ (edge (rested g) e).to
rested_to g tos long ends e b = go (test (ltb e (length g.edges)))
  where
    go : Test (ltb e (length g.edges)) → get_or tos e (edge (rested g) e).from ≡ (edge (rested g) e).to
    go (holds t) =
        let l = ltb-true e (length g.edges) t in
        getD_inside tos e (edge (rested g) e).from 0 (omega (arith, l, long)) ∙ ends e l ∙ sym (ap (λ (d : Edge). d.to) ((loops_of g).kept e l))
    go (fails t) =
        let l = ltb-false e (length g.edges) t in
        get_or-eq_default tos (edge (rested g) e).from (omega (arith, l, long)) ∙ sym ((loops_of g).loops e l b).loop

pub rested_below : (g : Graph) (n : ℕ) → g.vertices ≤ n → ((e : ℕ) → e < length g.edges → (edge g e).to < n) → (e : ℕ) → e < length (rested g).edges → (edge (rested g) e).to < n
rested_below g n few ends e b = rested_edge g (λ d. d.to < n) e b (ends e) (λ r. omega (arith, r.loop, r.below))
