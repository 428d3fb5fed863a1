-- `list_steps`, way by way: each refusal in its place, the answer judged against the case built, and the listing. Assumes
-- nothing.
use mathlib.Core.Path.{◌≡◌, refl, sym, ap, ◌∙◌}
use Rattle.std.specs.Prelude.{Ok, Err, Some, unwrap_or}
use mathlib.Core.Bool.{Bool, true, false, cond}
use mathlib.Core.List.{List, [], ◌∷◌, ◌++◌}
use Prim.Native.Nat.{ℕ, ◌*◌, ◌≤◌, ◌<◌}
use native.Mathlib.Nat.{zero-add}
use native.Mathlib.Omega.{arith}
use lib.ListN.{length, drop, replicate, length-append, length-replicate}
use lib.Seq.{take-append_seam}
use borrow.Author.Tests.{ne_eqb, lt-ltb, le-ltb, le-leb, eq-eqb}
use Rattle.text.specs.Lines.{lines, line_at, text}
use Rattle.text.specs.Reading.{skip}
use Rattle.text.specs.Writing.{Puts, front, written}
use Rattle.text.specs.declared.write.Writer.{Writer}
use Rattle.text.proofs.Places.{skip_lines}
use Rattle.text.proofs.Chains.{puts_as}
use Rattle.text.proofs.Writing.{put_front}
use Rattle.model.specs.Graph.{Edge}
use Rattle.model.specs.Case.{longest_file, most_edges}
use Rattle.model.specs.CaseFile.{refuse, first_of, column}
use Rattle.model.specs.CaseText.{case_file}
use Rattle.model.specs.Answer.{lasso_verdict, empty_verdict}
use Rattle.model.specs.Passing.{says_lasso, answer_refusal, check_refusal, answer_verdict}
use Rattle.model.specs.Entry.{CheckSays}
use Rattle.model.specs.Claim.{claim_in, ClaimSound}
use Rattle.model.specs.Chart.{most_modes, chart_in, chart_right, ChartSound}
use Rattle.model.specs.Product.{product, chart_automaton, claim_automaton, graph_of, graph_in, product_refusal}
use Rattle.model.specs.Steps.{listing, least_steps_output, steps_refusal}
use Rattle.model.specs.BuiltEntry.{names_pair, StepsSay}
use Rattle.model.specs.ProductPromise.{StepsCheck, StepsFit}
use Rattle.model.specs.declared.refusal.Refusal.{Refusal}
use Rattle.model.specs.declared.refusal.Refusal.TheVariants.{ShortBuffer, TooManyEdges}
use Rattle.model.specs.declared.Checked.{Checked}
use Rattle.model.proofs.Pairs.{pair_below}
use Rattle.model.proofs.Accepting.{first_zero, first_one}
use Rattle.casefile.proofs.Refusals.{first_decides}
use Rattle.model.proofs.Refusals.{answer_numbers}
use Rattle.model.proofs.Charts.{passed_right}
use Rattle.model.proofs.Products.{Unrefused, unrefused}
use Rattle.model.proofs.StepLines.{steps_check, steps_fit, steps_silent}
use Rattle.product.specs.Refused.{refused_as, refused_by, built_as}
use Rattle.product.specs.Both.{texts_refusal, BothRefused}
use Rattle.product.specs.Entries.{ListAsks, CheckAsks}
use Rattle.product.specs.declared.refused.Refused.{Refused}
use Rattle.product.specs.Names.{PlacesFilled, row_by, rows_by, StepsWritten}
use Rattle.product.specs.Edges.{EdgesFound}
use Rattle.product.specs.Written.{case_by}
use Rattle.product.specs.declared.edges.Sizes.{Sizes}
use Rattle.product.proofs.BothRead.{plain_says, unpaired}
use Rattle.product.proofs.Listing.{edges_single, rows_listed}
use Rattle.product.proofs.Writing.{product_is}
use Rattle.product.proofs.Building.{Fronted, fronted, fronted_none, done_says, product_refused, product_many, product_passes, case_short}

module _ (bs cs ts o : List ℕ) where
  pub steps_small : length o < least_steps_output → StepsSay bs cs ts (built_as (Err (refused_by ShortBuffer))) o o
  unfolding StepsSay steps_refusal first_of refuse names_pair
  steps_small l = rw (lt-ltb (length o) least_steps_output l) (plain_says 11 refl refl _ _ o)

  module _ (room : least_steps_output ≤ length o) where
    steps_is : steps_refusal bs cs ts (length o) ≡ first_of (product_refusal bs cs ∷ answer_refusal (graph_in bs cs) ts ∷ [])
    unfolding steps_refusal first_of refuse
    steps_is = rw (le-ltb (length o) least_steps_output room) refl

    pub steps_refused : {r : Refused} → BothRefused bs cs r → StepsSay bs cs ts (built_as (Err r)) o o
    unfolding StepsSay
    steps_refused r =
        let e = product_refused bs cs r.fails in
        rw (steps_is ∙ first_decides (product_refusal bs cs) _ (λ z. r.fails (sym e ∙ z)) ∙ e) (r.says _ o)

    pub steps_many : texts_refusal bs cs ≡ 0 → most_edges < length (graph_in bs cs).edges → StepsSay bs cs ts (built_as (Err (refused_by TooManyEdges))) o o
    unfolding StepsSay names_pair
    steps_many e l = rw (steps_is ∙ first_decides (product_refusal bs cs) _ (λ z. omega (arith, product_many bs cs e l)) ∙ product_many bs cs e l) (plain_says 21 refl refl _ _ o)

    module _ (passes : product_refusal bs cs ≡ 0) where
      by_answer : steps_refusal bs cs ts (length o) ≡ answer_refusal (graph_in bs cs) ts
      by_answer = steps_is ∙ (unfold first_of in (rw passes (first_one (answer_refusal (graph_in bs cs) ts))))

      pub answer_refused : {k : ℕ} → k ≡ answer_refusal (graph_in bs cs) ts → (k ≡ 0 → ⊥) → StepsSay bs cs ts (built_as (Err (refused_as k))) o o
      unfolding StepsSay
      answer_refused {k} e n = rw (by_answer, ← e) (plain_says k (ne_eqb k 0 n) (unpaired k (λ z. no_pair.0 (sym e ∙ z)) (λ z. no_pair.1 (sym e ∙ z))) _ _ o)
        where
          no_pair : (answer_refusal (graph_in bs cs) ts ≡ 18 → ⊥) × (answer_refusal (graph_in bs cs) ts ≡ 19 → ⊥)
          no_pair = answer_numbers (λ x. (x ≡ 18 → ⊥) × (x ≡ 19 → ⊥)) (none 0 (omega arith)) (none 1 (omega arith)) (none 3 (omega arith)) (none 12 (omega arith)) (none 13 (omega arith)) (graph_in bs cs) ts
            where
              none : (x : ℕ) → x < 18 → (x ≡ 18 → ⊥) × (x ≡ 19 → ⊥)
              none x l = (λ e. omega arith, λ e. omega arith)

      module _ (right : answer_refusal (graph_in bs cs) ts ≡ 0) where
        steps_zero : steps_refusal bs cs ts (length o) ≡ 0
        steps_zero = by_answer ∙ right

        pub empty_listed : answer_verdict ts ≡ empty_verdict → StepsSay bs cs ts (built_as (Ok 0)) o o
        unfolding StepsSay
        empty_listed v = rw (steps_zero, steps_silent (chart_in bs) (claim_in cs) ts v) (done_says _ [] (fronted_none o) (omega arith))

        pub lasso_listed : {n : ℕ} {z : List ℕ} → Fronted (listing bs cs ts) n o z → (n ≤ longest_file) × StepsSay bs cs ts (built_as (Ok n)) o z
        unfolding StepsSay StepsFit
        lasso_listed w =
            let f = steps_fit bs cs ts (length o) steps_zero in
            (omega (arith, f, (w.fits (omega arith)).0), rw steps_zero (done_says _ (listing bs cs ts) w (omega arith)))

source_below : (bs cs : List ℕ) → ChartSound (chart_in bs) → ClaimSound (claim_in cs) → (graph_in bs cs).source < (chart_in bs).modes * length (claim_in cs).states
unfolding graph_of product chart_automaton claim_automaton
source_below bs cs h k = pair_below (length (claim_in cs).states) (chart_in bs).start (claim_in cs).start (chart_in bs).modes k.start h.start

-- THE ANSWER CHECKED against the case file built, which one worker has
module _ {bs cs case : List ℕ} {z : Sizes} {cells : List ℕ} {edges : List Edge} {o : List ℕ} (a : CheckAsks bs cs case z cells edges o) {ts : List ℕ} {r : Checked} (c : CheckSays case ts r) where
  judged : check_refusal case ts ≡ answer_refusal (graph_in bs cs) ts
  unfolding StepsCheck
  judged = ap (λ (x : List ℕ). check_refusal x ts) a.file ∙ steps_check bs cs ts 1 a.passes (omega arith) (omega arith)

  pub checked_refused : (r.refusal ≡ 0 → ⊥) → StepsSay bs cs ts (built_as (Err (refused_as r.refusal))) o o
  checked_refused n = answer_refused bs cs ts o a.room a.passes (c.refusal ∙ judged) n

  module _ (e : r.refusal ≡ 0) where
    right_answer : answer_refusal (graph_in bs cs) ts ≡ 0
    right_answer = sym (c.refusal ∙ judged) ∙ e

    verdict_is : r.verdict ≡ answer_verdict ts
    verdict_is = c.verdict ∙ rw (eq-eqb (check_refusal case ts) 0 (sym c.refusal ∙ e)) refl

    pub checked_empty : r.verdict ≡ empty_verdict → StepsSay bs cs ts (built_as (Ok 0)) o o
    checked_empty v = empty_listed bs cs ts o a.room a.passes right_answer (sym verdict_is ∙ v)

    is_lasso : (answer_verdict ts ≡ empty_verdict → ⊥) → answer_verdict ts ≡ lasso_verdict
    unfolding answer_verdict
    is_lasso n = go (says_lasso (line_at (lines ts) 1)) n
      where
        go : (b : Bool) → (cond b lasso_verdict empty_verdict ≡ empty_verdict → ⊥) → cond b lasso_verdict empty_verdict ≡ lasso_verdict
        go true n = refl
        go false n = absurd (n refl)

    sound : Unrefused bs cs
    sound = unrefused bs cs a.passes

    chart_is_right : chart_right bs ≡ true
    unfolding product_refusal
    chart_is_right = passed_right bs (first_zero _ _ a.passes).0

    -- the edges stand from line 4 on
    module _ (n : r.verdict ≡ empty_verdict → ⊥) {at : ℕ} (past : at ≡ skip 3 ts 0) {places : List ℕ} (filled : PlacesFilled bs places) (long : length places ≡ most_modes) {m : ℕ} {w v : Writer}
        (start : w.end ≡ Some 0) (given : w.output.now ≡ o) (steps : StepsWritten (row_by bs cs places cells z.states) ts at z.source edges w v) (count : m ≡ unwrap_or v.end 0) where
      modes_fit : (chart_in bs).modes ≤ length places
      modes_fit = omega (arith, sound.chart.modes)

      lasso : answer_verdict ts ≡ lasso_verdict
      lasso = is_lasso (λ z. n (verdict_is ∙ z))

      place : lines (drop at ts) ≡ drop 3 (lines ts)
      place = rw past (skip_lines 3 ts 0)

      rows : text (rows_by (row_by bs cs places cells z.states) edges z.source (column 0 (lines (drop at ts)))) ≡ listing bs cs ts
      rows = rw (place, a.of_states, a.of_source, a.ends) (rows_listed bs cs chart_is_right sound.claim a.claim filled modes_fit ts right_answer lasso (source_below bs cs sound.chart sound.claim))

      listed : {o' : List ℕ} → o' ≡ v.output.now → (m ≤ longest_file) × StepsSay bs cs ts (built_as (Ok m)) o o'
      listed e =
          let lines = steps.lines (rw place (edges_single bs cs chart_is_right sound.claim a.claim filled modes_fit ts right_answer lasso)) in
          lasso_listed bs cs ts o a.room a.passes right_answer (fronted start given (puts_as rows lines) count e)

      pub checked_fits : m ≤ longest_file
      checked_fits = (listed refl).0

      pub checked_lasso : {o' : List ℕ} → o' ≡ v.output.now → StepsSay bs cs ts (built_as (Ok m)) o o'
      checked_lasso e = (listed e).1

-- what a writer at the front has written is the whole text, if that had room
whole : {t : List ℕ} {w v : Writer} → w.end ≡ Some 0 → Puts t w v → length t ≤ length w.output.now → written v ≡ t
unfolding front
whole {t} {w} {v} e p h =
    let f = p.fits 0 e (omega arith) in
    let rest = drop (length t) w.output.now in
    rw (f.0, f.1, zero-add (length t), put_front t w.output.now, le-leb (length t) (length (t ++ rest)) (omega (arith, length-append t rest))) (take-append_seam t rest)

-- THE LISTING of what was read and written
module _ {bs cs : List ℕ} {z : Sizes} {follow cells o : List ℕ} (a : ListAsks bs cs z follow cells o) where
  pub list_many : (ts : List ℕ) {k : Refusal} {es : List Edge} → EdgesFound z follow cells (Err k) es → StepsSay bs cs ts (built_as (Err (refused_by k))) o o
  list_many ts f = let p = f.edges (chart_in bs) (claim_in cs) a.both.held.given in rw p.0 (steps_many bs cs ts o a.room a.both.passes p.1)

  module _ {edges : List Edge} (f : EdgesFound z follow cells (Ok tt) edges) (few : length edges ≤ most_edges) where
    found : edges ≡ (graph_in bs cs).edges
    found = f.edges (chart_in bs) (claim_in cs) a.both.held.given

    passes : product_refusal bs cs ≡ 0
    passes = product_passes bs cs a.both.passes (rw found at few)

    pub check_asked : {case : List ℕ} {w v : Writer} → w.end ≡ Some 0 → w.output.now ≡ replicate longest_file 0 → Puts (case_file (case_by z 1 cells edges)) w v → case ≡ written v
        → CheckAsks bs cs case z cells edges o
    unfolding graph_of product chart_automaton claim_automaton
    check_asked start fresh p case =
        let e = ap case_file (product_is (chart_in bs) (claim_in cs) z 1 edges a.both.held a.both.tables.some_states found) in
        record {
          passes = passes;
          file = case ∙ whole start (puts_as e p) (omega (arith, case_short bs cs 1 passes (omega arith) (omega arith), ap length fresh, length-replicate {A = ℕ} longest_file 0));
          ends = found;
          claim = a.both.claim;
          roomy = a.both.tables.roomy;
          of_states = a.both.held.given.of_states;
          of_source = a.both.held.source;
          room = a.room;
        }
