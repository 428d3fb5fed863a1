-- What building and listing return: which refusals can come, and that a result is right. Assumes nothing.
use mathlib.Core.Path.{◌≡◌, refl, sym, ◌∙◌}
use mathlib.Core.Bool.{true, cond}
use mathlib.Core.List.{List, ◌++◌}
use mathlib.Core.Logic.{◌⊎◌, inl, inr}
use Prim.Native.Nat.{ℕ, ◌≤◌}
use native.Mathlib.Omega.{arith}
use lib.ListN.{length, take, drop, length-append, length-drop}
use lib.Seq.{take-append_seam}
use borrow.Author.Tests.{ltb-false, eqb-true, ne_eqb}
use Rattle.model.specs.Case.{longest_file}
use Rattle.model.specs.CaseFile.{accepted, case_refusal}
use Rattle.model.specs.Passing.{answer_refusal}
use Rattle.model.specs.CaseText.{case_file}
use Rattle.model.specs.Entry.{in_front}
use Rattle.model.specs.ClaimTable.{claim_refusal}
use Rattle.model.specs.Claim.{claim_in}
use Rattle.model.specs.ClaimPromise.{ClaimsDefinite}
use Rattle.model.specs.Chart.{chart_in, chart_says}
use Rattle.model.specs.ChartPromise.{ChartsDefinite}
use Rattle.model.specs.Product.{graph_in, built_case, product_refusal, least_case_output, build_refusal}
use Rattle.model.specs.Steps.{steps_text, least_steps_output, steps_refusal}
use Rattle.model.specs.BuiltEntry.{names_pair, BuiltSays, BuildSays, StepsSay}
use Rattle.model.specs.ProductPromise.{OnlyProduct, StepsCheck, StepsFit, ProductNumber, DefiniteBuilt, BuildDefinite, StepsDefinite, BuildRight, StepsRight}
use Rattle.model.specs.declared.Built.{Built}
use Rattle.model.specs.declared.Charted.{Charted}
use Rattle.model.proofs.Accepting.{first_zero, refuse_zero}
use Rattle.model.proofs.Refusals.{first_keeps, refuse_keeps, then, last, answer_numbers}
use Rattle.model.proofs.ClaimDefinite.{claims_definite}
use Rattle.model.proofs.Charts.{charts_definite}
use Rattle.model.proofs.Products.{only_product, built_right}
use Rattle.model.proofs.StepLines.{steps_check, steps_fit, steps_silent}

-- WHICH NUMBERS
module _ (P : ℕ → Type 0) (p : P 0) (f : (n : ℕ) → 14 ≤ n → n ≤ 21 → P n) where
  chart_numbers : (bs : List ℕ) → P (chart_says bs).refusal
  unfolding ChartsDefinite
  chart_numbers bs = go (charts_definite bs).listed
    where
      go : ((chart_says bs).refusal ≡ 0) ⊎ ((chart_says bs).refusal ≡ 17) ⊎ ((chart_says bs).refusal ≡ 18) ⊎ ((chart_says bs).refusal ≡ 19) → P (chart_says bs).refusal
      go (inl e) = rw e p
      go (inr (inl e)) = rw e (f 17 (omega arith) (omega arith))
      go (inr (inr (inl e))) = rw e (f 18 (omega arith) (omega arith))
      go (inr (inr (inr e))) = rw e (f 19 (omega arith) (omega arith))

  claim_numbers : (cs : List ℕ) → P (claim_refusal cs)
  unfolding ClaimsDefinite
  claim_numbers cs = go (claims_definite cs)
    where
      go : (claim_refusal cs ≡ 0) ⊎ ((claim_refusal cs ≡ 14) ⊎ ((claim_refusal cs ≡ 15) ⊎ (claim_refusal cs ≡ 16))) → P (claim_refusal cs)
      go (inl e) = rw e p
      go (inr (inl e)) = rw e (f 14 (omega arith) (omega arith))
      go (inr (inr (inl e))) = rw e (f 15 (omega arith) (omega arith))
      go (inr (inr (inr e))) = rw e (f 16 (omega arith) (omega arith))

  product_numbers : (bs cs : List ℕ) → P (product_refusal bs cs)
  unfolding product_refusal
  product_numbers bs cs =
      first_keeps P _ _ (chart_numbers bs) (first_keeps P _ _ (claim_numbers cs)
      (then P p _ 20 _ (f 20 (omega arith) (omega arith)) (last P p _ (refuse_keeps P _ 21 p (f 21 (omega arith) (omega arith))))))

build_numbers : (P : ℕ → Type 0) → P 0 → P 5 → P 11 → ((n : ℕ) → 14 ≤ n → n ≤ 21 → P n) → (bs cs : List ℕ) (p o : ℕ) → P (build_refusal bs cs p o)
unfolding build_refusal
build_numbers P z a b f bs cs p o = then P z _ 11 _ b (then P z _ 5 _ a (last P z _ (product_numbers P z f bs cs)))

steps_numbers : (P : ℕ → Type 0) → P 0 → P 1 → P 3 → ((n : ℕ) → 11 ≤ n → n ≤ 13 → P n) → ((n : ℕ) → 14 ≤ n → n ≤ 21 → P n) →
    (bs cs ts : List ℕ) (o : ℕ) → P (steps_refusal bs cs ts o)
unfolding steps_refusal
steps_numbers P z a b g f bs cs ts o =
    then P z _ 11 _ (g 11 (omega arith) (omega arith)) (first_keeps P _ _ (product_numbers P z f bs cs)
    (last P z _ (answer_numbers P z a b (g 12 (omega arith) (omega arith)) (g 13 (omega arith) (omega arith)) (graph_in bs cs) ts)))

-- DEFINITE: untouched unless the refusal is 0
definite : (k : ℕ) (pair : Charted) (t : List ℕ) (r : Built) (o z : List ℕ) → BuiltSays k pair t r o z → DefiniteBuilt r o z
definite k pair t r o z s =
    record {
      output = λ n. rw (ne_eqb k 0 (λ e. n (s.refusal ∙ e))) at s.output;
      length_zero = λ n. rw (ne_eqb k 0 (λ e. n (s.refusal ∙ e))) at s.written;
      no_pair = λ n m. (none n m r.mode pair.mode s.mode, none n m r.combination pair.combination s.combination);
    }
  where
    none : (r.refusal ≡ 18 → ⊥) → (r.refusal ≡ 19 → ⊥) → (x y : ℕ) → x ≡ cond (names_pair k) y 0 → x ≡ 0
    none n m x y e = unfold names_pair in (rw (ne_eqb k 18 (λ q. n (s.refusal ∙ q)), ne_eqb k 19 (λ q. m (s.refusal ∙ q))) at e)

pub build_definite : BuildDefinite
unfolding BuildDefinite BuildSays
build_definite bs cs p r o z s = (
  definite _ _ _ r o z s,
  rw s.refusal (build_numbers (λ x. (x ≡ 5) ⊎ ((x ≡ 11) ⊎ ProductNumber x)) (inr (inr (inl refl))) (inl refl) (inr (inl refl)) (λ x a b. inr (inr (inr (a, b)))) bs cs p (length o)),
)

pub steps_definite : StepsDefinite
unfolding StepsDefinite StepsSay
steps_definite bs cs ts r o z s = (
  definite _ _ _ r o z s,
  rw s.refusal (steps_numbers (λ x. (x ≡ 1) ⊎ ((x ≡ 3) ⊎ (((11 ≤ x) × (x ≤ 13)) ⊎ ProductNumber x))) (inr (inr (inr (inl refl)))) (inl refl) (inr (inl refl)) (λ x a b. inr (inr (inl (a, b)))) (λ x a b. inr (inr (inr (inr (a, b))))) bs cs ts (length o)),
)

-- A RESULT is at the front of the output
record Front (t : List ℕ) (written : ℕ) (o z : List ℕ) : Type 0 where
  bytes : take written z ≡ t
  kept : length t ≤ length o → length z ≡ length o

front : (k : ℕ) (pair : Charted) (t : List ℕ) (r : Built) (o z : List ℕ) → BuiltSays k pair t r o z → k ≡ 0 → Front t r.written o z
unfolding in_front
front k pair t r o z s e =
    let out : z ≡ t ++ drop (length t) o = rw e at s.output in
    let long : r.written ≡ length t = rw e at s.written in
    record { bytes = rw (out, long) (take-append_seam t (drop (length t) o)); kept = λ l. rw out (omega (arith, length-append t (drop (length t) o), length-drop (length t) o)) }

pub accepted_short : (bs : List ℕ) → accepted bs ≡ true → length bs ≤ longest_file
unfolding accepted case_refusal
accepted_short bs e = ltb-false longest_file (length bs) (refuse_zero _ 0 (first_zero _ _ (eqb-true (case_refusal bs) 0 e)).0)

build_room : (bs cs : List ℕ) (p o : ℕ) → build_refusal bs cs p o ≡ 0 → least_case_output ≤ o
unfolding build_refusal
build_room bs cs p o e = ltb-false o least_case_output (refuse_zero _ 10 (first_zero _ _ e).0)

pub build_right : BuildRight
unfolding BuildRight BuildSays OnlyProduct
build_right bs cs p r o z s e =
    let c = built_case bs cs p in
    let e' = sym s.refusal ∙ e in
    let x = built_right bs cs p (length o) e' in
    let y = front _ _ (case_file c) r o z s e' in (
      record {
        taken = rw y.bytes x.accepted;
        product = rw (y.bytes, x.back) x.product;
        only = λ ds a is. only_product (chart_in bs) (claim_in cs) p ds a is ∙ sym y.bytes;
      },
      y.kept (omega (arith, accepted_short (case_file c) x.accepted, build_room bs cs p (length o) e')),
    )

steps_parts : (bs cs ts : List ℕ) (o : ℕ) → steps_refusal bs cs ts o ≡ 0 → (least_steps_output ≤ o) × (product_refusal bs cs ≡ 0) × (answer_refusal (graph_in bs cs) ts ≡ 0)
unfolding steps_refusal
steps_parts bs cs ts o e =
    let a = first_zero _ _ e in
    let b = first_zero _ _ a.1 in
    (ltb-false o least_steps_output (refuse_zero _ 10 a.0), b.0, (first_zero _ _ b.1).0)

pub steps_right : StepsRight
unfolding StepsRight StepsSay StepsCheck StepsFit steps_text
steps_right bs cs ts r o z s e =
    let e' = sym s.refusal ∙ e in
    let x = steps_parts bs cs ts (length o) e' in
    let y = front _ _ _ r o z s e' in (
      record {
        passes = λ p a b. steps_check bs cs ts p x.1 a b ∙ x.2;
        lasso = λ v. y.bytes;
        empty = λ v. y.bytes ∙ steps_silent (chart_in bs) (claim_in cs) ts v;
      },
      y.kept (omega (arith, steps_fit bs cs ts (length o) e', x.0)),
    )
