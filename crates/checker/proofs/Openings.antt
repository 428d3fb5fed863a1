-- Lines 1 and 2 of an answer, fault by fault, and what they say where there is none; then what decides after them.
-- Assumes nothing.
use mathlib.Core.Path.{◌≡◌, refl, sym, ap, ◌∙◌}
use mathlib.Core.Bool.{Bool, true, false, ◌&&◌, cond, and-false}
use mathlib.Core.List.{List, [], ◌∷◌}
use Prim.Native.Nat.{ℕ, suc, ◌+◌, ◌-◌, ◌≤◌, ◌<◌}
use native.Mathlib.Omega.{arith}
use lib.Dec.{ltb, eqb}
use lib.ListN.{length, drop, length-drop}
use borrow.Author.Tests.{eqb-true, eqb-false, ltb-true, ltb-false, lt-ltb, le-ltb, ne_eqb}
use Rattle.std.specs.Prelude.{Option, Some, None, Result, Ok, Err}
use Rattle.text.specs.Lines.{Line, lines, line_at, line_is}
use Rattle.text.specs.Numbers.{number_at}
use Rattle.text.specs.Reading.{line_here, past_line, skip}
use Rattle.text.proofs.Reading.{LineNamed}
use Rattle.text.proofs.Tests.{both_true, some_if, none_if}
use Rattle.model.specs.Graph.{Graph}
use Rattle.model.specs.Case.{longest_file, answer_version}
use Rattle.model.specs.CaseFile.{refuse, first_of, begins_version, other_version, case_refusal, accepted, case_in}
use Rattle.model.specs.Answer.{answer_names, lasso_names, empty_names, lasso_verdict, empty_verdict}
use Rattle.model.specs.Passing.{says_lasso, head_layout, counts_fit, stem_in, cycle_in, lasso_refusal, empty_refusal, refusal_against, meant, answer_refusal, check_refusal, answer_verdict}
use Rattle.model.specs.Entry.{CheckSays}
use Rattle.model.specs.Refusals.{number, refusal_of, checked_as}
use Rattle.model.specs.declared.Checked.{Checked}
use Rattle.model.specs.declared.refusal.Refusal.{Refusal}
use Rattle.model.specs.declared.refusal.Refusal.TheVariants.{LongFile, OtherVersion, AnswerLayout}
use Rattle.model.specs.declared.verdict.Verdict.{Verdict}
use Rattle.model.specs.declared.verdict.Verdict.TheVariants.{Lasso, Empty}
use Rattle.model.proofs.Refusals.{then as goes, last, refuse_keeps}
use Rattle.casefile.specs.Judging.{judged}
use Rattle.text.proofs.Places.{skip_one, skip_last, skip_lines, skip_line}
use Rattle.casefile.proofs.Whole.{Opened, turned}
use Rattle.casefile.proofs.Refusals.{first_one, first_append, first_decides}
use Rattle.checker.specs.Checking.{Told, FilesSay, LassoSays, EmptySays, verdict_by, is_lasso_verdict, head_of, head_here, head_right, opening_refusal, opening, meant_by, edge_lines_refusal, vertex_lines_refusal}
use Rattle.checker.specs.declared.opening.Head.{Head}
use Rattle.checker.specs.declared.tables.Graph as code
use Rattle.checker.proofs.Tells.{told_fault, tells}
use Rattle.checker.proofs.Walks.{LinesSay}
use Rattle.checker.proofs.Listings.{ListTells}

-- WHAT LINE 2 SAYS, one by one
lasso_back : (b : Bool) → is_lasso_verdict (verdict_by b) ≡ b
lasso_back true = refl
lasso_back false = refl

module _ (l : Line) (z : ℕ) {h : Head} (e : head_of l z ≡ h) where
  version_is : number_at l 0 ≡ h.version
  unfolding head_of
  version_is = ap (λ (k : Head). k.version) e

  word_is : says_lasso l ≡ is_lasso_verdict h.verdict
  unfolding head_of
  word_is = sym (lasso_back (says_lasso l)) ∙ ap (λ (k : Head). is_lasso_verdict k.verdict) e

  stem_is : number_at l 2 ≡ h.stem
  unfolding head_of
  stem_is = ap (λ (k : Head). k.stem) e

  cycle_is : number_at l 3 ≡ h.cycle
  unfolding head_of
  cycle_is = ap (λ (k : Head). k.cycle) e

  reached_is : number_at l 4 ≡ h.reached
  unfolding head_of
  reached_is = ap (λ (k : Head). k.reached) e

  next_is : z ≡ h.next
  unfolding head_of
  next_is = ap (λ (k : Head). k.next) e

-- LINE 2 as its reader gives it
pub record Headed (s : List ℕ) (at : ℕ) (h : Head) : Type 0 where
  pub layout : head_layout (line_here s at) ≡ true
  pub is : head_of (line_here s at) (past_line s at) ≡ h

pub headed : {s : List ℕ} {at : ℕ} {r : Option Head} {h : Head} → r ≡ head_here s at → r ≡ Some h → Headed s at h
unfolding head_here
headed {s} {at} e f = let g = some_if (head_layout (line_here s at)) (sym e ∙ f) in record { layout = g.0; is = g.1 }

pub no_head : (s : List ℕ) (at : ℕ) {r : Option Head} → r ≡ head_here s at → r ≡ None → head_layout (line_here s at) ≡ false
unfolding head_here
no_head s at e f = none_if (head_layout (line_here s at)) _ (sym e ∙ f)

-- FAULT BY FAULT
opening_refused : (s : List ℕ) (j : ℕ) → opening_refusal s ≡ suc j → Err (refusal_of (suc j)) ≡ opening s
unfolding opening
opening_refused s j e = rw (e, ne_eqb (suc j) 0 (λ z. omega arith)) refl

pub too_long : (s : List ℕ) → longest_file < length s → Err LongFile ≡ opening s
unfolding refusal_of
too_long s h = opening_refused s 0 (unfold opening_refusal in (rw (lt-ltb longest_file (length s) h) (unfold refuse first_of in refl)))

module _ (s : List ℕ) (short : length s ≤ longest_file) where
  pub no_version : begins_version s ≡ false → Err AnswerLayout ≡ opening s
  unfolding refusal_of
  no_version b = opening_refused s 11 (unfold opening_refusal in (rw (le-ltb longest_file (length s) short, b) (unfold refuse first_of in refl)))

  module _ (begun : begins_version s ≡ true) where
    pub another_version : other_version answer_version (lines s) ≡ true → Err OtherVersion ≡ opening s
    unfolding refusal_of
    another_version v = opening_refused s 2 (unfold opening_refusal in (rw (le-ltb longest_file (length s) short, begun, v) (unfold refuse first_of in refl)))

module _ {s : List ℕ} (o : Opened answer_version s) where
  mislaid : (line_is answer_names (line_at (lines s) 0) && head_layout (line_at (lines s) 1)) ≡ false → Err AnswerLayout ≡ opening s
  unfolding refusal_of
  mislaid l = opening_refused s 11 (unfold opening_refusal in (rw (le-ltb longest_file (length s) o.short, o.begun, o.version, l) (unfold refuse first_of in refl)))

  pub unnamed : line_is answer_names (line_here s 0) ≡ false → Err AnswerLayout ≡ opening s
  unnamed h = mislaid (rw h refl)

  module _ {z : ℕ} (named : LineNamed s 0 answer_names z) where
    line_2 : line_here s z ≡ line_at (lines s) 1
    line_2 = rw (sym named.past ∙ sym (skip_one s 0)) (skip_line 1 s 0)

    pub unheaded : head_layout (line_here s z) ≡ false → Err AnswerLayout ≡ opening s
    unheaded h = mislaid (rw (rw line_2 at h, and-false) refl)

    module _ {h : Head} (r : Headed s z h) where
      laid : (line_is answer_names (line_at (lines s) 0) && head_layout (line_at (lines s) 1)) ≡ true
      laid = both_true _ _ named.line (rw line_2 at r.layout)

      counts : counts_fit (line_at (lines s) 1) ≡ head_right h
      unfolding counts_fit head_right
      counts = rw (← line_2, word_is _ _ r.is, stem_is _ _ r.is, cycle_is _ _ r.is, reached_is _ _ r.is) refl

      place : skip 2 s 0 ≡ past_line s z
      place = skip_last 1 s 0 ∙ (rw (skip_one s 0, named.past) refl)

      pub miscounted : head_right h ≡ false → Err AnswerLayout ≡ opening s
      unfolding refusal_of
      miscounted g =
          opening_refused s 11 (unfold opening_refusal in (rw (le-ltb longest_file (length s) o.short, o.begun, o.version, laid, counts ∙ g) (unfold refuse first_of in refl)))

      pub opens : head_right h ≡ true → Ok h ≡ opening s
      unfolding opening
      opens g = sym (rw (right, place, ← line_2, r.is) refl)
        where
          right : opening_refusal s ≡ 0
          right = unfold opening_refusal in (rw (le-ltb longest_file (length s) o.short, o.begun, o.version, laid, counts ∙ g) (unfold refuse first_of in refl))

-- WHAT THEY SAY where there is no fault
pub record Said (s : List ℕ) (h : Head) : Type 0 where
  pub right : opening_refusal s ≡ 0
  pub is : head_of (line_at (lines s) 1) (skip 2 s 0) ≡ h

abbrev opening_by : (right : Bool) → (file : List ℕ) → Result Head Refusal
opening_by t s = cond t (Ok (head_of (line_at (lines s) 1) (skip 2 s 0))) (Err (refusal_of (opening_refusal s)))

pub said : {s : List ℕ} {h : Head} → opening s ≡ Ok h → Said s h
unfolding opening
said {s} {h} e = go (eqb (opening_refusal s) 0) refl e
  where
    go : (t : Bool) → eqb (opening_refusal s) 0 ≡ t → opening_by t s ≡ Ok h → Said s h
    go true e q = record { right = eqb-true (opening_refusal s) 0 e; is = cc }
    go false e q = absurd (cc)

-- 1, 3 and 12 alone
opening_number : (s : List ℕ) → (opening_refusal s ≡ 0 → ⊥) → number (refusal_of (opening_refusal s)) ≡ opening_refusal s
unfolding opening_refusal refusal_of
opening_number s n = goes P p _ 1 _ (λ z. refl) (goes P p _ 12 _ (λ z. refl) (goes P p _ 3 _ (λ z. refl) (goes P p _ 12 _ (λ z. refl) (last P p _ (refuse_keeps P _ 12 p (λ z. refl)))))) n
  where
    P : ℕ → Type 0
    P k = (k ≡ 0 → ⊥) → number (refusal_of k) ≡ k

    p : P 0
    p z = absurd (z refl)

pub said_refused : (s : List ℕ) {e : Refusal} → opening s ≡ Err e → (number e ≡ opening_refusal s) × (opening_refusal s ≡ 0 → ⊥)
unfolding opening
said_refused s {e} h = go (eqb (opening_refusal s) 0) refl h
  where
    go : (t : Bool) → eqb (opening_refusal s) 0 ≡ t → opening_by t s ≡ Err e → (number e ≡ opening_refusal s) × (opening_refusal s ≡ 0 → ⊥)
    go true q f = absurd (cc)
    go false q f =
        let n = eqb-false (opening_refusal s) 0 q in
        let is : refusal_of (opening_refusal s) ≡ e = cc in
        (rw is at (opening_number s n), n)

-- FROM LINE 3 ON: its names, then the lines that are read
fewer : (k n : ℕ) → ltb (3 + k) n ≡ ltb k (n - 3)
fewer k n = go (ltb (3 + k) n) refl
  where
    go : (t : Bool) → ltb (3 + k) n ≡ t → t ≡ ltb k (n - 3)
    go true e = sym (lt-ltb k (n - 3) (omega (arith, ltb-true (3 + k) n e)))
    go false e = sym (le-ltb k (n - 3) (omega (arith, ltb-false (3 + k) n e)))

module _ (s : List ℕ) {z : ℕ} (place : skip 2 s 0 ≡ z) where
  line_3 : line_here s z ≡ line_at (lines s) 2
  line_3 = rw (← place) (skip_line 2 s 0)

  after_3 : {names : List ℕ} {rows : ℕ} → LineNamed s z names rows → lines (drop rows s) ≡ drop 3 (lines s)
  after_3 {names} {rows} n =
      let e : skip 3 s 0 ≡ rows = skip_last 2 s 0 ∙ (rw place n.past) in
      rw (← e) (skip_lines 3 s 0)

module _ {s : List ℕ} {h : Head} (o : Said s h) (g : Graph) where
  begins : skip 2 s 0 ≡ h.next
  begins = next_is _ _ o.is

  pub lasso_untitled : line_is lasso_names (line_here s h.next) ≡ false → 12 ≡ lasso_refusal g (line_at (lines s) 1) (lines s)
  unfolding lasso_refusal
  lasso_untitled t = sym (rw (rw (line_3 s begins) at t) (unfold refuse first_of in refl))

  pub lasso_rest : {rows : ℕ} → LineNamed s h.next lasso_names rows → lasso_refusal g (line_at (lines s) 1) (lines s) ≡ edge_lines_refusal g h.stem h.cycle (lines (drop rows s))
  unfolding lasso_refusal edge_lines_refusal stem_in cycle_in
  lasso_rest n =
      sym (rw (after_3 s begins n, length-drop 3 (lines s), ← fewer (h.stem + h.cycle) (length (lines s)), stem_is _ _ o.is, cycle_is _ _ o.is, rw (line_3 s begins) at n.line) (unfold refuse first_of in refl))

  pub empty_untitled : line_is empty_names (line_here s h.next) ≡ false → 12 ≡ empty_refusal g (line_at (lines s) 1) (lines s)
  unfolding empty_refusal
  empty_untitled t = sym (rw (rw (line_3 s begins) at t) (unfold refuse first_of in refl))

  pub empty_rest : {rows : ℕ} → LineNamed s h.next empty_names rows → empty_refusal g (line_at (lines s) 1) (lines s) ≡ vertex_lines_refusal g h.reached (lines (drop rows s))
  unfolding empty_refusal vertex_lines_refusal
  empty_rest n =
      sym (rw (after_3 s begins n, length-drop 3 (lines s), ← fewer h.reached (length (lines s)), reached_is _ _ o.is, rw (line_3 s begins) at n.line) (unfold refuse first_of in refl))

-- so what the lines from line 4 on tell is told of the whole answer
module _ {s : List ℕ} {h : Head} (o : Said s h) {t : code.Graph} where
  pub lasso_unnamed : line_is lasso_names (line_here s h.next) ≡ false → LassoSays s t (Err AnswerLayout)
  lasso_unnamed b g x = told_fault AnswerLayout (lasso_untitled o g b) (omega arith)

  pub lasso_lines : {rows : ℕ} {r : Result Verdict Refusal} → LineNamed s h.next lasso_names rows → LinesSay s rows h.stem h.cycle t r → LassoSays s t r
  lasso_lines n l g x = rw (lasso_rest o g n) (l g x)

  pub empty_unnamed : line_is empty_names (line_here s h.next) ≡ false → EmptySays s t (Err AnswerLayout)
  empty_unnamed b g x = told_fault AnswerLayout (empty_untitled o g b) (omega arith)

  pub empty_lines : {rows : ℕ} {r : Result Verdict Refusal} → LineNamed s h.next empty_names rows → ListTells s rows h.reached t r → EmptySays s t r
  empty_lines n l g x = rw (empty_rest o g n) (l g x)

-- THE WHOLE CHECK: lines 1 and 2, then the rest against a graph; which is the one that the version means
against_is : (g : Graph) (s : List ℕ) → refusal_against answer_version g s
    ≡ first_of (opening_refusal s ∷ cond (says_lasso (line_at (lines s) 1)) (lasso_refusal g (line_at (lines s) 1) (lines s)) (empty_refusal g (line_at (lines s) 1) (lines s)) ∷ [])
unfolding refusal_against opening_refusal
against_is g s = first_append _ (cond (says_lasso (line_at (lines s) 1)) (lasso_refusal g (line_at (lines s) 1) (lines s)) (empty_refusal g (line_at (lines s) 1) (lines s)) ∷ [])

meant_is : (g : Graph) {s : List ℕ} {h : Head} → Said s h → answer_refusal g s ≡ refusal_against answer_version (meant_by h.version g) s
unfolding answer_refusal meant meant_by
meant_is g o = rw (version_is _ _ o.is) refl

module _ (g : Graph) (ts : List ℕ) where
  pub opening_told : {e : Refusal} → opening ts ≡ Err e → Told (answer_refusal g ts) (answer_verdict ts) (Err e)
  unfolding answer_refusal
  opening_told {e} h =
      let o = said_refused ts h in
      told_fault e (o.0 ∙ sym (against_is (meant g ts) ts ∙ first_decides (opening_refusal ts) _ o.1)) (omega (arith, o.0, o.1))

  -- after an opening without a fault the rest decides
  rest_told : {h : Head} {k v : ℕ} {r : Result Verdict Refusal} → Said ts h
      → k ≡ cond (is_lasso_verdict h.verdict) (lasso_refusal (meant_by h.version g) (line_at (lines ts) 1) (lines ts)) (empty_refusal (meant_by h.version g) (line_at (lines ts) 1) (lines ts))
      → v ≡ cond (is_lasso_verdict h.verdict) lasso_verdict empty_verdict → Told k v r → Told (answer_refusal g ts) (answer_verdict ts) r
  rest_told {h} {k} o e f t =
      tells t (meant_is g o ∙ against_is (meant_by h.version g) ts ∙ (rw (o.right, word_is _ _ o.is, ← e) (unfold first_of in (first_one k)))) (λ z. unfold answer_verdict in (rw (word_is _ _ o.is, f) refl))

  pub lasso_told : {h : Head} {r : Result Verdict Refusal} → opening ts ≡ Ok h → h.verdict ≡ Lasso → Told (lasso_refusal (meant_by h.version g) (line_at (lines ts) 1) (lines ts)) lasso_verdict r
      → Told (answer_refusal g ts) (answer_verdict ts) r
  lasso_told h e t = rest_told (said h) (rw e refl) (rw e refl) t

  pub empty_told : {h : Head} {r : Result Verdict Refusal} → opening ts ≡ Ok h → h.verdict ≡ Empty → Told (empty_refusal (meant_by h.version g) (line_at (lines ts) 1) (lines ts)) empty_verdict r
      → Told (answer_refusal g ts) (answer_verdict ts) r
  empty_told h e t = rest_told (said h) (rw e refl) (rw e refl) t

-- the whole case comes first
pub case_refused : (bs ts : List ℕ) {e : Refusal} → judged bs ≡ Err e → FilesSay bs ts (Err e)
unfolding check_refusal
case_refused bs ts {e} h =
    let j = turned bs refl h in
    told_fault e (j.0 ∙ sym (first_decides (case_refusal bs) _ j.1)) (omega (arith, j.0, j.1))

pub answer_told : (bs : List ℕ) → accepted bs ≡ true → (ts : List ℕ) {r : Result Verdict Refusal} → Told (answer_refusal (case_in bs).graph ts) (answer_verdict ts) r → FilesSay bs ts r
unfolding check_refusal accepted
answer_told bs a ts t = tells t (rw (eqb-true (case_refusal bs) 0 a) (unfold first_of in (first_one (answer_refusal (case_in bs).graph ts)))) (λ z. refl)

-- in numbers
pub says : {bs ts : List ℕ} {r : Result Verdict Refusal} {c : Checked} → FilesSay bs ts r → c ≡ checked_as r → CheckSays bs ts c
says t e = rw e (record { refusal = t.refused; verdict = t.passed })
