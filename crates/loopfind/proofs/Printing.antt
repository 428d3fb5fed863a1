-- From what the run by rounds says to what is printed. Assumes nothing.
use mathlib.Core.Path.{◌≡◌, refl, sym, ap}
use mathlib.Core.Bool.{Bool, true, false, cond}
use mathlib.Core.List.{List, [], ◌∷◌}
use Prim.Native.Nat.{ℕ, zero, suc, ◌≤◌}
use native.Mathlib.Omega.{arith}
use lib.Dec.{eqb}
use lib.ListN.{length, drop}
use lib.IntN.{ℤ}
use borrow.Author.Tests.{eqb-true, eq-eqb, ne_eqb}
use Rattle.std.specs.Prelude.{Some}
use Rattle.text.specs.declared.write.Writer.{Writer}
use Rattle.text.specs.Writing.{Puts, front, written}
use Rattle.text.proofs.Tests.{clash}
use Rattle.model.specs.Case.{least_output, least_work}
use Rattle.model.specs.CaseFile.{first_of, case_refusal, accepted, run_case}
use Rattle.model.specs.Run.{has_ended, by_rounds}
use Rattle.model.specs.Answer.{answer}
use Rattle.model.specs.Entry.{rounds_refusal, in_front, RunSays, RoundsSay}
use Rattle.model.specs.declared.Outcome.{Outcome}
use Rattle.model.proofs.Kept.{runs_kept, file_sound}
use Rattle.desk.specs.Lines.{refused_line}
use Rattle.desk.proofs.Buffers.{long_buffers}
use Rattle.desk.proofs.Writing.{front_shows, puts_shows, refused_short}
use Rattle.loopfind.specs.Printing.{printed}

-- with buffers that are long enough the case alone is refused
first_alone : (k : ℕ) → first_of (k ∷ []) ≡ k
unfolding first_of
first_alone k = go (eqb k 0) refl
  where
    go : (t : Bool) → eqb k 0 ≡ t → cond t 0 k ≡ k
    go true e = sym (eqb-true k 0 e)
    go false e = refl

case_alone : (bs : List ℕ) (o w : ℕ) → least_output ≤ o → least_work ≤ w → rounds_refusal bs o w ≡ case_refusal bs
unfolding rounds_refusal
case_alone bs o w a b = rw (long_buffers o w a b) (skip (case_refusal bs))
  where
    skip : (k : ℕ) → first_of (0 ∷ k ∷ []) ≡ k
    skip k = unfold first_of in (first_alone k)

accepted_is : (bs : List ℕ) → case_refusal bs ≡ 0 → accepted bs ≡ true
unfolding accepted
accepted_is bs e = eq-eqb (case_refusal bs) 0 e

refused_is : (bs : List ℕ) (k : ℕ) → case_refusal bs ≡ suc k → accepted bs ≡ false
unfolding accepted
refused_is bs k e = ne_eqb (case_refusal bs) 0 (λ z. omega (arith, e, z))

answer_shows : (bs o : List ℕ) {n : ℕ} {z : List ℕ} → n ≡ length bs → z ≡ in_front bs o → front (Some n) z ≡ bs
unfolding in_front
answer_shows bs o e f = front_shows bs (drop (length bs) o) (ap Some e) f

-- WHAT THE RUN SAYS: an answer at the front, or a refusal of the case with the output as it was
module _ (bs : List ℕ) (r : Outcome) (o z : List ℕ) (w v : List ℤ) (long : least_output ≤ length o) (roomy : least_work ≤ length w) (s : RoundsSay bs r o z w v) where
  says : (k : ℕ) → case_refusal bs ≡ k → (b : Bool) → has_ended (by_rounds (run_case bs)) ≡ b → RunSays k b (run_case bs) (by_rounds (run_case bs)) r o z w v
  unfolding RoundsSay
  says k e b q = rw (← q, ← e, ← case_alone bs (length o) (length w) long roomy) s

  pub found : r.refusal ≡ 0 → front (Some r.written) z ≡ printed bs
  found h = go (case_refusal bs) refl (has_ended (by_rounds (run_case bs))) refl (says (case_refusal bs) refl (has_ended (by_rounds (run_case bs))) refl)
    where
      go : (k : ℕ) → case_refusal bs ≡ k → (b : Bool) → has_ended (by_rounds (run_case bs)) ≡ b → RunSays k b (run_case bs) (by_rounds (run_case bs)) r o z w v → front (Some r.written) z ≡ printed bs
      go (suc k) e b q = unfold RunSays in (λ t. absurd (omega (arith, h, t.refusal)))
      go zero e true q = unfold RunSays printed in (λ t. rw (accepted_is bs e) (answer_shows (answer (run_case bs).graph (by_rounds (run_case bs))) o t.written t.output))
      go zero e false q = unfold RunSays in (λ t. absurd (omega (arith, h, t.refusal)))

  pub turned : (r.refusal ≡ 0 → ⊥) → {p u : Writer} → p.end ≡ Some 0 → p.output.now ≡ z → Puts (refused_line r.refusal) p u → written u ≡ printed bs
  turned h {p} {u} begins f c = go (case_refusal bs) refl (has_ended (by_rounds (run_case bs))) refl (says (case_refusal bs) refl (has_ended (by_rounds (run_case bs))) refl)
    where
      go : (k : ℕ) → case_refusal bs ≡ k → (b : Bool) → has_ended (by_rounds (run_case bs)) ≡ b → RunSays k b (run_case bs) (by_rounds (run_case bs)) r o z w v → written u ≡ printed bs
      go (suc k) e b q = unfold RunSays printed in (λ t. rw (refused_is bs k e, e, ← t.refusal) (puts_shows c begins (omega (arith, refused_short r.refusal, long, ap length f, ap length t.output))))
      go zero e true q = unfold RunSays in (λ t. absurd (h t.refusal))
      go zero e false q = λ t. clash (has_ended (by_rounds (run_case bs))) (runs_kept (run_case bs) (file_sound bs (accepted_is bs e)).0).rounds_end q
