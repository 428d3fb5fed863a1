-- The end of a check: a refusal tells its number, a passing answer its verdict. Assumes nothing.
use mathlib.Core.Path.{◌≡◌, refl, sym, ◌∙◌}
use mathlib.Core.Bool.{Bool, true, false, cond}
use Prim.Native.Nat.{ℕ, ◌<◌}
use native.Mathlib.Omega.{arith}
use lib.Dec.{eqb}
use borrow.Author.Tests.{eqb-true, ne_eqb}
use Rattle.std.specs.Prelude.{Result, Ok, Err}
use Rattle.model.specs.Answer.{no_verdict}
use Rattle.model.specs.Refusals.{number, verdict_number}
use Rattle.model.specs.declared.refusal.Refusal.{Refusal}
use Rattle.model.specs.declared.verdict.Verdict.{Verdict}
use Rattle.checker.specs.Checking.{Told}

pub told_fault : {k v : ℕ} (e : Refusal) → number e ≡ k → 0 < number e → Told k v (Err e)
told_fault {k} {v} e q p = let n : k ≡ 0 → ⊥ = λ z. omega arith in record { refused = q; passed = rw (ne_eqb k 0 n) refl }

pub told_pass : {k : ℕ} (w : Verdict) → k ≡ 0 → Told k (verdict_number w) (Ok w)
told_pass w q = record { refused = sym q; passed = rw q refl }

told_go : (t : Bool) (k v w : ℕ) → eqb k 0 ≡ t → (k ≡ 0 → w ≡ v) → cond t v no_verdict ≡ cond t w no_verdict
told_go true k v w e h = sym (h (eqb-true k 0 e))
told_go false k v w e h = refl

pub tells : {k j v w : ℕ} {r : Result Verdict Refusal} → Told k v r → j ≡ k → (k ≡ 0 → w ≡ v) → Told j w r
tells {k} {j} {v} {w} t e h = record { refused = t.refused ∙ sym e; passed = t.passed ∙ (rw e (told_go (eqb k 0) k v w refl h)) }
