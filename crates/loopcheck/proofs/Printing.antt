-- From what the check says to what is printed. Assumes nothing.
use mathlib.Core.Path.{◌≡◌, refl, sym}
use mathlib.Core.Bool.{Bool, true, false, cond}
use mathlib.Core.List.{List, [], ◌∷◌, ◌++◌}
use Prim.Native.Nat.{ℕ, ◌≤◌}
use native.Mathlib.Omega.{arith}
use lib.Dec.{eqb}
use lib.ListN.{length}
use borrow.Author.Tests.{ne_eqb}
use Rattle.text.specs.Ascii.{ascii}
use Rattle.text.specs.Lines.{text, joined}
use Rattle.std.specs.Prelude.{Some}
use Rattle.text.specs.declared.write.Writer.{Writer}
use Rattle.text.specs.Writing.{Writes, Puts, written}
use Rattle.text.proofs.Chains.{puts, puts_as}
use Rattle.model.specs.Answer.{lasso_word, empty_word}
use Rattle.model.specs.Passing.{check_refusal, answer_verdict}
use Rattle.model.specs.Entry.{CheckSays}
use Rattle.model.specs.declared.Checked.{Checked}
use Rattle.desk.specs.Lines.{refused_line}
use Rattle.desk.proofs.Writing.{puts_shows, refused_short}
use Rattle.loopcheck.specs.Printing.{pass_line, checked_line, printed}

-- THE LINE of a refusal, of either verdict
turned_line : (k v : ℕ) → (k ≡ 0 → ⊥) → refused_line k ≡ checked_line k v
unfolding checked_line
turned_line k v h = sym (rw (ne_eqb k 0 h) refl)

lasso_line : (k v : ℕ) → k ≡ 0 → v ≡ 1 → ascii "pass lasso" ++ (10 ∷ []) ≡ checked_line k v
unfolding checked_line pass_line text joined
lasso_line k v h e = sym (rw (h, e) refl)

empty_line : (k v : ℕ) → k ≡ 0 → (v ≡ 1 → ⊥) → ascii "pass empty" ++ (10 ∷ []) ≡ checked_line k v
unfolding checked_line pass_line text joined
empty_line k v h n = sym (rw (h, ne_eqb v 1 n) refl)

module _ (k v : ℕ) {w u : Writer} where
  pub writes_turned : (k ≡ 0 → ⊥) → Puts (refused_line k) w u → Puts (checked_line k v) w u
  writes_turned h p = puts_as (turned_line k v h) p

  pub writes_lasso : k ≡ 0 → v ≡ 1 → Writes (ascii "pass lasso" ++ (10 ∷ [])) w u → Puts (checked_line k v) w u
  writes_lasso h e p = puts_as (lasso_line k v h e) (puts p)

  pub writes_empty : k ≡ 0 → (v ≡ 1 → ⊥) → Writes (ascii "pass empty" ++ (10 ∷ [])) w u → Puts (checked_line k v) w u
  writes_empty h n p = puts_as (empty_line k v h n) (puts p)

-- it is short
line_short : (k v : ℕ) → length (checked_line k v) ≤ 32
unfolding checked_line pass_line text joined
line_short k v = go (eqb k 0) (eqb v 1)
  where
    go : (a b : Bool) → length (cond a (cond b (pass_line lasso_word) (pass_line empty_word)) (refused_line k)) ≤ 32
    go true true = omega arith
    go true false = omega arith
    go false b = omega (arith, refused_short k)

-- THE CHECK: a refusal has no verdict, and its line asks for none
either : (b : Bool) (v : ℕ) (p e r : List ℕ) → cond b (cond (eqb (cond b v 0) 1) p e) r ≡ cond b (cond (eqb v 1) p e) r
either true v p e r = refl
either false v p e r = refl

says_line : {bs ts : List ℕ} {c : Checked} → CheckSays bs ts c → checked_line c.refusal c.verdict ≡ printed bs ts
unfolding printed checked_line
says_line {bs} {ts} {c} s = rw (s.refusal, s.verdict) (either (eqb (check_refusal bs ts) 0) (answer_verdict ts) (pass_line lasso_word) (pass_line empty_word) (refused_line (check_refusal bs ts)))

pub shows : {bs ts : List ℕ} {c : Checked} {w v : Writer} → CheckSays bs ts c → Puts (checked_line c.refusal c.verdict) w v → w.end ≡ Some 0 → 32 ≤ length w.output.now → written v ≡ printed bs ts
shows {bs} {ts} {c} s p e h = rw (← says_line s) (puts_shows p e (omega (arith, line_short c.refusal c.verdict)))
