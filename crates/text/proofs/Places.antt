-- Places: so many lines on from a place, the lines that follow are those that follow so many lines. Assumes nothing.
use mathlib.Core.Path.{◌≡◌, refl, ap, ◌∙◌}
use mathlib.Core.List.{List}
use Prim.Native.Nat.{ℕ, zero, suc, ◌+◌}
use native.Mathlib.Omega.{arith}
use native.Mathlib.Nat.{add-zero, suc-add, zero-add}
use lib.ListN.{drop}
use lib.Seq.{drop-drop, get_or-drop}
use Rattle.text.specs.Lines.{Line, lines, line_at}
use Rattle.text.specs.Reading.{line_here, past_line, skip}
use Rattle.text.proofs.Reading.{past_lines}

pub skip_none : (s : List ℕ) (at : ℕ) → skip 0 s at ≡ at
unfolding skip
skip_none s at = refl

pub skip_one : (s : List ℕ) (at : ℕ) → skip 1 s at ≡ past_line s at
unfolding skip
skip_one s at = refl

-- past three lines, one by one
pub skip_three : (s : List ℕ) (at : ℕ) {a b c : ℕ} → a ≡ past_line s at → b ≡ past_line s a → c ≡ past_line s b → c ≡ skip 3 s at
unfolding skip
skip_three s at p q r = r ∙ ap (past_line s) (q ∙ ap (past_line s) p)

pub skip_first : (k : ℕ) (s : List ℕ) (at : ℕ) → skip (suc k) s at ≡ skip k s (past_line s at)
unfolding skip
skip_first k s at = refl

pub skip_add : (j k : ℕ) (s : List ℕ) (at : ℕ) → skip (j + k) s at ≡ skip k s (skip j s at)
unfolding skip
skip_add zero k s at = rw (zero-add k) refl
skip_add (suc j) k s at = rw (suc-add j k) (skip_add j k s (past_line s at))

-- one line more is the line past them
pub skip_last : (k : ℕ) (s : List ℕ) (at : ℕ) → skip (k + 1) s at ≡ past_line s (skip k s at)
skip_last k s at = skip_add k 1 s at ∙ skip_one s (skip k s at)

pub skip_lines : (k : ℕ) (s : List ℕ) (at : ℕ) → lines (drop (skip k s at) s) ≡ drop k (lines (drop at s))
unfolding skip
skip_lines zero s at = refl
skip_lines (suc k) s at = skip_lines k s (past_line s at) ∙ ap (λ (ls : List Line). drop k ls) (past_lines s at) ∙ drop-drop k 1 (lines (drop at s)) ∙ ap (λ (j : ℕ). drop j (lines (drop at s))) (let z : 1 + k ≡ suc k = omega arith in z)

-- the line that starts there
pub skip_line : (k : ℕ) (s : List ℕ) (at : ℕ) → line_here s (skip k s at) ≡ line_at (lines (drop at s)) k
unfolding line_at
skip_line k s at = ap (λ (ls : List Line). line_at ls 0) (skip_lines k s at) ∙ rw (get_or-drop, add-zero k) refl
