-- Refusals: of a list of numbers the first that is not 0 decides. Assumes nothing.
use mathlib.Core.Path.{◌≡◌, refl}
use mathlib.Core.Bool.{Bool, true, false, cond}
use mathlib.Core.List.{List, [], ◌∷◌, ◌++◌}
use Prim.Native.Nat.{ℕ}
use lib.Dec.{eqb}
use borrow.Author.Tests.{eqb-true, ne_eqb}
use Rattle.model.specs.CaseFile.{first_of}

pub first_one : (k : ℕ) → first_of (k ∷ []) ≡ k
unfolding first_of
first_one k = go (eqb k 0) refl
  where
    go : (b : Bool) → eqb k 0 ≡ b → cond b 0 k ≡ k
    go true e = rw (eqb-true k 0 e) refl
    go false e = refl

-- a list's front decides, if it refuses
pub first_append : (ks ls : List ℕ) → first_of (ks ++ ls) ≡ first_of (first_of ks ∷ ls)
unfolding first_of
first_append [] ls = refl
first_append (k ∷ ks) ls = go (eqb k 0) refl (first_append ks ls)
  where
    go : (b : Bool) → eqb k 0 ≡ b → first_of (ks ++ ls) ≡ first_of (first_of ks ∷ ls) → cond b (first_of (ks ++ ls)) k ≡ first_of (cond b (first_of ks) k ∷ ls)
    go true e ih = ih
    go false e ih = rw e refl

pub first_decides : (k : ℕ) (ks : List ℕ) → (k ≡ 0 → ⊥) → first_of (k ∷ ks) ≡ k
unfolding first_of
first_decides k ks n = rw (ne_eqb k 0 n) refl
