-- Offers compared as signed numbers. Assumes nothing.
use mathlib.Core.Path.{◌≡◌, refl, ◌∙◌}
use mathlib.Core.Bool.{Bool, true, false, not, cond}
use mathlib.Core.List.{List}
use mathlib.Core.Option.{Option, none, some}
use Prim.Native.Nat.{ℕ, zero, suc}
use lib.Dec.{ltb}
use lib.ListN.{set}
use lib.IntN.{ℤ, pos, neg_ℤ}
use lib.Signed.{lt_z}
use mir.Syntax.{w32}
use mir.Val.{SFits, to_z, of_z}
use mir.Facts.{to_z-of_z}
use Rattle.model.specs.Run.{is_some, takes, lower}
use Rattle.model.proofs.Signs.{deeper_lt}
use Rattle.search.specs.Cells.{far}

below_none : (a : ℕ) → lt_z (neg_ℤ (pos a)) (pos 1) ≡ true
below_none zero = refl
below_none (suc a) = refl

-- an offer is taken exactly where the program's test says so
takes_is : (o : Option ℕ) (d : ℕ) → lt_z (neg_ℤ (pos d)) (far o) ≡ takes o d
unfolding takes
takes_is none d = below_none d
takes_is (some k) d = deeper_lt d k

-- the lower of an offer and what waits, by their codes
pub least_is : (o : Option ℕ) (d : ℕ) → cond (lt_z (neg_ℤ (pos d)) (far o)) (neg_ℤ (pos d)) (far o) ≡ far (some (lower o d))
unfolding takes lower
least_is o d = rw (takes_is o d) (go o)
  where
    go : (o : Option ℕ) → cond (takes o d) (neg_ℤ (pos d)) (far o) ≡ far (some (lower o d))
    go none = refl
    go (some k) = either (ltb k d)
      where
        either : (b : Bool) → cond b (neg_ℤ (pos d)) (neg_ℤ (pos k)) ≡ neg_ℤ (pos (cond b d k))
        either true = refl
        either false = refl

pub some_is : (o : Option ℕ) → not (lt_z (pos 0) (far o)) ≡ is_some o
unfolding is_some
some_is none = refl
some_is (some zero) = refl
some_is (some (suc k)) = refl

pub none_is : (o : Option ℕ) → lt_z (pos 0) (far o) ≡ true → o ≡ none
none_is none h = refl
none_is (some zero) h = cc
none_is (some (suc k)) h = cc

-- a signed local holds bits: what a test and a store of it say, said of the numbers
pub taken_test : (b : Bool) (d old : ℤ) (o : ℕ) (s : Option ℕ) → SFits w32 d → SFits w32 old → b ≡ lt_z (to_z w32 (of_z w32 d)) (to_z w32 (of_z w32 old))
    → d ≡ neg_ℤ (pos o) → old ≡ far s → b ≡ takes s o
taken_test b d old o s f g e p q = e ∙ rw (to_z-of_z f, to_z-of_z g, p, q) (takes_is s o)

pub stored : (v w : List ℤ) (i : ℕ) (d : ℤ) (o : ℕ) → SFits w32 d → v ≡ set w i (to_z w32 (of_z w32 d)) → d ≡ neg_ℤ (pos o) → v ≡ set w i (neg_ℤ (pos o))
stored v w i d o f e p = e ∙ rw (to_z-of_z f, p)

pub none_test : (b : Bool) (old : ℤ) (s : Option ℕ) → SFits w32 old → b ≡ lt_z (pos 0) (to_z w32 (of_z w32 old)) → old ≡ far s → b ≡ lt_z (pos 0) (far s)
none_test b old s g e q = e ∙ rw (to_z-of_z g, q)

pub floor_test : (b : Bool) (d : ℤ) (marks o A : ℕ) → SFits w32 d → b ≡ lt_z (to_z w32 (of_z w32 d)) (neg_ℤ (pos marks)) → d ≡ neg_ℤ (pos o) → marks ≡ A → b ≡ ltb A o
floor_test b d m o A f e p q = e ∙ rw (to_z-of_z f, p, q) (deeper_lt o A)
