-- Laws of decimals: how long they are, how they are written digit by digit, and that what is written is read back.
-- Assumes nothing.
use mathlib.Core.Path.{◌≡◌, refl, sym, ap, ◌∙◌}
use mathlib.Core.Bool.{Bool, true, false, ◌&&◌, ◌||◌, not, cond}
use mathlib.Core.List.{List, [], ◌∷◌, ◌++◌, append-nil}
use mathlib.Core.Logic.{◌⊎◌, inl, inr}
use Prim.Native.Nat.{ℕ, zero, suc, ◌+◌, ◌*◌, ◌-◌, ◌/◌, ◌%◌, ◌^◌, ◌≤◌, ◌<◌}
use native.Mathlib.Nat.{pow-succ'}
use native.Mathlib.Omega.{arith}
use lib.Dec.{ltb, leb, eqb}
use lib.IntN.{ℤ, pos, negsuc, nat_abs}
use lib.ListN.{length, get_or, set, length-append, get_or-append}
use lib.Seq.{append_snoc}
use lib.Signed.{le_z}
use mir.Syntax.{w32}
use mir.Val.{SFits, to_z, of_z}
use mir.Facts.{to_z-of_z}
use borrow.Author.Tests.{ltb-true, ltb-false, leb-true, leb-false, le-leb, eq-eqb, ne_eqb}
use Rattle.text.specs.Numbers.{is_digit, all_digits, no_leading_zero, is_number, value_from, value, has_minus, without_minus, is_signed, signed_value, digits, decimal, signed_decimal, sign_length, Width}
use Rattle.text.specs.Promise.{NumbersShortest, OneLength}
use Rattle.text.specs.Writing.{put}
use Rattle.text.proofs.Tests.{or_left, or_right, and_both, both_true}
use Rattle.text.proofs.Writing.{put_before, put_none}

-- the digits of a number below 10 and of one from 10 on
digits_none : (v : ℕ) → digits 0 v ≡ []
unfolding digits
digits_none v = refl

pub digits_one : (k v : ℕ) → v < 10 → digits (suc k) v ≡ (48 + v) ∷ []
unfolding digits
digits_one k v h = go (ltb v 10) refl
  where
    go : (t : Bool) → ltb v 10 ≡ t → cond t ((48 + v) ∷ []) (digits k (v / 10) ++ ((48 + v % 10) ∷ [])) ≡ (48 + v) ∷ []
    go true e = refl
    go false e = absurd (omega (arith, ltb-false v 10 e))

pub digits_more : (k v : ℕ) → 10 ≤ v → digits (suc k) v ≡ digits k (v / 10) ++ ((48 + v % 10) ∷ [])
unfolding digits
digits_more k v h = go (ltb v 10) refl
  where
    go : (t : Bool) → ltb v 10 ≡ t → cond t ((48 + v) ∷ []) (digits k (v / 10) ++ ((48 + v % 10) ∷ [])) ≡ digits k (v / 10) ++ ((48 + v % 10) ∷ [])
    go true e = absurd (omega (arith, ltb-true v 10 e))
    go false e = refl

data Size (v : ℕ) : Type 0 where
  small : v < 10 → Size v
  large : 10 ≤ v → Size v

size_of : (v : ℕ) → Size v
size_of v = go (ltb v 10) refl
  where
    go : (t : Bool) → ltb v 10 ≡ t → Size v
    go true e = small (ltb-true v 10 e)
    go false e = large (ltb-false v 10 e)

-- their lengths
length_one : (k v : ℕ) → v < 10 → length (digits (suc k) v) ≡ 1
length_one k v h = ap length (digits_one k v h)

length_more : (k v : ℕ) → 10 ≤ v → length (digits (suc k) v) ≡ suc (length (digits k (v / 10)))
length_more k v h = ap length (digits_more k v h) ∙ rw (length-append (digits k (v / 10)) ((48 + v % 10) ∷ [])) (omega arith)

length_none : (v : ℕ) → length (digits 0 v) ≡ 0
length_none v = ap length (digits_none v)

digits_some : (k v : ℕ) → 1 ≤ length (digits (suc k) v)
digits_some k v = go (size_of v)
  where
    go : Size v → 1 ≤ length (digits (suc k) v)
    go (small h) = omega (arith, length_one k v h)
    go (large h) = omega (arith, length_more k v h)

digits_most : (k v : ℕ) → length (digits k v) ≤ k
digits_most zero v = omega (arith, length_none v)
digits_most (suc k) v = go (size_of v) (digits_most k (v / 10))
  where
    go : Size v → length (digits k (v / 10)) ≤ k → length (digits (suc k) v) ≤ suc k
    go (small h) r = omega (arith, length_one k v h)
    go (large h) r = omega (arith, length_more k v h)

-- enough digits for the value, and none too many
digits_hold : (k v : ℕ) → v < 10 ^ k → v < 10 ^ length (digits k v)
digits_hold zero v h = rw (length_none v) h
digits_hold (suc k) v h = go (size_of v) (digits_hold k (v / 10) (omega (arith, pow-succ' 10 k)))
  where
    go : Size v → v / 10 < 10 ^ length (digits k (v / 10)) → v < 10 ^ length (digits (suc k) v)
    go (small s) r = rw (length_one k v s) (omega arith)
    go (large s) r = rw (length_more k v s) (omega (arith, pow-succ' 10 (length (digits k (v / 10)))))

digits_least : (k v m : ℕ) → 1 ≤ v → m < length (digits k v) → 10 ^ m ≤ v
digits_least zero v m p h = absurd (omega (arith, length_none v))
digits_least (suc k) v m p h = go m (size_of v) h (λ j a b. digits_least k (v / 10) j a b)
  where
    go : (m : ℕ) → Size v → m < length (digits (suc k) v) → ((j : ℕ) → 1 ≤ v / 10 → j < length (digits k (v / 10)) → 10 ^ j ≤ v / 10) → 10 ^ m ≤ v
    go zero s h r = omega arith
    go (suc m) (small s) h r = absurd (omega (arith, length_one k v s))
    go (suc m) (large s) h r = omega (arith, pow-succ' 10 m, r m (omega arith) (omega (arith, length_more k v s)))

-- WIDTH of a decimal
decimal_some : (v : ℕ) → 1 ≤ length (decimal v)
unfolding decimal
decimal_some v = digits_some 9 v

pub decimal_most : (v : ℕ) → length (decimal v) ≤ 10
unfolding decimal
decimal_most v = digits_most 10 v

decimal_holds : (v : ℕ) → v < 10 ^ 10 → v < 10 ^ length (decimal v)
unfolding decimal
decimal_holds v h = digits_hold 10 v h

pub decimal_short : (v k : ℕ) → 1 ≤ k → v < 10 ^ k → length (decimal v) ≤ k
unfolding decimal
decimal_short v k p h = go (size_of v) (leb (length (digits 10 v)) k) refl
  where
    go : Size v → (t : Bool) → leb (length (digits 10 v)) k ≡ t → length (digits 10 v) ≤ k
    go (small s) t e = omega (arith, length_one 9 v s)
    go (large s) true e = leb-true (length (digits 10 v)) k e
    go (large s) false e = absurd (omega (arith, digits_least 10 v k (omega arith) (omega (arith, leb-false))))

signed_length : (z : ℤ) → length (signed_decimal z) ≡ sign_length z + length (decimal (nat_abs z))
unfolding signed_decimal sign_length
signed_length (pos v) = omega arith
signed_length (negsuc v) = omega arith

decimal_width : (v : ℕ) → v < 10 ^ 10 → Width v (length (decimal v))
decimal_width v h =
    record {
      shortest = record { some_digit = decimal_some v; holds = decimal_holds v h; least = λ j p l. decimal_short v j p l };
      places = λ z e. signed_length z ∙ ap (λ (m : ℕ). sign_length z + length (decimal m)) e;
    }

pub numbers_shortest : NumbersShortest
unfolding NumbersShortest
numbers_shortest v h = decimal_width v (omega arith)

pub one_length : OneLength
unfolding OneLength
one_length v j k a b = omega (arith, a.least k b.some_digit b.holds, b.least j a.some_digit a.holds)

-- what is counted is the length of the decimal
pub width_length : {v k : ℕ} → Width v k → k ≡ length (decimal v)
unfolding signed_decimal sign_length
width_length {v} {k} w = omega (arith, w.places (pos v) refl)

-- COUNTING the digits: n are counted, the last of them the last of w, and so many more may come
pub record Counted (v w n : ℕ) : Type 0 where
  pub fuel : ℕ
  pub left : n + fuel ≡ 10
  pub long : length (digits (suc fuel) w) + n ≡ suc (length (decimal v))
  pub low : w < 10 ^ suc fuel

pub counted_start : (v : ℕ) → v < 10 ^ 10 → Counted v v 1
unfolding decimal
counted_start v h = record { fuel = 9; left = refl; long = omega arith; low = h }

pub counted_step : (v w n : ℕ) → Counted v w n → 9 < w → Counted v (w / 10) (n + 1)
counted_step v w n r h = go r.fuel r.left r.long r.low
  where
    go : (k : ℕ) → n + k ≡ 10 → length (digits (suc k) w) + n ≡ suc (length (decimal v)) → w < 10 ^ suc k → Counted v (w / 10) (n + 1)
    go zero a b s = absurd (omega arith)
    go (suc k) a b s =
        record { fuel = k; left = omega arith; long = omega (arith, length_more (suc k) w (omega arith)); low = omega (arith, pow-succ' 10 (suc k)) }

pub counted_end : (v w n : ℕ) → Counted v w n → w ≤ 9 → v < 10 ^ 10 → Width v n
counted_end v w n r h l =
    let e : length (decimal v) ≡ n = omega (arith, r.long, length_one r.fuel w (omega arith)) in
    rw e at (decimal_width v l)

-- WRITING from the last digit to the first: those from place i on are written, those of w are left
pub record Written (at v w i : ℕ) (o z : List ℕ) : Type 0 where
  pub room : at + length (decimal v) ≤ length o
  pub within : i ≤ at + length (decimal v)
  pub fuel : ℕ
  pub done : List ℕ
  pub whole : digits fuel w ++ done ≡ decimal v
  pub place : i ≡ at + length (digits fuel w)
  pub holds : z ≡ put i done o

pub written_start : (at size v : ℕ) (o : List ℕ) → Width v size → at + size ≤ length o → Written at v v (at + size) o o
unfolding decimal
written_start at size v o k h =
    let e : size ≡ length (decimal v) = width_length k in
    record {
      room = omega arith;
      within = omega arith;
      fuel = 10;
      done = [];
      whole = append-nil (digits 10 v);
      place = rw e refl;
      holds = sym (put_none (at + size) o h);
    }

one_more : (i b : ℕ) (bs o z : List ℕ) → 0 < i → i + length bs ≤ length o → z ≡ put i bs o → set z (i - 1) b ≡ put (i - 1) (b ∷ bs) o
one_more zero b bs o z p h e = absurd (omega arith)
one_more (suc j) b bs o z p h e = let s : suc j - 1 ≡ j = omega arith in rw (s, e) (put_before j b bs o h)

pub written_step : (at v w i : ℕ) (o z : List ℕ) → Written at v w i o z → at < i → Written at v (w / 10) (i - 1) o (set z (i - 1) (48 + w % 10))
written_step at v w i o z r h = go r.fuel r.whole r.place
  where
    go : (k : ℕ) → digits k w ++ r.done ≡ decimal v → i ≡ at + length (digits k w) → Written at v (w / 10) (i - 1) o (set z (i - 1) (48 + w % 10))
    go zero a p = absurd (omega (arith, length_none w))
    go (suc k) a p = by (size_of w)
      where
        next : (j : ℕ) → digits j (w / 10) ++ (48 + w % 10) ∷ r.done ≡ decimal v → i - 1 ≡ at + length (digits j (w / 10))
            → Written at v (w / 10) (i - 1) o (set z (i - 1) (48 + w % 10))
        next j b q =
            record {
              room = r.room;
              within = omega (arith, r.within);
              fuel = j;
              done = (48 + w % 10) ∷ r.done;
              whole = b;
              place = q;
              holds = one_more i (48 + w % 10) r.done o z (omega arith) (omega (arith, r.room, ap length a, length-append (digits (suc k) w) r.done)) r.holds;
            }

        by : Size w → Written at v (w / 10) (i - 1) o (set z (i - 1) (48 + w % 10))
        by (small s) =
            let d : w % 10 ≡ w = omega arith in
            next 0 (rw (digits_none (w / 10), d) (rw (digits_one k w s) at a)) (omega (arith, length_none (w / 10), length_one k w s))
        by (large s) =
            next k (sym (append_snoc (digits k (w / 10)) (48 + w % 10) r.done) ∙ (rw (digits_more k w s) at a)) (omega (arith, length_more k w s))

pub written_end : (at size v w i : ℕ) (o z : List ℕ) → Width v size → Written at v w i o z → i ≤ at → z ≡ put at (decimal v) o
written_end at size v w i o z k r h = go (digits r.fuel w) r.whole r.place
  where
    go : (f : List ℕ) → f ++ r.done ≡ decimal v → i ≡ at + length f → z ≡ put at (decimal v) o
    go [] a p = let e : i ≡ at = omega arith in r.holds ∙ rw (e, a)
    go (x ∷ f) a p = absurd (omega arith)

-- READ BACK: all are digits
all_append : (a b : List ℕ) → all_digits a ≡ true → all_digits b ≡ true → all_digits (a ++ b) ≡ true
unfolding all_digits
all_append [] b p q = q
all_append (x ∷ a) b p q =
    let r = and_both (is_digit x) (all_digits a) p in
    both_true (is_digit x) (all_digits (a ++ b)) r.0 (all_append a b r.1 q)

all_one : (d : ℕ) → d < 10 → all_digits ((48 + d) ∷ []) ≡ true
unfolding all_digits is_digit
all_one d h =
    both_true (leb 48 (48 + d) && leb (48 + d) 57) true
    (both_true (leb 48 (48 + d)) (leb (48 + d) 57) (le-leb 48 (48 + d) (omega arith)) (le-leb (48 + d) 57 (omega arith))) refl

digits_all : (k v : ℕ) → all_digits (digits k v) ≡ true
digits_all zero v = rw (digits_none v) (unfold all_digits in refl)
digits_all (suc k) v = go (size_of v) (digits_all k (v / 10))
  where
    go : Size v → all_digits (digits k (v / 10)) ≡ true → all_digits (digits (suc k) v) ≡ true
    go (small h) r = rw (digits_one k v h) (all_one v h)
    go (large h) r = rw (digits_more k v h) (all_append (digits k (v / 10)) ((48 + v % 10) ∷ []) r (all_one (v % 10) (omega arith)))

pub decimal_digits : (v : ℕ) → all_digits (decimal v) ≡ true
unfolding decimal
decimal_digits v = digits_all 10 v

-- and no digit is a byte below `0`, as the space, the line feed and the minus sign are
pub digit_not : (b z : ℕ) → is_digit b ≡ true → z < 48 → eqb b z ≡ false
unfolding is_digit
digit_not b z d l = ne_eqb b z (λ e. omega (arith, leb-true 48 b (and_both (leb 48 b) (leb b 57) d).0))

-- the value
value_append : (a : ℕ) (xs ys : List ℕ) → value_from a (xs ++ ys) ≡ value_from (value_from a xs) ys
unfolding value_from
value_append a [] ys = refl
value_append a (x ∷ xs) ys = value_append (10 * a + (x - 48)) xs ys

value_last : (a d : ℕ) → value_from a ((48 + d) ∷ []) ≡ 10 * a + d
unfolding value_from
value_last a d = omega arith

digits_value : (k v : ℕ) → v < 10 ^ k → value_from 0 (digits k v) ≡ v
digits_value zero v h = rw (digits_none v) (unfold value_from in (omega arith))
digits_value (suc k) v h = go (size_of v) (digits_value k (v / 10) (omega (arith, pow-succ' 10 k)))
  where
    go : Size v → value_from 0 (digits k (v / 10)) ≡ v / 10 → value_from 0 (digits (suc k) v) ≡ v
    go (small s) r = rw (digits_one k v s) (value_last 0 v ∙ omega arith)
    go (large s) r = rw (digits_more k v s, value_append 0 (digits k (v / 10)) ((48 + v % 10) ∷ []), r) (value_last (v / 10) (v % 10) ∙ omega arith)

pub decimal_value : (v : ℕ) → v < 10 ^ 10 → value (decimal v) ≡ v
unfolding decimal value
decimal_value v h = digits_value 10 v h

-- no zero in front
leads : (k v : ℕ) → 1 ≤ v → v < 10 ^ k → get_or (digits k v) 0 0 ≡ 48 → ⊥
leads zero v l h e = omega arith
leads (suc k) v l h e = go (size_of v) (λ a e. leads k (v / 10) a (omega (arith, pow-succ' 10 k)) e)
  where
    some : (k v : ℕ) → 1 ≤ v → v < 10 ^ k → 0 < length (digits k v)
    some zero v l h = absurd (omega arith)
    some (suc k) v l h = digits_some k v

    go : Size v → (1 ≤ v / 10 → get_or (digits k (v / 10)) 0 0 ≡ 48 → ⊥) → ⊥
    go (small s) r = omega (arith, rw (digits_one k v s) at e)
    go (large s) r =
        let a : 1 ≤ v / 10 = omega arith in
        r a (rw (digits_more k v s, get_or-append (digits k (v / 10)) ((48 + v % 10) ∷ []) 0 0 (some k (v / 10) a (omega (arith, pow-succ' 10 k)))) at e)

number_parts : (w : List ℕ) → 1 ≤ length w → length w ≤ 9 → all_digits w ≡ true → (length w ≡ 1) ⊎ (get_or w 0 0 ≡ 48 → ⊥) → is_number w ≡ true
unfolding is_number no_leading_zero
number_parts w a b d z =
    both_true (leb 1 (length w) && leb (length w) 9) (all_digits w && (eqb (length w) 1 || not (eqb (get_or w 0 0) 48)))
    (both_true (leb 1 (length w)) (leb (length w) 9) (le-leb 1 (length w) a) (le-leb (length w) 9 b))
    (both_true (all_digits w) (eqb (length w) 1 || not (eqb (get_or w 0 0) 48)) d (go z))
  where
    go : (length w ≡ 1) ⊎ (get_or w 0 0 ≡ 48 → ⊥) → (eqb (length w) 1 || not (eqb (get_or w 0 0) 48)) ≡ true
    go (inl e) = or_left (eqb (length w) 1) (not (eqb (get_or w 0 0) 48)) (eq-eqb (length w) 1 e)
    go (inr n) = or_right (eqb (length w) 1) (not (eqb (get_or w 0 0) 48)) (rw (ne_eqb (get_or w 0 0) 48 n) refl)

pub decimal_number : (v : ℕ) → v < 10 ^ 9 → is_number (decimal v) ≡ true
decimal_number v h = number_parts (decimal v) (decimal_some v) (decimal_short v 9 (omega arith) h) (decimal_digits v) (go (size_of v))
  where
    go : Size v → (length (decimal v) ≡ 1) ⊎ (get_or (decimal v) 0 0 ≡ 48 → ⊥)
    go (small s) = inl (unfold decimal in (length_one 9 v s))
    go (large s) = inr (unfold decimal in (leads 10 v (omega arith) (omega arith)))

-- SIGNED
no_minus : (w : List ℕ) → all_digits w ≡ true → (has_minus w ≡ false) × (without_minus w ≡ w)
unfolding has_minus without_minus all_digits
no_minus [] d = (refl, refl)
no_minus (b ∷ w) d = let n = digit_not b 45 (and_both (is_digit b) (all_digits w) d).0 (omega arith) in (n, rw n refl)

pub signed_number : (z : ℤ) → nat_abs z < 10 ^ 9 → is_signed (signed_decimal z) ≡ true
unfolding signed_decimal is_signed without_minus
signed_number (pos v) h = rw (no_minus (decimal v) (decimal_digits v)).1 (decimal_number v h)
signed_number (negsuc v) h = decimal_number (suc v) h

pub signed_back : (z : ℤ) → nat_abs z < 10 ^ 10 → signed_value (signed_decimal z) ≡ z
unfolding signed_decimal signed_value has_minus without_minus
signed_back (pos v) h = rw ((no_minus (decimal v) (decimal_digits v)).0, decimal_value v h) refl
signed_back (negsuc v) h = rw (decimal_value (suc v) h) refl

-- SIGNS: what a test against zero tells; a number z comes as its bits, which are read as signed
from_zero : (z : ℤ) → le_z (pos 0) z ≡ true → signed_decimal z ≡ decimal (nat_abs z)
unfolding signed_decimal
from_zero (pos v) h = refl
from_zero (negsuc v) h = cc

below_zero : (z : ℤ) → le_z (pos 0) z ≡ false → signed_decimal z ≡ 45 ∷ decimal (nat_abs z)
unfolding signed_decimal
below_zero (pos v) h = absurd (omega (arith, leb-false 0 v h))
below_zero (negsuc v) h = refl

pub signed_from_zero : (z : ℤ) (m : ℕ) → SFits w32 z → m ≡ nat_abs (to_z w32 (of_z w32 z)) → le_z (pos 0) (to_z w32 (of_z w32 z)) ≡ true → signed_decimal z ≡ decimal m
signed_from_zero z m f e h = from_zero z (rw (to_z-of_z f) at h) ∙ ap decimal (sym (rw (to_z-of_z f) at e))

pub signed_below_zero : (z : ℤ) (m : ℕ) → SFits w32 z → m ≡ nat_abs (to_z w32 (of_z w32 z)) → le_z (pos 0) (to_z w32 (of_z w32 z)) ≡ false → signed_decimal z ≡ 45 ∷ decimal m
signed_below_zero z m f e h = below_zero z (rw (to_z-of_z f) at h) ∙ ap (λ (n : ℕ). 45 ∷ decimal n) (sym (rw (to_z-of_z f) at e))
