-- The bits of numbers: under &, | and ^ digit by digit, in a half one place lower; numbers with the same bits are equal.
-- Assumes nothing.
use mathlib.Core.Path.{◌≡◌, refl, sym, ap, ◌∙◌}
use mathlib.Core.Bool.{Bool, false, ◌&&◌, ◌||◌, not, cond}
use Prim.Native.Nat.{ℕ, zero, suc, ◌/◌, ◌%◌, ◌^◌, ◌<◌}
use native.Mathlib.Nat.{mod-lt, zero-lt-suc, zero-div, div-one, div-add-mod'}
use native.Mathlib.Numerals.{one-add}
use native.Mathlib.Omega.{arith}
use lib.Arith.{bin_ind}
use lib.Bits.{bit_and, bit_or, bit_xor, and_shr, or_shr, xor_shr, and_mod, or_mod, xor_mod, and_mask}
use lib.Dec.{eqb}
use lib.Pow.{shr-shr}
use Rattle.model.specs.ClaimLabels.{bit}

-- AN OPERATION digit by digit
on_digits : (P : ℕ → ℕ → Type 0) → P 0 0 → P 0 1 → P 1 0 → P 1 1 → (x y : ℕ) → x < 2 → y < 2 → P x y
on_digits P p q r s zero zero h k = p
on_digits P p q r s zero (suc zero) h k = q
on_digits P p q r s (suc zero) zero h k = r
on_digits P p q r s (suc zero) (suc zero) h k = s
on_digits P p q r s (suc (suc x)) y h k = absurd (omega (arith, h))
on_digits P p q r s zero (suc (suc y)) h k = absurd (omega (arith, k))
on_digits P p q r s (suc zero) (suc (suc y)) h k = absurd (omega (arith, k))

module _ (op : ℕ → ℕ → ℕ) (f : Bool → Bool → Bool) (shifted : (a b k : ℕ) → op a b / 2 ^ k ≡ op (a / 2 ^ k) (b / 2 ^ k)) (lowest : (a b k : ℕ) → op a b % 2 ^ k ≡ op (a % 2 ^ k) (b % 2 ^ k)) (digits : (x y : ℕ) → x < 2 → y < 2 → eqb (op x y) 1 ≡ f (eqb x 1) (eqb y 1)) where
  bit_by : (a b i : ℕ) → bit (op a b) i ≡ f (bit a i) (bit b i)
  unfolding bit
  bit_by a b i =
      ap (λ (x : ℕ). eqb (x % 2) 1) (shifted a b i)
      ∙ (ap (λ (x : ℕ). eqb x 1) (lowest (a / 2 ^ i) (b / 2 ^ i) 1) ∙ digits (a / 2 ^ i % 2) (b / 2 ^ i % 2) (mod-lt _ (zero-lt-suc 1)) (mod-lt _ (zero-lt-suc 1)))

pub bit_of_and : (a b i : ℕ) → bit (bit_and a b) i ≡ (bit a i && bit b i)
bit_of_and = bit_by bit_and ◌&&◌ and_shr and_mod (on_digits (λ (x y : ℕ). eqb (bit_and x y) 1 ≡ (eqb x 1 && eqb y 1)) refl refl refl refl)

pub bit_of_or : (a b i : ℕ) → bit (bit_or a b) i ≡ (bit a i || bit b i)
bit_of_or = bit_by bit_or ◌||◌ or_shr or_mod (on_digits (λ (x y : ℕ). eqb (bit_or x y) 1 ≡ (eqb x 1 || eqb y 1)) refl refl refl refl)

abbrev pub flip_if : Bool → Bool → Bool
flip_if a b = cond b (not a) a

pub bit_of_xor : (a b i : ℕ) → bit (bit_xor a b) i ≡ flip_if (bit a i) (bit b i)
bit_of_xor = bit_by bit_xor flip_if xor_shr xor_mod (on_digits (λ (x y : ℕ). eqb (bit_xor x y) 1 ≡ flip_if (eqb x 1) (eqb y 1)) refl refl refl refl)

-- A HALF, and nothing
pub bit_half : (x d : ℕ) → bit x (suc d) ≡ bit (x / 2) d
unfolding bit
bit_half x d = ap (λ (y : ℕ). eqb (y % 2) 1) (ap (λ (k : ℕ). x / 2 ^ k) (sym (one-add d)) ∙ sym (shr-shr x 1 d))

pub bit_zero : (d : ℕ) → bit 0 d ≡ false
unfolding bit
bit_zero d = rw (zero-div (2 ^ d)) refl

-- a bit as it is tested: shifted down, and cut off
pub bit_test : (x d : ℕ) → eqb (bit_and (x / 2 ^ d) 1) 1 ≡ bit x d
unfolding bit
bit_test x d = ap (λ (y : ℕ). eqb y 1) (and_mask (x / 2 ^ d) 1)

-- THE SAME BITS
first_digit : (a b : ℕ) → bit a 0 ≡ bit b 0 → a % 2 ≡ b % 2
unfolding bit
first_digit a b e = on_digits (λ (x y : ℕ). eqb x 1 ≡ eqb y 1 → x ≡ y) (λ q. refl) (λ q. cc) (λ q. cc) (λ q. refl) (a % 2) (b % 2) (mod-lt a (zero-lt-suc 1)) (mod-lt b (zero-lt-suc 1)) (rw (div-one a, div-one b) at e)

half_equal : (a b : ℕ) → a / 2 ≡ b / 2 → bit a 0 ≡ bit b 0 → a ≡ b
half_equal a b h e = omega (arith, div-add-mod' a 2, div-add-mod' b 2, first_digit a b e)

later : (a b : ℕ) → ((i : ℕ) → bit a i ≡ bit b i) → (i : ℕ) → bit (a / 2) i ≡ bit (b / 2) i
later a b e i = sym (bit_half a i) ∙ e (suc i) ∙ bit_half b i

pub same_bits : (a b : ℕ) → ((i : ℕ) → bit a i ≡ bit b i) → a ≡ b
same_bits =
    bin_ind (λ (a : ℕ). (b : ℕ) → ((i : ℕ) → bit a i ≡ bit b i) → a ≡ b)
    (bin_ind (λ (b : ℕ). ((i : ℕ) → bit 0 i ≡ bit b i) → 0 ≡ b) (λ e. refl) (λ b ih e. half_equal 0 b (ih (later 0 b e)) (e 0)))
    (λ a ih b e. half_equal a b (ih (b / 2) (later a b e)) (e 0))
