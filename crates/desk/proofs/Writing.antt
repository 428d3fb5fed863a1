-- A whole text at a buffer's front, a number between words, and the lines of a refusal. Assumes nothing.
use mathlib.Core.Path.{◌≡◌, refl, sym, ap, ◌∙◌}
use mathlib.Core.Bool.{Bool, true, false, cond}
use mathlib.Core.List.{List, [], ◌∷◌, ◌++◌, flatten, append-nil, append_assoc}
use Prim.Native.Nat.{ℕ, ◌+◌, ◌≤◌}
use native.Mathlib.Nat.{zero-add}
use native.Mathlib.Omega.{arith}
use lib.ListN.{length, take, drop, length-append}
use lib.Seq.{take-append_seam}
use borrow.Author.Tests.{le-leb}
use Rattle.std.specs.Prelude.{Option, Some}
use Rattle.text.specs.Ascii.{ascii}
use Rattle.text.specs.Lines.{text, joined}
use Rattle.text.specs.Numbers.{decimal}
use Rattle.text.specs.declared.write.Writer.{Writer}
use Rattle.text.specs.Writing.{Puts, Chain, front, written}
use Rattle.text.proofs.Writing.{put_front}
use Rattle.text.proofs.Chains.{puts_as, chain_puts, chain_then}
use Rattle.text.proofs.Decimals.{decimal_most}
use Rattle.model.specs.BuiltEntry.{names_pair}
use Rattle.desk.specs.Lines.{count_line, refused_line, pair_lines, refused_lines, count_parts, refused_parts, pair_parts, all_parts}

-- A WHOLE TEXT at the front
front_at : (e : Option ℕ) (n : ℕ) (z : List ℕ) → e ≡ Some n → n ≤ length z → front e z ≡ take n z
unfolding front
front_at e n z p h = rw (p, le-leb n (length z) h) refl

pub front_shows : (bs rest : List ℕ) {e : Option ℕ} {z : List ℕ} → e ≡ Some (length bs) → z ≡ bs ++ rest → front e z ≡ bs
front_shows bs rest {e} {z} p q = front_at e (length bs) z p (omega (arith, ap length q, length-append bs rest)) ∙ rw q (take-append_seam bs rest)

pub puts_shows : {bs : List ℕ} {w v : Writer} → Puts bs w v → w.end ≡ Some 0 → length bs ≤ length w.output.now → written v ≡ bs
puts_shows {bs} {w} {v} p e h =
    let f = p.fits 0 e (omega arith) in
    front_shows bs (drop (length bs) w.output.now) (f.0 ∙ ap Some (zero-add (length bs))) (f.1 ∙ put_front bs w.output.now)

-- A NUMBER BETWEEN WORDS, as it is written
pub between_puts : (a : List ℕ) (v : ℕ) (b : List ℕ) {w u : Writer} → Chain (a ∷ decimal v ∷ b ∷ []) w u → Puts (a ++ decimal v ++ b) w u
unfolding flatten
between_puts a v b c = puts_as (ap (λ (x : List ℕ). a ++ (decimal v ++ x)) (append-nil b) ∙ sym (append_assoc a (decimal v) b)) (chain_puts c)

-- THE LINE OF A REFUSAL, as it is written
refused_flat : (k : ℕ) → flatten (refused_parts k) ≡ refused_line k
unfolding refused_line count_line text joined flatten
refused_flat k = refl

pub refused_puts : (k : ℕ) {w v : Writer} → Chain (refused_parts k) w v → Puts (refused_line k) w v
refused_puts k c = puts_as (refused_flat k) (chain_puts c)

pub refused_short : (k : ℕ) → length (refused_line k) ≤ 19
unfolding flatten
refused_short k = omega (arith, ap length (sym (refused_flat k)), length-append (ascii "refused ") (decimal k ++ (10 ∷ [])), length-append (decimal k) (10 ∷ []), decimal_most k)

-- WITH ITS PAIR, as it is written
module _ (k q f : ℕ) {w v : Writer} where
  pub chain_alone : names_pair k ≡ false → Chain (refused_parts k) w v → Chain (all_parts k q f) w v
  chain_alone e c = rw e c

  pub chain_pair : {x y : Writer} → names_pair k ≡ true → Chain (refused_parts k) w x → Chain (count_parts (ascii "mode ") q) x y → Chain (count_parts (ascii "flags ") f) y v → Chain (all_parts k q f) w v
  chain_pair e c d b = rw e (chain_then c (chain_then d b))

flat_append : (ps qs : List (List ℕ)) → flatten (ps ++ qs) ≡ flatten ps ++ flatten qs
unfolding flatten
flat_append [] qs = refl
flat_append (p ∷ ps) qs = ap (λ (x : List ℕ). p ++ x) (flat_append ps qs) ∙ sym (append_assoc p (flatten ps) (flatten qs))

pair_flat : (q f : ℕ) → flatten (pair_parts q f) ≡ pair_lines q f
unfolding pair_lines count_line text joined flatten
pair_flat q f = flat_append (count_parts (ascii "mode ") q) (count_parts (ascii "flags ") f)

all_flat : (k q f : ℕ) → flatten (all_parts k q f) ≡ refused_lines k q f
unfolding refused_lines
all_flat k q f = flat_append (refused_parts k) (cond (names_pair k) (pair_parts q f) []) ∙ rw (refused_flat k) (ap (λ (x : List ℕ). refused_line k ++ x) (go (names_pair k)))
  where
    go : (b : Bool) → flatten (cond b (pair_parts q f) []) ≡ cond b (pair_lines q f) []
    go true = pair_flat q f
    go false = unfold flatten in refl

pub all_puts : (k q f : ℕ) {w v : Writer} → Chain (all_parts k q f) w v → Puts (refused_lines k q f) w v
all_puts k q f c = puts_as (all_flat k q f) (chain_puts c)

count_short : (s : List ℕ) (n : ℕ) → length (count_line s n) ≤ length s + 12
unfolding count_line text joined
count_short s n = omega (arith, length-append (s ++ (32 ∷ decimal n)) (10 ∷ []), length-append s (32 ∷ decimal n), decimal_most n)

pub all_short : (k q f : ℕ) → length (refused_lines k q f) ≤ 52
unfolding refused_lines pair_lines
all_short k q f = go (names_pair k)
  where
    m : List ℕ
    m = count_line (ascii "mode") q

    n : List ℕ
    n = count_line (ascii "flags") f

    go : (b : Bool) → length (refused_line k ++ cond b (m ++ n) []) ≤ 52
    go true = omega (arith, length-append (refused_line k) (m ++ n), length-append m n, refused_short k, count_short (ascii "mode") q, count_short (ascii "flags") f)
    go false = omega (arith, length-append (refused_line k) [], refused_short k)
