-- A list's front decides: what is read of the first bytes of a text, if they are more than the acts can take, is what is
-- read of the whole. Assumes nothing.
use mathlib.Core.Path.{◌≡◌, refl, sym, ap, ◌∙◌}
use mathlib.Core.Bool.{Bool, true, false, ◌&&◌, cond}
use mathlib.Core.List.{List, [], ◌∷◌}
use Prim.Native.Nat.{ℕ, zero, suc, ◌*◌, ◌-◌, ◌≤◌, ◌<◌}
use native.Mathlib.Omega.{arith}
use lib.Dec.{eqb, leb}
use lib.ListN.{length, get_or, take, drop}
use borrow.Author.Tests.{eqb-true, leb-true, leb-false}
use Rattle.text.specs.Ascii.{line_feed, space}
use Rattle.text.specs.Lines.{Line, lines, put_first, fields}
use Rattle.text.specs.Numbers.{most_digits, all_digits, no_leading_zero, is_number, all_numbers, numbers_line}
use Rattle.text.proofs.Tests.{and_both}
use Rattle.text.proofs.Lines.{first, size, first_nil, first_feed, first_byte, rest_lines, glue, fields_some}
use Rattle.text.proofs.Reading.{some_lines, lines_cons}
use Rattle.looplist.specs.Listing.{listed, FrontDecides}
use Rattle.std.specs.Prelude.{Err}
use Rattle.looplist.specs.declared.acts.BadList.TheVariants.{NoAct, TooMany}
use Rattle.looplist.proofs.Listing.{listed_step}

-- THE FIRST LINE of a text's front: the same where it has room, else an open one
front_go : (n b : ℕ) (bs : List ℕ) (t : Bool) → eqb b line_feed ≡ t → (size (first bs) ≤ n → first (take n bs) ≡ first bs) → size (first (b ∷ bs)) ≤ suc n → first (b ∷ take n bs) ≡ first (b ∷ bs)
front_go n b bs true e ih h = first_feed b (take n bs) e ∙ sym (first_feed b bs e)
front_go n b bs false e ih h =
    let k : suc (size (first bs)) ≤ suc n = omega (arith, ap size (first_byte b bs e)) in
    first_byte b (take n bs) e ∙ ap (λ (l : Line). record { text = b ∷ l.text; closed = l.closed }) (ih (omega arith)) ∙ sym (first_byte b bs e)

no_bytes : (b : ℕ) (bs : List ℕ) (t : Bool) → eqb b line_feed ≡ t → 1 ≤ size (first (b ∷ bs))
no_bytes b bs true e = rw (first_feed b bs e) (omega arith)
no_bytes b bs false e = rw (first_byte b bs e) (omega arith)

first_front : (n : ℕ) (bs : List ℕ) → size (first bs) ≤ n → first (take n bs) ≡ first bs
first_front zero [] h = refl
first_front (suc n) [] h = refl
first_front zero (b ∷ bs) h = absurd (omega (arith, no_bytes b bs (eqb b line_feed) refl))
first_front (suc n) (b ∷ bs) h = front_go n b bs (eqb b line_feed) refl (first_front n bs) h

open_go : (n b : ℕ) (bs : List ℕ) (t : Bool) → eqb b line_feed ≡ t → (n < size (first bs) → (first (take n bs)).closed ≡ false) → suc n < size (first (b ∷ bs)) → (first (b ∷ take n bs)).closed ≡ false
open_go n b bs true e ih h = absurd (omega (arith, rw (first_feed b bs e) at h))
open_go n b bs false e ih h = rw (first_byte b (take n bs) e) (ih (omega (arith, ap size (first_byte b bs e))))

first_open : (n : ℕ) (bs : List ℕ) → n < size (first bs) → (first (take n bs)).closed ≡ false
first_open zero [] h = rw first_nil refl
first_open (suc n) [] h = absurd (omega (arith, rw first_nil at h))
first_open zero (b ∷ bs) h = rw first_nil refl
first_open (suc n) (b ∷ bs) h = open_go n b bs (eqb b line_feed) refl (first_open n bs) h

-- AN ACT takes at most ten bytes
some_fields : (t : List ℕ) → 1 ≤ length (fields t)
some_fields t = rw (fields_some t) (go (fields t))
  where
    go : (fs : List (List ℕ)) → 1 ≤ length (glue [] fs)
    go [] = unfold glue in (omega arith)
    go (f ∷ fs) = unfold glue in (omega arith)

one_put : (b : ℕ) (bs : List ℕ) (fs : List (List ℕ)) → 1 ≤ length fs → length (put_first b fs) ≡ 1 → (length fs ≡ 1 → get_or fs 0 [] ≡ bs) → get_or (put_first b fs) 0 [] ≡ b ∷ bs
unfolding put_first
one_put b bs [] s h ih = absurd (omega arith)
one_put b bs (f ∷ fs) s h ih = ap (λ (w : List ℕ). b ∷ w) (ih h)

one_go : (b : ℕ) (bs : List ℕ) (t : Bool) → length (cond t ([] ∷ fields bs) (put_first b (fields bs))) ≡ 1 → (length (fields bs) ≡ 1 → get_or (fields bs) 0 [] ≡ bs) → get_or (cond t ([] ∷ fields bs) (put_first b (fields bs))) 0 [] ≡ b ∷ bs
one_go b bs true h ih = absurd (omega (arith, some_fields bs))
one_go b bs false h ih = one_put b bs (fields bs) (some_fields bs) h ih

one_field : (t : List ℕ) → length (fields t) ≡ 1 → get_or (fields t) 0 [] ≡ t
unfolding fields
one_field [] h = refl
one_field (b ∷ bs) h = one_go b bs (eqb b space) h (one_field bs)

first_number : (fs : List (List ℕ)) → length fs ≡ 1 → all_numbers fs ≡ true → is_number (get_or fs 0 []) ≡ true
unfolding all_numbers
first_number [] h a = absurd (omega arith)
first_number (f ∷ fs) h a = (and_both (is_number f) (all_numbers fs) a).0

number_short : (w : List ℕ) → is_number w ≡ true → length w ≤ 9
unfolding is_number
number_short w h =
    let g = and_both (leb 1 (length w) && leb (length w) most_digits) (all_digits w && no_leading_zero w) h in
    leb-true (length w) most_digits (and_both (leb 1 (length w)) (leb (length w) most_digits) g.0).1

act_short : (l : Line) → numbers_line 1 l ≡ true → size l ≤ 10
unfolding numbers_line
act_short l h =
    let g = and_both l.closed (eqb (length (fields l.text)) 1 && all_numbers (fields l.text)) h in
    let f = and_both (eqb (length (fields l.text)) 1) (all_numbers (fields l.text)) g.1 in
    let one = eqb-true (length (fields l.text)) 1 f.0 in
    let k : ◌≡◌ {A = ℕ} (cond l.closed 1 0) 1 = ap (λ (t : Bool). cond t 1 0) g.0 in
    omega (arith, number_short (get_or (fields l.text) 0 []) (first_number (fields l.text) one f.1), ap length (one_field l.text one))

open_none : (l : Line) → l.closed ≡ false → numbers_line 1 l ≡ false
unfolding numbers_line
open_none l h = rw h refl

-- LINE BY LINE
take_none : (k : ℕ) → take {A = ℕ} k [] ≡ []
take_none zero = refl
take_none (suc k) = refl

drop_take : (i n : ℕ) (s : List ℕ) → drop i (take n s) ≡ take (n - i) (drop i s)
drop_take zero n s = let e : n - 0 ≡ n = omega arith in rw e refl
drop_take (suc i) zero s = let e : zero - suc i ≡ 0 = omega arith in rw e refl
drop_take (suc i) (suc n) [] = sym (take_none (suc n - suc i))
drop_take (suc i) (suc n) (b ∷ s) = let e : suc n - suc i ≡ n - i = omega arith in rw e (drop_take i n s)

all_lines : (b : ℕ) (bs : List ℕ) → lines (b ∷ bs) ≡ first (b ∷ bs) ∷ lines (drop (size (first (b ∷ bs))) (b ∷ bs))
all_lines b bs = lines_cons (lines (b ∷ bs)) (some_lines (b ∷ bs) 0 (omega arith)) ∙ ap (λ (ls : List Line). first (b ∷ bs) ∷ ls) (sym (rest_lines (b ∷ bs)))

full_step : (k : ℕ) (l : Line) (ls : List Line) → listed zero k (l ∷ ls) ≡ Err TooMany
unfolding listed
full_step k l ls = refl

-- one line more: in the front where it fits there, else it is no act in either
front_step : (room k n : ℕ) (b : ℕ) (bs : List ℕ) → 10 * suc room < suc n
    → ((m : ℕ) (s : List ℕ) → 10 * room < m → listed room (suc k) (lines (take m s)) ≡ listed room (suc k) (lines s))
    → (fits : Bool) → leb (size (first (b ∷ bs))) (suc n) ≡ fits → (act : Bool) → numbers_line 1 (first (b ∷ bs)) ≡ act
    → listed (suc room) k (lines (b ∷ take n bs)) ≡ listed (suc room) k (lines (b ∷ bs))
front_step room k n b bs h ih fits f act a =
    rw (all_lines b (take n bs), all_lines b bs, listed_step, listed_step) (go fits f act a)
  where
    go : (fits : Bool) → leb (size (first (b ∷ bs))) (suc n) ≡ fits → (act : Bool) → numbers_line 1 (first (b ∷ bs)) ≡ act
        → cond (numbers_line 1 (first (b ∷ take n bs))) (listed room (suc k) (lines (drop (size (first (b ∷ take n bs))) (b ∷ take n bs)))) (Err (NoAct (suc k)))
        ≡ cond (numbers_line 1 (first (b ∷ bs))) (listed room (suc k) (lines (drop (size (first (b ∷ bs))) (b ∷ bs)))) (Err (NoAct (suc k)))
    go true f true a =
        let l = leb-true (size (first (b ∷ bs))) (suc n) f in
        rw (first_front (suc n) (b ∷ bs) l, a, drop_take (size (first (b ∷ bs))) (suc n) (b ∷ bs))
        (ih (suc n - size (first (b ∷ bs))) (drop (size (first (b ∷ bs))) (b ∷ bs)) (omega (arith, act_short (first (b ∷ bs)) a)))
    go true f false a = rw (first_front (suc n) (b ∷ bs) (leb-true (size (first (b ∷ bs))) (suc n) f), a) refl
    go false f true a = absurd (omega (arith, act_short (first (b ∷ bs)) a, leb-false (size (first (b ∷ bs))) (suc n) f))
    go false f false a = rw (open_none (first (b ∷ take n bs)) (first_open (suc n) (b ∷ bs) (leb-false (size (first (b ∷ bs))) (suc n) f)), a) refl

no_room : (k n : ℕ) (s : List ℕ) → 0 < n → listed zero k (lines (take n s)) ≡ listed zero k (lines s)
no_room k zero s h = absurd (omega arith)
no_room k (suc n) [] h = refl
no_room k (suc n) (b ∷ bs) h = rw (all_lines b (take n bs), all_lines b bs, full_step, full_step) refl

some_room : (room k n : ℕ) (s : List ℕ) → 10 * suc room < n
    → ((m : ℕ) (t : List ℕ) → 10 * room < m → listed room (suc k) (lines (take m t)) ≡ listed room (suc k) (lines t))
    → listed (suc room) k (lines (take n s)) ≡ listed (suc room) k (lines s)
some_room room k zero s h ih = absurd (omega arith)
some_room room k (suc n) [] h ih = refl
some_room room k (suc n) (b ∷ bs) h ih = front_step room k n b bs h ih (leb (size (first (b ∷ bs))) (suc n)) refl (numbers_line 1 (first (b ∷ bs))) refl

front : (room k n : ℕ) (s : List ℕ) → 10 * room < n → listed room k (lines (take n s)) ≡ listed room k (lines s)
front zero k n s h = no_room k n s (omega arith)
front (suc room) k n s h = some_room room k n s h (λ m t g. front room (suc k) m t g)

pub front_decides : FrontDecides
unfolding FrontDecides
front_decides room n s h = front room 0 n s h
