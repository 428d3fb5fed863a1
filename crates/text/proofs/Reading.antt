-- What the readers' answers mean for a caller that walks a text line by line. Assumes nothing.
use mathlib.Core.Path.{◌≡◌, refl, sym, ap, ◌∙◌}
use mathlib.Core.Bool.{Bool, true, false, ◌&&◌, not, cond, and-false}
use mathlib.Core.List.{List, [], ◌∷◌, ◌++◌, append_assoc}
use Rattle.std.specs.Prelude.{Option, Some, None, map}
use Prim.Native.Nat.{ℕ, zero, suc, ◌+◌, ◌-◌, ◌≤◌, ◌<◌}
use native.Mathlib.Numerals.{add-one}
use native.Mathlib.Nat.{sub-zero}
use native.Mathlib.Omega.{arith}
use lib.Dec.{ltb, eqb, eqb-suc-suc}
use lib.ListN.{length, get_or, get_or-map, set, length-set, take, drop, drop_of_length-le, length-drop}
use lib.Seq.{drop-drop, take-suc-set}
use Rattle.std.proofs.lemmas.List.{take_all}
use borrow.Author.Tests.{eqb-true, eqb-false, ne_eqb, not-true}
use Rattle.text.specs.Ascii.{line_feed}
use Rattle.text.specs.Lines.{Line, lines, line_at, put_byte, fields, field, equal, begins, line_is}
use Rattle.text.specs.Numbers.{is_number, value, value_from, all_numbers, numbers_line, number_at}
use Rattle.text.specs.Reading.{line_here, past_line, field_here, named_here, number_before, leading_here, values, row_here}
use Rattle.text.specs.declared.read.Row.{Row as Numbers}
use Rattle.text.proofs.Tests.{and_both, some_if, none_if}
use Rattle.text.proofs.Lines.{size, first, first_nil, first_feed, first_byte, rest_lines, equal_true}
use Rattle.text.proofs.Digits.{lone}
use Rattle.text.proofs.ReadingSteps.{past_size}
use Rattle.text.proofs.ReadingRows.{Parted, NotParted, no_numbers, numbers_more, row_number, leading_number, parted}

-- THE NEXT LINE: past a line come the lines after it
pub past_lines : (s : List ℕ) (at : ℕ) → lines (drop (past_line s at) s) ≡ drop 1 (lines (drop at s))
past_lines s at = rw (past_size s at, ← drop-drop (size (line_here s at)) at s) (rest_lines (drop at s))

-- THE END: no line is left at the text's end, and one is before it
pub no_lines : (s : List ℕ) (z : ℕ) → length s ≤ z → lines (drop z s) ≡ []
unfolding lines
no_lines s z h = rw (drop_of_length-le s h)

put_byte_some : (b : ℕ) (ls : List Line) → 0 < length (put_byte b ls)
unfolding put_byte
put_byte_some b [] = omega arith
put_byte_some b (l ∷ ls) = omega arith

some_lines_go : (bs : List ℕ) → 0 < length bs → 0 < length (lines bs)
unfolding lines
some_lines_go [] h = absurd (omega arith)
some_lines_go (b ∷ bs) h = go (eqb b line_feed)
  where
    go : (t : Bool) → 0 < length (cond t (record { text = []; closed = true } ∷ lines bs) (put_byte b (lines bs)))
    go true = omega arith
    go false = put_byte_some b (lines bs)

pub some_lines : (s : List ℕ) (z : ℕ) → z < length s → 0 < length (lines (drop z s))
some_lines s z h = some_lines_go (drop z s) (omega (arith, length-drop z s))

-- so there the lines are the one at the place and those after it
pub lines_cons : (ls : List Line) → 0 < length ls → ls ≡ line_at ls 0 ∷ drop 1 ls
unfolding line_at
lines_cons [] h = absurd (omega arith)
lines_cons (l ∷ ls) h = refl

pub lines_here : (s : List ℕ) (at : ℕ) → at < length s → lines (drop at s) ≡ line_here s at ∷ drop 1 (lines (drop at s))
lines_here s at h = lines_cons (lines (drop at s)) (some_lines s at h)

-- A NAMED LINE: names that have no line feed are the line at a place, and what is past them is past it
abbrev pub without_feed : List ℕ → Bool
without_feed [] = true
without_feed (b ∷ bs) = not (eqb b line_feed) && without_feed bs

and_swap : (x y z : Bool) → (x && (y && z)) ≡ (y && (x && z))
and_swap true y z = refl
and_swap false y z = sym (and-false y)

line_is_go : (y : ℕ) (ys : List ℕ) (b : ℕ) (bs : List ℕ) (t : Bool) → eqb b line_feed ≡ t → not (eqb y line_feed) ≡ true
    → begins (ys ++ line_feed ∷ []) bs ≡ line_is ys (first bs) → (eqb b y && begins (ys ++ line_feed ∷ []) bs) ≡ line_is (y ∷ ys) (first (b ∷ bs))
unfolding line_is equal
line_is_go y ys b bs true e n h =
    let d : b ≡ line_feed = eqb-true b line_feed e in
    rw (first_feed b bs e, ne_eqb b y (λ q. eqb-false y line_feed (not-true (eqb y line_feed) n) (sym q ∙ d)))
line_is_go y ys b bs false e n h =
    rw (first_byte b bs e, h) (and_swap (eqb b y) (first bs).closed (equal (first bs).text ys))

line_is_nil : (b : ℕ) (bs : List ℕ) (t : Bool) → eqb b line_feed ≡ t → (t && true) ≡ line_is [] (first (b ∷ bs))
unfolding line_is equal
line_is_nil b bs true e = rw (first_feed b bs e)
line_is_nil b bs false e = rw (first_byte b bs e) (sym (and-false (first bs).closed))

line_is_begins : (names bs : List ℕ) → without_feed names ≡ true → begins (names ++ line_feed ∷ []) bs ≡ line_is names (first bs)
unfolding begins equal line_is
line_is_begins [] [] h = rw first_nil
line_is_begins [] (b ∷ bs) h = line_is_nil b bs (eqb b line_feed) refl
line_is_begins (y ∷ ys) [] h = rw first_nil
line_is_begins (y ∷ ys) (b ∷ bs) h =
    let n = and_both (not (eqb y line_feed)) (without_feed ys) h in
    line_is_go y ys b bs (eqb b line_feed) refl n.0 (line_is_begins ys bs n.1)

pub named_line : (names : List ℕ) (s : List ℕ) (at : ℕ) → without_feed names ≡ true → begins (names ++ line_feed ∷ []) (drop at s) ≡ line_is names (line_here s at)
named_line names s at h = line_is_begins names (drop at s) h

pub named_past : (names : List ℕ) (s : List ℕ) (at : ℕ) → line_is names (line_here s at) ≡ true → at + suc (length names) ≡ past_line s at
unfolding line_is past_line
named_past names s at h =
    let l = line_here s at in
    let g = and_both l.closed (equal l.text names) h in
    let n : length l.text ≡ length names = ap length (equal_true l.text names g.1) in
    let k : ◌≡◌ {A = ℕ} (cond l.closed 1 0) 1 = ap (λ (t : Bool). cond t 1 0) g.0 in
    omega arith

-- the line at a place is this one, and z is past it
pub record LineNamed (s : List ℕ) (at : ℕ) (names : List ℕ) (z : ℕ) : Type 0 where
  pub line : line_is names (line_here s at) ≡ true
  pub past : past_line s at ≡ z

pub named_read : {s : List ℕ} {at : ℕ} {names : List ℕ} {z : ℕ} {r : Option ℕ} → without_feed names ≡ true → r ≡ named_here s at names → r ≡ Some z → LineNamed s at names z
unfolding named_here
named_read {s} {at} {names} h p q =
    let g = some_if (begins (names ++ line_feed ∷ []) (drop at s)) (sym p ∙ q) in
    let l : line_is names (line_here s at) ≡ true = sym (named_line names s at h) ∙ g.0 in
    record { line = l; past = sym (named_past names s at l) ∙ g.1 }

pub named_other : (names : List ℕ) (s : List ℕ) (at : ℕ) {r : Option ℕ} → without_feed names ≡ true → r ≡ named_here s at names → r ≡ None → line_is names (line_here s at) ≡ false
unfolding named_here
named_other names s at h p q =
    sym (named_line names s at h) ∙ none_if (begins (names ++ line_feed ∷ []) (drop at s)) _ (sym p ∙ q)

-- ROWS: the line at a place has these numbers and no other field, and z is past it
pub record Row (s : List ℕ) (at : ℕ) (vs : List ℕ) (z : ℕ) : Type 0 where
  pub line : numbers_line (length vs) (line_here s at) ≡ true
  pub are : (i : ℕ) → i < length vs → number_at (line_here s at) i ≡ get_or vs i 0
  pub past : past_line s at ≡ z

-- so what follows it are the lines after this one
module _ {s : List ℕ} {at : ℕ} {vs : List ℕ} {z : ℕ} (r : Row s at vs z) where
  pub row_rest : lines (drop z s) ≡ drop 1 (lines (drop at s))
  row_rest = ap (λ (k : ℕ). lines (drop k s)) (sym r.past) ∙ past_lines s at

-- the line at a place is no row of so many numbers
pub record NoRow (many : ℕ) (s : List ℕ) (at : ℕ) : Type 0 where
  pub none : numbers_line many (line_here s at) ≡ false

-- one number more in front of a row
parted_more : {s : List ℕ} {at v p : ℕ} → Parted s at v p → (k : ℕ) → numbers_line (suc k) (line_here s at) ≡ numbers_line k (line_here s p)
unfolding numbers_line all_numbers
parted_more {s} {at} {v} {p} g k =
    ap (λ (t : Bool). t && (eqb (length (fields (line_here s at).text)) (suc k) && all_numbers (fields (line_here s at).text))) g.closed
    ∙ ap (λ (fs : List (List ℕ)). (line_here s p).closed && (eqb (length fs) (suc k) && all_numbers fs)) g.pieces
    ∙ rw (eqb-suc-suc, g.number)

pub no_row_here : (k : ℕ) {s : List ℕ} {at : ℕ} → NotParted s at → NoRow (suc (suc k)) s at
no_row_here k {s} {at} g = record { none = numbers_more s at k ∙ rw g.none }

-- THE READER'S ANSWER as a row: the first so many of a list, one by one
abbrev pub from : (i many : ℕ) → List ℕ → List ℕ
from i zero xs = []
from i (suc k) xs = get_or xs i 0 ∷ from (suc i) k xs

abbrev pub firsts : (many : ℕ) → List ℕ → List ℕ
firsts k xs = from 0 k xs

length_from : (i k : ℕ) (xs : List ℕ) → length (from i k xs) ≡ k
length_from i zero xs = refl
length_from i (suc k) xs = ap suc (length_from (suc i) k xs)

get_from : (i k : ℕ) (xs : List ℕ) (j : ℕ) → j < k → get_or (from i k xs) j 0 ≡ get_or xs (i + j) 0
get_from i zero xs j h = absurd (omega arith)
get_from i (suc k) xs zero h = ap (λ (n : ℕ). get_or xs n 0) (omega arith)
get_from i (suc k) xs (suc j) h = get_from (suc i) k xs j (omega arith) ∙ ap (λ (n : ℕ). get_or xs n 0) (omega arith)

pub values_at : (l : Line) (i : ℕ) → get_or (values l) i 0 ≡ number_at l i
unfolding number_at field value value_from
values_at l i = get_or-map value (fields l.text) i []

pub row_read : (k : ℕ) {s : List ℕ} {at : ℕ} {r : Option (Numbers k)} {x : Numbers k} → r ≡ row_here k s at → r ≡ Some x → Row s at (firsts k x.numbers) x.next
unfolding row_here
row_read k {s} {at} {r} {x} p q =
    let l = line_here s at in
    let g = some_if (numbers_line k l) (sym p ∙ q) in
    record { line = rw (length_from 0 k x.numbers) g.0; are = are; past = ap (λ (y : Numbers k). y.next) g.1 }
  where
    are : (i : ℕ) → i < length (firsts k x.numbers) → number_at (line_here s at) i ≡ get_or (firsts k x.numbers) i 0
    are i h =
        let g = some_if (numbers_line k (line_here s at)) (sym p ∙ q) in
        sym (get_from 0 k x.numbers i (omega (arith, length_from 0 k x.numbers)) ∙ ap (λ (n : ℕ). get_or x.numbers n 0) (omega arith) ∙ ap (λ (y : Numbers k). get_or y.numbers i 0) (sym g.1) ∙ values_at (line_here s at) i)

pub row_fault : (k : ℕ) (s : List ℕ) (at : ℕ) {r : Option (Numbers k)} → r ≡ row_here k s at → r ≡ None → NoRow k s at
unfolding row_here
row_fault k s at p q = record { none = none_if (numbers_line k (line_here s at)) _ (sym p ∙ q) }

-- A ROW UNDER WAY: i of its numbers are read, not yet the last, and the rest of the line begins at p
pub record Under (many : ℕ) (s : List ℕ) (at i : ℕ) (numbers : List ℕ) (p : ℕ) : Type 0 where
  pub long : length numbers ≡ many
  pub left : i < many
  pub line : numbers_line many (line_here s at) ≡ numbers_line (many - i) (line_here s p)
  pub are : values (line_here s at) ≡ take i numbers ++ values (line_here s p)
  pub past : past_line s at ≡ past_line s p

pub under_start : (k : ℕ) (s : List ℕ) (at : ℕ) (numbers : List ℕ) → length numbers ≡ k → 1 ≤ k → Under k s at 0 numbers at
under_start k s at numbers n h = record { long = n; left = omega arith; line = rw (sub-zero k) refl; are = refl; past = refl }

-- a row of no numbers is no line
pub no_row_of_none : (k : ℕ) (s : List ℕ) (at : ℕ) → (1 ≤ k → ⊥) → None ≡ row_here k s at
unfolding row_here
no_row_of_none zero s at h = sym (rw (no_numbers (line_here s at)))
no_row_of_none (suc k) s at h = absurd (h (omega arith))

parted_values : {s : List ℕ} {at v p : ℕ} → Parted s at v p → values (line_here s at) ≡ v ∷ values (line_here s p)
parted_values {s} {at} {v} {p} g = ap (λ (fs : List (List ℕ)). map value fs) g.pieces ∙ ap (λ (w : ℕ). w ∷ values (line_here s p)) g.worth

-- a number alone, in the reader's answer
lone_before : (s : List ℕ) (at stop : ℕ) {r : Option (Numbers 1)} {x : Numbers 1} → r ≡ number_before s at stop → r ≡ Some x → x.numbers ≡ lone x ∷ []
unfolding number_before
lone_before s at stop p q =
    let g = some_if (is_number (field_here s at) && eqb (get_or s (at + length (field_here s at)) 0) stop) (sym p ∙ q) in
    ap (λ (y : Numbers 1). y.numbers) (sym g.1) ∙ ap (λ (y : Numbers 1). lone y ∷ []) g.1

module _ {k : ℕ} {s : List ℕ} {at i : ℕ} {numbers : List ℕ} {p : ℕ} (u : Under k s at i numbers p) where
  under_line : {j : ℕ} → k - i ≡ j → numbers_line k (line_here s at) ≡ numbers_line j (line_here s p)
  under_line e = u.line ∙ ap (λ (n : ℕ). numbers_line n (line_here s p)) e

  -- one number more
  pub under_more : {v z : ℕ} → suc i < k → Parted s p v z → Under k s at (i + 1) (set numbers i v) z
  under_more {v} {z} h g =
      let t : take (i + 1) (set numbers i v) ≡ take i numbers ++ v ∷ [] = rw (add-one i) (take-suc-set numbers i v (omega (arith, u.long))) in
      record {
        long = length-set numbers i v ∙ u.long;
        left = omega arith;
        line = under_line (omega arith) ∙ parted_more g (k - (i + 1));
        are = u.are ∙ rw (t, parted_values g) (sym (append_assoc (take i numbers) (v ∷ []) (values (line_here s z))));
        past = u.past ∙ g.past;
      }

  -- none more
  pub under_fault : suc i < k → NotParted s p → None ≡ row_here k s at
  unfolding row_here
  under_fault h g = sym (rw (under_line (omega arith) ∙ (no_row_here (k - i - 2) g).none))

  -- the last
  last_value : {v : ℕ} → suc i ≡ k → values (line_here s p) ≡ v ∷ [] → values (line_here s at) ≡ set numbers i v
  last_value {v} e h =
      u.are
      ∙ rw h refl
      ∙ sym (take-suc-set numbers i v (omega (arith, u.long)))
      ∙ take_all (suc i) (set numbers i v) (omega (arith, length-set numbers i v, u.long))

  pub under_last : {m : ℕ} {r : Option (Numbers 1)} {x : Numbers 1} → i ≡ m → suc i ≡ k → r ≡ number_before s p line_feed → r ≡ Some x
      → Some (record { numbers = set numbers m (lone x); next = x.next }) ≡ row_here k s at
  unfolding row_here
  under_last {m} {r} {x} j e q d =
      let g = some_if (numbers_line 1 (line_here s p)) (sym (row_number s p) ∙ sym q ∙ d) in
      let l : numbers_line k (line_here s at) ≡ true = under_line (omega arith) ∙ g.0 in
      let v : values (line_here s at) ≡ set numbers m (lone x) =
      last_value e (ap (λ (y : Numbers 1). y.numbers) g.1 ∙ lone_before s p line_feed q d) ∙ ap (λ (n : ℕ). set numbers n (lone x)) j in
      let z : past_line s at ≡ x.next = u.past ∙ ap (λ (y : Numbers 1). y.next) g.1 in
      sym (rw (l, v, z) refl)

  pub under_no_last : {r : Option (Numbers 1)} → suc i ≡ k → r ≡ number_before s p line_feed → r ≡ None → None ≡ row_here k s at
  unfolding row_here
  under_no_last e q d =
      let f : numbers_line 1 (line_here s p) ≡ false = none_if (numbers_line 1 (line_here s p)) _ (sym (row_number s p) ∙ sym q ∙ d) in
      sym (rw (under_line (omega arith) ∙ f))

-- THE FIRST NUMBER OF A LONGER LINE: the fields that follow it are those at p, and the line ends where the one at p does
pub leading_read : {s : List ℕ} {at : ℕ} {r : Option (Numbers 1)} {x : Numbers 1} → r ≡ leading_here s at → r ≡ Some x → Parted s at (lone x) x.next
leading_read {s} {at} e q = parted (e ∙ sym (leading_number s at)) q

pub leading_fault : (s : List ℕ) (at : ℕ) {r : Option (Numbers 1)} → r ≡ leading_here s at → r ≡ None → (is_number (field_here s at) && ltb 1 (length (fields (line_here s at).text))) ≡ false
unfolding leading_here
leading_fault s at p q = none_if (is_number (field_here s at) && ltb 1 (length (fields (line_here s at).text))) _ (sym p ∙ q)
