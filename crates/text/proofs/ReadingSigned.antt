-- Laws of a row of a number and a signed number, read from a place of a text. Assumes nothing.
use mathlib.Core.Path.{◌≡◌, refl, sym, ap, ◌∙◌}
use mathlib.Core.Bool.{Bool, true, false, ◌&&◌, cond, and-false, and-true}
use mathlib.Core.List.{List, [], ◌∷◌}
use Rattle.std.specs.Prelude.{Option, Some, None}
use Prim.Native.Nat.{ℕ, suc, ◌+◌, ◌≤◌, ◌<◌}
use native.Mathlib.Omega.{arith}
use native.Mathlib.Numerals.{add-one}
use lib.Dec.{leb, ltb, eqb, eqb-suc-suc}
use lib.ListN.{length, get_or, drop, drop_of_length-le}
use lib.IntN.{pos, neg_ℤ}
use lib.Seq.{drop-cons}
use borrow.Author.Tests.{ne_eqb, eqb-true, leb-true, leb-false, ltb-false}
use Rattle.text.specs.Ascii.{minus}
use Rattle.text.specs.Lines.{Line, lines, put_first, fields, field}
use Rattle.text.specs.Numbers.{is_number, value, has_minus, without_minus, is_signed, signed_value, all_numbers, numbers_line, number_at}
use Rattle.text.specs.Reading.{line_here, past_line, field_here, is_separator, signed_number, signed_last, signed_line, signed_row_here}
use Rattle.text.specs.declared.read.Signed.{Signed}
use Rattle.text.specs.declared.read.Signed.TheVariants.{Plus, Minus}
use Rattle.text.specs.declared.read.SignedRow.{SignedRow}
use Rattle.text.proofs.Tests.{some_if, none_if}
use Rattle.text.proofs.Lines.{first, first_byte, field_nil, field_stop, field_byte, fields_byte, fields_some, glue}
use Rattle.text.proofs.ReadingSteps.{past_byte}
use Rattle.text.proofs.ReadingRows.{Parted, NotParted, fields_more}
use Rattle.text.proofs.Reading.{Row, NoRow, past_lines}

-- THE MINUS SIGN at a place
separator_minus : (b : ℕ) → is_separator b ≡ true → b ≡ minus → ⊥
separator_minus b h e = let z : false ≡ true = rw e at h in let n : ◌≡◌ {A = ℕ} 0 1 = cc in omega arith

minus_go : (b : ℕ) (bs : List ℕ) (t : Bool) → is_separator b ≡ t → has_minus (field (first (b ∷ bs)) 0) ≡ eqb b minus
unfolding has_minus
minus_go b bs true h = rw (field_stop b bs h) (sym (ne_eqb b minus (separator_minus b h)))
minus_go b bs false h = rw (field_byte b bs h)

module _ (s : List ℕ) (at : ℕ) where
  pub minus_here : at < length s → has_minus (field_here s at) ≡ eqb (get_or s at 0) minus
  minus_here h = rw (drop-cons s at 0 h) (minus_go (get_or s at 0) (drop (suc at) s) (is_separator (get_or s at 0)) refl)

  pub minus_past : length s ≤ at → has_minus (field_here s at) ≡ false
  unfolding has_minus
  minus_past h = rw (drop_of_length-le s h, field_nil)

  pub minus_within : true ≡ has_minus (field_here s at) → at < length s
  minus_within h = go (leb (length s) at) refl
    where
      go : (t : Bool) → leb (length s) at ≡ t → at < length s
      go true e = let z : true ≡ false = h ∙ minus_past (leb-true (length s) at e) in let n : ◌≡◌ {A = ℕ} 0 1 = cc in absurd (omega arith)
      go false e = leb-false (length s) at e

-- what follows the sign
record Signless (s : List ℕ) (at : ℕ) : Type 0 where
  first_field : field_here s at ≡ minus ∷ field_here s (at + 1)
  many : length (fields (line_here s at).text) ≡ length (fields (line_here s (at + 1)).text)
  closed : (line_here s at).closed ≡ (line_here s (at + 1)).closed
  past : past_line s at ≡ past_line s (at + 1)

put_first_many : (b : ℕ) (w : List ℕ) (fs : List (List ℕ)) → length (put_first b (glue w fs)) ≡ length (glue w fs)
unfolding put_first glue
put_first_many b w [] = refl
put_first_many b w (f ∷ fs) = refl

fields_many : (b : ℕ) (t : List ℕ) → length (put_first b (fields t)) ≡ length (fields t)
fields_many b t =
    ap (λ (fs : List (List ℕ)). length (put_first b fs)) (fields_some t)
    ∙ put_first_many b [] (fields t)
    ∙ ap (λ (fs : List (List ℕ)). length fs) (sym (fields_some t))

minus_laws : (s : List ℕ) (at : ℕ) → true ≡ has_minus (field_here s at) → Signless s at
minus_laws s at h =
    let l : at < length s = minus_within s at h in
    let b : get_or s at 0 ≡ minus = eqb-true (get_or s at 0) minus (sym (minus_here s at l) ∙ sym h) in
    let d : drop at s ≡ minus ∷ drop (at + 1) s = rw (add-one at) (drop-cons s at 0 l ∙ ap (λ (x : ℕ). x ∷ drop (suc at) s) b) in
    record {
      first_field = ap (λ (bs : List ℕ). field (first bs) 0) d ∙ field_byte minus (drop (at + 1) s) refl;
      many =
          ap (λ (bs : List ℕ). length (fields (first bs).text)) d
          ∙ ap (λ (fs : List (List ℕ)). length fs) (fields_byte minus (drop (at + 1) s) refl)
          ∙ fields_many minus (first (drop (at + 1) s)).text;
      closed = ap (λ (bs : List ℕ). (first bs).closed) d ∙ ap (λ (k : Line). k.closed) (first_byte minus (drop (at + 1) s) refl);
      past = past_byte s at l (λ e. no_feed (sym b ∙ e));
    }
  where
    no_feed : minus ≡ 10 → ⊥
    no_feed e = omega arith

-- ONE NUMBER, perhaps signed, of a line's end, its number of fields, the first of them and the place past the line
one_number_go : (c : Bool) (fs : List (List ℕ)) → (c && (eqb (length fs) 1 && all_numbers fs)) ≡ ((c && eqb (length fs) 1) && is_number (get_or fs 0 []))
unfolding all_numbers
one_number_go false fs = refl
one_number_go true [] = refl
one_number_go true (f ∷ []) = and-true (is_number f)
one_number_go true (f ∷ g ∷ fs) = rw (ne_eqb (suc (suc (length fs))) 1 (λ e. omega arith))

one_number : (l : Line) → numbers_line 1 l ≡ ((l.closed && eqb (length (fields l.text)) 1) && is_number (field l 0))
unfolding numbers_line field
one_number l = one_number_go l.closed (fields l.text)

abbrev signed_in : (closed : Bool) → (many : ℕ) → (field : List ℕ) → (past : ℕ) → Option (Signed × ℕ)
signed_in c n f p = cond ((c && eqb n 1) && is_signed f) (Some (signed_number f, p)) None

no_minus : (w : List ℕ) → has_minus w ≡ false → without_minus w ≡ w
unfolding has_minus without_minus
no_minus [] h = refl
no_minus (b ∷ w) h = rw h

module _ (s : List ℕ) (at : ℕ) where
  signed_is : {c : Bool} {n : ℕ} {f : List ℕ} {p : ℕ} → (line_here s at).closed ≡ c → length (fields (line_here s at).text) ≡ n → field_here s at ≡ f → past_line s at ≡ p
      → signed_last s at ≡ signed_in c n f p
  unfolding signed_last
  signed_is {c} {n} {f} {p} hc hn hf hp =
      let l = line_here s at in
      ap (λ (t : Bool). signed_in t (length (fields l.text)) (field_here s at) (past_line s at)) hc
      ∙ ap (λ (k : ℕ). signed_in c k (field_here s at) (past_line s at)) hn
      ∙ ap (λ (w : List ℕ). signed_in c n w (past_line s at)) hf
      ∙ ap (λ (k : ℕ). signed_in c n f k) hp

  signed_minus : true ≡ has_minus (field_here s at)
      → signed_last s at
      ≡ cond (numbers_line 1 (line_here s (at + 1))) (Some (Minus (number_at (line_here s (at + 1)) 0), past_line s (at + 1))) None
  unfolding is_signed signed_number has_minus without_minus number_at
  signed_minus h =
      let g = minus_laws s at h in
      signed_is g.closed g.many g.first_field g.past
      ∙ ap (λ (t : Bool). cond t (Some (Minus (value (field_here s (at + 1))), past_line s (at + 1))) None) (sym (one_number (line_here s (at + 1))))

  signed_plain : false ≡ has_minus (field_here s at)
      → signed_last s at ≡ cond (numbers_line 1 (line_here s at)) (Some (Plus (number_at (line_here s at) 0), past_line s at)) None
  unfolding signed_last is_signed signed_number number_at
  signed_plain h =
      let l = line_here s at in
      let f = field_here s at in
      let z = past_line s at in
      let t = (l.closed && eqb (length (fields l.text)) 1) in
      ap (λ (w : List ℕ). cond (t && is_number w) (Some (cond (has_minus f) (Minus (value w)) (Plus (value w)), z)) None) (no_minus f (sym h))
      ∙ ap (λ (m : Bool). cond (t && is_number f) (Some (cond m (Minus (value f)) (Plus (value f)), z)) None) (sym h)
      ∙ ap (λ (q : Bool). cond q (Some (Plus (value f), z)) None) (sym (one_number l))

pub signed_minus_read : {s : List ℕ} (at : ℕ) {v z : ℕ} → true ≡ has_minus (field_here s at) → Row s (at + 1) (v ∷ []) z → Some (Minus v, z) ≡ signed_last s at
signed_minus_read {s} at {v} {z} h r = sym (signed_minus s at h ∙ rw (r.line, r.are 0 (omega arith), r.past))

pub signed_minus_none : {s : List ℕ} (at : ℕ) → true ≡ has_minus (field_here s at) → NoRow 1 s (at + 1) → None ≡ signed_last s at
signed_minus_none {s} at h r = sym (signed_minus s at h ∙ rw r.none)

pub signed_plain_read : {s : List ℕ} {at v z : ℕ} → false ≡ has_minus (field_here s at) → Row s at (v ∷ []) z → Some (Plus v, z) ≡ signed_last s at
signed_plain_read {s} {at} {v} {z} h r = sym (signed_plain s at h ∙ rw (r.line, r.are 0 (omega arith), r.past))

pub signed_plain_none : {s : List ℕ} {at : ℕ} → false ≡ has_minus (field_here s at) → NoRow 1 s at → None ≡ signed_last s at
signed_plain_none {s} {at} h r = sym (signed_plain s at h ∙ rw r.none)

-- A NUMBER AND A SIGNED NUMBER
abbrev row_in : (closed : Bool) → List (List ℕ) → (past : ℕ) → Option SignedRow
row_in c fs p =
    cond ((c && eqb (length fs) 2) && (is_number (get_or fs 0 []) && is_signed (get_or fs 1 [])))
    (Some (record { number = value (get_or fs 0 []); signed = signed_number (get_or fs 1 []); next = p })) None

abbrev signed_after : (s : List ℕ) (p : ℕ) → Bool
signed_after s p = ((line_here s p).closed && eqb (length (fields (line_here s p).text)) 1) && is_signed (field_here s p)

row_of_parted : {s : List ℕ} {at a p : ℕ} → Parted s at a p
    → signed_row_here s at ≡ cond (signed_after s p) (Some (record { number = a; signed = signed_number (field_here s p); next = past_line s p })) None
unfolding signed_row_here signed_line field number_at
row_of_parted {s} {at} {a} {p} g =
    ap (λ (c : Bool). row_in c (fields (line_here s at).text) (past_line s at)) g.closed
    ∙ ap (λ (fs : List (List ℕ)). row_in (line_here s p).closed fs (past_line s at)) g.pieces
    ∙ ap (λ (k : ℕ). row_in (line_here s p).closed (field_here s at ∷ fields (line_here s p).text) k) g.past
    ∙ rw (eqb-suc-suc, g.number, g.worth)

module _ {s : List ℕ} {at a p : ℕ} (g : Parted s at a p) {r : Option (Signed × ℕ)} (e : r ≡ signed_last s p) where
  pub signed_row_read : {x : Signed × ℕ} → r ≡ Some x → Some (record { number = a; signed = x.0; next = x.1 }) ≡ signed_row_here s at
  unfolding signed_last
  signed_row_read q =
      let h = some_if (signed_after s p) (sym e ∙ q) in
      sym (row_of_parted g ∙ rw h.0 (ap (λ (y : Signed × ℕ). Some (record { number = a; signed = y.0; next = y.1 })) h.1))

  pub signed_row_later : r ≡ None → None ≡ signed_row_here s at
  unfolding signed_last
  signed_row_later q = let h = none_if (signed_after s p) _ (sym e ∙ q) in sym (row_of_parted g ∙ rw h)

none_go : (c : Bool) (k : ℕ) (n m : Bool) (x : Bool) → ltb 1 k ≡ x → (n && x) ≡ false → ((c && eqb k 2) && (n && m)) ≡ false
none_go c k n m true e h = rw ((sym (and-true n) ∙ h), and-false)
none_go c k n m false e h = rw (ne_eqb k 2 (λ q. omega (arith, ltb-false 1 k e)), and-false)

pub signed_row_none : {s : List ℕ} {at : ℕ} → NotParted s at → None ≡ signed_row_here s at
unfolding signed_row_here signed_line
signed_row_none {s} {at} g =
    let l = line_here s at in
    let t = none_go l.closed (length (fields l.text)) (is_number (field_here s at)) (is_signed (field l 1)) (ltb 1 (length (fields l.text))) refl
    (ap (λ (x : Bool). is_number (field_here s at) && x) (fields_more s at) ∙ g.none) in
    sym (rw t)

-- FOR CALLERS: the line at a place is a number and a signed number, and z is past it
pub record SignedAt (s : List ℕ) (at a : ℕ) (g : Signed) (z : ℕ) : Type 0 where
  pub line : signed_line (line_here s at) ≡ true
  pub number : number_at (line_here s at) 0 ≡ a
  pub signed : signed_number (field (line_here s at) 1) ≡ g
  pub past : past_line s at ≡ z
  pub rest : lines (drop z s) ≡ drop 1 (lines (drop at s))

pub signed_at : {s : List ℕ} {at : ℕ} {r : Option SignedRow} {x : SignedRow} → r ≡ signed_row_here s at → r ≡ Some x → SignedAt s at x.number x.signed x.next
unfolding signed_row_here
signed_at {s} {at} p q =
    let g = some_if (signed_line (line_here s at)) (sym p ∙ q) in
    let z = ap (λ (y : SignedRow). y.next) g.1 in
    record {
      line = g.0;
      number = ap (λ (y : SignedRow). y.number) g.1;
      signed = ap (λ (y : SignedRow). y.signed) g.1;
      past = z;
      rest = ap (λ (i : ℕ). lines (drop i s)) (sym z) ∙ past_lines s at;
    }

pub signed_fault : (s : List ℕ) (at : ℕ) {r : Option SignedRow} → r ≡ signed_row_here s at → r ≡ None → signed_line (line_here s at) ≡ false
unfolding signed_row_here
signed_fault s at p q = none_if (signed_line (line_here s at)) _ (sym p ∙ q)

-- the sign of a signed number and the number that follows it
plus_sign_go : (t : Bool) {x v : ℕ} → cond t (Minus x) (Plus x) ≡ Plus v → (t ≡ false) × (x ≡ v)
plus_sign_go true h = (cc, cc)
plus_sign_go false h = (refl, cc)

minus_sign_go : (t : Bool) {x v : ℕ} → cond t (Minus x) (Plus x) ≡ Minus v → (t ≡ true) × (x ≡ v)
minus_sign_go true h = (refl, cc)
minus_sign_go false h = (cc, cc)

pub plus_is : (w : List ℕ) {v : ℕ} → signed_number w ≡ Plus v → (has_minus w ≡ false) × (value (without_minus w) ≡ v)
unfolding signed_number
plus_is w h = plus_sign_go (has_minus w) h

pub minus_is : (w : List ℕ) {v : ℕ} → signed_number w ≡ Minus v → (has_minus w ≡ true) × (value (without_minus w) ≡ v)
unfolding signed_number
minus_is w h = minus_sign_go (has_minus w) h

-- the value of a signed number by its sign and what follows it
pub signed_worth : (w : List ℕ) → signed_value w ≡ cond (has_minus w) (neg_ℤ (pos (value (without_minus w)))) (pos (value (without_minus w)))
unfolding signed_value
signed_worth w = go (has_minus w) refl
  where
    go : (t : Bool) → has_minus w ≡ t → cond t (neg_ℤ (pos (value (without_minus w)))) (pos (value w)) ≡ cond t (neg_ℤ (pos (value (without_minus w)))) (pos (value (without_minus w)))
    go true e = refl
    go false e = ap (λ (f : List ℕ). pos (value f)) (sym (no_minus w e))

pub plus_worth : (w : List ℕ) {v : ℕ} → signed_number w ≡ Plus v → signed_value w ≡ pos v
plus_worth w h = signed_worth w ∙ rw ((plus_is w h).0, (plus_is w h).1)

pub minus_worth : (w : List ℕ) {v : ℕ} → signed_number w ≡ Minus v → signed_value w ≡ neg_ℤ (pos v)
minus_worth w h = signed_worth w ∙ rw ((minus_is w h).0, (minus_is w h).1)
