-- Laws of a row of numbers that is read number by number from a place of a text. Assumes nothing.
use mathlib.Core.Path.{◌≡◌, refl, sym, ap, ◌∙◌}
use mathlib.Core.Bool.{Bool, true, false, ◌&&◌, ◌||◌, cond, and-false, and-true}
use mathlib.Core.List.{List, [], ◌∷◌}
use Rattle.std.specs.Prelude.{Option, Some, None, map}
use Prim.Native.Nat.{ℕ, suc, ◌+◌}
use native.Mathlib.Omega.{arith}
use lib.Dec.{ltb, eqb, eqb-suc-suc, eqb-zero-suc, eqb-suc-zero}
use lib.ListN.{length, get_or, drop}
use lib.Seq.{drop-drop, get_or-drop}
use borrow.Author.Tests.{eqb-true, lt-ltb}
use Rattle.text.specs.Ascii.{line_feed, space}
use Rattle.text.specs.Lines.{Line, fields}
use Rattle.text.specs.Numbers.{is_number, value, all_numbers, numbers_line}
use Rattle.text.specs.Reading.{line_here, past_line, field_here, one_number, number_before, leading_here, values, row_here}
use Rattle.text.specs.declared.read.Row.{Row}
use Rattle.text.proofs.Tests.{and_both, some_if, none_if}
use Rattle.text.proofs.Lines.{size, first, field_in, after_field, ended, glue, field_first, fields_some, space_pieces, space_closed, space_long, feed_pieces, feed_closed, feed_long, end_pieces, end_closed}
use Rattle.text.proofs.Digits.{lone}
use Rattle.text.proofs.ReadingSteps.{past_size}

-- WHAT FOLLOWS A FIELD: a space, a line feed or nothing
data Stop (r : List ℕ) : Type 0 where
  at_space : (q : List ℕ) → r ≡ space ∷ q → Stop r
  at_feed : (q : List ℕ) → r ≡ line_feed ∷ q → Stop r
  at_end : r ≡ [] → Stop r

stop_go : (b : ℕ) (q : List ℕ) (x y : Bool) → eqb b space ≡ x → eqb b line_feed ≡ y → (x || y) ≡ true → Stop (b ∷ q)
stop_go b q true y p e h = at_space q (ap (λ (z : ℕ). z ∷ q) (eqb-true b space p))
stop_go b q false true p e h = at_feed q (ap (λ (z : ℕ). z ∷ q) (eqb-true b line_feed e))
stop_go b q false false p e h = let z : ◌≡◌ {A = ℕ} 0 1 = cc in absurd (omega arith)

stop? : (r : List ℕ) → ended r ≡ true → Stop r
unfolding ended
stop? [] h = at_end refl
stop? (b ∷ q) h = stop_go b q (eqb b space) (eqb b line_feed) refl refl h

-- NUMBERS ON A LINE, by its first field and what follows that
and_turn : (n c e a : Bool) → (c && (e && (n && a))) ≡ (n && (c && (e && a)))
and_turn true c e a = refl
and_turn false c e a = simp and-false

glue_many : (w : List ℕ) (fs : List (List ℕ)) → eqb (length (glue w fs)) 0 ≡ false
unfolding glue
glue_many w [] = refl
glue_many w (f ∷ fs) = eqb-suc-zero (length fs)

glue_long : (w : List ℕ) (fs : List (List ℕ)) → ltb 1 (suc (length (glue w fs))) ≡ true
unfolding glue
glue_long w [] = refl
glue_long w (f ∷ fs) = lt-ltb 1 (suc (suc (length fs))) (omega arith)

pub no_numbers : (l : Line) → numbers_line 0 l ≡ false
unfolding numbers_line
no_numbers l = rw (fields_some, glue_many, and-false)

-- the same of a line's end and its fields
abbrev numbers_in : (k : ℕ) → (closed : Bool) → List (List ℕ) → Bool
numbers_in k c fs = c && (eqb (length fs) k && all_numbers fs)

numbers_cons : (k : ℕ) (c : Bool) (f : List ℕ) (fs : List (List ℕ)) → numbers_in (suc k) c (f ∷ fs) ≡ (is_number f && numbers_in k c fs)
unfolding all_numbers
numbers_cons k c f fs = rw eqb-suc-suc (and_turn (is_number f) c (eqb (length fs) k) (all_numbers fs))

numbers_line_in : (k : ℕ) (l : Line) {c : Bool} {fs : List (List ℕ)} → l.closed ≡ c → fields l.text ≡ fs → numbers_line k l ≡ numbers_in k c fs
unfolding numbers_line
numbers_line_in k l {c} {fs} p q = ap (λ (ps : List (List ℕ)). numbers_in k l.closed ps) q ∙ ap (λ (t : Bool). t && (eqb (length fs) k && all_numbers fs)) p

module _ (bs q : List ℕ) where
  space_numbers : (k : ℕ) → after_field bs ≡ space ∷ q → numbers_line (suc k) (first bs) ≡ (is_number (field_in bs) && numbers_line k (first q))
  unfolding numbers_line
  space_numbers k h =
      numbers_line_in (suc k) (first bs) (space_closed bs q h) (space_pieces bs q h)
      ∙ numbers_cons k (first q).closed (field_in bs) (fields (first q).text)

  feed_numbers : (k : ℕ) → after_field bs ≡ line_feed ∷ q → numbers_line (suc k) (first bs) ≡ (is_number (field_in bs) && eqb 0 k)
  unfolding all_numbers
  feed_numbers k h =
      numbers_line_in (suc k) (first bs) (feed_closed bs q h) (feed_pieces bs q h)
      ∙ numbers_cons k true (field_in bs) []
      ∙ ap (λ (t : Bool). is_number (field_in bs) && t) (and-true (eqb 0 k))

end_numbers : (bs : List ℕ) (k : ℕ) → after_field bs ≡ [] → numbers_line k (first bs) ≡ false
unfolding numbers_line
end_numbers bs k h = rw (end_closed bs h)

numbers_1_go : (bs : List ℕ) → Stop (after_field bs) → numbers_line 1 (first bs) ≡ (is_number (field_in bs) && eqb (get_or (after_field bs) 0 0) line_feed)
numbers_1_go bs (at_space q h) = space_numbers bs q 0 h ∙ rw (no_numbers (first q), h)
numbers_1_go bs (at_feed q h) = feed_numbers bs q 0 h ∙ rw h
numbers_1_go bs (at_end h) = end_numbers bs 1 h ∙ rw (h, and-false)

numbers_more_go : (bs : List ℕ) (k : ℕ) → Stop (after_field bs)
    → numbers_line (suc (suc k)) (first bs) ≡ ((is_number (field_in bs) && eqb (get_or (after_field bs) 0 0) space) && numbers_line (suc k) (first (drop 1 (after_field bs))))
numbers_more_go bs k (at_space q h) = space_numbers bs q (suc k) h ∙ rw (h, and-true)
numbers_more_go bs k (at_feed q h) = feed_numbers bs q (suc k) h ∙ rw (h, eqb-zero-suc k, and-false)
numbers_more_go bs k (at_end h) = end_numbers bs (suc (suc k)) h ∙ rw (h, and-false)

fields_more_go : (bs : List ℕ) → Stop (after_field bs) → ltb 1 (length (fields (first bs).text)) ≡ eqb (get_or (after_field bs) 0 0) space
fields_more_go bs (at_space q h) = rw (space_pieces bs q h, fields_some (first q).text, h) (glue_long [] (fields (first q).text))
fields_more_go bs (at_feed q h) = rw (feed_pieces bs q h, h)
fields_more_go bs (at_end h) = rw (end_pieces bs h, h)

-- AT A PLACE: the place of what follows the field
module _ (s : List ℕ) (at : ℕ) where
  stop_here : Stop (after_field (drop at s))
  stop_here = stop? (after_field (drop at s)) (field_first (drop at s)).stops

  after_here : after_field (drop at s) ≡ drop (at + length (field_here s at)) s
  after_here = drop-drop (length (field_here s at)) at s

  next_here : get_or (after_field (drop at s)) 0 0 ≡ get_or s (at + length (field_here s at)) 0
  next_here = rw after_here (get_or-drop (at + length (field_here s at)) s 0 0 ∙ ap (λ (i : ℕ). get_or s i 0) (omega arith))

  rest_here : drop 1 (after_field (drop at s)) ≡ drop (at + suc (length (field_here s at))) s
  rest_here =
      let e : at + length (field_here s at) + 1 ≡ at + suc (length (field_here s at)) = omega arith in
      rw after_here (drop-drop 1 (at + length (field_here s at)) s ∙ ap (λ (i : ℕ). drop i s) e)

  numbers_1 : numbers_line 1 (line_here s at) ≡ (is_number (field_here s at) && eqb (get_or s (at + length (field_here s at)) 0) line_feed)
  numbers_1 = numbers_1_go (drop at s) stop_here ∙ ap (λ (b : ℕ). is_number (field_here s at) && eqb b line_feed) next_here

  pub numbers_more : (k : ℕ)
      → numbers_line (suc (suc k)) (line_here s at)
      ≡ ((is_number (field_here s at) && eqb (get_or s (at + length (field_here s at)) 0) space)
      && numbers_line (suc k) (line_here s (at + suc (length (field_here s at)))))
  numbers_more k =
      numbers_more_go (drop at s) k stop_here
      ∙ ap (λ (b : ℕ). (is_number (field_here s at) && eqb b space) && numbers_line (suc k) (first (drop 1 (after_field (drop at s))))) next_here
      ∙ ap (λ (r : List ℕ). (is_number (field_here s at) && eqb (get_or s (at + length (field_here s at)) 0) space) && numbers_line (suc k) (first r)) rest_here

  pub fields_more : ltb 1 (length (fields (line_here s at).text)) ≡ eqb (get_or s (at + length (field_here s at)) 0) space
  fields_more = fields_more_go (drop at s) stop_here ∙ ap (λ (b : ℕ). eqb b space) next_here

-- A NUMBER AND WHAT ENDS IT
cond_same : {A : Type 0} (t : Bool) (x y z : A) → (t ≡ true → x ≡ y) → cond t x z ≡ cond t y z
cond_same true x y z h = h refl
cond_same false x y z h = refl

row_same : {k : ℕ} {vs ws : List ℕ} {y z : ℕ} → vs ≡ ws → y ≡ z → ◌≡◌ {A = Row k} (record { numbers = vs; next = y }) (record { numbers = ws; next = z })
row_same p q = cc

-- a line whose first field is its last: its one number, and the place past it
module _ (s : List ℕ) (at : ℕ) where
  feed_past_go : Stop (after_field (drop at s)) → get_or (after_field (drop at s)) 0 0 ≡ line_feed → size (line_here s at) ≡ suc (length (field_here s at))
  feed_past_go (at_space q h) e = let z : ◌≡◌ {A = ℕ} space line_feed = rw h at e in absurd (omega arith)
  feed_past_go (at_feed q h) e = feed_long (drop at s) q h
  feed_past_go (at_end h) e = let z : ◌≡◌ {A = ℕ} 0 line_feed = rw h at e in absurd (omega arith)

  feed_past : get_or s (at + length (field_here s at)) 0 ≡ line_feed → past_line s at ≡ at + suc (length (field_here s at))
  feed_past e = past_size s at ∙ ap (λ (n : ℕ). at + n) (feed_past_go (stop_here s at) (next_here s at ∙ e))

  feed_fields_go : Stop (after_field (drop at s)) → get_or (after_field (drop at s)) 0 0 ≡ line_feed → fields (line_here s at).text ≡ field_here s at ∷ []
  feed_fields_go (at_space q h) e = let z : ◌≡◌ {A = ℕ} space line_feed = rw h at e in absurd (omega arith)
  feed_fields_go (at_feed q h) e = feed_pieces (drop at s) q h
  feed_fields_go (at_end h) e = let z : ◌≡◌ {A = ℕ} 0 line_feed = rw h at e in absurd (omega arith)

  feed_values : get_or s (at + length (field_here s at)) 0 ≡ line_feed → values (line_here s at) ≡ value (field_here s at) ∷ []
  feed_values e = ap (map value) (feed_fields_go (stop_here s at) (next_here s at ∙ e))

  pub row_number : number_before s at line_feed ≡ row_here 1 s at
  unfolding number_before row_here
  row_number =
      let n = is_number (field_here s at) in
      let b = eqb (get_or s (at + length (field_here s at)) 0) line_feed in
      cond_same (n && b) (Some (one_number (value (field_here s at)) (at + suc (length (field_here s at))))) (Some (record { numbers = values (line_here s at); next = past_line s at })) None
      (λ t. let e = eqb-true (get_or s (at + length (field_here s at)) 0) line_feed (and_both n b t).1 in ap Some (row_same (sym (feed_values e)) (sym (feed_past e))))
      ∙ ap (λ (t : Bool). cond t (Some (record { numbers = values (line_here s at); next = past_line s at })) None) (sym (numbers_1 s at))

  pub leading_number : number_before s at space ≡ leading_here s at
  unfolding number_before leading_here
  leading_number =
      ap
      (λ (t : Bool). cond (is_number (field_here s at) && t) (Some (one_number (value (field_here s at)) (at + suc (length (field_here s at))))) None)
      (sym (fields_more s at))

-- a space parts the first field at a place from the line at p
pub record Spaced (s : List ℕ) (at p : ℕ) : Type 0 where
  pub pieces : fields (line_here s at).text ≡ field_here s at ∷ fields (line_here s p).text
  pub closed : (line_here s at).closed ≡ (line_here s p).closed
  pub past : past_line s at ≡ past_line s p

-- and that field is a number
pub record Parted (s : List ℕ) (at v p : ℕ) : Type 0 where
  pub number : is_number (field_here s at) ≡ true
  pub worth : value (field_here s at) ≡ v
  pub pieces : fields (line_here s at).text ≡ field_here s at ∷ fields (line_here s p).text
  pub closed : (line_here s at).closed ≡ (line_here s p).closed
  pub past : past_line s at ≡ past_line s p

-- it is not so
pub record NotParted (s : List ℕ) (at : ℕ) : Type 0 where
  pub none : (is_number (field_here s at) && eqb (get_or s (at + length (field_here s at)) 0) space) ≡ false

-- what follows is a space
record Space (s : List ℕ) (at : ℕ) : Type 0 where
  rest : List ℕ
  is : after_field (drop at s) ≡ space ∷ rest

space_go : (s : List ℕ) (at : ℕ) → Stop (after_field (drop at s)) → get_or (after_field (drop at s)) 0 0 ≡ space → Space s at
space_go s at (at_space q h) e = record { rest = q; is = h }
space_go s at (at_feed q h) e = let z : ◌≡◌ {A = ℕ} line_feed space = rw h at e in absurd (omega arith)
space_go s at (at_end h) e = let z : ◌≡◌ {A = ℕ} 0 space = rw h at e in absurd (omega arith)

pub spaced : (s : List ℕ) (at : ℕ) → get_or s (at + length (field_here s at)) 0 ≡ space → Spaced s at (at + suc (length (field_here s at)))
spaced s at e =
    let g = space_go s at (stop_here s at) (next_here s at ∙ e) in
    let p = at + suc (length (field_here s at)) in
    let r : g.rest ≡ drop p s = ap (λ (t : List ℕ). drop 1 t) (sym g.is) ∙ rest_here s at in
    let h : after_field (drop at s) ≡ space ∷ drop p s = g.is ∙ ap (λ (t : List ℕ). space ∷ t) r in
    record {
      pieces = space_pieces (drop at s) (drop p s) h;
      closed = space_closed (drop at s) (drop p s) h;
      past = past_size s at ∙ ap (λ (k : ℕ). at + k) (space_long (drop at s) (drop p s) h) ∙ omega arith ∙ sym (past_size s p);
    }

with_number : {s : List ℕ} {at v p : ℕ} → is_number (field_here s at) ≡ true → value (field_here s at) ≡ v → Spaced s at p → Parted s at v p
with_number n w f = record { number = n; worth = w; pieces = f.pieces; closed = f.closed; past = f.past }

pub parted : {s : List ℕ} {at : ℕ} {r : Option (Row 1)} {x : Row 1} → r ≡ number_before s at space → r ≡ Some x → Parted s at (lone x) x.next
unfolding number_before
parted {s} {at} h q =
    let n = is_number (field_here s at) in
    let b = eqb (get_or s (at + length (field_here s at)) 0) space in
    let g = some_if (n && b) (sym h ∙ q) in
    let t = and_both n b g.0 in
    let f = spaced s at (eqb-true (get_or s (at + length (field_here s at)) 0) space t.1) in
    rw (ap (λ (x : Row 1). x.next) g.1) at (with_number t.0 (ap lone g.1) f)

pub not_parted : (s : List ℕ) (at : ℕ) {r : Option (Row 1)} → r ≡ number_before s at space → r ≡ None → NotParted s at
unfolding number_before
not_parted s at h q = record { none = none_if (is_number (field_here s at) && eqb (get_or s (at + length (field_here s at)) 0) space) _ (sym h ∙ q) }
