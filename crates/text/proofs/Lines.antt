-- Laws of the first line and the first field of a text, over plain lists. Assumes nothing.
use mathlib.Core.Path.{◌≡◌, refl, sym, ap, ◌∙◌}
use mathlib.Core.Bool.{Bool, true, false, ◌&&◌, ◌||◌, cond}
use mathlib.Core.List.{List, [], ◌∷◌, ◌++◌, append-nil}
use Prim.Native.Nat.{ℕ, suc, ◌+◌, ◌-◌, ◌≤◌, min}
use native.Mathlib.Omega.{arith}
use native.Mathlib.Nat.{suc-add, zero-add}
use lib.Dec.{eqb}
use lib.ListN.{length, get_or, take, drop, length-drop}
use lib.Pointwise.{pointwise}
use Rattle.std.specs.List.{starts_with}
use Rattle.std.proofs.lemmas.List.{take_all, drop_min}
use borrow.Author.Tests.{eqb-true, eq-eqb}
use Rattle.text.specs.Ascii.{line_feed, space}
use Rattle.text.specs.Lines.{Line, lines, line_at, put_byte, put_first, fields, field, open_line, closed_line, equal, begins}
use Rattle.text.specs.Reading.{is_separator}
use Rattle.text.proofs.Tests.{and_both, clash, eqb_swap}

-- LINES: the first line of a text, and how many bytes it has with its line feed
abbrev pub first : List ℕ → Line
first bs = line_at (lines bs) 0

abbrev pub size : Line → ℕ
size l = length l.text + cond l.closed 1 0

-- a line with one byte more in front
abbrev pub with_byte : ℕ → Line → Line
with_byte b l = record { text = b ∷ l.text; closed = l.closed }

pub first_nil : first [] ≡ open_line []
unfolding lines line_at
first_nil = refl

pub first_feed : (b : ℕ) (bs : List ℕ) → eqb b line_feed ≡ true → first (b ∷ bs) ≡ closed_line []
unfolding lines line_at
first_feed b bs e = rw e

put_byte_first : (b : ℕ) (ls : List Line) → line_at (put_byte b ls) 0 ≡ with_byte b (line_at ls 0)
unfolding line_at put_byte
put_byte_first b [] = refl
put_byte_first b (l ∷ ls) = refl

put_byte_rest : (b : ℕ) (ls : List Line) → drop 1 (put_byte b ls) ≡ drop 1 ls
unfolding put_byte
put_byte_rest b [] = refl
put_byte_rest b (l ∷ ls) = refl

pub first_byte : (b : ℕ) (bs : List ℕ) → eqb b line_feed ≡ false → first (b ∷ bs) ≡ with_byte b (first bs)
unfolding lines
first_byte b bs e = rw e (put_byte_first b (lines bs))

-- what follows the first line
rest_go : (b : ℕ) (bs : List ℕ) (t : Bool) → eqb b line_feed ≡ t → lines (drop (size (first bs)) bs) ≡ drop 1 (lines bs) → lines (drop (size (first (b ∷ bs))) (b ∷ bs)) ≡ drop 1 (lines (b ∷ bs))
unfolding lines
rest_go b bs true e h = rw (first_feed b bs e, e)
rest_go b bs false e h = rw (first_byte b bs e, e, suc-add) (h ∙ sym (put_byte_rest b (lines bs)))

pub rest_lines : (bs : List ℕ) → lines (drop (size (first bs)) bs) ≡ drop 1 (lines bs)
unfolding lines line_at
rest_lines [] = refl
rest_lines (b ∷ bs) = rest_go b bs (eqb b line_feed) refl (rest_lines bs)

-- the first line lies in the text
size_go : (b : ℕ) (bs : List ℕ) (t : Bool) → eqb b line_feed ≡ t → size (first bs) ≤ length bs → size (first (b ∷ bs)) ≤ length (b ∷ bs)
size_go b bs true e h = rw (first_feed b bs e) (omega arith)
size_go b bs false e h = rw (first_byte b bs e) (omega arith)

pub size_within : (bs : List ℕ) → size (first bs) ≤ length bs
unfolding lines line_at
size_within [] = omega arith
size_within (b ∷ bs) = size_go b bs (eqb b line_feed) refl (size_within bs)

-- FIELDS: the first field of a text
abbrev pub field_in : List ℕ → List ℕ
field_in bs = field (first bs) 0

pub field_nil : field_in [] ≡ []
unfolding lines line_at field fields
field_nil = refl

put_first_first : (b : ℕ) (fs : List (List ℕ)) → get_or (put_first b fs) 0 [] ≡ b ∷ get_or fs 0 []
unfolding put_first
put_first_first b [] = refl
put_first_first b (f ∷ fs) = refl

field_stop_go : (b : ℕ) (bs : List ℕ) (t : Bool) → eqb b line_feed ≡ t → is_separator b ≡ true → field_in (b ∷ bs) ≡ []
unfolding field fields
field_stop_go b bs true e h = rw (first_feed b bs e)
field_stop_go b bs false e h = rw (first_byte b bs e) (rw (or_left (eqb b space) (rw e at h)))
  where
    or_left : (x : Bool) → (x || false) ≡ true → x ≡ true
    or_left true p = refl
    or_left false p = p

-- a separator ends it, any other byte is in it
pub field_stop : (b : ℕ) (bs : List ℕ) → is_separator b ≡ true → field_in (b ∷ bs) ≡ []
field_stop b bs h = field_stop_go b bs (eqb b line_feed) refl h

or_none : (x y : Bool) → (x || y) ≡ false → (x ≡ false) × (y ≡ false)
or_none true y e = (e, cc)
or_none false y e = (refl, e)

pub no_space : (b : ℕ) → is_separator b ≡ false → eqb b space ≡ false
no_space b h = (or_none (eqb b space) (eqb b line_feed) h).0

pub no_feed : (b : ℕ) → is_separator b ≡ false → eqb b line_feed ≡ false
no_feed b h = (or_none (eqb b space) (eqb b line_feed) h).1

pub fields_byte : (b : ℕ) (bs : List ℕ) → is_separator b ≡ false → fields (first (b ∷ bs)).text ≡ put_first b (fields (first bs).text)
unfolding fields
fields_byte b bs h = rw (first_byte b bs (no_feed b h), no_space b h)

pub field_byte : (b : ℕ) (bs : List ℕ) → is_separator b ≡ false → field_in (b ∷ bs) ≡ b ∷ field_in bs
unfolding field
field_byte b bs h = rw (fields_byte b bs h) (put_first_first b (fields (first bs).text))

-- THE FIRST FIELD OF A LINE, and what follows it
abbrev pub after_field : List ℕ → List ℕ
after_field bs = drop (length (field_in bs)) bs

-- a field in front of the fields that follow on its line
unfoldable pub glue : List ℕ → List (List ℕ) → List (List ℕ)
glue w [] = w ∷ []
glue w (f ∷ fs) = (w ++ f) ∷ fs

-- nothing follows, or a separator
unfoldable pub ended : List ℕ → Bool
ended [] = true
ended (b ∷ bs) = is_separator b

pub record FieldFirst (bs : List ℕ) : Type 0 where
  pub bytes : take (length (field_in bs)) bs ≡ field_in bs
  pub stops : ended (after_field bs) ≡ true
  pub pieces : fields (first bs).text ≡ glue (field_in bs) (fields (first (after_field bs)).text)
  pub closed : (first bs).closed ≡ (first (after_field bs)).closed
  pub long : size (first bs) ≡ length (field_in bs) + size (first (after_field bs))

glue_put : (b : ℕ) (w : List ℕ) (fs : List (List ℕ)) → put_first b (glue w fs) ≡ glue (b ∷ w) fs
unfolding glue put_first
glue_put b w [] = refl
glue_put b w (f ∷ fs) = refl

put_glue : (b : ℕ) (fs : List (List ℕ)) → put_first b fs ≡ glue [] (put_first b fs)
unfolding glue put_first
put_glue b [] = refl
put_glue b (f ∷ fs) = refl

fields_go : (t : Bool) (b : ℕ) (fs : List (List ℕ)) → cond t ([] ∷ fs) (put_first b fs) ≡ glue [] (cond t ([] ∷ fs) (put_first b fs))
unfolding glue
fields_go true b fs = refl
fields_go false b fs = put_glue b fs

-- there is always a field
pub fields_some : (t : List ℕ) → fields t ≡ glue [] (fields t)
unfolding fields glue
fields_some [] = refl
fields_some (b ∷ bs) = fields_go (eqb b space) b (fields bs)

field_first_go : (b : ℕ) (bs : List ℕ) (t : Bool) → is_separator b ≡ t → FieldFirst bs → FieldFirst (b ∷ bs)
unfolding ended
field_first_go b bs true e h =
    record {
      bytes = rw (field_stop b bs e);
      stops = rw (field_stop b bs e) e;
      pieces = rw (field_stop b bs e) (fields_some (first (b ∷ bs)).text);
      closed = rw (field_stop b bs e);
      long = rw (field_stop b bs e, zero-add);
    }
field_first_go b bs false e h =
    record {
      bytes = rw (field_byte b bs e) (ap (λ (w : List ℕ). b ∷ w) h.bytes);
      stops = rw (field_byte b bs e) h.stops;
      pieces = fields_byte b bs e ∙ rw (field_byte b bs e) (ap (put_first b) h.pieces ∙ glue_put b (field_in bs) (fields (first (after_field bs)).text));
      closed = rw (field_byte b bs e) (rw (first_byte b bs (no_feed b e)) h.closed);
      long = rw (field_byte b bs e) (rw (first_byte b bs (no_feed b e)) (omega (arith, h.long)));
    }

pub field_first : (bs : List ℕ) → FieldFirst bs
unfolding ended glue lines line_at field fields
field_first [] = record { bytes = refl; stops = refl; pieces = refl; closed = refl; long = refl }
field_first (b ∷ bs) = field_first_go b bs (is_separator b) refl (field_first bs)

-- what follows is a space, a line feed or nothing
module _ (bs : List ℕ) (r : List ℕ) where
  pub space_pieces : after_field bs ≡ space ∷ r → fields (first bs).text ≡ field_in bs ∷ fields (first r).text
  unfolding fields glue
  space_pieces h =
      (field_first bs).pieces
      ∙ rw (h, first_byte space r refl)
      (ap (λ (w : List ℕ). w ∷ fields (first r).text) (append-nil (field_in bs)))

  pub space_closed : after_field bs ≡ space ∷ r → (first bs).closed ≡ (first r).closed
  space_closed h = (field_first bs).closed ∙ rw (h, first_byte space r refl)

  pub space_long : after_field bs ≡ space ∷ r → size (first bs) ≡ suc (length (field_in bs)) + size (first r)
  space_long h =
      let e : size (first (after_field bs)) ≡ suc (size (first r)) = rw (h, first_byte space r refl) (suc-add (length (first r).text) (cond (first r).closed 1 0)) in
      omega (arith, (field_first bs).long)

  pub feed_pieces : after_field bs ≡ line_feed ∷ r → fields (first bs).text ≡ field_in bs ∷ []
  unfolding fields glue
  feed_pieces h = (field_first bs).pieces ∙ rw (h, first_feed line_feed r refl) (ap (λ (w : List ℕ). w ∷ []) (append-nil (field_in bs)))

  pub feed_closed : after_field bs ≡ line_feed ∷ r → (first bs).closed ≡ true
  feed_closed h = (field_first bs).closed ∙ rw (h, first_feed line_feed r refl)

  pub feed_long : after_field bs ≡ line_feed ∷ r → size (first bs) ≡ suc (length (field_in bs))
  feed_long h =
      let e : size (first (after_field bs)) ≡ 1 = rw (h, first_feed line_feed r refl) in
      omega (arith, (field_first bs).long)

module _ (bs : List ℕ) where
  pub end_pieces : after_field bs ≡ [] → fields (first bs).text ≡ field_in bs ∷ []
  unfolding fields glue
  end_pieces h = (field_first bs).pieces ∙ rw (h, first_nil) (ap (λ (w : List ℕ). w ∷ []) (append-nil (field_in bs)))

  pub end_closed : after_field bs ≡ [] → (first bs).closed ≡ false
  end_closed h = (field_first bs).closed ∙ rw (h, first_nil)

-- EQUAL BYTES are the same
pub equal_true : (a b : List ℕ) → equal a b ≡ true → a ≡ b
unfolding equal
equal_true [] [] e = refl
equal_true [] (y ∷ b) e = clash false e refl
equal_true (x ∷ a) [] e = clash false e refl
equal_true (x ∷ a) (y ∷ b) e = let p = and_both (eqb x y) (equal a b) e in cc (eqb-true x y p.0, equal_true a b p.1)

pub equal_same : (a : List ℕ) → equal a a ≡ true
unfolding equal
equal_same [] = refl
equal_same (x ∷ a) = rw (eq-eqb x x refl) (equal_same a)

-- AS STD COMPARES
eqb_turn : (a b : ℕ) → eqb a b ≡ eqb b a
eqb_turn a b = go (eqb b a) refl
  where
    go : (t : Bool) → eqb b a ≡ t → eqb a b ≡ t
    go true e = eq-eqb a b (sym (eqb-true b a e))
    go false e = eqb_swap b a e

pub pointwise_equal : (a b : List ℕ) → pointwise eqb a b ≡ equal a b
unfolding equal
pointwise_equal [] [] = refl
pointwise_equal [] (y ∷ ys) = refl
pointwise_equal (x ∷ xs) [] = refl
pointwise_equal (x ∷ xs) (y ∷ ys) = ap (λ (t : Bool). eqb x y && t) (pointwise_equal xs ys)

equal_turn : (a b : List ℕ) → equal a b ≡ equal b a
unfolding equal
equal_turn [] [] = refl
equal_turn [] (y ∷ ys) = refl
equal_turn (x ∷ xs) [] = refl
equal_turn (x ∷ xs) (y ∷ ys) = rw (eqb_turn x y, equal_turn xs ys)

pub starts_begins : (s f : List ℕ) (at : ℕ) {m : ℕ} → m ≡ min at (length s) → starts_with eqb (take (length s - m) (drop m s)) f ≡ begins f (drop at s)
unfolding begins
starts_begins s f at {m} e =
    let d : take (length s - m) (drop m s) ≡ drop at s =
    take_all (length s - m) (drop m s) (omega (arith, length-drop m s)) ∙ ap (λ (i : ℕ). drop i s) e ∙ drop_min at s in
    rw d (pointwise_equal f (take (length f) (drop at s)) ∙ equal_turn f (take (length f) (drop at s)))
