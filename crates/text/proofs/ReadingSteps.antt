-- Laws of the line and the field at a place of a text, byte by byte: what the loops of src/read.rt keep. Assumes nothing.
use mathlib.Core.Path.{◌≡◌, refl, sym, ap, ◌∙◌}
use mathlib.Core.Bool.{Bool, true, false, ◌&&◌, and-false, and-true, cond}
use mathlib.Core.List.{List, [], ◌∷◌, ◌++◌}
use Prim.Native.Nat.{ℕ, suc, ◌+◌, ◌-◌, ◌≤◌, ◌<◌, max}
use native.Mathlib.Omega.{arith}
use native.Mathlib.Numerals.{add-one}
use native.Mathlib.Nat.{add_assoc, add-sub_cancel_left}
use lib.Dec.{leb, eqb}
use lib.ListN.{length, get_or, take, drop, drop_of_length-le, length-drop, get_or-eq_default}
use lib.Seq.{drop-cons, get_or-drop}
use borrow.Author.Tests.{leb-true, leb-false, eq-eqb, ne_eqb}
use Rattle.text.specs.Ascii.{line_feed}
use Rattle.text.specs.Lines.{equal, begins}
use Rattle.text.specs.Reading.{past_line, line_here, field_here, is_separator, named_here}
use Rattle.std.specs.Prelude.{Some, None}
use Rattle.text.proofs.Tests.{and_assoc}
use Rattle.text.proofs.Lines.{size, first_nil, first_feed, first_byte, size_within, field_nil, field_stop, field_byte, field_first}

-- THE PLACE PAST A LINE
pub past_size : (s : List ℕ) (at : ℕ) → past_line s at ≡ at + size (line_here s at)
unfolding past_line
past_size s at = add_assoc at (length (line_here s at).text) (cond (line_here s at).closed 1 0)

module _ (s : List ℕ) (e : ℕ) where
  pub past_feed : e < length s → get_or s e 0 ≡ line_feed → past_line s e ≡ e + 1
  unfolding past_line
  past_feed h q = rw (drop-cons s e 0 h, first_feed (get_or s e 0) (drop (suc e) s) (eq-eqb (get_or s e 0) line_feed q)) (omega arith)

  pub past_byte : e < length s → (get_or s e 0 ≡ line_feed → ⊥) → past_line s e ≡ past_line s (e + 1)
  unfolding past_line
  past_byte h q =
      rw (add-one e, drop-cons s e 0 h, first_byte (get_or s e 0) (drop (suc e) s) (ne_eqb (get_or s e 0) line_feed q)) (omega arith)

  pub past_end : length s ≤ e → past_line s e ≡ e
  unfolding past_line
  past_end h = rw (drop_of_length-le s h, first_nil) (omega arith)

-- after a count of e from a place to the text's end: what holds of the place past the end, and of the end, holds of the greater
pub count_end : (s : List ℕ) (at e r : ℕ) → (at ≤ length s → e ≤ length s) → length s ≤ e → (length s ≤ at → r ≡ at) → (e ≡ length s → r ≡ e) → max at (length s) ≡ r
count_end s at e r near far past here = go (leb at (length s)) refl
  where
    go : (t : Bool) → leb at (length s) ≡ t → max at (length s) ≡ r
    go true h = let l = leb-true at (length s) h in omega (arith, near l, here (omega arith))
    go false h = let l = leb-false at (length s) h in omega (arith, past (omega arith))

-- THE PLACE WHERE A FIELD ENDS
module _ (s : List ℕ) (e : ℕ) where
  pub field_stops : e < length s → is_separator (get_or s e 0) ≡ true → e + length (field_here s e) ≡ e
  field_stops h q = rw (drop-cons s e 0 h, field_stop (get_or s e 0) (drop (suc e) s) q) (omega arith)

  pub field_goes : e < length s → is_separator (get_or s e 0) ≡ false → e + length (field_here s e) ≡ e + 1 + length (field_here s (e + 1))
  field_goes h q = rw (add-one e, drop-cons s e 0 h, field_byte (get_or s e 0) (drop (suc e) s) q) (omega arith)

  pub field_ends : length s ≤ e → e + length (field_here s e) ≡ e
  field_ends h = rw (drop_of_length-le s h, field_nil) (omega arith)

-- a field lies in the text, and its bytes are a part of it
pub field_within : (s : List ℕ) (at : ℕ) → at ≤ length s → at + length (field_here s at) ≤ length s
field_within s at h = omega (arith, (field_first (drop at s)).long, size_within (drop at s), length-drop at s)

-- the place where it ends is no greater than this one and the text's end
pub field_low : (s : List ℕ) (at n : ℕ) → at ≤ n → length s ≤ n → at + length (field_here s at) ≤ n
field_low s at n h l = go (leb at (length s)) refl
  where
    go : (t : Bool) → leb at (length s) ≡ t → at + length (field_here s at) ≤ n
    go true e = omega (arith, field_within s at (leb-true at (length s) e))
    go false e = omega (arith, field_ends s at (omega (arith, leb-false at (length s) e)))

pub field_part : (s : List ℕ) (at : ℕ) → take (at + length (field_here s at) - at) (drop at s) ≡ field_here s at
field_part s at = rw (add-sub_cancel_left at (length (field_here s at))) (field_first (drop at s)).bytes

pub field_past : (s : List ℕ) (at : ℕ) → length s ≤ at → field_here s at ≡ []
field_past s at h = rw (drop_of_length-le s h) field_nil

-- A NAMED LINE: a front and then one line feed
begins_feed : (f t : List ℕ) → begins (f ++ line_feed ∷ []) t ≡ (begins f t && eqb (get_or t (length f) 0) line_feed)
unfolding begins equal
begins_feed [] [] = refl
begins_feed [] (b ∷ t) = and-true (eqb b line_feed)
begins_feed (y ∷ f) [] = refl
begins_feed (y ∷ f) (b ∷ t) = ap (λ (q : Bool). eqb b y && q) (begins_feed f t) ∙ and_assoc (eqb b y) (begins f t) (eqb (get_or t (length f) 0) line_feed)

and_last : (x y : Bool) → (x && y) ≡ true → y ≡ true
and_last true y e = e
and_last false y e = cc

no_feed_0 : 0 ≡ line_feed → ⊥
no_feed_0 e = omega arith

begins_long : (f t : List ℕ) → begins f t ≡ true → length f ≤ length t
unfolding begins equal
begins_long [] t h = omega arith
begins_long (y ∷ f) [] h = let z : ◌≡◌ {A = ℕ} 0 1 = cc in absurd (omega arith)
begins_long (y ∷ f) (b ∷ t) h = omega (arith, begins_long f t (and_last (eqb b y) (begins f t) h))

module _ (s : List ℕ) (at : ℕ) (f : List ℕ) where
  begins_line : begins (f ++ line_feed ∷ []) (drop at s) ≡ (begins f (drop at s) && eqb (get_or s (at + length f) 0) line_feed)
  begins_line = begins_feed f (drop at s) ∙ rw (get_or-drop at s (length f) 0)

  -- its end is at most the text's
  pub named_end : true ≡ begins f (drop at s) → length f ≤ length s - at
  named_end h = omega (arith, begins_long f (drop at s) (sym h), length-drop at s)

  pub named_past : true ≡ begins f (drop at s) → get_or s (at + length f) 0 ≡ line_feed → Some (at + length f + 1) ≡ named_here s at f
  unfolding named_here
  named_past h q = sym (rw (begins_line, ← h, eq-eqb (get_or s (at + length f) 0) line_feed q) (ap Some (omega arith)))

  pub named_other : (get_or s (at + length f) 0 ≡ line_feed → ⊥) → None ≡ named_here s at f
  unfolding named_here
  named_other q = sym (rw (begins_line, ne_eqb (get_or s (at + length f) 0) line_feed q, and-false))

  pub named_end_other : length s ≤ at + length f → None ≡ named_here s at f
  named_end_other l = named_other (λ q. no_feed_0 (sym (get_or-eq_default s 0 l) ∙ q))

  pub named_none : false ≡ begins f (drop at s) → None ≡ named_here s at f
  unfolding named_here
  named_none h = sym (rw (begins_line, ← h))
