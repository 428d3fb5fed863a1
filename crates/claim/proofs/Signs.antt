-- Tokens of one byte, told without the reader of tokens: where no blank stands, the tokens begin with a sign exactly if the byte
-- is its; a digit or a letter is alone where the byte after it does not go on with it. Assumes nothing.
use mathlib.Core.Path.{◌≡◌, refl, sym, ap, subst, ◌∙◌}
use mathlib.Core.Bool.{Bool, true, false, not, ◌||◌, cond, and-false}
use mathlib.Core.List.{List, [], ◌∷◌, ◌++◌}
use Prim.Native.Nat.{ℕ, zero, suc, ◌+◌, ◌*◌, ◌-◌, ◌<◌, ◌≤◌, min}
use native.Mathlib.Omega.{arith}
use lib.Dec.{ltb, leb, eqb}
use lib.ListN.{length, get_or, drop}
use borrow.Author.Tests.{lt-leb, ltb-true, ltb-false, lt-ltb, ne_eqb, eqb-true, eqb-false}
use Rattle.text.specs.Numbers.{is_digit}
use Rattle.text.specs.Ascii.{ascii, minus, digit_0}
use Rattle.text.proofs.Tests.{clash, Same, same, other, same?}
use Rattle.text.specs.Lines.{equal, begins}
use Rattle.model.specs.ClaimTokens.{Token, name, header, number, string, symbol, body_mark, end_mark, alias, comment, stray, goes_on, ends, breaks, after, quote, star, slash_byte, colon, at_byte, backslash, Mode, between, lost, at_sign, slash, in_name, in_number, in_string, escaped, in_mark, Lexed, is_blank, is_letter, is_capital, is_small, is_name_byte, is_symbol, begin, digit_more, mark_more, byte, at_end, lex, longest_claim, number_end}
use Rattle.model.specs.Run.{member}
use Rattle.model.specs.ClaimLabels.{not_byte, and_byte, or_byte, open_byte, close_byte, label_byte, end_label_byte, mark_byte}
use Rattle.model.specs.ClaimTable.{is_sign}
use Rattle.claim.proofs.Lexing.{lexed_by, lexed_before, lexed_cut, tokens_end, digit_low, begin_digit, digit_stops, begin_letter, name_stops}
use lib.Seq.{drop-cons}
use Rattle.std.proofs.lemmas.Option.{none-some, same_Some}
use Rattle.std.specs.Option.{option_eq}
use Rattle.std.proofs.Common.{nat_eq}
use Rattle.std.specs.Prelude.{Option, Some, None}
use Rattle.claim.specs.Reads.{claim_tokens, byte_of, PastBlanks, Sign, LoneDigit, LoneLetter, Stands, Ahead, starts}

-- inside a token other than a sign
abbrev inside : Mode → Bool
inside between = false
inside lost = false
inside at_sign = true
inside slash = true
inside (in_name w) = true
inside (in_string w) = true
inside (escaped w) = true
inside (in_mark w) = true
inside (in_number v) = true

-- what a byte does, by the answers to its tests
abbrev name_by : (w : List ℕ) → (x : ℕ) → Bool → Bool → Lexed
name_by w x p q = cond p (goes_on (in_name (w ++ (x ∷ [])))) (cond q (ends (header w)) (after (name w) (begin x)))

abbrev string_by : (w : List ℕ) → (x : ℕ) → Bool → Bool → Lexed
string_by w x p q = cond p (ends (string w)) (cond q (goes_on (escaped (w ++ (x ∷ [])))) (goes_on (in_string (w ++ (x ∷ [])))))

abbrev mark_by : (w : List ℕ) → Bool → Bool → Bool → Lexed
mark_by w p q r = cond p (ends body_mark) (cond q (ends end_mark) (cond r (goes_on (in_mark w)) (breaks stray)))

abbrev number_by : (v w x : ℕ) → Bool → Bool → Lexed
number_by v w x p q = cond p (cond q (breaks stray) (goes_on (in_number w))) (after (number v) (begin x))

abbrev first_by : (x : ℕ) → (letter digit sign string mark alias slashed : Bool) → Lexed
first_by x l d y q m a h =
    cond l (goes_on (in_name (x ∷ [])))
    (cond d (goes_on (in_number (x - digit_0)))
    (cond y (ends (symbol x))
    (cond q (goes_on (in_string []))
    (cond m (goes_on (in_mark (x ∷ [])))
    (cond a (goes_on at_sign)
    (cond h (goes_on slash)
    (breaks stray)))))))

module _ (b : ℕ) where
  ended : (m : Mode) → inside m ≡ true → starts b (at_end m) ≡ false
  unfolding at_end starts is_sign
  ended between e = clash false e refl
  ended lost e = clash false e refl
  ended at_sign e = refl
  ended slash e = refl
  ended (in_name w) e = refl
  ended (in_string w) e = refl
  ended (escaped w) e = refl
  ended (in_mark w) e = refl
  ended (in_number v) e = refl

  abbrev Left : (k : ℕ) → List ℕ → Type 0
  Left k bs = (m : Mode) → inside m ≡ true → starts b (lex k m bs) ≡ false

  -- what such a token is told as is no sign
  no_sign : (k : ℕ) (m : Mode) (bs : List ℕ) → inside m ≡ true → starts b (lex k m bs) ≡ false
  unfolding lex byte digit_more mark_more starts is_sign
  no_sign zero m [] e = ended m e
  no_sign (suc k) m [] e = ended m e
  no_sign zero m (x ∷ bs) e = refl
  no_sign (suc k) between (x ∷ bs) e = clash false e refl
  no_sign (suc k) lost (x ∷ bs) e = clash false e refl
  no_sign (suc k) at_sign (x ∷ bs) e = go (is_name_byte x)
    where
      go : (p : Bool) → is_sign (symbol b) (cond p alias stray) ≡ false
      go true = refl
      go false = refl
  no_sign (suc k) slash (x ∷ bs) e = go (eqb x star)
    where
      go : (p : Bool) → is_sign (symbol b) (cond p comment stray) ≡ false
      go true = refl
      go false = refl
  no_sign (suc k) (in_name w) (x ∷ bs) e = go (λ m e. no_sign k m bs e) (is_name_byte x) (eqb x colon)
    where
      go : Left k bs → (p q : Bool) → starts b ((name_by w x p q).tokens ++ lex k (name_by w x p q).mode bs) ≡ false
      go less true q = less (in_name (w ++ (x ∷ []))) refl
      go less false true = refl
      go less false false = refl
  no_sign (suc k) (in_string w) (x ∷ bs) e = go (λ m e. no_sign k m bs e) (eqb x quote) (eqb x backslash)
    where
      go : Left k bs → (p q : Bool) → starts b ((string_by w x p q).tokens ++ lex k (string_by w x p q).mode bs) ≡ false
      go less true q = refl
      go less false true = less (escaped (w ++ (x ∷ []))) refl
      go less false false = less (in_string (w ++ (x ∷ []))) refl
  no_sign (suc k) (escaped w) (x ∷ bs) e = no_sign k (in_string (w ++ (x ∷ []))) bs refl
  no_sign (suc k) (in_mark w) (x ∷ bs) e = go (λ m e. no_sign k m bs e) (w ++ (x ∷ [])) (equal (w ++ (x ∷ [])) (ascii "--BODY--")) (equal (w ++ (x ∷ [])) (ascii "--END--")) (begins (w ++ (x ∷ [])) (ascii "--BODY--") || begins (w ++ (x ∷ [])) (ascii "--END--"))
    where
      go : Left k bs → (v : List ℕ) (p q r : Bool) → starts b ((mark_by v p q r).tokens ++ lex k (mark_by v p q r).mode bs) ≡ false
      go less v true q r = refl
      go less v false true r = refl
      go less v false false true = less (in_mark v) refl
      go less v false false false = refl
  no_sign (suc k) (in_number v) (x ∷ bs) e = go (λ m e. no_sign k m bs e) (10 * v + (x - digit_0)) (is_digit x) (eqb v 0 || leb number_end (10 * v + (x - digit_0)))
    where
      go : Left k bs → (w : ℕ) (p q : Bool) → starts b ((number_by v w x p q).tokens ++ lex k (number_by v w x p q).mode bs) ≡ false
      go less w true true = refl
      go less w true false = less (in_number w) refl
      go less w false q = refl

  -- a byte that is no blank and not this one
  no_sign_from : (k : ℕ) (x : ℕ) (bs : List ℕ) → is_blank x ≡ false → (x ≡ b → ⊥) → starts b (lex k between (x ∷ bs)) ≡ false
  unfolding lex byte begin starts is_sign
  no_sign_from zero x bs e n = refl
  no_sign_from (suc k) x bs e n = rw e (go (is_letter x) (is_digit x) (is_symbol x) (eqb x quote) (eqb x minus) (eqb x at_byte) (eqb x slash_byte))
    where
      go : (l d y q m a h : Bool) → starts b ((first_by x l d y q m a h).tokens ++ lex k (first_by x l d y q m a h).mode bs) ≡ false
      go true d y q m a h = no_sign k _ bs refl
      go false true y q m a h = no_sign k _ bs refl
      go false false true q m a h = ne_eqb x b n
      go false false false true m a h = no_sign k _ bs refl
      go false false false false true a h = no_sign k _ bs refl
      go false false false false false true h = no_sign k _ bs refl
      go false false false false false false true = no_sign k _ bs refl
      go false false false false false false false = refl

-- SIGNS
on_signs : (P : ℕ → Type 0) → P 91 → P 93 → P 40 → P 41 → P 123 → P 125 → P 33 → P 38 → P 124 → (b : ℕ) → is_symbol b ≡ true → P b
unfolding is_symbol member
on_signs P p1 p2 p3 p4 p5 p6 p7 p8 p9 b y = go (same? b 91) (same? b 93) (same? b 40) (same? b 41) (same? b 123) (same? b 125) (same? b 33) (same? b 38) (same? b 124)
  where
    at : (c : ℕ) → P c → b ≡ c → P b
    at c p e = subst P (sym e) p

    go : Same b 91 → Same b 93 → Same b 40 → Same b 41 → Same b 123 → Same b 125 → Same b 33 → Same b 38 → Same b 124 → P b
    go (same e) a1 a2 a3 a4 a5 a6 a7 a8 = at 91 p1 e
    go (other n) (same e) a2 a3 a4 a5 a6 a7 a8 = at 93 p2 e
    go (other n) (other n1) (same e) a3 a4 a5 a6 a7 a8 = at 40 p3 e
    go (other n) (other n1) (other n2) (same e) a4 a5 a6 a7 a8 = at 41 p4 e
    go (other n) (other n1) (other n2) (other n3) (same e) a5 a6 a7 a8 = at 123 p5 e
    go (other n) (other n1) (other n2) (other n3) (other n4) (same e) a6 a7 a8 = at 125 p6 e
    go (other n) (other n1) (other n2) (other n3) (other n4) (other n5) (same e) a7 a8 = at 33 p7 e
    go (other n) (other n1) (other n2) (other n3) (other n4) (other n5) (other n6) (same e) a8 = at 38 p8 e
    go (other n) (other n1) (other n2) (other n3) (other n4) (other n5) (other n6) (other n7) (same e) = at 124 p9 e
    go (other n) (other n1) (other n2) (other n3) (other n4) (other n5) (other n6) (other n7) (other n8) = clash false (rw (ne_eqb b 91 n, ne_eqb b 93 n1, ne_eqb b 40 n2, ne_eqb b 41 n3, ne_eqb b 123 n4, ne_eqb b 125 n5, ne_eqb b 33 n6, ne_eqb b 38 n7, ne_eqb b 124 n8) at y) refl

begins_sign : (b : ℕ) → Sign b → byte between b ≡ ends (symbol b)
unfolding byte begin is_blank is_letter is_capital is_small is_digit is_symbol member
begins_sign = on_signs (λ (b : ℕ). byte between b ≡ ends (symbol b)) refl refl refl refl refl refl refl refl refl

-- ! & ( ) [ ] { |
pub not_sign : Sign not_byte
unfolding is_symbol member
not_sign = refl

pub and_sign : Sign and_byte
unfolding is_symbol member
and_sign = refl

pub open_sign : Sign open_byte
unfolding is_symbol member
open_sign = refl

pub close_sign : Sign close_byte
unfolding is_symbol member
close_sign = refl

pub label_sign : Sign label_byte
unfolding is_symbol member
label_sign = refl

pub label_end_sign : Sign end_label_byte
unfolding is_symbol member
label_end_sign = refl

pub mark_sign : Sign mark_byte
unfolding is_symbol member
mark_sign = refl

pub or_sign : Sign or_byte
unfolding is_symbol member
or_sign = refl

-- what a test for a byte says of the byte that it looks at
same_byte : (o : Option ℕ) (b : ℕ) → option_eq nat_eq o (Some b) ≡ true → o ≡ Some b
same_byte (Some x) b q = ap Some (eqb-true x b q)
same_byte None b q = clash false q refl

other_byte : (o : Option ℕ) (b : ℕ) → option_eq nat_eq o (Some b) ≡ false → o ≡ Some b → ⊥
other_byte (Some x) b q e = eqb-false x b q (same_Some _ _ e)
other_byte None b q e = none-some _ e

turned : (x y : Bool) → not x ≡ y → x ≡ not y
turned true y q = ap not q
turned false y q = ap not q

module _ {o u : Option ℕ} (b : ℕ) (is : o ≡ u) where
  pub byte_seen : option_eq nat_eq o (Some b) ≡ true → u ≡ Some b
  byte_seen q = sym is ∙ same_byte o b q

  pub byte_unseen : option_eq nat_eq o (Some b) ≡ false → u ≡ Some b → ⊥
  byte_unseen q e = other_byte o b q (is ∙ e)

  pub byte_equal : not (option_eq nat_eq o (Some b)) ≡ false → u ≡ Some b
  byte_equal q = byte_seen (turned _ _ q)

  pub byte_unequal : not (option_eq nat_eq o (Some b)) ≡ true → u ≡ Some b → ⊥
  byte_unequal q = byte_unseen (turned _ _ q)

module _ (s : List ℕ) (e : ℕ) where
  -- a byte is looked at
  pub byte_inside : (b : ℕ) → byte_of s e ≡ Some b → (e < length s) × (e < longest_claim) × (get_or s e 0 ≡ b)
  unfolding byte_of
  byte_inside b q = go (ltb e (min longest_claim (length s))) refl q
    where
      go : (p : Bool) → ltb e (min longest_claim (length s)) ≡ p → cond p (Some (get_or s e 0)) None ≡ Some b → (e < length s) × (e < longest_claim) × (get_or s e 0 ≡ b)
      go true p q = let h = ltb-true e (min longest_claim (length s)) p in (omega (arith, h), omega (arith, h), same_Some _ _ q)
      go false p q = absurd (none-some _ q)

  -- the tokens begin with the sign whose byte stands there
  pub sign_is : (b : ℕ) → Sign b → byte_of s e ≡ Some b → claim_tokens s e ≡ symbol b ∷ claim_tokens s (e + 1)
  sign_is b y q =
      let (h, g, r) = byte_inside b q in
      lexed_by s longest_claim between e _ (ap (byte between) r ∙ begins_sign b y) h g

  pub sign_past : (b : ℕ) → Sign b → byte_of s e ≡ Some b → Ahead s e (e + 1)
  sign_past b y q = let h = byte_inside b q in record { more = omega arith; inside = omega (arith, h.0) }

  -- and with no other
  pub sign_not : (b : ℕ) → PastBlanks s e → (byte_of s e ≡ Some b → ⊥) → starts b (claim_tokens s e) ≡ false
  unfolding starts is_sign byte_of
  sign_not b p n = go (ltb e (length s)) refl (ltb e longest_claim) refl
    where
      go : (x : Bool) → ltb e (length s) ≡ x → (y : Bool) → ltb e longest_claim ≡ y → starts b (claim_tokens s e) ≡ false
      go false x y' y = ap (starts b) (tokens_end s longest_claim e (ltb-false _ _ x))
      go true x false y = ap (starts b) (lexed_cut s longest_claim between e (ltb-true _ _ x) (ltb-false _ _ y))
      go true x true y =
          let h = ltb-true e (length s) x in
          let g = ltb-true e longest_claim y in
          let here : byte_of s e ≡ Some (get_or s e 0) = ap (λ (z : Bool). cond z (Some (get_or s e 0)) None) (lt-ltb e (min longest_claim (length s)) (omega (arith, h, g))) in
          ap (λ (ts : List ℕ). starts b (lex (longest_claim - e) between ts)) (drop-cons s e 0 h) ∙ no_sign_from b (longest_claim - e) (get_or s e 0) (drop (suc e) s) (p h g) (λ q. n (here ∙ ap Some q))

-- ONE BYTE that is a token, told by the byte after it
module _ (s : List ℕ) (e x y : ℕ) (some : byte_of s e ≡ Some x) (more : byte_of s (e + 1) ≡ Some y) where
  pub alone : (m : Mode) (t : Token) → byte between x ≡ goes_on m → byte m y ≡ after t (begin y) → Stands s e t (e + 1)
  alone m t p q =
      let (in1, in2, b) = byte_inside s e x some in
      let (in3, in4, c) = byte_inside s (e + 1) y more in (
        lexed_by s longest_claim between e _ (ap (byte between) b ∙ p) in1 in2 ∙ lexed_before s longest_claim m (e + 1) t (subst (λ (x : ℕ). byte m x ≡ after t (begin x)) (sym c) q) in3 in4,
        record { more = omega arith; inside = omega (arith, in1) },
      )

no_blank : (b : ℕ) → 32 < b → is_blank b ≡ false
unfolding is_blank
no_blank b h = rw (ne_eqb b 32 (λ q. omega (arith, h, q)), lt-leb b 13 (omega (arith, h))) (and-false (leb 9 b))

-- a digit
pub digit_alone : (s : List ℕ) (e x y : ℕ) → byte_of s e ≡ Some x → byte_of s (e + 1) ≡ Some y → is_digit x ≡ true → is_digit y ≡ false → (v : ℕ) → v ≡ x - 48 → LoneDigit s e (Some v)
digit_alone s e x y a n d p v q =
    subst (λ (x : ℕ). Stands s e (number x) (e + 1)) (sym q) (alone s e x y a n _ _ (begin_digit _ (no_blank _ (omega (arith, digit_low x d))) d) (digit_stops _ _ p))

-- a letter
letter_high : (b : ℕ) → is_letter b ≡ true → 65 ≤ b
unfolding is_letter is_capital is_small
letter_high b l = go (ltb b 65) refl
  where
    go : (x : Bool) → ltb b 65 ≡ x → 65 ≤ b
    go false x = ltb-false b 65 x
    go true x = let h = ltb-true b 65 x in clash false (rw (lt-leb 65 b h, lt-leb 97 b (omega (arith, h)), ne_eqb b 95 (λ q. omega (arith, h, q))) at l) refl

pub letter_alone : (s : List ℕ) (e x y : ℕ) → byte_of s e ≡ Some x → byte_of s (e + 1) ≡ Some y → is_letter x ≡ true → (y ≡ colon → ⊥) → is_name_byte y ≡ false → LoneLetter s e (Some x)
letter_alone s e x y a n l c p = alone s e x y a n _ _ (begin_letter _ (no_blank _ (omega (arith, letter_high x l))) l) (name_stops _ _ p c)
