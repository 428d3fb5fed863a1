-- The tokens from a place on, by the byte that stands there: the laws by which the readers of src/tokens.rt go. Assumes nothing.
use mathlib.Core.Path.{◌≡◌, refl, sym, ap, ◌∙◌}
use mathlib.Core.Bool.{Bool, true, false, ◌&&◌, ◌||◌, cond}
use mathlib.Core.List.{List, [], ◌∷◌, ◌++◌, append_assoc}
use Prim.Native.Nat.{ℕ, zero, suc, ◌+◌, ◌*◌, ◌-◌, ◌<◌, ◌≤◌, min}
use native.Mathlib.Numerals.{add-one}
use native.Mathlib.Omega.{arith}
use lib.Dec.{ltb, leb, eqb}
use lib.ListN.{length, get_or, take, drop, drop_of_length-le, length-drop, length-take, take-append-drop}
use lib.Pointwise.{pointwise}
use lib.Seq.{drop-cons, take-suc, take-nil, get_or-drop, take-append_seam, take-take, take_all, drop-drop}
use borrow.Author.Tests.{leb-true, leb-false, lt-leb, ltb-true, ltb-false, eq-eqb, ne_eqb}
use Rattle.text.specs.Numbers.{is_digit}
use Rattle.model.specs.Run.{member}
use Rattle.text.specs.Lines.{equal, begins}
use Rattle.model.specs.ClaimTokens.{quote, backslash, colon, at_byte, slash_byte, Token, name, header, number, string, symbol, body_mark, end_mark, alias, comment, stray, Mode, between, at_sign, slash, in_name, in_number, in_string, escaped, in_mark, Lexed, goes_on, ends, breaks, after, is_blank, is_letter, is_capital, is_small, is_name_byte, is_symbol, begin, digit_more, mark_more, byte, at_end, lex, number_end}
use Rattle.text.specs.Ascii.{ascii}
use Rattle.text.proofs.Tests.{clash, and_both, or_false, Same, same, other, same?}
use Rattle.text.proofs.Lines.{equal_true, equal_same}
use Rattle.claim.specs.Reads.{part, lexed, tokens_at, spelt, reads_on, BlanksEnd, NameEnd, Sees, Bounds, pair_of}
use Rattle.claim.specs.declared.tokens.Token.{Token as CodeToken}
use Rattle.claim.specs.declared.tokens.Token.TheVariants.{Name, Header, Number, Text, Symbol, Body, End, Alias, Comment, Stray, Done}
use Rattle.claim.specs.declared.tokens.Seen.{Seen}

-- A STEP
lex_step : (k : ℕ) (m : Mode) (b : ℕ) (bs : List ℕ) → lex (suc k) m (b ∷ bs) ≡ (byte m b).tokens ++ lex k (byte m b).mode bs
unfolding lex
lex_step k m b bs = refl

lex_end : (k : ℕ) (m : Mode) → lex k m [] ≡ at_end m
unfolding lex
lex_end zero m = refl
lex_end (suc k) m = refl

lex_cut : (m : Mode) (b : ℕ) (bs : List ℕ) → lex 0 m (b ∷ bs) ≡ stray ∷ []
unfolding lex
lex_cut m b bs = refl

module _ (s : List ℕ) (limit : ℕ) (m : Mode) (e : ℕ) where
  pub lexed_end : length s ≤ e → lexed s limit m e ≡ at_end m
  lexed_end h = rw (drop_of_length-le s h) (lex_end (limit - e) m)

  pub lexed_cut : e < length s → limit ≤ e → lexed s limit m e ≡ stray ∷ []
  lexed_cut h g = let z : limit - e ≡ 0 = omega arith in rw (z, drop-cons s e 0 h) (lex_cut m _ _)

  -- where no byte follows, a token that wants one is torn
  lexed_torn : at_end m ≡ stray ∷ [] → min limit (length s) ≤ e → lexed s limit m e ≡ stray ∷ []
  lexed_torn o h = go (ltb e (length s)) refl
    where
      go : (b : Bool) → ltb e (length s) ≡ b → lexed s limit m e ≡ stray ∷ []
      go true q = lexed_cut (ltb-true e (length s) q) (omega (arith, ltb-true e (length s) q))
      go false q = lexed_end (ltb-false e (length s) q) ∙ o

  pub lexed_step : e < length s → e < limit → lexed s limit m e ≡ (byte m (get_or s e 0)).tokens ++ lexed s limit (byte m (get_or s e 0)).mode (e + 1)
  lexed_step h g =
      let z : limit - e ≡ suc (limit - (e + 1)) = omega arith in
      rw (z, drop-cons s e 0 h, add-one e) (lex_step _ m _ _)

  -- what the byte at a place does
  pub lexed_by : (l : Lexed) → byte m (get_or s e 0) ≡ l → e < length s → e < limit → lexed s limit m e ≡ l.tokens ++ lexed s limit l.mode (e + 1)
  lexed_by l q h g = lexed_step h g ∙ ap (λ (x : Lexed). x.tokens ++ lexed s limit x.mode (e + 1)) q

byte_between : (b : ℕ) → byte between b ≡ begin b
unfolding byte
byte_between b = refl

-- a token that ends before the byte at a place
pub lexed_before : (s : List ℕ) (limit : ℕ) (m : Mode) (e : ℕ) (t : Token) → byte m (get_or s e 0) ≡ after t (begin (get_or s e 0)) → e < length s → e < limit → lexed s limit m e ≡ t ∷ tokens_at s limit e
lexed_before s limit m e t q h g = lexed_by s limit m e _ q h g ∙ ap (λ (x : List Token). t ∷ x) (sym (lexed_by s limit between e _ (byte_between _) h g))

-- PARTS: one more byte
module _ (s : List ℕ) (a e : ℕ) where
  pub part_snoc : a ≤ e → e < length s → part s a (e + 1) ≡ part s a e ++ (get_or s e 0 ∷ [])
  part_snoc h g =
      let z : e + 1 - a ≡ suc (e - a) = omega arith in
      let y : a + (e - a) ≡ e = omega arith in
      let x : e - a < length (drop a s) = simp length-drop (omega arith) in
      rw (z, take-suc (drop a s) (e - a) 0 x, get_or-drop a s (e - a) 0, y) refl

  pub part_cons : e < length s → e < a → part s e a ≡ get_or s e 0 ∷ part s (e + 1) a
  part_cons h g = let z : a - e ≡ suc (a - (e + 1)) = omega arith in rw (z, drop-cons s e 0 h, add-one e) refl

  pub part_past : length s ≤ e → part s e a ≡ []
  part_past h = rw (drop_of_length-le s h) (take-nil (a - e))

  pub part_cut : a ≤ e → part s e a ≡ []
  part_cut h = let z : a - e ≡ 0 = omega arith in rw z refl

pub part_none : (s : List ℕ) (a e : ℕ) → min a (length s) ≤ e → part s e a ≡ []
part_none s a e h = go (ltb e a) refl
  where
    go : (b : Bool) → ltb e a ≡ b → part s e a ≡ []
    go true q = part_past s a e (omega (arith, ltb-true e a q))
    go false q = part_cut s a e (ltb-false e a q)

-- WHAT IS SEEN
abbrev pub seen : CodeToken → ℕ → Seen
seen t n = record { token = t; next = n }

no_bounds : (s : List ℕ) (limit : ℕ) (t : CodeToken) → reads_on t ≡ false → Bounds s limit t
no_bounds s limit (Text a e) d = clash true refl d
no_bounds s limit (Name a e) d = tt
no_bounds s limit (Header a e) d = tt
no_bounds s limit (Number v) d = tt
no_bounds s limit (Symbol b) d = tt
no_bounds s limit Body d = tt
no_bounds s limit End d = tt
no_bounds s limit Alias d = tt
no_bounds s limit Comment d = tt
no_bounds s limit Stray d = tt
no_bounds s limit Done d = tt

module _ (s : List ℕ) (limit at : ℕ) (ts : List Token) where
  pub sees : (t : CodeToken) (n : ℕ) → ts ≡ spelt s t (tokens_at s limit n) → at < n → n ≤ length s → Bounds s limit t → Sees s limit at ts (seen t n)
  sees t n q h g b = record { rest = tokens_at s limit n; reads = q; goes = λ w. refl; past = λ w. record { more = h; inside = g }; bounds = b }

  pub sees_last : (t : CodeToken) (n : ℕ) → reads_on t ≡ false → (rest : List Token) → ts ≡ spelt s t rest → Sees s limit at ts (seen t n)
  sees_last t n d rest q = record { rest = rest; reads = q; goes = λ w. clash _ w d; past = λ w. clash _ w d; bounds = no_bounds s limit t d }

-- BLANKS
begin_blank : (b : ℕ) → is_blank b ≡ true → byte between b ≡ goes_on between
unfolding byte begin
begin_blank b e = rw e refl

pub blank_more : (s : List ℕ) (limit e : ℕ) → e < length s → e < limit → is_blank (get_or s e 0) ≡ true → tokens_at s limit e ≡ tokens_at s limit (e + 1)
blank_more s limit e h g q = lexed_by s limit between e _ (begin_blank _ q) h g

-- NAMES
module _ (w : List ℕ) (b : ℕ) where
  name_goes : is_name_byte b ≡ true → byte (in_name w) b ≡ goes_on (in_name (w ++ (b ∷ [])))
  unfolding byte
  name_goes e = rw e refl

  name_colon : is_name_byte b ≡ false → b ≡ colon → byte (in_name w) b ≡ ends (header w)
  unfolding byte
  name_colon e f = rw (e, eq-eqb b colon f) refl

  pub name_stops : is_name_byte b ≡ false → (b ≡ colon → ⊥) → byte (in_name w) b ≡ after (name w) (begin b)
  unfolding byte
  name_stops e f = rw (e, ne_eqb b colon f) refl

pub name_more : (s : List ℕ) (limit at e : ℕ) → at < e → e < length s → e < limit → is_name_byte (get_or s e 0) ≡ true → lexed s limit (in_name (part s at e)) e ≡ lexed s limit (in_name (part s at (e + 1))) (e + 1)
name_more s limit at e k h g q = lexed_by s limit _ e _ (name_goes _ _ q) h g ∙ ap (λ (x : List ℕ). lexed s limit (in_name x) (e + 1)) (sym (part_snoc s at e (omega arith) h))

at_end_name : (w : List ℕ) → at_end (in_name w) ≡ name w ∷ []
unfolding at_end
at_end_name w = refl

pub tokens_end : (s : List ℕ) (limit e : ℕ) → length s ≤ e → tokens_at s limit e ≡ []
unfolding at_end
tokens_end s limit e h = lexed_end s limit between e h

abbrev named_from : (s : List ℕ) (limit at : ℕ) → List Token
named_from s limit at = lexed s limit (in_name (part s at (at + 1))) (at + 1)

module _ {s : List ℕ} {limit at e : ℕ} (n : NameEnd s limit at e) where
  pub name_last : length s ≤ e → Sees s limit at (named_from s limit at) (seen (Name at e) e)
  name_last h =
      sees s limit at _ _ e (n.same ∙ (lexed_end s limit _ e h ∙ (at_end_name _ ∙ ap (λ (x : List Token). name (part s at e) ∷ x) (sym (tokens_end s limit e h))))) n.ahead n.inside tt

  pub name_cut : e < length s → limit ≤ e → Sees s limit at (named_from s limit at) (seen Stray e)
  name_cut h g = sees_last s limit at _ _ e refl [] (n.same ∙ lexed_cut s limit _ e h g)

  pub name_header : e < length s → e < limit → get_or s e 0 ≡ colon → Sees s limit at (named_from s limit at) (seen (Header at e) (e + 1))
  name_header h g q = sees s limit at _ _ (e + 1) (n.same ∙ lexed_by s limit _ e _ (name_colon _ _ (n.stops h g) q) h g) (omega (arith, n.ahead)) (omega arith) tt

  pub name_whole : e < length s → e < limit → (get_or s e 0 ≡ colon → ⊥) → Sees s limit at (named_from s limit at) (seen (Name at e) e)
  name_whole h g q = sees s limit at _ _ e (n.same ∙ lexed_before s limit _ e _ (name_stops _ _ (n.stops h g) q) h g) n.ahead n.inside tt

-- NUMBERS
pub digit_low : (b : ℕ) → is_digit b ≡ true → 48 ≤ b
unfolding is_digit
digit_low b e = leb-true 48 b (and_both (leb 48 b) (leb b 57) e).0

pub digit_high : (b : ℕ) → is_digit b ≡ true → b ≤ 57
unfolding is_digit
digit_high b e = leb-true b 57 (and_both (leb 48 b) (leb b 57) e).1

module _ (v b : ℕ) where
  digit_goes : is_digit b ≡ true → (eqb v 0 || leb number_end (10 * v + (b - 48))) ≡ false → byte (in_number v) b ≡ goes_on (in_number (10 * v + (b - 48)))
  unfolding byte digit_more
  digit_goes e f = rw (e, f) refl

  digit_breaks : is_digit b ≡ true → (eqb v 0 || leb number_end (10 * v + (b - 48))) ≡ true → byte (in_number v) b ≡ breaks stray
  unfolding byte digit_more
  digit_breaks e f = rw (e, f) refl

  pub digit_stops : is_digit b ≡ false → byte (in_number v) b ≡ after (number v) (begin b)
  unfolding byte
  digit_stops e = rw e refl

pub number_below : (v w : ℕ) → (eqb v 0 || leb number_end w) ≡ false → w < number_end
number_below v w e = leb-false number_end w (or_false (eqb v 0) (leb number_end w) e).1

at_end_number : (v : ℕ) → at_end (in_number v) ≡ number v ∷ []
unfolding at_end
at_end_number v = refl

-- the digits up to a place are those of a value
pub record DigitsSoFar (s : List ℕ) (limit at : ℕ) (ts : List Token) (v e : ℕ) : Type 0 where
  pub same : ts ≡ lexed s limit (in_number v) e
  pub ahead : at < e
  pub inside : e ≤ length s
  pub fits : v < number_end

module _ {s : List ℕ} {limit at : ℕ} {ts : List Token} {v e : ℕ} (n : DigitsSoFar s limit at ts v e) where
  pub digits_more : e < length s → e < limit → is_digit (get_or s e 0) ≡ true → (eqb v 0 || leb number_end (10 * v + (get_or s e 0 - 48))) ≡ false → DigitsSoFar s limit at ts (10 * v + (get_or s e 0 - 48)) (e + 1)
  digits_more h g d q = record { same = n.same ∙ lexed_by s limit _ e _ (digit_goes v _ d q) h g; ahead = omega (arith, n.ahead); inside = omega arith; fits = number_below v _ q }

  pub digits_break : e < length s → e < limit → is_digit (get_or s e 0) ≡ true → (eqb v 0 || leb number_end (10 * v + (get_or s e 0 - 48))) ≡ true → Sees s limit at ts (seen Stray e)
  digits_break h g d q = sees_last s limit at ts _ e refl _ (n.same ∙ lexed_by s limit _ e _ (digit_breaks v _ d q) h g)

  pub digits_whole : e < length s → e < limit → is_digit (get_or s e 0) ≡ false → Sees s limit at ts (seen (Number v) e)
  digits_whole h g d = sees s limit at ts _ e (n.same ∙ lexed_before s limit _ e _ (digit_stops v _ d) h g) n.ahead n.inside tt

  pub digits_cut : e < length s → limit ≤ e → Sees s limit at ts (seen Stray e)
  digits_cut h g = sees_last s limit at ts _ e refl [] (n.same ∙ lexed_cut s limit _ e h g)

  pub digits_last : length s ≤ e → Sees s limit at ts (seen (Number v) e)
  digits_last h = sees s limit at ts _ e (n.same ∙ (lexed_end s limit _ e h ∙ (at_end_number v ∙ ap (λ (x : List Token). number v ∷ x) (sym (tokens_end s limit e h))))) n.ahead n.inside tt

-- STRINGS
module _ (w : List ℕ) (b : ℕ) where
  string_ends : b ≡ quote → byte (in_string w) b ≡ ends (string w)
  unfolding byte
  string_ends e = rw (eq-eqb b quote e) refl

  string_goes : (b ≡ quote → ⊥) → (b ≡ backslash → ⊥) → byte (in_string w) b ≡ goes_on (in_string (w ++ (b ∷ [])))
  unfolding byte
  string_goes e f = rw (ne_eqb b quote e, ne_eqb b backslash f) refl

  string_escapes : (b ≡ quote → ⊥) → b ≡ backslash → byte (in_string w) b ≡ goes_on (escaped (w ++ (b ∷ [])))
  unfolding byte
  string_escapes e f = rw (ne_eqb b quote e, eq-eqb b backslash f) refl

  escaped_goes : byte (escaped w) b ≡ goes_on (in_string (w ++ (b ∷ [])))
  unfolding byte
  escaped_goes = refl

string_open : (w : List ℕ) → at_end (in_string w) ≡ stray ∷ []
unfolding at_end
string_open w = refl

escaped_open : (w : List ℕ) → at_end (escaped w) ≡ stray ∷ []
unfolding at_end
escaped_open w = refl

-- the byte after a backslash, which is any, or none: the string is torn with it or without
escaped_more : (s : List ℕ) (limit a e : ℕ) → a ≤ e → lexed s limit (escaped (part s a e)) e ≡ lexed s limit (in_string (part s a (e + 1))) (e + 1)
escaped_more s limit a e k = go (ltb e (min limit (length s))) refl
  where
    go : (b : Bool) → ltb e (min limit (length s)) ≡ b → lexed s limit (escaped (part s a e)) e ≡ lexed s limit (in_string (part s a (e + 1))) (e + 1)
    go true q =
        lexed_by s limit _ e _ (escaped_goes _ _) (omega (arith, ltb-true e (min limit (length s)) q)) (omega (arith, ltb-true e (min limit (length s)) q))
        ∙ ap (λ (w : List ℕ). lexed s limit (in_string w) (e + 1)) (sym (part_snoc s a e k (omega (arith, ltb-true e (min limit (length s)) q))))
    go false q =
        lexed_torn s limit _ e (escaped_open _) (ltb-false e (min limit (length s)) q)
        ∙ sym (lexed_torn s limit _ (e + 1) (string_open _) (omega (arith, ltb-false e (min limit (length s)) q)))

pub record StringSoFar (s : List ℕ) (limit at : ℕ) (ts : List Token) (e : ℕ) : Type 0 where
  pub same : ts ≡ lexed s limit (in_string (part s (at + 1) e)) e
  pub ahead : at < e

pub string_none : (s : List ℕ) (limit at : ℕ) → StringSoFar s limit at (lexed s limit (in_string []) (at + 1)) (at + 1)
string_none s limit at = record { same = ap (λ (w : List ℕ). lexed s limit (in_string w) (at + 1)) (sym (part_cut s (at + 1) (at + 1) (omega arith))); ahead = omega arith }

module _ {s : List ℕ} {limit at : ℕ} {ts : List Token} {e : ℕ} (n : StringSoFar s limit at ts e) where
  pub string_more : e < length s → e < limit → (get_or s e 0 ≡ quote → ⊥) → (get_or s e 0 ≡ backslash → ⊥) → StringSoFar s limit at ts (e + 1)
  string_more h g q p =
      record {
        same = n.same ∙ (lexed_by s limit _ e _ (string_goes _ _ q p) h g ∙ ap (λ (w : List ℕ). lexed s limit (in_string w) (e + 1)) (sym (part_snoc s (at + 1) e (omega (arith, n.ahead)) h)));
        ahead = omega (arith, n.ahead);
      }

  pub string_escape : e < length s → e < limit → (get_or s e 0 ≡ quote → ⊥) → get_or s e 0 ≡ backslash → StringSoFar s limit at ts (e + 2)
  string_escape h g q p =
      let z : e + 1 + 1 ≡ e + 2 = omega arith in
      record {
        same =
            n.same
            ∙ (lexed_by s limit _ e _ (string_escapes _ _ q p) h g
            ∙ (ap (λ (w : List ℕ). lexed s limit (escaped w) (e + 1)) (sym (part_snoc s (at + 1) e (omega (arith, n.ahead)) h))
            ∙ (escaped_more s limit (at + 1) (e + 1) (omega (arith, n.ahead)) ∙ ap (λ (i : ℕ). lexed s limit (in_string (part s (at + 1) i)) i) z)));
        ahead = omega (arith, n.ahead);
      }

  pub string_whole : e < length s → e < limit → get_or s e 0 ≡ quote → Sees s limit at ts (seen (Text (at + 1) e) (e + 1))
  string_whole h g q = sees s limit at ts _ (e + 1) (n.same ∙ lexed_by s limit _ e _ (string_ends _ _ q) h g) (omega (arith, n.ahead)) (omega arith) (record { past_quote = omega arith; ahead = omega (arith, n.ahead); inside = omega arith; looked_at = g })

  pub string_torn : min limit (length s) ≤ e → Sees s limit at ts (seen Stray e)
  string_torn h = sees_last s limit at ts _ e refl [] (n.same ∙ lexed_torn s limit _ e (string_open _) h)

-- ALIASES AND COMMENTS
at_name : (b : ℕ) → is_name_byte b ≡ true → byte at_sign b ≡ breaks alias
unfolding byte
at_name b e = rw e refl

at_other : (b : ℕ) → is_name_byte b ≡ false → byte at_sign b ≡ breaks stray
unfolding byte
at_other b e = rw e refl

slash_star : (b : ℕ) → eqb b 42 ≡ true → byte slash b ≡ breaks comment
unfolding byte
slash_star b e = rw e refl

slash_other : (b : ℕ) → eqb b 42 ≡ false → byte slash b ≡ breaks stray
unfolding byte
slash_other b e = rw e refl

at_sign_open : at_end at_sign ≡ stray ∷ []
unfolding at_end
at_sign_open = refl

slash_open : at_end slash ≡ stray ∷ []
unfolding at_end
slash_open = refl

module _ (s : List ℕ) (limit at e : ℕ) where
  torn : (m : Mode) → at_end m ≡ stray ∷ [] → min limit (length s) ≤ e → Sees s limit at (lexed s limit m e) (seen Stray e)
  torn m o h = sees_last s limit at _ _ e refl [] (lexed_torn s limit m e o h)

  pub alias_by : e < min limit (length s) → (p : Bool) → is_name_byte (get_or s e 0) ≡ p → Sees s limit at (lexed s limit at_sign e) (pair_of e p Alias)
  alias_by h true q = sees_last s limit at _ _ e refl _ (lexed_by s limit at_sign e _ (at_name _ q) (omega arith) (omega arith))
  alias_by h false q = sees_last s limit at _ _ e refl _ (lexed_by s limit at_sign e _ (at_other _ q) (omega arith) (omega arith))

  pub alias_torn : min limit (length s) ≤ e → Sees s limit at (lexed s limit at_sign e) (pair_of e false Alias)
  alias_torn h = torn at_sign at_sign_open h

  pub comment_by : e < min limit (length s) → (p : Bool) → eqb (get_or s e 0) 42 ≡ p → Sees s limit at (lexed s limit slash e) (pair_of e p Comment)
  comment_by h true q = sees_last s limit at _ _ e refl _ (lexed_by s limit slash e _ (slash_star _ q) (omega arith) (omega arith))
  comment_by h false q = sees_last s limit at _ _ e refl _ (lexed_by s limit slash e _ (slash_other _ q) (omega arith) (omega arith))

  pub comment_torn : min limit (length s) ≤ e → Sees s limit at (lexed s limit slash e) (pair_of e false Comment)
  comment_torn h = torn slash slash_open h

-- MARKS: no mark stands
begins_front : (f r : List ℕ) → begins f (f ++ r) ≡ true
unfolding begins
begins_front f r = rw (take-append_seam f r) (equal_same f)

begins_whole : (w f r : List ℕ) → equal w f ≡ true → begins f (w ++ r) ≡ true
begins_whole w f r e = rw (equal_true w f e) (begins_front f r)

abbrev body_word : List ℕ
body_word = ascii "--BODY--"

abbrev end_word : List ℕ
end_word = ascii "--END--"

-- no mark stands where w is read already
abbrev NoMark : (w bs : List ℕ) → Type 0
NoMark w bs = (begins body_word (w ++ bs) ≡ false) × (begins end_word (w ++ bs) ≡ false)

data Breaks (ts : List Token) : Type 0 where
  broken : (rest : List Token) → ts ≡ stray ∷ rest → Breaks ts

-- one byte more, after which v is read
mark_byte : (k : ℕ) (v bs : List ℕ) → NoMark v (take k bs) → (NoMark v (take k bs) → Breaks (lex k (in_mark v) bs)) → Breaks ((mark_more v).tokens ++ lex k (mark_more v).mode bs)
unfolding mark_more
mark_byte k v bs n f = body (equal v body_word) refl
  where
    goes : (x : Bool) → (begins v body_word || begins v end_word) ≡ x → Breaks ((cond x (goes_on (in_mark v)) (breaks stray)).tokens ++ lex k (cond x (goes_on (in_mark v)) (breaks stray)).mode bs)
    goes true e = f n
    goes false e = broken _ refl

    last : Lexed
    last = cond (begins v body_word || begins v end_word) (goes_on (in_mark v)) (breaks stray)

    end : (x : Bool) → equal v end_word ≡ x → Breaks ((cond x (ends end_mark) last).tokens ++ lex k (cond x (ends end_mark) last).mode bs)
    end true e = clash (begins end_word (v ++ take k bs)) (begins_whole v end_word (take k bs) e) n.1
    end false e = goes (begins v body_word || begins v end_word) refl

    body : (x : Bool) → equal v body_word ≡ x → Breaks ((cond x (ends body_mark) (cond (equal v end_word) (ends end_mark) last)).tokens ++ lex k (cond x (ends body_mark) (cond (equal v end_word) (ends end_mark) last)).mode bs)
    body true e = clash (begins body_word (v ++ take k bs)) (begins_whole v body_word (take k bs) e) n.0
    body false e = end (equal v end_word) refl

byte_mark : (k : ℕ) (w : List ℕ) (b : ℕ) (bs : List ℕ) → Breaks ((mark_more (w ++ (b ∷ []))).tokens ++ lex k (mark_more (w ++ (b ∷ []))).mode bs) → Breaks (lex (suc k) (in_mark w) (b ∷ bs))
unfolding lex byte
byte_mark k w b bs h = h

mark_lost : (k : ℕ) (w bs : List ℕ) → NoMark w (take k bs) → Breaks (lex k (in_mark w) bs)
unfolding lex at_end
mark_lost zero w [] n = broken [] refl
mark_lost (suc k) w [] n = broken [] refl
mark_lost zero w (b ∷ bs) n = broken [] refl
mark_lost (suc k) w (b ∷ bs) n =
    byte_mark k w b bs (mark_byte k (w ++ (b ∷ [])) bs (rw (append_assoc w (b ∷ []) (take k bs)) n) (λ m. mark_lost k (w ++ (b ∷ [])) bs m))

-- a mark stands
module _ (f x : List ℕ) (k : ℕ) (e : begins f (take k x) ≡ true) where
  front_is : take (length f) (take k x) ≡ f
  unfolding begins
  front_is = equal_true _ f e

  front_length : min (length f) (min k (length x)) ≡ length f
  front_length = simp length-take at (ap length front_is)

  pub front_room : (length f ≤ k) × (length f ≤ length x)
  front_room = (omega (arith, front_length), omega (arith, front_length))

  pub front_split : x ≡ f ++ drop (length f) x
  front_split = sym (take-append-drop (length f) x) ∙ ap (λ (y : List ℕ). y ++ drop (length f) x) (sym (take-take (length f) k x front_room.0) ∙ front_is)

body_lexed : (k : ℕ) (y : List ℕ) → lex (suc (suc (suc (suc (suc (suc (suc (suc k)))))))) (in_mark []) (body_word ++ y) ≡ body_mark ∷ lex k between y
unfolding lex byte mark_more equal begins
body_lexed k y = refl

end_lexed : (k : ℕ) (y : List ℕ) → lex (suc (suc (suc (suc (suc (suc (suc k))))))) (in_mark []) (end_word ++ y) ≡ end_mark ∷ lex k between y
unfolding lex byte mark_more equal begins
end_lexed k y = refl

module _ (s : List ℕ) (limit at : ℕ) where
  pub mark_body : begins body_word (part s at limit) ≡ true → Sees s limit at (lexed s limit (in_mark []) at) (seen Body (at + 8))
  mark_body e =
      let r = front_room body_word (drop at s) (limit - at) e in
      let z : limit - at ≡ suc (suc (suc (suc (suc (suc (suc (suc (limit - (at + 8))))))))) = omega (arith, r.0) in
      let q : lexed s limit (in_mark []) at ≡ body_mark ∷ tokens_at s limit (at + 8) =
      ap (λ (x : List ℕ). lex (limit - at) (in_mark []) x) (front_split body_word (drop at s) (limit - at) e)
      ∙ (ap (λ (k : ℕ). lex k (in_mark []) (body_word ++ drop 8 (drop at s))) z
      ∙ (body_lexed _ _ ∙ ap (λ (x : List ℕ). body_mark ∷ lex (limit - (at + 8)) between x) (drop-drop 8 at s))) in
      sees s limit at _ Body (at + 8) q (omega arith) (omega (arith, simp length-drop at r.1)) tt

  pub mark_end : begins end_word (part s at limit) ≡ true → Sees s limit at (lexed s limit (in_mark []) at) (seen End (at + 7))
  mark_end e =
      let r = front_room end_word (drop at s) (limit - at) e in
      let z : limit - at ≡ suc (suc (suc (suc (suc (suc (suc (limit - (at + 7)))))))) = omega (arith, r.0) in
      let q : lexed s limit (in_mark []) at ≡ end_mark ∷ tokens_at s limit (at + 7) =
      ap (λ (x : List ℕ). lex (limit - at) (in_mark []) x) (front_split end_word (drop at s) (limit - at) e)
      ∙ (ap (λ (k : ℕ). lex k (in_mark []) (end_word ++ drop 7 (drop at s))) z
      ∙ (end_lexed _ _ ∙ ap (λ (x : List ℕ). end_mark ∷ lex (limit - (at + 7)) between x) (drop-drop 7 at s))) in
      sees s limit at _ End (at + 7) q (omega arith) (omega (arith, simp length-drop at r.1)) tt

  pub mark_none : begins body_word (part s at limit) ≡ false → begins end_word (part s at limit) ≡ false → Sees s limit at (lexed s limit (in_mark []) at) (seen Stray at)
  mark_none b e = go (mark_lost (limit - at) [] (drop at s) (b, e))
    where
      go : Breaks (lexed s limit (in_mark []) at) → Sees s limit at (lexed s limit (in_mark []) at) (seen Stray at)
      go (broken rest q) = sees_last s limit at _ Stray at refl rest q

  pub mark_fits : begins body_word (part s at limit) ≡ true → at + 8 ≤ length s
  mark_fits e = omega (arith, simp length-drop at (front_room body_word (drop at s) (limit - at) e).1)

  pub end_fits : begins end_word (part s at limit) ≡ true → at + 7 ≤ length s
  end_fits e = omega (arith, simp length-drop at (front_room end_word (drop at s) (limit - at) e).1)

-- what the code compares: a part of the text, and pair by pair
pub part_within : (s : List ℕ) (a e r : ℕ) → r ≡ min e (length s) → take (r - a) (drop a s) ≡ part s a e
part_within s a e r m = go (ltb e (length s)) refl
  where
    rest : length (drop a s) ≡ length s - a
    rest = length-drop a s

    go : (b : Bool) → ltb e (length s) ≡ b → take (r - a) (drop a s) ≡ part s a e
    go true q = let h = ltb-true e (length s) q in ap (λ (k : ℕ). take (k - a) (drop a s)) (omega (arith, h, m))
    go false q =
        let h = ltb-false e (length s) q in
        take_all (r - a) (drop a s) (omega (arith, rest, h, m)) ∙ sym (take_all (e - a) (drop a s) (omega (arith, rest, h)))

pub pairs_equal : (a b : List ℕ) → pointwise eqb a b ≡ equal a b
unfolding equal
pairs_equal [] [] = refl
pairs_equal [] (y ∷ b) = refl
pairs_equal (x ∷ a) [] = refl
pairs_equal (x ∷ a) (y ∷ b) = ap (λ (p : Bool). eqb x y && p) (pairs_equal a b)

pub eqb_turned : (x y : ℕ) → eqb x y ≡ eqb y x
eqb_turned x y = go (same? x y)
  where
    go : Same x y → eqb x y ≡ eqb y x
    go (same e) = rw e refl
    go (other n) = ne_eqb x y n ∙ sym (ne_eqb y x (λ q. n (sym q)))

pairs_turned : (a b : List ℕ) → pointwise eqb a b ≡ equal b a
unfolding equal
pairs_turned [] [] = refl
pairs_turned [] (y ∷ b) = refl
pairs_turned (x ∷ a) [] = refl
pairs_turned (x ∷ a) (y ∷ b) = rw (eqb_turned x y, pairs_turned a b) refl

-- whether a word stands at a place, before the limit
pub stands : (s : List ℕ) (limit at r : ℕ) (w : List ℕ) → r ≡ min limit (length s) → pointwise eqb w (take (length w) (take (r - at) (drop at s))) ≡ begins w (part s at limit)
unfolding begins
stands s limit at r w m = pairs_turned w _ ∙ ap (λ (t : List ℕ). equal (take (length w) t) w) (part_within s at limit r m)

-- THE FIRST BYTE of a token
digit_no_letter : (b : ℕ) → is_digit b ≡ true → is_letter b ≡ false
unfolding is_letter is_capital is_small
digit_no_letter b e = let h = digit_high b e in rw (lt-leb 65 b (omega (arith, h)), lt-leb 97 b (omega (arith, h)), ne_eqb b 95 (λ q. omega (arith, h, q))) refl

module _ (b : ℕ) (blank : is_blank b ≡ false) where
  pub begin_letter : is_letter b ≡ true → byte between b ≡ goes_on (in_name (b ∷ []))
  unfolding byte begin
  begin_letter e = rw (blank, e) refl

  pub begin_digit : is_digit b ≡ true → byte between b ≡ goes_on (in_number (b - 48))
  unfolding byte begin
  begin_digit e = rw (blank, digit_no_letter b e, e) refl

  begin_symbol : is_letter b ≡ false → is_digit b ≡ false → is_symbol b ≡ true → byte between b ≡ ends (symbol b)
  unfolding byte begin
  begin_symbol l d e = rw (blank, l, d, e) refl

  begin_other : is_letter b ≡ false → is_digit b ≡ false → is_symbol b ≡ false → (b ≡ quote → ⊥) → (b ≡ 45 → ⊥) → (b ≡ at_byte → ⊥) → (b ≡ slash_byte → ⊥) → byte between b ≡ breaks stray
  unfolding byte begin
  begin_other l d y p q r t = rw (blank, l, d, y, ne_eqb b quote p, ne_eqb b 45 q, ne_eqb b at_byte r, ne_eqb b slash_byte t) refl

begin_quote : (b : ℕ) → b ≡ quote → byte between b ≡ goes_on (in_string [])
unfolding byte begin is_blank is_letter is_capital is_small is_digit is_symbol member
begin_quote b e = rw e refl

begin_mark : (b : ℕ) → b ≡ 45 → byte between b ≡ byte (in_mark []) b
unfolding byte begin is_blank is_letter is_capital is_small is_digit is_symbol member mark_more equal begins
begin_mark b e = rw e refl

begin_at : (b : ℕ) → b ≡ at_byte → byte between b ≡ goes_on at_sign
unfolding byte begin is_blank is_letter is_capital is_small is_digit is_symbol member
begin_at b e = rw e refl

begin_slash : (b : ℕ) → b ≡ slash_byte → byte between b ≡ goes_on slash
unfolding byte begin is_blank is_letter is_capital is_small is_digit is_symbol member
begin_slash b e = rw e refl

-- what is seen of equal tokens
pub sees_of : {s : List ℕ} {limit at : ℕ} {ts us : List Token} {r : Seen} → us ≡ ts → Sees s limit at ts r → Sees s limit at us r
sees_of q n = record { rest = n.rest; reads = q ∙ n.reads; goes = n.goes; past = n.past; bounds = n.bounds }

part_one : (s : List ℕ) (at : ℕ) → at < length s → part s at (at + 1) ≡ get_or s at 0 ∷ []
part_one s at h = part_snoc s at at (omega arith) h ∙ ap (λ (x : List ℕ). x ++ (get_or s at 0 ∷ [])) (part_cut s at at (omega arith))

module _ {s : List ℕ} {limit at : ℕ} (h : at < length s) (g : at < limit) where
  pub first_letter : {r : Seen} → is_blank (get_or s at 0) ≡ false → is_letter (get_or s at 0) ≡ true → Sees s limit at (named_from s limit at) r → Sees s limit at (tokens_at s limit at) r
  first_letter b l n =
      sees_of (lexed_by s limit between at _ (begin_letter _ b l) h g ∙ ap (λ (x : List ℕ). lexed s limit (in_name x) (at + 1)) (sym (part_one s at h))) n

  pub first_digit : {r : Seen} → is_blank (get_or s at 0) ≡ false → is_digit (get_or s at 0) ≡ true → Sees s limit at (lexed s limit (in_number (get_or s at 0 - 48)) (at + 1)) r → Sees s limit at (tokens_at s limit at) r
  first_digit b d n = sees_of (lexed_by s limit between at _ (begin_digit _ b d) h g) n

  pub first_symbol : is_blank (get_or s at 0) ≡ false → is_letter (get_or s at 0) ≡ false → is_digit (get_or s at 0) ≡ false → is_symbol (get_or s at 0) ≡ true → Sees s limit at (tokens_at s limit at) (seen (Symbol (get_or s at 0)) (at + 1))
  first_symbol b l d y = sees s limit at _ _ (at + 1) (lexed_by s limit between at _ (begin_symbol _ b l d y) h g) (omega arith) (omega arith) tt

  pub first_quote : {r : Seen} → get_or s at 0 ≡ quote → Sees s limit at (lexed s limit (in_string []) (at + 1)) r → Sees s limit at (tokens_at s limit at) r
  first_quote q n = sees_of (lexed_by s limit between at _ (begin_quote _ q) h g) n

  pub first_mark : {r : Seen} → get_or s at 0 ≡ 45 → Sees s limit at (lexed s limit (in_mark []) at) r → Sees s limit at (tokens_at s limit at) r
  first_mark q n = sees_of (lexed_by s limit between at _ (begin_mark _ q) h g ∙ sym (lexed_step s limit (in_mark []) at h g)) n

  pub first_at : {r : Seen} → get_or s at 0 ≡ at_byte → Sees s limit at (lexed s limit at_sign (at + 1)) r → Sees s limit at (tokens_at s limit at) r
  first_at q n = sees_of (lexed_by s limit between at _ (begin_at _ q) h g) n

  pub first_slash : {r : Seen} → get_or s at 0 ≡ slash_byte → Sees s limit at (lexed s limit slash (at + 1)) r → Sees s limit at (tokens_at s limit at) r
  first_slash q n = sees_of (lexed_by s limit between at _ (begin_slash _ q) h g) n

  pub first_other : is_blank (get_or s at 0) ≡ false → is_letter (get_or s at 0) ≡ false → is_digit (get_or s at 0) ≡ false → is_symbol (get_or s at 0) ≡ false → (get_or s at 0 ≡ quote → ⊥) → (get_or s at 0 ≡ 45 → ⊥) → (get_or s at 0 ≡ at_byte → ⊥) → (get_or s at 0 ≡ slash_byte → ⊥) → Sees s limit at (tokens_at s limit at) (seen Stray at)
  first_other b l d y p q r t = sees_last s limit at _ Stray at refl _ (lexed_by s limit between at _ (begin_other _ b l d y p q r t) h g)

-- after blanks
module _ {s : List ℕ} {limit at e : ℕ} (n : BlanksEnd s limit at e) where
  pub blanks_done : length s ≤ e → Sees s limit at (tokens_at s limit at) (seen Done e)
  blanks_done h = sees_last s limit at _ Done e refl [] (n.same ∙ tokens_end s limit e h)

  pub blanks_cut : e < length s → limit ≤ e → Sees s limit at (tokens_at s limit at) (seen Stray e)
  blanks_cut h g = sees_last s limit at _ Stray e refl [] (n.same ∙ lexed_cut s limit between e h g)

  pub blanks_then : {r : Seen} → Sees s limit e (tokens_at s limit e) r → Sees s limit at (tokens_at s limit at) r
  blanks_then {r} t = record { rest = t.rest; reads = n.same ∙ t.reads; goes = t.goes; past = λ w. record { more = omega (arith, n.ahead, (t.past w).more); inside = (t.past w).inside }; bounds = t.bounds }

-- WORDS: whether one stands there, and no more
module _ (s : List ℕ) (a e : ℕ) (w : List ℕ) {r : ℕ} (m : r ≡ min e (length s)) where
  pub word_there : {b : Bool} → b ≡ pointwise eqb (take (r - a) (drop a s)) w → b ≡ equal (part s a e) w
  word_there q = q ∙ (pairs_equal _ w ∙ ap (λ (t : List ℕ). equal t w) (part_within s a e r m))

  pub word_past : r < a → 0 < length w → false ≡ equal (part s a e) w
  unfolding equal
  word_past h n = rw (part_none s e a (omega (arith, h, m))) (nothing w n)
    where
      nothing : (w : List ℕ) → 0 < length w → false ≡ equal [] w
      nothing [] n = absurd (omega (arith, n))
      nothing (x ∷ w) n = refl
