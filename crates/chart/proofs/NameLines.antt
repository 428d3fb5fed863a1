-- Name lines, byte by byte and line by line: what is left of a name or of a block decides as the whole does. Assumes
-- nothing.
use mathlib.Core.Path.{◌≡◌, refl, sym, ap, ◌∙◌}
use mathlib.Core.Bool.{Bool, true, false, ◌&&◌, ◌||◌, and-false, and-true, or-true}
use mathlib.Core.List.{List, [], ◌∷◌}
use Rattle.std.specs.Prelude.{Option, Some, None}
use Rattle.std.specs.Char.{is_ascii_alphanumeric}
use Prim.Native.Nat.{ℕ, zero, suc, ◌+◌, ◌-◌, ◌≤◌, ◌<◌}
use native.Mathlib.Omega.{arith}
use native.Mathlib.Numerals.{add-one}
use lib.Dec.{leb, eqb}
use lib.ListN.{length, get_or, take, drop, drop_of_length-le}
use lib.Seq.{drop-cons}
use borrow.Author.Tests.{eq-eqb, ne_eqb, le-leb, lt-leb}
use Rattle.text.specs.Ascii.{line_feed, space}
use Rattle.text.specs.Lines.{Line, lines, line_at, put_first, fields, field, open_line, closed_line}
use Rattle.text.specs.Numbers.{is_digit}
use Rattle.text.specs.Reading.{line_here, past_line, skip}
use Rattle.text.proofs.Tests.{and_both, clash, some_if, none_if}
use Rattle.text.proofs.Lines.{with_byte, first_nil, first_feed, first_byte}
use Rattle.text.proofs.ReadingSteps.{past_feed, past_byte, past_end}
use Rattle.text.proofs.Reading.{past_lines}
use Rattle.model.proofs.ChartSound.{name_short}
use Rattle.model.specs.ClaimTokens.{is_capital, is_small}
use Rattle.model.specs.Chart.{longest_name, is_alphanumeric, all_alphanumeric, is_name, name_line, names_right, texts_of}
use Rattle.text.proofs.Places.{skip_none, skip_first}
use Rattle.chart.specs.Reading.{name_here, names_here}

-- THE LINE AT A PLACE, by the byte that stands there
module _ (s : List ℕ) (e : ℕ) where
  here_byte : e < length s → (get_or s e 0 ≡ line_feed → ⊥) → line_here s e ≡ with_byte (get_or s e 0) (line_here s (e + 1))
  here_byte h n = rw (add-one e, drop-cons s e 0 h) (first_byte (get_or s e 0) (drop (suc e) s) (ne_eqb (get_or s e 0) line_feed n))

  here_feed : e < length s → get_or s e 0 ≡ line_feed → line_here s e ≡ closed_line []
  here_feed h q = rw (drop-cons s e 0 h) (first_feed (get_or s e 0) (drop (suc e) s) (eq-eqb (get_or s e 0) line_feed q))

  here_end : length s ≤ e → line_here s e ≡ open_line []
  here_end h = rw (drop_of_length-le s h) first_nil

-- as std has it
pub alphanumeric_ascii : (b : ℕ) → is_alphanumeric b ≡ is_ascii_alphanumeric b
unfolding is_alphanumeric is_capital is_small is_digit
alphanumeric_ascii b = go (leb 48 b && leb b 57) (leb 65 b && leb b 90) (leb 97 b && leb b 122)
  where
    go : (d k l : Bool) → ((k || l) || d) ≡ ((d || k) || l)
    go true k l = simp or-true
    go false true l = refl
    go false false true = refl
    go false false false = refl

-- A NAME: the bytes from at to e are name bytes, and the rest of the line starts at e
pub record NameLeft (s : List ℕ) (at e : ℕ) : Type 0 where
  pub from : at ≤ e
  pub long : length (line_here s at).text ≡ (e - at) + length (line_here s e).text
  pub bytes : all_alphanumeric (line_here s at).text ≡ all_alphanumeric (line_here s e).text
  pub closed : (line_here s at).closed ≡ (line_here s e).closed
  pub past : past_line s at ≡ past_line s e

name_is : (l : Line) {c : Bool} {n : ℕ} {a : Bool} → l.closed ≡ c → length l.text ≡ n → all_alphanumeric l.text ≡ a → name_line l ≡ (c && ((leb 1 n && leb n longest_name) && a))
unfolding name_line is_name
name_is l p q r = rw (p, q, r) refl

not_named : (s : List ℕ) (at : ℕ) → name_line (line_here s at) ≡ false → None ≡ name_here s at
unfolding name_here
not_named s at h = rw h refl

module _ {s : List ℕ} {at e : ℕ} (g : NameLeft s at e) where
  pub name_more : e < length s → (get_or s e 0 ≡ line_feed → ⊥) → is_alphanumeric (get_or s e 0) ≡ true → NameLeft s at (e + 1)
  unfolding all_alphanumeric
  name_more h n t =
      let l = here_byte s e h n in
      record {
        from = omega (arith, g.from);
        long = omega (arith, g.from, g.long, ap (λ (x : Line). length x.text) l);
        bytes = g.bytes ∙ ap (λ (x : Line). all_alphanumeric x.text) l ∙ (rw t refl);
        closed = g.closed ∙ ap (λ (x : Line). x.closed) l;
        past = g.past ∙ past_byte s e h n;
      }

  pub name_torn : length s ≤ e → None ≡ name_here s at
  name_torn h = not_named s at (name_is (line_here s at) (g.closed ∙ ap (λ (x : Line). x.closed) (here_end s e h)) refl refl)

  pub name_wrong : e < length s → (get_or s e 0 ≡ line_feed → ⊥) → is_alphanumeric (get_or s e 0) ≡ false → None ≡ name_here s at
  unfolding all_alphanumeric
  name_wrong h n t =
      let a : all_alphanumeric (line_here s at).text ≡ false = g.bytes ∙ ap (λ (x : Line). all_alphanumeric x.text) (here_byte s e h n) ∙ (rw t refl) in
      not_named s at (name_is (line_here s at) refl refl a ∙ simp and-false refl)

  module _ (h : e < length s) (q : get_or s e 0 ≡ line_feed) where
    ended : name_line (line_here s at) ≡ (leb 1 (e - at) && leb (e - at) longest_name)
    unfolding all_alphanumeric
    ended =
        let l = here_feed s e h q in
        let n : length (line_here s at).text ≡ e - at = omega (arith, g.long, ap (λ (x : Line). length x.text) l) in
        name_is (line_here s at) (g.closed ∙ ap (λ (x : Line). x.closed) l) n (g.bytes ∙ ap (λ (x : Line). all_alphanumeric x.text) l)
        ∙ and-true (leb 1 (e - at) && leb (e - at) longest_name)

    pub name_empty : e ≡ at → None ≡ name_here s at
    name_empty z = not_named s at (ended ∙ (rw (lt-leb 1 (e - at) (omega arith)) refl))

    pub name_long : longest_name < e - at → None ≡ name_here s at
    name_long z = not_named s at (ended ∙ (rw (lt-leb (e - at) longest_name z, and-false) refl))

    pub name_whole : (e ≡ at → ⊥) → e - at ≤ longest_name → Some (e + 1) ≡ name_here s at
    unfolding name_here
    name_whole z k = rw (ended, le-leb 1 (e - at) (one z), le-leb (e - at) longest_name k, g.past, past_feed s e h q) refl
      where
        one : (e ≡ at → ⊥) → 1 ≤ e - at
        one z = omega (arith, g.from)

-- LINES: q of n are passed, and the next one is at here
pub record LinesLeft (s : List ℕ) (at n here q : ℕ) : Type 0 where
  pub within : q ≤ n
  pub place : skip (n - q) s here ≡ skip n s at

pub lines_start : (s : List ℕ) (at n : ℕ) {here : ℕ} → here ≡ at → LinesLeft s at n here 0
lines_start s at n e = let z : n - 0 ≡ n = omega arith in record { within = omega arith; place = rw (z, e) refl }

skip_end : (k : ℕ) (s : List ℕ) (at : ℕ) → length s ≤ at → skip k s at ≡ at
skip_end zero s at h = skip_none s at
skip_end (suc k) s at h = skip_first k s at ∙ rw (past_end s at h) (skip_end k s at h)

module _ {s : List ℕ} {at n here q : ℕ} (g : LinesLeft s at n here q) where
  pub lines_more : {z : ℕ} → q < n → z ≡ past_line s here → LinesLeft s at n z (q + 1)
  lines_more h e =
      let k : n - q ≡ suc (n - (q + 1)) = omega arith in
      record { within = omega arith; place = rw (e, ← skip_first (n - (q + 1)) s here, ← k) g.place }

  pub lines_end : n ≤ q → here ≡ skip n s at
  lines_end h = let z : n - q ≡ 0 = omega arith in sym (skip_none s here) ∙ (rw z at g.place)

  pub lines_out : length s ≤ here → here ≡ skip n s at
  lines_out h = sym (skip_end (n - q) s here h) ∙ g.place

-- NAME LINES: q of n have been read, and what is left decides as the whole does
pub record NamesLeft (s : List ℕ) (at n here q : ℕ) : Type 0 where
  pub way : LinesLeft s at n here q
  pub left : names_right (n - q) (lines (drop here s)) ≡ names_right n (lines (drop at s))

pub names_start : (s : List ℕ) (at n : ℕ) → NamesLeft s at n at 0
names_start s at n = let z : n - 0 ≡ n = omega arith in record { way = lines_start s at n refl; left = rw z refl }

module _ {s : List ℕ} {at n here q : ℕ} (g : NamesLeft s at n here q) where
  names_next : q < n → names_right n (lines (drop at s)) ≡ (name_line (line_here s here) && names_right (n - (q + 1)) (lines (drop (past_line s here) s)))
  unfolding names_right
  names_next h =
      let e : n - q ≡ suc (n - (q + 1)) = omega arith in
      sym g.left ∙ (rw (e, past_lines s here) refl)

  pub names_end : n ≤ q → Some here ≡ names_here n s at
  unfolding names_here
  names_end h =
      let z : n - q ≡ 0 = omega arith in
      let t : names_right n (lines (drop at s)) ≡ true = sym g.left ∙ (rw z (unfold names_right in refl)) in
      rw (t, ← lines_end g.way h) refl

  pub names_wrong : {r : Option ℕ} → q < n → r ≡ name_here s here → r ≡ None → None ≡ names_here n s at
  unfolding names_here name_here
  names_wrong h a b =
      let t : name_line (line_here s here) ≡ false = none_if (name_line (line_here s here)) _ (sym a ∙ b) in
      rw (names_next h, t) refl

  pub names_more : {z : ℕ} {r : Option ℕ} → q < n → r ≡ name_here s here → r ≡ Some z → NamesLeft s at n z (q + 1)
  unfolding name_here
  names_more {z} h a b =
      let t = some_if (name_line (line_here s here)) (sym a ∙ b) in
      record { way = lines_more g.way h (sym t.1); left = rw (← t.1) (sym (names_next h ∙ (rw t.0 refl))) }

-- A NAME has one field, which is the whole line
name_no_space : (b : ℕ) → is_alphanumeric b ≡ true → eqb b space ≡ false
name_no_space b h = ne_eqb b space (λ e. clash (is_alphanumeric b) h (rw e (unfold is_alphanumeric is_capital is_small is_digit in refl)))

one_field : (w : List ℕ) → all_alphanumeric w ≡ true → fields w ≡ w ∷ []
unfolding all_alphanumeric fields put_first
one_field [] h = refl
one_field (b ∷ w) h =
    let n = and_both (is_alphanumeric b) (all_alphanumeric w) h in
    rw (name_no_space b n.0, one_field w n.1) refl

pub record NamedLine (l : Line) : Type 0 where
  pub field : field l 0 ≡ l.text
  pub short : length l.text ≤ longest_name

pub named_line : (l : Line) → name_line l ≡ true → NamedLine l
unfolding name_line is_name field
named_line l h =
    let a = and_both l.closed ((leb 1 (length l.text) && leb (length l.text) longest_name) && all_alphanumeric l.text) h in
    let n = and_both (leb 1 (length l.text) && leb (length l.text) longest_name) (all_alphanumeric l.text) a.1 in
    record { field = rw (one_field l.text n.1) refl; short = name_short l h }

line_later : (ls : List Line) (q : ℕ) → line_at ls (suc q) ≡ line_at (drop 1 ls) q
unfolding line_at
line_later [] q = refl
line_later (l ∷ ls) q = refl

pub names_each : (k : ℕ) (ls : List Line) (q : ℕ) → q < k → names_right k ls ≡ true → name_line (line_at ls q) ≡ true
unfolding names_right
names_each zero ls q l h = absurd (omega arith)
names_each (suc k) ls zero l h = (and_both (name_line (line_at ls 0)) (names_right k (drop 1 ls)) h).0
names_each (suc k) ls (suc q) l h = rw (line_later ls q) (names_each k (drop 1 ls) q (omega arith) (and_both (name_line (line_at ls 0)) (names_right k (drop 1 ls)) h).1)

pub text_at : (m : ℕ) (ls : List Line) (q : ℕ) → q < m → get_or (texts_of (take m ls)) q [] ≡ (line_at ls q).text
unfolding texts_of line_at
text_at zero ls q l = absurd (omega arith)
text_at (suc m) [] q l = refl
text_at (suc m) (x ∷ ls) zero l = refl
text_at (suc m) (x ∷ ls) (suc q) l = text_at m ls q (omega arith)
