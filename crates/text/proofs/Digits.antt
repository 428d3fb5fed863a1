-- Laws of the digits that stand in front of a text: a number that is read digit by digit is the field there. Assumes nothing.
use mathlib.Core.Path.{◌≡◌, refl, sym, ap, ◌∙◌}
use mathlib.Core.Bool.{Bool, true, false, ◌&&◌, cond, and-false, or-true}
use mathlib.Core.List.{List, [], ◌∷◌, ◌++◌, append-nil}
use Rattle.std.specs.Prelude.{Option, Some, None}
use Rattle.std.specs.Char.{is_ascii_digit}
use Prim.Native.Nat.{ℕ, zero, suc, ◌+◌, ◌*◌, ◌-◌, ◌^◌, ◌≤◌, ◌<◌, min, max}
use native.Mathlib.Omega.{arith}
use native.Mathlib.Numerals.{add-one}
use native.Mathlib.Nat.{pow-succ', pow-le-pow_right}
use lib.Dec.{leb, eqb, lit<}
use lib.ListN.{length, get_or, drop, drop_of_length-le, length-drop, length-append, get_or-eq_default}
use lib.Seq.{drop-cons, drop-drop, get_or-drop}
use borrow.Author.Tests.{le-leb, lt-leb, eq-eqb, ne_eqb, leb-true, leb-false}
use Rattle.text.specs.Ascii.{digit_0, digit_9}
use Rattle.text.specs.Numbers.{most_digits, is_digit, all_digits, no_leading_zero, is_number, value, value_from}
use Rattle.text.specs.Reading.{field_here, run, run_here, DigitsRead, one_number, digits_here, is_separator, number_in, number_before}
use Rattle.text.specs.declared.read.Row.{Row}
use Rattle.text.proofs.Tests.{and_both, clash, some_if, none_if}
use Rattle.text.proofs.Lines.{field_in, field_nil, field_stop, field_byte, ended}

-- THE RUN of digits, k at most
pub digit_low : (b : ℕ) → is_digit b ≡ true → digit_0 ≤ b
unfolding is_digit
digit_low b h = leb-true digit_0 b (and_both (leb digit_0 b) (leb b digit_9) h).0

pub digit_high : (b : ℕ) → is_digit b ≡ true → b ≤ digit_9
unfolding is_digit
digit_high b h = leb-true b digit_9 (and_both (leb digit_0 b) (leb b digit_9) h).1

-- as std has it
pub is_digit_ascii : (b : ℕ) → is_digit b ≡ is_ascii_digit b
unfolding is_digit
is_digit_ascii b = refl

-- a digit is no separator
digit_inside : (b : ℕ) → is_digit b ≡ true → is_separator b ≡ false
digit_inside b h =
    let low : digit_0 ≤ b = digit_low b h in
    rw (ne_eqb b 32 (λ e. omega arith)) (ne_eqb b 10 (λ e. omega arith))

unfoldable pub starts_digit : List ℕ → Bool
starts_digit [] = false
starts_digit (b ∷ bs) = is_digit b

pub record Run (k : ℕ) (bs : List ℕ) : Type 0 where
  pub digits : all_digits (run k bs) ≡ true
  pub few : length (run k bs) ≤ k
  pub within : length (run k bs) ≤ length bs
  pub field : field_in bs ≡ run k bs ++ field_in (drop (length (run k bs)) bs)
  pub stops : length (run k bs) < k → starts_digit (drop (length (run k bs)) bs) ≡ false
  pub starts : 1 ≤ length (run k bs) → get_or (run k bs) 0 0 ≡ get_or bs 0 0

run_go : (k b : ℕ) (bs : List ℕ) (t : Bool) → is_digit b ≡ t → Run k bs → Run (suc k) (b ∷ bs)
unfolding run all_digits starts_digit
run_go k b bs true e h =
    record {
      digits = rw (e, e) h.digits;
      few = rw e (omega (arith, h.few));
      within = rw e (omega (arith, h.within));
      field = rw e (field_byte b bs (digit_inside b e) ∙ ap (λ (w : List ℕ). b ∷ w) h.field);
      stops = rw e (λ l. h.stops (omega arith));
      starts = rw e (λ l. refl);
    }
run_go k b bs false e h =
    record { digits = rw e; few = rw e (omega arith); within = rw e (omega arith); field = rw e refl; stops = rw e (λ l. e); starts = rw e (λ l. absurd (omega arith)) }

pub run_laws : (k : ℕ) (bs : List ℕ) → Run k bs
unfolding run all_digits starts_digit
run_laws zero bs =
    record { digits = refl; few = omega arith; within = omega arith; field = refl; stops = λ l. absurd (omega arith); starts = λ l. absurd (omega arith) }
run_laws (suc k) [] =
    record { digits = refl; few = omega arith; within = omega arith; field = refl; stops = λ l. refl; starts = λ l. absurd (omega arith) }
run_laws (suc k) (b ∷ bs) = run_go k b bs (is_digit b) refl (run_laws k bs)

-- THE FIELD is the run where nothing or a separator follows it, and else no number
field_ended : (r : List ℕ) → ended r ≡ true → field_in r ≡ []
unfolding ended
field_ended [] h = field_nil
field_ended (b ∷ r) h = field_stop b r h

pub run_field : (bs : List ℕ) → ended (drop (length (run most_digits bs)) bs) ≡ true → field_in bs ≡ run most_digits bs
run_field bs h = (run_laws most_digits bs).field ∙ rw (field_ended (drop (length (run most_digits bs)) bs) h) (append-nil (run most_digits bs))

all_digits_other : (w : List ℕ) (b : ℕ) (g : List ℕ) → is_digit b ≡ false → all_digits (w ++ b ∷ g) ≡ false
unfolding all_digits
all_digits_other [] b g h = rw h
all_digits_other (x ∷ w) b g h = rw (all_digits_other w b g h, and-false)

no_number_go : (w : List ℕ) (b : ℕ) (g : List ℕ) (t : Bool) → leb most_digits (length w) ≡ t → (length w < most_digits → is_digit b ≡ false) → is_number (w ++ b ∷ g) ≡ false
unfolding is_number
no_number_go w b g true e h =
    let l : most_digits < length (w ++ b ∷ g) = omega (arith, length-append w (b ∷ g), leb-true most_digits (length w) e) in
    rw (lt-leb (length (w ++ b ∷ g)) most_digits l, and-false)
no_number_go w b g false e h = rw (all_digits_other w b g (h (leb-false most_digits (length w) e)), and-false)

run_other_go : (w r : List ℕ) → ended r ≡ false → (length w < most_digits → starts_digit r ≡ false) → is_number (w ++ field_in r) ≡ false
unfolding ended starts_digit
run_other_go w [] h d = cc
run_other_go w (b ∷ r) h d = rw (field_byte b r h) (no_number_go w b (field_in r) (leb most_digits (length w)) refl d)

pub run_other : (bs : List ℕ) → ended (drop (length (run most_digits bs)) bs) ≡ false → is_number (field_in bs) ≡ false
run_other bs h =
    rw (run_laws most_digits bs).field (run_other_go (run most_digits bs) (drop (length (run most_digits bs)) bs) h (run_laws most_digits bs).stops)

run_number_go : (bs : List ℕ) (t : Bool) → ended (drop (length (run most_digits bs)) bs) ≡ t → is_number (run most_digits bs) ≡ false → is_number (field_in bs) ≡ false
run_number_go bs true e h = rw (run_field bs e) h
run_number_go bs false e h = run_other bs e

-- so the field is no number where the run is none
pub run_no_number : (bs : List ℕ) → is_number (run most_digits bs) ≡ false → is_number (field_in bs) ≡ false
run_no_number bs h = run_number_go bs (ended (drop (length (run most_digits bs)) bs)) refl h

run_nil : (k : ℕ) → run k [] ≡ []
unfolding run
run_nil zero = refl
run_nil (suc k) = refl

run_zero : (bs : List ℕ) → run 0 bs ≡ []
unfolding run
run_zero bs = refl

-- THE LOOP has read the digits from at to e, of the value v
pub record ReadingDigits (s : List ℕ) (at v e : ℕ) : Type 0 where
  pub start : at ≤ e
  pub few : e ≤ at + most_digits
  pub ends : e + length (run (at + most_digits - e) (drop e s)) ≡ at + length (run_here s at)
  pub worth : value_from v (run (at + most_digits - e) (drop e s)) ≡ value (run_here s at)
  pub small : v < 10 ^ (e - at)

pub digits_none : (s : List ℕ) (at : ℕ) → ReadingDigits s at 0 at
unfolding value
digits_none s at =
    let n : at + most_digits - at ≡ most_digits = omega arith in
    let z : at - at ≡ 0 = omega arith in
    record { start = omega arith; few = omega arith; ends = rw n; worth = rw n; small = rw z (lit< tt) }

module _ {s : List ℕ} {at v e : ℕ} (g : ReadingDigits s at v e) where
  run_more : e < at + most_digits → e < length s → is_digit (get_or s e 0) ≡ true
      → run (at + most_digits - e) (drop e s) ≡ get_or s e 0 ∷ run (at + most_digits - (e + 1)) (drop (e + 1) s)
  unfolding run
  run_more l h d =
      let n : at + most_digits - e ≡ suc (at + most_digits - (e + 1)) = omega arith in
      rw (n, drop-cons s e 0 h, d, add-one e)

  run_stops : e < at + most_digits → e < length s → is_digit (get_or s e 0) ≡ false → run (at + most_digits - e) (drop e s) ≡ []
  unfolding run
  run_stops l h d =
      let n : at + most_digits - e ≡ suc (at + most_digits - (e + 1)) = omega arith in
      rw (n, drop-cons s e 0 h, d)

  -- one digit more
  pub digits_more : e < min (at + most_digits) (length s) → is_digit (get_or s e 0) ≡ true → ReadingDigits s at (10 * v + (get_or s e 0 - 48)) (e + 1)
  unfolding value_from
  digits_more l d =
      let q = run_more (omega arith) (omega arith) d in
      let n : e + 1 - at ≡ suc (e - at) = omega (arith, g.start) in
      record {
        start = omega (arith, g.start);
        few = omega arith;
        ends = omega (arith, g.ends, ap length q);
        worth = rw q at g.worth;
        small = rw (n, pow-succ' 10 (e - at)) (omega (arith, g.small, digit_low (get_or s e 0) d, digit_high (get_or s e 0) d));
      }

  -- no digit follows
  digits_end : run (at + most_digits - e) (drop e s) ≡ [] → DigitsRead s at e v
  unfolding value_from
  digits_end q = record { ends = omega (arith, g.ends, ap length q); worth = sym (rw q at g.worth) }

  pub digits_stop : e < min (at + most_digits) (length s) → is_digit (get_or s e 0) ≡ false → DigitsRead s at e v
  digits_stop l d = digits_end (run_stops (omega arith) (omega arith) d)

  digits_past : min (at + most_digits) (length s) ≤ e → DigitsRead s at e v
  digits_past l = digits_end (go (leb (length s) e) refl)
    where
      go : (t : Bool) → leb (length s) e ≡ t → run (at + most_digits - e) (drop e s) ≡ []
      go true h = rw (drop_of_length-le s (leb-true (length s) e h)) (run_nil (at + most_digits - e))
      go false h = let z : at + most_digits - e ≡ 0 = omega (arith, leb-false (length s) e h) in rw z (run_zero (drop e s))

  pub digits_last : {last : ℕ} → last ≡ min (at + most_digits) (length s) → (at ≤ last → e ≤ last) → last ≤ e → DigitsRead s at (max at last) v
  digits_last {last} h near far = rw (go (leb at (length s)) refl) (digits_past (omega arith))
    where
      go : (t : Bool) → leb at (length s) ≡ t → max at last ≡ e
      go true k = let l = leb-true at (length s) k in omega (arith, near (omega arith))
      go false k =
          omega (arith, leb-false at (length s) k, g.start, g.ends, (run_laws most_digits (drop at s)).within, length-drop at s)

  -- nine digits fit
  pub digits_fit : e < min (at + most_digits) (length s) → v < 100000000
  digits_fit l = omega (arith, g.small, pow-le-pow_right {n = 10} (lit< tt) (small_power))
    where
      small_power : e - at ≤ 8
      small_power = omega (arith, g.start)

-- WHAT THE RUN SAYS, by its end and its first byte
module _ {s : List ℕ} {at e v : ℕ} (g : DigitsRead s at e v) where
  pub whole_within : at < e → at < length s
  whole_within h = omega (arith, g.ends, (run_laws most_digits (drop at s)).within, length-drop at s)

  pub whole_none : e ≡ at → None ≡ digits_here s at
  unfolding digits_here is_number
  whole_none h = sym (rw (lt-leb 1 (length (run_here s at)) (omega (arith, g.ends))))

  whole_read : is_number (run_here s at) ≡ true → Some (one_number v e) ≡ digits_here s at
  unfolding digits_here
  whole_read h = sym (rw (h, g.worth, g.ends))

  pub whole_one : e - at ≡ 1 → Some (one_number v e) ≡ digits_here s at
  unfolding is_number no_leading_zero
  whole_one h =
      let n : length (run_here s at) ≡ 1 = omega (arith, g.ends) in
      whole_read (rw (n, (run_laws most_digits (drop at s)).digits))

  whole_first : (e ≡ at → ⊥) → get_or (run_here s at) 0 0 ≡ get_or s at 0
  whole_first h = (run_laws most_digits (drop at s)).starts (omega (arith, g.ends)) ∙ get_or-drop at s 0 0 ∙ ap (λ (i : ℕ). get_or s i 0) (omega arith)

  pub whole_padded : (e ≡ at → ⊥) → (e - at ≡ 1 → ⊥) → get_or s at 0 ≡ digit_0 → None ≡ digits_here s at
  unfolding digits_here is_number no_leading_zero
  whole_padded h m z =
      let n : eqb (length (run_here s at)) 1 ≡ false = ne_eqb (length (run_here s at)) 1 (λ q. m (omega (arith, g.ends))) in
      sym (rw (n, whole_first h, z, and-false, and-false))

  pub whole_many : (e ≡ at → ⊥) → (get_or s at 0 ≡ digit_0 → ⊥) → Some (one_number v e) ≡ digits_here s at
  unfolding is_number no_leading_zero
  whole_many h z =
      let r = run_laws most_digits (drop at s) in
      whole_read
      (rw
      (le-leb 1 (length (run_here s at)) (omega (arith, g.ends)), le-leb (length (run_here s at)) most_digits r.few, r.digits, whole_first h, ne_eqb (get_or s at 0) digit_0 z, or-true))

no_separator : (stop : ℕ) → 0 ≡ stop → is_separator stop ≡ true → ⊥
no_separator stop e h = let z : false ≡ true = rw (← e) at h in let n : ◌≡◌ {A = ℕ} 0 1 = cc in omega arith

-- FROM A RUN TO THE FIELD at a place
pub record RunRead (s : List ℕ) (at v e : ℕ) : Type 0 where
  pub number : is_number (run_here s at) ≡ true
  pub worth : value (run_here s at) ≡ v
  pub ends : at + length (run_here s at) ≡ e

-- of a row of one number: the number
abbrev pub lone : Row 1 → ℕ
lone r = get_or r.numbers 0 0

pub run_read : {s : List ℕ} {at : ℕ} {r : Option (Row 1)} {x : Row 1} → r ≡ digits_here s at → r ≡ Some x → RunRead s at (lone x) x.next
unfolding digits_here
run_read {s} {at} p q =
    let g = some_if (is_number (run_here s at)) (sym p ∙ q) in
    record { number = g.0; worth = ap lone g.1; ends = ap (λ (x : Row 1). x.next) g.1 }

-- where the digits are no number, the field is none
module _ (s : List ℕ) (at : ℕ) {r : Option (Row 1)} (p : r ≡ digits_here s at) (q : r ≡ None) where
  run_fault : is_number (field_here s at) ≡ false
  unfolding digits_here
  run_fault = run_no_number (drop at s) (none_if (is_number (run_here s at)) _ (sym p ∙ q))

  pub before_none : (stop : ℕ) → None ≡ number_before s at stop
  unfolding number_before
  before_none stop = sym (rw run_fault)

-- whether the field ends at a place
ended_at : (s : List ℕ) (e : ℕ) → e < length s → ended (drop e s) ≡ is_separator (get_or s e 0)
unfolding ended
ended_at s e h = rw (drop-cons s e 0 h)

module _ {s : List ℕ} {at v e : ℕ} (g : RunRead s at v e) where
  run_rest : drop (length (run_here s at)) (drop at s) ≡ drop e s
  run_rest = drop-drop (length (run_here s at)) at s ∙ ap (λ (i : ℕ). drop i s) g.ends

  run_is_field : ended (drop e s) ≡ true → field_here s at ≡ run_here s at
  run_is_field h = run_field (drop at s) (ap ended run_rest ∙ h)

  run_no_field : ended (drop e s) ≡ false → is_number (field_here s at) ≡ false
  run_no_field h = run_other (drop at s) (ap ended run_rest ∙ h)

  pub before_is : (stop : ℕ) → e < length s → is_separator stop ≡ true → get_or s e 0 ≡ stop → Some (one_number v (e + 1)) ≡ number_before s at stop
  unfolding number_before
  before_is stop l h q =
      let f = run_is_field (ended_at s e l ∙ rw q h) in
      sym (rw (f, g.number, g.ends, eq-eqb (get_or s e 0) stop q, g.worth) (ap (λ (z : ℕ). Some (one_number v z)) (omega (arith, g.ends))))

  before_go : (stop : ℕ) (t : Bool) → ended (drop e s) ≡ t → eqb (get_or s e 0) stop ≡ false → None ≡ number_before s at stop
  unfolding number_before
  before_go stop true h q = sym (rw (run_is_field h, g.ends, q, and-false))
  before_go stop false h q = sym (rw (run_no_field h))

  pub before_other : (stop : ℕ) → (get_or s e 0 ≡ stop → ⊥) → None ≡ number_before s at stop
  before_other stop q = before_go stop (ended (drop e s)) refl (ne_eqb (get_or s e 0) stop q)

  pub before_end : (stop : ℕ) → is_separator stop ≡ true → length s ≤ e → None ≡ number_before s at stop
  before_end stop h l = before_other stop (λ q. no_separator stop (sym (get_or-eq_default s 0 l) ∙ q) h)

-- A WHOLE PART is a number where the digits in front are one and nothing follows them
run_whole : (k : ℕ) (w : List ℕ) → all_digits w ≡ true → length w ≤ k → run k w ≡ w
unfolding run all_digits
run_whole zero [] d h = refl
run_whole zero (b ∷ w) d h = absurd (omega arith)
run_whole (suc k) [] d h = refl
run_whole (suc k) (b ∷ w) d h =
    let q = and_both (is_digit b) (all_digits w) d in
    rw q.0 (ap (λ (l : List ℕ). b ∷ l) (run_whole k w q.1 (omega arith)))

run_full : (k : ℕ) (w : List ℕ) → length w ≤ length (run k w) → run k w ≡ w
unfolding run
run_full zero [] h = refl
run_full zero (b ∷ w) h = absurd (omega arith)
run_full (suc k) [] h = refl
run_full (suc k) (b ∷ w) h = go (is_digit b) refl h (λ l. run_full k w l)
  where
    go : (t : Bool) → is_digit b ≡ t → suc (length w) ≤ length (cond t (b ∷ run k w) []) → (length w ≤ length (run k w) → run k w ≡ w) → cond t (b ∷ run k w) [] ≡ b ∷ w
    go true e l ih = ap (λ (x : List ℕ). b ∷ x) (ih (omega arith))
    go false e l ih = absurd (omega arith)

number_run : (w : List ℕ) → is_number w ≡ true → run most_digits w ≡ w
unfolding is_number
number_run w h =
    let p = and_both (leb 1 (length w) && leb (length w) most_digits) (all_digits w && no_leading_zero w) h in
    let few = (and_both (leb 1 (length w)) (leb (length w) most_digits) p.0).1 in
    run_whole most_digits w (and_both (all_digits w) (no_leading_zero w) p.1).0 (leb-true (length w) most_digits few)

no_number : (w : List ℕ) → (is_number w ≡ true → ⊥) → None ≡ number_in w
unfolding number_in
no_number w h = go (is_number w) refl
  where
    go : (t : Bool) → is_number w ≡ t → None ≡ cond t (Some (value w)) None
    go true e = absurd (h e)
    go false e = refl

pub part_none : (w : List ℕ) {r : Option (Row 1)} → r ≡ digits_here w 0 → r ≡ None → None ≡ number_in w
unfolding digits_here
part_none w p q = no_number w (λ h. clash _ (ap is_number (number_run w h) ∙ h) (none_if (is_number (run_here w 0)) _ (sym p ∙ q)))

module _ {w : List ℕ} {v e : ℕ} (g : RunRead w 0 v e) where
  pub part_longer : e < length w → None ≡ number_in w
  part_longer l = no_number w (λ h. omega (arith, g.ends, ap length (number_run w h)))

  pub part_number : length w ≤ e → Some v ≡ number_in w
  unfolding number_in
  part_number l = let f = run_full most_digits w (omega (arith, g.ends)) in sym (rw (rw f at g.number, rw f at g.worth))
