-- Names as parts of the texts, and the listing line by line. Assumes nothing.
use mathlib.Core.Path.{◌≡◌, refl, sym, ap, ◌∙◌}
use mathlib.Core.Bool.{Bool, true, false}
use mathlib.Core.List.{List, [], ◌∷◌, ◌++◌, append_assoc}
use Prim.Native.Nat.{ℕ, ◌+◌, ◌-◌, ◌/◌, ◌%◌, ◌≤◌, ◌<◌, min}
use native.Mathlib.Omega.{arith}
use lib.Dec.{leb}
use lib.ListN.{length, get_or, set, take, drop, length-drop, drop_of_length-le}
use lib.Seq.{take_all, take-length, drop-length, get_or-set_same, get_or-set_other}
use borrow.Author.Tests.{leb-true, leb-false, eq-eqb, ne_eqb}
use Rattle.text.specs.Ascii.{space, line_feed}
use Rattle.text.specs.Lines.{lines, joined, text}
use Rattle.text.specs.Numbers.{decimal, numbers_line}
use Rattle.text.specs.Reading.{line_here, field_here, past_line, skip}
use Rattle.text.specs.Writing.{Writes, Puts}
use Rattle.text.specs.declared.write.Writer.{Writer}
use Rattle.text.proofs.Tests.{Same, same?, same, other, and_both, clash}
use Rattle.text.proofs.Places.{skip_none, skip_last}
use Rattle.text.proofs.Reading.{Row, NoRow, row_rest, no_lines, some_lines, lines_here}
use Rattle.text.proofs.Chains.{puts, puts_as, puts_then, Still, still_step, still_end}
use Rattle.text.proofs.Rows.{text_append}
use Rattle.model.specs.Graph.{Edge}
use Rattle.model.specs.CaseFile.{column}
use Rattle.claim.specs.Cells.{name_cell, length_cell}
use Rattle.chart.specs.Reading.{name_place}
use Rattle.product.specs.Tables.{end_of}
use Rattle.product.specs.Names.{state_text, PlacesFilled, row_by, named_row, rows_by, all_single, StepsWritten}
use Rattle.product.specs.declared.steps.Names.{Names}

-- A PART cut at the text's end
by_min : (f : ℕ → List ℕ) (n k : ℕ) → (k ≤ n → f k ≡ f n) → f (min n k) ≡ f n
by_min f n k past = go (leb n k) refl
  where
    go : (b : Bool) → leb n k ≡ b → f (min n k) ≡ f n
    go true e = let m : min n k ≡ n = omega (arith, leb-true n k e) in rw m refl
    go false e = let m : min n k ≡ k = omega (arith, leb-false n k e) in rw m (past (omega (arith, leb-false n k e)))

take_min : (n : ℕ) (l : List ℕ) → take (min n (length l)) l ≡ take n l
take_min n l = by_min (λ i. take i l) n (length l) (λ h. take-length l ∙ sym (take_all n l h))

drop_min : (n : ℕ) (l : List ℕ) → drop (min n (length l)) l ≡ drop n l
drop_min n l = by_min (λ i. drop i l) n (length l) (λ h. drop-length l ∙ sym (drop_of_length-le l {i = n} h))

pub cut : (l : List ℕ) (at many s n : ℕ) → s ≡ min at (length l) → n ≡ min many (length l - s) → take (s + n - s) (drop s l) ≡ take many (drop at l)
cut l at many s n p q =
    let e : s + n - s ≡ min many (length (drop s l)) = omega (arith, length-drop s l) in
    let d : drop s l ≡ drop at l = rw p (drop_min at l) in
    rw e (take_min many (drop s l) ∙ ap (λ (x : List ℕ). take many x) d)

-- A LINE
module _ (k cs : List ℕ) (s : ℕ) {a : ℕ} (p : a ≡ get_or cs (name_cell s) 0) where
  pub state_number : {w v : Writer} → a ≡ 0 → Writes (decimal s) w v → Puts (state_text k cs s) w v
  unfolding state_text
  state_number e w = rw (eq-eqb (get_or cs (name_cell s) 0) 0 (sym p ∙ e)) (puts w)

  pub state_name : {n : ℕ} {b : List ℕ} {w v : Writer} → (a ≡ 0 → ⊥) → n ≡ get_or cs (length_cell s) 0 → b ≡ take n (drop a k) → Writes b w v → Puts (state_text k cs s) w v
  unfolding state_text
  state_name n q e w = rw (ne_eqb (get_or cs (name_cell s) 0) 0 (λ z. n (p ∙ z)), ← p, ← q) (puts_as e (puts w))

line_parts : (a b : List ℕ) → a ++ (space ∷ []) ++ b ++ (line_feed ∷ []) ≡ text ((a ∷ b ∷ []) ∷ [])
unfolding joined text
line_parts a b = simp append_assoc

pub step_puts : (n : Names) (v : ℕ) {p : ℕ} {m : List ℕ} {o x y w z : Writer} → p ≡ get_or n.places.now (v / n.states) 0 → m ≡ field_here n.chart.now p
    → Writes m o x → Writes (space ∷ []) x y → Puts (state_text n.claim.now n.cells.now (v % n.states)) y w → Writes (line_feed ∷ []) w z
    → Puts (text (named_row n v ∷ [])) o z
unfolding row_by
step_puts n v {p} q e f g l c =
    rw (← q) (puts_as (line_parts (field_here n.chart.now p) (state_text n.claim.now n.cells.now (v % n.states))) (puts_then (puts_then (puts_then (puts_as e (puts f)) (puts g)) l) (puts c)))

-- THE PLACES of the names below q
pub record Placing (s now : List ℕ) (at q : ℕ) : Type 0 where
  pub here : at ≡ name_place s q
  pub done : (i : ℕ) → i < q → get_or now i 0 ≡ name_place s i

pub placing_start : (s ps : List ℕ) {at : ℕ} → at ≡ skip 3 s 0 → Placing s ps at 0
placing_start s ps e = record { here = e ∙ sym (skip_none s (skip 3 s 0)); done = λ i l. absurd (omega arith) }

pub placing_next : {s now : List ℕ} {at next q : ℕ} → Placing s now at q → q < length now → next ≡ past_line s at → Placing s (set now q at) next (q + 1)
placing_next {s} {now} {at} {next} {q} d l e =
    record {
      here = e ∙ ap (past_line s) d.here ∙ sym (skip_last q s (skip 3 s 0));
      done = λ i h. go i h (same? i q);
    }
  where
    go : (i : ℕ) → i < q + 1 → Same i q → get_or (set now q at) i 0 ≡ name_place s i
    go i h (same x) = ap (λ (j : ℕ). get_or (set now q at) j 0) x ∙ get_or-set_same now q at 0 l ∙ d.here ∙ ap (name_place s) (sym x)
    go i h (other n) = get_or-set_other now q i at 0 n ∙ d.done i (omega (arith, n))

pub placing_end : {s now : List ℕ} {at q : ℕ} → Placing s now at q → length now ≤ q → PlacesFilled s now
placing_end d h = record { at = λ i l. d.done i (omega arith) }

-- THE LINES: what is left of them from place `here` of the answer on
abbrev rows_from : (row : ℕ → List (List ℕ)) → (answer : List ℕ) (ds : List Edge) → (here v : ℕ) → List ℕ
rows_from row s ds here v = text (rows_by row ds v (column 0 (lines (drop here s))))

pub record StepsLeft (row : ℕ → List (List ℕ)) (s : List ℕ) (at v : ℕ) (ds : List Edge) (here w : ℕ) (o z : Writer) : Type 0 where
  pub same : z.output.ghost_name ≡ o.output.ghost_name
  pub left : all_single (lines (drop at s)) ≡ true → (all_single (lines (drop here s)) ≡ true) × Still (rows_from row s ds at v) o (rows_from row s ds here w) z

pub steps_less : {s : List ℕ} {here e next : ℕ} → here < length s → Row s here (e ∷ []) next → length (lines (drop next s)) < length (lines (drop here s))
steps_less {s} {here} h g = omega (arith, ap length (row_rest g), length-drop 1 (lines (drop here s)), some_lines s here h)

module _ {row : ℕ → List (List ℕ)} {s : List ℕ} {at v : ℕ} {ds : List Edge} {here w : ℕ} {o z : Writer} (d : StepsLeft row s at v ds here w o z) where
  pub steps_end : length s ≤ here → StepsWritten row s at v ds o z
  unfolding text rows_by column
  steps_end h = record { lines = λ a. still_end (d.left a).1 (rw (no_lines s here h) refl) }

  module _ (h : here < length s) where
    right : all_single (lines (drop at s)) ≡ true → (numbers_line 1 (line_here s here) ≡ true) × (all_single (drop 1 (lines (drop here s))) ≡ true)
    unfolding all_single
    right a = and_both (numbers_line 1 (line_here s here)) (all_single (drop 1 (lines (drop here s)))) (rw (lines_here s here h) at (d.left a).0)

    pub steps_torn : NoRow 1 s here → StepsWritten row s at v ds o z
    steps_torn n = record { lines = λ a. clash (numbers_line 1 (line_here s here)) (right a).0 n.none }

    pub steps_on : {e next u : ℕ} {y : Writer} → Row s here (e ∷ []) next → Puts (text (row w ∷ [])) z y → y.output.ghost_name ≡ z.output.ghost_name → u ≡ end_of ds e w
        → StepsLeft row s at v ds next u o y
    steps_on {e} {next} {u} {y} g p n q = record { same = n ∙ d.same; left = λ a. (rw (row_rest g) (right a).1, still_step (d.left a).1 line p) }
      where
        walk : column 0 (lines (drop here s)) ≡ e ∷ column 0 (lines (drop next s))
        walk = unfold column in (rw (lines_here s here h, g.are 0 (omega arith), row_rest g) refl)

        line : rows_from row s ds here w ≡ text (row w ∷ []) ++ rows_from row s ds next u
        line = unfold rows_by in (ap (λ (es : List ℕ). text (rows_by row ds w es)) walk ∙ rw q (text_append (row w ∷ []) (rows_by row ds (end_of ds e w) (column 0 (lines (drop next s))))))
