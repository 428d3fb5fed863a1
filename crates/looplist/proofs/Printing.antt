-- From what the run by a list says to what is printed. Assumes nothing.
use mathlib.Core.Path.{◌≡◌, refl, sym, ap}
use mathlib.Core.Bool.{Bool, true, false, cond}
use mathlib.Core.List.{List, [], ◌∷◌, ◌++◌, append-nil}
use Prim.Native.Nat.{ℕ, zero, suc, ◌+◌, ◌≤◌}
use native.Mathlib.Omega.{arith}
use lib.Dec.{eqb}
use lib.ListN.{length, take, drop, length-append}
use lib.Seq.{take-append_seam, length-take-le}
use lib.IntN.{ℤ}
use borrow.Author.Tests.{ne_eqb}
use Rattle.text.specs.Ascii.{ascii}
use Rattle.text.specs.Lines.{text, joined}
use Rattle.text.specs.Numbers.{decimal}
use Rattle.std.specs.Prelude.{Some}
use Rattle.text.specs.declared.write.Writer.{Writer}
use Rattle.text.specs.Writing.{Writes, Puts, Chain, written}
use Rattle.text.proofs.Chains.{puts, puts_then, puts_as}
use Rattle.text.proofs.Decimals.{decimal_most}
use Rattle.model.specs.Case.{Case, least_output, least_work}
use Rattle.model.specs.CaseFile.{first_of, case_refusal, case_in, run_case}
use Rattle.model.specs.Run.{Tallies, no_tallies, State, has_ended, by_list}
use Rattle.model.specs.Answer.{lasso_word, empty_word, answer}
use Rattle.model.specs.Entry.{acts_refusal, list_refusal, in_front, tallies_of, RunSays, ListSays}
use Rattle.model.specs.declared.Outcome.{Outcome}
use Rattle.model.proofs.ActRules.{count_few}
use Rattle.desk.proofs.Buffers.{long_buffers}
use Rattle.desk.specs.Lines.{count_line}
use Rattle.desk.proofs.Writing.{puts_shows, between_puts}
use Rattle.looplist.specs.Printing.{verdict_word, verdict_line, tally_lines, head, head_room, page, printed}

-- A NUMBER BETWEEN WORDS is no longer than the words and the longest number, and shows where there is room for them
between_short : (a : List ℕ) (v : ℕ) (b : List ℕ) → length (a ++ decimal v ++ b) ≤ length a + 10 + length b
between_short a v b = omega (arith, length-append (a ++ decimal v) b, length-append a (decimal v), decimal_most v)

pub between_shows : (a : List ℕ) (v : ℕ) (b : List ℕ) {w u : Writer} → Chain (a ∷ decimal v ∷ b ∷ []) w u → w.end ≡ Some 0 → length a + 10 + length b ≤ length w.output.now → written u ≡ a ++ decimal v ++ b
between_shows a v b c e h = puts_shows (between_puts a v b c) e (omega (arith, between_short a v b))

-- THE LINE OF THE VERDICT
lasso_line : (v : ℕ) → v ≡ 1 → ascii "verdict lasso" ++ (10 ∷ []) ≡ verdict_line v
unfolding verdict_line verdict_word text joined
lasso_line v e = sym (rw e refl)

empty_line : (v : ℕ) → v ≡ 2 → ascii "verdict empty" ++ (10 ∷ []) ≡ verdict_line v
unfolding verdict_line verdict_word text joined
empty_line v e = sym (rw e refl)

none_line : (v : ℕ) → (v ≡ 1 → ⊥) → (v ≡ 2 → ⊥) → ascii "verdict none" ++ (10 ∷ []) ≡ verdict_line v
unfolding verdict_line verdict_word text joined
none_line v n m = sym (rw (ne_eqb v 1 n, ne_eqb v 2 m) refl)

module _ (v : ℕ) {w u : Writer} where
  pub writes_lasso : v ≡ 1 → Writes (ascii "verdict lasso" ++ (10 ∷ [])) w u → Puts (verdict_line v) w u
  writes_lasso e p = puts_as (lasso_line v e) (puts p)

  pub writes_empty : v ≡ 2 → Writes (ascii "verdict empty" ++ (10 ∷ [])) w u → Puts (verdict_line v) w u
  writes_empty e p = puts_as (empty_line v e) (puts p)

  pub writes_none : (v ≡ 1 → ⊥) → (v ≡ 2 → ⊥) → Writes (ascii "verdict none" ++ (10 ∷ [])) w u → Puts (verdict_line v) w u
  writes_none n m p = puts_as (none_line v n m) (puts p)

verdict_short : (v : ℕ) → length (verdict_line v) ≤ 14
unfolding verdict_line verdict_word text joined
verdict_short v = go (eqb v 1) (eqb v 2)
  where
    go : (a b : Bool) → length (text ((ascii "verdict" ∷ cond a lasso_word (cond b empty_word (ascii "none")) ∷ []) ∷ [])) ≤ 14
    go true b = omega arith
    go false true = omega arith
    go false false = omega arith

-- THE HEAD, as it is written
abbrev counted : (name : List ℕ) → (count : ℕ) → List ℕ
counted s n = s ++ decimal n ++ (10 ∷ [])

pub tally_parts : (t : Tallies) → (counted (ascii "sent ") t.sent ++ counted (ascii "delivered ") t.delivered) ++ counted (ascii "joined ") t.joined ≡ tally_lines t
unfolding tally_lines count_line text joined
tally_parts t = refl

pub head_parts : (k v n : ℕ) (t : Tallies) → ((counted (ascii "refusal ") k ++ verdict_line v) ++ counted (ascii "acts ") n) ++ tally_lines t ≡ head k v n t
unfolding head count_line text joined
head_parts k v n t = refl

counted_short : (s : List ℕ) (n : ℕ) → length (counted s n) ≤ length s + 11
counted_short s n = omega (arith, between_short s n (10 ∷ []))

tally_short : (t : Tallies) → length (tally_lines t) ≤ 55
tally_short t =
    let a = counted (ascii "sent ") t.sent in
    let b = counted (ascii "delivered ") t.delivered in
    let c = counted (ascii "joined ") t.joined in
    omega (arith, ap length (sym (tally_parts t)), length-append (a ++ b) c, length-append a b, counted_short (ascii "sent ") t.sent, counted_short (ascii "delivered ") t.delivered, counted_short (ascii "joined ") t.joined)

head_short : (k v n : ℕ) (t : Tallies) → length (head k v n t) ≤ head_room
head_short k v n t =
    let a = counted (ascii "refusal ") k in
    let b = counted (ascii "acts ") n in
    omega (
      arith,
      ap length (sym (head_parts k v n t)),
      length-append ((a ++ verdict_line v) ++ b) (tally_lines t),
      length-append (a ++ verdict_line v) b,
      length-append a (verdict_line v),
      verdict_short v,
      counted_short (ascii "refusal ") k,
      counted_short (ascii "acts ") n,
      tally_short t,
    )

-- THE RUN: its answer is within the output, and behind the head it is the page
pub record Leaves (most : ℕ) (all : List ℕ) (r : Outcome) (z : List ℕ) : Type 0 where
  pub few : r.acts ≤ most
  pub within : r.written ≤ length z
  pub whole : head r.refusal r.verdict r.acts (tallies_of r) ++ take r.written z ≡ all

module _ (most k v n : ℕ) (t : Tallies) (r : Outcome) (z : List ℕ) (a : r.refusal ≡ k) (b : r.verdict ≡ v) (c : r.acts ≡ n) (f : n ≤ most) (d : tallies_of r ≡ t) where
  alone : r.written ≡ 0 → Leaves most (head k v n t) r z
  alone e = record { few = omega arith; within = omega arith; whole = rw (a, b, c, d, e) (append-nil (head k v n t)) }

  with_answer : (bs o : List ℕ) → r.written ≡ length bs → z ≡ in_front bs o → Leaves most (head k v n t ++ bs) r z
  unfolding in_front
  with_answer bs o e g = record {
    few = omega arith;
    within = omega (arith, e, ap length g, length-append bs (drop (length bs) o));
    whole = rw (a, b, c, d, e, g, take-append_seam bs (drop (length bs) o)) refl;
  }

leaves : (most k : ℕ) (b : Bool) (c : Case) (x : State) (r : Outcome) (o z : List ℕ) (w v : List ℤ) → x.count ≤ most → RunSays k b c x r o z w v → Leaves most (page k b c x) r z
unfolding RunSays page
leaves n (suc k) b c x r o z w v l t = alone n (suc k) 0 0 no_tallies r z t.refusal t.verdict t.acts (omega arith) t.tallies t.written
leaves n zero true c x r o z w v l t = with_answer n 0 _ x.count x.tallies r z t.refusal t.verdict t.acts l t.tallies (answer c.graph x) o t.written t.output
leaves n zero false c x r o z w v l t = alone n 10 0 x.count x.tallies r z t.refusal t.verdict t.acts l t.tallies t.written

first_skip : (ks : List ℕ) → first_of (0 ∷ ks) ≡ first_of ks
unfolding first_of
first_skip ks = refl

pub list_leaves : (bs xs : List ℕ) {r : Outcome} (o : List ℕ) {z : List ℕ} (w v : List ℤ) → least_output ≤ length o → least_work ≤ length w → ListSays bs xs r o z w v → Leaves (length xs) (printed bs xs) r z
unfolding ListSays list_refusal printed
list_leaves bs xs {r} o {z} w v a b s =
    let x = by_list (run_case bs) xs in
    leaves (length xs) (first_of (case_refusal bs ∷ acts_refusal (case_in bs) xs ∷ [])) (has_ended x) (run_case bs) x r o z w v (count_few (run_case bs) xs)
    (rw (long_buffers (length o) (length w) a b, first_skip (case_refusal bs ∷ acts_refusal (case_in bs) xs ∷ [])) at s)

-- THE PAGE: the head and then the answer
pub page_shows : {most : ℕ} {all : List ℕ} {r : Outcome} {z : List ℕ} {w v u : Writer} → Leaves most all r z → w.end ≡ Some 0 → head_room + length z ≤ length w.output.now
    → Puts (head r.refusal r.verdict r.acts (tallies_of r)) w v → Writes (take r.written z) v u → written u ≡ all
page_shows {most} {all} {r} {z} l begins room h p =
    rw (← l.whole) (puts_shows (puts_then h (puts p)) begins
    (omega (arith, length-append (head r.refusal r.verdict r.acts (tallies_of r)) (take r.written z), head_short r.refusal r.verdict r.acts (tallies_of r), length-take-le r.written z l.within, l.within)))
