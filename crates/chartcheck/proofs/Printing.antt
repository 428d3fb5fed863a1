-- From what the chart's reader says to what is printed. Assumes nothing.
use mathlib.Core.Path.{◌≡◌, refl, sym, ap, ◌∙◌}
use Rattle.std.specs.Prelude.{Result, Some}
use mathlib.Core.Bool.{Bool, true, false, cond}
use mathlib.Core.List.{List, [], ◌∷◌, ◌++◌}
use mathlib.Core.Logic.{◌⊎◌, inl, inr}
use Prim.Native.Nat.{ℕ, zero, suc, ◌-◌, ◌≤◌, ◌<◌}
use native.Mathlib.Omega.{arith}
use lib.Dec.{eqb}
use lib.ListN.{length, length-append}
use borrow.Author.Tests.{eq-eqb, ne_eqb, lt-ltb, le-ltb}
use Rattle.text.specs.Ascii.{ascii}
use Rattle.text.specs.declared.write.Writer.{Writer}
use Rattle.text.specs.Writing.{Writes, Puts, Chain, written}
use Rattle.text.proofs.Chains.{puts, puts_as}
use Rattle.model.specs.Chart.{most_flags, longest_name, mode_name, chart_in, chart_says}
use Rattle.model.specs.declared.Charted.{Charted}
use Rattle.desk.specs.Lines.{refused_lines, all_parts}
use Rattle.desk.proofs.Writing.{puts_shows, all_puts, all_short}
use Rattle.text.specs.Reading.{field_here}
use Rattle.chart.specs.Reading.{name_place, returned, ChartRead}
use Rattle.chart.specs.declared.Chart.{Chart}
use Rattle.chart.specs.declared.NoChart.{NoChart}
use Rattle.chart.proofs.Whole.{read_returns, BadRead, bad_mode, bad_flags, name_part, name_short}
use Rattle.chartcheck.specs.Printing.{charted_lines, printed, bit_digit, bits, fault_words, pair_words, told, page_room}

-- STANDARD OUTPUT, as it is written
module _ (c : Charted) {v u : Writer} where
  pub writes_pass : c.refusal ≡ 0 → Writes (ascii "pass\n") v u → Puts (charted_lines c) v u
  unfolding charted_lines
  writes_pass e w = puts_as (sym (rw (eq-eqb c.refusal 0 e) refl)) (puts w)

  pub writes_refused : (c.refusal ≡ 0 → ⊥) → Chain (all_parts c.refusal c.mode c.combination) v u → Puts (charted_lines c) v u
  unfolding charted_lines
  writes_refused n w = puts_as (sym (rw (ne_eqb c.refusal 0 n) refl)) (all_puts c.refusal c.mode c.combination w)

charted_short : (c : Charted) → length (charted_lines c) ≤ page_room
unfolding charted_lines
charted_short c = go (eqb c.refusal 0)
  where
    go : (b : Bool) → length (cond b (ascii "pass\n") (refused_lines c.refusal c.mode c.combination)) ≤ page_room
    go true = omega arith
    go false = omega (arith, all_short c.refusal c.mode c.combination)

pub charted_shows : (bs : List ℕ) {c : Charted} {w v : Writer} → c ≡ chart_says bs → Puts (charted_lines c) w v → w.end ≡ Some 0 → page_room ≤ length w.output.now → written v ≡ printed bs
unfolding printed
charted_shows bs {c} e p begins h = rw (← e) (puts_shows p begins (omega (arith, charted_short c)))

-- STANDARD ERROR, as it is written: bits one after the other
pub bits_more : (i f : ℕ) {d : ℕ} → 0 < i → d ≡ bit_digit f (i - 1) → bits i f ≡ (d ∷ []) ++ bits (i - 1) f
unfolding bits
bits_more zero f h e = absurd (omega arith)
bits_more (suc i) f h e = let n : suc i - 1 ≡ i = omega arith in rw (e, n) refl

pub bits_none : (i f : ℕ) → i ≤ 0 → bits i f ≡ []
unfolding bits
bits_none zero f h = refl
bits_none (suc i) f h = absurd (omega arith)

bits_long : (many f : ℕ) → length (bits many f) ≡ many
unfolding bits
bits_long zero f = refl
bits_long (suc i) f = ap suc (bits_long i f)

-- the words of the fault
module _ (k : ℕ) {v u : Writer} where
  pub writes_gap : k ≡ 18 → Writes (ascii ": no rule\n") v u → Puts (fault_words k) v u
  unfolding fault_words
  writes_gap e w = puts_as (sym (rw (eq-eqb k 18 e) refl)) (puts w)

  pub writes_overlap : (k ≡ 18 → ⊥) → Writes (ascii ": more than one rule\n") v u → Puts (fault_words k) v u
  unfolding fault_words
  writes_overlap n w = puts_as (sym (rw (ne_eqb k 18 n) refl)) (puts w)

fault_short : (k : ℕ) → length (fault_words k) ≤ 21
unfolding fault_words
fault_short k = go (eqb k 18)
  where
    go : (b : Bool) → length (cond b (ascii ": no rule\n") (ascii ": more than one rule\n")) ≤ 21
    go true = omega arith
    go false = omega arith

pair_short : (w : List ℕ) (k : ℕ) (c : Charted) → length w ≤ longest_name → k ≤ most_flags → length (pair_words w k c) ≤ page_room
unfolding pair_words
pair_short w k c h l =
    let a = ascii "mode " ++ w in
    let b = a ++ ascii ", flags " in
    let d = b ++ bits k c.combination in
    omega (arith, length-append d (fault_words c.refusal), length-append b (bits k c.combination), length-append a (ascii ", flags "), length-append (ascii "mode ") w, bits_long k c.combination, fault_short c.refusal)

-- THE WHOLE: a bad pair is told, and nothing else
module _ {bs : List ℕ} {h : Chart} {c : Charted} (g : BadRead bs h c) where
  above : 17 < c.refusal
  above = go g.refusal
    where
      go : (c.refusal ≡ 18) ⊎ (c.refusal ≡ 19) → 17 < c.refusal
      go (inl e) = omega arith
      go (inr e) = omega arith

  pub tells_pair : {w : List ℕ} {v u : Writer} → w ≡ field_here bs (name_place bs c.mode) → Puts (pair_words w h.flags c) v u → v.end ≡ Some 0 → page_room ≤ length v.output.now → written u ≡ told bs
  unfolding told pair_words mode_name
  tells_pair {w} q p begins room =
      let n : w ≡ mode_name (chart_in bs) c.mode = q ∙ name_part bs g.right c.mode (bad_mode g) in
      let short : length w ≤ longest_name = rw n (name_short bs g.right c.mode (bad_mode g)) in
      rw (g.said, lt-ltb 17 c.refusal above, (bad_flags g).0, ← n) (puts_shows p begins (omega (arith, pair_short w h.flags c short (bad_flags g).1)))

pub tells_nothing : {bs t t' : List ℕ} {r x : Result Chart NoChart} → ChartRead bs r t t' → r ≡ x → (returned x).refusal ≤ 17 → told bs ≡ []
unfolding told
tells_nothing {bs} {x = x} g e l =
    let k : (chart_says bs).refusal ≤ 17 = rw (← read_returns g e) l in
    rw (le-ltb 17 (chart_says bs).refusal k) refl
