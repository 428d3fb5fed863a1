-- Whole: lines 1 to 3, the lines after them, the pairs: what the reader answers at each fault, and the chart where there is
-- none. Assumes nothing.
use mathlib.Core.Path.{◌≡◌, refl, sym, ap, ◌∙◌}
use mathlib.Core.Bool.{Bool, true, false, ◌&&◌, cond, and-false}
use mathlib.Core.List.{List, [], ◌∷◌, ◌++◌}
use mathlib.Core.Logic.{◌⊎◌}
use Rattle.std.specs.Prelude.{Option, Some, None, Result, Ok, Err}
use Prim.Native.Nat.{ℕ, ◌+◌, ◌*◌, ◌^◌, ◌≤◌, ◌<◌}
use native.Mathlib.Omega.{arith}
use native.Mathlib.Nat.{zero-add, pow-le-pow_right, one-le-pow}
use lib.Dec.{leb, eqb, lit<}
use lib.ListN.{length, get_or, take, drop, replicate, length-replicate, get_or-replicate, get_or-append}
use borrow.Author.Tests.{le-leb, lt-leb, eq-eqb, ne_eqb, eqb-true, eqb-false}
use Rattle.text.specs.Lines.{Line, lines, line_at, line_is, field}
use Rattle.text.specs.Numbers.{numbers_line, number_at}
use Rattle.text.specs.Reading.{line_here, field_here, skip}
use Rattle.text.specs.Writing.{output_after, Writes}
use Rattle.text.specs.declared.write.Writer.{Writer}
use Rattle.text.proofs.Tests.{and_both, some_if, none_if}
use Rattle.text.proofs.Writing.{put_front}
use Rattle.text.proofs.Reading.{Row, NoRow, LineNamed}
use Rattle.model.specs.Case.{longest_file}
use Rattle.model.specs.Chart.{most_modes, most_flags, longest_name, mode_name, name_line, Rule, combinations, next_mode, chart_names, mode_names, rule_names, chart_counts_good, chart_head_good, names_right, rules_in, first_bad, charted, rules_fit, chart_head_right, chart_rest_right, chart_right, chart_in, chart_says}
use Rattle.model.specs.declared.Charted.{Charted}
use Rattle.model.specs.ChartPromise.{FirstBadPair}
use Rattle.model.proofs.Tools.{table_length}
use Rattle.model.proofs.Pairs.{next_base}
use Rattle.model.proofs.ChartSound.{counts_fit}
use Rattle.model.proofs.Charts.{chart_passed, right_bad, first_bad_pair}
use Rattle.text.proofs.Places.{skip_one, skip_add, skip_last, skip_lines, skip_line}
use Rattle.chart.specs.Pairs.{most_combinations, most_pairs, one_rule, Fresh, Marked, RulesRead, table_says, bad_in, next_entry, chart_entries, table_after}
use Rattle.chart.specs.Reading.{names_here, name_place, counts_in, head_says, rules_place, rest_right, ChartLaid, returned, read_says, ChartRead}
use Rattle.chart.specs.declared.Chart.{Chart}
use Rattle.chart.specs.declared.NoChart.{NoChart}
use Rattle.chart.specs.declared.NoChart.TheVariants.{Fault, Bad}
use Rattle.chart.proofs.NameLines.{named_line, names_each, text_at}
use Rattle.chart.proofs.Entries.{pairs_fit}
use Rattle.chart.proofs.BadPairs.{bad_is, bad_not, table_first, table_entries, entry_at}

-- LINES 1 TO 3, fault by fault
module _ (s : List ℕ) where
  head_fault : chart_head_right s ≡ false → None ≡ head_says s
  unfolding head_says
  head_fault h = rw h refl

  pub head_long : longest_file < length s → None ≡ head_says s
  head_long h = head_fault (unfold chart_head_right in (rw (lt-leb (length s) longest_file h) refl))

  pub head_unnamed : line_is chart_names (line_here s 0) ≡ false → None ≡ head_says s
  head_unnamed h = head_fault (unfold chart_head_right in (rw (h, and-false) refl))

module _ {s : List ℕ} where
  module _ {z : ℕ} (named : LineNamed s 0 chart_names z) where
    second : z ≡ skip 1 s 0
    second = sym named.past ∙ sym (skip_one s 0)

    line_2 : line_here s z ≡ line_at (lines s) 1
    line_2 = rw second (skip_line 1 s 0)

    pub head_torn : NoRow 4 s z → None ≡ head_says s
    head_torn b = head_fault s (unfold chart_head_right in (rw (named.line, ← line_2, b.none, and-false) refl))

    module _ {a m u k y : ℕ} (r : Row s z (a ∷ m ∷ u ∷ k ∷ []) y) where
      counts : chart_head_good (line_at (lines s) 1) ≡ chart_counts_good a m u k
      counts = rw (← line_2, r.are 0 (lit< tt), r.are 1 (lit< tt), r.are 2 (lit< tt), r.are 3 (lit< tt)) refl

      laid : numbers_line 4 (line_at (lines s) 1) ≡ true
      laid = rw (← line_2) r.line

      pub head_miscounted : chart_counts_good a m u k ≡ false → None ≡ head_says s
      head_miscounted g = head_fault s (unfold chart_head_right in (rw (named.line, laid, counts, g, and-false) refl))

      third : y ≡ skip 2 s 0
      third = sym r.past ∙ (rw second (sym (skip_last 1 s 0)))

      pub head_untitled : line_is mode_names (line_here s y) ≡ false → None ≡ head_says s
      head_untitled b = head_fault s (unfold chart_head_right in (rw (title b, and-false) refl))
        where
          title : line_is mode_names (line_here s y) ≡ false → line_is mode_names (line_at (lines s) 2) ≡ false
          title b = rw (third, skip_line 2 s 0) at b

      module _ {x : ℕ} (l : length s ≤ longest_file) (g : chart_counts_good a m u k ≡ true) (b : LineNamed s y mode_names x) where
        all_right : chart_head_right s ≡ true
        unfolding chart_head_right
        all_right =
            let t : line_is mode_names (line_at (lines s) 2) ≡ true = rw (third, skip_line 2 s 0) at b.line in
            rw (le-leb (length s) longest_file l, named.line, laid, counts, g, t) refl

        pub head_whole : Some ((record { modes = m; start = u; flags = k }), x) ≡ head_says s
        unfolding head_says counts_in
        head_whole =
            let e : x ≡ skip 3 s 0 = sym b.past ∙ (rw third (sym (skip_last 2 s 0))) in
            rw (all_right, ← line_2, r.are 1 (lit< tt), r.are 2 (lit< tt), r.are 3 (lit< tt), e) refl

-- A FAULT OF THE TEXT
says_faulty : (s : List ℕ) → chart_right s ≡ false → chart_says s ≡ charted 17 0 0
unfolding chart_says
says_faulty s e = rw e refl

faulty_read : (s t : List ℕ) → chart_right s ≡ false → ChartRead s (Err Fault) t t
unfolding read_says returned table_after
faulty_read s t e = record { answer = rw e refl; returns = sym (says_faulty s e); table = rw (says_faulty s e) refl }

pub fault_read : (s t : List ℕ) {r : Option (Chart × ℕ)} → r ≡ head_says s → r ≡ None → ChartRead s (Err Fault) t t
unfolding head_says chart_right
fault_read s t e q = faulty_read s t (rw (none_if (chart_head_right s) _ (sym e ∙ q)) refl)

-- AFTER LINE 3
pub record Headed (s : List ℕ) (h : Chart) (names : ℕ) : Type 0 where
  pub right : chart_head_right s ≡ true
  pub counts : counts_in s ≡ h
  pub place : skip 3 s 0 ≡ names

pub headed : {s : List ℕ} {x : Chart × ℕ} {r : Option (Chart × ℕ)} → r ≡ head_says s → r ≡ Some x → Headed s x.0 x.1
unfolding head_says
headed {s} e q =
    let g = some_if (chart_head_right s) (sym e ∙ q) in
    record { right = g.0; counts = ap (λ (y : Chart × ℕ). y.0) g.1; place = ap (λ (y : Chart × ℕ). y.1) g.1 }

-- the counts are in range
pub record InRange (m k : ℕ) : Type 0 where
  pub modes : m ≤ most_modes
  pub flags : k ≤ most_flags
  pub some : 1 ≤ 2 ^ k
  pub few : 2 ^ k ≤ most_combinations

in_range_go : (v m u k : ℕ) → chart_counts_good v m u k ≡ true → InRange m k
in_range_go v m u k h =
    let n = counts_fit v m u k h in
    record { modes = n.modes; flags = n.flags; some = one-le-pow k 2 (lit< tt); few = pow-le-pow_right {n = 2} (lit< tt) n.flags }

module _ {s : List ℕ} {x : Chart} {names : ℕ} (h : Headed s x names) where
  modes_are : number_at (line_at (lines s) 1) 1 ≡ x.modes
  modes_are = unfold counts_in in ap (λ (y : Chart). y.modes) h.counts

  flags_are : number_at (line_at (lines s) 1) 3 ≡ x.flags
  flags_are = unfold counts_in in ap (λ (y : Chart). y.flags) h.counts

  pub in_range : InRange x.modes x.flags
  unfolding chart_head_right
  in_range =
      let l = line_at (lines s) 1 in
      let a = and_both (leb (length s) longest_file && (line_is chart_names (line_at (lines s) 0) && (numbers_line 4 l && chart_head_good l))) (line_is mode_names (line_at (lines s) 2)) h.right in
      let b = and_both (leb (length s) longest_file) (line_is chart_names (line_at (lines s) 0) && (numbers_line 4 l && chart_head_good l)) a.0 in
      let d = and_both (line_is chart_names (line_at (lines s) 0)) (numbers_line 4 l && chart_head_good l) b.1 in
      rw (modes_are, flags_are) at (in_range_go (number_at l 0) (number_at l 1) (number_at l 2) (number_at l 3) (and_both (numbers_line 4 l) (chart_head_good l) d.1).1)

  -- the lines after them, by places of the text
  name_lines : drop 3 (lines s) ≡ lines (drop names s)
  name_lines = rw (← h.place) (sym (skip_lines 3 s 0))

  title_place : skip (3 + x.modes) s 0 ≡ skip x.modes s names
  title_place = rw (← h.place) (skip_add 3 x.modes s 0)

  title_line : line_at (lines s) (3 + x.modes) ≡ line_here s (skip x.modes s names)
  title_line = rw (← title_place) (sym (skip_line (3 + x.modes) s 0))

  rule_lines : drop (4 + x.modes) (lines s) ≡ lines (drop (rules_place s names x.modes) s)
  rule_lines =
      let e : 3 + x.modes + 1 ≡ 4 + x.modes = omega arith in
      rw (← title_place, ← skip_last (3 + x.modes) s 0, e) (sym (skip_lines (4 + x.modes) s 0))

  chart_rest : chart_right s ≡ rest_right s names x.modes (2 ^ x.flags)
  unfolding chart_right chart_rest_right rest_right
  chart_rest = rw (h.right, modes_are, flags_are, name_lines, title_line, rule_lines) refl

  pub laid_not : {c : ℕ} {b : Bool} {p : List ℕ} → c ≡ 2 ^ x.flags → ChartLaid s names x.modes c b p → b ≡ false → (t : List ℕ) → ChartRead s (Err Fault) t t
  laid_not e g q t = faulty_read s t (chart_rest ∙ (rw (← e) (sym g.answer ∙ q)))

  -- the chart's parts
  modes_in : (chart_in s).modes ≡ x.modes
  unfolding chart_in
  modes_in = modes_are

  count_in : combinations (chart_in s) ≡ 2 ^ x.flags
  unfolding chart_in combinations
  count_in = ap (λ (n : ℕ). 2 ^ n) flags_are

  rules_are : (chart_in s).rules ≡ rules_in (lines (drop (rules_place s names x.modes) s))
  unfolding chart_in
  rules_are = rw (modes_are, rule_lines) refl

  pub few_pairs : {c : ℕ} → c ≡ 2 ^ x.flags → x.modes * c ≤ most_pairs
  few_pairs e = pairs_fit in_range.modes (omega (arith, in_range.few))

  pub fresh : {c : ℕ} → c ≡ 2 ^ x.flags → Fresh x.modes c (replicate most_pairs 0)
  fresh e =
      record {
        few_modes = in_range.modes;
        few_flags = omega (arith, in_range.few);
        long = length-replicate {A = ℕ} most_pairs 0;
        none = λ i l. get_or-replicate {A = ℕ} most_pairs i 0 0 l;
      }

-- what is handed on
handed_on : (s t : List ℕ) {w v : Writer} → (chart_says s).refusal ≡ 0 → w.end ≡ Some 0 → w.output.now ≡ t → Writes (chart_entries (chart_in s)) w v → v.output.now ≡ table_after s t
unfolding table_after output_after
handed_on s t z e o w = w.output ∙ rw (e, o, zero-add (length (chart_entries (chart_in s))), eq-eqb (chart_says s).refusal 0 z) refl

marked_by : {m m' c c' : ℕ} {rs rs' : List Rule} {t : List ℕ} → m' ≡ m → c' ≡ c → rs' ≡ rs → Marked m c rs t → Marked m' c' rs' t
marked_by p q r k = rw (p, q, r) k

pub laid_all : {s : List ℕ} {at m c : ℕ} {b : Bool} {p : List ℕ} → ChartLaid s at m c b p → b ≡ true → ChartLaid s at m c true p
laid_all g e = rw e at g

-- A RIGHT TEXT: the table of its rules says what the chart says
module _ {s : List ℕ} {x : Chart} {names : ℕ} (h : Headed s x names) {c : ℕ} {p : List ℕ} (e : c ≡ 2 ^ x.flags) (g : ChartLaid s names x.modes c true p) where
  text_right : chart_right s ≡ true
  text_right = chart_rest h ∙ (rw (← e) (sym g.answer))

  count_is : combinations (chart_in s) ≡ c
  count_is = count_in h ∙ sym e

  many_is : (chart_in s).modes * combinations (chart_in s) ≡ x.modes * c
  many_is = ap (λ (n : ℕ). n * combinations (chart_in s)) (modes_in h) ∙ ap (λ (n : ℕ). x.modes * n) count_is

  marked : Marked (chart_in s).modes (combinations (chart_in s)) (chart_in s).rules p
  marked = marked_by (modes_in h) count_is (rules_are h) g.all

  some : 0 < combinations (chart_in s)
  some = omega (arith, (in_range h).some, count_in h)

  says : chart_says s ≡ first_bad ((chart_in s).modes * combinations (chart_in s)) 0 (chart_in s)
  unfolding chart_says
  says = rw text_right refl

  said : table_says (x.modes * c) 0 c p ≡ chart_says s
  said =
      ap (λ (n : ℕ). table_says n 0 c p) (sym many_is) ∙ ap (λ (d : ℕ). table_says ((chart_in s).modes * combinations (chart_in s)) 0 d p) (sym count_is)
      ∙ table_first (chart_in s) p marked some ((chart_in s).modes * combinations (chart_in s)) 0 (omega arith) ∙ sym says

  bad_said : bad_in (table_says (x.modes * c) 0 c p) ≡ bad_in (chart_says s)
  bad_said = ap bad_in said

  pub pair_refused : {y : Charted} → bad_in (table_says (x.modes * c) 0 c p) ≡ Some y → (t : List ℕ) → ChartRead s (Err (Bad x y)) t t
  unfolding read_says returned table_after
  pair_refused {y} q t =
      let b = bad_is (sym bad_said ∙ q) in
      record { answer = rw (text_right, b.0, ne_eqb y.refusal 0 b.1, h.counts) refl; returns = sym b.0; table = rw (b.0, ne_eqb y.refusal 0 b.1) refl }

  module _ (q : bad_in (table_says (x.modes * c) 0 c p) ≡ None) where
    passes : (chart_says s).refusal ≡ 0
    passes = bad_not _ (sym bad_said ∙ q)

    entries_are : take (x.modes * c) p ≡ chart_entries (chart_in s)
    unfolding chart_entries
    entries_are =
        ap (λ (n : ℕ). take n p) (sym many_is)
        ∙ table_entries (chart_in s) p marked some ((chart_in s).modes * combinations (chart_in s)) 0 (omega arith) (omega (arith, few_pairs h e, g.long, many_is))
        (ap (λ (w : Charted). w.refusal) (sym says) ∙ passes)

    pub chart_passes : {t z : List ℕ} {w v : Writer} → w.end ≡ Some 0 → w.output.now ≡ t → Writes (take (x.modes * c) p) w v → z ≡ v.output.now → ChartRead s (Ok x) t z
    chart_passes {t} e o w q = record { answer = answer; returns = unfold returned in sym (chart_passed s passes); table = q ∙ handed_on s t passes e o (rw entries_are at w) }
      where
        answer : Ok x ≡ read_says s
        answer = unfold read_says in (rw (text_right, eq-eqb (chart_says s).refusal 0 passes, h.counts) refl)

-- THE LINES AFTER LINE 3, fault by fault
named_all : (m : ℕ) (s : List ℕ) (at z : ℕ) {r : Option ℕ} → r ≡ names_here m s at → r ≡ Some z → (names_right m (lines (drop at s)) ≡ true) × (skip m s at ≡ z)
unfolding names_here
named_all m s at z e q = some_if (names_right m (lines (drop at s))) (sym e ∙ q)

module _ {s : List ℕ} {at m c : ℕ} {r : Option ℕ} where
  pub rest_unnamed : r ≡ names_here m s at → r ≡ None → {p : List ℕ} → Fresh m c p → ChartLaid s at m c false p
  unfolding names_here rest_right
  rest_unnamed e q f = record { answer = rw (none_if (names_right m (lines (drop at s))) _ (sym e ∙ q)) refl; long = f.long; all = tt }

  pub rest_untitled : {z : ℕ} → r ≡ names_here m s at → r ≡ Some z → line_is rule_names (line_here s z) ≡ false → {p : List ℕ} → Fresh m c p → ChartLaid s at m c false p
  unfolding rest_right
  rest_untitled {z} e q b f = let n = named_all m s at z e q in record { answer = rw (n.0, n.1, b) refl; long = f.long; all = tt }

  pub rest_read : {z y : ℕ} {b : Bool} {p : List ℕ} → r ≡ names_here m s at → r ≡ Some z → LineNamed s z rule_names y → RulesRead s y m c b p → ChartLaid s at m c b p
  unfolding rest_right
  rest_read {z} e q l g =
      let n = named_all m s at z e q in
      record {
        answer = g.answer ∙ sym (rw (n.0, n.1, l.line, l.past) refl);
        long = g.long;
        all = rw (n.1, l.past) g.all;
      }

-- WHAT IS READ gives what the chart says
pub read_returns : {s t t' : List ℕ} {r x : Result Chart NoChart} → ChartRead s r t t' → r ≡ x → returned x ≡ chart_says s
read_returns g q = ap returned (sym q) ∙ g.returns

-- A BAD PAIR is told of a right text, and its mode is the chart's
pub record BadRead (s : List ℕ) (h : Chart) (c : Charted) : Type 0 where
  pub right : chart_right s ≡ true
  pub counts : counts_in s ≡ h
  pub said : chart_says s ≡ c
  pub refusal : (c.refusal ≡ 18) ⊎ (c.refusal ≡ 19)

pub bad_read : {s t t' : List ℕ} {h : Chart} {c : Charted} {r : Result Chart NoChart} → ChartRead s r t t' → r ≡ Err (Bad h c) → BadRead s h c
unfolding read_says
bad_read {s} {h = h} {c = c} g q = go (chart_right s) (eqb (chart_says s).refusal 0) refl refl (sym g.answer ∙ q)
  where
    go : (a b : Bool) → chart_right s ≡ a → eqb (chart_says s).refusal 0 ≡ b → cond a (cond b (Ok (counts_in s)) (Err (Bad (counts_in s) (chart_says s)))) (Err Fault) ≡ Err (Bad h c) → BadRead s h c
    go false b e z q = let y : ◌≡◌ {A = ℕ} 0 1 = cc in absurd (omega arith)
    go true true e z q = let y : ◌≡◌ {A = ℕ} 0 1 = cc in absurd (omega arith)
    go true false e z q =
        let y : chart_says s ≡ c = cc in
        record { right = e; counts = cc; said = y; refusal = rw y at (right_bad s e (eqb-false (chart_says s).refusal 0 z)) }

-- AN ACCEPTED CHART passes, and has the counts told
pub record PassedRead (s : List ℕ) (h : Chart) : Type 0 where
  pub passes : (chart_says s).refusal ≡ 0
  pub counts : counts_in s ≡ h

pub passed_read : {s t t' : List ℕ} {h : Chart} {r : Result Chart NoChart} → ChartRead s r t t' → r ≡ Ok h → PassedRead s h
unfolding read_says
passed_read {s} {h = h} g q = go (chart_right s) (eqb (chart_says s).refusal 0) refl (sym g.answer ∙ q)
  where
    go : (a b : Bool) → eqb (chart_says s).refusal 0 ≡ b → cond a (cond b (Ok (counts_in s)) (Err (Bad (counts_in s) (chart_says s)))) (Err Fault) ≡ Ok h → PassedRead s h
    go true true z q = record { passes = eqb-true (chart_says s).refusal 0 z; counts = cc }
    go true false z q = let y : ◌≡◌ {A = ℕ} 0 1 = cc in absurd (omega arith)
    go false b z q = let y : ◌≡◌ {A = ℕ} 0 1 = cc in absurd (omega arith)

pub bad_mode : {s : List ℕ} {h : Chart} {c : Charted} → BadRead s h c → c.mode < (chart_in s).modes
unfolding FirstBadPair
bad_mode {s} g = rw g.said at (first_bad_pair s (rw g.said g.refusal)).mode_within

pub bad_flags : {s : List ℕ} {h : Chart} {c : Charted} → BadRead s h c → ((chart_in s).flags ≡ h.flags) × (h.flags ≤ most_flags)
unfolding chart_in counts_in chart_right
bad_flags {s} g =
    let r = and_both (chart_head_right s) (chart_rest_right s) g.right in
    (ap (λ (x : Chart). x.flags) g.counts, (in_range (record { right = r.0; counts = g.counts; place = refl })).flags)

-- THE NAME OF A MODE is the field that stands there
module _ (s : List ℕ) (h : chart_right s ≡ true) (q : ℕ) (l : q < (chart_in s).modes) where
  mode_line : (name_line (line_at (drop 3 (lines s)) q) ≡ true) × (mode_name (chart_in s) q ≡ (line_at (drop 3 (lines s)) q).text)
  unfolding chart_right chart_rest_right chart_in mode_name
  mode_line =
      let ls = drop 3 (lines s) in
      let m = number_at (line_at (lines s) 1) 1 in
      let rest = rules_fit m (2 ^ number_at (line_at (lines s) 1) 3) (drop (4 + m) (lines s)) in
      let n : names_right m ls ≡ true = (and_both (names_right m ls) (line_is rule_names (line_at (lines s) (3 + m)) && rest) (and_both (chart_head_right s) _ h).1).0 in
      (names_each m ls q l n, text_at m ls q l)

  pub name_part : field_here s (name_place s q) ≡ mode_name (chart_in s) q
  name_part =
      let e : line_here s (name_place s q) ≡ line_at (drop 3 (lines s)) q = skip_line q s (skip 3 s 0) ∙ ap (λ (x : List Line). line_at x q) (skip_lines 3 s 0) in
      ap (λ (x : Line). field x 0) e ∙ (named_line (line_at (drop 3 (lines s)) q) mode_line.0).field ∙ sym mode_line.1

  pub name_short : length (mode_name (chart_in s) q) ≤ longest_name
  name_short = rw mode_line.1 (named_line (line_at (drop 3 (lines s)) q) mode_line.0).short

-- THE TABLE of an accepted chart has the next mode and 64 at each pair
pub handed_at : (s t : List ℕ) → (chart_says s).refusal ≡ 0 → let h = chart_in s in h.modes * combinations h ≤ length t → (q f : ℕ) → q < h.modes → f < combinations h
    → get_or (table_after s t) (q * combinations h + f) 0 ≡ next_mode h q f + one_rule
handed_at s t z room q f a l =
    let es = chart_entries (chart_in s) in
    let j = q * combinations (chart_in s) + f in
    let n : length es ≡ (chart_in s).modes * combinations (chart_in s) = unfold chart_entries in table_length (next_entry (chart_in s)) ((chart_in s).modes * combinations (chart_in s)) 0 in
    ap (λ (x : List ℕ). get_or x j 0) (front (omega (arith, n))) ∙ get_or-append es (drop (length es) t) 0 j (omega (arith, n, next_base (combinations (chart_in s)) a)) ∙ entry_at (chart_in s) q f a l
  where
    front : length (chart_entries (chart_in s)) ≤ length t → table_after s t ≡ chart_entries (chart_in s) ++ drop (length (chart_entries (chart_in s))) t
    front r = unfold table_after in (rw (eq-eqb (chart_says s).refusal 0 z, le-leb (length (chart_entries (chart_in s))) (length t) r) (put_front (chart_entries (chart_in s)) t))
