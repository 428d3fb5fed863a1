-- A chart that nothing refuses is within its limits, and leads from mode to mode. Assumes nothing.
use mathlib.Core.Path.{◌≡◌}
use mathlib.Core.Bool.{Bool, true, false, ◌&&◌, cond}
use mathlib.Core.List.{List, [], ◌∷◌}
use Prim.Native.Nat.{ℕ, zero, suc, ◌+◌, ◌^◌, ◌≤◌, ◌<◌}
use native.Mathlib.Omega.{arith}
use lib.Bits.{bit_and}
use lib.Dec.{ltb, leb, eqb}
use lib.ListN.{length, get_or, take, drop}
use borrow.Author.Tests.{ltb-true, leb-true}
use Rattle.text.specs.Lines.{Line, lines, line_at, line_is}
use Rattle.text.specs.Numbers.{numbers_line, number_at}
use Rattle.text.proofs.Tests.{and_both}
use Rattle.model.specs.Case.{longest_file, known_version}
use Rattle.model.specs.Chart.{most_modes, most_flags, most_rules, longest_name, mode_name, matches, rules_for, leads_to, next_mode, chart_names, mode_names, rule_names, chart_counts_good, chart_head_good, all_alphanumeric, is_name, name_line, names_right, rule_of, rule_good, rules_right, rules_fit, chart_head_right, chart_rest_right, chart_right, texts_of, rules_in, chart_in}
use Rattle.model.specs.ChartPromise.{ChartsSound}
use Rattle.model.proofs.Charts.{passed_right}

pub name_short : (l : Line) → name_line l ≡ true → length l.text ≤ longest_name
unfolding name_line is_name
name_short l e =
    let w = l.text in
    let p = (and_both l.closed ((leb 1 (length w) && leb (length w) longest_name) && all_alphanumeric w) e).1 in
    let q = (and_both (leb 1 (length w) && leb (length w) longest_name) (all_alphanumeric w) p).0 in
    leb-true (length w) longest_name (and_both (leb 1 (length w)) (leb (length w) longest_name) q).1

names_short : (k : ℕ) (ls : List Line) → names_right k ls ≡ true → (q : ℕ) → length (get_or (texts_of (take k ls)) q []) ≤ longest_name
unfolding names_right texts_of line_at
names_short zero ls e q = omega arith
names_short (suc k) [] e q = omega arith
names_short (suc k) (l ∷ ls) e zero = name_short l (and_both (name_line l) (names_right k ls) e).0
names_short (suc k) (l ∷ ls) e (suc q) = names_short k ls (and_both (name_line l) (names_right k ls) e).1 q

-- a rule leads to a mode; without one the next mode is 0
rule_leads : (m c : ℕ) (l : Line) → (numbers_line 4 l && rule_good m c (rule_of l)) ≡ true → (rule_of l).next < m
unfolding rule_good
rule_leads m c l e =
    let r = rule_of l in
    let p = (and_both (numbers_line 4 l) ((ltb r.mode m && ltb r.care c) && (eqb (bit_and r.value r.care) r.value && ltb r.next m)) e).1 in
    let q = (and_both (ltb r.mode m && ltb r.care c) (eqb (bit_and r.value r.care) r.value && ltb r.next m) p).1 in
    ltb-true r.next m (and_both (eqb (bit_and r.value r.care) r.value) (ltb r.next m) q).1

next_below : (m c : ℕ) (ls : List Line) (q f : ℕ) → 0 < m → rules_right m c ls ≡ true → leads_to (rules_for (rules_in ls) q f) < m
unfolding rules_right rules_in rules_for leads_to
next_below m c [] q f s e = s
next_below m c (l ∷ ls) q f s e =
    let p = and_both (numbers_line 4 l && rule_good m c (rule_of l)) (rules_right m c ls) e in
    go (eqb (rule_of l).mode q && matches (rule_of l) f) (rule_leads m c l p.0) (next_below m c ls q f s p.1)
  where
    go : (b : Bool) → (rule_of l).next < m → leads_to (rules_for (rules_in ls) q f) < m → leads_to (cond b (rule_of l ∷ rules_for (rules_in ls) q f) (rules_for (rules_in ls) q f)) < m
    go true a r = a
    go false a r = r

-- line 2 is in range
pub record CountsFit (m s k : ℕ) : Type 0 where
  pub modes : m ≤ most_modes
  pub start : s < m
  pub flags : k ≤ most_flags

pub counts_fit : (v m s k : ℕ) → chart_counts_good v m s k ≡ true → CountsFit m s k
unfolding chart_counts_good
counts_fit v m s k e =
    let a = and_both (eqb v known_version && (leb 1 m && leb m most_modes)) (ltb s m && (leb 1 k && leb k most_flags)) e in
    let b = and_both (ltb s m) (leb 1 k && leb k most_flags) a.1 in
    let d = (and_both (eqb v known_version) (leb 1 m && leb m most_modes) a.0).1 in
    record {
      modes = leb-true m most_modes (and_both (leb 1 m) (leb m most_modes) d).1;
      start = ltb-true s m b.0;
      flags = leb-true k most_flags (and_both (leb 1 k) (leb k most_flags) b.1).1;
    }

pub charts_sound : ChartsSound
unfolding ChartsSound chart_right chart_head_right chart_rest_right rules_fit chart_in next_mode mode_name
charts_sound bs e =
    let ls = lines bs in
    let h = line_at ls 1 in
    let m = number_at h 1 in
    let rs = drop (4 + m) ls in
    let c = 2 ^ number_at h 3 in
    let first = leb (length bs) longest_file && (line_is chart_names (line_at ls 0) && (numbers_line 4 h && chart_head_good h)) in
    let rules = leb (length rs) most_rules && rules_right m c rs in
    let whole = and_both (first && line_is mode_names (line_at ls 2)) (names_right m (drop 3 ls) && (line_is rule_names (line_at ls (3 + m)) && rules)) (passed_right bs e) in
    let opened = (and_both first (line_is mode_names (line_at ls 2)) whole.0).0 in
    let head = (and_both (line_is chart_names (line_at ls 0)) (numbers_line 4 h && chart_head_good h) (and_both (leb (length bs) longest_file) (line_is chart_names (line_at ls 0) && (numbers_line 4 h && chart_head_good h)) opened).1).1 in
    let k = counts_fit (number_at h 0) m (number_at h 2) (number_at h 3) (and_both (numbers_line 4 h) (chart_head_good h) head).1 in
    let rest = and_both (names_right m (drop 3 ls)) (line_is rule_names (line_at ls (3 + m)) && rules) whole.1 in
    let right = (and_both (leb (length rs) most_rules) (rules_right m c rs) (and_both (line_is rule_names (line_at ls (3 + m))) rules rest.1).1).1 in
    record {
      modes = k.modes;
      start = k.start;
      flags = k.flags;
      next = λ q f. next_below m c rs q f (omega (arith, k.start)) right;
      names = names_short m (drop 3 ls) rest.0;
    }
