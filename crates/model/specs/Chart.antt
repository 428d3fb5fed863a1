-- "A chart is a house file, laid out like the case file": refusals 17, 18 and 19, and the chart in a text. Assumes
-- nothing: these are definitions.
use Rattle.std.specs.Prelude.{Bool, true, ◌&&◌, ◌||◌, cond, List, [], ◌∷◌, ℕ, zero, suc, ◌+◌, ◌*◌, ◌/◌, ◌%◌, ◌^◌, ◌≤◌, ◌<◌, ltb, leb, eqb, length, get_or, take, drop}
use Rattle.std.specs.Int.Bits.{bit_and}
use Rattle.text.specs.Ascii.{ascii}
use Rattle.text.specs.Lines.{Line, lines, line_at, line_is}
use Rattle.text.specs.Numbers.{is_digit, numbers_line, number_at}
use Rattle.model.specs.Case.{longest_file, known_version}
use Rattle.model.specs.ClaimTokens.{is_capital, is_small}
use Rattle.model.specs.declared.Charted.{Charted}

-- LIMITS: "Modes 1 to 32, flags 1 to 8, rules at most 512", a name of "1 to 16 letters or digits"
abbrev pub most_modes : ℕ
most_modes = 32

abbrev pub most_flags : ℕ
most_flags = 8

abbrev pub most_rules : ℕ
most_rules = 512

abbrev pub longest_name : ℕ
longest_name = 16

-- a rule: in this mode, if it matches, go to the next one
pub record Rule : Type 0 where
  pub mode : ℕ
  pub care : ℕ
  pub value : ℕ
  pub next : ℕ

pub record Chart : Type 0 where
  pub modes : ℕ
  pub start : ℕ
  pub flags : ℕ
  pub names : List (List ℕ)
  pub rules : List Rule

unfoldable pub mode_name : Chart → (mode : ℕ) → List ℕ
mode_name h q = get_or h.names q []

-- RULES. "Flag i is the bit worth 2 to the power i": a combination of flags is a number below this
unfoldable pub combinations : Chart → ℕ
combinations h = 2 ^ h.flags

-- "A rule matches when the flags picked out by care equal value"
unfoldable pub matches : Rule → (flags : ℕ) → Bool
matches r f = eqb (bit_and f r.care) r.value

-- the rules for a pair, a mode and a combination of flags
unfoldable pub rules_for : List Rule → (mode flags : ℕ) → List Rule
rules_for [] q f = []
rules_for (r ∷ rs) q f = cond (eqb r.mode q && matches r f) (r ∷ rules_for rs q f) (rules_for rs q f)

-- "18, no rule for a pair; 19, two rules"
unfoldable pub pair_refusal : (found : List Rule) → ℕ
pair_refusal [] = 18
pair_refusal (r ∷ []) = 0
pair_refusal (r ∷ s ∷ rs) = 19

-- the mode that the first of them leads to; 0 where there is none
unfoldable pub leads_to : (found : List Rule) → ℕ
leads_to [] = 0
leads_to (r ∷ rs) = r.next

unfoldable pub next_mode : Chart → (mode flags : ℕ) → ℕ
next_mode h q f = leads_to (rules_for h.rules q f)

-- PAIRS, numbered "by mode and then combination"
unfoldable pub mode_of : Chart → (pair : ℕ) → ℕ
mode_of h i = i / combinations h

unfoldable pub flags_of : Chart → (pair : ℕ) → ℕ
flags_of h i = i % combinations h

unfoldable pub refusal_at : Chart → (pair : ℕ) → ℕ
refusal_at h i = pair_refusal (rules_for h.rules (mode_of h i) (flags_of h i))

abbrev pub charted : (refusal mode combination : ℕ) → Charted
charted k q f = record { refusal = k; mode = q; combination = f }

-- "the first bad pair, by mode and then combination, is returned", of so many pairs from i on
unfoldable pub first_bad : (left i : ℕ) → Chart → Charted
first_bad zero i h = charted 0 0 0
first_bad (suc k) i h = cond (eqb (refusal_at h i) 0) (first_bad k (suc i) h) (charted (refusal_at h i) (mode_of h i) (flags_of h i))

-- THE TEXT: "`version modes start flags`, its values, `name` and a line for each mode, then `mode care value next` and
-- rules to the end"
abbrev pub chart_names : List ℕ
chart_names = ascii "version modes start flags"

abbrev pub mode_names : List ℕ
mode_names = ascii "name"

abbrev pub rule_names : List ℕ
rule_names = ascii "mode care value next"

unfoldable pub chart_counts_good : (version modes start flags : ℕ) → Bool
chart_counts_good v m s k = (eqb v known_version && (leb 1 m && leb m most_modes)) && (ltb s m && (leb 1 k && leb k most_flags))

abbrev pub chart_head_good : (head : Line) → Bool
chart_head_good h = chart_counts_good (number_at h 0) (number_at h 1) (number_at h 2) (number_at h 3)

-- "1 to 16 letters or digits": A to Z, a to z, 0 to 9
unfoldable pub is_alphanumeric : ℕ → Bool
is_alphanumeric b = (is_capital b || is_small b) || is_digit b

unfoldable pub all_alphanumeric : List ℕ → Bool
all_alphanumeric [] = true
all_alphanumeric (b ∷ bs) = is_alphanumeric b && all_alphanumeric bs

unfoldable pub is_name : List ℕ → Bool
is_name w = (leb 1 (length w) && leb (length w) longest_name) && all_alphanumeric w

unfoldable pub name_line : Line → Bool
name_line l = l.closed && is_name l.text

unfoldable pub names_right : (left : ℕ) → List Line → Bool
names_right zero ls = true
names_right (suc k) ls = name_line (line_at ls 0) && names_right k (drop 1 ls)

unfoldable pub rule_of : Line → Rule
rule_of l = record { mode = number_at l 0; care = number_at l 1; value = number_at l 2; next = number_at l 3 }

-- "care has no other bits"; "a value bit outside care"
unfoldable pub rule_good : (modes combinations : ℕ) → Rule → Bool
rule_good m c r = (ltb r.mode m && ltb r.care c) && (eqb (bit_and r.value r.care) r.value && ltb r.next m)

unfoldable pub rules_right : (modes combinations : ℕ) → List Line → Bool
rules_right m c [] = true
rules_right m c (l ∷ ls) = (numbers_line 4 l && rule_good m c (rule_of l)) && rules_right m c ls

-- "rules at most 512"
unfoldable pub rules_fit : (modes combinations : ℕ) → List Line → Bool
rules_fit m c ls = leb (length ls) most_rules && rules_right m c ls

-- "17, layout, range, version not 1, or a value bit outside care": whether none of these falls on a text, in its first
-- three lines, and after them. No right chart is longer than 7,774 bytes
unfoldable pub chart_head_right : (file : List ℕ) → Bool
chart_head_right bs =
    let ls = lines bs in
    let h = line_at ls 1 in
    (leb (length bs) longest_file && (line_is chart_names (line_at ls 0) && (numbers_line 4 h && chart_head_good h)))
    && line_is mode_names (line_at ls 2)

unfoldable pub chart_rest_right : (file : List ℕ) → Bool
chart_rest_right bs =
    let ls = lines bs in
    let h = line_at ls 1 in
    let m = number_at h 1 in
    names_right m (drop 3 ls) && (line_is rule_names (line_at ls (3 + m)) && rules_fit m (2 ^ number_at h 3) (drop (4 + m) ls))

unfoldable pub chart_right : (file : List ℕ) → Bool
chart_right bs = chart_head_right bs && chart_rest_right bs

-- THE CHART in a text, if it is right
unfoldable pub texts_of : List Line → List (List ℕ)
texts_of [] = []
texts_of (l ∷ ls) = l.text ∷ texts_of ls

unfoldable pub rules_in : List Line → List Rule
rules_in [] = []
rules_in (l ∷ ls) = rule_of l ∷ rules_in ls

unfoldable pub chart_in : (file : List ℕ) → Chart
chart_in bs =
    let ls = lines bs in
    let h = line_at ls 1 in
    let m = number_at h 1 in
    record {
      modes = m;
      start = number_at h 2;
      flags = number_at h 3;
      names = texts_of (take m (drop 3 ls));
      rules = rules_in (drop (4 + m) ls);
    }

-- WHAT READING A CHART RETURNS. "17 goes first, and the first bad pair chooses between 18 and 19"
unfoldable pub chart_says : (file : List ℕ) → Charted
chart_says bs =
    let h = chart_in bs in
    cond (chart_right bs) (first_bad (h.modes * combinations h) 0 h) (charted 17 0 0)

-- SOUND: what every chart has that is accepted
pub record ChartSound (h : Chart) : Type 0 where
  pub modes : h.modes ≤ most_modes
  pub start : h.start < h.modes
  pub flags : h.flags ≤ most_flags
  pub next : (q f : ℕ) → next_mode h q f < h.modes
  pub names : (q : ℕ) → length (mode_name h q) ≤ longest_name
