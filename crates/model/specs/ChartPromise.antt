-- What is promised of charts: every text gets one of four numbers; 0 says that each pair has exactly one rule, 18 and 19
-- show the first pair that has not; a match is a matter of bits. A statement is a type; docs/PROOF-MAP.md names its proof.
-- Assumes nothing: these are definitions.
use Rattle.std.specs.Prelude.{◌≡◌, true, List, ◌⊎◌, ◌↔◌, ℕ, ◌<◌, length, get_or}
use Rattle.std.specs.Int.Bits.{bit_and}
use Rattle.model.specs.ClaimLabels.{bit}
use Rattle.model.specs.Chart.{Rule, Chart, combinations, matches, next_mode, chart_in, chart_says, ChartSound}
use Rattle.model.specs.declared.Charted.{Charted}

-- EVERY TEXT gets 0, 17, 18 or 19, and a pair with 18 and 19 only
pub record ChartDefinite (r : Charted) : Type 0 where
  pub listed : (r.refusal ≡ 0) ⊎ (r.refusal ≡ 17) ⊎ (r.refusal ≡ 18) ⊎ (r.refusal ≡ 19)
  pub no_pair : (r.refusal ≡ 0) ⊎ (r.refusal ≡ 17) → (r.mode ≡ 0) × (r.combination ≡ 0)

unfoldable pub ChartsDefinite : Type 0
ChartsDefinite = (bs : List ℕ) → ChartDefinite (chart_says bs)

-- RULES BY THEIR NUMBERS: rule j is of the mode and matches
abbrev pub rule_at : List Rule → (j : ℕ) → Rule
rule_at rs j = get_or rs j (record { mode = 0; care = 0; value = 0; next = 0 })

pub record Decides (rs : List Rule) (mode flags j : ℕ) : Type 0 where
  pub among : j < length rs
  pub of_mode : (rule_at rs j).mode ≡ mode
  pub match : matches (rule_at rs j) flags ≡ true

pub record OneRule (rs : List Rule) (mode flags : ℕ) : Type 0 where
  pub number : ℕ
  pub decides : Decides rs mode flags number
  pub only : (j : ℕ) → Decides rs mode flags j → j ≡ number

pub record TwoRules (rs : List Rule) (mode flags : ℕ) : Type 0 where
  pub number : ℕ
  pub later : ℕ
  pub apart : number < later
  pub decides : Decides rs mode flags number
  pub decides_too : Decides rs mode flags later

abbrev pub NoRule : List Rule → (mode flags : ℕ) → Type 0
NoRule rs q f = (j : ℕ) → Decides rs q f j → ⊥

-- 0: "Every mode and flag combination must have exactly one rule", which leads to the next mode
pub record PairDecided (h : Chart) (mode flags : ℕ) : Type 0 where
  pub one : OneRule h.rules mode flags
  pub leads : next_mode h mode flags ≡ (rule_at h.rules one.number).next

unfoldable pub ExactlyOne : Type 0
ExactlyOne = (bs : List ℕ) → (chart_says bs).refusal ≡ 0 → let h = chart_in bs in (q f : ℕ) → q < h.modes → f < combinations h → PairDecided h q f

unfoldable pub ChartsSound : Type 0
ChartsSound = (bs : List ℕ) → (chart_says bs).refusal ≡ 0 → ChartSound (chart_in bs)

-- 18 AND 19: "the first bad pair, by mode and then combination, is returned"
pub record BadPair (h : Chart) (r : Charted) : Type 0 where
  pub mode_within : r.mode < h.modes
  pub flags_within : r.combination < combinations h
  pub gap : r.refusal ≡ 18 → NoRule h.rules r.mode r.combination
  pub overlap : r.refusal ≡ 19 → TwoRules h.rules r.mode r.combination
  pub first :
      (q f : ℕ) → q < h.modes → f < combinations h → (q < r.mode) ⊎ ((q ≡ r.mode) × (f < r.combination)) → OneRule h.rules q f

unfoldable pub FirstBadPair : Type 0
FirstBadPair = (bs : List ℕ) → ((chart_says bs).refusal ≡ 18) ⊎ ((chart_says bs).refusal ≡ 19) → BadPair (chart_in bs) (chart_says bs)

-- BITS: "flag i is the bit worth 2 to the power i"; a rule whose value is within its care matches exactly if each flag
-- that it cares for is as its value says
unfoldable pub ByBits : Type 0
ByBits =
    (r : Rule) (f : ℕ) → bit_and r.value r.care ≡ r.value →
    (matches r f ≡ true) ↔ ((i : ℕ) → bit r.care i ≡ true → bit f i ≡ bit r.value i)

-- so two rules of a mode overlap exactly if their values agree wherever both care
unfoldable pub OverlapByBits : Type 0
OverlapByBits =
    (r s : Rule) → bit_and r.value r.care ≡ r.value → bit_and s.value s.care ≡ s.value →
    ((f : ℕ) × (matches r f ≡ true) × (matches s f ≡ true)) ↔ ((i : ℕ) → bit r.care i ≡ true → bit s.care i ≡ true → bit r.value i ≡ bit s.value i)
