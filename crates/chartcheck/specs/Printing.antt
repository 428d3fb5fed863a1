-- What `chartcheck` prints of a text, on standard output and, for a dealer, on standard error. Assumes nothing: these are
-- definitions.
use Rattle.std.specs.Prelude.{cond, List, [], ◌∷◌, ◌++◌, ℕ, zero, suc, ltb, eqb}
use Rattle.text.specs.Ascii.{ascii}
use Rattle.model.specs.ClaimLabels.{bit}
use Rattle.model.specs.Chart.{mode_name, chart_in, chart_says}
use Rattle.model.specs.declared.Charted.{Charted}
use Rattle.desk.specs.Lines.{refused_lines}

-- STANDARD OUTPUT: `pass`; or `refused` and the number, and with 18 and 19 two lines for the pair
unfoldable pub charted_lines : Charted → List ℕ
charted_lines c = cond (eqb c.refusal 0) (ascii "pass\n") (refused_lines c.refusal c.mode c.combination)

unfoldable pub printed : (text : List ℕ) → List ℕ
printed bs = charted_lines (chart_says bs)

-- STANDARD ERROR: "the mode's name and the flag combination in bits", flag 0 last, and what is wrong; nothing with 0 and 17
unfoldable pub bit_digit : (flags i : ℕ) → ℕ
bit_digit f i = cond (bit f i) 49 48

unfoldable pub bits : (many flags : ℕ) → List ℕ
bits zero f = []
bits (suc i) f = bit_digit f i ∷ bits i f

unfoldable pub fault_words : (refusal : ℕ) → List ℕ
fault_words k = cond (eqb k 18) (ascii ": no rule\n") (ascii ": more than one rule\n")

unfoldable pub pair_words : (name : List ℕ) → (flags : ℕ) → Charted → List ℕ
pair_words w k c = ascii "mode " ++ w ++ ascii ", flags " ++ bits k c.combination ++ fault_words c.refusal

unfoldable pub told : (text : List ℕ) → List ℕ
told bs =
    let c = chart_says bs in
    let h = chart_in bs in
    cond (ltb 17 c.refusal) (pair_words (mode_name h c.mode) h.flags c) []

-- all of it has room here
abbrev pub page_room : ℕ
page_room = 64
