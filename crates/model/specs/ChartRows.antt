-- Examples of charts: what each returns, as a table with a test that computes. proofs/ChartRows.antt proves it. Assumes
-- nothing: these are definitions.
use Rattle.std.specs.Prelude.{Bool, true, ◌&&◌, List, [], ◌∷◌, ◌++◌, ℕ, zero, suc, eqb, replicate}
use Prim.Native.String.{String}
use Rattle.text.specs.Ascii.{ascii}
use Rattle.model.specs.Chart.{charted, chart_says}
use Rattle.model.specs.declared.Charted.{Charted}

pub record Row : Type 0 where
  pub text : List ℕ
  pub returned : Charted

unfoldable pub is_charted : (expected returned : Charted) → Bool
is_charted a b = eqb a.refusal b.refusal && (eqb a.mode b.mode && eqb a.combination b.combination)

unfoldable pub all_charted : List Row → Bool
all_charted [] = true
all_charted (r ∷ rs) = is_charted r.returned (chart_says r.text) && all_charted rs

abbrev row : Charted → (text : List ℕ) → Row
row c bs = record { text = bs; returned = c }

abbrev passes : List ℕ → Row
passes = row (charted 0 0 0)

abbrev faulty : List ℕ → Row
faulty = row (charted 17 0 0)

abbrev gap : (mode flags : ℕ) → List ℕ → Row
gap q f = row (charted 18 q f)

abbrev overlap : (mode flags : ℕ) → List ℕ → Row
overlap q f = row (charted 19 q f)

-- a chart by its line 2, its names and its rules
abbrev lines_of : (head : String) → (names rules : List ℕ) → List ℕ
lines_of h ns rs = ascii "version modes start flags\n" ++ ascii h ++ ascii "\nname\n" ++ ns ++ ascii "mode care value next\n" ++ rs

abbrev chart : (head names rules : String) → List ℕ
chart h ns rs = lines_of h (ascii ns) (ascii rs)

-- one of a mode and a flag by its rules; by its line 2, where one rule is right; by its name
abbrev ruled : String → List ℕ
ruled rs = chart "1 1 0 1" "a\n" rs

abbrev headed : String → List ℕ
headed h = chart h "a\n" "0 0 0 0\n"

abbrev called : String → List ℕ
called n = chart "1 1 0 1" n "0 0 0 0\n"

-- one line so many times
unfoldable pub times : ℕ → List ℕ → List ℕ
times zero l = []
times (suc k) l = l ++ times k l

-- so many modes of one name with one rule, and one mode with so many equal rules
abbrev modes : (head : String) → ℕ → List ℕ
modes h k = lines_of h (times k (ascii "a\n")) (ascii "0 0 0 0\n")

abbrev equal_rules : ℕ → List ℕ
equal_rules k = lines_of "1 1 0 1" (ascii "a\n") (times k (ascii "0 0 0 0\n"))

-- "exactly one rule", whatever the order; "18, no rule for a pair; 19, two rules", which may be equal; the first bad pair
abbrev pair_rows : List Row
pair_rows =
    passes (ruled "0 0 0 0\n")
    ∷ passes (ruled "0 1 1 0\n0 1 0 0\n")
    ∷ passes (chart "1 2 1 2" "Hold\nHold\n" "1 0 0 0\n0 2 2 1\n0 2 0 0\n")
    ∷ passes (chart "1 1 0 3" "a\n" "0 3 1 0\n0 6 2 0\n0 5 4 0\n0 7 0 0\n0 7 7 0\n")
    ∷ gap 0 0 (ruled "")
    ∷ gap 0 1 (ruled "0 1 0 0\n")
    ∷ gap 1 1 (chart "1 2 1 1" "a\na\n" "0 0 0 0\n1 1 0 0\n")
    ∷ gap 0 1 (chart "1 2 1 1" "a\na\n" "1 0 0 0\n1 1 0 0\n0 1 0 0\n")
    ∷ overlap 0 0 (ruled "0 0 0 0\n0 0 0 0\n")
    ∷ overlap 0 1 (ruled "0 1 1 0\n0 0 0 0\n")
    ∷ overlap 0 1 (chart "1 2 1 1" "a\na\n" "0 0 0 0\n0 1 1 1\n1 1 0 0\n")
    ∷ []

-- "17, layout, range, version not 1, or a value bit outside care", before any pair
abbrev rule_rows : List Row
rule_rows =
    faulty (ruled "0 0 0 0\n0 0 0 0\n0 0 0 1\n")
    ∷ faulty (ruled "0 0 0 0")
    ∷ faulty (ruled "0 0 0 0\n\n")
    ∷ faulty (ruled "0 0 0\n")
    ∷ faulty (ruled "0 0 0 0 0\n")
    ∷ faulty (ruled "0 0 0  0\n")
    ∷ faulty (ruled "0 0 0 00\n")
    ∷ faulty (ruled "0 2 0 0\n")
    ∷ faulty (ruled "0 0 1 0\n")
    ∷ faulty (chart "1 1 0 2" "a\n" "0 1 2 0\n0 0 0 0\n")
    ∷ faulty (ruled "0 0 0 1\n")
    ∷ faulty (ruled "1 0 0 0\n")
    ∷ []

abbrev head_rows : List Row
head_rows =
    passes (headed "1 1 0 8")
    ∷ faulty (headed "1 1 0 9")
    ∷ faulty (headed "1 1 0 0")
    ∷ faulty (headed "1 1 1 1")
    ∷ faulty (headed "2 1 0 1")
    ∷ faulty (headed "0 1 0 1")
    ∷ faulty (headed "1 1 0")
    ∷ faulty (chart "1 0 0 1" "" "")
    ∷ []

abbrev name_rows : List Row
name_rows =
    passes (called "0123456789abcdeZ\n")
    ∷ faulty (called "0123456789abcdefg\n")
    ∷ faulty (called "\n")
    ∷ faulty (called "a-b\n")
    ∷ faulty (called "a b\n")
    ∷ faulty (called "a\r\n")
    ∷ faulty (called "")
    ∷ []

-- limits: a chart at each of them is looked at pair by pair, one past it is not
abbrev limit_rows : List Row
limit_rows =
    gap 1 0 (modes "1 32 31 1" 32)
    ∷ faulty (modes "1 33 0 1" 33)
    ∷ overlap 0 0 (equal_rules 512)
    ∷ faulty (equal_rules 513)
    ∷ faulty (replicate 65537 0)
    ∷ faulty []
    ∷ faulty (ascii "version modes start flags\n1 1 0 1\nname\na\n")
    ∷ []

abbrev pub rows : List Row
rows = pair_rows ++ rule_rows ++ head_rows ++ name_rows ++ limit_rows
