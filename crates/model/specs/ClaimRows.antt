-- Examples of claims: the refusal of texts, a group for each rule of docs/FORMATS.md, and what claims mean, as tables
-- with tests that compute. proofs/ClaimRows.antt proves them. Assumes nothing: these are definitions.
use Rattle.std.specs.Prelude.{Bool, true, false, ◌&&◌, ◌||◌, not, List, [], ◌∷◌, ◌++◌, ℕ, ◌-◌, eqb, length, replicate}
use Rattle.std.proofs.Math.Option.{Option, none, some}
use Prim.Native.String.{String}
use Rattle.text.specs.Ascii.{ascii, space, line_feed}
use Rattle.text.specs.Lines.{equal}
use Rattle.model.specs.ClaimTokens.{quote}
use Rattle.model.specs.ClaimTable.{claim_refusal}
use Rattle.model.specs.Claim.{Claim, state, claim_moves, claim_leads, claim_in}

-- REFUSALS: a text and its refusal, 0 where it is taken
pub record Row : Type 0 where
  pub number : ℕ
  pub text : List ℕ

unfoldable pub all_so : List Row → Bool
all_so [] = true
all_so (r ∷ rs) = eqb (claim_refusal r.text) r.number && all_so rs

abbrev row : ℕ → List ℕ → Row
row k t = record { number = k; text = t }

abbrev blanks : ℕ → List ℕ
blanks k = replicate k space

-- a claim of one state by what stands after `HOA: v1`
abbrev headed : ℕ → String → Row
headed k s = row k (ascii "HOA: v1 " ++ ascii s ++ ascii " --BODY-- State: 0 [t] 0 --END--")

-- one with a state count and a start by its acceptance
abbrev accepting : ℕ → String → Row
accepting k s = row k (ascii "HOA: v1 States: 1 Start: 0 Acceptance: " ++ ascii s ++ ascii " --BODY-- State: 0 [t] 0 --END--")

-- a claim of two states and two propositions by its body
abbrev head : List ℕ
head = ascii "HOA: v1\nStates: 2\nStart: 0\nAP: 2 \"p\" \"q\"\nAcceptance: 1 Inf(0)\n--BODY--\n"

abbrev bodied : ℕ → String → Row
bodied k s = row k (head ++ ascii s)

-- by the name of its state 0
abbrev titled : ℕ → List ℕ → Row
titled k w = row k (head ++ ascii "State: 0 \"" ++ w ++ ascii "\" [t] 1 State: 1 --END--")

-- by the label of its first edge
abbrev labelled : String → List ℕ
labelled s = head ++ ascii "State: 0 \"hold\" {0}\n[" ++ ascii s ++ ascii "] 1\nState: 1\n[t] 1\n--END--\n"

abbrev label_row : ℕ → String → Row
label_row k s = row k (labelled s)

abbrev right : List ℕ
right = labelled "t"

-- tokens: blanks, names, integers, strings; "a comment, alias"
abbrev token_rows : List Row
token_rows =
    row 0 (ascii "HOA:v1 States:1Start:0Acceptance:1Inf(0)--BODY--State:0[t]0--END--")
    ∷ row 0 (ascii "HOA:" ++ (9 ∷ 10 ∷ 11 ∷ 12 ∷ 13 ∷ 32 ∷ []) ++ ascii "v1\tStates:\t1\r\nStart: 0 Acceptance: 1 Inf ( 0 ) --BODY-- State: 0 [ t ] 0 --END--\n")
    ∷ headed 15 "States : 1 Start: 0 Acceptance: 1 Inf(0)"
    ∷ headed 16 "States: 1 Start: 0 Acceptance: 1 Inf(0) x: foo--BODY-- State: 0 [t] 0"
    ∷ headed 15 "States: 01 Start: 0 Acceptance: 1 Inf(0)"
    ∷ headed 15 "States: 1 Start: 0 Acceptance: 01 Inf(0)"
    ∷ headed 15 "x: 00 States: 1 Start: 0 Acceptance: 1 Inf(0)"
    ∷ headed 15 "x: 2147483648 States: 1 Start: 0 Acceptance: 1 Inf(0)"
    ∷ headed 0 "x: 2147483647 States: 1 Start: 0 Acceptance: 1 Inf(0)"
    ∷ headed 0 "x: \"a\\\"b/*\n\" States: 1 Start: 0 Acceptance: 1 Inf(0)"
    ∷ headed 15 "x: \"a\\\" States: 1 Start: 0 Acceptance: 1 Inf(0)"
    ∷ row 16 (ascii "HOA: v1/*")
    ∷ row 15 (ascii "HOA: v1/")
    ∷ row 15 (ascii "HOA: v1 /x /*")
    ∷ row 15 (ascii "HOA: v1 @a")
    ∷ row 15 (ascii "HOA: v1 @ /*")
    ∷ row 15 (ascii "HOA: v1 --ABORT--")
    ∷ row 16 (right ++ ascii "/**/")
    ∷ row 15 (right ++ ascii "/x")
    ∷ []

-- 14, on the whole text and before all else
abbrev opening_rows : List Row
opening_rows =
    row 14 []
    ∷ row 14 (ascii "HOA: v2")
    ∷ row 14 (ascii "HOA: v1x")
    ∷ row 14 (ascii "HOA: v1:")
    ∷ row 14 (ascii "HOA: v1States: 1")
    ∷ row 14 (ascii "/**/HOA: v1")
    ∷ row 14 (ascii "HOA: /**/ v1")
    ∷ row 14 (blanks 20000)
    ∷ row 15 (ascii "HOA:v1")
    ∷ row 15 (ascii "HOA: v1.1")
    ∷ row 15 (blanks 20000 ++ right)
    ∷ []

-- "too great a length at byte 16,385": what that byte or a later one would tell is 15. The document's number, not ours
abbrev length_rows : List Row
length_rows =
    row 0 (right ++ blanks (16384 - length right))
    ∷ row 15 (right ++ blanks (16385 - length right))
    ∷ row 16 (ascii "HOA: v1" ++ blanks (16380 - 7) ++ ascii "Foo: /*")
    ∷ row 15 (ascii "HOA: v1" ++ blanks (16381 - 7) ++ ascii "Foo: /*")
    ∷ row 16 (ascii "HOA: v1" ++ blanks (16382 - 7) ++ ascii "/*")
    ∷ row 15 (ascii "HOA: v1" ++ blanks (16383 - 7) ++ ascii "/*")
    ∷ []

-- States, Start and AP; a comment shows that what stands before it is taken
abbrev count_rows : List Row
count_rows =
    headed 15 "States: 0 /**/"
    ∷ headed 16 "States: 15 /**/"
    ∷ headed 15 "States: 16 /**/"
    ∷ headed 15 "States: 1 States: /**/"
    ∷ headed 15 "Start: 15 /**/"
    ∷ headed 16 "Start: 14 /**/"
    ∷ headed 15 "Start: 2 States: 2 /**/"
    ∷ headed 16 "Start: 2 /**/ States: 2"
    ∷ headed 15 "States: 2 Start: 2 /**/"
    ∷ headed 0 "Acceptance: 1 Inf(0) Start: 0 States: 1"
    ∷ headed 16 "Start: 0 Start: 0"
    ∷ headed 16 "Start: 0 & 0"
    ∷ headed 15 "Start: 0 | 0"
    ∷ headed 15 "Start: 0 {0}"
    ∷ headed 16 "AP: 8 /**/"
    ∷ headed 15 "AP: 9 /**/"
    ∷ headed 15 "AP: 1 Start: /**/"
    ∷ headed 15 "AP: 1 \"p\" \"q\" /**/"
    ∷ headed 0 "AP: 2 \"p\" \"p\" States: 1 Start: 0 Acceptance: 1 Inf(0)"
    ∷ headed 0 "AP: 0 States: 1 Start: 0 Acceptance: 1 Inf(0)"
    ∷ headed 15 "AP: 0 AP: /**/"
    ∷ []

-- "state marks with `Acceptance: 1 Inf(0)`"
abbrev acceptance_rows : List Row
acceptance_rows =
    accepting 0 "1 Inf(0)"
    ∷ accepting 16 "0 t"
    ∷ accepting 16 "2 Inf(0)"
    ∷ accepting 16 "1 Fin(0)"
    ∷ accepting 16 "1 t"
    ∷ accepting 16 "1 (Inf(0))"
    ∷ accepting 16 "1 Inf(!0)"
    ∷ accepting 16 "1 Inf(1)"
    ∷ accepting 16 "1 Inf(0) & Inf(0)"
    ∷ accepting 16 "1 Inf(0) | Inf(0)"
    ∷ accepting 15 "1"
    ∷ accepting 15 "1 \"Inf(0)\""
    ∷ accepting 15 "1 Inf 0"
    ∷ accepting 15 "1 Inf(0) Inf(0)"
    ∷ accepting 15 "1 Inf(0) Acceptance: /**/"
    ∷ row 16 (ascii "HOA: v1 Acceptance: 1 I")
    ∷ []

-- other headers, and the end of the header
abbrev header_rows : List Row
header_rows =
    headed 0 "name: x name: \"y\" 1 States: 1 Start: 0 Acceptance: 1 Inf(0) properties: a-b c"
    ∷ headed 15 "tool: ("
    ∷ headed 16 "tool: /**/"
    ∷ headed 16 "Foo: ("
    ∷ headed 16 "State: 0"
    ∷ headed 16 "Alias: @a 0"
    ∷ headed 15 "_x: /**/"
    ∷ headed 15 "HOA: /**/"
    ∷ headed 15 "0 /**/"
    ∷ headed 15 "--END-- /**/"
    ∷ headed 15 "Start: 0 Acceptance: 1 Inf(0)"
    ∷ headed 15 "States: 1 Acceptance: 1 Inf(0)"
    ∷ headed 15 "States: 1 Start: 0"
    ∷ []

-- state lines: "state label, edge mark"; "line for one state"
abbrev line_rows : List Row
line_rows =
    bodied 0 "State: 1 State: 0 [t] 1 --END--"
    ∷ bodied 15 "State: 2 /**/"
    ∷ bodied 15 "State: 0 State: 0 /**/"
    ∷ bodied 15 "State: 0 State: 1 State: /**/"
    ∷ bodied 15 "State: 0 --END-- /**/"
    ∷ bodied 16 "State: [0] 0"
    ∷ bodied 16 "State: 0 [t] 1 {0}"
    ∷ bodied 16 "State: 0 [t] 1 {}"
    ∷ bodied 15 "State: 0 [t] 1 & 0 /**/"
    ∷ bodied 15 "State: 0 1 /**/"
    ∷ bodied 15 "State: 0 [t] 1 1 /**/"
    ∷ bodied 15 "State: 0 [t] 2 /**/"
    ∷ bodied 0 "State: 0 [t] 1 [t] 1 [f] 0 State: 1 --END--"
    ∷ bodied 0 "State: 0 {0 0} State: 1 {} --END--"
    ∷ bodied 15 "State: 0 {1} /**/"
    ∷ bodied 15 "State: 0 {0} \"x\" /**/"
    ∷ bodied 15 "State: 0 {0} {0} /**/"
    ∷ bodied 0 "State: 0 \"\" {0} [t] 1 State: 1 --END--"
    ∷ titled 0 (replicate 32 200)
    ∷ titled 15 (replicate 33 200)
    ∷ titled 15 (line_feed ∷ [])
    ∷ titled 15 (92 ∷ line_feed ∷ [])
    ∷ titled 0 (92 ∷ quote ∷ [])
    ∷ row 15 (right ++ ascii "HOA: v1")
    ∷ row 15 (right ++ ascii "--END--")
    ∷ []

-- "A label may nest brackets and negations up to 16 deep"
abbrev label_rows : List Row
label_rows =
    label_row 0 "!(0&1)|!!1&f"
    ∷ label_row 0 "!!!!!!!!!!!!!!!!0"
    ∷ label_row 15 "!!!!!!!!!!!!!!!!!0"
    ∷ label_row 0 "!(!(!(!(!(!(!(!(0))))))))"
    ∷ label_row 15 "!(!(!(!(!(!(!(!(!0))))))))"
    ∷ label_row 0 "(!!!!!!!!!!!!!!!0)&(!!!!!!!!!!!!!!!1)"
    ∷ label_row 16 "0 & @a"
    ∷ label_row 16 "@a"
    ∷ label_row 15 "0 @a"
    ∷ label_row 15 "0 1 @a"
    ∷ label_row 15 "2"
    ∷ label_row 15 ""
    ∷ label_row 15 "true"
    ∷ label_row 15 "(0"
    ∷ label_row 15 "0)"
    ∷ label_row 15 "0 & & 1"
    ∷ label_row 16 "0 /**/"
    ∷ []

abbrev pub rows : List Row
rows = token_rows ++ opening_rows ++ length_rows ++ count_rows ++ acceptance_rows ++ header_rows ++ line_rows ++ label_rows

-- MEANING: on these flag values a state moves to another, or does not
pub record Move : Type 0 where
  pub label : String
  pub values : ℕ
  pub moves : Bool

unfoldable pub same_bool : Bool → Bool → Bool
same_bool true b = b
same_bool false b = not b

unfoldable pub all_move : List Move → Bool
all_move [] = true
all_move (m ∷ ms) = same_bool (claim_moves (claim_in (labelled m.label)) m.values 0 1) m.moves && all_move ms

abbrev move : String → ℕ → Bool → Move
move l f b = record { label = l; values = f; moves = b }

-- "! binds before &, and & before |"
abbrev pub moves : List Move
moves =
    move "0|1&!0" 0 false
    ∷ move "0|1&!0" 1 true
    ∷ move "0|1&!0" 2 true
    ∷ move "0|1&!0" 3 true
    ∷ move "!0&1" 0 false
    ∷ move "!0&1" 2 true
    ∷ move "!(0&1)" 0 true
    ∷ move "!(0&1)" 3 false
    ∷ move "(0|1)&!1" 1 true
    ∷ move "(0|1)&!1" 2 false
    ∷ move "t" 0 true
    ∷ move "f" 3 false
    ∷ []

-- a claim by its counts, names, marks and leads
abbrev pub watched : List ℕ
watched = ascii "HOA: v1\nname: \"after hold, climb\"\nStates: 3\nStart: 2\nAP: 1 \"low\"\nAcceptance: 1 Inf(0)\n--BODY--\nState: 2 \"watch\"\n[t] 2\n[0 & !0] 0\nState: 0 {0}\n[!0] 0\nState: 1 \"done\" {}\n--END--\n"

unfoldable pub is_named : List ℕ → Option (List ℕ) → Bool
is_named w none = false
is_named w (some v) = equal w v

unfoldable pub is_unnamed : Option (List ℕ) → Bool
is_unnamed none = true
is_unnamed (some w) = false

unfoldable pub means : Claim → Bool
means k =
    (eqb (length k.states) 3 && (eqb k.start 2 && eqb k.propositions 1))
    && ((is_unnamed (state k 0).name && (is_named (ascii "done") (state k 1).name && is_named (ascii "watch") (state k 2).name))
    && (((state k 0).accepting && not ((state k 1).accepting || (state k 2).accepting))
    && ((claim_leads k 2 0 && not (claim_moves k 0 2 0 || claim_moves k 1 2 0)) && (claim_moves k 0 0 0 && not (claim_moves k 1 0 0)))))
