-- "Bench runs kept": K1 to K11 and two runs with messages under way as one table, and examples of each refusal as a
-- second, each with a test that computes. proofs/KeptRuns.antt proves both tests. Assumes nothing: these are definitions.
use Rattle.std.specs.Prelude.{Bool, true, false, ◌&&◌, List, [], ◌∷◌, ◌++◌, ℕ, zero, suc, ◌+◌, ◌-◌, eqb, replicate}
use Rattle.std.proofs.Math.Option.{Option, none, some}
use Prim.Native.String.{String}
use Rattle.text.specs.Ascii.{ascii}
use Rattle.text.specs.Lines.{equal}
use Rattle.model.specs.Case.{Case, longest_file, least_output, least_work}
use Rattle.model.specs.CaseFile.{case_refusal, run_case}
use Rattle.model.specs.Run.{Tallies, no_tallies, State, has_ended, by_list, by_rounds}
use Rattle.model.specs.Answer.{lasso_verdict, empty_verdict, no_verdict, answer}
use Rattle.model.specs.Passing.{check_refusal}
use Rattle.model.specs.Entry.{list_refusal, rounds_refusal, verdict}

-- TEXTS: a case by its line 2, vertex lines and edge lines; an answer by its line 2, its names and the lines that
-- follow
abbrev pub case_text : (head vertices edges : String) → List ℕ
case_text h vs es = ascii "version vertices edges source workers\n" ++ ascii h ++ ascii "\nvertex accepting owner\n" ++ ascii vs ++ ascii "from to\n" ++ ascii es

abbrev pub answer_text : (head names rows : String) → List ℕ
answer_text h ns rs = ascii "version verdict stem cycle reached\n" ++ ascii h ++ ascii "\n" ++ ascii ns ++ ascii "\n" ++ ascii rs

-- K1 as 01 prints it, and its answer, of version 2
abbrev pub K1 : List ℕ
K1 = ascii "version vertices edges source workers\n1 3 3 0 2\nvertex accepting owner\n0 0 0\n1 1 1\n2 0 0\nfrom to\n0 1\n1 2\n2 1\n"

abbrev pub lasso_of_K1 : List ℕ
lasso_of_K1 = ascii "version verdict stem cycle reached\n2 lasso 1 2 0\nedge\n0\n1\n2\n"

-- K4: one vertex, accepting, without an edge. D: of four vertices only 1 has an edge, to 2, so the loops of 0, 2 and 3 are
-- its edges 1 to 3; only 2 accepts
abbrev pub K4 : List ℕ
K4 = case_text "1 1 0 0 1" "0 1 0\n" ""

abbrev pub D : List ℕ
D = case_text "1 4 1 1 1" "0 0 0\n1 0 0\n2 1 0\n3 0 0\n" "1 2\n"

-- KEPT RUNS: a case, its acts (none: by rounds), and what comes back
pub record Kept : Type 0 where
  pub case : List ℕ
  pub acts : Option (List ℕ)
  pub refusal : ℕ
  pub verdict : ℕ
  pub count : ℕ
  pub tallies : Tallies
  pub answer : List ℕ

unfoldable pub are_tallies : Tallies → Tallies → Bool
are_tallies t u = eqb t.sent u.sent && (eqb t.delivered u.delivered && eqb t.joined u.joined)

unfoldable pub is_outcome : Kept → (refusal verdict count : ℕ) → Tallies → (answer : List ℕ) → Bool
is_outcome k r v n t a = (eqb k.refusal r && eqb k.verdict v) && (eqb k.count n && (are_tallies k.tallies t && equal k.answer a))

-- the outcome is the one that `Entry` names
unfoldable pub comes : Kept → (refusal : ℕ) → (ended : Bool) → Case → State → Bool
comes k (suc r) b c x = is_outcome k (suc r) no_verdict 0 no_tallies []
comes k zero true c x = is_outcome k 0 (verdict x) x.count x.tallies (answer c.graph x)
comes k zero false c x = is_outcome k 10 no_verdict x.count x.tallies []

unfoldable pub holds_by : Kept → (acts : Option (List ℕ)) → Bool
holds_by k none = let x = by_rounds (run_case k.case) in comes k (rounds_refusal k.case least_output least_work) (has_ended x) (run_case k.case) x
holds_by k (some xs) = let x = by_list (run_case k.case) xs in comes k (list_refusal k.case xs least_output least_work) (has_ended x) (run_case k.case) x

unfoldable pub all_hold : List Kept → Bool
all_hold [] = true
all_hold (k ∷ ks) = holds_by k k.acts && all_hold ks

abbrev tally : (sent delivered joined : ℕ) → Tallies
tally s d j = record { sent = s; delivered = d; joined = j }

abbrev lasso : (case : List ℕ) → (count : ℕ) → Tallies → (answer : List ℕ) → Kept
lasso c n t a = record { case = c; acts = none; refusal = 0; verdict = lasso_verdict; count = n; tallies = t; answer = a }

abbrev empty : (case : List ℕ) → (count : ℕ) → Tallies → (answer : List ℕ) → Kept
empty c n t a = record { case = c; acts = none; refusal = 0; verdict = empty_verdict; count = n; tallies = t; answer = a }

abbrev refused : (case : List ℕ) → (acts : Option (List ℕ)) → (refusal : ℕ) → Kept
refused c xs k = record { case = c; acts = xs; refusal = k; verdict = no_verdict; count = 0; tallies = no_tallies; answer = [] }

abbrev cut_short : (case acts : List ℕ) → (count : ℕ) → Tallies → Kept
cut_short c xs n t = record { case = c; acts = some xs; refusal = 10; verdict = no_verdict; count = n; tallies = t; answer = [] }

-- K1 to K11, a row each; then K1 with its first message under way, a run in which a message joins, and D
abbrev pub kept_runs : List Kept
kept_runs =
    lasso K1 8 (tally 4 4 0) lasso_of_K1
    ∷ empty (case_text "1 3 3 0 2" "0 1 0\n1 0 1\n2 0 0\n" "0 1\n1 2\n2 1\n") 6 (tally 3 3 0) (answer_text "2 empty 0 0 3" "vertex distance" "0 0\n1 -1\n2 -1\n")
    ∷ lasso (case_text "1 1 1 0 1" "0 1 0\n" "0 0\n") 2 no_tallies (answer_text "2 lasso 0 1 0" "edge" "0\n")
    ∷ lasso K4 2 no_tallies (answer_text "2 lasso 0 1 0" "edge" "0\n")
    ∷ empty (case_text "1 1 1 0 1" "0 0 0\n" "0 0\n") 1 no_tallies (answer_text "2 empty 0 0 1" "vertex distance" "0 0\n")
    ∷ empty (case_text "1 2 1 0 1" "0 0 0\n1 1 0\n" "1 1\n") 1 no_tallies (answer_text "2 empty 0 0 1" "vertex distance" "0 0\n")
    ∷ refused K1 (some []) 10
    ∷ lasso (case_text "1 3 3 0 1" "0 0 0\n1 1 0\n2 0 0\n" "0 1\n1 2\n2 1\n") 4 no_tallies lasso_of_K1
    ∷ refused K1 (some (2 ∷ [])) 10
    ∷ refused (case_text "2 3 3 0 2" "0 0 0\n1 1 1\n2 0 0\n" "0 1\n1 2\n2 1\n") none 3
    ∷ refused (case_text "1 3 4 0 2" "0 0 0\n1 1 1\n2 0 0\n" "0 1\n1 2\n1 2\n2 1\n") none 8
    ∷ cut_short K1 (0 ∷ []) 1 (tally 1 0 0)
    ∷ cut_short (case_text "1 3 4 0 3" "0 0 0\n1 1 1\n2 0 2\n" "0 1\n0 2\n1 0\n1 2\n") (0 ∷ 3 ∷ 1 ∷ 5 ∷ 0 ∷ []) 5 (tally 6 2 1)
    ∷ lasso D 3 no_tallies (answer_text "2 lasso 1 1 0" "edge" "0\n2\n")
    ∷ []

-- EXAMPLES OF REFUSALS: what is asked of a case (to be judged; to be run by a list, with buffers so long; to be the
-- case of an answer), and the refusal, 0 where there is none
pub data Asked : Type 0 where
  judge : Asked
  run : (acts : List ℕ) → (output work : ℕ) → Asked
  check : (answer : List ℕ) → Asked

pub record Example : Type 0 where
  pub refusal : ℕ
  pub case : List ℕ
  pub asked : Asked

unfoldable pub refusal_by : (case : List ℕ) → Asked → ℕ
refusal_by bs judge = case_refusal bs
refusal_by bs (run xs o w) = list_refusal bs xs o w
refusal_by bs (check ts) = check_refusal bs ts

unfoldable pub all_refused : List Example → Bool
all_refused [] = true
all_refused (x ∷ xs) = eqb (refusal_by x.case x.asked) x.refusal && all_refused xs

abbrev judged : (refusal : ℕ) → (case : List ℕ) → Example
judged k bs = record { refusal = k; case = bs; asked = judge }

abbrev ran : (refusal : ℕ) → (case acts : List ℕ) → (output work : ℕ) → Example
ran k bs xs o w = record { refusal = k; case = bs; asked = run xs o w }

-- an answer to K1
abbrev checked : (refusal : ℕ) → (answer : List ℕ) → Example
checked k ts = record { refusal = k; case = K1; asked = check ts }

abbrev too_long : List ℕ
too_long = replicate (longest_file + 1) 0

-- each refusal of a case file: 1 to 8
abbrev case_examples : List Example
case_examples =
    judged 1 too_long
    ∷ judged 2 []
    ∷ judged 2 (ascii "versions vertices edges source workers\n")
    ∷ judged 2 (ascii "versio")
    ∷ judged 3 (ascii "version x\n2")
    ∷ judged 3 (ascii "version \n0 1\n")
    ∷ judged 3 (case_text "2 3 3 0 2" "" "")
    ∷ judged 4 (ascii "version 2")
    ∷ judged 4 (ascii "version x\n01")
    ∷ judged 4 (ascii "version x\n1234567890")
    ∷ judged 4 (ascii "version vertices edges source workers\n1 1 0 0 99")
    ∷ judged 4 (case_text "1 1 0 0" "" "")
    ∷ judged 4 (case_text "1 1 0  0 1" "" "")
    ∷ judged 4 (case_text "1 1 0 00 1" "" "")
    ∷ judged 4 (case_text "1 1 1 0 1" "0 1 0\n" "0 9")
    ∷ judged 4 (case_text "1 1 1 0 1" "0 1 0\n" "0 0\n\n")
    ∷ judged 4 (case_text "1 1 1 0 1" "0 1 0\n" "")
    ∷ judged 4 (case_text "1 1 0 0 1" "0 1 0 \n" "")
    ∷ judged 5 (case_text "1 0 0 0 1" "" "")
    ∷ judged 5 (case_text "1 501 0 0 1" "" "")
    ∷ judged 5 (case_text "1 1 2001 0 1" "" "")
    ∷ judged 5 (case_text "1 1 0 1 1" "" "")
    ∷ judged 5 (case_text "1 1 0 0 0" "" "")
    ∷ judged 5 (case_text "1 1 0 0 17" "" "")
    ∷ judged 5 (ascii "version vertices edges source workers\n1 0 0 0 1\nvertex acc")
    ∷ judged 6 (case_text "1 1 0 0 1" "1 1 0\n" "")
    ∷ judged 6 (case_text "1 1 0 0 1" "0 2 0\n" "")
    ∷ judged 6 (case_text "1 1 0 0 1" "0 1 1\n" "torn")
    ∷ judged 7 (case_text "1 1 1 0 1" "0 1 0\n" "1 0\n")
    ∷ judged 7 (case_text "1 1 1 0 1" "0 1 0\n" "0 1\n")
    ∷ judged 7 (case_text "1 2 2 0 1" "0 1 0\n1 1 0\n" "1 1\n0 2\n")
    ∷ judged 8 (case_text "1 1 2 0 1" "0 1 0\n" "0 0\n0 0\n")
    ∷ judged 8 (case_text "1 2 2 0 1" "0 1 0\n1 1 0\n" "0 1\n0 0\n")
    ∷ judged 8 (case_text "1 2 3 0 1" "0 1 0\n1 1 0\n" "1 0\n0 1\n")
    ∷ judged 0 K1
    ∷ []

-- 11 goes before a bad file, 1 to 8 before 9; 9 falls on an act anywhere in the list, also after the run's end
abbrev run_examples : List Example
run_examples =
    ran 11 K1 [] (least_output - 1) least_work
    ∷ ran 11 K1 [] least_output (least_work - 1)
    ∷ ran 11 [] (9 ∷ []) 0 0
    ∷ ran 2 [] (9 ∷ []) least_output least_work
    ∷ ran 9 K1 (5 ∷ []) least_output least_work
    ∷ ran 9 K1 (0 ∷ 0 ∷ 4000000000 ∷ []) least_output least_work
    ∷ ran 9 K4 (0 ∷ 1 ∷ []) least_output least_work
    ∷ ran 9 D (2 ∷ []) least_output least_work
    ∷ ran 0 D (1 ∷ 0 ∷ []) least_output least_work
    ∷ ran 0 K1 (4 ∷ 1 ∷ []) least_output least_work
    ∷ []

-- 12 and 13, and what the checker shares with the case: 1 and 3; the last ones pass
abbrev check_examples : List Example
check_examples =
    record { refusal = 1; case = too_long; asked = check too_long }
    ∷ record { refusal = 2; case = []; asked = check too_long }
    ∷ checked 1 too_long
    ∷ checked 3 (answer_text "3 lasso 1 2 0" "edge" "")
    ∷ checked 3 (answer_text "10 lasso 1 2 0" "edge" "")
    ∷ checked 3 (ascii "version \n0")
    ∷ checked 12 []
    ∷ checked 12 (ascii "answer 1")
    ∷ checked 12 (answer_text "01 lasso 1 2 0" "edge" "0\n1\n2\n")
    ∷ checked 12 (answer_text "02 lasso 1 2 0" "edge" "0\n1\n2\n")
    ∷ checked 12 (answer_text "1 open 1 2 0" "edge" "0\n1\n2\n")
    ∷ checked 12 (answer_text "1 lasso 1 0 0" "edge" "0\n")
    ∷ checked 12 (answer_text "1 lasso 1 2 1" "edge" "0\n1\n2\n")
    ∷ checked 12 (answer_text "1 lasso 501 2 0" "edge" "")
    ∷ checked 12 (answer_text "1 lasso 1 2 0" "vertex distance" "0\n1\n2\n")
    ∷ checked 12 (answer_text "1 lasso 1 2 0" "edge" "0\n1\n2")
    ∷ checked 12 (answer_text "1 lasso 1 2 0" "edge" "0\n1\n1\n0\n")
    ∷ checked 12 (answer_text "1 empty 0 0 0" "vertex distance" "")
    ∷ checked 12 (answer_text "1 empty 1 0 1" "vertex distance" "0 0\n")
    ∷ checked 12 (answer_text "1 empty 0 0 1" "vertex distance" "0 -0\n")
    ∷ checked 12 (answer_text "1 empty 0 0 1" "vertex distance" "0 501\n")
    ∷ checked 12 (answer_text "1 empty 0 0 1" "vertex distance" "0 -501\n")
    ∷ checked 12 (answer_text "1 empty 0 0 1" "vertex distance" "0 --1\n")
    ∷ checked 13 (answer_text "1 lasso 1 2 0" "edge" "0\n3\nx")
    ∷ checked 13 (answer_text "1 lasso 1 2 0" "edge" "0\n1\n1\n")
    ∷ checked 13 (answer_text "1 lasso 0 2 0" "edge" "1\n2\n")
    ∷ checked 13 (answer_text "1 lasso 1 1 0" "edge" "0\n1\n")
    ∷ checked 13 (answer_text "1 empty 0 0 1" "vertex distance" "9 -0\n")
    ∷ checked 13 (answer_text "1 empty 0 0 2" "vertex distance" "1 0\n0 0\n")
    ∷ checked 13 (answer_text "1 empty 0 0 1" "vertex distance" "1 0\n")
    ∷ checked 13 (answer_text "1 empty 0 0 1" "vertex distance" "0 0\n")
    ∷ checked 13 (answer_text "1 empty 0 0 3" "vertex distance" "0 0\n1 0\n2 -1\n")
    ∷ checked 0 lasso_of_K1
    ∷ checked 0 (answer_text "1 lasso 1 2 0" "edge" "0\n1\n2\n")
    ∷ checked 0 (answer_text "1 lasso 3 4 0" "edge" "0\n1\n2\n1\n2\n1\n2\n")
    ∷ record { refusal = 0; case = case_text "1 3 1 0 1" "0 1 0\n1 0 0\n2 0 0\n" "0 1\n"; asked = check (answer_text "1 empty 0 0 3" "vertex distance" "0 500\n1 499\n2 -500\n") }
    ∷ []

-- a vertex that accepts and has no edge, out of reach
abbrev apart : List ℕ
apart = case_text "1 2 1 0 1" "0 0 0\n1 1 0\n" "0 0\n"

abbrev answered : (refusal : ℕ) → (case : List ℕ) → (head names rows : String) → Example
answered k bs h ns rs = record { refusal = k; case = bs; asked = check (answer_text h ns rs) }

-- version 2 means the graph with its rest loops, version 1 the file's: each of these texts in both
abbrev version_examples : List Example
version_examples =
    answered 0 K4 "2 lasso 0 1 0" "edge" "0\n"
    ∷ answered 13 K4 "1 lasso 0 1 0" "edge" "0\n"
    ∷ answered 13 K4 "2 empty 0 0 1" "vertex distance" "0 0\n"
    ∷ answered 0 K4 "1 empty 0 0 1" "vertex distance" "0 0\n"
    ∷ answered 0 D "2 lasso 1 1 0" "edge" "0\n2\n"
    ∷ answered 13 D "1 lasso 1 1 0" "edge" "0\n2\n"
    ∷ answered 13 D "2 lasso 1 1 0" "edge" "0\n4\n"
    ∷ answered 13 D "2 lasso 1 1 0" "edge" "0\n3\n"
    ∷ answered 13 D "2 empty 0 0 2" "vertex distance" "1 0\n2 0\n"
    ∷ answered 0 D "1 empty 0 0 2" "vertex distance" "1 0\n2 0\n"
    ∷ answered 0 apart "2 empty 0 0 1" "vertex distance" "0 0\n"
    ∷ answered 13 apart "2 empty 0 0 2" "vertex distance" "0 0\n1 0\n"
    ∷ answered 0 apart "1 empty 0 0 2" "vertex distance" "0 0\n1 0\n"
    ∷ []

-- the table of examples
abbrev pub examples : List Example
examples = case_examples ++ run_examples ++ check_examples ++ version_examples
