-- "The checker reads a case and an answer": the answer file's refusals 1, 12, 3, 12, 13 in their order, and the
-- passing rule. Assumes nothing: these are definitions.
use Rattle.std.specs.Prelude.{Bool, true, false, ◌&&◌, ◌||◌, not, cond, List, [], ◌∷◌, ℕ, zero, suc, ◌+◌, ltb, leb, eqb, length, take, drop, ℤ, nat_abs, ◌+ℤ◌}
use Rattle.std.proofs.Math.Option.{Option, none, some}
use Rattle.std.specs.Int.Signed.{le_z}
use Rattle.text.specs.Ascii.{ascii}
use Rattle.text.specs.Lines.{Line, lines, line_at, line_is, fields, field, equal}
use Rattle.text.specs.Numbers.{is_number, is_signed, signed_value, numbers_line, number_at}
use Rattle.model.specs.Graph.{Graph, edge, rested, edge_length, is_lasso}
use Rattle.model.specs.Case.{longest_file, most_listed, farthest, known_version, answer_version}
use Rattle.model.specs.CaseFile.{refuse, first_of, begins_version, other_version, column, case_refusal, case_in}
use Rattle.model.specs.Answer.{answer_names, lasso_names, empty_names, lasso_word, empty_word, lasso_verdict, empty_verdict}

-- LINE 2: "the version, the verdict, the number of stem edges, of cycle edges, and of vertex lines"
unfoldable pub says_lasso : (head : Line) → Bool
says_lasso h = equal (field h 1) lasso_word

unfoldable pub says_empty : (head : Line) → Bool
says_empty h = equal (field h 1) empty_word

unfoldable pub head_layout : (head : Line) → Bool
head_layout h =
    (h.closed && eqb (length (fields h.text)) 5)
    && ((is_number (field h 0) && (says_lasso h || says_empty h)) && (is_number (field h 2) && (is_number (field h 3) && is_number (field h 4))))

-- "12: a count above 500, or counts that do not suit the verdict ("lasso": cycle at least 1, reached 0; "empty": stem
-- and cycle 0, reached at least 1)"
unfoldable pub counts_suit : (lasso : Bool) → (stem cycle reached : ℕ) → Bool
counts_suit true s k r = leb 1 k && eqb r 0
counts_suit false s k r = (eqb s 0 && eqb k 0) && leb 1 r

unfoldable pub counts_fit : (head : Line) → Bool
counts_fit h =
    (leb (number_at h 2) most_listed && (leb (number_at h 3) most_listed && leb (number_at h 4) most_listed))
    && counts_suit (says_lasso h) (number_at h 2) (number_at h 3) (number_at h 4)

-- EDGE LINES, so many: "12: layout"; "13: an edge number out of range"
unfoldable pub listed_edges_refusal : (left edges : ℕ) → List Line → ℕ
listed_edges_refusal zero m ls = 0
listed_edges_refusal (suc k) m ls =
    let l = line_at ls 0 in
    first_of (refuse (not (numbers_line 1 l)) 12
    ∷ refuse (not (ltb (number_at l 0) m)) 13
    ∷ listed_edges_refusal k m (drop 1 ls)
    ∷ [])

-- VERTEX LINES, so many, after the vertex before them if there is one: "12: layout"; "13: a vertex number out of
-- range, vertices not rising"; "12: a distance outside −500 to 500, `-0`"
unfoldable pub vertex_layout : Line → Bool
vertex_layout l = (l.closed && eqb (length (fields l.text)) 2) && (is_number (field l 0) && is_signed (field l 1))

unfoldable pub above : (before : Option ℕ) → (v : ℕ) → Bool
above none v = true
above (some u) v = ltb u v

unfoldable pub distance_good : (field : List ℕ) → Bool
distance_good w = leb (nat_abs (signed_value w)) farthest && not (equal w (ascii "-0"))

unfoldable pub listed_vertices_refusal : (left vertices : ℕ) → (before : Option ℕ) → List Line → ℕ
listed_vertices_refusal zero n b ls = 0
listed_vertices_refusal (suc k) n b ls =
    let l = line_at ls 0 in
    first_of (refuse (not (vertex_layout l)) 12
    ∷ refuse (not (ltb (number_at l 0) n && above b (number_at l 0))) 13
    ∷ refuse (not (distance_good (field l 1))) 12
    ∷ listed_vertices_refusal k n (some (number_at l 0)) (drop 1 ls)
    ∷ [])

-- THE PASSING RULE for "lasso" is `is_lasso`: "the first edge listed leaves the source (a cycle edge where the stem
-- is empty), each edge starts where the one before ended, the cycle's last edge ends where its first one starts, and
-- a cycle edge leaves an accepting vertex"

-- THE PASSING RULE for "empty": "the source is listed, and every edge from a listed vertex leads to a listed one
-- whose number is at most the first one's plus the edge's length"
pub record Listed : Type 0 where
  pub vertex : ℕ
  pub number : ℤ

-- the number that is listed for v, if v is
unfoldable pub number_of : List Listed → (v : ℕ) → Option ℤ
number_of [] v = none
number_of (l ∷ ls) v = cond (eqb l.vertex v) (some l.number) (number_of ls v)

unfoldable pub is_listed : (number : Option ℤ) → Bool
is_listed none = false
is_listed (some z) = true

unfoldable pub leads : (from to : Option ℤ) → (length : ℤ) → Bool
leads none b z = true
leads (some h) none z = false
leads (some h) (some k) z = le_z k (h +ℤ z)

-- edge e and the edges after it, so many in all
unfoldable pub all_lead : (left e : ℕ) → Graph → List Listed → Bool
all_lead zero e g vs = true
all_lead (suc k) e g vs = leads (number_of vs (edge g e).from) (number_of vs (edge g e).to) (edge_length g e) && all_lead k (suc e) g vs

unfoldable pub passes_empty : Graph → List Listed → Bool
passes_empty g vs = is_listed (number_of vs g.source) && all_lead (length g.edges) 0 g vs

-- WHAT AN ANSWER LISTS, from its line 4 on: stem and cycle, or vertices with their numbers
unfoldable pub stem_in : (head : Line) → List Line → List ℕ
stem_in h ls = column 0 (take (number_at h 2) ls)

unfoldable pub cycle_in : (head : Line) → List Line → List ℕ
cycle_in h ls = column 0 (take (number_at h 3) (drop (number_at h 2) ls))

unfoldable pub listed_of : Line → Listed
listed_of l = record { vertex = number_at l 0; number = signed_value (field l 1) }

unfoldable pub listed_in : List Line → List Listed
listed_in [] = []
listed_in (l ∷ ls) = listed_of l ∷ listed_in ls

-- THE REFUSAL of a text as an answer. "The passing rule is judged after the answer's last line"
unfoldable pub lasso_refusal : Graph → (head : Line) → List Line → ℕ
lasso_refusal g h ls =
    let k = number_at h 2 + number_at h 3 in
    first_of (refuse (not (line_is lasso_names (line_at ls 2))) 12
    ∷ listed_edges_refusal k (length g.edges) (drop 3 ls)
    ∷ refuse (ltb (3 + k) (length ls)) 12
    ∷ refuse (not (is_lasso g (stem_in h (drop 3 ls)) (cycle_in h (drop 3 ls)))) 13
    ∷ [])

unfoldable pub empty_refusal : Graph → (head : Line) → List Line → ℕ
empty_refusal g h ls =
    let k = number_at h 4 in
    first_of (refuse (not (line_is empty_names (line_at ls 2))) 12
    ∷ listed_vertices_refusal k g.vertices none (drop 3 ls)
    ∷ refuse (ltb (3 + k) (length ls)) 12
    ∷ refuse (not (passes_empty g (listed_in (take k (drop 3 ls))))) 13
    ∷ [])

-- by a checker that knows the versions 1 to the newest and judges against this graph
unfoldable pub refusal_against : (newest : ℕ) → Graph → (file : List ℕ) → ℕ
refusal_against k g bs =
    let ls = lines bs in
    let h = line_at ls 1 in
    first_of (refuse (ltb longest_file (length bs)) 1
    ∷ refuse (not (begins_version bs)) 12
    ∷ refuse (other_version k ls) 3
    ∷ refuse (not (line_is answer_names (line_at ls 0) && head_layout h)) 12
    ∷ refuse (not (counts_fit h)) 12
    ∷ cond (says_lasso h) (lasso_refusal g h ls) (empty_refusal g h ls)
    ∷ [])

-- THE GRAPH THAT A VERSION MEANS. "A version 2 finding is right against the graph with its rest loops"; "the checker judges
-- version 1 answers by the old meaning"
unfoldable pub meant : Graph → (file : List ℕ) → Graph
meant g bs = cond (eqb (number_at (line_at (lines bs) 1) 0) answer_version) (rested g) g

unfoldable pub answer_refusal : Graph → (file : List ℕ) → ℕ
answer_refusal g bs = refusal_against answer_version (meant g bs) bs

-- 01's checker: it knows version 1 alone, "an older checker refuses 2 by number 3"
unfoldable pub older_refusal : Graph → (file : List ℕ) → ℕ
older_refusal g bs = refusal_against known_version g bs

-- "The whole case, its length included, is judged before the answer"; "a pass returns the verdict"
unfoldable pub check_refusal : (case answer : List ℕ) → ℕ
check_refusal bs ts = first_of (case_refusal bs ∷ answer_refusal (case_in bs).graph ts ∷ [])

unfoldable pub answer_verdict : (answer : List ℕ) → ℕ
answer_verdict ts = cond (says_lasso (line_at (lines ts) 1)) lasso_verdict empty_verdict
