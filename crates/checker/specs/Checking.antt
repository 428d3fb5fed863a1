-- What the functions of src/ answer, by model's definition of answer files: 01's number for each refusal, or what was
-- read. Assumes nothing: these are definitions.
use Rattle.std.specs.Prelude.{◌≡◌, Bool, true, false, ◌&&◌, not, cond, List, [], ◌∷◌, ℕ, zero, suc, ◌+◌, ◌≤◌, ◌<◌, ltb, leb, eqb, length, get_or, take, drop, ℤ, pos, negsuc, neg_ℤ, Option, Some, None, Result, Ok, Err}
use Rattle.std.proofs.Math.Option as maths
use Rattle.text.specs.Lines.{Line, lines, line_at, line_is}
use Rattle.text.specs.Numbers.{numbers_line, number_at}
use Rattle.text.specs.Reading.{line_here, past_line, skip}
use Rattle.text.specs.declared.read.Signed.{Signed}
use Rattle.text.specs.declared.read.Signed.TheVariants.{Plus, Minus}
use Rattle.model.specs.Graph.{Edge, Graph, edge, mark, rested, is_walk, walk_end, leaves_accepting, is_lasso}
use Rattle.model.specs.Case.{most_vertices, most_edges, most_run_edges, longest_file, most_listed, farthest, answer_version}
use Rattle.model.specs.CaseFile.{refuse, first_of, begins_version, other_version, column}
use Rattle.model.specs.Answer.{answer_names, lasso_verdict, empty_verdict, no_verdict}
use Rattle.model.specs.Passing.{says_lasso, head_layout, counts_suit, counts_fit, listed_edges_refusal, listed_vertices_refusal, Listed, number_of, listed_in, all_lead, passes_empty, lasso_refusal, empty_refusal, answer_refusal, check_refusal, answer_verdict}
use Rattle.model.specs.Refusals.{number, refusal_of, checked_as}
use Rattle.model.specs.declared.refusal.Refusal.{Refusal}
use Rattle.model.specs.declared.verdict.Verdict.{Verdict}
use Rattle.model.specs.declared.verdict.Verdict.TheVariants.{Lasso, Empty}
use Rattle.casefile.specs.declared.Case.{Case}
use Rattle.checker.specs.declared.opening.Head.{Head}
use Rattle.checker.specs.declared.walk.Walk.{Walk}
use Rattle.checker.specs.declared.tables.Graph as code

-- THE END: a refusal, or the verdict where there is none
pub record Told (refusal verdict : ℕ) (r : Result Verdict Refusal) : Type 0 where
  pub refused : (checked_as r).refusal ≡ refusal
  pub passed : (checked_as r).verdict ≡ cond (eqb refusal 0) verdict no_verdict

abbrev pub FilesSay : (case answer : List ℕ) → Result Verdict Refusal → Type 0
FilesSay bs ts r = Told (check_refusal bs ts) (answer_verdict ts) r

-- LINE 2: its verdict
abbrev pub verdict_by : (lasso : Bool) → Verdict
verdict_by true = Lasso
verdict_by false = Empty

abbrev pub is_lasso_verdict : Verdict → Bool
is_lasso_verdict Lasso = true
is_lasso_verdict Empty = false

-- three counts at a place after a version and a verdict
unfoldable pub counts_here : (text : List ℕ) → (at version : ℕ) → Verdict → Option Head
counts_here s at v w =
    let l = line_here s at in
    cond (numbers_line 3 l) (Some (record { version = v; verdict = w; stem = number_at l 0; cycle = number_at l 1; reached = number_at l 2; next = past_line s at })) None

-- what the whole line says, and a place past it
unfoldable pub head_of : (head : Line) → (next : ℕ) → Head
head_of l z = record { version = number_at l 0; verdict = verdict_by (says_lasso l); stem = number_at l 2; cycle = number_at l 3; reached = number_at l 4; next = z }

unfoldable pub head_here : (text : List ℕ) → (at : ℕ) → Option Head
head_here s at = let l = line_here s at in cond (head_layout l) (Some (head_of l (past_line s at))) None

unfoldable pub head_right : Head → Bool
head_right h =
    (leb h.stem most_listed && (leb h.cycle most_listed && leb h.reached most_listed)) && counts_suit (is_lasso_verdict h.verdict) h.stem h.cycle h.reached

-- LINES 1 AND 2: their refusal, or what line 2 says and where line 3 starts
unfoldable pub opening_refusal : (file : List ℕ) → ℕ
opening_refusal bs =
    let ls = lines bs in
    let h = line_at ls 1 in
    first_of (refuse (ltb longest_file (length bs)) 1
    ∷ refuse (not (begins_version bs)) 12
    ∷ refuse (other_version answer_version ls) 3
    ∷ refuse (not (line_is answer_names (line_at ls 0) && head_layout h)) 12
    ∷ refuse (not (counts_fit h)) 12
    ∷ [])

unfoldable pub opening : (file : List ℕ) → Result Head Refusal
opening bs = cond (eqb (opening_refusal bs) 0) (Ok (head_of (line_at (lines bs) 1) (skip 2 bs 0))) (Err (refusal_of (opening_refusal bs)))

-- REST LOOPS. Both ends of m edges in tables
pub record Ends (es : List Edge) (m : ℕ) (froms tos : List ℕ) : Type 0 where
  pub many : length es ≡ m
  pub from_at : (e : ℕ) → e < m → get_or froms e 0 ≡ (get_or es e (record { from = 0; to = 0 })).from
  pub to_at : (e : ℕ) → e < m → get_or tos e 0 ≡ (get_or es e (record { from = 0; to = 0 })).to

-- few vertices and edges, and room in the tables for a loop of each vertex
pub record Room (n m : ℕ) (froms tos : List ℕ) : Type 0 where
  pub few_vertices : n ≤ most_vertices
  pub few_edges : m ≤ most_edges
  pub from_room : most_run_edges ≤ length froms
  pub to_room : most_run_edges ≤ length tos

-- marks of vertices: none; those that one of m edges leaves
pub record Unmarked (starts : List Bool) : Type 0 where
  pub none : (v : ℕ) → get_or starts v false ≡ false

pub record Starts (m : ℕ) (froms : List ℕ) (starts : List Bool) : Type 0 where
  pub none : (v : ℕ) → v < length starts → get_or starts v false ≡ false → (e : ℕ) → e < m → get_or froms e 0 ≡ v → ⊥
  pub some : (v : ℕ) → get_or starts v false ≡ true → (e : ℕ) × (e < m) × (get_or froms e 0 ≡ v)

-- the loops of n vertices behind their m edges
abbrev pub RestedSays : (n m : ℕ) → (froms froms' tos tos' : List ℕ) → ℕ → Type 0
RestedSays n m froms froms' tos tos' k = (g : Graph) → g.vertices ≡ n → Ends g.edges m froms tos → Ends (rested g).edges k froms' tos'

-- A GRAPH IN TABLES: its counts, the mark of each vertex, both ends of each edge
pub record Stands (g : Graph) (c : Case) (marks froms tos : List ℕ) : Type 0 where
  pub vertices : g.vertices ≡ c.vertices
  pub source : g.source ≡ c.source
  pub ends : Ends g.edges c.edges froms tos
  pub below : (e : ℕ) → e < length g.edges → (edge g e).from < g.vertices
  pub mark_at : (v : ℕ) → v < g.vertices → get_or marks v 0 ≡ mark g v
  pub small : (v : ℕ) → v < g.vertices → mark g v < 2

-- the graph that a version means, and its case
unfoldable pub meant_by : (version : ℕ) → Graph → Graph
meant_by v g = cond (eqb v answer_version) (rested g) g

pub record MeantSays (version : ℕ) (c : Case) (froms froms' tos tos' : List ℕ) (r : Case) : Type 0 where
  pub vertices : r.vertices ≡ c.vertices
  pub stands : (g : Graph) (marks : List ℕ) → Stands g c marks froms tos → Stands (meant_by version g) r marks froms' tos'

-- the whole check, once the case stands in the tables
abbrev pub AgainstSays : (answer : List ℕ) → Case → (marks froms tos : List ℕ) → Result Verdict Refusal → Type 0
AgainstSays ts c marks froms tos r = (g : Graph) → Stands g c marks froms tos → Told (answer_refusal g ts) (answer_verdict ts) r

-- TABLES of a graph, what the passing rules ask of them: its counts, each edge's ends, and the mark of its start, 0 or 1
pub record Tables (g : Graph) (t : code.Graph) : Type 0 where
  pub vertices : g.vertices ≡ t.case.vertices
  pub source : g.source ≡ t.case.source
  pub many : length g.edges ≡ t.case.edges
  pub from_at : (e : ℕ) → e < t.case.edges → get_or t.froms.now e 0 ≡ (edge g e).from
  pub to_at : (e : ℕ) → e < t.case.edges → get_or t.tos.now e 0 ≡ (edge g e).to
  pub mark_at : (e : ℕ) → e < t.case.edges → get_or t.marks.now (edge g e).from 0 ≡ mark g (edge g e).from
  pub small : (e : ℕ) → e < t.case.edges → mark g (edge g e).from < 2

-- EDGE LINES as a walk
pub record WalkedAs (g : Graph) (start : ℕ) (es : List ℕ) (w : Walk) : Type 0 where
  pub walk : is_walk g start es ≡ w.joined
  pub end : walk_end g start es ≡ w.end
  pub leaves : leaves_accepting g es ≡ w.marked

pub record WalkRead (s : List ℕ) (at k start : ℕ) (t : code.Graph) (w : Walk) : Type 0 where
  pub right : listed_edges_refusal k t.case.edges (lines (drop at s)) ≡ 0
  pub place : skip k s at ≡ w.next
  pub went : (g : Graph) → Tables g t → WalkedAs g start (column 0 (take k (lines (drop at s)))) w

abbrev pub WalkSays : (text : List ℕ) → (at k start : ℕ) → code.Graph → Result Walk Refusal → Type 0
WalkSays s at k u t (Err e) = (listed_edges_refusal k t.case.edges (lines (drop at s)) ≡ number e) × (0 < number e)
WalkSays s at k u t (Ok w) = WalkRead s at k u t w

-- the refusal of the lines of stem and cycle and what follows them
unfoldable pub edge_lines_refusal : Graph → (stem cycle : ℕ) → List Line → ℕ
edge_lines_refusal g s k ls =
    first_of (listed_edges_refusal (s + k) (length g.edges) ls
    ∷ refuse (ltb (s + k) (length ls)) 12
    ∷ refuse (not (is_lasso g (column 0 (take s ls)) (column 0 (take k (drop s ls))))) 13
    ∷ [])

abbrev pub LassoSays : (answer : List ℕ) → code.Graph → Result Verdict Refusal → Type 0
LassoSays s t r = (g : Graph) → Tables g t → Told (lasso_refusal g (line_at (lines s) 1) (lines s)) lasso_verdict r

-- VERTEX LINES and their numbers. A table holds the number of each vertex that is listed
unfoldable pub held : Option ℤ → maths.Option ℤ
held None = maths.none
held (Some z) = maths.some z

-- a number as a distance
unfoldable pub distance_of : Signed → Option ℤ
distance_of (Plus d) = cond (leb d farthest) (Some (pos d)) None
distance_of (Minus d) = cond (leb d farthest && not (eqb d 0)) (Some (neg_ℤ (pos d))) None

pub record Blank (n : ℕ) (numbers : List (Option ℤ)) : Type 0 where
  pub long : n ≤ length numbers
  pub blank : (v : ℕ) → get_or numbers v None ≡ None

pub record ListingRead (s : List ℕ) (at k n : ℕ) (numbers : List (Option ℤ)) (z : ℕ) : Type 0 where
  pub right : listed_vertices_refusal k n maths.none (lines (drop at s)) ≡ 0
  pub place : skip k s at ≡ z
  pub kept : (v : ℕ) → held (get_or numbers v None) ≡ number_of (listed_in (take k (lines (drop at s)))) v

abbrev pub ListingSays : (text : List ℕ) → (at k n : ℕ) → (numbers : List (Option ℤ)) → Result ℕ Refusal → Type 0
ListingSays s at k n t (Err e) = (listed_vertices_refusal k n maths.none (lines (drop at s)) ≡ number e) × (0 < number e)
ListingSays s at k n t (Ok z) = ListingRead s at k n t z

-- the length of an edge that leaves a vertex of this mark: model's edge_length, since a mark is 0 or 1
unfoldable pub length_by : (mark : ℕ) → ℤ
length_by zero = pos 0
length_by (suc k) = negsuc 0

-- whether every edge leads right, by a table that holds what is listed
abbrev pub LeadSays : code.Graph → (numbers : List (Option ℤ)) → Bool → Type 0
LeadSays t xs r = (g : Graph) → Tables g t → (vs : List Listed) → ((v : ℕ) → held (get_or xs v None) ≡ number_of vs v) → r ≡ all_lead t.case.edges 0 g vs

-- the refusal of the vertex lines and what follows them
unfoldable pub vertex_lines_refusal : Graph → (reached : ℕ) → List Line → ℕ
vertex_lines_refusal g k ls =
    first_of (listed_vertices_refusal k g.vertices maths.none ls
    ∷ refuse (ltb k (length ls)) 12
    ∷ refuse (not (passes_empty g (listed_in (take k ls)))) 13
    ∷ [])

abbrev pub EmptySays : (answer : List ℕ) → code.Graph → Result Verdict Refusal → Type 0
EmptySays s t r = (g : Graph) → Tables g t → Told (empty_refusal g (line_at (lines s) 1) (lines s)) empty_verdict r
