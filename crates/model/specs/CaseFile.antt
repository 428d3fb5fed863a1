-- "The case file": refusals 1 to 8 in their order, and the case in a text. "Files are read front to back and the
-- first fault decides; on one line, layout goes before values and values go left to right." Assumes nothing: these
-- are definitions.
use Rattle.std.specs.Prelude.{Bool, true, ◌&&◌, ◌||◌, not, cond, List, [], ◌∷◌, ℕ, zero, suc, ◌+◌, ltb, leb, eqb, length, take, drop}
use Rattle.std.proofs.Math.Option.{Option, none, some}
use Rattle.text.specs.Ascii.{ascii}
use Rattle.text.specs.Lines.{Line, lines, line_at, line_is, field, begins}
use Rattle.text.specs.Numbers.{is_number, value, numbers_line, number_at}
use Rattle.model.specs.Graph.{Edge}
use Rattle.model.specs.Case.{Case, resting, most_vertices, most_edges, most_workers, longest_file, known_version}

-- REFUSALS are numbers, 0 where there is none; of a list of them the first that is not 0 decides
unfoldable pub refuse : (fault : Bool) → (number : ℕ) → ℕ
refuse b k = cond b k 0

unfoldable pub first_of : List ℕ → ℕ
first_of [] = 0
first_of (k ∷ ks) = cond (eqb k 0) (first_of ks) k

-- "Each block is a line of names, then lines of values in that order"
abbrev pub head_names : List ℕ
head_names = ascii "version vertices edges source workers"

abbrev pub vertex_names : List ℕ
vertex_names = ascii "vertex accepting owner"

abbrev pub edge_names : List ℕ
edge_names = ascii "from to"

-- "2: does not begin `version` and a space (an answer file that does not gets 12)"
abbrev pub begins_version : (file : List ℕ) → Bool
begins_version bs = begins (ascii "version ") bs

-- "3: line 2's first field, ended by a space, a line feed or the file's end, is a number other than 1 (also an answer
-- file)"; of an answer other than 1 and 2. The versions known are 1 to the newest
unfoldable pub other_version : (newest : ℕ) → List Line → Bool
other_version k ls = let w = field (line_at ls 1) 0 in is_number w && not (leb 1 (value w) && leb (value w) k)

-- "5: a count or the source out of range": "Vertices 1 to 500, edges 0 to 2,000, workers 1 to 16, source below
-- vertices"
unfoldable pub counts_good : (head : Line) → Bool
counts_good h =
    ((leb 1 (number_at h 1) && leb (number_at h 1) most_vertices) && leb (number_at h 2) most_edges)
    && (ltb (number_at h 3) (number_at h 1) && (leb 1 (number_at h 4) && leb (number_at h 4) most_workers))

-- "6: a vertex line out of order, a wrong mark, or an owner too large": "Vertex lines come in order, accepting is 0
-- or 1, owner is below workers"
unfoldable pub vertex_good : (v workers : ℕ) → Line → Bool
vertex_good v p l = eqb (number_at l 0) v && (ltb (number_at l 1) 2 && ltb (number_at l 2) p)

-- the lines of v and the vertices after it, so many in all
unfoldable pub vertices_refusal : (left v workers : ℕ) → List Line → ℕ
vertices_refusal zero v p ls = 0
vertices_refusal (suc k) v p ls =
    let l = line_at ls 0 in
    first_of (refuse (not (numbers_line 3 l)) 4
    ∷ refuse (not (vertex_good v p l)) 6
    ∷ vertices_refusal k (suc v) p (drop 1 ls)
    ∷ [])

-- "7: an edge end not below vertices"
unfoldable pub edge_of : Line → Edge
edge_of l = record { from = number_at l 0; to = number_at l 1 }

unfoldable pub edge_good : (vertices : ℕ) → Edge → Bool
edge_good n e = ltb e.from n && ltb e.to n

-- "8: edges not strictly rising": "Edge lines rise strictly by from, then to"
unfoldable pub rises : (before : Option Edge) → Edge → Bool
rises none e = true
rises (some d) e = ltb d.from e.from || (eqb d.from e.from && ltb d.to e.to)

-- so many edge lines, after the edge before them if there is one; "on an edge line 7 goes before 8"
unfoldable pub edges_refusal : (left vertices : ℕ) → (before : Option Edge) → List Line → ℕ
edges_refusal zero n b ls = 0
edges_refusal (suc k) n b ls =
    let l = line_at ls 0 in
    first_of (refuse (not (numbers_line 2 l)) 4
    ∷ refuse (not (edge_good n (edge_of l))) 7
    ∷ refuse (not (rises b (edge_of l))) 8
    ∷ edges_refusal k n (some (edge_of l)) (drop 1 ls)
    ∷ [])

-- THE REFUSAL of a text as a case file. "1 comes before that file's first byte is read"; 3 is "checked before the
-- rest of lines 1 and 2"; "4: any other break of the layout"; "nothing follows the last line"
unfoldable pub case_refusal : (file : List ℕ) → ℕ
case_refusal bs =
    let ls = lines bs in
    let h = line_at ls 1 in
    let n = number_at h 1 in
    let m = number_at h 2 in
    first_of (refuse (ltb longest_file (length bs)) 1
    ∷ refuse (not (begins_version bs)) 2
    ∷ refuse (other_version known_version ls) 3
    ∷ refuse (not (line_is head_names (line_at ls 0) && numbers_line 5 h)) 4
    ∷ refuse (not (counts_good h)) 5
    ∷ refuse (not (line_is vertex_names (line_at ls 2))) 4
    ∷ vertices_refusal n 0 (number_at h 4) (drop 3 ls)
    ∷ refuse (not (line_is edge_names (line_at ls (3 + n)))) 4
    ∷ edges_refusal m n none (drop (4 + n) ls)
    ∷ refuse (ltb (4 + n + m) (length ls)) 4
    ∷ [])

-- "A case is accepted if none of 1 to 8 falls on it"
unfoldable pub accepted : (file : List ℕ) → Bool
accepted bs = eqb (case_refusal bs) 0

-- THE CASE in a text, if it is accepted
unfoldable pub column : (i : ℕ) → List Line → List ℕ
column i [] = []
column i (l ∷ ls) = number_at l i ∷ column i ls

unfoldable pub edges_in : List Line → List Edge
edges_in [] = []
edges_in (l ∷ ls) = edge_of l ∷ edges_in ls

unfoldable pub case_in : (file : List ℕ) → Case
case_in bs =
    let ls = lines bs in
    let h = line_at ls 1 in
    let vs = take (number_at h 1) (drop 3 ls) in
    let es = take (number_at h 2) (drop (4 + number_at h 1) ls) in
    record {
      graph = record { vertices = number_at h 1; source = number_at h 3; accepting = column 1 vs; edges = edges_in es };
      file_edges = length (edges_in es);
      workers = number_at h 4;
      owners = column 2 vs;
    }

-- THE CASE OF A RUN of that text: with the rest loops
abbrev pub run_case : (file : List ℕ) → Case
run_case bs = resting (case_in bs)
