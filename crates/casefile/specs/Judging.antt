-- What the functions of src/lib.rt answer, by model's definition of case files: 01's number for each refusal, or the
-- case's counts. Assumes nothing: these are definitions.
use Rattle.std.specs.Prelude.{Bool, ◌&&◌, not, cond, List, [], ◌∷◌, ℕ, ◌+◌, ltb, leb, eqb, length, drop, Option, Some, None, Result, Ok, Err}
use Rattle.std.proofs.Math.Option as maths
use Rattle.text.specs.Lines.{lines, line_at, line_is}
use Rattle.text.specs.Numbers.{numbers_line, number_at}
use Rattle.text.specs.Reading.{skip}
use Rattle.model.specs.Graph.{Edge}
use Rattle.model.specs.Case.{most_vertices, most_edges, most_workers, longest_file, known_version}
use Rattle.model.specs.CaseFile.{refuse, first_of, head_names, vertex_names, edge_names, begins_version, other_version, counts_good, vertices_refusal, case_refusal, accepted, case_in}
use Rattle.model.specs.Refusals.{refusal_of}
use Rattle.model.specs.declared.refusal.Refusal.{Refusal}
use Rattle.casefile.specs.declared.Case.{Case}

-- THE JUDGE: an accepted text gives its case's counts
unfoldable pub header : (file : List ℕ) → Case
header bs =
    let c = case_in bs in
    record { vertices = c.graph.vertices; edges = length c.graph.edges; source = c.graph.source; workers = c.workers }

unfoldable pub judged : (file : List ℕ) → Result Case Refusal
judged bs = cond (accepted bs) (Ok (header bs)) (Err (refusal_of (case_refusal bs)))

-- STEPS of the judge: lines 1 to 3
unfoldable pub counts_in_range : (n m source workers : ℕ) → Bool
counts_in_range n m s p = ((leb 1 n && leb n most_vertices) && leb m most_edges) && (ltb s n && (leb 1 p && leb p most_workers))

unfoldable pub head_refusal : (file : List ℕ) → ℕ
head_refusal bs =
    let ls = lines bs in
    let h = line_at ls 1 in
    first_of (refuse (ltb longest_file (length bs)) 1
    ∷ refuse (not (begins_version bs)) 2
    ∷ refuse (other_version known_version ls) 3
    ∷ refuse (not (line_is head_names (line_at ls 0) && numbers_line 5 h)) 4
    ∷ refuse (not (counts_good h)) 5
    ∷ refuse (not (line_is vertex_names (line_at ls 2))) 4
    ∷ [])

-- what line 2 counts
unfoldable pub counts_in : (file : List ℕ) → Case
counts_in bs =
    let h = line_at (lines bs) 1 in
    record { vertices = number_at h 1; edges = number_at h 2; source = number_at h 3; workers = number_at h 4 }

-- the refusal of lines 1 to 3; or the counts, and the place past these lines
unfoldable pub head_says : (file : List ℕ) → Result (Case × ℕ) Refusal
head_says bs = cond (eqb (head_refusal bs) 0) (Ok (counts_in bs, skip 3 bs 0)) (Err (refusal_of (head_refusal bs)))

-- the refusal of the lines before the edge lines
unfoldable pub before_edges : (file : List ℕ) → ℕ
before_edges bs =
    let ls = lines bs in
    let c = counts_in bs in
    first_of (head_refusal bs
    ∷ vertices_refusal c.vertices 0 c.workers (drop 3 ls)
    ∷ refuse (not (line_is edge_names (line_at ls (3 + c.vertices)))) 4
    ∷ [])

-- a block of so many lines: its refusal, or the place past it
unfoldable pub block_says : (refusal many : ℕ) → (text : List ℕ) → (at : ℕ) → Result ℕ Refusal
block_says r k s at = cond (eqb r 0) (Ok (skip k s at)) (Err (refusal_of r))

-- the edge before, if there is one
unfoldable pub edge_before : Option (ℕ × ℕ) → maths.Option Edge
edge_before None = maths.none
edge_before (Some (f, t)) = maths.some (record { from = f; to = t })
