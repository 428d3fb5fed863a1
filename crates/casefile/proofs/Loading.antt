-- Loading: in an accepted text the line of each vertex and of each edge reads back the case's own values. Assumes
-- nothing.
use mathlib.Core.Path.{◌≡◌, refl, sym, ap, ◌∙◌}
use mathlib.Core.Bool.{true, false, ◌&&◌}
use mathlib.Core.List.{List, [], ◌∷◌}
use mathlib.Core.Option.{Option, none, some}
use Prim.Native.Nat.{ℕ, zero, suc, ◌+◌, ◌<◌}
use native.Mathlib.Omega.{arith}
use native.Mathlib.Nat.{add-zero, zero-add}
use lib.Dec.{ltb, eqb}
use lib.ListN.{length, get_or, take, drop}
use lib.Seq.{get_or-drop}
use borrow.Author.Tests.{eqb-true}
use Rattle.text.specs.Lines.{Line, open_line, lines, line_at}
use Rattle.text.specs.Numbers.{numbers_line, number_at}
use Rattle.text.specs.Reading.{skip}
use Rattle.text.proofs.Tests.{and_both, clash}
use Rattle.text.proofs.Reading.{Row}
use Rattle.model.specs.Graph.{Edge, edge, mark}
use Rattle.model.specs.Case.{owner}
use Rattle.model.specs.CaseFile.{vertex_good, vertices_refusal, edge_of, edges_refusal, case_refusal, accepted, column, edges_in, case_in}
use Rattle.model.proofs.Accepting.{first_zero, refuse_not, edge_ends}
use Rattle.text.proofs.Places.{skip_add, skip_last, skip_line}

no_line : {X : Type 0} (k : ℕ) → numbers_line k (line_at [] 0) ≡ true → X
unfolding numbers_line line_at
no_line k e = clash false e refl

next_line : (l : Line) (ls : List Line) (j : ℕ) → line_at (l ∷ ls) (suc j) ≡ line_at ls j
unfolding line_at
next_line l ls j = refl

-- the line of vertex v + j, of k lines without a fault
vertex_line : (k v p : ℕ) (ls : List Line) → vertices_refusal k v p ls ≡ 0 → (j : ℕ) → j < k → (numbers_line 3 (line_at ls j) ≡ true) × (number_at (line_at ls j) 0 ≡ v + j)
unfolding vertices_refusal
vertex_line zero v p ls e j h = absurd (omega arith)
vertex_line (suc k) v p ls e zero h = (refuse_not _ 3 (first_zero _ _ e).0, number (refuse_not _ 5 (first_zero _ _ (first_zero _ _ e).1).0))
  where
    parts : vertex_good v p (line_at ls 0) ≡ true → (eqb (number_at (line_at ls 0) 0) v && (ltb (number_at (line_at ls 0) 1) 2 && ltb (number_at (line_at ls 0) 2) p)) ≡ true
    parts g = unfold vertex_good in g

    number : vertex_good v p (line_at ls 0) ≡ true → number_at (line_at ls 0) 0 ≡ v + 0
    number g = eqb-true _ v (and_both (eqb (number_at (line_at ls 0) 0) v) _ (parts g)).0 ∙ sym (add-zero v)
vertex_line (suc k) v p [] e (suc j) h = no_line 3 (refuse_not _ 3 (first_zero _ _ e).0)
vertex_line (suc k) v p (l ∷ ls) e (suc j) h =
    let r = vertex_line k (suc v) p ls (first_zero _ _ (first_zero _ _ (first_zero _ _ e).1).1).0 j (omega arith) in
    rw (next_line l ls j) (r.0, r.1 ∙ (let z : suc v + j ≡ v + suc j = omega arith in z))

edge_line : (k n : ℕ) (b : Option Edge) (ls : List Line) → edges_refusal k n b ls ≡ 0 → (j : ℕ) → j < k → numbers_line 2 (line_at ls j) ≡ true
unfolding edges_refusal
edge_line zero n b ls e j h = absurd (omega arith)
edge_line (suc k) n b ls e zero h = refuse_not _ 3 (first_zero _ _ e).0
edge_line (suc k) n b [] e (suc j) h = no_line 2 (refuse_not _ 3 (first_zero _ _ e).0)
edge_line (suc k) n b (l ∷ ls) e (suc j) h =
    rw (next_line l ls j) (edge_line k n (some (edge_of (line_at (l ∷ ls) 0))) ls (first_zero _ _ (first_zero _ _ (first_zero _ _ (first_zero _ _ e).1).1).1).0 j (omega arith))

-- a line that is there is in its columns
column_at : (i m k : ℕ) (ls : List Line) (j : ℕ) → j < k → numbers_line m (line_at ls j) ≡ true → get_or (column i (take k ls)) j 0 ≡ number_at (line_at ls j) i
unfolding column line_at numbers_line
column_at i m zero ls j h g = absurd (omega arith)
column_at i m (suc k) [] j h g = clash false g refl
column_at i m (suc k) (l ∷ ls) zero h g = refl
column_at i m (suc k) (l ∷ ls) (suc j) h g = column_at i m k ls j (omega arith) g

edge_at : (m k : ℕ) (ls : List Line) (j : ℕ) → j < k → numbers_line m (line_at ls j) ≡ true → get_or (edges_in (take k ls)) j (record { from = 0; to = 0 }) ≡ edge_of (line_at ls j)
unfolding edges_in line_at numbers_line
edge_at m zero ls j h g = absurd (omega arith)
edge_at m (suc k) [] j h g = clash false g refl
edge_at m (suc k) (l ∷ ls) zero h g = refl
edge_at m (suc k) (l ∷ ls) (suc j) h g = edge_at m k ls j (omega arith) g

-- a row of numbers stands where its line does
row : (s : List ℕ) (i : ℕ) (vs : List ℕ) → numbers_line (length vs) (line_at (lines s) i) ≡ true → ((k : ℕ) → k < length vs → number_at (line_at (lines s) i) k ≡ get_or vs k 0) → Row s (skip i s 0) vs (skip (i + 1) s 0)
row s i vs l v = record { line = rw (skip_line i s 0) l; are = λ k h. rw (skip_line i s 0) (v k h); past = sym (skip_last i s 0) }

-- what an accepted text's parts are
pub record Parts (s : List ℕ) : Type 0 where
  pub vertices : vertices_refusal (case_in s).graph.vertices 0 (case_in s).workers (drop 3 (lines s)) ≡ 0
  pub edges : edges_refusal (number_at (line_at (lines s) 1) 2) (case_in s).graph.vertices none (drop (4 + (case_in s).graph.vertices) (lines s)) ≡ 0

pub parts : (s : List ℕ) → accepted s ≡ true → Parts s
unfolding accepted case_refusal case_in
parts s a =
    let e : case_refusal s ≡ 0 = eqb-true (case_refusal s) 0 a in
    let r4 = (first_zero _ _ (first_zero _ _ (first_zero _ _ (first_zero _ _ e).1).1).1).1 in
    let r6 = (first_zero _ _ (first_zero _ _ r4).1).1 in
    record { vertices = (first_zero _ _ r6).0; edges = (first_zero _ _ (first_zero _ _ (first_zero _ _ r6).1).1).0 }

pub edges_counted : (s : List ℕ) → accepted s ≡ true → length (case_in s).graph.edges ≡ number_at (line_at (lines s) 1) 2
unfolding case_in
edges_counted s a = (edge_ends (number_at (line_at (lines s) 1) 2) (case_in s).graph.vertices none (drop (4 + (case_in s).graph.vertices) (lines s)) (parts s a).edges).many

pub drop_line : (k : ℕ) (ls : List Line) (j : ℕ) → line_at (drop k ls) j ≡ line_at ls (k + j)
unfolding line_at
drop_line k ls j = get_or-drop k ls j (open_line [])

-- "Vertex lines come in order": the line of vertex v has v, its mark and its owner
pub vertex_row : (s : List ℕ) → accepted s ≡ true → (v : ℕ) → v < (case_in s).graph.vertices →
    Row s (skip v s (skip 3 s 0)) (v ∷ mark (case_in s).graph v ∷ owner (case_in s) v ∷ []) (skip (v + 1) s (skip 3 s 0))
vertex_row s a v h = at_place (row s (3 + v) (v ∷ mark (case_in s).graph v ∷ owner (case_in s) v ∷ []) line.0 values)
  where
    line : (numbers_line 3 (line_at (lines s) (3 + v)) ≡ true) × (number_at (line_at (lines s) (3 + v)) 0 ≡ 0 + v)
    line = rw (← drop_line 3 (lines s) v) (vertex_line _ 0 _ (drop 3 (lines s)) (parts s a).vertices v h)

    col : (i : ℕ) → get_or (column i (take (case_in s).graph.vertices (drop 3 (lines s)))) v 0 ≡ number_at (line_at (lines s) (3 + v)) i
    col i = column_at i 3 _ (drop 3 (lines s)) v h (rw (drop_line 3 (lines s) v) line.0) ∙ ap (λ (l : Line). number_at l i) (drop_line 3 (lines s) v)

    values : (k : ℕ) → k < 3 → number_at (line_at (lines s) (3 + v)) k ≡ get_or (v ∷ mark (case_in s).graph v ∷ owner (case_in s) v ∷ []) k 0
    values zero l = line.1 ∙ zero-add v
    values (suc zero) l = sym (unfold case_in in (col 1))
    values (suc (suc zero)) l = sym (unfold owner case_in in (col 2))
    values (suc (suc (suc k))) l = absurd (omega arith)

    at_place : Row s (skip (3 + v) s 0) (v ∷ mark (case_in s).graph v ∷ owner (case_in s) v ∷ []) (skip (3 + v + 1) s 0) → Row s (skip v s (skip 3 s 0)) (v ∷ mark (case_in s).graph v ∷ owner (case_in s) v ∷ []) (skip (v + 1) s (skip 3 s 0))
    at_place r = let z : 3 + v + 1 ≡ 3 + (v + 1) = omega arith in rw (← skip_add 3 v s 0, ← skip_add 3 (v + 1) s 0, ← z) r

-- the line of edge e has its two ends
pub edge_row : (s : List ℕ) → accepted s ≡ true → (e : ℕ) → e < length (case_in s).graph.edges → let at = skip (4 + (case_in s).graph.vertices) s 0 in
    Row s (skip e s at) ((edge (case_in s).graph e).from ∷ (edge (case_in s).graph e).to ∷ []) (skip (e + 1) s at)
edge_row s a e h = at_place (row s (4 + n + e) ((edge (case_in s).graph e).from ∷ (edge (case_in s).graph e).to ∷ []) line values)
  where
    n : ℕ
    n = (case_in s).graph.vertices

    m : ℕ
    m = number_at (line_at (lines s) 1) 2

    below : e < m
    below = rw (edges_counted s a) at h

    line : numbers_line 2 (line_at (lines s) (4 + n + e)) ≡ true
    line = rw (← drop_line (4 + n) (lines s) e) (edge_line m n none (drop (4 + n) (lines s)) (parts s a).edges e below)

    is_edge : edge (case_in s).graph e ≡ edge_of (line_at (lines s) (4 + n + e))
    is_edge = rw (← drop_line (4 + n) (lines s) e) (unfold edge case_in in (edge_at 2 m (drop (4 + n) (lines s)) e below (rw (drop_line (4 + n) (lines s) e) line)))

    values : (k : ℕ) → k < 2 → number_at (line_at (lines s) (4 + n + e)) k ≡ get_or ((edge (case_in s).graph e).from ∷ (edge (case_in s).graph e).to ∷ []) k 0
    values zero l = rw is_edge (unfold edge_of in refl)
    values (suc zero) l = rw is_edge (unfold edge_of in refl)
    values (suc (suc k)) l = absurd (omega arith)

    at_place : Row s (skip (4 + n + e) s 0) ((edge (case_in s).graph e).from ∷ (edge (case_in s).graph e).to ∷ []) (skip (4 + n + e + 1) s 0) → Row s (skip e s (skip (4 + n) s 0)) ((edge (case_in s).graph e).from ∷ (edge (case_in s).graph e).to ∷ []) (skip (e + 1) s (skip (4 + n) s 0))
    at_place r = let z : 4 + n + e + 1 ≡ 4 + n + (e + 1) = omega arith in rw (← skip_add (4 + n) e s 0, ← skip_add (4 + n) (e + 1) s 0, ← z) r
