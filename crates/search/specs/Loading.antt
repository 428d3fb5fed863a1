-- What loading a case into the cells asks and says. Assumes nothing: these are definitions.
use Rattle.std.specs.Prelude.{◌≡◌, false, List, ℕ, ◌+◌, ◌-◌, ◌≤◌, ◌<◌, length, get_or, set, take, drop, ℤ, pos}
use Rattle.model.specs.Graph.{edge, leaves, loops_from, rested, total}
use Rattle.model.specs.Case.{Case, resting, most_vertices, most_edges, most_workers, least_work, Sound, Within}
use Rattle.search.specs.Cells.{Region, Filled, by_from, by_to, accepting_at, owner_at, from_at, to_at, first_at, rest_at}
use Rattle.search.specs.Rep.{FirstEdges, Firsts, no_edge, Laid}

-- VERTICES: tables of marks and owners, one entry for each vertex, that fit the cells
pub record RowsAsk (marks owners : List ℕ) (w : List ℤ) : Type 0 where
  pub many : length marks ≤ most_vertices
  pub owned : length owners ≡ length marks
  pub mark : (v : ℕ) → v < length marks → get_or marks v 0 < 2
  pub owner : (v : ℕ) → v < length marks → get_or owners v 0 < most_workers
  pub long : least_work ≤ length w

pub record RowsSay (marks owners : List ℕ) (count : ℕ) (w v : List ℤ) : Type 0 where
  pub mark_cells : Region pos 0 accepting_at marks v
  pub owner_cells : Region pos 0 owner_at owners v
  pub counted : count ≡ total marks
  pub long : length v ≡ length w

-- ONE EDGE e from f to t, where `next` is the lowest vertex without a first edge
pub record PairAsks (e f t next : ℕ) (w : List ℤ) : Type 0 where
  pub number : e < most_edges
  pub from : f < most_vertices
  pub to : t < most_vertices
  pub most : next ≤ most_vertices
  pub long : least_work ≤ length w

-- its ends are stored, and it is the first edge of the vertices from `next` to before r: to f, if any
pub record PairSays (e f t next r : ℕ) (w v : List ℤ) : Type 0 where
  pub later : next ≤ r
  pub past : f < r
  pub exact : next < r → r ≡ f + 1
  pub cells : Filled (first_at + next) (r - next) (pos e) (set (set w (from_at + e) (pos f)) (to_at + e) (pos t)) v

-- EDGES: tables of their two ends, vertices below n, sorted by from
pub record PairsAsk (froms tos : List ℕ) (n : ℕ) (w : List ℤ) : Type 0 where
  pub many : length froms ≤ most_edges
  pub paired : length tos ≡ length froms
  pub vertices : n ≤ most_vertices
  pub from : (e : ℕ) → e < length froms → get_or froms e 0 < n
  pub to : (e : ℕ) → e < length froms → get_or tos e 0 < n
  pub rise : (e j : ℕ) → e ≤ j → j < length froms → get_or froms e 0 ≤ get_or froms j 0
  pub long : least_work ≤ length w

-- the ends and the first edges stand in the cells, and what is before them stays
pub record PairsSay (froms tos : List ℕ) (n : ℕ) (w v : List ℤ) : Type 0 where
  pub first : List ℕ
  pub firsts : FirstEdges (λ e. get_or froms e 0) n (length froms) first
  pub from_cells : Region pos 0 from_at froms v
  pub to_cells : Region pos 0 to_at tos v
  pub first_cells : Region pos 0 first_at first v
  pub kept : (i : ℕ) → i < from_at → get_or v i (pos 0) ≡ get_or w i (pos 0)
  pub long : length v ≡ length w

-- BOTH
pub record LoadAsks (marks owners froms tos : List ℕ) (w : List ℤ) : Type 0 where
  pub rows : RowsAsk marks owners w
  pub pairs : PairsAsk froms tos (length marks) w

pub record LoadSays (marks owners froms tos : List ℕ) (count : ℕ) (w v : List ℤ) : Type 0 where
  pub first : List ℕ
  pub firsts : FirstEdges (λ e. get_or froms e 0) (length marks) (length froms) first
  pub mark_cells : Region pos 0 accepting_at marks v
  pub owner_cells : Region pos 0 owner_at owners v
  pub from_cells : Region pos 0 from_at froms v
  pub to_cells : Region pos 0 to_at tos v
  pub first_cells : Region pos 0 first_at first v
  pub counted : count ≡ total marks
  pub long : length v ≡ length w

-- REST LOOPS. A file's case in the cells, without them
pub record Filed (c : Case) (w : List ℤ) : Type 0 where
  pub sound : Sound c
  pub within : Within c
  pub whole : c.file_edges ≡ length c.graph.edges
  pub long : least_work ≤ length w
  pub first : List ℕ
  pub firsts : Firsts c first
  pub mark_cells : Region pos 0 accepting_at c.graph.accepting w
  pub owner_cells : Region pos 0 owner_at c.owners w
  pub from_cells : Region by_from no_edge from_at c.graph.edges w
  pub to_cells : Region by_to no_edge to_at c.graph.edges w
  pub first_cells : Region pos 0 first_at first w

-- the loops of the vertices before v are loaded, and k is the number of the next
pub record Looping (c : Case) (v k : ℕ) (w : List ℤ) : Type 0 where
  pub filed : Filed c w
  pub past : c.file_edges ≤ k
  pub most : k ≤ length (rested c.graph).edges
  pub left : drop k (rested c.graph).edges ≡ loops_from (c.graph.vertices - v) v c.graph.edges
  pub from_cells : Region by_from no_edge from_at (take k (rested c.graph).edges) w
  pub to_cells : Region by_to no_edge to_at (take k (rested c.graph).edges) w
  pub rest : List ℕ
  pub sized : length rest ≡ v
  pub rest_cells : Region pos 0 rest_at rest w
  pub low : (u : ℕ) → u < v → leaves c.graph.edges u ≡ false → c.file_edges ≤ get_or rest u 0
  pub high : (u : ℕ) → u < v → leaves c.graph.edges u ≡ false → get_or rest u 0 < k
  pub is : (u : ℕ) → u < v → leaves c.graph.edges u ≡ false → (edge (rested c.graph) (get_or rest u 0)).from ≡ u

pub record LoopAsks (v k : ℕ) (w : List ℤ) : Type 0 where
  pub case : Case
  pub looping : Looping case v k w
  pub below : v < case.graph.vertices

unfoldable pub LoopSays : (v k r : ℕ) → (w w' : List ℤ) → Type 0
LoopSays v k r w w' = (c : Case) → Looping c v k w → v < c.graph.vertices → Looping c (v + 1) r w'

pub record LoopsAsk (n m : ℕ) (w : List ℤ) : Type 0 where
  pub case : Case
  pub filed : Filed case w
  pub vertices : n ≡ case.graph.vertices
  pub edges : m ≡ case.file_edges

unfoldable pub LoopsSay : (n m r : ℕ) → (w w' : List ℤ) → Type 0
LoopsSay n m r w w' =
    (c : Case) → Filed c w → n ≡ c.graph.vertices → m ≡ c.file_edges → Laid (resting c) w' × (r ≡ length (resting c).graph.edges)
