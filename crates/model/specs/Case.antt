-- A case: a graph, its workers, and the owner of each vertex; and the limits of document 01, each number once.
-- Assumes nothing: these are definitions.
use Rattle.std.specs.Prelude.{◌≡◌, List, ℕ, ◌+◌, ◌*◌, ◌≤◌, ◌<◌, length, get_or}
use Rattle.model.specs.Graph.{Graph, edge, mark, rested, accepting_count}

-- the file's edges come first; those after them, if there are any, are loops, and "act numbers still cover file edges
-- only"
pub record Case : Type 0 where
  pub graph : Graph
  pub file_edges : ℕ
  pub workers : ℕ
  pub owners : List ℕ

unfoldable pub owner : Case → (v : ℕ) → ℕ
owner c v = get_or c.owners v 0

-- "In every run each vertex with no outgoing edge gets a loop to itself": the case that a run is of
unfoldable pub resting : Case → Case
resting c = record { graph = rested c.graph; file_edges = c.file_edges; workers = c.workers; owners = c.owners }

-- LIMITS: "Vertices 1 to 500, edges 0 to 2,000, workers 1 to 16"
abbrev pub most_vertices : ℕ
most_vertices = 500

abbrev pub most_edges : ℕ
most_edges = 2000

-- with its rest loops a graph has one more for each vertex at most
abbrev pub most_run_edges : ℕ
most_run_edges = most_edges + most_vertices

abbrev pub most_workers : ℕ
most_workers = 16

-- "1: over 65,536 bytes (also an answer file)"
abbrev pub longest_file : ℕ
longest_file = 65536

-- "11: output under 8,192 bytes, or work under 16,384 signed 32-bit cells"
abbrev pub least_output : ℕ
least_output = 8192

abbrev pub least_work : ℕ
least_work = 16384

-- "12: a count above 500, a distance outside −500 to 500": an answer lists no more than there can be vertices, and no
-- distance is farther
abbrev pub most_listed : ℕ
most_listed = most_vertices

abbrev pub farthest : ℕ
farthest = most_vertices

-- "Case files keep version 1", and charts have no other; answers of version 1 are judged "by the old meaning"
abbrev pub known_version : ℕ
known_version = 1

-- "Answers carry version 2"
abbrev pub answer_version : ℕ
answer_version = 2

-- "at most (n + m) × (A + 1) acts do something"; of a graph with its rest loops, "m counts them"
unfoldable pub most_acts : Case → ℕ
most_acts c = (c.graph.vertices + length c.graph.edges) * (accepting_count c.graph + 1)

-- a vertex is scanned at most A + 1 times, and a scan sends at most one offer along a file edge, along a loop none
unfoldable pub most_sent : Case → ℕ
most_sent c = c.file_edges * (accepting_count c.graph + 1)

-- SOUND: what the promises ask of a case, and every accepted file gives
pub record Sound (c : Case) : Type 0 where
  pub source : c.graph.source < c.graph.vertices
  pub marks : length c.graph.accepting ≡ c.graph.vertices
  pub owned : length c.owners ≡ c.graph.vertices
  pub mark : (v : ℕ) → v < c.graph.vertices → mark c.graph v < 2
  pub owner : (v : ℕ) → v < c.graph.vertices → owner c v < c.workers
  pub from : (e : ℕ) → e < length c.graph.edges → (edge c.graph e).from < c.graph.vertices
  pub to : (e : ℕ) → e < length c.graph.edges → (edge c.graph e).to < c.graph.vertices
  pub file : c.file_edges ≤ length c.graph.edges
  pub loops : (e : ℕ) → c.file_edges ≤ e → e < length c.graph.edges → (edge c.graph e).to ≡ (edge c.graph e).from

-- within the limits: asked only where an answer must fit the output, or a count 32 bits
pub record Within (c : Case) : Type 0 where
  pub vertices : c.graph.vertices ≤ most_vertices
  pub file : c.file_edges ≤ most_edges
  pub edges : length c.graph.edges ≤ most_run_edges
  pub workers : c.workers ≤ most_workers
