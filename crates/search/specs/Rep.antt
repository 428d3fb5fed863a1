-- How a case and a run of it lie in the lent cells: the tables of specs/Cells.antt, queues by links, and the counters
-- of `Run`. Assumes nothing: these are definitions.
use Rattle.std.specs.Prelude.{◌≡◌, true, false, List, [], ◌∷◌, ℕ, ◌+◌, ◌≤◌, ◌<◌, length, get_or, ℤ, pos}
use Rattle.std.proofs.Math.Option.{Option, none, some}
use Rattle.std.specs.Prelude as code
use Rattle.model.specs.Graph.{Edge, edge, accepting_count}
use Rattle.model.specs.Case.{Case, owner, least_work, Sound, Within}
use Rattle.model.specs.Run.{Tallies, State, member, full_cells}
use Rattle.model.specs.Promise.{Balanced}
use Rattle.search.specs.declared.run.Run.{Run}
use Rattle.search.specs.Cells.{Region, far, by_more, by_from, by_to, accepting_at, owner_at, from_at, to_at, first_at, rest_at, distance_at, parent_at, link_at, message_at, head_at, tail_at}

-- THE CASE. An edge that stands past the last one
abbrev pub no_edge : Edge
no_edge = record { from = 0; to = 0 }

-- file edges are sorted by from, and F v is the number of the first one from v or a later vertex: v's own are F v to
-- F (v + 1)
pub record FirstEdges (from : ℕ → ℕ) (n m : ℕ) (F : List ℕ) : Type 0 where
  pub sized : length F ≡ n + 1
  pub below : (v : ℕ) → v ≤ n → get_or F v 0 ≤ m
  pub before : (v e : ℕ) → v ≤ n → e < get_or F v 0 → from e < v
  pub after : (v e : ℕ) → v ≤ n → get_or F v 0 ≤ e → e < m → v ≤ from e

abbrev pub Firsts : Case → (F : List ℕ) → Type 0
Firsts c F = FirstEdges (λ e. (edge c.graph e).from) c.graph.vertices c.file_edges F

-- the edges a to b are those of v
pub record Own (c : Case) (v a b : ℕ) : Type 0 where
  pub order : a ≤ b
  pub below : b ≤ length c.graph.edges
  pub before : (i : ℕ) → i < a → (edge c.graph i).from ≡ v → ⊥
  pub after : (i : ℕ) → b ≤ i → i < length c.graph.edges → (edge c.graph i).from ≡ v → ⊥
  pub inside : (i : ℕ) → a ≤ i → i < b → (edge c.graph i).from ≡ v

-- a vertex has its file edges, or the one rest loop R v where it has none
pub record Rests (c : Case) (F R : List ℕ) : Type 0 where
  pub sized : length R ≡ c.graph.vertices
  pub goes_on : (v : ℕ) → v < c.graph.vertices → get_or F v 0 < get_or F (v + 1) 0 → Own c v (get_or F v 0) (get_or F (v + 1) 0)
  pub rests : (v : ℕ) → v < c.graph.vertices → get_or F (v + 1) 0 ≤ get_or F v 0 → Own c v (get_or R v 0) (get_or R v 0 + 1)

-- a case stands in the cells
pub record Laid (c : Case) (w : List ℤ) : Type 0 where
  pub sound : Sound c
  pub within : Within c
  pub long : least_work ≤ length w
  pub first : List ℕ
  pub firsts : Firsts c first
  pub rest : List ℕ
  pub rests : Rests c first rest
  pub mark_cells : Region pos 0 accepting_at c.graph.accepting w
  pub owner_cells : Region pos 0 owner_at c.owners w
  pub from_cells : Region by_from no_edge from_at c.graph.edges w
  pub to_cells : Region by_to no_edge to_at c.graph.edges w
  pub first_cells : Region pos 0 first_at first w
  pub rest_cells : Region pos 0 rest_at rest w

-- THE RUN'S TABLES
pub record Tables : Type 0 where
  pub depths : List (Option ℕ)
  pub parents : List (Option ℕ)
  pub links : List ℕ
  pub cells : List (Option ℕ)
  pub heads : List ℕ
  pub tails : List ℕ

-- a table of so many items stands in the cells from a base on, each by its code
pub record Table {A : Type 0} (code : A → ℤ) (default : A) (base size : ℕ) (l : List A) (w : List ℤ) : Type 0 where
  pub sized : length l ≡ size
  pub region : Region code default base l w

-- the tables stand beside the case
pub record Held (c : Case) (t : Tables) (w : List ℤ) : Type 0 where
  pub laid : Laid c w
  pub depths : Table far none distance_at c.graph.vertices t.depths w
  pub parents : Table by_more none parent_at c.graph.vertices t.parents w
  pub links : Table pos 0 link_at c.graph.vertices t.links w
  pub cells : Table far none message_at c.file_edges t.cells w
  pub heads : Table pos 0 head_at c.workers t.heads w
  pub tails : Table pos 0 tail_at c.workers t.tails w

-- QUEUES BY LINKS: a vertex's link is 0 if it is in no queue, 1 if it is the last, else the next vertex, coded; a
-- worker's head is 1 if its queue is empty, else its first vertex, coded
abbrev pub coded : (v : ℕ) → ℕ
coded v = v + 2

abbrev pub link : List ℕ → ℕ
link [] = 1
link (v ∷ q) = coded v

abbrev pub Linked : (links queue : List ℕ) → Type 0
Linked N [] = Unit {0}
Linked N (v ∷ q) = (get_or N v 0 ≡ link q) × (member v q ≡ false) × Linked N q

abbrev pub Ends : (tail : ℕ) → (queue : List ℕ) → Type 0
Ends t [] = Unit {0}
Ends t (v ∷ []) = t ≡ v
Ends t (v ∷ u ∷ q) = Ends t (u ∷ q)

pub record Lined (c : Case) (qs : List (List ℕ)) (N H T : List ℕ) : Type 0 where
  pub sized : length qs ≡ c.workers
  pub chains : (p : ℕ) → Linked N (get_or qs p [])
  pub heads : (p : ℕ) → p < c.workers → get_or H p 0 ≡ link (get_or qs p [])
  pub tails : (p : ℕ) → p < c.workers → Ends (get_or T p 0) (get_or qs p [])
  pub mine : (p v : ℕ) → member v (get_or qs p []) ≡ true → (v < c.graph.vertices) × (owner c v ≡ p)
  pub clear : (v : ℕ) → v < c.graph.vertices → member v (get_or qs (owner c v) []) ≡ false → get_or N v 0 ≡ 0

-- COUNTERS: each act counted was a turn or a delivery, and the tallies tell how many cells have a message
abbrev pub tallies_in : Run → Tallies
tallies_in k = record { sent = k.sent; delivered = k.delivered; joined = k.joined }

-- the vertex that broke the floor, if one did, as the code has it
abbrev pub held_as : Option ℕ → code.Option ℕ
held_as none = code.None
held_as (some v) = code.Some v

pub record Counted (A : ℕ) (cells : List (Option ℕ)) (broken : Option ℕ) (count : ℕ) (tallies : Tallies) (k : Run) : Type 0 where
  pub full : Balanced (tallies_in k) (full_cells cells)
  pub acts : k.turns + k.delivered ≡ count
  pub tallied : tallies_in k ≡ tallies
  pub broke : k.broken ≡ held_as broken
  pub marks : k.marks ≡ A

-- a run x of the case c stands in the cells w, with the counters k. That it ended as "empty" is nowhere: at every moment
-- the queues and the cells tell it
abbrev pub tables : State → (links heads tails : List ℕ) → Tables
tables x N H T = record { depths = x.depths; parents = x.parents; links = N; cells = x.cells; heads = H; tails = T }

pub record Rep (c : Case) (x : State) (k : Run) (w : List ℤ) : Type 0 where
  pub links : List ℕ
  pub heads : List ℕ
  pub tails : List ℕ
  pub held : Held c (tables x links heads tails) w
  pub lined : Lined c x.queues links heads tails
  pub counted : Counted (accepting_count c.graph) x.cells x.broken x.count x.tallies k
