-- The lent cells: where each table stands, how a list stands in a region of them, and how its elements are coded.
-- Assumes nothing: these are definitions.
use Rattle.std.specs.Prelude.{◌≡◌, List, ℕ, suc, ◌+◌, ◌≤◌, ◌<◌, length, get_or, ℤ, pos, neg_ℤ}
use Rattle.std.proofs.Math.Option.{Option, none, some}
use Rattle.model.specs.Graph.{Edge}
use Rattle.model.specs.Case.{most_vertices, most_edges, most_run_edges, most_workers}

-- WHERE each table stands, one after the other, as in src/cells.rt
abbrev pub accepting_at : ℕ
accepting_at = 0

abbrev pub owner_at : ℕ
owner_at = accepting_at + most_vertices

abbrev pub from_at : ℕ
from_at = owner_at + most_vertices

abbrev pub to_at : ℕ
to_at = from_at + most_run_edges

abbrev pub first_at : ℕ
first_at = to_at + most_run_edges

abbrev pub rest_at : ℕ
rest_at = first_at + most_vertices + 1

abbrev pub distance_at : ℕ
distance_at = rest_at + most_vertices

abbrev pub parent_at : ℕ
parent_at = distance_at + most_vertices

abbrev pub link_at : ℕ
link_at = parent_at + most_vertices

abbrev pub message_at : ℕ
message_at = link_at + most_vertices

abbrev pub head_at : ℕ
head_at = message_at + most_edges

abbrev pub tail_at : ℕ
tail_at = head_at + most_workers

abbrev pub found_at : ℕ
found_at = tail_at + most_workers

abbrev pub queue_at : ℕ
queue_at = found_at + most_vertices

abbrev pub stem_at : ℕ
stem_at = queue_at + most_vertices

abbrev pub cycle_at : ℕ
cycle_at = stem_at + most_vertices

abbrev pub cells_end : ℕ
cells_end = cycle_at + most_vertices

-- a list stands in the cells from a base on, each element by its code
pub record Region {A : Type 0} (code : A → ℤ) (default : A) (base : ℕ) (l : List A) (w : List ℤ) : Type 0 where
  pub each : (i : ℕ) → i < length l → get_or w (base + i) (pos 0) ≡ code (get_or l i default)

-- a cell's number is below a limit
pub record Below (limit : ℕ) (z : ℤ) : Type 0 where
  pub number : ℕ
  pub is : z ≡ pos number
  pub less : number < limit

-- CODES: a depth as the distance, 1 where there is none, so that "takes the offer" is one signed comparison; an edge as
-- its number and 1, 0 where there is none
abbrev pub far : Option ℕ → ℤ
far none = pos 1
far (some d) = neg_ℤ (pos d)

abbrev pub more : Option ℕ → ℕ
more none = 0
more (some e) = suc e

abbrev pub by_more : Option ℕ → ℤ
by_more o = pos (more o)

abbrev pub by_from : Edge → ℤ
by_from e = pos e.from

abbrev pub by_to : Edge → ℤ
by_to e = pos e.to

-- one number in each of count cells from base on, every other cell as it was
pub record Filled (base count : ℕ) (z : ℤ) (w v : List ℤ) : Type 0 where
  pub long : length v ≡ length w
  pub inside : (j : ℕ) → base ≤ j → j < base + count → get_or v j (pos 0) ≡ z
  pub before : (j : ℕ) → j < base → get_or v j (pos 0) ≡ get_or w j (pos 0)
  pub after : (j : ℕ) → base + count ≤ j → get_or v j (pos 0) ≡ get_or w j (pos 0)
