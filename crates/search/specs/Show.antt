-- The lasso that an ended run shows, read off the lent cells: the graph and the parents in them, and what the functions
-- of src/show.rt ask and say. Assumes nothing: these are definitions.
use Rattle.std.specs.Prelude.{◌≡◌, List, [], ◌∷◌, ◌++◌, ◌⊎◌, ℕ, ◌+◌, ◌≤◌, ◌<◌, length, get_or, ℤ, pos}
use Rattle.std.proofs.Math.Option.{Option, none, some}
use Rattle.model.specs.Graph.{Graph, edge, walk_end, Reaches, Lex, Fewest}
use Rattle.model.specs.Case.{Case, most_vertices}
use Rattle.model.specs.Answer.{one_back, back, cycle_start, cycle_from, cycle, stem}
use Rattle.search.specs.Rep.{Laid}
use Rattle.search.specs.Cells.{Region, by_more, parent_at, found_at, queue_at, stem_at, cycle_at, cells_end}

-- a case in the cells, and the parent edges of a run
pub record Lies (c : Case) (ps : List (Option ℕ)) (w : List ℤ) : Type 0 where
  pub laid : Laid c w
  pub parents : Region by_more none parent_at ps w
  pub sized : length ps ≡ c.graph.vertices
  pub real : (v e : ℕ) → get_or ps v none ≡ some e → e < length c.graph.edges

-- from v back every vertex has a parent
abbrev pub Chained : Graph → List (Option ℕ) → (v : ℕ) → Type 0
Chained g ps v = (k : ℕ) → (e : ℕ) × (get_or ps (back k g ps v) none ≡ some e)

-- the frame: the cells below a place are as before
pub record Kept (top : ℕ) (w v : List ℤ) : Type 0 where
  pub long : length v ≡ length w
  pub same : (i : ℕ) → i < top → get_or v i (pos 0) ≡ get_or w i (pos 0)

-- edge numbers in the cells from a place up to an end, in their order
pub record Written (c : Case) (es : List ℕ) (at end : ℕ) (w : List ℤ) : Type 0 where
  pub region : Region pos 0 at es w
  pub ends : at + length es ≡ end
  pub small : (i : ℕ) → i < length es → get_or es i 0 < length c.graph.edges

-- PARENT EDGES BACK
pub record Backable (v : ℕ) (w : List ℤ) : Type 0 where
  pub case : Case
  pub parents : List (Option ℕ)
  pub lies : Lies case parents w
  pub chained : Chained case.graph parents v

unfoldable pub ParentIs : (v r : ℕ) → List ℤ → Type 0
ParentIs v r w = (c : Case) (ps : List (Option ℕ)) → Lies c ps w → Chained c.graph ps v → get_or ps v none ≡ some r

unfoldable pub OneBackIs : (v r : ℕ) → List ℤ → Type 0
OneBackIs v r w = (c : Case) (ps : List (Option ℕ)) → Lies c ps w → Chained c.graph ps v → r ≡ one_back c.graph (get_or ps v none) v

unfoldable pub Backed : (v n r : ℕ) → List ℤ → Type 0
Backed v n r w = (c : Case) (ps : List (Option ℕ)) → Lies c ps w → Chained c.graph ps v → (r ≡ back n c.graph ps v) × Chained c.graph ps r

-- the cycle so far: `left` parent edges at most from v on make the rest
pub record Circling (c : Case) (ps : List (Option ℕ)) (start n v left at : ℕ) (w : List ℤ) : Type 0 where
  pub so_far : List ℕ
  pub rest : cycle_from left c.graph ps start v so_far ≡ cycle_from n c.graph ps start start []
  pub chained : Chained c.graph ps v
  pub written : Written c so_far at cells_end w
  pub lies : Lies c ps w

unfoldable pub Cycled : (start n r : ℕ) → (w₀ w : List ℤ) → Type 0
Cycled s n r w₀ w =
    Kept cycle_at w₀ w
    × ((c : Case) (ps : List (Option ℕ)) → Lies c ps w₀ → Chained c.graph ps s → (b : ℕ) → s ≡ cycle_start c.graph ps b → n ≡ c.graph.vertices
    → Written c (cycle c.graph ps b) r cells_end w)

-- WALKS IN ORDER: the shorter one first, of one length the first in dictionary order
pub record Le (p q : List ℕ) : Type 0 where
  pub short : length p ≤ length q
  pub first : length q ≡ length p → Lex p q

abbrev pub Less : (p q : List ℕ) → Type 0
Less p q = Le q p → ⊥

-- where a walk from the source ends
abbrev pub tip : Graph → List ℕ → ℕ
tip g t = walk_end g g.source t

-- THE SEARCH TREE: the walks by which vertices were found, in the order in which they were, and by vertex 0 while it is
-- not found, 1 for the source, else its walk's last edge, coded
abbrev pub found_by : (e : ℕ) → ℕ
found_by e = e + 2

pub data Made (g : Graph) (ts : List (List ℕ)) (ms : List ℕ) (j : ℕ) : Type 0 where
  at_source : get_or ts j [] ≡ [] → get_or ms g.source 0 ≡ 1 → Made g ts ms j
  by_edge : (i e : ℕ) → i < j → e < length g.edges → (edge g e).from ≡ tip g (get_or ts i []) → get_or ts j [] ≡ get_or ts i [] ++ (e ∷ []) → get_or ms (edge g e).to 0 ≡ found_by e → Made g ts ms j

pub record Tree (g : Graph) (ts : List (List ℕ)) (ms : List ℕ) : Type 0 where
  pub sized : length ms ≡ g.vertices
  pub some_walk : 0 < length ts
  pub root : get_or ts 0 [] ≡ []
  pub made : (j : ℕ) → j < length ts → Made g ts ms j
  pub rising : (i j : ℕ) → i < j → j < length ts → Less (get_or ts i []) (get_or ts j [])
  pub fewest : (j : ℕ) → j < length ts → Fewest g (tip g (get_or ts j [])) (get_or ts j [])
  pub known : (v : ℕ) → (get_or ms v 0 ≡ 0) ⊎ ((j : ℕ) × (j < length ts) × (tip g (get_or ts j []) ≡ v))

-- the walks before the one numbered h are scanned, and of its own edges those below e: what they lead to is found
pub record Scanned (g : Graph) (ts : List (List ℕ)) (ms : List ℕ) (h e : ℕ) : Type 0 where
  pub past : (i f : ℕ) → i < h → i < length ts → f < length g.edges → (edge g f).from ≡ tip g (get_or ts i []) → get_or ms (edge g f).to 0 ≡ 0 → ⊥
  pub here : (f : ℕ) → f < e → h < length ts → f < length g.edges → (edge g f).from ≡ tip g (get_or ts h []) → get_or ms (edge g f).to 0 ≡ 0 → ⊥
  pub ahead : h < length ts → (j : ℕ) → j < length ts → Less (get_or ts j []) (get_or ts h [] ++ (e ∷ []))

-- THE SEARCH IN THE CELLS
abbrev pub by_tip : Graph → List ℕ → ℤ
by_tip g t = pos (tip g t)

-- the tree in the cells: by vertex its mark, and in the queue the vertices in the order of the walks
pub record Stands (c : Case) (ts : List (List ℕ)) (ms : List ℕ) (w : List ℤ) : Type 0 where
  pub tree : Tree c.graph ts ms
  pub marks : Region pos 0 found_at ms w
  pub queue : Region (by_tip c.graph) [] queue_at ts w

pub record Searching (c : Case) (head e tail : ℕ) (w : List ℤ) : Type 0 where
  pub walks : List (List ℕ)
  pub list : List ℕ
  pub stands : Stands c walks list w
  pub scanned : Scanned c.graph walks list head e
  pub size : length walks ≡ tail

-- in the middle of scanning the vertex v
pub record Scanning (c : Case) (head v e tail : ℕ) (w : List ℤ) : Type 0 where
  pub search : Searching c head e tail w
  pub on : head < tail
  pub at : tip c.graph (get_or search.walks head []) ≡ v

-- the goal is found
pub record Grown (c : Case) (goal : ℕ) (w : List ℤ) : Type 0 where
  pub walks : List (List ℕ)
  pub list : List ℕ
  pub stands : Stands c walks list w
  pub number : ℕ
  pub below : number < length walks
  pub at : tip c.graph (get_or walks number []) ≡ goal

-- its walk so far, from its end: the edges that are written, and the walk to the vertex that is marked with `code`
pub record Stemming (c : Case) (goal code at : ℕ) (w : List ℤ) : Type 0 where
  pub grown : List (List ℕ)
  pub list : List ℕ
  pub stands : Stands c grown list w
  pub laid : Laid c w
  pub number : ℕ
  pub below : number < length grown
  pub mark : get_or list (tip c.graph (get_or grown number [])) 0 ≡ code
  pub so_far : List ℕ
  pub written : Written c so_far at cycle_at w
  pub whole : get_or grown number [] ++ so_far ≡ stem c.graph goal
  pub short : length (stem c.graph goal) < most_vertices

-- CONTRACTS
pub record Triable (e tail : ℕ) (w : List ℤ) : Type 0 where
  pub case : Case
  pub head : ℕ
  pub vertex : ℕ
  pub laid : Laid case w
  pub scanning : Scanning case head vertex e tail w
  pub below : e < length case.graph.edges
  pub leaves : (edge case.graph e).from ≡ vertex

unfoldable pub Tried : (e tail r : ℕ) → (w w' : List ℤ) → Type 0
Tried e tail r w w' =
    Kept found_at w w'
    × ((c : Case) (h v : ℕ) → Laid c w → Scanning c h v e tail w → e < length c.graph.edges → (edge c.graph e).from ≡ v → Scanning c h v (e + 1) r w')

pub record Scannable (head tail : ℕ) (w : List ℤ) : Type 0 where
  pub case : Case
  pub laid : Laid case w
  pub search : Searching case head 0 tail w
  pub on : head < tail

unfoldable pub Scans : (head tail r : ℕ) → (w w' : List ℤ) → Type 0
Scans head tail r w w' = Kept found_at w w' × ((c : Case) → Laid c w → Searching c head 0 tail w → head < tail → Searching c (head + 1) 0 r w')

pub record Startable (source n : ℕ) (w : List ℤ) : Type 0 where
  pub case : Case
  pub laid : Laid case w
  pub source_is : source ≡ case.graph.source
  pub vertices : n ≡ case.graph.vertices

unfoldable pub Started : (source n : ℕ) → (w w' : List ℤ) → Type 0
Started source n w w' = Kept found_at w w' × ((c : Case) → Laid c w → source ≡ c.graph.source → n ≡ c.graph.vertices → Searching c 0 0 1 w')

pub record Searchable (source goal n : ℕ) (w : List ℤ) : Type 0 where
  pub start : Startable source n w
  pub goal_below : goal < n

unfoldable pub Searched : (source goal n : ℕ) → (w w' : List ℤ) → Type 0
Searched source goal n w w' =
    Kept found_at w w'
    × ((c : Case) → Laid c w → source ≡ c.graph.source → n ≡ c.graph.vertices → goal < n → (es : List ℕ) → Reaches c.graph goal es → Grown c goal w')

pub record Stemmable (goal : ℕ) (w : List ℤ) : Type 0 where
  pub case : Case
  pub laid : Laid case w
  pub grown : Grown case goal w

unfoldable pub StemTaken : (goal r : ℕ) → (w w' : List ℤ) → Type 0
StemTaken goal r w w' = Kept stem_at w w' × ((c : Case) → Laid c w → Grown c goal w → Written c (stem c.graph goal) r cycle_at w')

-- a run that broke the floor at b: its parents never end, and the cycle's start can be reached
pub record Broke (c : Case) (ps : List (Option ℕ)) (b : ℕ) : Type 0 where
  pub chained : Chained c.graph ps b
  pub walk : List ℕ
  pub reaches : Reaches c.graph (cycle_start c.graph ps b) walk

pub record Showable (b source n : ℕ) (w : List ℤ) : Type 0 where
  pub case : Case
  pub parents : List (Option ℕ)
  pub lies : Lies case parents w
  pub broke : Broke case parents b
  pub source_is : source ≡ case.graph.source
  pub vertices : n ≡ case.graph.vertices

pub record LassoThere (c : Case) (ps : List (Option ℕ)) (b stem_from cycle_from : ℕ) (w : List ℤ) : Type 0 where
  pub stem : Written c (stem c.graph (cycle_start c.graph ps b)) stem_from cycle_at w
  pub cycle : Written c (cycle c.graph ps b) cycle_from cells_end w

unfoldable pub Shows : (b source n stem_from cycle_from : ℕ) → (w w' : List ℤ) → Type 0
Shows b source n s k w w' =
    Kept found_at w w'
    × ((c : Case) (ps : List (Option ℕ)) → Lies c ps w → Broke c ps b → source ≡ c.graph.source → n ≡ c.graph.vertices → LassoThere c ps b s k w')
