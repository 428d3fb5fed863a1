-- A case in tables, and what the writer of case files asks of them. Assumes nothing: these are definitions.
use Rattle.std.specs.Prelude.{◌≡◌, List, [], ◌∷◌, ◌++◌, ℕ, ◌≤◌, ◌<◌, map, length, get_or, Result, Ok, Err}
use Rattle.text.specs.Lines.{fields, text}
use Rattle.text.specs.Numbers.{decimal}
use Rattle.model.specs.Graph.{Edge, loop}
use Rattle.model.specs.Case.{Case, most_vertices, most_edges, known_version}
use Rattle.model.specs.CaseFile.{head_names, vertex_names}
use Rattle.model.specs.declared.refusal.Refusal.{Refusal}
use Rattle.model.specs.declared.refusal.Refusal.TheVariants.{TooManyEdges}
use Rattle.product.specs.declared.table.Ends.{Ends}

-- an edge with these ends, and all of them
abbrev pub edge_of : Ends → Edge
edge_of e = record { from = e.from; to = e.to }

abbrev pub edges_of : List Ends → List Edge
edges_of es = map edge_of es

-- where an edge leads from v; one past the table is a rest loop, which stays where it is
abbrev pub end_of : (edges : List Edge) → (e v : ℕ) → ℕ
end_of ds e v = (get_or ds e (loop v)).to

-- SOME EDGES MORE behind those that a table has, unless a case file may not have so many
abbrev pub Added : {A : Type 0} → (more before : List Edge) → Result A Refusal → (after : List Edge) → Type 0
Added es ds (Ok u) gs = gs ≡ ds ++ es
Added es ds (Err k) gs = (k ≡ TooManyEdges) × (most_edges < length (ds ++ es))

-- a mark and an owner for each vertex, and the edges; all of them are the file's
unfoldable pub tabled : (source workers : ℕ) → (marks owners : List ℕ) → List Edge → Case
tabled s p ms os es =
    record { graph = record { vertices = length ms; source = s; accepting = ms; edges = es }; file_edges = length es; workers = p; owners = os }

pub record Tables (marks owners : List ℕ) (edges : List Ends) : Type 0 where
  pub owned : length owners ≡ length marks
  pub few_vertices : length marks ≤ most_vertices
  pub few_edges : length edges ≤ most_edges

-- lines 1 to 3 of its file
unfoldable pub head_text : (vertices edges source workers : ℕ) → List ℕ
head_text n m s p =
    text (fields head_names ∷ (decimal known_version ∷ decimal n ∷ decimal m ∷ decimal s ∷ decimal p ∷ []) ∷ fields vertex_names ∷ [])
