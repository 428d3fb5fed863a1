-- A case as a case file's text. Assumes nothing: these are definitions.
use Rattle.std.specs.Prelude.{List, [], ◌∷◌, ◌++◌, Bool, true, ◌&&◌, ℕ, suc, length}
use Rattle.std.proofs.Math.Option.{Option, some}
use Rattle.text.specs.Lines.{fields, text}
use Rattle.text.specs.Numbers.{decimal}
use Rattle.model.specs.Graph.{Edge}
use Rattle.model.specs.Case.{Case, known_version}
use Rattle.model.specs.CaseFile.{head_names, vertex_names, edge_names, rises}

-- line 2: version, vertices, edges, source, workers
unfoldable pub counts_row : Case → List (List ℕ)
counts_row c =
    decimal known_version ∷ decimal c.graph.vertices ∷ decimal (length c.graph.edges) ∷ decimal c.graph.source ∷ decimal c.workers ∷ []

-- the lines of v and the vertices after it, by their marks and owners
unfoldable pub mark_rows : (v : ℕ) → (marks owners : List ℕ) → List (List (List ℕ))
mark_rows v [] os = []
mark_rows v (m ∷ ms) [] = []
mark_rows v (m ∷ ms) (o ∷ os) = (decimal v ∷ decimal m ∷ decimal o ∷ []) ∷ mark_rows (suc v) ms os

unfoldable pub end_rows : List Edge → List (List (List ℕ))
end_rows [] = []
end_rows (e ∷ es) = (decimal e.from ∷ decimal e.to ∷ []) ∷ end_rows es

unfoldable pub case_file : Case → List ℕ
case_file c =
    text (fields head_names ∷ counts_row c ∷ fields vertex_names
    ∷ mark_rows 0 c.graph.accepting c.owners ++ (fields edge_names ∷ end_rows c.graph.edges))

-- each edge rises over the one before it
unfoldable pub all_rise : (before : Option Edge) → List Edge → Bool
all_rise b [] = true
all_rise b (e ∷ es) = rises b e && all_rise (some e) es
