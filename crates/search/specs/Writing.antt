-- The answers' writers: what they ask of the cells, and what they put into the output, p being the writer before and q
-- after. Assumes nothing: these are definitions.
use Rattle.std.specs.Prelude.{◌≡◌, List, [], ◌∷◌, ℕ, ◌+◌, ◌≤◌, ◌<◌, length, get_or, ℤ, pos}
use Rattle.std.proofs.Math.Option.{Option, none}
use Rattle.text.specs.Lines.{fields, text}
use Rattle.text.specs.Writing.{Puts}
use Rattle.text.specs.declared.write.Writer.{Writer}
use Rattle.model.specs.Case.{most_vertices, most_run_edges}
use Rattle.model.specs.Answer.{answer_names, head_row, edge_rows, lasso_text, vertex_rows, empty_text}
use Rattle.search.specs.Cells.{Region, Below, far, distance_at}

-- the first two lines of both answers
unfoldable pub head_text : (verdict : List ℕ) → (stem cycle reached : ℕ) → List ℕ
head_text w s k r = text (fields answer_names ∷ head_row w s k r ∷ [])

-- EDGES: a number in each of count cells from base on, and the lines of these numbers
pub record EdgesAt (base count : ℕ) (w : List ℤ) : Type 0 where
  pub inside : base + count ≤ length w
  pub each : (i : ℕ) → i < count → Below most_run_edges (get_or w (base + i) (pos 0))

pub record EdgesSay (base count : ℕ) (w : List ℤ) (p q : Writer) : Type 0 where
  pub lines : (es : List ℕ) → Region pos 0 base es w → length es ≡ count → Puts (text (edge_rows es)) p q

-- VERTICES: the cells of n distances; the line of one vertex, perhaps none, by the distance in its cell; the lines of
-- the first n; how many these are
pub record DistancesAt (n : ℕ) (w : List ℤ) : Type 0 where
  pub few : n ≤ most_vertices
  pub inside : distance_at + n ≤ length w

pub record VertexSays (v : ℕ) (distance : ℤ) (p q : Writer) : Type 0 where
  pub line : (d : Option ℕ) → distance ≡ far d → Puts (text (vertex_rows v (d ∷ []))) p q

pub record VerticesSay (n : ℕ) (w : List ℤ) (p q : Writer) : Type 0 where
  pub lines : (ds : List (Option ℕ)) → Region far none distance_at ds w → length ds ≡ n → Puts (text (vertex_rows 0 ds)) p q

pub record Reached (n r : ℕ) (w : List ℤ) : Type 0 where
  pub few : r ≤ n
  pub count : (ds : List (Option ℕ)) → Region far none distance_at ds w → length ds ≡ n → r ≡ length (vertex_rows 0 ds)

-- THE ANSWERS
pub record LassoAsks (first stem start cycle : ℕ) (w : List ℤ) : Type 0 where
  pub stem_edges : EdgesAt first stem w
  pub cycle_edges : EdgesAt start cycle w
  pub stem_short : stem ≤ most_vertices
  pub cycle_short : cycle ≤ most_vertices

pub record LassoSays (first stem start cycle : ℕ) (w : List ℤ) (p q : Writer) : Type 0 where
  pub answer : (ss es : List ℕ) → Region pos 0 first ss w → length ss ≡ stem → Region pos 0 start es w → length es ≡ cycle → Puts (lasso_text ss es) p q

pub record EmptySays (n : ℕ) (w : List ℤ) (p q : Writer) : Type 0 where
  pub answer : (ds : List (Option ℕ)) → Region far none distance_at ds w → length ds ≡ n → Puts (empty_text ds) p q
