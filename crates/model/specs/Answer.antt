-- "The answer file": the cycle by parent edges, the stem, and the text of both answers. Assumes nothing: these are
-- definitions.
use Rattle.std.specs.Prelude.{cond, List, [], ◌∷◌, ◌++◌, ℕ, zero, suc, eqb, length, get_or}
use Rattle.std.proofs.Math.Option.{Option, none, some}
use Rattle.text.specs.Ascii.{ascii}
use Rattle.text.specs.Lines.{fields, text}
use Rattle.text.specs.Numbers.{decimal, signed_decimal}
use Rattle.model.specs.Graph.{Graph, edge}
use Rattle.model.specs.Case.{answer_version}
use Rattle.model.specs.Run.{State, distance}

-- THE CYCLE. "Go n parent edges back from the vertex that broke the floor. The cycle starts there"; from a vertex
-- without a parent one stays
unfoldable pub one_back : Graph → (parent : Option ℕ) → (v : ℕ) → ℕ
one_back g none v = v
one_back g (some e) v = (edge g e).from

unfoldable pub back : (edges : ℕ) → Graph → (parents : List (Option ℕ)) → (v : ℕ) → ℕ
back zero g ps v = v
back (suc k) g ps v = back k g ps (one_back g (get_or ps v none) v)

unfoldable pub cycle_start : Graph → (parents : List (Option ℕ)) → (broken : ℕ) → ℕ
cycle_start g ps b = back g.vertices g ps b

-- it "follows parent edges, and is written forwards": from v back to the start, so many edges at most, each put
-- before those so far
unfoldable pub with_parent : (parent : Option ℕ) → List ℕ → List ℕ
with_parent none es = es
with_parent (some e) es = e ∷ es

unfoldable pub cycle_from : (left : ℕ) → Graph → (parents : List (Option ℕ)) → (start v : ℕ) → (so_far : List ℕ) → List ℕ
cycle_from zero g ps s v es = es
cycle_from (suc k) g ps s v es =
    let p = get_or ps v none in
    cond (eqb (one_back g p v) s) (with_parent p es) (cycle_from k g ps s (one_back g p v) (with_parent p es))

unfoldable pub cycle : Graph → (parents : List (Option ℕ)) → (broken : ℕ) → List ℕ
cycle g ps b = cycle_from g.vertices g ps (cycle_start g ps b) (cycle_start g ps b) []

-- THE STEM is the one walk that `Fewest` describes (Graph.antt). This computes it: the first walk of 0 edges, else of
-- 1, and so on
unfoldable pub with_edge : ℕ → Option (List ℕ) → Option (List ℕ)
with_edge e none = none
with_edge e (some es) = some (e ∷ es)

unfoldable pub or_walk : Option (List ℕ) → Option (List ℕ) → Option (List ℕ)
or_walk none o = o
or_walk (some es) o = some es

-- the first walk of so many edges from v to the goal whose first edge is e or one after it, so many to try
unfoldable pub walk_of : (edges left e : ℕ) → Graph → (v goal : ℕ) → Option (List ℕ)
walk_of zero l e g v t = cond (eqb v t) (some []) none
walk_of (suc k) zero e g v t = none
walk_of (suc k) (suc l) e g v t =
    or_walk (cond (eqb (edge g e).from v) (with_edge e (walk_of k (length g.edges) 0 g (edge g e).to t)) none) (walk_of (suc k) l (suc e) g v t)

unfoldable pub walk_or : Option (List ℕ) → List ℕ → List ℕ
walk_or none es = es
walk_or (some ss) es = ss

unfoldable pub stem_from : (left edges : ℕ) → Graph → (goal : ℕ) → List ℕ
stem_from zero k g t = []
stem_from (suc l) k g t = walk_or (walk_of k (length g.edges) 0 g g.source t) (stem_from l (suc k) g t)

unfoldable pub stem : Graph → (goal : ℕ) → List ℕ
stem g t = stem_from g.vertices 0 g t

-- THE TEXT. "Line 2 holds the version, the verdict, the number of stem edges, of cycle edges, and of vertex lines";
-- "answers carry version 2"
abbrev pub answer_names : List ℕ
answer_names = ascii "version verdict stem cycle reached"

abbrev pub lasso_names : List ℕ
lasso_names = ascii "edge"

abbrev pub empty_names : List ℕ
empty_names = ascii "vertex distance"

-- the verdicts, as words of the answer and as the numbers that the entries return; 0 is no verdict
abbrev pub lasso_word : List ℕ
lasso_word = ascii "lasso"

abbrev pub empty_word : List ℕ
empty_word = ascii "empty"

abbrev pub lasso_verdict : ℕ
lasso_verdict = 1

abbrev pub empty_verdict : ℕ
empty_verdict = 2

abbrev pub no_verdict : ℕ
no_verdict = 0

unfoldable pub head_row : (verdict : List ℕ) → (stem cycle reached : ℕ) → List (List ℕ)
head_row w s k r = decimal answer_version ∷ w ∷ decimal s ∷ decimal k ∷ decimal r ∷ []

-- "Edge numbers follow, stem first"
unfoldable pub edge_rows : List ℕ → List (List (List ℕ))
edge_rows [] = []
edge_rows (e ∷ es) = (decimal e ∷ []) ∷ edge_rows es

unfoldable pub lasso_text : (stem cycle : List ℕ) → List ℕ
lasso_text ss es = text (fields answer_names ∷ head_row lasso_word (length ss) (length es) 0 ∷ fields lasso_names ∷ edge_rows (ss ++ es))

-- "For empty stem and cycle are 0, and the lines are `vertex distance`, then each reachable vertex in rising order,
-- as `1 -1`"; the first depth is that of v
unfoldable pub vertex_rows : (v : ℕ) → (depths : List (Option ℕ)) → List (List (List ℕ))
vertex_rows v [] = []
vertex_rows v (none ∷ ds) = vertex_rows (suc v) ds
vertex_rows v (some d ∷ ds) = (decimal v ∷ signed_decimal (distance d) ∷ []) ∷ vertex_rows (suc v) ds

unfoldable pub empty_text : (depths : List (Option ℕ)) → List ℕ
empty_text ds = text (fields answer_names ∷ head_row empty_word 0 0 (length (vertex_rows 0 ds)) ∷ fields empty_names ∷ vertex_rows 0 ds)

-- the answer of an ended run; the parents are those after the try that broke the floor
unfoldable pub answer_of : Graph → (broken : Option ℕ) → (parents depths : List (Option ℕ)) → List ℕ
answer_of g (some b) ps ds = lasso_text (stem g (cycle_start g ps b)) (cycle g ps b)
answer_of g none ps ds = empty_text ds

unfoldable pub answer : Graph → State → List ℕ
answer g x = answer_of g x.broken x.parents x.depths
