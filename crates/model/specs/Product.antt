-- "The product of source document 003, Definition 1, with every mode accepting", as a graph and as a case, and the refusals
-- of building it. Assumes nothing: these are definitions.
use Rattle.std.specs.Prelude.{Bool, true, false, ◌&&◌, ◌||◌, not, cond, List, [], ◌∷◌, ◌++◌, ℕ, zero, suc, ◌+◌, ◌*◌, ◌/◌, ◌%◌, ◌^◌, ltb, leb, eqb, length}
use Rattle.model.specs.Graph.{Edge, Graph, table_of}
use Rattle.model.specs.Case.{Case, most_edges, most_workers}
use Rattle.model.specs.CaseFile.{refuse, first_of}
use Rattle.model.specs.ClaimTable.{claim_refusal}
use Rattle.model.specs.Claim.{Claim, state, claim_moves, claim_in}
use Rattle.model.specs.ClaimEntry.{mark_of}
use Rattle.model.specs.Chart.{Chart, combinations, next_mode, chart_in, chart_says}

-- AUTOMATA over letters and states that are numbers from 0 on
pub record Automaton : Type 0 where
  pub letters : ℕ
  pub states : ℕ
  pub start : ℕ
  pub moves : (letter from to : ℕ) → Bool
  pub accepts : (state : ℕ) → Bool

-- 003, Definition 1: states S_A × S_B, start (q_A, q_B), accepting F_A × F_B; on a letter (u, v) goes to (u', v')
-- exactly if u goes to u' and v to v'. The pair (u, v) has the number u × |S_B| + v
unfoldable pub product : Automaton → Automaton → Automaton
product a b =
    let n = b.states in
    record {
      letters = a.letters;
      states = a.states * n;
      start = a.start * n + b.start;
      moves = λ x s t. a.moves x (s / n) (t / n) && b.moves x (s % n) (t % n);
      accepts = λ s. a.accepts (s / n) && b.accepts (s % n);
    }

-- a letter is a combination of flags; "with every mode accepting"
unfoldable pub chart_automaton : Chart → Automaton
chart_automaton h =
    record { letters = combinations h; states = h.modes; start = h.start; moves = λ f q r. eqb (next_mode h q f) r; accepts = λ q. true }

-- "Proposition i is flag i"
unfoldable pub claim_automaton : Claim → Automaton
claim_automaton k =
    record { letters = 2 ^ k.propositions; states = length k.states; start = k.start; moves = claim_moves k; accepts = λ c. (state k c).accepting }

-- THE GRAPH of an automaton: "there is an edge when some flag combination lets both parts move"
unfoldable pub some_letter : (left x : ℕ) → Automaton → (s t : ℕ) → Bool
some_letter zero x a s t = false
some_letter (suc k) x a s t = a.moves x s t || some_letter k (suc x) a s t

unfoldable pub has_edge : Automaton → (s t : ℕ) → Bool
has_edge a s t = some_letter a.letters 0 a s t

-- edges rise by from, then to: those from s to t and the states after it; those from s and the states after it
unfoldable pub edges_to : (left t : ℕ) → Automaton → (s : ℕ) → List Edge
edges_to zero t a s = []
edges_to (suc k) t a s = cond (has_edge a s t) (record { from = s; to = t } ∷ edges_to k (suc t) a s) (edges_to k (suc t) a s)

unfoldable pub edges_from : (left s : ℕ) → Automaton → List Edge
edges_from zero s a = []
edges_from (suc k) s a = edges_to a.states 0 a s ++ edges_from k (suc s) a

-- "accepting 0 for a product vertex with no edge, since there the claim has stopped and not the aircraft"
unfoldable pub goes_on : Automaton → (s : ℕ) → Bool
goes_on a s = leb 1 (length (edges_to a.states 0 a s))

abbrev pub state_mark : Automaton → (s : ℕ) → ℕ
state_mark a s = mark_of (a.accepts s && goes_on a s)

unfoldable pub graph_of : Automaton → Graph
graph_of a = record { vertices = a.states; source = a.start; accepting = table_of (state_mark a) a.states 0; edges = edges_from a.states 0 a }

abbrev pub product_graph : Chart → Claim → Graph
product_graph h k = graph_of (product (chart_automaton h) (claim_automaton k))

-- "The owner is the vertex number's remainder by workers"
abbrev pub remainder_by : (workers v : ℕ) → ℕ
remainder_by p v = v % p

unfoldable pub product_case : Chart → Claim → (workers : ℕ) → Case
product_case h k p = let g = product_graph h k in record { graph = g; file_edges = length g.edges; workers = p; owners = table_of (remainder_by p) g.vertices 0 }

-- THE PRODUCT IN TWO TEXTS, a chart's and a claim's
abbrev pub graph_in : (chart claim : List ℕ) → Graph
graph_in bs cs = product_graph (chart_in bs) (claim_in cs)

abbrev pub built_case : (chart claim : List ℕ) → (workers : ℕ) → Case
built_case bs cs p = product_case (chart_in bs) (claim_in cs) p

-- REFUSALS. "Chart faults come before claim faults"; "20, propositions and flags differ in count; 21, too many edges; after
-- all other faults of chart and claim, in that order"
unfoldable pub product_refusal : (chart claim : List ℕ) → ℕ
product_refusal bs cs =
    first_of ((chart_says bs).refusal
    ∷ claim_refusal cs
    ∷ refuse (not (eqb (claim_in cs).propositions (chart_in bs).flags)) 20
    ∷ refuse (ltb most_edges (length (graph_in bs cs).edges)) 21
    ∷ [])

-- "It and the listing each need an output of 65,536 bytes, else number 11"
abbrev pub least_case_output : ℕ
least_case_output = 65536

-- 11 is "checked first"; "a worker count outside 01's range gets 5, before either file is read"
unfoldable pub build_refusal : (chart claim : List ℕ) → (workers output : ℕ) → ℕ
build_refusal bs cs p o =
    first_of (refuse (ltb o least_case_output) 11 ∷ refuse (not (leb 1 p && leb p most_workers)) 5 ∷ product_refusal bs cs ∷ [])
