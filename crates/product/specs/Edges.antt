-- The product's edges in tables, found from the tables into which a chart and a claim were read. Assumes nothing: these are
-- definitions.
use Rattle.std.specs.Prelude.{◌≡◌, List, ℕ, ◌+◌, ◌*◌, ◌≤◌, ◌<◌, length, get_or, replicate, Result, Ok, Err}
use Rattle.model.specs.Graph.{Edge}
use Rattle.model.specs.Case.{most_edges}
use Rattle.model.specs.ClaimLabels.{bit}
use Rattle.model.specs.ClaimGrammar.{most_states}
use Rattle.model.specs.Claim.{Claim, claim_moves}
use Rattle.model.specs.Chart.{Chart, most_modes, combinations, next_mode}
use Rattle.model.specs.Product.{Automaton, product, chart_automaton, claim_automaton, has_edge, edges_to, graph_of}
use Rattle.claim.specs.LabelSays.{most_values}
use Rattle.claim.specs.Cells.{move_cell, claim_cells}
use Rattle.chart.specs.Pairs.{one_rule}
use Rattle.model.specs.declared.refusal.Refusal.{Refusal}
use Rattle.model.specs.declared.refusal.Refusal.TheVariants.{TooManyEdges}
use Rattle.product.specs.Tables.{Added}
use Rattle.product.specs.declared.edges.Sizes.{Sizes}

abbrev pub both_of : Chart → Claim → Automaton
both_of h k = product (chart_automaton h) (claim_automaton k)

-- a product has at most so many vertices
abbrev pub most_product : ℕ
most_product = most_modes * most_states

-- where a state can go on these flags, as a mask
abbrev pub Goes : Claim → (flags from mask : ℕ) → Type 0
Goes k f s m = (t : ℕ) → bit m t ≡ claim_moves k f s t

-- AN ENTRY of a chart's table leads to a mode
pub record Leads (entry : ℕ) : Type 0 where
  pub from : one_rule ≤ entry
  pub below : entry < most_modes + one_rule

-- THE TABLES of a chart and a claim, by their counts
pub record Given (h : Chart) (k : Claim) (z : Sizes) (follow cells : List ℕ) : Type 0 where
  pub of_modes : z.modes ≡ h.modes
  pub of_states : z.states ≡ length k.states
  pub of_flags : z.count ≡ combinations h
  pub next : (q f : ℕ) → q < z.modes → f < z.count → get_or follow (q * z.count + f) 0 ≡ next_mode h q f + one_rule
  pub goes : (s f : ℕ) → s < z.states → f < z.count → Goes k f s (get_or cells (move_cell s f) 0)

-- what is asked of any such tables
pub record Asks (z : Sizes) (follow cells : List ℕ) : Type 0 where
  pub some_states : 1 ≤ z.states
  pub few_states : z.states ≤ most_states
  pub few_modes : z.modes ≤ most_modes
  pub few_values : z.count ≤ most_values
  pub pairs : z.modes * z.count ≤ length follow
  pub roomy : claim_cells ≤ length cells
  pub leads : (q f : ℕ) → q < z.modes → f < z.count → Leads (get_or follow (q * z.count + f) 0)

-- A MASK: the edges from v to the states of one mode, the first of which makes vertex w
pub record MaskAdds (mask v w states : ℕ) (before : List Edge) (r : Result (Unit {0}) Refusal) (after : List Edge) : Type 0 where
  pub edges : (a : Automaton) → ((t : ℕ) → t < states → bit mask t ≡ has_edge a v (w + t)) → Added (edges_to states w a v) before r after

-- A ROW of masks, one for each mode: the edges that leave v
pub record Holds (a : Automaton) (v states : ℕ) (row : List ℕ) : Type 0 where
  pub bits : (r t : ℕ) → r < length row → t < states → bit (get_or row r 0) t ≡ has_edge a v (r * states + t)

pub record RowAdds (row : List ℕ) (v states : ℕ) (before : List Edge) (r : Result (Unit {0}) Refusal) (after : List Edge) : Type 0 where
  pub edges : (a : Automaton) → Holds a v states row → Added (edges_to (length row * states) 0 a v) before r after

-- the entries of one mode, and the masks of one state
pub record RowAsks (row entries masks : List ℕ) : Type 0 where
  pub fresh : row ≡ replicate most_modes 0
  pub long : length masks ≡ length entries
  pub leads : (f : ℕ) → f < length entries → Leads (get_or entries f 0)

pub record RowFilled (entries masks row : List ℕ) : Type 0 where
  pub holds : (h : Chart) (k : Claim) (q s : ℕ) → s < length k.states → length entries ≡ combinations h
      → ((f : ℕ) → f < length entries → get_or entries f 0 ≡ next_mode h q f + one_rule) → ((f : ℕ) → f < length entries → Goes k f s (get_or masks f 0))
      → Holds (both_of h k) (q * length k.states + s) (length k.states) row

-- THE WHOLE: the edges that leave one vertex, and all of them, if there are not too many
pub record VertexAdds (v : ℕ) (z : Sizes) (follow cells : List ℕ) (before : List Edge) (r : Result (Unit {0}) Refusal) (after : List Edge) : Type 0 where
  pub edges : (h : Chart) (k : Claim) → Given h k z follow cells → Added (edges_to (z.modes * z.states) 0 (both_of h k) v) before r after

abbrev pub AllFound : (edges : List Edge) → Result (Unit {0}) Refusal → (found : List Edge) → Type 0
AllFound es (Ok u) ds = ds ≡ es
AllFound es (Err k) ds = (k ≡ TooManyEdges) × (most_edges < length es)

pub record EdgesFound (z : Sizes) (follow cells : List ℕ) (r : Result (Unit {0}) Refusal) (found : List Edge) : Type 0 where
  pub edges : (h : Chart) (k : Claim) → Given h k z follow cells → AllFound (graph_of (both_of h k)).edges r found
