-- "The acts": the state of a run, turns, scans, deliveries, lists and rounds. A distance is never above 0 and is kept
-- as its depth, how far it is below; so a lower offer is a deeper one. Assumes nothing: these are definitions.
use Rattle.std.specs.Prelude.{◌≡◌, Bool, true, false, ◌&&◌, ◌||◌, not, cond, List, [], ◌∷◌, ◌++◌, ℕ, zero, suc, ◌+◌, ◌-◌, ltb, eqb, length, get_or, set, replicate, ℤ, pos, neg_ℤ}
use Rattle.std.proofs.Math.Option.{Option, none, some}
use Rattle.model.specs.Graph.{edge, edge_depth, accepting_count}
use Rattle.model.specs.Case.{Case, owner, most_acts}

-- TALLIES. "Three tallies: sent, delivered, joined": offers put into cells, those that join included; messages
-- delivered; offers put where a message waited
pub record Tallies : Type 0 where
  pub sent : ℕ
  pub delivered : ℕ
  pub joined : ℕ

abbrev pub no_tallies : Tallies
no_tallies = record { sent = 0; delivered = 0; joined = 0 }

-- an offer is put into a cell, and joins the message there or not; a cell is emptied by a delivery
abbrev pub put_one : (joins : Bool) → Tallies → Tallies
put_one b t = record { sent = t.sent + 1; delivered = t.delivered; joined = cond b (t.joined + 1) t.joined }

abbrev pub deliver_one : Tallies → Tallies
deliver_one t = record { sent = t.sent; delivered = t.delivered + 1; joined = t.joined }

-- THE STATE of a run. By vertex: depth and parent edge; by worker: its queue, head first; by edge: the message in its
-- cell; the vertex that broke the floor, whether the run ended as "empty", the acts counted, the tallies
pub record State : Type 0 where
  pub depths : List (Option ℕ)
  pub parents : List (Option ℕ)
  pub queues : List (List ℕ)
  pub cells : List (Option ℕ)
  pub broken : Option ℕ
  pub ended_empty : Bool
  pub count : ℕ
  pub tallies : Tallies

-- the signed distance that a depth stands for
unfoldable pub distance : (depth : ℕ) → ℤ
distance d = neg_ℤ (pos d)

unfoldable pub is_some : {A : Type 0} → Option A → Bool
is_some none = false
is_some (some a) = true

-- a run ended as "lasso"; it ended as "lasso" or as "empty"
unfoldable pub ended_lasso : State → Bool
ended_lasso x = is_some x.broken

unfoldable pub has_ended : State → Bool
has_ended x = ended_lasso x || x.ended_empty

-- THE FRESH RUN. "Before its first act a run has the source at distance 0 and in its owner's queue; all else is
-- without distance, parent or message". A rest loop stays with one owner, so it has no cell
unfoldable pub fresh : Case → State
fresh c =
    let g = c.graph in
    record {
      depths = set (replicate g.vertices none) g.source (some 0);
      parents = replicate g.vertices none;
      queues = set (replicate c.workers []) (owner c g.source) (g.source ∷ []);
      cells = replicate c.file_edges none;
      broken = none;
      ended_empty = false;
      count = 0;
      tallies = no_tallies;
    }

abbrev pub with_queues : List (List ℕ) → State → State
with_queues qs x =
    record { depths = x.depths; parents = x.parents; queues = qs; cells = x.cells; broken = x.broken; ended_empty = x.ended_empty; count = x.count; tallies = x.tallies }

abbrev pub with_cells : List (Option ℕ) → Tallies → State → State
with_cells os t x =
    record { depths = x.depths; parents = x.parents; queues = x.queues; cells = os; broken = x.broken; ended_empty = x.ended_empty; count = x.count; tallies = t }

-- RELAXING an edge (01: trying an offer). "If the target has no distance or a greater one, it takes the offer, its
-- parent becomes that edge, and it joins the tail of its owner's queue unless it is there"
unfoldable pub takes : (depth : Option ℕ) → (offer : ℕ) → Bool
takes none o = true
takes (some d) o = ltb d o

unfoldable pub member : ℕ → List ℕ → Bool
member v [] = false
member v (u ∷ us) = eqb v u || member v us

unfoldable pub enqueue : (owner v : ℕ) → (queues : List (List ℕ)) → List (List ℕ)
enqueue w v qs = cond (member v (get_or qs w [])) qs (set qs w (get_or qs w [] ++ (v ∷ [])))

-- "A run ends as lasso as soon as a try, done whole, has left a distance below −A": the vertex whose distance that is
unfoldable pub below_floor : (A v depth : ℕ) → Option ℕ
below_floor a v d = cond (ltb a d) (some v) none

abbrev pub taken : Case → (e offer : ℕ) → State → State
taken c e o x =
    let v = (edge c.graph e).to in
    record {
      depths = set x.depths v (some o);
      parents = set x.parents v (some e);
      queues = enqueue (owner c v) v x.queues;
      cells = x.cells;
      broken = below_floor (accepting_count c.graph) v o;
      ended_empty = x.ended_empty;
      count = x.count;
      tallies = x.tallies;
    }

unfoldable pub relax : Case → (e offer : ℕ) → State → State
relax c e o x = cond (takes (get_or x.depths (edge c.graph e).to none) o) (taken c e o x) x

-- SENDING. "An edge to another owner puts the offer in its cell; if a message waits there, the lower of the two
-- remains". "Putting an offer in a cell must now say whether it joined a waiting message"
unfoldable pub lower : (waiting : Option ℕ) → (offer : ℕ) → ℕ
lower none o = o
lower (some k) o = cond (ltb k o) o k

abbrev pub send : (e offer : ℕ) → State → State
send e o x = let waiting = get_or x.cells e none in with_cells (set x.cells e (some (lower waiting o))) (put_one (is_some waiting) x.tallies) x

-- SCANNING. "Its edges follow in number order, each offering that distance plus the edge's length. An edge to a
-- vertex of the same owner is tried on the spot." Nothing more is done once the floor is broken, "even in the middle
-- of a scan"
unfoldable pub scan_edge : Case → (v depth e : ℕ) → State → State
scan_edge c v d e x =
    let f = edge c.graph e in
    let offer = d + edge_depth c.graph e in
    cond (ended_lasso x || not (eqb f.from v)) x (cond (eqb (owner c f.to) (owner c v)) (relax c e offer x) (send e offer x))

-- edge e and the edges after it, so many in all
unfoldable pub scan_from : (left e : ℕ) → Case → (v depth : ℕ) → State → State
scan_from zero e c v d x = x
scan_from (suc k) e c v d x = scan_from k (suc e) c v d (scan_edge c v d e x)

unfoldable pub scan : Case → (v depth : ℕ) → State → State
scan c v d x = scan_from (length c.graph.edges) 0 c v d x

-- AFTER AN ACT that did something it is counted, "the one that ends the run included". "It ends as empty when, after
-- a whole act, all queues and cells are empty"
unfoldable pub no_vertex : (queues : List (List ℕ)) → Bool
no_vertex [] = true
no_vertex (q ∷ qs) = eqb (length q) 0 && no_vertex qs

unfoldable pub no_message : (cells : List (Option ℕ)) → Bool
no_message [] = true
no_message (o ∷ os) = not (is_some o) && no_message os

-- how many cells have a message, "cells still full"
unfoldable pub one_if : (message : Option ℕ) → ℕ
one_if none = 0
one_if (some o) = 1

unfoldable pub sum_of : {A : Type 0} → (A → ℕ) → List A → ℕ
sum_of f [] = 0
sum_of f (a ∷ l) = f a + sum_of f l

abbrev pub full_cells : (cells : List (Option ℕ)) → ℕ
full_cells os = sum_of one_if os

abbrev pub counted : State → State
counted x =
    record {
      depths = x.depths;
      parents = x.parents;
      queues = x.queues;
      cells = x.cells;
      broken = x.broken;
      ended_empty = not (ended_lasso x) && (no_vertex x.queues && no_message x.cells);
      count = suc x.count;
      tallies = x.tallies;
    }

-- TURN. "The head of the worker's queue is taken off and scanned. Its distance is read once, at the start"; "a turn
-- with an empty queue is idle: it changes nothing and isn't counted"
unfoldable pub depth_or : Option ℕ → ℕ
depth_or none = 0
depth_or (some d) = d

unfoldable pub turn_of : Case → (w : ℕ) → (queue : List ℕ) → State → State
turn_of c w [] x = x
turn_of c w (v ∷ q) x = counted (scan c v (depth_or (get_or x.depths v none)) (with_queues (set x.queues w q) x))

unfoldable pub turn : Case → (w : ℕ) → State → State
turn c w x = turn_of c w (get_or x.queues w []) x

-- DELIVERY: the cell's message is counted as delivered, whether its offer is taken or not
abbrev pub emptied : (e : ℕ) → State → State
emptied e x = with_cells (set x.cells e none) (deliver_one x.tallies) x

-- "The cell is emptied and its offer tried"; "a delivery from an empty cell or one on an edge that has no
-- cell is idle". Within one owner no message is ever sent, so that edge's cell stays empty
unfoldable pub delivery_of : Case → (e : ℕ) → (message : Option ℕ) → State → State
delivery_of c e none x = x
delivery_of c e (some o) x = counted (relax c e o (emptied e x))

unfoldable pub delivery : Case → (e : ℕ) → State → State
delivery c e x = delivery_of c e (get_or x.cells e none) x

-- ACTS. "With P workers, act a below P is a turn of worker a, and act P + e a delivery on edge e"; "acts after the
-- end are not done"
unfoldable pub act : Case → (a : ℕ) → State → State
act c a x = cond (has_ended x) x (cond (ltb a c.workers) (turn c a x) (delivery c (a - c.workers) x))

-- IDLE: "a turn with an empty queue, a delivery from an empty cell or one on an edge that has no cell"
unfoldable pub idle : Case → (a : ℕ) → State → Bool
idle c a x = cond (ltb a c.workers) (eqb (length (get_or x.queues a [])) 0) (not (is_some (get_or x.cells (a - c.workers) none)))

-- "An act does something if it is done and not idle"
unfoldable pub does_something : Case → (a : ℕ) → State → Bool
does_something c a x = not (has_ended x) && not (idle c a x)

-- "Each act gets the distances, parents, queues and cells that the one before it left"
unfoldable pub acted : Case → (acts : List ℕ) → State → State
acted c [] x = x
acted c (a ∷ more) x = acted c more (act c a x)

-- "the acts counted are these": how many acts of a list do something
unfoldable pub acts_done : Case → (acts : List ℕ) → State → ℕ
acts_done c [] x = 0
acts_done c (a ∷ more) x = let k = acts_done c more (act c a x) in cond (does_something c a x) (suc k) k

-- ROUNDS. "A round is every turn by worker number, then every delivery by edge number": the acts 0 to P + m − 1, where
-- "act numbers still cover file edges only"
unfoldable pub range : (left i : ℕ) → List ℕ
range zero i = []
range (suc k) i = i ∷ range k (suc i)

unfoldable pub round_acts : Case → List ℕ
round_acts c = range (c.workers + c.file_edges) 0

-- "the run by rounds repeats it to the end": at most so many rounds; `Promise` has that most_acts of them always
-- reach the end
unfoldable pub rounds : (left : ℕ) → Case → State → State
rounds zero c x = x
rounds (suc k) c x = cond (has_ended x) x (rounds k c (acted c (round_acts c) x))

-- THE RUNS: by a list of acts, and by rounds
unfoldable pub by_list : Case → (acts : List ℕ) → State
by_list c xs = acted c xs (fresh c)

unfoldable pub by_rounds : Case → State
by_rounds c = rounds (most_acts c) c (fresh c)

-- a moment of a run: the state after some list of acts
pub record Moment (c : Case) (x : State) : Type 0 where
  pub acts : List ℕ
  pub is : x ≡ by_list c acts
