-- What the functions over a run ask and say: each asks that the cells hold some run, and speaks of every run that they
-- hold. Assumes nothing: these are definitions.
use Rattle.std.specs.Prelude.{◌≡◌, Bool, true, false, List, [], ◌∷◌, ℕ, ◌+◌, ◌-◌, ◌≤◌, ◌<◌, ◌^◌, eqb, length, get_or, set, replicate, ℤ, pos, neg_ℤ, None}
use Rattle.std.proofs.Math.Option.{Option, none, some}
use Rattle.model.specs.Graph.{Graph, edge, mark, edge_depth, edge_length, accepting_count}
use Rattle.model.specs.Case.{Case, owner, most_vertices}
use Rattle.model.specs.Run.{no_tallies, State, has_ended, is_some, fresh, with_queues, enqueue, lower, send, relax, scan_edge, scan, no_vertex, no_message, turn, delivery, act, acted, range, round_acts, rounds, by_rounds, Moment}
use Rattle.search.specs.declared.run.Run.{Run}
use Rattle.std.specs.declared.ops.Range.{Range}
use Rattle.search.specs.Cells.{far, message_at}
use Rattle.search.specs.Rep.{Firsts, Own, Laid, coded, Rep}

-- PUSH: a vertex joins the tail of its owner's queue unless it is there
pub record PushAsks (v : ℕ) (w : List ℤ) : Type 0 where
  pub case : Case
  pub state : State
  pub run : Run
  pub rep : Rep case state run w
  pub below : v < case.graph.vertices

unfoldable pub PushSays : (v : ℕ) → (w w' : List ℤ) → Type 0
PushSays v w w' = (c : Case) (x : State) (k : Run) → Rep c x k w → v < c.graph.vertices → Rep c (with_queues (enqueue (owner c v) v x.queues) x) k w'

-- POP: the head of a worker's queue leaves it
pub record PopAsks (p v : ℕ) (w : List ℤ) : Type 0 where
  pub case : Case
  pub state : State
  pub run : Run
  pub rest : List ℕ
  pub rep : Rep case state run w
  pub worker : p < case.workers
  pub below : v < case.graph.vertices
  pub head : get_or state.queues p [] ≡ v ∷ rest

unfoldable pub PopSays : (p v : ℕ) → (w w' : List ℤ) → Type 0
PopSays p v w w' =
    (c : Case) (x : State) (k : Run) (q : List ℕ) → Rep c x k w → p < c.workers → get_or x.queues p [] ≡ v ∷ q → Rep c (with_queues (set x.queues p q) x) k w'

-- whether all queues are empty
pub record QueuesAsk (p : ℕ) (w : List ℤ) : Type 0 where
  pub case : Case
  pub state : State
  pub run : Run
  pub rep : Rep case state run w
  pub workers : p ≡ case.workers

unfoldable pub QueuesSay : (p : ℕ) → (r : Bool) → (w : List ℤ) → Type 0
QueuesSay p r w = (c : Case) (x : State) (k : Run) → Rep c x k w → p ≡ c.workers → r ≡ no_vertex x.queues

-- PUT: the offer d goes into the cell of edge e, where o waits; r says whether it joined a message
unfoldable pub PutSays : (e : ℕ) → (d : ℤ) → (r : Bool) → (w w' : List ℤ) → Type 0
PutSays e d r w w' =
    (o : Option ℕ) (n : ℕ) → get_or w (message_at + e) (pos 0) ≡ far o → d ≡ neg_ℤ (pos n) → (r ≡ is_some o) × (w' ≡ set w (message_at + e) (far (some (lower o n))))

-- SEND and RELAX: an offer d on the edge e
pub record OfferAsks (e : ℕ) (d : ℤ) (k : Run) (w : List ℤ) : Type 0 where
  pub case : Case
  pub state : State
  pub offer : ℕ
  pub rep : Rep case state k w
  pub below : e < length case.graph.edges
  pub is : d ≡ neg_ℤ (pos offer)

-- so many offers more can be counted
pub record Room (offers : ℕ) (k : Run) : Type 0 where
  pub sent : k.sent + offers < 2 ^ 32
  pub joined : k.joined + offers < 2 ^ 32

pub record SendAsks (e : ℕ) (d : ℤ) (k : Run) (w : List ℤ) : Type 0 where
  pub offer : OfferAsks e d k w
  pub room : Room 1 k

unfoldable pub SendSays : (e : ℕ) → (d : ℤ) → (k k' : Run) → (w w' : List ℤ) → Type 0
SendSays e d k k' w w' = (c : Case) (x : State) (o : ℕ) → Rep c x k w → e < c.file_edges → d ≡ neg_ℤ (pos o) → Rep c (send e o x) k' w'

unfoldable pub RelaxSays : (e : ℕ) → (d : ℤ) → (k k' : Run) → (w w' : List ℤ) → Type 0
RelaxSays e d k k' w w' =
    (c : Case) (x : State) (o : ℕ) → Rep c x k w → x.broken ≡ none → e < length c.graph.edges → d ≡ neg_ℤ (pos o) → Rep c (relax c e o x) k' w'

-- ONE EDGE OF A SCAN: d is the edge's offer, own the scanning worker
unfoldable pub EdgeSays : (e own : ℕ) → (d : ℤ) → (k k' : Run) → (w w' : List ℤ) → Type 0
EdgeSays e own d k k' w w' =
    (c : Case) (x : State) (v o : ℕ) → Rep c x k w → x.broken ≡ none → e < length c.graph.edges → (edge c.graph e).from ≡ v → owner c v ≡ own →
    d ≡ neg_ℤ (pos (o + edge_depth c.graph e)) → Rep c (scan_edge c v o e x) k' w'

-- THE EDGES of v, as a range of numbers
pub record RangeAsks (v : ℕ) (w : List ℤ) : Type 0 where
  pub case : Case
  pub laid : Laid case w
  pub below : v < case.graph.vertices

unfoldable pub RangeSays : (v : ℕ) → (r : Range ℕ) → (w : List ℤ) → Type 0
RangeSays v r w = (c : Case) → Laid c w → v < c.graph.vertices → Own c v r.start r.end

-- A SCAN of v at the distance d
pub record ScanAsks (v : ℕ) (d : ℤ) (k : Run) (w : List ℤ) : Type 0 where
  pub case : Case
  pub state : State
  pub depth : ℕ
  pub rep : Rep case state k w
  pub below : v < case.graph.vertices
  pub is : d ≡ neg_ℤ (pos depth)
  pub low : depth ≤ most_vertices
  pub room : Room (length case.graph.edges) k

unfoldable pub ScanSays : (v : ℕ) → (d : ℤ) → (k k' : Run) → (w w' : List ℤ) → Type 0
ScanSays v d k k' w w' = (c : Case) (x : State) (o : ℕ) → Rep c x k w → v < c.graph.vertices → d ≡ neg_ℤ (pos o) → Rep c (scan c v o x) k' w'

-- THE END: whether no cell has a message, by the tallies; whether a run has ended
abbrev pub none_waits : Run → Bool
none_waits k = eqb (k.sent - k.delivered) k.joined

pub record OverAsks (p : ℕ) (k : Run) (w : List ℤ) : Type 0 where
  pub case : Case
  pub state : State
  pub rep : Rep case state k w
  pub workers : p ≡ case.workers

unfoldable pub OverSays : (p : ℕ) → (k : Run) → (r : Bool) → (w : List ℤ) → Type 0
OverSays p k r w = (c : Case) (x : State) → Rep c x k w → Moment c x → p ≡ c.workers → r ≡ has_ended x

-- ACTS
pub record TurnAsks (p : ℕ) (k : Run) (w : List ℤ) : Type 0 where
  pub case : Case
  pub state : State
  pub rep : Rep case state k w
  pub moment : Moment case state
  pub whole : state.broken ≡ none
  pub worker : p < case.workers

unfoldable pub TurnSays : (p : ℕ) → (k k' : Run) → (w w' : List ℤ) → Type 0
TurnSays p k k' w w' = (c : Case) (x : State) → Rep c x k w → Moment c x → x.broken ≡ none → p < c.workers → Rep c (turn c p x) k' w'

pub record DeliverAsks (e : ℕ) (k : Run) (w : List ℤ) : Type 0 where
  pub case : Case
  pub state : State
  pub rep : Rep case state k w
  pub moment : Moment case state
  pub whole : state.broken ≡ none
  pub below : e < case.file_edges

unfoldable pub DeliverSays : (e : ℕ) → (k k' : Run) → (w w' : List ℤ) → Type 0
DeliverSays e k k' w w' = (c : Case) (x : State) → Rep c x k w → x.broken ≡ none → e < c.file_edges → Rep c (delivery c e x) k' w'

pub record ActAsks (a p : ℕ) (k : Run) (w : List ℤ) : Type 0 where
  pub case : Case
  pub state : State
  pub rep : Rep case state k w
  pub moment : Moment case state
  pub workers : p ≡ case.workers
  pub below : a < p + case.file_edges

unfoldable pub ActSays : (a p : ℕ) → (k k' : Run) → (w w' : List ℤ) → Type 0
ActSays a p k k' w w' =
    (c : Case) (x : State) → Rep c x k w → Moment c x → p ≡ c.workers → a < p + c.file_edges → Rep c (act c a x) k' w'

-- LENGTHS: r is the length of each edge that leaves a vertex of this mark
unfoldable pub LengthIs : (mark : ℕ) → (r : ℤ) → Type 0
LengthIs m r = (g : Graph) (e : ℕ) → mark g (edge g e).from ≡ m → r ≡ edge_length g e

-- what a vertex v at the distance d, which is not below the floor, offers along its edges
pub record OfferedAsks (v : ℕ) (d : ℤ) (w : List ℤ) : Type 0 where
  pub case : Case
  pub depth : ℕ
  pub laid : Laid case w
  pub below : v < case.graph.vertices
  pub is : d ≡ neg_ℤ (pos depth)
  pub low : depth ≤ most_vertices

unfoldable pub OfferedIs : (v : ℕ) → (d r : ℤ) → (w : List ℤ) → Type 0
OfferedIs v d r w = (c : Case) (o : ℕ) → Laid c w → v < c.graph.vertices → d ≡ neg_ℤ (pos o) → r ≡ neg_ℤ (pos (o + mark c.graph v))

-- A FRESH RUN. Before the source has its distance and its place: nothing has a distance, a parent, a message or a place
-- in a queue
abbrev pub blank : Case → State
blank c =
    record {
      depths = replicate c.graph.vertices none;
      parents = replicate c.graph.vertices none;
      queues = replicate c.workers [];
      cells = replicate c.file_edges none;
      broken = none;
      ended_empty = false;
      count = 0;
      tallies = no_tallies;
    }

abbrev pub blank_run : (marks : ℕ) → Run
blank_run a = record { turns = 0; sent = 0; delivered = 0; joined = 0; marks = a; broken = None }

unfoldable pub BlankSays : (w w' : List ℤ) → Type 0
BlankSays w w' = (c : Case) → Laid c w → Rep c (blank c) (blank_run (accepting_count c.graph)) w'

pub record FreshAsks (source marks : ℕ) (w : List ℤ) : Type 0 where
  pub case : Case
  pub laid : Laid case w
  pub starts : source ≡ case.graph.source
  pub counts : marks ≡ accepting_count case.graph

unfoldable pub FreshSays : (source marks : ℕ) → (k' : Run) → (w w' : List ℤ) → Type 0
FreshSays s a k' w w' = (c : Case) → Laid c w → s ≡ c.graph.source → a ≡ accepting_count c.graph → Rep c (fresh c) k' w'

-- A LIST OF ACTS, of any length
pub record ListAsks (p : ℕ) (acts : List ℕ) (k : Run) (w : List ℤ) : Type 0 where
  pub case : Case
  pub state : State
  pub rep : Rep case state k w
  pub moment : Moment case state
  pub workers : p ≡ case.workers
  pub below : (i : ℕ) → i < length acts → get_or acts i 0 < p + case.file_edges

unfoldable pub ListDone : (p : ℕ) → (acts : List ℕ) → (k k' : Run) → (w w' : List ℤ) → Type 0
ListDone p acts k k' w w' =
    (c : Case) (x : State) → Rep c x k w → Moment c x → p ≡ c.workers → ((i : ℕ) → i < length acts → get_or acts i 0 < p + c.file_edges) → Rep c (acted c acts x) k' w'

-- ROUNDS. A number goes to its place among the first of a list, and those from there on move up by one
pub record Inserted (many h : ℕ) (l l' : List ℕ) : Type 0 where
  pub place : ℕ
  pub within : place ≤ many
  pub before : (j : ℕ) → j < place → get_or l' j 0 ≡ get_or l j 0
  pub here : get_or l' place 0 ≡ h
  pub behind : (j : ℕ) → place ≤ j → j < many → get_or l' (j + 1) 0 ≡ get_or l j 0
  pub low : 0 < place → get_or l (place - 1) 0 < h
  pub high : (j : ℕ) → place ≤ j → j < many → h ≤ get_or l j 0

-- a number is among the first of a list
pub record Among (l : List ℕ) (many h : ℕ) : Type 0 where
  pub place : ℕ
  pub below : place < many
  pub is : get_or l place 0 ≡ h

-- each message stands on an edge of a vertex that is among the first of a list, coded as in a head's cell
unfoldable pub Only : Case → (heads : List ℕ) → (many : ℕ) → State → Type 0
Only c H k x = (e d : ℕ) → get_or x.cells e none ≡ some d → Among H k (coded (edge c.graph e).from)

-- the first of a list rise and are vertices, coded so
pub record Listed (n : ℕ) (heads : List ℕ) (many : ℕ) : Type 0 where
  pub rising : (i j : ℕ) → i < j → j < many → get_or heads i 0 < get_or heads j 0
  pub low : (j : ℕ) → j < many → coded 0 ≤ get_or heads j 0
  pub high : (j : ℕ) → j < many → get_or heads j 0 < coded n

pub record TurnsAsk (p : ℕ) (k : Run) (w : List ℤ) (size : ℕ) : Type 0 where
  pub case : Case
  pub state : State
  pub rep : Rep case state k w
  pub moment : Moment case state
  pub workers : p ≡ case.workers
  pub room : p ≤ size
  pub empty : no_message state.cells ≡ true

-- the run y after the turns, and the vertices that were scanned
pub record TurnsLeave (c : Case) (y : State) (k : Run) (scanned : ℕ) (w : List ℤ) (heads : List ℕ) : Type 0 where
  pub rep : Rep c y k w
  pub few : scanned ≤ c.workers
  pub listed : Listed c.graph.vertices heads scanned
  pub only : Only c heads scanned y
  pub idle : scanned ≡ 0 → no_vertex y.queues ≡ true

unfoldable pub TurnsSay : (p : ℕ) → (k k' : Run) → (scanned : ℕ) → (w w' : List ℤ) → (heads : List ℕ) → Type 0
TurnsSay p k k' t w w' H =
    (c : Case) (x : State) → Rep c x k w → Moment c x → p ≡ c.workers → p ≤ length H → no_message x.cells ≡ true →
    TurnsLeave c (acted c (range c.workers 0) x) k' t w' H

pub record EdgesAsk (v p : ℕ) (k : Run) (w : List ℤ) : Type 0 where
  pub case : Case
  pub state : State
  pub rep : Rep case state k w
  pub moment : Moment case state
  pub workers : p ≡ case.workers
  pub below : v < case.graph.vertices

unfoldable pub EdgesSay : (v p : ℕ) → (k k' : Run) → (w w' : List ℤ) → Type 0
EdgesSay v p k k' w w' =
    (c : Case) (x : State) (F : List ℕ) → Rep c x k w → Moment c x → p ≡ c.workers → v < c.graph.vertices → Firsts c F →
    Rep c (acted c (range (get_or F (v + 1) 0 - get_or F v 0) (c.workers + get_or F v 0)) x) k' w'

pub record SweepAsks (p : ℕ) (heads : List ℕ) (k : Run) (w : List ℤ) : Type 0 where
  pub case : Case
  pub state : State
  pub rep : Rep case state k w
  pub moment : Moment case state
  pub workers : p ≡ case.workers
  pub listed : Listed case.graph.vertices heads (length heads)
  pub only : Only case heads (length heads) state

unfoldable pub SweepSays : (p : ℕ) → (heads : List ℕ) → (k k' : Run) → (w w' : List ℤ) → Type 0
SweepSays p H k k' w w' =
    (c : Case) (x : State) → Rep c x k w → Moment c x → p ≡ c.workers → Listed c.graph.vertices H (length H) → Only c H (length H) x →
    Rep c (acted c (range c.file_edges c.workers) x) k' w'

-- the run y after a round; where nothing was scanned it has ended
pub record RoundLeaves (c : Case) (y : State) (k : Run) (scanned : ℕ) (w : List ℤ) : Type 0 where
  pub rep : Rep c y k w
  pub ended : scanned ≡ 0 → has_ended y ≡ true

unfoldable pub RoundSays : (p : ℕ) → (k k' : Run) → (scanned : ℕ) → (w w' : List ℤ) → (size : ℕ) → Type 0
RoundSays p k k' t w w' size =
    (c : Case) (x : State) → Rep c x k w → Moment c x → p ≡ c.workers → p ≤ size → no_message x.cells ≡ true → RoundLeaves c (acted c (round_acts c) x) k' t w'

pub record RoundsAsk (p : ℕ) (k : Run) (w : List ℤ) : Type 0 where
  pub case : Case
  pub state : State
  pub rep : Rep case state k w
  pub moment : Moment case state
  pub workers : p ≡ case.workers
  pub empty : no_message state.cells ≡ true

unfoldable pub RoundsDone : (many p : ℕ) → (k k' : Run) → (w w' : List ℤ) → Type 0
RoundsDone many p k k' w w' =
    (c : Case) (x : State) → Rep c x k w → Moment c x → p ≡ c.workers → no_message x.cells ≡ true → Rep c (rounds many c x) k' w'

pub record ByRoundsAsks (p n m : ℕ) (k : Run) (w : List ℤ) : Type 0 where
  pub case : Case
  pub rep : Rep case (fresh case) k w
  pub workers : p ≡ case.workers
  pub vertices : n ≡ case.graph.vertices
  pub edges : m ≡ length case.graph.edges

unfoldable pub ByRoundsSays : (p n m : ℕ) → (k k' : Run) → (w w' : List ℤ) → Type 0
ByRoundsSays p n m k k' w w' =
    (c : Case) → Rep c (fresh c) k w → p ≡ c.workers → n ≡ c.graph.vertices → m ≡ length c.graph.edges → Rep c (by_rounds c) k' w'
