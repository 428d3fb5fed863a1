-- Few acts: each act that does something lowers a potential, and where none of it is left nothing waits.
use mathlib.Core.Path.{◌≡◌, refl, sym, ◌∙◌}
use mathlib.Core.Bool.{Bool, true, false, ◌&&◌, not, cond}
use mathlib.Core.List.{List, [], ◌∷◌}
use mathlib.Core.Option.{Option, none, some}
use Prim.Native.Nat.{ℕ, suc, ◌+◌, ◌-◌, ◌≤◌, ◌<◌}
use native.Mathlib.Omega.{arith}
use borrow.Author.Tests.{ltb-true}
use lib.ListN.{length, get_or, set}
use lib.Seq.{get_or-set_same, get_or-set_other}
use Rattle.model.specs.Graph.{edge, edge_depth, accepting_count}
use Rattle.model.specs.Case.{Case, owner, most_acts, Sound}
use Rattle.model.specs.Run.{State, is_some, ended_lasso, has_ended, fresh, with_queues, emptied, takes, member, enqueue, relax, send, scan, no_vertex, no_message, depth_or, by_list}
use Rattle.text.proofs.Tests.{Test, test, Same, same?, or_left, or_right, holds, fails, same, other}
use Rattle.model.proofs.Tools.{sum, sum_le, sum_lt, sum_bound, sum_has, none_of, some_of, once_head, member_later, member_first, getD_replicate_same, no_queue, no_queues, no_cells, snoc_in}
use Rattle.model.proofs.Steps.{relax_cases, scan_keeps, Acts, acted_keeps}
use Rattle.model.proofs.Shapes.{Shape, enqueue_cases, not_broken, shape_relax, shape_cell, shape_queue, shape_counted, cell_in, fresh_shape, source_queued, file_in}

unfoldable pub bit : Bool → ℕ
bit b = cond b 1 0

pub bit_le : (b : Bool) → bit b ≤ 1
unfolding bit
bit_le true = omega arith
bit_le false = omega arith

pub bit_mono : (a b : Bool) → (a ≡ true → b ≡ true) → bit a ≤ bit b
unfolding bit
bit_mono true b h = rw (h refl) (omega arith)
bit_mono false b h = omega arith

-- how often a vertex may still be scanned
unfoldable pub room : (A : ℕ) → Option ℕ → (queued : ℕ) → ℕ
room A none q = suc A
room A (some d) q = (A + q) - d

unfoldable pub waiting : Case → State → (v : ℕ) → Bool
waiting c x v = member v (get_or x.queues (owner c v) [])

unfoldable pub R : Case → State → (v : ℕ) → ℕ
R c x v = room (accepting_count c.graph) (get_or x.depths v none) (bit (waiting c x v))

unfoldable pub S : Case → State → (e : ℕ) → ℕ
S c x e = R c x (edge c.graph e).from + bit (is_some (get_or x.cells e none))

unfoldable pub Φ : Case → State → ℕ
Φ c x = sum c.graph.vertices (R c x) + sum (length c.graph.edges) (S c x)

room_mono : (A : ℕ) (o : Option ℕ) (p q : ℕ) → p ≤ q → room A o p ≤ room A o q
unfolding room
room_mono A none p q h = omega arith
room_mono A (some d) p q h = omega arith

room_takes : (A : ℕ) (o : Option ℕ) (d p q : ℕ) → takes o d ≡ true → p ≤ 1 → room A (some d) p ≤ room A o q
unfolding room takes
room_takes A none d p q t l = omega arith
room_takes A (some k) d p q t l = omega (arith, ltb-true)

pub RMost : (c : Case) (x : State) (v : ℕ) → R c x v ≤ suc (accepting_count c.graph)
unfolding R
RMost c x v = go (get_or x.depths v none) (bit (waiting c x v)) (bit_le (waiting c x v))
  where
    go : (o : Option ℕ) (q : ℕ) → q ≤ 1 → room (accepting_count c.graph) o q ≤ suc (accepting_count c.graph)
    go none q h = unfold room in (omega arith)
    go (some d) q h = unfold room in (omega arith)

pub relax_cells : (c : Case) (e d : ℕ) (x : State) → (relax c e d x).cells ≡ x.cells
relax_cells c e d x = relax_cases (λ y. y.cells ≡ x.cells) c e d x (λ _. refl) (λ _. refl)

pub relax_count : (c : Case) (e d : ℕ) (x : State) → (relax c e d x).count ≡ x.count
relax_count c e d x = relax_cases (λ y. y.count ≡ x.count) c e d x (λ _. refl) (λ _. refl)

pub relax_tallies : (c : Case) (e d : ℕ) (x : State) → (relax c e d x).tallies ≡ x.tallies
relax_tallies c e d x = relax_cases (λ y. y.tallies ≡ x.tallies) c e d x (λ _. refl) (λ _. refl)

-- what a scan of v leaves: no room is more, only cells of v's edges differ
record Scanned (c : Case) (v : ℕ) (x y : State) : Type 0 where
  shape : Shape c y
  rooms : (u : ℕ) → R c y u ≤ R c x u
  cells : (f : ℕ) → ((edge c.graph f).from ≡ v → ⊥) → get_or y.cells f none ≡ get_or x.cells f none
  count : y.count ≡ x.count

-- INVARIANT: each counted act has lowered the potential; the end is told as it is
pub record Paid (c : Case) (x : State) : Type 0 where
  pub shape : Shape c x
  pub paid : x.count + Φ c x ≤ most_acts c
  pub told : x.ended_empty ≡ (not (is_some x.broken) && (no_vertex x.queues && no_message x.cells))

module _ (c : Case) (ok : Sound c) where
  pub RRelax : (e d : ℕ) (x : State) → e < length c.graph.edges → Shape c x → (u : ℕ) → R c (relax c e d x) u ≤ R c x u
  unfolding R waiting
  RRelax e d x l s u = relax_cases (λ y. R c y u ≤ R c x u) c e d x (λ _. omega arith) (λ t. go t (same? u (edge c.graph e).to))
    where
      v : ℕ
      v = (edge c.graph e).to

      h : v < c.graph.vertices
      h = ok.to e l

      o : owner c v < length x.queues
      o = rw s.queues (ok.owner v h)

      go : takes (get_or x.depths v none) d ≡ true → Same u v → room (accepting_count c.graph) (get_or (set x.depths v (some d)) u none) (bit (member u (get_or (enqueue (owner c v) v x.queues) (owner c u) []))) ≤ R c x u
      go t (same q) = rw (q, get_or-set_same x.depths v (some d) none (rw s.depths h)) (room_takes (accepting_count c.graph) (get_or x.depths v none) d _ _ t (bit_le _))
      go t (other n) = rw (get_or-set_other x.depths v u (some d) none n) (room_mono (accepting_count c.graph) (get_or x.depths u none) _ _
          (bit_mono _ _ (enqueue_cases (owner c v) v x.queues (owner c u) (λ q. member u q ≡ true → member u (get_or x.queues (owner c u) []) ≡ true) o (λ _ m. m) (λ i w m. snoc_in u v _ m (λ m. m) (λ q. absurd (n q))))))

  pub RQueue : (w v : ℕ) (q : List ℕ) (x : State) → w < c.workers → get_or x.queues w [] ≡ v ∷ q → Shape c x → (u : ℕ) → R c (with_queues (set x.queues w q) x) u ≤ R c x u
  unfolding R waiting
  RQueue w v q x l e s u = room_mono (accepting_count c.graph) (get_or x.depths u none) _ _ (bit_mono _ _ (go (same? (owner c u) w)))
    where
      go : Same (owner c u) w → member u (get_or (set x.queues w q) (owner c u) []) ≡ true → member u (get_or x.queues (owner c u) []) ≡ true
      go (same p) m = rw (p, e) (member_later u v q (rw (p, get_or-set_same x.queues w q [] (rw s.queues l)) at m))
      go (other n) m = rw (get_or-set_other x.queues w (owner c u) q [] n) at m

  pub RHead : (w v : ℕ) (q : List ℕ) (x : State) → w < c.workers → get_or x.queues w [] ≡ v ∷ q → Shape c x → x.broken ≡ none → R c (with_queues (set x.queues w q) x) v < R c x v
  unfolding R waiting room bit
  RHead w v q x l e s b = go (some_of (get_or x.depths v none) (s.deep v w here))
    where
      here : member v (get_or x.queues w []) ≡ true
      here = rw e (member_first v q)

      own : owner c v ≡ w
      own = s.owned v w here

      go : (d : ℕ) × (get_or x.depths v none ≡ some d) → suc (room (accepting_count c.graph) (get_or x.depths v none) (bit (member v (get_or (set x.queues w q) (owner c v) [])))) ≤ room (accepting_count c.graph) (get_or x.depths v none) (bit (member v (get_or x.queues (owner c v) [])))
      go (d, h) = rw (own, get_or-set_same x.queues w q [] (rw s.queues l), e, h, once_head v q (rw e at (s.once w)), member_first v q) (omega (arith, s.above b v d h))

  pub RSend : (e d : ℕ) (x : State) (u : ℕ) → R c (send e d x) u ≡ R c x u
  unfolding R waiting
  RSend e d x u = refl

  after_scan : (v d : ℕ) (x : State) → Shape c x → Scanned c v x (scan c v d x)
  after_scan v d x s = scan_keeps c v d (λ _ y. Scanned c v x y) (record {
    halt = λ _ _ _ _ p. p;
    pass = λ _ _ _ p. p;
    own = λ e y b l _ p. record {
      shape = shape_relax c ok e (d + edge_depth c.graph e) y b l p.shape;
      rooms = λ u. omega (arith, p.rooms u, RRelax e (d + edge_depth c.graph e) y l p.shape u);
      cells = λ f n. rw (relax_cells c e (d + edge_depth c.graph e) y) (p.cells f n);
      count = relax_count c e (d + edge_depth c.graph e) y ∙ p.count;
    };
    other = λ e y b l i _ p. record {
      shape = shape_cell c ok e _ y p.shape;
      rooms = λ u. omega (arith, p.rooms u, RSend e (d + edge_depth c.graph e) y u);
      cells = λ f n. get_or-set_other y.cells e f _ none (λ q. n (rw q i)) ∙ p.cells f n;
      count = p.count;
    };
  })
      x (record { shape = s; rooms = λ u. omega arith; cells = λ f n. refl; count = refl })

  ΦTurn : (w v : ℕ) (q : List ℕ) (x y : State) → w < c.workers → get_or x.queues w [] ≡ v ∷ q → Shape c x → x.broken ≡ none → Scanned c v (with_queues (set x.queues w q) x) y → Φ c y < Φ c x
  unfolding Φ
  ΦTurn w v q x y l e s b h =
      omega (
        arith,
        sum_lt c.graph.vertices (R c y) (R c x) (λ u _. rooms u) v (s.below v w (rw e (member_first v q))) less,
        sum_le (length c.graph.edges) (S c y) (S c x) (λ f _. cell f (same? (edge c.graph f).from v)),
      )
    where
      rooms : (u : ℕ) → R c y u ≤ R c x u
      rooms u = omega (arith, h.rooms u, RQueue w v q x l e s u)

      less : R c y v < R c x v
      less = omega (arith, h.rooms v, RHead w v q x l e s b)

      cell : (f : ℕ) → Same (edge c.graph f).from v → S c y f ≤ S c x f
      cell f (same i) = unfold S in (rw i (omega (arith, less, bit_le (is_some (get_or y.cells f none)))))
      cell f (other n) = unfold S in (rw (h.cells f n) (omega (arith, rooms (edge c.graph f).from)))

  ΦDelivery : (e d : ℕ) (x : State) → x.broken ≡ none → get_or x.cells e none ≡ some d → Shape c x → Φ c (relax c e d (emptied e x)) < Φ c x
  unfolding Φ
  ΦDelivery e d x b h s =
      omega (
        arith,
        sum_le c.graph.vertices (R c y) (R c x) (λ u _. rooms u),
        sum_lt (length c.graph.edges) (S c y) (S c x) (λ f _. cell f (same? f e)) e l less,
      )
    where
      y : State
      y = relax c e d (emptied e x)

      there : e < c.file_edges
      there = cell_in c ok x e d s h

      l : e < length c.graph.edges
      l = file_in c ok e there

      rooms : (u : ℕ) → R c y u ≤ R c x u
      rooms u = unfold R waiting in (RRelax e d (emptied e x) l (shape_cell c ok e none x s) u)

      none_left : get_or y.cells e none ≡ none
      none_left = rw (relax_cells c e d (emptied e x)) (get_or-set_same x.cells e none none (rw s.cells there))

      kept : (f : ℕ) → (f ≡ e → ⊥) → get_or y.cells f none ≡ get_or x.cells f none
      kept f n = rw (relax_cells c e d (emptied e x)) (get_or-set_other x.cells e f none none n)

      less : S c y e < S c x e
      less = unfold S is_some bit in (rw (none_left, h) (omega (arith, rooms (edge c.graph e).from)))

      cell : (f : ℕ) → Same f e → S c y f ≤ S c x f
      cell f (same i) = rw i (omega (arith, less))
      cell f (other n) = unfold S in (rw (kept f n) (omega (arith, rooms (edge c.graph f).from)))

  pub paid_acts : Acts c (Paid c)
  unfolding Φ R S waiting ended_lasso
  paid_acts = record {
    turn = λ w v q x o l e p.
        let d = depth_or (get_or x.depths v none) in
        let x1 = with_queues (set x.queues w q) x in
        let h = after_scan v d x1 (shape_queue c ok w v q x l e p.shape) in
        let k : (scan c v d x1).count ≡ x.count = h.count in
        record {
          shape = shape_counted c ok _ h.shape;
          paid = omega (arith, ΦTurn w v q x _ l e p.shape (not_broken x o) h, p.paid);
          told = refl;
        };
    delivery = λ e d x o h p.
        let k : (relax c e d (emptied e x)).count ≡ x.count = relax_count c e d (emptied e x) in
        record {
          shape = shape_counted c ok _ (shape_relax c ok e d _ (not_broken x o) (file_in c ok e (cell_in c ok x e d p.shape h)) (shape_cell c ok e none x p.shape));
          paid = omega (arith, ΦDelivery e d x (not_broken x o) h p.shape, p.paid);
          told = refl;
        };
  }

  ΦFresh : Φ c (fresh c) ≤ most_acts c
  unfolding Φ most_acts S
  ΦFresh = omega (
    arith,
    sum_bound c.graph.vertices (suc (accepting_count c.graph)) (R c (fresh c)) (λ u _. RMost c (fresh c) u),
    sum_bound (length c.graph.edges) (suc (accepting_count c.graph)) (S c (fresh c)) (λ e _. rw (empty e) (omega (arith, RMost c (fresh c) (edge c.graph e).from, zero_bit))),
  )
    where
      empty : (e : ℕ) → get_or (fresh c).cells e none ≡ none
      empty e = unfold fresh in (getD_replicate_same c.file_edges e none)

      zero_bit : bit (is_some {A = ℕ} none) ≡ 0
      zero_bit = unfold bit is_some in refl

  pub fresh_paid : Paid c (fresh c)
  fresh_paid = record {
    shape = fresh_shape c ok;
    paid = let z : (fresh c).count ≡ 0 = unfold fresh in refl in omega (arith, ΦFresh);
    told = go (no_vertex (fresh c).queues) refl;
  }
    where
      go : (b : Bool) → no_vertex (fresh c).queues ≡ b → (fresh c).ended_empty ≡ (not (is_some (fresh c).broken) && (no_vertex (fresh c).queues && no_message (fresh c).cells))
      go true e = let z : (c.graph.source ∷ []) ≡ [] = sym (source_queued c ok) ∙ no_queue (fresh c).queues e (owner c c.graph.source) in cc
      go false e = rw e (unfold fresh is_some in refl)

  pub paid : (xs : List ℕ) → Paid c (by_list c xs)
  unfolding by_list
  paid xs = acted_keeps c (Paid c) paid_acts xs (fresh c) fresh_paid

  -- nothing is left to pay: nothing waits
  spent : (x : State) → Paid c x → Φ c x ≡ 0 → x.broken ≡ none → x.ended_empty ≡ true
  unfolding Φ S
  spent x p z b = rw (p.told, b, no_queues x.queues empty, no_cells x.cells nothing) (unfold is_some in refl)
    where
      empty_as : (w : ℕ) (q : List ℕ) → get_or x.queues w [] ≡ q → get_or x.queues w [] ≡ []
      empty_as w [] e = e
      empty_as w (v ∷ q) e =
          let m : member v (get_or x.queues w []) ≡ true = rw e (member_first v q) in
          let n : v < c.graph.vertices = p.shape.below v w m in
          let l : w < c.workers = rw (p.shape.owned v w m) at (ok.owner v n) in
          absurd (omega (arith, RHead w v q x l e p.shape b, sum_has c.graph.vertices (R c x) v n))

      empty : (w : ℕ) → get_or x.queues w [] ≡ []
      empty w = empty_as w _ refl

      nothing_as : (e : ℕ) (o : Option ℕ) → get_or x.cells e none ≡ o → get_or x.cells e none ≡ none
      nothing_as e none h = h
      nothing_as e (some d) h =
          let one : bit (is_some (get_or x.cells e none)) ≡ 1 = rw h (unfold bit is_some in refl) in
          absurd (omega (arith, sum_has (length c.graph.edges) (S c x) e (file_in c ok e (cell_in c ok x e d p.shape h))))

      nothing : (e : ℕ) → get_or x.cells e none ≡ none
      nothing e = nothing_as e _ refl

  pub few : (x : State) → Paid c x → (x.count ≤ most_acts c) × (x.count ≡ most_acts c → has_ended x ≡ true)
  unfolding has_ended ended_lasso
  few x p = (omega (arith, p.paid), λ e. go (test (is_some x.broken)) (omega (arith, p.paid)))
    where
      go : Test (is_some x.broken) → Φ c x ≡ 0 → has_ended x ≡ true
      go (holds b) z = or_left (is_some x.broken) x.ended_empty b
      go (fails b) z = or_right (is_some x.broken) x.ended_empty (spent x p z (none_of x.broken b))
