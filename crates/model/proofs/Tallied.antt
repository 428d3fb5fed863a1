-- Tallies: in balance with the cells at every moment and inside a scan; and few, since each offer that is sent lowers a
-- potential, the scans that its edge's start may still have.
use mathlib.Core.Path.{◌≡◌, refl, sym, ap, subst}
use mathlib.Core.Bool.{Bool, true, false, ◌&&◌}
use mathlib.Core.List.{List, [], ◌∷◌}
use mathlib.Core.Option.{Option, none, some}
use Prim.Native.Nat.{ℕ, suc, ◌+◌, ◌≤◌, ◌<◌}
use native.Mathlib.Omega.{arith}
use lib.Dec.{leb, eqb}
use borrow.Author.Tests.{eq-eqb, ne_eqb, leb-true, le-leb, lt-leb}
use lib.ListN.{length, get_or, set}
use Rattle.model.specs.Graph.{edge, edge_depth, accepting_count}
use Rattle.model.specs.Case.{Case, most_sent, Sound}
use Rattle.model.specs.Run.{Tallies, put_one, deliver_one, State, is_some, has_ended, fresh, with_queues, emptied, member, relax, send, scan_from, scan, one_if, full_cells, counted, depth_or, by_list, Moment}
use Rattle.model.specs.Promise.{Balanced, Tallied}
use Rattle.text.proofs.Tests.{Same, same?, same, other, and_both}
use Rattle.model.proofs.Tools.{sum, sum_le, sum_lt, sum_bound, sum_of_set, sum_of_none, one_none, one_some, member_first}
use Rattle.model.proofs.Steps.{Scans, scan_from_keeps, scan_keeps, Acts, acted_keeps}
use Rattle.model.proofs.Shapes.{Shape, not_broken, shape_relax, shape_cell, shape_queue, shape_counted, cell_in, fresh_shape, file_in, sent_in}
use Rattle.model.proofs.Few.{bit, bit_le, bit_mono, waiting, R, RMost, RRelax, RQueue, RHead, RSend, relax_cells, relax_tallies}

-- BALANCE: an offer that joins fills no cell, any other fills one; a delivery empties one
pub put_balanced : (t : Tallies) (os : List (Option ℕ)) (e k : ℕ) → e < length os → Balanced t (full_cells os) → Balanced (put_one (is_some (get_or os e none)) t) (full_cells (set os e (some k)))
put_balanced t os e k l b = go (get_or os e none) (sum_of_set one_if os e (some k) none l)
  where
    go : (o : Option ℕ) → full_cells (set os e (some k)) + one_if o ≡ full_cells os + one_if (some k) → Balanced (put_one (is_some o) t) (full_cells (set os e (some k)))
    go none s = unfold is_some in (omega (arith, one_none, one_some k))
    go (some d) s = unfold is_some in (omega (arith, one_some d, one_some k))

pub deliver_balanced : (t : Tallies) (os : List (Option ℕ)) (e d : ℕ) → e < length os → get_or os e none ≡ some d → Balanced t (full_cells os) → Balanced (deliver_one t) (full_cells (set os e none))
deliver_balanced t os e d l h b = omega (arith, rw h at (sum_of_set one_if os e none none l), one_none, one_some d)

-- FEW: v's edge f from e on is still to come in a scan of v
unfoldable pending : Case → (v e f : ℕ) → Bool
pending c v e f = eqb (edge c.graph f).from v && leb e f

-- the offers that may still be sent before the scan's edge e
unfoldable owed : Case → (v e : ℕ) → State → ℕ
owed c v e x = sum c.file_edges (λ f. R c x (edge c.graph f).from + bit (pending c v e f))

pending_less : (c : Case) (v e f : ℕ) → bit (pending c v (suc e) f) ≤ bit (pending c v e f)
unfolding pending
pending_less c v e f = bit_mono _ _ (λ h. let p = and_both (eqb (edge c.graph f).from v) (leb (suc e) f) h in
    rw p.0 (le-leb e f (omega (arith, leb-true (suc e) f p.1))))

pending_now : (c : Case) (v e : ℕ) → (edge c.graph e).from ≡ v → bit (pending c v e e) ≡ 1
unfolding pending bit
pending_now c v e i = rw (eq-eqb (edge c.graph e).from v i, le-leb e e (let z : e ≤ e = omega arith in z)) refl

pending_past : (c : Case) (v e : ℕ) → (edge c.graph e).from ≡ v → bit (pending c v (suc e) e) ≡ 0
unfolding pending bit
pending_past c v e i = rw (eq-eqb (edge c.graph e).from v i, lt-leb (suc e) e (let z : e < suc e = omega arith in z)) refl

pending_other : (c : Case) (v e f : ℕ) → ((edge c.graph f).from ≡ v → ⊥) → bit (pending c v e f) ≡ 0
unfolding pending bit
pending_other c v e f n = rw (ne_eqb (edge c.graph f).from v n) refl

-- INVARIANT of a scan of v before edge e, and of a run
record Sending (c : Case) (v e : ℕ) (x : State) : Type 0 where
  shape : Shape c x
  balanced : Balanced x.tallies (full_cells x.cells)
  paid : x.tallies.sent + owed c v e x ≤ most_sent c

unfoldable left : Case → State → ℕ
left c x = sum c.file_edges (λ f. R c x (edge c.graph f).from)

record Sent (c : Case) (x : State) : Type 0 where
  shape : Shape c x
  balanced : Balanced x.tallies (full_cells x.cells)
  paid : x.tallies.sent + left c x ≤ most_sent c

module _ (c : Case) (ok : Sound c) where
  owed_next : (v e : ℕ) (x y : State) → ((u : ℕ) → R c y u ≤ R c x u) → owed c v (suc e) y ≤ owed c v e x
  unfolding owed
  owed_next v e x y h = sum_le c.file_edges _ _ (λ f _. omega (arith, h (edge c.graph f).from, pending_less c v e f))

  owed_sent : (v d e : ℕ) (x : State) → e < c.file_edges → (edge c.graph e).from ≡ v → owed c v (suc e) (send e d x) < owed c v e x
  unfolding owed
  owed_sent v d e x l i = sum_lt c.file_edges _ _ (λ f _. omega (arith, RSend c ok e d x (edge c.graph f).from, pending_less c v e f)) e l
      (omega (arith, RSend c ok e d x (edge c.graph e).from, pending_now c v e i, pending_past c v e i))

  sending : (v d : ℕ) → Scans c v d (Sending c v)
  sending v d = record {
    halt = λ e x _ _ p. next e x p;
    pass = λ e x _ p. next e x p;
    own = λ e x b l _ p.
        let o = d + edge_depth c.graph e in
        let k : (relax c e o x).tallies.sent ≡ x.tallies.sent = ap (λ (t : Tallies). t.sent) (relax_tallies c e o x) in
        record {
          shape = shape_relax c ok e o x b l p.shape;
          balanced = rw (relax_tallies c e o x, relax_cells c e o x) p.balanced;
          paid = omega (arith, p.paid, owed_next v e x (relax c e o x) (λ u. RRelax c ok e o x l p.shape u));
        };
    other = λ e x _ l i n p. record {
      shape = shape_cell c ok e _ x p.shape;
      balanced = put_balanced x.tallies x.cells e _ (rw p.shape.cells (sent_in c ok v e l i n)) p.balanced;
      paid = omega (arith, p.paid, owed_sent v (d + edge_depth c.graph e) e x (sent_in c ok v e l i n) i);
    };
  }
    where
      next : (e : ℕ) (x : State) → Sending c v e x → Sending c v (suc e) x
      next e x p = record { shape = p.shape; balanced = p.balanced; paid = omega (arith, p.paid, owed_next v e x x (λ u. omega arith)) }

  -- the head of a queue leaves it: each of its edges may be sent once more
  begins : (w v : ℕ) (q : List ℕ) (x : State) → has_ended x ≡ false → w < c.workers → get_or x.queues w [] ≡ v ∷ q → Sent c x → Sending c v 0 (with_queues (set x.queues w q) x)
  begins w v q x o l e p = record {
    shape = shape_queue c ok w v q x l e p.shape;
    balanced = p.balanced;
    paid = omega (arith, p.paid, fewer);
  }
    where
      y : State
      y = with_queues (set x.queues w q) x

      each : (f : ℕ) → Same (edge c.graph f).from v → R c y (edge c.graph f).from + bit (pending c v 0 f) ≤ R c x (edge c.graph f).from
      each f (same i) =
          let less : R c y (edge c.graph f).from < R c x (edge c.graph f).from = rw i (RHead c ok w v q x l e p.shape (not_broken x o)) in
          omega (arith, bit_le (pending c v 0 f))
      each f (other n) = omega (arith, pending_other c v 0 f n, RQueue c ok w v q x l e p.shape (edge c.graph f).from)

      fewer : owed c v 0 y ≤ left c x
      fewer = unfold owed left in (sum_le c.file_edges _ _ (λ f _. each f (same? (edge c.graph f).from v)))

  inside : (w v : ℕ) (q : List ℕ) (k : ℕ) (x : State) → has_ended x ≡ false → w < c.workers → get_or x.queues w [] ≡ v ∷ q → k ≤ length c.graph.edges → Sent c x →
      Sending c v (0 + k) (scan_from k 0 c v (depth_or (get_or x.depths v none)) (with_queues (set x.queues w q) x))
  inside w v q k x o l e h p = scan_from_keeps c v (depth_or (get_or x.depths v none)) (Sending c v) (sending v (depth_or (get_or x.depths v none))) k 0 (with_queues (set x.queues w q) x) (omega arith) (begins w v q x o l e p)

  left_owed : (v e : ℕ) (x : State) → left c x ≤ owed c v e x
  left_owed v e x = unfold owed left in (sum_le c.file_edges _ _ (λ f _. omega arith))

  left_less : (x y : State) → ((u : ℕ) → R c y u ≤ R c x u) → left c y ≤ left c x
  left_less x y h = unfold left in (sum_le c.file_edges _ _ (λ f _. h (edge c.graph f).from))

  sent_acts : Acts c (Sent c)
  sent_acts = record {
    turn = λ w v q x o l e p.
        let d = depth_or (get_or x.depths v none) in
        let s = scan_keeps c v d (Sending c v) (sending v d) (with_queues (set x.queues w q) x) (begins w v q x o l e p) in
        record { shape = shape_counted c ok _ s.shape; balanced = s.balanced; paid = counted_paid _ (omega (arith, s.paid, left_owed v (length c.graph.edges) (scan c v d (with_queues (set x.queues w q) x)))) };
    delivery = λ e d x o h p. delivers e d x o h p (cell_in c ok x e d p.shape h);
  }
    where
      counted_paid : (x : State) → x.tallies.sent + left c x ≤ most_sent c → x.tallies.sent + left c (counted x) ≤ most_sent c
      counted_paid x h = unfold left R waiting in h

      delivers : (e d : ℕ) (x : State) → has_ended x ≡ false → get_or x.cells e none ≡ some d → Sent c x → e < c.file_edges → Sent c (counted (relax c e d (emptied e x)))
      delivers e d x o h p l = record {
        shape = shape_counted c ok _ (shape_relax c ok e d (emptied e x) (not_broken x o) (file_in c ok e l) empty);
        balanced = rw (relax_tallies c e d (emptied e x), relax_cells c e d (emptied e x)) (deliver_balanced x.tallies x.cells e d (rw p.shape.cells l) h p.balanced);
        paid = counted_paid _ (omega (arith, p.paid, left_less (emptied e x) (relax c e d (emptied e x)) (λ u. RRelax c ok e d (emptied e x) (file_in c ok e l) empty u), same_left, k));
      }
        where
          empty : Shape c (emptied e x)
          empty = shape_cell c ok e none x p.shape

          k : (relax c e d (emptied e x)).tallies.sent ≡ x.tallies.sent
          k = ap (λ (t : Tallies). t.sent) (relax_tallies c e d (emptied e x))

          same_left : left c (emptied e x) ≡ left c x
          same_left = unfold left R waiting in refl

  sent : (xs : List ℕ) → Sent c (by_list c xs)
  unfolding by_list
  sent xs = acted_keeps c (Sent c) sent_acts xs (fresh c) (record {
    shape = fresh_shape c ok;
    balanced = unfold fresh in (rw (sum_of_none one_if none c.file_edges one_none) refl);
    paid = begun;
  })
    where
      bound : left c (fresh c) ≤ most_sent c
      bound = unfold left most_sent in (omega (arith, sum_bound c.file_edges (suc (accepting_count c.graph)) (λ f. R c (fresh c) (edge c.graph f).from) (λ f _. RMost c (fresh c) (edge c.graph f).from)))

      begun : (fresh c).tallies.sent + left c (fresh c) ≤ most_sent c
      begun = let z : (fresh c).tallies.sent ≡ 0 = unfold fresh in refl in omega (arith, bound)

  pub tallied : (xs : List ℕ) → Tallied c (by_list c xs)
  tallied xs = let s = sent xs in record { balanced = s.balanced; few_sent = omega (arith, s.paid) }

  pub moment_tallied : (x : State) → Moment c x → Tallied c x
  moment_tallied x m = subst (λ (y : State). Tallied c y) (sym m.is) (tallied m.acts)

  pub tallied_inside : (xs : List ℕ) (w v : ℕ) (q : List ℕ) (k : ℕ) → let x = by_list c xs in has_ended x ≡ false → get_or x.queues w [] ≡ v ∷ q → k ≤ length c.graph.edges →
      Tallied c (scan_from k 0 c v (depth_or (get_or x.depths v none)) (with_queues (set x.queues w q) x))
  tallied_inside xs w v q k o e h =
      let p = sent xs in
      let m : member v (get_or (by_list c xs).queues w []) ≡ true = rw e (member_first v q) in
      let l : w < c.workers = rw (p.shape.owned v w m) at (ok.owner v (p.shape.below v w m)) in
      let s = inside w v q k (by_list c xs) o l e h p in
      record { balanced = s.balanced; few_sent = omega (arith, s.paid) }
