-- Ranges: a vertex's own edges are a range of numbers, and a scan of that range is the whole scan. Assumes nothing.
use mathlib.Core.Path.{◌≡◌, refl, sym, ap, ◌∙◌}
use mathlib.Core.Bool.{Bool, true, false, not, ◌||◌, cond}
use mathlib.Core.Logic.{◌⊎◌, inl, inr}
use Prim.Native.Nat.{ℕ, zero, suc, ◌+◌, ◌-◌, ◌≤◌, ◌<◌}
use native.Mathlib.Omega.{arith}
use native.Mathlib.Nat.{zero-add, add-zero}
use native.Mathlib.Numerals.{add-one}
use mathlib.Core.List.{List}
use mathlib.Core.Option.{Option, none, some}
use borrow.Author.Tests.{ne_eqb}
use lib.Dec.{eqb}
use lib.ListN.{length, get_or, set}
use lib.IntN.{ℤ, pos}
use Rattle.model.specs.Graph.{edge, edge_depth, mark}
use Rattle.model.specs.Case.{Case, owner}
use Rattle.model.specs.Run.{Tallies, put_one, State, is_some, ended_lasso, with_cells, relax, lower, scan_edge, scan_from, scan}
use Rattle.search.specs.declared.run.Run.{Run}
use Rattle.search.specs.Cells.{first_at, rest_at}
use Rattle.search.specs.Rep.{Own, Laid, Rep}
use Rattle.search.specs.Asks.{Room}
use Rattle.model.proofs.Few.{relax_tallies}
use Rattle.search.proofs.Regions.{below_or}

-- FIRST EDGES
module _ (c : Case) (w : List ℤ) (v : ℕ) (laid : Laid c w) (below : v ≤ c.graph.vertices) where
  pub first_is : (r : ℕ) → get_or w (first_at + v) (pos 0) ≡ pos r → get_or laid.first v 0 ≡ r
  first_is r e = let z : pos (get_or laid.first v 0) ≡ pos r = sym (laid.first_cells.each v (omega (arith, laid.firsts.sized))) ∙ e in cc

-- THE EDGES of a vertex that goes on are its file edges; of one that rests, its loop
module _ {c : Case} {w : List ℤ} (v : ℕ) (laid : Laid c w) (below : v < c.graph.vertices) where
  pub rest_is : (r : ℕ) → get_or w (rest_at + v) (pos 0) ≡ pos r → get_or laid.rest v 0 ≡ r
  rest_is r e = let z : pos (get_or laid.rest v 0) ≡ pos r = sym (laid.rest_cells.each v (omega (arith, laid.rests.sized))) ∙ e in cc

pub own_to : {c : Case} {v a b : ℕ} → Own c v a b → (e : ℕ) → (edge c.graph e).from ≡ v → e < length c.graph.edges → e < b
own_to {b = b} o e leaves h = go (below_or e b)
  where
    go : (e < b) ⊎ (b ≤ e) → e < b
    go (inl l) = l
    go (inr l) = absurd (o.after e l h leaves)

-- SKIPPING
skip_one : (c : Case) (v o e : ℕ) (x : State) → ((edge c.graph e).from ≡ v → ⊥) → scan_edge c v o e x ≡ x
unfolding scan_edge
skip_one c v o e x n = rw (ne_eqb (edge c.graph e).from v n) (or_true (ended_lasso x) x _)
  where
    or_true : (b : Bool) (x y : State) → cond (b || not false) x y ≡ x
    or_true true x y = refl
    or_true false x y = refl

scan_step : (k e : ℕ) (c : Case) (v o : ℕ) (x : State) → scan_from (suc k) e c v o x ≡ scan_from k (suc e) c v o (scan_edge c v o e x)
unfolding scan_from
scan_step k e c v o x = refl

scan_none : (e : ℕ) (c : Case) (v o : ℕ) (x : State) → scan_from 0 e c v o x ≡ x
unfolding scan_from
scan_none e c v o x = refl

skip : (j e k : ℕ) (c : Case) (v o : ℕ) (x : State) → ((i : ℕ) → e ≤ i → i < e + j → (edge c.graph i).from ≡ v → ⊥) → scan_from (j + k) e c v o x ≡ scan_from k (e + j) c v o x
skip zero e k c v o x f = rw (zero-add k, add-zero e)
skip (suc j) e k c v o x f =
    let p : suc j + k ≡ suc (j + k) = omega arith in
    let q : e + suc j ≡ suc e + j = omega arith in
    rw (p, q, scan_step (j + k) e c v o x, skip_one c v o e x (f e (omega arith) (omega arith))) (skip j (suc e) k c v o x (λ i a b. f i (omega arith) (omega arith)))

-- nothing more once the floor is broken
broken_edge : (c : Case) (v o e : ℕ) (x : State) → is_some x.broken ≡ true → scan_edge c v o e x ≡ x
unfolding scan_edge ended_lasso
broken_edge c v o e x h = rw h

broken_scan : (k e : ℕ) (c : Case) (v o : ℕ) (x : State) → is_some x.broken ≡ true → scan_from k e c v o x ≡ x
broken_scan zero e c v o x h = scan_none e c v o x
broken_scan (suc k) e c v o x h = rw (scan_step k e c v o x, broken_edge c v o e x h) (broken_scan k (suc e) c v o x h)

-- so far in a scan: what is left of it leads to where the whole leads
pub record Halfway (c : Case) (x : State) (v o e : ℕ) (k : Run) (w : List ℤ) : Type 0 where
  pub at : State
  pub rep : Rep c at k w
  pub rest : scan_from (length c.graph.edges - e) e c v o at ≡ scan c v o x

module _ (c : Case) (x : State) (v o a b : ℕ) (own : Own c v a b) where
  pub half_start : (k : Run) (w : List ℤ) → Rep c x k w → Halfway c x v o a k w
  unfolding scan
  half_start k w r =
      let m = length c.graph.edges in
      let p : a + (m - a) ≡ m = omega (arith, own.order, own.below) in
      record { at = x; rep = r; rest = sym (rw (p, zero-add a) at (skip a 0 (m - a) c v o x (λ i h l. own.before i (omega arith)))) }

  pub half_step : (e : ℕ) (k k' : Run) (w w' : List ℤ) → (h : Halfway c x v o e k w) → e < b → Rep c (scan_edge c v o e h.at) k' w' → Halfway c x v o (e + 1) k' w'
  half_step e k k' w w' h l rep =
      let m = length c.graph.edges in
      let i : m - e ≡ suc (m - (e + 1)) = omega (arith, own.below) in
      record { at = scan_edge c v o e h.at; rep = rep; rest = rw (add-one e) (sym (scan_step (m - suc e) e c v o h.at) ∙ (rw (i, add-one e) at h.rest)) }

  pub half_broken : (e : ℕ) (k : Run) (w : List ℤ) → (h : Halfway c x v o e k w) → is_some h.at.broken ≡ true → Rep c (scan c v o x) k w
  half_broken e k w h t = rw (← h.rest, broken_scan (length c.graph.edges - e) e c v o h.at t) h.rep

  pub half_done : (e : ℕ) (k : Run) (w : List ℤ) → Halfway c x v o e k w → e ≡ b → Rep c (scan c v o x) k w
  half_done e k w h i =
      let m = length c.graph.edges in
      let s = skip (m - e) e 0 c v o h.at (λ j p q. own.after j (omega arith) (omega (arith, own.below))) in
      rw (← h.rest, (rw (add-zero (m - e), scan_none) at s)) h.rep

-- an edge of a scan sends one offer at most, so there is room for the offers of those that are left
edge_few : (c : Case) (v o e : ℕ) (x : State) → ((scan_edge c v o e x).tallies.sent ≤ x.tallies.sent + 1) × ((scan_edge c v o e x).tallies.joined ≤ x.tallies.joined + 1)
unfolding scan_edge
edge_few c v o e x = go (ended_lasso x || not (eqb (edge c.graph e).from v)) (eqb (owner c (edge c.graph e).to) (owner c v)) (is_some (get_or x.cells e none))
  where
    d : ℕ
    d = o + edge_depth c.graph e

    waiting : Option ℕ
    waiting = get_or x.cells e none

    go : (a b j : Bool) → let y = cond a x (cond b (relax c e d x) (with_cells (set x.cells e (some (lower waiting d))) (put_one j x.tallies) x)) in
        (y.tallies.sent ≤ x.tallies.sent + 1) × (y.tallies.joined ≤ x.tallies.joined + 1)
    go true b j = (omega arith, omega arith)
    go false true j = rw (relax_tallies c e d x) (omega arith, omega arith)
    go false false true = (omega arith, omega arith)
    go false false false = (omega arith, omega arith)

pub room_step : {c : Case} {x : State} {k k' : Run} {w w' : List ℤ} (v o e n : ℕ) → Rep c x k w → Rep c (scan_edge c v o e x) k' w' → Room (n + 1) k → Room n k'
room_step {c} {x} {k} {k'} v o e n p q r =
    let f = edge_few c v o e x in
    let s : k.sent ≡ x.tallies.sent = ap (λ (t : Tallies). t.sent) p.counted.tallied in
    let j : k.joined ≡ x.tallies.joined = ap (λ (t : Tallies). t.joined) p.counted.tallied in
    let s' : k'.sent ≡ (scan_edge c v o e x).tallies.sent = ap (λ (t : Tallies). t.sent) q.counted.tallied in
    let j' : k'.joined ≡ (scan_edge c v o e x).tallies.joined = ap (λ (t : Tallies). t.joined) q.counted.tallied in
    record { sent = omega (arith, f.0, r.sent); joined = omega (arith, f.1, r.joined) }

-- the depth of an edge is the mark of the vertex that it leaves
pub depth_is : (c : Case) (v e : ℕ) → (edge c.graph e).from ≡ v → edge_depth c.graph e ≡ mark c.graph v
unfolding edge_depth
depth_is c v e h = rw h
