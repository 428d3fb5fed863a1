-- Edges behind one another: by a mask, by a row, by a vertex; and the row filled. Assumes nothing.
use mathlib.Core.Path.{◌≡◌, refl, sym, ap, ◌∙◌}
use mathlib.Core.Bool.{Bool, true, false}
use mathlib.Core.List.{List, [], ◌∷◌, ◌++◌, append_assoc, append-nil}
use Prim.Native.Nat.{ℕ, zero, suc, ◌+◌, ◌-◌, ◌*◌, ◌/◌, ◌%◌, ◌^◌, ◌≤◌, ◌<◌}
use native.Mathlib.Nat.{zero-add, suc-mul, mul-le-mul, zero-mul}
use native.Mathlib.Numerals.{add-one}
use native.Mathlib.Omega.{arith}
use lib.Bits.{bit_and, bit_or}
use lib.ListN.{length, get_or, set, take, drop, length-drop, replicate, length-set, length-append, length-replicate}
use lib.Seq.{length-take-le, get_or-take}
use Rattle.std.proofs.lemmas.List.{get_or-drop}
use borrow.Author.Tests.{eq-eqb, ne_eqb}
use Rattle.std.specs.Prelude.{Result, Ok, Err}
use Rattle.model.specs.Graph.{Edge}
use Rattle.model.specs.Case.{most_edges}
use Rattle.model.specs.Chart.{Chart, most_modes, next_mode}
use Rattle.model.specs.ClaimLabels.{bit}
use Rattle.model.specs.ClaimGrammar.{most_states}
use Rattle.model.specs.Claim.{Claim}
use Rattle.model.specs.Product.{Automaton, product, chart_automaton, claim_automaton, has_edge, edges_to, edges_from, graph_of}
use Rattle.model.specs.declared.refusal.Refusal.{Refusal}
use Rattle.model.specs.declared.refusal.Refusal.TheVariants.{TooManyEdges}
use Rattle.model.proofs.Bits.{bit_zero, bit_test}
use Rattle.model.proofs.Pairs.{next_base, Pair, pair}
use Rattle.claim.specs.Cells.{moves_from}
use Rattle.chart.specs.Pairs.{one_rule}
use Rattle.model.proofs.Masks.{Row, row_start, row_step, row_end, edge_if, to_snoc, from_snoc, from_grows, to_append}
use Rattle.product.specs.Edges.{both_of, most_product, Goes, Leads, Given, Asks, MaskAdds, Holds, RowAdds, RowAsks, RowFilled, VertexAdds, EdgesFound}
use Rattle.product.specs.declared.edges.Sizes.{Sizes}

-- too many of some edges are too many of all
still_many : (es fs ds : List Edge) → length es ≤ length fs → most_edges < length (ds ++ es) → most_edges < length (ds ++ fs)
still_many es fs ds h l = omega (arith, length-append ds es, length-append ds fs)

to_grows : (k n w : ℕ) (a : Automaton) (v : ℕ) → k ≤ n → length (edges_to k w a v) ≤ length (edges_to n w a v)
to_grows k n w a v h =
    let e : k + (n - k) ≡ n = omega arith in
    rw (← e, to_append k (n - k) w a v) (omega (arith, length-append (edges_to k w a v) (edges_to (n - k) (w + k) a v)))

-- A MASK: t of its bits are read
pub record MaskRead (mask v w states t : ℕ) (before now : List Edge) : Type 0 where
  pub edges : (a : Automaton) → ((i : ℕ) → i < states → bit mask i ≡ has_edge a v (w + i)) → now ≡ before ++ edges_to t w a v

pub mask_start : (mask v w states : ℕ) (before : List Edge) → MaskRead mask v w states 0 before before
mask_start mask v w states before = record { edges = λ a b. unfold edges_to in (sym (append-nil before)) }

module _ {mask v w states t : ℕ} {before now : List Edge} (d : MaskRead mask v w states t before now) (h : t < states) where
  one_bit : (a : Automaton) → ((i : ℕ) → i < states → bit mask i ≡ has_edge a v (w + i)) → (x : Bool) → bit mask t ≡ x → now ++ edge_if x v (w + t) ≡ before ++ edges_to (t + 1) w a v
  one_bit a b x e =
      rw (add-one t, to_snoc t w a v, ← b t h, e, d.edges a b) (append_assoc before (edges_to t w a v) (edge_if x v (w + t)))

  pub mask_none : (bit_and (mask / 2 ^ t) 1 ≡ 1 → ⊥) → MaskRead mask v w states (t + 1) before now
  unfolding edge_if
  mask_none e = record { edges = λ a b. sym (append-nil now) ∙ one_bit a b false (sym (bit_test mask t) ∙ ne_eqb (bit_and (mask / 2 ^ t) 1) 1 e) }

  module _ (e : bit_and (mask / 2 ^ t) 1 ≡ 1) where
    with_edge : (a : Automaton) → ((i : ℕ) → i < states → bit mask i ≡ has_edge a v (w + i)) → now ++ (record { from = v; to = w + t } ∷ []) ≡ before ++ edges_to (t + 1) w a v
    unfolding edge_if
    with_edge a b = one_bit a b true (sym (bit_test mask t) ∙ eq-eqb (bit_and (mask / 2 ^ t) 1) 1 e)

    pub mask_one : {after : List Edge} → after ≡ now ++ (record { from = v; to = w + t } ∷ []) → MaskRead mask v w states (t + 1) before after
    mask_one p = record { edges = λ a b. p ∙ with_edge a b }

    pub mask_full : {k : Refusal} {after : List Edge} → (k ≡ TooManyEdges) × (most_edges < length (now ++ (record { from = v; to = w + t } ∷ []))) → MaskAdds mask v w states before (Err k) after
    mask_full p = record { edges = λ a b. (p.0, still_many (edges_to (t + 1) w a v) (edges_to states w a v) before (to_grows (t + 1) states w a v (omega arith)) (rw (with_edge a b) at p.1)) }

-- a mask without a bit adds nothing
none_there : (a : Automaton) (v w k : ℕ) → ((t : ℕ) → t < k → has_edge a v (w + t) ≡ false) → edges_to k w a v ≡ []
none_there a v w zero b = unfold edges_to in refl
none_there a v w (suc k) b =
    to_snoc k w a v ∙ rw (none_there a v w k (λ t l. b t (omega arith)), b k (omega arith)) (unfold edge_if in refl)

pub mask_empty : {mask : ℕ} (v w states : ℕ) (before : List Edge) → mask ≡ 0 → MaskAdds mask v w states before (Ok tt) before
mask_empty v w states before e =
    record { edges = λ a b. rw (none_there a v w states (λ t l. sym (b t l) ∙ (rw e (bit_zero t)))) (sym (append-nil before)) }

-- A ROW: r of its masks are read, up to vertex w
pub record RowRead (row : List ℕ) (v states r w : ℕ) (before now : List Edge) : Type 0 where
  pub place : w ≡ r * states
  pub near : w ≤ most_states * r
  pub edges : (a : Automaton) → Holds a v states row → now ≡ before ++ edges_to w 0 a v

pub row_first : (row : List ℕ) (v states : ℕ) (before : List Edge) → RowRead row v states 0 0 before before
unfolding edges_to
row_first row v states before = record { place = sym (zero-mul states); near = omega arith; edges = λ a b. sym (append-nil before) }

module _ {row : List ℕ} {v states r w : ℕ} {before now : List Edge} (d : RowRead row v states r w before now) (h : r < length row) where
  next_place : w + states ≡ (r + 1) * states
  next_place = rw (add-one r, suc-mul r states) (ap (λ (i : ℕ). i + states) d.place)

  bits : (a : Automaton) → Holds a v states row → (t : ℕ) → t < states → bit (get_or row r 0) t ≡ has_edge a v (w + t)
  bits a b t u = b.bits r t h u ∙ ap (λ (i : ℕ). has_edge a v (i + t)) (sym d.place)

  joined : (a : Automaton) → Holds a v states row → now ++ edges_to states w a v ≡ before ++ edges_to (w + states) 0 a v
  joined a b = rw (to_append w states 0 a v, zero-add w, d.edges a b) (append_assoc before (edges_to w 0 a v) (edges_to states w a v))

  pub row_next : {u : Unit {0}} {after : List Edge} → states ≤ most_states → MaskAdds (get_or row r 0) v w states now (Ok u) after → RowRead row v states (r + 1) (w + states) before after
  row_next small p = record { place = next_place; near = omega (arith, d.near); edges = λ a b. p.edges a (bits a b) ∙ joined a b }

  pub row_full : {k : Refusal} {after : List Edge} → MaskAdds (get_or row r 0) v w states now (Err k) after → RowAdds row v states before (Err k) after
  row_full p = record {
    edges = λ a b.
        let q = p.edges a (bits a b) in
        let e : (r + 1) * states ≤ length row * states = mul-le-mul (omega arith) (omega arith) in
        (q.0, still_many (edges_to (w + states) 0 a v) (edges_to (length row * states) 0 a v) before (to_grows (w + states) (length row * states) 0 a v (omega (arith, next_place))) (rw (joined a b) at q.1));
  }

-- FILLING A ROW: f combinations are done
pub record Filling (entries masks : List ℕ) (f : ℕ) (row : List ℕ) : Type 0 where
  pub long : length row ≡ most_modes
  pub holds : (h : Chart) (k : Claim) (q s : ℕ) → s < length k.states
      → ((i : ℕ) → i < length entries → get_or entries i 0 ≡ next_mode h q i + one_rule) → ((i : ℕ) → i < length entries → Goes k i s (get_or masks i 0)) → Row h k q s f row

pub filling_start : {row entries masks : List ℕ} → RowAsks row entries masks → Filling entries masks 0 row
filling_start p = record {
  long = ap length p.fresh ∙ length-replicate {A = ℕ} most_modes 0;
  holds = λ h k q s hs a b. rw p.fresh (row_start h k q s most_modes);
}

pub filling_step : {entries masks row : List ℕ} {f : ℕ} → Filling entries masks f row → f < length entries → Leads (get_or entries f 0)
    → let next = get_or entries f 0 - one_rule in Filling entries masks (f + 1) (set row next (bit_or (get_or row next 0) (get_or masks f 0)))
filling_step {entries} {masks} {row} {f} d h b =
    let next = get_or entries f 0 - one_rule in
    let mask = get_or masks f 0 in
    record {
      long = length-set row next (bit_or (get_or row next 0) mask) ∙ d.long;
      holds = λ h' k q s hs x y.
          rw (add-one f) (row_step h' k q s f next mask row hs (d.holds h' k q s hs x y) (omega (arith, x f h)) (omega (arith, d.long, b.from, b.below)) (y f h));
    }

pub filling_end : {entries masks row : List ℕ} {f : ℕ} → Filling entries masks f row → f ≡ length entries → RowFilled entries masks row
filling_end {row = row} d e = record { holds = λ h k q s hs c x y. record { bits = λ r t lr lt. row_end h k q s row (rw (← c, ← e) (d.holds h k q s hs x y)) r t lr lt } }

-- A VERTEX: where the entries of its mode and of its state are
pub record Place (v : ℕ) (z : Sizes) (follow cells : List ℕ) : Type 0 where
  pub pair : Pair z.modes z.states v
  pub pairs : v / z.states * z.count + z.count ≤ length follow
  pub masks : moves_from (v % z.states) + z.count ≤ length cells
  pub few : v < most_product

pub few_vertices : {z : Sizes} {follow cells : List ℕ} → Asks z follow cells → z.modes * z.states ≤ most_product
few_vertices p = mul-le-mul p.few_modes p.few_states

module _ {v : ℕ} {z : Sizes} {follow cells : List ℕ} (p : Asks z follow cells) (h : v < z.modes * z.states) where
  pub place : Place v z follow cells
  place =
      let d = pair z.modes z.states v h in
      record {
        pair = d;
        pairs = omega (arith, next_base z.count d.first, p.pairs);
        masks = omega (arith, d.second, p.few_states, p.few_values, p.roomy);
        few = omega (arith, few_vertices p);
      }

  part_long : (l : List ℕ) (at : ℕ) → at + z.count ≤ length l → length (take z.count (drop at l)) ≡ z.count
  part_long l at h = length-take-le z.count (drop at l) (omega (arith, length-drop at l))

  part_at : (l : List ℕ) (at f : ℕ) → at + z.count ≤ length l → f < z.count → get_or (take z.count (drop at l)) f 0 ≡ get_or l (at + f) 0
  part_at l at f h b = get_or-take z.count (drop at l) f 0 (omega (arith, part_long l at h)) ∙ get_or-drop at l f 0

  pub vertex_asks : {i j : ℕ} → i ≡ z.count → j ≡ z.count → RowAsks (replicate most_modes 0) (take i (drop (v / z.states * z.count) follow)) (take j (drop (moves_from (v % z.states)) cells))
  vertex_asks i j =
      rw (i, j)
      (record {
        fresh = refl;
        long = part_long cells _ place.masks ∙ sym (part_long follow _ place.pairs);
        leads = λ f b.
            let l : f < z.count = omega (arith, part_long follow _ place.pairs) in
            rw (part_at follow _ f place.pairs l) (p.leads _ f place.pair.first l);
      })

  pub vertex_adds : {i j : ℕ} {row : List ℕ} {before after : List Edge} {r : Result (Unit {0}) Refusal} → i ≡ z.count → j ≡ z.count
      → RowFilled (take i (drop (v / z.states * z.count) follow)) (take j (drop (moves_from (v % z.states)) cells)) row → length row ≡ most_modes
      → RowAdds (take z.modes row) v z.states before r after → VertexAdds v z follow cells before r after
  vertex_adds {row = row} {before = before} {after = after} {r = r} i j u l a =
      let w = rw (i, j) at u in
      let m : length (take z.modes row) ≡ z.modes = length-take-le z.modes row (omega (arith, p.few_modes)) in
      let n = part_long follow _ place.pairs in
      record {
        edges = λ c k g.
            let x = w.holds c k (v / z.states) (v % z.states) (rw (← g.of_states) place.pair.second) (n ∙ g.of_flags)
            (λ f b. let b' : f < z.count = omega (arith, n) in part_at follow _ f place.pairs b' ∙ g.next (v / z.states) f place.pair.first b')
            (λ f b. let b' : f < z.count = omega (arith, n) in rw (part_at cells _ f place.masks b') (g.goes (v % z.states) f place.pair.second b')) in
            let y : Holds (both_of c k) v z.states row = rw (← g.of_states, place.pair.whole) at x in
            rw m at (a.edges (both_of c k) (record { bits = λ i t u s. rw (get_or-take z.modes row i 0 (omega (arith, m))) (y.bits i t (omega (arith, m, p.few_modes)) s) }));
      }

-- ALL OF THEM: those that leave the vertices below v
pub record VerticesDone (z : Sizes) (v : ℕ) (follow cells : List ℕ) (now : List Edge) : Type 0 where
  pub edges : (h : Chart) (k : Claim) → Given h k z follow cells → now ≡ edges_from v 0 (both_of h k)

pub vertices_first : (z : Sizes) (follow cells : List ℕ) → VerticesDone z 0 follow cells []
unfolding edges_from
vertices_first z follow cells = record { edges = λ h k g. refl }

states_are : {h : Chart} {k : Claim} {z : Sizes} {follow cells : List ℕ} → Given h k z follow cells → z.modes * z.states ≡ (both_of h k).states
unfolding product chart_automaton claim_automaton
states_are g = rw (g.of_modes, g.of_states) refl

module _ {z : Sizes} {v : ℕ} {follow cells : List ℕ} {now : List Edge} (d : VerticesDone z v follow cells now) where
  all_but : (h : Chart) (k : Claim) → Given h k z follow cells → now ++ edges_to (z.modes * z.states) 0 (both_of h k) v ≡ edges_from (v + 1) 0 (both_of h k)
  all_but h k g =
      let a = both_of h k in
      ap (λ (n : ℕ). now ++ edges_to n 0 a v) (states_are g) ∙ ap (λ (es : List Edge). es ++ edges_to a.states 0 a v) (d.edges h k g)
      ∙ sym (rw (add-one v) (from_snoc v 0 a ∙ rw (zero-add v) refl))

  pub vertices_next : {u : Unit {0}} {after : List Edge} → VertexAdds v z follow cells now (Ok u) after → VerticesDone z (v + 1) follow cells after
  vertices_next p = record { edges = λ h k g. p.edges h k g ∙ all_but h k g }

  pub vertices_many : {k : Refusal} {after : List Edge} → v < z.modes * z.states → VertexAdds v z follow cells now (Err k) after → EdgesFound z follow cells (Err k) after
  unfolding graph_of
  vertices_many l p = record {
    edges = λ h k g.
        let q = p.edges h k g in
        let a = both_of h k in
        let e : v + 1 + (a.states - (v + 1)) ≡ a.states = omega (arith, states_are g) in
        (q.0, omega (arith, rw (all_but h k g) at q.1, ap (λ (m : ℕ). length (edges_from m 0 a)) e, from_grows (a.states - (v + 1)) (v + 1) 0 a));
  }

pub vertices_last : {z : Sizes} {v : ℕ} {follow cells : List ℕ} {now : List Edge} → VerticesDone z v follow cells now → z.modes * z.states ≡ v → EdgesFound z follow cells (Ok tt) now
unfolding graph_of
vertices_last d e = record { edges = λ h k g. d.edges h k g ∙ ap (λ (n : ℕ). edges_from n 0 (both_of h k)) (sym e ∙ states_are g) }
