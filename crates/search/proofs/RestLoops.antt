-- Rest loops in the cells: what loading one of them does, and that the case of a run stands in the cells at the end. Assumes
-- nothing.
use mathlib.Core.Path.{◌≡◌, refl, sym, ap, ◌∙◌}
use mathlib.Core.Bool.{true, false}
use mathlib.Core.List.{List, [], ◌∷◌, ◌++◌}
use mathlib.Core.Logic.{◌⊎◌, inl, inr}
use Prim.Native.Nat.{ℕ, suc, ◌+◌, ◌-◌, ◌≤◌, ◌<◌}
use native.Mathlib.Omega.{arith}
use native.Mathlib.Numerals.{add-one}
use lib.ListN.{length, get_or, set, take, drop, length-append, length-drop, length-set, length-take, get_or-append}
use lib.Seq.{drop-cons, drop-append_seam, take-append_seam, get_or_at}
use lib.IntN.{ℤ, pos}
use Rattle.text.proofs.Tests.{clash}
use Rattle.model.specs.Graph.{Edge, edge, leaves, loop, loops_from, rested}
use Rattle.model.specs.Case.{Case, resting, most_edges, most_run_edges, Sound, Within}
use Rattle.model.specs.Promise.{RestingSound}
use Rattle.model.proofs.Rests.{leaves_at, leaves_none, rests_skip, rests_take, loops_of, resting_sound}
use Rattle.search.specs.Cells.{Region, by_from, by_to, accepting_at, owner_at, from_at, to_at, first_at, rest_at}
use Rattle.search.specs.Rep.{Firsts, Own, no_edge, Laid}
use Rattle.search.specs.Loading.{Filed, Looping}
use Rattle.search.proofs.Regions.{same_or, below_or, region_below, region_above, region_grow, region_whole}
use Rattle.search.proofs.Frames.{region_snoc}

-- FILE EDGES of v are F v to F (v + 1)
module _ (c : Case) {F : List ℕ} (whole : c.file_edges ≡ length c.graph.edges) (f : Firsts c F) (v : ℕ) (below : v < c.graph.vertices) where
  goes_on : get_or F v 0 < get_or F (v + 1) 0 → leaves c.graph.edges v ≡ true
  unfolding edge
  goes_on h =
      leaves_at c.graph.edges (get_or F v 0) v (omega (arith, f.below (v + 1) (omega arith)))
      (omega (arith, f.after v (get_or F v 0) (omega arith) (omega arith) (omega (arith, f.below (v + 1) (omega arith))), f.before (v + 1) (get_or F v 0) (omega arith) h))

  has_none : get_or F (v + 1) 0 ≤ get_or F v 0 → leaves c.graph.edges v ≡ false
  unfolding edge
  has_none h = leaves_none c.graph.edges v (λ e l q. go e l q (below_or e (get_or F v 0)))
    where
      go : (e : ℕ) → e < length c.graph.edges → (get_or c.graph.edges e no_edge).from ≡ v → (e < get_or F v 0) ⊎ (get_or F v 0 ≤ e) → ⊥
      go e l q (inl k) = omega (arith, f.before v e (omega arith) k)
      go e l q (inr k) = omega (arith, f.after (v + 1) e (omega arith) (omega arith) (omega arith))

-- THE START: no vertex has its loop yet
pub loops_start : {c : Case} {w : List ℤ} → Filed c w → Looping c 0 c.file_edges w
unfolding rested
loops_start {c} {w} f =
    let es = c.graph.edges in
    let ls = loops_from c.graph.vertices 0 es in
    let n : c.graph.vertices - 0 ≡ c.graph.vertices = omega arith in
    let front : take c.file_edges (es ++ ls) ≡ es = rw f.whole (take-append_seam es ls) in
    record {
      filed = f;
      past = omega arith;
      most = omega (arith, f.whole, length-append es ls);
      left = rw (f.whole, n) (drop-append_seam es ls);
      from_cells = rw front f.from_cells;
      to_cells = rw front f.to_cells;
      rest = [];
      sized = refl;
      rest_cells = record { each = λ i h. absurd (omega arith) };
      low = λ u h. absurd (omega arith);
      high = λ u h. absurd (omega arith);
      is = λ u h. absurd (omega arith);
    }

region_apart : {A : Type 0} (code : A → ℤ) (d : A) (base : ℕ) (l : List A) (w : List ℤ) (j : ℕ) (z : ℤ) → Region code d base l w → (j < base) ⊎ (base + length l ≤ j) → Region code d base l (set w j z)
region_apart code d base l w j z r (inl h) = region_below code d base l w j z r h
region_apart code d base l w j z r (inr h) = region_above code d base l w j z r h

-- a store past the file's edges' starts, and in none of its other tables
filed_store : {c : Case} {w : List ℤ} (f : Filed c w) (j : ℕ) (z : ℤ) → from_at + length c.graph.edges ≤ j → (j < to_at) ⊎ (to_at + length c.graph.edges ≤ j) →
    (j < first_at) ⊎ (first_at + length f.first ≤ j) → Filed c (set w j z)
filed_store {c} {w} f j z a b d =
    let g = c.graph in
    record {
      sound = f.sound;
      within = f.within;
      whole = f.whole;
      long = omega (arith, length-set w j z, f.long);
      first = f.first;
      firsts = f.firsts;
      mark_cells = region_above pos 0 accepting_at g.accepting w j z f.mark_cells (omega (arith, f.sound.marks, f.within.vertices));
      owner_cells = region_above pos 0 owner_at c.owners w j z f.owner_cells (omega (arith, f.sound.owned, f.within.vertices));
      from_cells = region_above by_from no_edge from_at g.edges w j z f.from_cells a;
      to_cells = region_apart by_to no_edge to_at g.edges w j z f.to_cells b;
      first_cells = region_apart pos 0 first_at f.first w j z f.first_cells d;
    }

module _ {c : Case} {v k : ℕ} {w : List ℤ} (l : Looping c v k w) (below : v < c.graph.vertices) where
  abbrev f : Filed c w
  f = l.filed

  abbrev L : List Edge
  L = (rested c.graph).edges

  few : length L ≤ most_run_edges
  few = omega (arith, (loops_of c.graph).few, f.whole, f.within.file, f.within.vertices)

  file_few : length c.graph.edges ≤ most_edges
  file_few = omega (arith, f.whole, f.within.file)

  firsts_many : length f.first ≡ c.graph.vertices + 1
  firsts_many = f.firsts.sized

  pub first_is : (u r : ℕ) → u ≤ c.graph.vertices → get_or w (first_at + u) (pos 0) ≡ pos r → get_or f.first u 0 ≡ r
  first_is u r h e = let z : pos (get_or f.first u 0) ≡ pos r = sym (f.first_cells.each u (omega (arith, firsts_many))) ∙ e in cc

  -- the next loop fits its tables
  pub room : k ≤ most_run_edges
  room = omega (arith, l.most, few)

  -- every vertex gets the number of the next loop: its own if it rests
  abbrev w₁ : List ℤ
  w₁ = set w (rest_at + v) (pos k)

  abbrev more : List ℕ
  more = l.rest ++ (k ∷ [])

  filed₁ : Filed c w₁
  filed₁ = filed_store f (rest_at + v) (pos k) (omega (arith, file_few)) (inr (omega (arith, file_few))) (inr (omega (arith, firsts_many, f.within.vertices)))

  long₁ : length w₁ ≡ length w
  long₁ = length-set w (rest_at + v) (pos k)

  from₁ : Region by_from no_edge from_at (take k L) w₁
  from₁ = region_above by_from no_edge from_at (take k L) w (rest_at + v) (pos k) l.from_cells (omega (arith, length-take k L, few))

  to₁ : Region by_to no_edge to_at (take k L) w₁
  to₁ = region_above by_to no_edge to_at (take k L) w (rest_at + v) (pos k) l.to_cells (omega (arith, length-take k L, few))

  rest₁ : Region pos 0 rest_at more w₁
  rest₁ = region_snoc pos 0 rest_at l.rest w (rest_at + v) k l.rest_cells (omega (arith, l.sized)) (omega (arith, f.long, f.within.vertices))

  more_many : length more ≡ v + 1
  more_many = omega (arith, length-append l.rest (k ∷ []), l.sized)

  -- what holds of the vertices before v and of v holds of those before the next
  each : (P : ℕ → ℕ → Type 0) → ((u : ℕ) → u < v → P u (get_or l.rest u 0)) → P v k → (u : ℕ) → u < v + 1 → P u (get_or more u 0)
  each P a b u h = go (same_or u v)
    where
      go : (u ≡ v) ⊎ (u ≡ v → ⊥) → P u (get_or more u 0)
      go (inl q) = rw (q, let e : get_or more v 0 ≡ k = get_or_at l.rest k [] 0 v l.sized in e) b
      go (inr n) = rw (get_or-append l.rest (k ∷ []) 0 u (omega (arith, l.sized, n))) (a u (omega (arith, n)))

  less : c.graph.vertices - v ≡ suc (c.graph.vertices - (v + 1))
  less = omega arith

  skipped : leaves c.graph.edges v ≡ true → loops_from (c.graph.vertices - v) v c.graph.edges ≡ loops_from (c.graph.vertices - (v + 1)) (v + 1) c.graph.edges
  skipped on = rw (less, add-one v) (rests_skip (c.graph.vertices - suc v) v c.graph.edges on)

  pub loop_none : get_or f.first v 0 < get_or f.first (v + 1) 0 → Looping c (v + 1) k w₁
  loop_none h =
      let on : leaves c.graph.edges v ≡ true = goes_on c f.whole f.firsts v below h in
      record {
        filed = filed₁;
        past = l.past;
        most = l.most;
        left = l.left ∙ skipped on;
        from_cells = from₁;
        to_cells = to₁;
        rest = more;
        sized = more_many;
        rest_cells = rest₁;
        low = each (λ u r. leaves c.graph.edges u ≡ false → c.file_edges ≤ r) l.low (λ q. clash _ on q);
        high = each (λ u r. leaves c.graph.edges u ≡ false → r < k) l.high (λ q. clash _ on q);
        is = each (λ u r. leaves c.graph.edges u ≡ false → (edge (rested c.graph) r).from ≡ u) l.is (λ q. clash _ on q);
      }

  module _ (h : get_or f.first (v + 1) 0 ≤ get_or f.first v 0) where
    off : leaves c.graph.edges v ≡ false
    off = has_none c f.whole f.firsts v below h

    -- the next loop is v's
    next : drop k L ≡ loop v ∷ loops_from (c.graph.vertices - (v + 1)) (v + 1) c.graph.edges
    next = l.left ∙ (rw (less, add-one v) (rests_take (c.graph.vertices - suc v) v c.graph.edges off))

    on : k < length L
    on = omega (arith, ap length next, length-drop k L)

    parts : (get_or L k no_edge ≡ loop v) × (drop (k + 1) L ≡ loops_from (c.graph.vertices - (v + 1)) (v + 1) c.graph.edges)
    parts =
        let q : get_or L k no_edge ∷ drop (suc k) L ≡ loop v ∷ loops_from (c.graph.vertices - (v + 1)) (v + 1) c.graph.edges = sym (drop-cons L k no_edge on) ∙ next in
        (cc, rw (add-one k) cc)

    abbrev w₂ : List ℤ
    w₂ = set w₁ (from_at + k) (pos v)

    abbrev w₃ : List ℤ
    w₃ = set w₂ (to_at + k) (pos v)

    pub loop_one : Looping c (v + 1) (k + 1) w₃
    loop_one =
        let long₂ = length-set w₁ (from_at + k) (pos v) in
        let filed₂ = filed_store filed₁ (from_at + k) (pos v) (omega (arith, l.past, f.whole)) (inl (omega (arith, on, few))) (inl (omega (arith, on, few))) in
        let from₂ = region_grow by_from no_edge from_at L w₁ k (pos v) from₁ on (omega (arith, few, long₁, f.long)) (ap by_from (sym parts.0)) in
        let to₂ = region_below by_to no_edge to_at (take k L) w₁ (from_at + k) (pos v) to₁ (omega (arith, on, few)) in
        let rest₂ = region_below pos 0 rest_at more w₁ (from_at + k) (pos v) rest₁ (omega (arith, on, few)) in
        record {
          filed = filed_store filed₂ (to_at + k) (pos v) (omega (arith, file_few)) (inr (omega (arith, l.past, f.whole))) (inl (omega (arith, on, few)));
          past = omega (arith, l.past);
          most = omega (arith, on);
          left = parts.1;
          from_cells = region_above by_from no_edge from_at (take (k + 1) L) w₂ (to_at + k) (pos v) from₂ (omega (arith, length-take (k + 1) L, few));
          to_cells = region_grow by_to no_edge to_at L w₂ k (pos v) to₂ on (omega (arith, few, long₂, long₁, f.long)) (ap by_to (sym parts.0));
          rest = more;
          sized = more_many;
          rest_cells = region_below pos 0 rest_at more w₂ (to_at + k) (pos v) rest₂ (omega (arith, on, few));
          low = each (λ u r. leaves c.graph.edges u ≡ false → c.file_edges ≤ r) l.low (λ q. l.past);
          high = each (λ u r. leaves c.graph.edges u ≡ false → r < k + 1) (λ u a q. omega (arith, l.high u a q)) (λ q. omega arith);
          is = each (λ u r. leaves c.graph.edges u ≡ false → (edge (rested c.graph) r).from ≡ u) l.is (λ q. unfold edge in (ap (λ (d : Edge). d.from) parts.0));
        }

-- THE END: every vertex that rests has its loop
module _ {c : Case} {k : ℕ} {w : List ℤ} (l : Looping c c.graph.vertices k w) where
  pub loops_many : k ≡ length (rested c.graph).edges
  loops_many = omega (arith, l.most, length-drop k (rested c.graph).edges, ap length l.left, none_left)
    where
      none_left : length (loops_from (c.graph.vertices - c.graph.vertices) c.graph.vertices c.graph.edges) ≡ 0
      none_left = let z : c.graph.vertices - c.graph.vertices ≡ 0 = omega arith in rw z (unfold loops_from in refl)

  file_kept : (e : ℕ) → e < c.file_edges → edge (rested c.graph) e ≡ edge c.graph e
  file_kept e h = (loops_of c.graph).kept e (omega (arith, l.filed.whole))

  firsts_rested : Firsts (resting c) l.filed.first
  unfolding resting rested
  firsts_rested =
      record {
        sized = l.filed.firsts.sized;
        below = l.filed.firsts.below;
        before = λ v e h b. rw (file_kept e (omega (arith, l.filed.firsts.below v h))) (l.filed.firsts.before v e h b);
        after = λ v e h b d. rw (file_kept e d) (l.filed.firsts.after v e h b d);
      }

  -- a loop is of a vertex that no file edge leaves
  loop_rests : (v e : ℕ) → c.file_edges ≤ e → e < length (rested c.graph).edges → (edge (rested c.graph) e).from ≡ v → leaves c.graph.edges v ≡ false
  loop_rests v e a b q = rw q at ((loops_of c.graph).loops e (omega (arith, l.filed.whole)) b).rests

  own_edges : (v : ℕ) → v < c.graph.vertices → get_or l.filed.first v 0 < get_or l.filed.first (v + 1) 0 → Own (resting c) v (get_or l.filed.first v 0) (get_or l.filed.first (v + 1) 0)
  unfolding resting rested
  own_edges v h b =
      let F = firsts_rested in
      record {
        order = omega arith;
        below = omega (arith, F.below (v + 1) (omega arith), l.past, l.most);
        before = λ i a q. omega (arith, F.before v i (omega arith) a);
        after = λ i a d q. go i a d q (below_or i c.file_edges);
        inside = λ i a d. omega (arith, F.after v i (omega arith) a (omega (arith, F.below (v + 1) (omega arith))), F.before (v + 1) i (omega arith) d);
      }
    where
      go : (i : ℕ) → get_or l.filed.first (v + 1) 0 ≤ i → i < length (rested c.graph).edges → (edge (rested c.graph) i).from ≡ v → (i < c.file_edges) ⊎ (c.file_edges ≤ i) → ⊥
      go i a d q (inl e) = omega (arith, l.filed.firsts.after (v + 1) i (omega arith) a e, ap (λ (d : Edge). d.from) (file_kept i e))
      go i a d q (inr e) = clash _ (goes_on c l.filed.whole l.filed.firsts v h b) (loop_rests v i e d q)

  own_loop : (v : ℕ) → v < c.graph.vertices → get_or l.filed.first (v + 1) 0 ≤ get_or l.filed.first v 0 → Own (resting c) v (get_or l.rest v 0) (get_or l.rest v 0 + 1)
  unfolding resting rested
  own_loop v h b =
      let off = has_none c l.filed.whole l.filed.firsts v h b in
      let low = l.low v h off in
      let high = l.high v h off in
      let is = l.is v h off in
      record {
        order = omega arith;
        below = omega (arith, high, l.most);
        before = λ i a q. go i a q (below_or i c.file_edges) off is high;
        after = λ i a d q. omega (arith, (loops_of c.graph).rising (get_or l.rest v 0) i (omega (arith, l.filed.whole, low)) (omega arith) d, is);
        inside = λ i a d. let z : i ≡ get_or l.rest v 0 = omega arith in rw z is;
      }
    where
      go : (i : ℕ) → i < get_or l.rest v 0 → (edge (rested c.graph) i).from ≡ v → (i < c.file_edges) ⊎ (c.file_edges ≤ i) → leaves c.graph.edges v ≡ false → (edge (rested c.graph) (get_or l.rest v 0)).from ≡ v →
          get_or l.rest v 0 < k → ⊥
      go i a q (inl e) off is high = clash _ (leaves_at c.graph.edges i v (omega (arith, l.filed.whole)) (unfold edge in (rw (file_kept i e) at q))) off
      go i a q (inr e) off is high = omega (arith, (loops_of c.graph).rising i (get_or l.rest v 0) (omega (arith, l.filed.whole)) a (omega (arith, l.most, high)), is)

  pub loops_laid : Laid (resting c) w
  unfolding resting rested
  loops_laid =
      let s = rests_soundly c l.filed.sound in
      let whole : length (rested c.graph).edges ≤ k = omega (arith, loops_many) in
      record {
        sound = s.0;
        within = s.1 l.filed.within l.filed.whole;
        long = l.filed.long;
        first = l.filed.first;
        firsts = firsts_rested;
        rest = l.rest;
        rests = record { sized = l.sized; goes_on = own_edges; rests = own_loop };
        mark_cells = l.filed.mark_cells;
        owner_cells = l.filed.owner_cells;
        from_cells = region_whole by_from no_edge from_at (rested c.graph).edges w k l.from_cells whole;
        to_cells = region_whole by_to no_edge to_at (rested c.graph).edges w k l.to_cells whole;
        first_cells = l.filed.first_cells;
        rest_cells = l.rest_cells;
      }
    where
      rests_soundly : (c : Case) → Sound c → Sound (resting c) × (Within c → c.file_edges ≡ length c.graph.edges → Within (resting c))
      rests_soundly = unfold RestingSound in resting_sound
