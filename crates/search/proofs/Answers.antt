-- Writing answers: their lines, and whole answers. Assumes nothing.
use mathlib.Core.Path.{◌≡◌, refl, sym, ap, ◌∙◌}
use mathlib.Core.List.{List, [], ◌∷◌, ◌++◌}
use mathlib.Core.Bool.{true, false}
use mathlib.Core.Option.{Option, none, some}
use Prim.Native.Nat.{ℕ, zero, suc, ◌+◌, ◌≤◌, ◌<◌}
use native.Mathlib.Omega.{arith}
use lib.ListN.{length, get_or, take}
use lib.IntN.{ℤ, pos, neg_ℤ}
use lib.Signed.{le_z}
use Rattle.text.specs.Ascii.{ascii}
use Rattle.text.specs.Lines.{text}
use Rattle.text.specs.Numbers.{decimal, signed_decimal}
use Rattle.text.specs.declared.write.Writer.{Writer}
use Rattle.text.specs.Writing.{Writes, Puts, Chain}
use Rattle.text.proofs.Chains.{puts, puts_none, puts_then, puts_as, field_puts}
use Rattle.model.specs.Run.{distance}
use Rattle.model.specs.Answer.{lasso_word, empty_word, edge_rows, vertex_rows}
use Rattle.search.specs.Cells.{Region, far, distance_at}
use Rattle.search.specs.Writing.{head_text, EdgesSay, VertexSays, VerticesSay, Reached, LassoSays, EmptySays}
use Rattle.search.proofs.Rows.{edges_none, edges_more, edges_all, vertices_none, vertices_more, vertices_all, no_vertex_line, vertex_line, rows_none, rows_same, rows_one, rows_all, lasso_parts, empty_parts}

-- EDGES in the cells
pub edge_is : (base : ℕ) (es : List ℕ) (w : List ℤ) (i r : ℕ) → Region pos 0 base es w → i < length es → get_or w (base + i) (pos 0) ≡ pos r → r ≡ get_or es i 0
edge_is base es w i r g h e = let q = g.each i h in cc

-- i lines are written
pub record EdgesDone (base count i : ℕ) (w : List ℤ) (o z : Writer) : Type 0 where
  pub within : i ≤ count
  pub same : z.output.ghost_name ≡ o.output.ghost_name
  pub lines : (es : List ℕ) → Region pos 0 base es w → length es ≡ count → Puts (text (edge_rows (take i es))) o z

pub edges_start : (base count : ℕ) (w : List ℤ) (o : Writer) → EdgesDone base count 0 w o o
edges_start base count w o = record { within = omega arith; same = refl; lines = λ es g e. puts_as (sym (edges_none es)) (puts_none o) }

pub edges_step : {base count i e : ℕ} {w : List ℤ} {o y z : Writer} → EdgesDone base count i w o y → i < count
    → get_or w (base + i) (pos 0) ≡ pos e → z.output.ghost_name ≡ y.output.ghost_name → Chain (decimal e ∷ (10 ∷ []) ∷ []) y z → EdgesDone base count (i + 1) w o z
edges_step {base} {count} {i} {e} {w} d h l k p =
    record {
      within = omega arith;
      same = k ∙ d.same;
      lines = λ es g q.
          let b : i < length es = omega arith in
          puts_as (edges_more es i b) (puts_then (d.lines es g q) (puts_as (ap (λ (n : ℕ). decimal n ++ (10 ∷ [])) (edge_is base es w i e g b l)) (field_puts e 10 p)));
    }

pub edges_end : {base count i : ℕ} {w : List ℤ} {o z : Writer} → EdgesDone base count i w o z → count ≤ i → EdgesSay base count w o z
edges_end {i = i} d h = record { lines = λ es g e. puts_as (edges_all es i (omega arith)) (d.lines es g e) }

-- VERTICES in the cells: a distance there is at most 0
some_far : (x : ℤ) → le_z x (pos 0) ≡ true → (d : Option ℕ) → x ≡ far d → (k : ℕ) × (d ≡ some k) × (x ≡ distance k)
unfolding distance
some_far x h none e = let q : true ≡ false = sym h ∙ ap (λ (y : ℤ). le_z y (pos 0)) e in absurd (let y : ◌≡◌ {A = ℕ} 0 1 = cc in omega arith)
some_far x h (some k) e = (k, refl, e)

none_far : (x : ℤ) → le_z x (pos 0) ≡ false → (d : Option ℕ) → x ≡ far d → d ≡ none
none_far x h none e = refl
none_far x h (some k) e = go k (sym h ∙ ap (λ (y : ℤ). le_z y (pos 0)) e)
  where
    go : (k : ℕ) → false ≡ le_z (neg_ℤ (pos k)) (pos 0) → some k ≡ none
    go zero q = cc
    go (suc k) q = cc

pub vertex_some : {v : ℕ} {x : ℤ} {o p q z : Writer} → le_z x (pos 0) ≡ true
    → Chain (decimal v ∷ (32 ∷ []) ∷ []) o p → Writes (signed_decimal x) p q → Writes (10 ∷ []) q z → VertexSays v x o z
vertex_some {v} {x} {o} {z = z} h f g k = record { line = λ d e. go d (some_far x h d e) }
  where
    go : (d : Option ℕ) → (k : ℕ) × (d ≡ some k) × (x ≡ distance k) → Puts (text (vertex_rows v (d ∷ []))) o z
    go d (j, e, l) = rw e (puts_as (vertex_line v j) (puts_then (field_puts v 32 f) (puts_then (puts_as (ap signed_decimal l) (puts g)) (puts k))))

pub vertex_none : (v : ℕ) (x : ℤ) (o : Writer) → le_z x (pos 0) ≡ false → VertexSays v x o o
vertex_none v x o h = record { line = λ d e. rw (none_far x h d e) (puts_as (sym (no_vertex_line v)) (puts_none o)) }

-- the lines of v vertices are written
pub record VerticesDone (n v : ℕ) (w : List ℤ) (o z : Writer) : Type 0 where
  pub within : v ≤ n
  pub same : z.output.ghost_name ≡ o.output.ghost_name
  pub lines : (ds : List (Option ℕ)) → Region far none distance_at ds w → length ds ≡ n → Puts (text (vertex_rows 0 (take v ds))) o z

pub vertices_start : (n : ℕ) (w : List ℤ) (o : Writer) → VerticesDone n 0 w o o
vertices_start n w o = record { within = omega arith; same = refl; lines = λ ds g e. puts_as (sym (vertices_none ds)) (puts_none o) }

pub vertices_step : {n v : ℕ} {x : ℤ} {w : List ℤ} {o y z : Writer} → VerticesDone n v w o y → v < n
    → x ≡ get_or w (distance_at + v) (pos 0) → z.output.ghost_name ≡ y.output.ghost_name → VertexSays v x y z → VerticesDone n (v + 1) w o z
vertices_step {n} {v} d h l k p =
    record {
      within = omega arith;
      same = k ∙ d.same;
      lines = λ ds g q.
          let b : v < length ds = omega arith in
          puts_as (vertices_more ds v b) (puts_then (d.lines ds g q) (p.line (get_or ds v none) (l ∙ g.each v b)));
    }

pub vertices_end : {n v : ℕ} {w : List ℤ} {o z : Writer} → VerticesDone n v w o z → n ≤ v → VerticesSay n w o z
vertices_end {v = v} d h = record { lines = λ ds g e. puts_as (vertices_all ds v (omega arith)) (d.lines ds g e) }

-- k of v vertices have a distance
pub record Counted (n v k : ℕ) (w : List ℤ) : Type 0 where
  pub within : v ≤ n
  pub few : k ≤ v
  pub count : (ds : List (Option ℕ)) → Region far none distance_at ds w → length ds ≡ n → k ≡ length (vertex_rows 0 (take v ds))

pub counted_start : (n : ℕ) (w : List ℤ) → Counted n 0 0 w
counted_start n w = record { within = omega arith; few = omega arith; count = λ ds g e. sym (rows_none ds) }

pub counted_some : {n v k : ℕ} {x : ℤ} {w : List ℤ} → Counted n v k w → v < n → x ≡ get_or w (distance_at + v) (pos 0) → le_z x (pos 0) ≡ true → Counted n (v + 1) (k + 1) w
counted_some {n} {v} {k} {x} {w} c h l t =
    record {
      within = omega arith;
      few = omega (arith, c.few);
      count = λ ds g e.
          let b : v < length ds = omega arith in
          let s = some_far x t (get_or ds v none) (l ∙ g.each v b) in
          omega (arith, c.count ds g e, rows_one ds v s.0 b s.1);
    }

pub counted_none : {n v k : ℕ} {x : ℤ} {w : List ℤ} → Counted n v k w → v < n → x ≡ get_or w (distance_at + v) (pos 0) → le_z x (pos 0) ≡ false → Counted n (v + 1) k w
counted_none {n} {v} {k} {x} {w} c h l t =
    record {
      within = omega arith;
      few = omega (arith, c.few);
      count = λ ds g e.
          let b : v < length ds = omega arith in
          c.count ds g e ∙ sym (rows_same ds v b (none_far x t (get_or ds v none) (l ∙ g.each v b)));
    }

pub counted_end : {n v k : ℕ} {w : List ℤ} → Counted n v k w → n ≤ v → Reached n k w
counted_end {n} {v} {k} {w} c h =
    record { few = omega (arith, c.few, c.within); count = λ ds g e. c.count ds g e ∙ rows_all ds v (omega arith) }

-- THE ANSWERS
pub lasso_says : {first stem start cycle : ℕ} {w : List ℤ} {o p q s z : Writer} → Puts (head_text lasso_word stem cycle 0) o p → Writes (ascii "edge\n") p q
    → EdgesSay first stem w q s → EdgesSay start cycle w s z → LassoSays first stem start cycle w o z
lasso_says {o = o} {p = p} f g x y = record {
  answer = λ ss es i k j l.
      let head : Puts (head_text lasso_word (length ss) (length es) 0) o p = rw (k, l) f in
      puts_as (lasso_parts ss es) (puts_then (puts_then (puts_then head (puts g)) (x.lines ss i k)) (y.lines es j l));
}

pub empty_says : {n k : ℕ} {w : List ℤ} {o p q z : Writer} → Reached n k w → Puts (head_text empty_word 0 0 k) o p → Writes (ascii "vertex distance\n") p q
    → VerticesSay n w q z → EmptySays n w o z
empty_says {o = o} {p = p} c f g x = record {
  answer = λ ds i k.
      let head : Puts (head_text empty_word 0 0 (length (vertex_rows 0 ds))) o p = rw (← c.count ds i k) f in
      puts_as (empty_parts ds) (puts_then (puts_then head (puts g)) (x.lines ds i k));
}
