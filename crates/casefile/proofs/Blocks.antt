-- Blocks: vertex lines and edge lines read one by one. What is left to read decides as the whole block does. Assumes
-- nothing.
use mathlib.Core.Path.{◌≡◌, refl, sym, ap, ◌∙◌}
use mathlib.Core.Bool.{Bool, true, false, ◌&&◌, not, cond}
use mathlib.Core.List.{List, [], ◌∷◌}
use mathlib.Core.Option as maths
use mathlib.Core.Option.{none, some}
use Prim.Native.Nat.{ℕ, suc, ◌+◌, ◌-◌, ◌≤◌, ◌<◌}
use native.Mathlib.Omega.{arith}
use native.Mathlib.Numerals.{add-one}
use lib.Dec.{ltb, eqb}
use lib.ListN.{drop}
use borrow.Author.Tests.{lt-ltb}
use Rattle.std.specs.Prelude.{Option, Some, None}
use Rattle.text.specs.Lines.{Line, lines, line_at}
use Rattle.text.specs.Numbers.{numbers_line}
use Rattle.text.specs.Reading.{line_here}
use Rattle.text.proofs.Reading.{Row, NoRow, past_lines}
use Rattle.model.specs.Graph.{Edge}
use Rattle.model.specs.CaseFile.{refuse, first_of, vertex_good, vertices_refusal, edge_of, edge_good, rises, edges_refusal}
use Rattle.casefile.specs.Judging.{edge_before}
use Rattle.casefile.proofs.Refusals.{first_one}

-- VERTEX LINES
vertices_step : (k v p : ℕ) (ls : List Line) →
    vertices_refusal (suc k) v p ls ≡ cond (numbers_line 3 (line_at ls 0)) (cond (vertex_good v p (line_at ls 0)) (vertices_refusal k (suc v) p (drop 1 ls)) 6) 4
unfolding vertices_refusal refuse first_of
vertices_step k v p ls = go (numbers_line 3 (line_at ls 0)) (vertex_good v p (line_at ls 0))
  where
    go : (a b : Bool) → first_of (refuse (not a) 4 ∷ refuse (not b) 6 ∷ vertices_refusal k (suc v) p (drop 1 ls) ∷ []) ≡ cond a (cond b (vertices_refusal k (suc v) p (drop 1 ls)) 6) 4
    go true true = first_one (vertices_refusal k (suc v) p (drop 1 ls))
    go true false = refl
    go false b = refl

-- v lines have been read without a fault, and the next one is at here: those left decide, however many there are
pub record VerticesLeft (s : List ℕ) (at p here v : ℕ) : Type 0 where
  pub left : (k : ℕ) → v ≤ k → vertices_refusal (k - v) v p (lines (drop here s)) ≡ vertices_refusal k 0 p (lines (drop at s))

pub vertices_start : (s : List ℕ) (at p : ℕ) → VerticesLeft s at p at 0
vertices_start s at p = record { left = λ k h. (let z : k - 0 ≡ k = omega arith in rw z refl) }

module _ {s : List ℕ} {at p here v : ℕ} (g : VerticesLeft s at p here v) where
  pub vertices_clean : vertices_refusal v 0 p (lines (drop at s)) ≡ 0
  vertices_clean = let z : v - v ≡ 0 = omega arith in sym (g.left v (omega arith)) ∙ (rw z (unfold vertices_refusal in refl))

  vertices_next : (k : ℕ) → v < k → vertices_refusal k 0 p (lines (drop at s))
      ≡ cond (numbers_line 3 (line_here s here)) (cond (vertex_good v p (line_here s here)) (vertices_refusal (k - (v + 1)) (suc v) p (drop 1 (lines (drop here s)))) 6) 4
  vertices_next k h =
      let e : k - v ≡ suc (k - (v + 1)) = omega arith in
      sym (g.left k (omega arith)) ∙ (rw e (vertices_step (k - (v + 1)) v p (lines (drop here s))))

  -- no row, or a wrong one: a fault of this line and all longer blocks
  pub vertices_torn : NoRow 3 s here → (k : ℕ) → v < k → vertices_refusal k 0 p (lines (drop at s)) ≡ 4
  vertices_torn b k h = vertices_next k h ∙ (rw b.none refl)

  module _ {a b c z : ℕ} (r : Row s here (a ∷ b ∷ c ∷ []) z) where
    good : vertex_good v p (line_here s here) ≡ (eqb a v && (ltb b 2 && ltb c p))
    unfolding vertex_good
    good = rw (r.are 0 (omega arith), r.are 1 (omega arith), r.are 2 (omega arith)) refl

    pub vertices_wrong : (eqb a v && (ltb b 2 && ltb c p)) ≡ false → (k : ℕ) → v < k → vertices_refusal k 0 p (lines (drop at s)) ≡ 6
    vertices_wrong x k h = vertices_next k h ∙ (rw (r.line, good, x) refl)

    pub vertices_more : (eqb a v && (ltb b 2 && ltb c p)) ≡ true → VerticesLeft s at p z (v + 1)
    vertices_more x = record {
      left = λ k l. rw (← r.past, past_lines s here) (ap (λ (i : ℕ). vertices_refusal (k - (v + 1)) i p (drop 1 (lines (drop here s)))) (add-one v) ∙ sym (vertices_next k (omega arith) ∙ (rw (r.line, good, x) refl)));
    }

-- EDGE LINES
edges_step : (k n : ℕ) (o : maths.Option Edge) (ls : List Line) → let l = line_at ls 0 in
    edges_refusal (suc k) n o ls ≡ cond (numbers_line 2 l) (cond (edge_good n (edge_of l)) (cond (rises o (edge_of l)) (edges_refusal k n (some (edge_of l)) (drop 1 ls)) 8) 7) 4
unfolding edges_refusal refuse first_of
edges_step k n o ls = go (numbers_line 2 (line_at ls 0)) (edge_good n (edge_of (line_at ls 0))) (rises o (edge_of (line_at ls 0))) (edges_refusal k n (some (edge_of (line_at ls 0))) (drop 1 ls))
  where
    go : (a b c : Bool) (r : ℕ) → first_of (refuse (not a) 4 ∷ refuse (not b) 7 ∷ refuse (not c) 8 ∷ r ∷ []) ≡ cond a (cond b (cond c r 8) 7) 4
    go true true true r = first_one r
    go true true false r = refl
    go true false c r = refl
    go false b c r = refl

-- e edges have been read without a fault, o the last, and the next one is at here
pub record EdgesLeft (s : List ℕ) (at n here e : ℕ) (o : Option (ℕ × ℕ)) : Type 0 where
  pub left : (k : ℕ) → e ≤ k → edges_refusal (k - e) n (edge_before o) (lines (drop here s)) ≡ edges_refusal k n none (lines (drop at s))

pub edges_start : (s : List ℕ) (at n : ℕ) → EdgesLeft s at n at 0 None
unfolding edge_before
edges_start s at n = record { left = λ k h. (let z : k - 0 ≡ k = omega arith in rw z refl) }

module _ {s : List ℕ} {at n here e : ℕ} {o : Option (ℕ × ℕ)} (g : EdgesLeft s at n here e o) where
  pub edges_clean : edges_refusal e n none (lines (drop at s)) ≡ 0
  edges_clean = let z : e - e ≡ 0 = omega arith in sym (g.left e (omega arith)) ∙ (rw z (unfold edges_refusal in refl))

  edges_next : (k : ℕ) → e < k → let l = line_here s here in edges_refusal k n none (lines (drop at s))
      ≡ cond (numbers_line 2 l) (cond (edge_good n (edge_of l)) (cond (rises (edge_before o) (edge_of l)) (edges_refusal (k - (e + 1)) n (some (edge_of l)) (drop 1 (lines (drop here s)))) 8) 7) 4
  edges_next k h =
      let q : k - e ≡ suc (k - (e + 1)) = omega arith in
      sym (g.left k (omega arith)) ∙ (rw q (edges_step (k - (e + 1)) n (edge_before o) (lines (drop here s))))

  pub edges_torn : NoRow 2 s here → (k : ℕ) → e < k → edges_refusal k n none (lines (drop at s)) ≡ 4
  edges_torn b k h = edges_next k h ∙ (rw b.none refl)

  module _ {a b z : ℕ} (r : Row s here (a ∷ b ∷ []) z) where
    edge_is : edge_of (line_here s here) ≡ record { from = a; to = b }
    unfolding edge_of
    edge_is = rw (r.are 0 (omega arith), r.are 1 (omega arith)) refl

    read : (k : ℕ) → e < k → edges_refusal k n none (lines (drop at s))
        ≡ cond (ltb a n && ltb b n) (cond (rises (edge_before o) (record { from = a; to = b })) (edges_refusal (k - (e + 1)) n (some (record { from = a; to = b })) (drop 1 (lines (drop here s)))) 8) 7
    read k h = edges_next k h ∙ (rw (r.line, edge_is) (unfold edge_good in refl))

    pub edges_out : (ltb a n && ltb b n) ≡ false → (k : ℕ) → e < k → edges_refusal k n none (lines (drop at s)) ≡ 7
    edges_out x k h = read k h ∙ (rw x refl)

    pub edges_back : a < n → b < n → rises (edge_before o) (record { from = a; to = b }) ≡ false → (k : ℕ) → e < k → edges_refusal k n none (lines (drop at s)) ≡ 8
    edges_back x y w k h = read k h ∙ (rw (lt-ltb a n x, lt-ltb b n y, w) refl)

    pub edges_more : a < n → b < n → rises (edge_before o) (record { from = a; to = b }) ≡ true → EdgesLeft s at n z (e + 1) (Some (a, b))
    unfolding edge_before
    edges_more x y w = record {
      left = λ k l. rw (← r.past, past_lines s here) (sym (read k (omega arith) ∙ (rw (lt-ltb a n x, lt-ltb b n y, w) refl)));
    }
