-- The edges of the product as a program finds them: for each vertex a row of masks, one for each mode, filled combination by
-- combination; then its edges in order, one more at a time.
use mathlib.Core.Path.{◌≡◌, refl, sym, ap, ◌∙◌}
use mathlib.Core.Bool.{Bool, true, false, ◌||◌, cond, or-false, or_assoc}
use mathlib.Core.List.{List, [], ◌∷◌, ◌++◌, append-nil, append_assoc}
use Prim.Native.Nat.{ℕ, zero, suc, ◌+◌, ◌<◌, ◌≤◌}
use native.Mathlib.Omega.{arith}
use lib.Bits.{bit_or}
use lib.ListN.{length, get_or, set, replicate, length-set, length-append}
use lib.Seq.{get_or-set_same, get_or-set_other}
use borrow.Author.Tests.{eq-eqb, ne_eqb}
use Rattle.text.proofs.Tests.{Same, same?, same, other}
use Rattle.model.specs.Graph.{Edge}
use Rattle.model.specs.Chart.{Chart, combinations, next_mode}
use Rattle.model.specs.ClaimLabels.{bit}
use Rattle.model.specs.Claim.{Claim, claim_moves}
use Rattle.model.specs.Product.{Automaton, product, chart_automaton, some_letter, has_edge, edges_to, edges_from}
use Rattle.model.proofs.Tools.{getD_replicate_same}
use Rattle.model.proofs.Bits.{bit_of_or, bit_zero}
use Rattle.model.proofs.Products.{both, vertex, vertex_moves}

-- A ROW: of the combinations below f, one lets both parts move
unfoldable pub some_below : (f : ℕ) → Automaton → (s t : ℕ) → Bool
some_below zero a s t = false
some_below (suc f) a s t = some_below f a s t || a.moves f s t

below_then : (k x : ℕ) (a : Automaton) (s t : ℕ) → some_below (x + k) a s t ≡ (some_below x a s t || some_letter k x a s t)
unfolding some_letter
below_then zero x a s t = let e : x + 0 ≡ x = omega arith in rw e (sym (or-false (some_below x a s t)))
below_then (suc k) x a s t =
    let e : x + suc k ≡ suc x + k = omega arith in
    rw e (below_then k (suc x) a s t ∙ unfold some_below in (or_assoc (some_below x a s t) (a.moves x s t) (some_letter k (suc x) a s t)))

below_all : (a : Automaton) (s t : ℕ) → some_below a.letters a s t ≡ has_edge a s t
unfolding has_edge
below_all a s t = let e : a.letters ≡ 0 + a.letters = omega arith in ap (λ (k : ℕ). some_below k a s t) e ∙ below_then a.letters 0 a s t ∙ unfold some_below in refl

-- after the combinations below f: bit t of mask r
pub record Row (h : Chart) (k : Claim) (q s f : ℕ) (row : List ℕ) : Type 0 where
  pub bits : (r t : ℕ) → r < length row → t < length k.states → bit (get_or row r 0) t ≡ some_below f (both h k) (vertex h k q s) (vertex h k r t)

module _ (h : Chart) (k : Claim) (q s : ℕ) where
  pub row_start : (m : ℕ) → Row h k q s 0 (replicate m 0)
  unfolding some_below
  row_start m = record { bits = λ r t l u. rw (getD_replicate_same {A = ℕ} m r 0) (bit_zero t) }

  -- `row[next] |= mask`
  pub row_step : (f next mask : ℕ) (row : List ℕ) → s < length k.states → Row h k q s f row → next ≡ next_mode h q f → next < length row → ((t : ℕ) → bit mask t ≡ claim_moves k f s t)
      → Row h k q s (suc f) (set row next (bit_or (get_or row next 0) mask))
  unfolding some_below
  row_step f next mask row hs w e l g =
      record { bits = λ r t lr u. at r t u (w.bits r t (rw (length-set row next new) at lr) u) (same? r next) }
    where
      new : ℕ
      new = bit_or (get_or row next 0) mask

      at : (r t : ℕ) → t < length k.states → bit (get_or row r 0) t ≡ some_below f (both h k) (vertex h k q s) (vertex h k r t) → Same r next
          → bit (get_or (set row next new) r 0) t ≡ (some_below f (both h k) (vertex h k q s) (vertex h k r t) || (both h k).moves f (vertex h k q s) (vertex h k r t))
      at r t u b (same x) =
          ap (λ (i : ℕ). bit i t) (ap (λ (j : ℕ). get_or (set row next new) j 0) x ∙ get_or-set_same row next new 0 l)
          ∙ rw (bit_of_or (get_or row next 0) mask t, vertex_moves h k f q s r t hs u, eq-eqb (next_mode h q f) r (sym e ∙ sym x), g t)
          (ap (λ (y : Bool). y || claim_moves k f s t) (ap (λ (i : ℕ). bit (get_or row i 0) t) (sym x) ∙ b))
      at r t u b (other n) =
          ap (λ (i : ℕ). bit i t) (get_or-set_other row next r new 0 n)
          ∙ rw (vertex_moves h k f q s r t hs u, ne_eqb (next_mode h q f) r (λ x. n (sym x ∙ sym e)))
          (b ∙ sym (or-false (some_below f (both h k) (vertex h k q s) (vertex h k r t))))

  -- after all of them it holds the edges that leave the vertex
  pub row_end : (row : List ℕ) → Row h k q s (combinations h) row → (r t : ℕ) → r < length row → t < length k.states
      → bit (get_or row r 0) t ≡ has_edge (both h k) (vertex h k q s) (vertex h k r t)
  unfolding product chart_automaton
  row_end row w r t l u = w.bits r t l u ∙ below_all (both h k) (vertex h k q s) (vertex h k r t)

-- THE EDGES, one more at a time
-- one edge, if there is one
unfoldable pub edge_if : (there : Bool) → (s t : ℕ) → List Edge
edge_if b s t = cond b (record { from = s; to = t } ∷ []) []

pub to_snoc : (k t : ℕ) (a : Automaton) (s : ℕ) → edges_to (suc k) t a s ≡ edges_to k t a s ++ edge_if (has_edge a s (t + k)) s (t + k)
unfolding edges_to edge_if
to_snoc zero t a s = let e : t + 0 ≡ t = omega arith in rw e refl
to_snoc (suc k) t a s = let e : t + suc k ≡ suc t + k = omega arith in rw e (go (has_edge a s t) (edge_if (has_edge a s (suc t + k)) s (suc t + k)) (to_snoc k (suc t) a s))
  where
    go : (b : Bool) (z : List Edge) → edges_to (suc k) (suc t) a s ≡ edges_to k (suc t) a s ++ z
        → cond b (record { from = s; to = t } ∷ edges_to (suc k) (suc t) a s) (edges_to (suc k) (suc t) a s) ≡ cond b (record { from = s; to = t } ∷ edges_to k (suc t) a s) (edges_to k (suc t) a s) ++ z
    go true z r = ap (λ (l : List Edge). record { from = s; to = t } ∷ l) r
    go false z r = r

pub from_snoc : (k s : ℕ) (a : Automaton) → edges_from (suc k) s a ≡ edges_from k s a ++ edges_to a.states 0 a (s + k)
unfolding edges_from
from_snoc zero s a = let e : s + 0 ≡ s = omega arith in rw (e, append-nil (edges_to a.states 0 a s)) refl
from_snoc (suc k) s a =
    let e : s + suc k ≡ suc s + k = omega arith in
    rw (e, from_snoc k (suc s) a) (sym (append_assoc (edges_to a.states 0 a s) (edges_from k (suc s) a) (edges_to a.states 0 a (suc s + k))))

pub from_grows : (j k s : ℕ) (a : Automaton) → length (edges_from k s a) ≤ length (edges_from (k + j) s a)
from_grows zero k s a = let e : k + 0 ≡ k = omega arith in rw e (omega arith)
from_grows (suc j) k s a =
    let e : k + suc j ≡ suc (k + j) = omega arith in
    rw e (omega (arith, from_grows j k s a, ap length (from_snoc (k + j) s a), length-append (edges_from (k + j) s a) (edges_to a.states 0 a (s + (k + j)))))

-- some states more
pub to_append : (k j t : ℕ) (a : Automaton) (s : ℕ) → edges_to (k + j) t a s ≡ edges_to k t a s ++ edges_to j (t + k) a s
to_append k zero t a s =
    let e : k + 0 ≡ k = omega arith in
    rw e (unfold edges_to in (sym (append-nil (edges_to k t a s))))
to_append k (suc j) t a s =
    let e : k + suc j ≡ suc (k + j) = omega arith in
    let d : t + (k + j) ≡ t + k + j = omega arith in
    let z = edge_if (has_edge a s (t + k + j)) s (t + k + j) in
    rw (e, to_snoc (k + j) t a s, to_snoc j (t + k) a s, d, to_append k j t a s) (append_assoc (edges_to k t a s) (edges_to j (t + k) a s) z)
