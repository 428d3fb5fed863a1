-- Frames: cells that stay, and the lists that stand in them; edges written one before the other. Assumes nothing.
use mathlib.Core.Path.{◌≡◌, refl, sym, ◌∙◌}
use mathlib.Core.List.{List, [], ◌∷◌, ◌++◌}
use mathlib.Core.Logic.{◌⊎◌, inl, inr}
use mathlib.Core.Option.{Option}
use Prim.Native.Nat.{ℕ, zero, suc, ◌+◌, ◌≤◌, ◌<◌}
use native.Mathlib.Omega.{arith}
use native.Mathlib.Nat.{add-zero}
use lib.ListN.{length, get_or, set, length-set, length-append, get_or-append}
use lib.Seq.{get_or-set_same, get_or-set_other, get_or-append_seam}
use lib.IntN.{ℤ, pos}
use Rattle.model.specs.Graph.{edge}
use Rattle.model.specs.Case.{Case, most_vertices}
use Rattle.search.specs.Cells.{Region, Below, Filled, from_at, to_at, distance_at, link_at}
use Rattle.search.specs.Rep.{Laid}
use Rattle.search.specs.Show.{Lies, Kept, Written}
use Rattle.search.proofs.Stores.{laid_same}
use Rattle.search.proofs.Regions.{same_or}

pub kept_same : (top : ℕ) (w : List ℤ) → Kept top w w
kept_same top w = record { long = refl; same = λ i h. refl }

pub kept_more : (top : ℕ) (u v w : List ℤ) → Kept top u v → Kept top v w → Kept top u w
kept_more top u v w p q = record { long = q.long ∙ p.long; same = λ i h. q.same i h ∙ p.same i h }

pub kept_less : (top low : ℕ) (v w : List ℤ) → low ≤ top → Kept top v w → Kept low v w
kept_less top low v w h p = record { long = p.long; same = λ i g. p.same i (omega arith) }

pub kept_back : (top : ℕ) (v w : List ℤ) → Kept top v w → Kept top w v
kept_back top v w p = record { long = sym p.long; same = λ i g. sym (p.same i g) }

pub kept_filled : (top base count : ℕ) (z : ℤ) (w v : List ℤ) → Filled base count z w v → top ≤ base → Kept top w v
kept_filled top base count z w v f h = record { long = f.long; same = λ i g. f.before i (omega arith) }

pub kept_set : (top : ℕ) (w : List ℤ) (j : ℕ) (z : ℤ) → top ≤ j → Kept top w (set w j z)
kept_set top w j z h = record { long = length-set w j z; same = λ i g. let n : i ≡ j → ⊥ = λ e. omega arith in get_or-set_other w j i z (pos 0) n }

pub region_kept : {A : Type 0} (enc : A → ℤ) (d : A) (base : ℕ) (l : List A) (top : ℕ) (w v : List ℤ) → Kept top w v → base + length l ≤ top → Region enc d base l w → Region enc d base l v
region_kept enc d base l top w v k h r = record { each = λ i g. k.same (base + i) (omega arith) ∙ r.each i g }

pub laid_kept : (c : Case) (top : ℕ) (w v : List ℤ) → distance_at ≤ top → Kept top w v → Laid c w → Laid c v
laid_kept c top w v h k l = laid_same l k.long (λ i g. k.same i (omega arith))

pub lies_kept : (c : Case) (ps : List (Option ℕ)) (top : ℕ) (w v : List ℤ) → link_at ≤ top → Kept top w v → Lies c ps w → Lies c ps v
lies_kept c ps top w v h k l = record {
  laid = laid_kept c top w v (omega arith) k l.laid;
  parents = region_kept _ _ _ _ top w v k (omega (arith, l.sized, l.laid.within.vertices)) l.parents;
  sized = l.sized;
  real = l.real;
}

-- one more in front
region_cons : (at e : ℕ) (es : List ℕ) (w : List ℤ) → Region pos 0 (suc at) es w → at < length w → Region pos 0 at (e ∷ es) (set w at (pos e))
region_cons at e es w r h = record { each = go }
  where
    go : (i : ℕ) → i < length (e ∷ es) → get_or (set w at (pos e)) (at + i) (pos 0) ≡ pos (get_or (e ∷ es) i 0)
    go zero g = rw (add-zero at) (get_or-set_same w at (pos e) (pos 0) h)
    go (suc i) g =
        let n : at + suc i ≡ at → ⊥ = λ e. omega arith in
        let q : at + suc i ≡ suc at + i = omega arith in
        get_or-set_other w at (at + suc i) (pos e) (pos 0) n ∙ rw q (r.each i (omega arith))

pub written_cons : (c : Case) (e at end : ℕ) (es : List ℕ) (w : List ℤ) → Written c es (suc at) end w → e < length c.graph.edges → at < length w → Written c (e ∷ es) at end (set w at (pos e))
written_cons c e at end es w r h g = record { region = region_cons at e es w r.region g; ends = omega (arith, r.ends); small = small }
  where
    small : (i : ℕ) → i < length (e ∷ es) → get_or (e ∷ es) i 0 < length c.graph.edges
    small zero g = h
    small (suc i) g = r.small i (omega arith)

pub written_none : (c : Case) (end : ℕ) (w : List ℤ) → Written c [] end end w
written_none c end w = record { region = record { each = λ i g. absurd (omega arith) }; ends = omega arith; small = λ i g. absurd (omega arith) }

pub written_kept : (c : Case) (es : List ℕ) (at end top : ℕ) (w v : List ℤ) → Kept top w v → end ≤ top → Written c es at end w → Written c es at end v
written_kept c es at end top w v k h r = record { region = region_kept pos 0 at es top w v k (omega (arith, r.ends)) r.region; ends = r.ends; small = r.small }

-- one more at the end
pub region_snoc : {A : Type 0} (enc : A → ℤ) (d : A) (base : ℕ) (l : List A) (w : List ℤ) (at : ℕ) (a : A) → Region enc d base l w → base + length l ≡ at → at < length w → Region enc d base (l ++ (a ∷ [])) (set w at (enc a))
region_snoc {A} enc d base l w at a r q h = record { each = λ i g. go i (omega (arith, length-append l (a ∷ []))) (same_or i (length l)) }
  where
    go : (i : ℕ) → i < length l + 1 → (i ≡ length l) ⊎ (i ≡ length l → ⊥) → get_or (set w at (enc a)) (base + i) (pos 0) ≡ enc (get_or (l ++ (a ∷ [])) i d)
    go i g (inl z) = rw (z, get_or-append_seam l a [] d, q) (get_or-set_same w at (enc a) (pos 0) h)
    go i g (inr n) =
        let m : base + i ≡ at → ⊥ = λ z. n (omega arith) in
        let j : i < length l = omega (arith, n) in
        get_or-set_other w at (base + i) (enc a) (pos 0) m ∙ r.each i j ∙ rw (get_or-append l (a ∷ []) d i j) refl

-- loads of an edge's ends
module _ (c : Case) (w : List ℤ) (e : ℕ) (d : Laid c w) (h : e < length c.graph.edges) where
  pub from_there : Below most_vertices (get_or w (from_at + e) (pos 0))
  unfolding edge
  from_there = record { number = (edge c.graph e).from; is = d.from_cells.each e h; less = omega (arith, d.sound.from e h, d.within.vertices) }

  pub to_there : Below most_vertices (get_or w (to_at + e) (pos 0))
  unfolding edge
  to_there = record { number = (edge c.graph e).to; is = d.to_cells.each e h; less = omega (arith, d.sound.to e h, d.within.vertices) }

  pub from_is : (r : ℕ) → get_or w (from_at + e) (pos 0) ≡ pos r → r ≡ (edge c.graph e).from
  unfolding edge
  from_is r q = let z : pos r ≡ pos (edge c.graph e).from = sym q ∙ d.from_cells.each e h in cc

  pub to_is : (r : ℕ) → get_or w (to_at + e) (pos 0) ≡ pos r → r ≡ (edge c.graph e).to
  unfolding edge
  to_is r q = let z : pos r ≡ pos (edge c.graph e).to = sym q ∙ d.to_cells.each e h in cc
