-- Stores: what a store into one table does to all that the cells hold. Assumes nothing.
use mathlib.Core.Path.{◌≡◌, refl, ◌∙◌}
use mathlib.Core.List.{List}
use mathlib.Core.Option.{Option}
use Prim.Native.Nat.{ℕ, ◌+◌, ◌≤◌, ◌<◌}
use native.Mathlib.Omega.{arith}
use lib.ListN.{length, get_or, set, length-set}
use lib.Seq.{get_or-set_other}
use lib.IntN.{ℤ, pos}
use Rattle.model.specs.Case.{Case}
use Rattle.search.specs.Cells.{Region, far, by_more, distance_at, parent_at, link_at, message_at, head_at, tail_at}
use Rattle.search.specs.Rep.{Laid, Tables, Table, Held}
use Rattle.search.proofs.Regions.{region_set, region_below, region_above}

module _ {A : Type 0} {code : A → ℤ} {d : A} {base size : ℕ} {l : List A} {w : List ℤ} (t : Table code d base size l w) where
  pub there : (i : ℕ) → i < size → get_or w (base + i) (pos 0) ≡ code (get_or l i d)
  there i h = t.region.each i (omega (arith, t.sized))

-- what a store of z at j does to one table: the table ends before j, begins behind it, or has its item there
data Store {A : Type 0} (code : A → ℤ) (base size : ℕ) (l : List A) (j : ℕ) (z : ℤ) : List A → Type 0 where
  before : base + size ≤ j → Store code base size l j z l
  behind : j < base → Store code base size l j z l
  here : (i : ℕ) (a : A) → i < size → j ≡ base + i → z ≡ code a → Store code base size l j z (set l i a)

table_store : {A : Type 0} {code : A → ℤ} {d : A} {base size : ℕ} {l m : List A} {w : List ℤ} {j : ℕ} {z : ℤ} → Table code d base size l w → Store code base size l j z m → base + size ≤ length w
    → Table code d base size m (set w j z)
table_store {A} {code} {d} {base} {size} {l} {m} {w} {j} {z} t (before h) f = record { sized = t.sized; region = region_above code d base l w j z t.region (omega (arith, t.sized)) }
table_store {A} {code} {d} {base} {size} {l} {m} {w} {j} {z} t (behind h) f = record { sized = t.sized; region = region_below code d base l w j z t.region h }
table_store {A} {code} {d} {base} {size} {l} {m} {w} {j} {z} t (here i a h p q) f =
    rw (p, q) (record { sized = length-set l i a ∙ t.sized; region = region_set code d base l w i a t.region (omega (arith, t.sized)) (omega (arith, t.sized)) })

region_same : {A : Type 0} (code : A → ℤ) (d : A) (base : ℕ) (l : List A) (w v : List ℤ) → Region code d base l w → ((i : ℕ) → i < length l → get_or v (base + i) (pos 0) ≡ get_or w (base + i) (pos 0)) → Region code d base l v
region_same code d base l w v r f = record { each = λ i h. f i h ∙ r.each i h }

-- the case stays where its cells do; so under a store behind it
pub laid_same : {c : Case} {w v : List ℤ} → Laid c w → length v ≡ length w → ((i : ℕ) → i < distance_at → get_or v i (pos 0) ≡ get_or w i (pos 0)) → Laid c v
laid_same {c} {w} {v} r long kept =
    let s = r.sound in
    let l = r.within in
    record {
      sound = s;
      within = l;
      long = omega (arith, long, r.long);
      first = r.first;
      firsts = r.firsts;
      rest = r.rest;
      rests = r.rests;
      mark_cells = region_same _ _ _ _ w v r.mark_cells (λ i h. kept _ (omega (arith, s.marks, l.vertices)));
      owner_cells = region_same _ _ _ _ w v r.owner_cells (λ i h. kept _ (omega (arith, s.owned, l.vertices)));
      from_cells = region_same _ _ _ _ w v r.from_cells (λ i h. kept _ (omega (arith, l.edges)));
      to_cells = region_same _ _ _ _ w v r.to_cells (λ i h. kept _ (omega (arith, l.edges)));
      first_cells = region_same _ _ _ _ w v r.first_cells (λ i h. kept _ (omega (arith, r.firsts.sized, l.vertices)));
      rest_cells = region_same _ _ _ _ w v r.rest_cells (λ i h. kept _ (omega (arith, r.rests.sized, l.vertices)));
    }

laid_kept : {c : Case} {w : List ℤ} → Laid c w → (j : ℕ) (z : ℤ) → distance_at ≤ j → Laid c (set w j z)
laid_kept {c} {w} r j z h = laid_same r (length-set w j z) (λ i g. let n : i ≡ j → ⊥ = λ e. omega arith in get_or-set_other w j i z (pos 0) n)

-- the tables with one item changed
abbrev pub put_depth : Tables → (i : ℕ) → Option ℕ → Tables
put_depth t i a = record { depths = set t.depths i a; parents = t.parents; links = t.links; cells = t.cells; heads = t.heads; tails = t.tails }

abbrev pub put_parent : Tables → (i : ℕ) → Option ℕ → Tables
put_parent t i a = record { depths = t.depths; parents = set t.parents i a; links = t.links; cells = t.cells; heads = t.heads; tails = t.tails }

abbrev pub put_link : Tables → (i : ℕ) → ℕ → Tables
put_link t i a = record { depths = t.depths; parents = t.parents; links = set t.links i a; cells = t.cells; heads = t.heads; tails = t.tails }

abbrev pub put_cell : Tables → (i : ℕ) → Option ℕ → Tables
put_cell t i a = record { depths = t.depths; parents = t.parents; links = t.links; cells = set t.cells i a; heads = t.heads; tails = t.tails }

abbrev pub put_head : Tables → (i : ℕ) → ℕ → Tables
put_head t i a = record { depths = t.depths; parents = t.parents; links = t.links; cells = t.cells; heads = set t.heads i a; tails = t.tails }

abbrev pub put_tail : Tables → (i : ℕ) → ℕ → Tables
put_tail t i a = record { depths = t.depths; parents = t.parents; links = t.links; cells = t.cells; heads = t.heads; tails = set t.tails i a }

-- one law for all tables
held_store : {c : Case} {t : Tables} {w : List ℤ} → Held c t w → (u : Tables) (j : ℕ) (z : ℤ) → distance_at ≤ j → Store far distance_at c.graph.vertices t.depths j z u.depths
    → Store by_more parent_at c.graph.vertices t.parents j z u.parents → Store pos link_at c.graph.vertices t.links j z u.links
    → Store far message_at c.file_edges t.cells j z u.cells → Store pos head_at c.workers t.heads j z u.heads → Store pos tail_at c.workers t.tails j z u.tails
    → Held c u (set w j z)
held_store {c} {t} {w} h u j z far_off d p n m b e =
    let l = h.laid.within in
    let long = h.laid.long in
    record {
      laid = laid_kept h.laid j z far_off;
      depths = table_store h.depths d (omega arith);
      parents = table_store h.parents p (omega arith);
      links = table_store h.links n (omega arith);
      cells = table_store h.cells m (omega arith);
      heads = table_store h.heads b (omega arith);
      tails = table_store h.tails e (omega arith);
    }

module _ {c : Case} {t : Tables} {w : List ℤ} (h : Held c t w) (i : ℕ) where
  pub held_depth : (a : Option ℕ) → i < c.graph.vertices → Held c (put_depth t i a) (set w (distance_at + i) (far a))
  held_depth a g = let l = h.laid.within in held_store h (put_depth t i a) (distance_at + i) (far a) (omega arith) (here i a g refl refl) (behind (omega arith)) (behind (omega arith)) (behind (omega arith)) (behind (omega arith)) (behind (omega arith))

  pub held_parent : (a : Option ℕ) → i < c.graph.vertices → Held c (put_parent t i a) (set w (parent_at + i) (by_more a))
  held_parent a g = let l = h.laid.within in held_store h (put_parent t i a) (parent_at + i) (by_more a) (omega arith) (before (omega arith)) (here i a g refl refl) (behind (omega arith)) (behind (omega arith)) (behind (omega arith)) (behind (omega arith))

  pub held_link : (a : ℕ) → i < c.graph.vertices → Held c (put_link t i a) (set w (link_at + i) (pos a))
  held_link a g = let l = h.laid.within in held_store h (put_link t i a) (link_at + i) (pos a) (omega arith) (before (omega arith)) (before (omega arith)) (here i a g refl refl) (behind (omega arith)) (behind (omega arith)) (behind (omega arith))

  pub held_cell : (a : Option ℕ) → i < c.file_edges → Held c (put_cell t i a) (set w (message_at + i) (far a))
  held_cell a g = let l = h.laid.within in held_store h (put_cell t i a) (message_at + i) (far a) (omega arith) (before (omega arith)) (before (omega arith)) (before (omega arith)) (here i a g refl refl) (behind (omega arith)) (behind (omega arith))

  pub held_head : (a : ℕ) → i < c.workers → Held c (put_head t i a) (set w (head_at + i) (pos a))
  held_head a g = let l = h.laid.within in held_store h (put_head t i a) (head_at + i) (pos a) (omega arith) (before (omega arith)) (before (omega arith)) (before (omega arith)) (before (omega arith)) (here i a g refl refl) (behind (omega arith))

  pub held_tail : (a : ℕ) → i < c.workers → Held c (put_tail t i a) (set w (tail_at + i) (pos a))
  held_tail a g = let l = h.laid.within in held_store h (put_tail t i a) (tail_at + i) (pos a) (omega arith) (before (omega arith)) (before (omega arith)) (before (omega arith)) (before (omega arith)) (before (omega arith)) (here i a g refl refl)
