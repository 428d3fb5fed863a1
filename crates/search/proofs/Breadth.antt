-- Breadth-first search in queue order, edges in number order: each vertex is found by its walk of fewest edges, of
-- those the first in dictionary order. Assumes nothing.
use mathlib.Core.Path.{◌≡◌, refl, sym, subst, ◌∙◌}
use mathlib.Core.Bool.{true}
use mathlib.Core.List.{List, [], ◌∷◌, ◌++◌}
use mathlib.Core.Logic.{◌⊎◌, inl, inr}
use Prim.Native.Nat.{ℕ, suc, ◌+◌, ◌≤◌, ◌<◌}
use native.Mathlib.Omega.{arith}
use lib.ListN.{length, get_or, set, replicate, length-append, length-set, length-replicate, get_or-append, get_or-eq_default}
use lib.Seq.{append_snoc, get_or-set_same, get_or-set_other, get_or-append_seam}
use Rattle.model.specs.Graph.{Graph, edge, is_walk, walk_end, Reaches, Lex, Fewest}
use Rattle.model.proofs.Walks.{Steps, steps, walk_snoc, walk_end_snoc}
use Rattle.model.proofs.Stems.{fewest_one}
use Rattle.model.proofs.Tools.{getD_replicate_same}
use Rattle.model.proofs.Pigeon.{pigeon_twice}
use Rattle.search.specs.Show.{Le, Less, tip, Made, Tree, Scanned, at_source, by_edge}
use Rattle.search.proofs.Regions.{same_or, below_or}

-- ORDER
lex_same : (p : List ℕ) → Lex p p
lex_same [] = tt
lex_same (e ∷ p) = inr (refl, lex_same p)

lex_trans : (p q r : List ℕ) → Lex p q → Lex q r → Lex p r
lex_trans [] q r a b = tt
lex_trans (e ∷ p) [] r a b = absurd a
lex_trans (e ∷ p) (f ∷ q) [] a b = absurd b
lex_trans (e ∷ p) (f ∷ q) (k ∷ r) a b = go a b (lex_trans p q r)
  where
    go : (e < f) ⊎ ((e ≡ f) × Lex p q) → (f < k) ⊎ ((f ≡ k) × Lex q r) → (Lex p q → Lex q r → Lex p r) → (e < k) ⊎ ((e ≡ k) × Lex p r)
    go (inl x) (inl y) ih = inl (omega arith)
    go (inl x) (inr y) ih = inl (omega (arith, y.0))
    go (inr x) (inl y) ih = inl (omega (arith, x.0))
    go (inr x) (inr y) ih = inr (x.0 ∙ y.0, ih x.1 y.1)

-- not after, or strictly before the other way round
lex_or : (p q : List ℕ) → Lex p q ⊎ (Lex q p × (Lex p q → ⊥))
lex_or [] q = inl tt
lex_or (e ∷ p) [] = inr (tt, λ x. x)
lex_or (e ∷ p) (f ∷ q) = go (same_or e f) (below_or e f) (lex_or p q)
  where
    go : (e ≡ f) ⊎ (e ≡ f → ⊥) → (e < f) ⊎ (f ≤ e) → Lex p q ⊎ (Lex q p × (Lex p q → ⊥)) → Lex (e ∷ p) (f ∷ q) ⊎ (Lex (f ∷ q) (e ∷ p) × (Lex (e ∷ p) (f ∷ q) → ⊥))
    go (inl x) b (inl y) = inl (inr (x, y))
    go (inl x) b (inr y) = inr (inr (sym x, y.0), no)
      where
        no : (e < f) ⊎ ((e ≡ f) × Lex p q) → ⊥
        no (inl a) = omega arith
        no (inr a) = y.1 a.1
    go (inr n) (inl b) y = inl (inl b)
    go (inr n) (inr b) y = inr (inl (omega (arith, n)), no)
      where
        no : (e < f) ⊎ ((e ≡ f) × Lex p q) → ⊥
        no (inl a) = omega arith
        no (inr a) = n a.0

lex_append : (p q r : List ℕ) → length q ≡ length p → Lex p q → Lex (p ++ r) (q ++ r)
lex_append [] [] r h a = lex_same r
lex_append [] (f ∷ q) r h a = absurd (omega arith)
lex_append (e ∷ p) [] r h a = absurd a
lex_append (e ∷ p) (f ∷ q) r h a = go a (lex_append p q r (omega arith))
  where
    go : (e < f) ⊎ ((e ≡ f) × Lex p q) → (Lex p q → Lex (p ++ r) (q ++ r)) → (e < f) ⊎ ((e ≡ f) × Lex (p ++ r) (q ++ r))
    go (inl x) ih = inl x
    go (inr x) ih = inr (x.0, ih x.1)

lex_prefix : (p r : List ℕ) → Lex p (p ++ r)
lex_prefix [] r = tt
lex_prefix (e ∷ p) r = inr (refl, lex_prefix p r)

lex_snoc : (p q : List ℕ) (e f : ℕ) → length q ≡ length p → Lex (p ++ (e ∷ [])) (q ++ (f ∷ [])) → Lex p q
lex_snoc [] q e f h a = tt
lex_snoc (x ∷ p) [] e f h a = absurd (omega arith)
lex_snoc (x ∷ p) (y ∷ q) e f h a = go a (lex_snoc p q e f (omega arith))
  where
    go : (x < y) ⊎ ((x ≡ y) × Lex (p ++ (e ∷ [])) (q ++ (f ∷ []))) → (Lex (p ++ (e ∷ [])) (q ++ (f ∷ [])) → Lex p q) → (x < y) ⊎ ((x ≡ y) × Lex p q)
    go (inl x) ih = inl x
    go (inr x) ih = inr (x.0, ih x.1)

lex_last : (p : List ℕ) (e f : ℕ) → Lex (p ++ (e ∷ [])) (p ++ (f ∷ [])) → e ≤ f
lex_last [] e f (inl a) = omega arith
lex_last [] e f (inr a) = omega (arith, a.0)
lex_last (x ∷ p) e f (inl a) = absurd (omega arith)
lex_last (x ∷ p) e f (inr a) = lex_last p e f a.1

last_lex : (p : List ℕ) (e f : ℕ) → e ≤ f → Lex (p ++ (e ∷ [])) (p ++ (f ∷ []))
last_lex [] e f h = go (same_or e f)
  where
    go : (e ≡ f) ⊎ (e ≡ f → ⊥) → (e < f) ⊎ ((e ≡ f) × Unit {0})
    go (inl x) = inr (x, tt)
    go (inr n) = inl (omega (arith, n))
last_lex (x ∷ p) e f h = inr (refl, last_lex p e f h)

pub long_snoc : (p : List ℕ) (e : ℕ) → length (p ++ (e ∷ [])) ≡ suc (length p)
long_snoc p e = omega (arith, length-append p (e ∷ []))

le_same : (p : List ℕ) → Le p p
le_same p = record { short = omega arith; first = λ h. lex_same p }

le_trans : (p q r : List ℕ) → Le p q → Le q r → Le p r
le_trans p q r a b = record { short = omega (arith, a.short, b.short); first = λ h. lex_trans p q r (a.first (omega (arith, a.short, b.short))) (b.first (omega (arith, a.short, b.short))) }

le_or : (p q : List ℕ) → Le p q ⊎ (Le q p × (Le p q → ⊥))
le_or p q = go (same_or (length p) (length q)) (below_or (length p) (length q)) (lex_or p q)
  where
    go : (length p ≡ length q) ⊎ (length p ≡ length q → ⊥) → (length p < length q) ⊎ (length q ≤ length p) → Lex p q ⊎ (Lex q p × (Lex p q → ⊥)) → Le p q ⊎ (Le q p × (Le p q → ⊥))
    go (inl x) b (inl y) = inl (record { short = omega arith; first = λ h. y })
    go (inl x) b (inr y) = inr (record { short = omega arith; first = λ h. y.0 }, λ z. y.1 (z.first (sym x)))
    go (inr n) (inl b) y = inl (record { short = omega arith; first = λ h. absurd (n (sym h)) })
    go (inr n) (inr b) y = inr (record { short = b; first = λ h. absurd (n h) }, λ z. n (omega (arith, z.short)))

less_le : (p q : List ℕ) → Less p q → Le p q
less_le p q h = go (le_or p q)
  where
    go : Le p q ⊎ (Le q p × (Le p q → ⊥)) → Le p q
    go (inl x) = x
    go (inr x) = absurd (h x.0)

le_less : (p q r : List ℕ) → Le p q → Less q r → Less p r
le_less p q r a b c = b (le_trans r p q c a)

less_trans : (p q r : List ℕ) → Less p q → Le q r → Less p r
less_trans p q r a b c = a (le_trans q r p b c)

le_append : (p q r : List ℕ) → Le p q → Le (p ++ r) (q ++ r)
le_append p q r a = record {
  short = omega (arith, a.short, length-append p r, length-append q r);
  first = λ h. let l : length q ≡ length p = omega (arith, length-append p r, length-append q r) in lex_append p q r l (a.first l);
}

le_prefix : (p r : List ℕ) → Le p (p ++ r)
le_prefix p r = record { short = omega (arith, length-append p r); first = λ h. lex_prefix p r }

less_snoc : (p q : List ℕ) (e f : ℕ) → Less p q → Less (p ++ (e ∷ [])) (q ++ (f ∷ []))
less_snoc p q e f a b =
    a (record {
      short = omega (arith, b.short, long_snoc p e, long_snoc q f);
      first = λ h. lex_snoc q p f e h (b.first (omega (arith, long_snoc p e, long_snoc q f)));
    })

less_last : (p : List ℕ) (e f : ℕ) → e < f → Less (p ++ (e ∷ [])) (p ++ (f ∷ []))
less_last p e f h a = omega (arith, lex_last p f e (a.first (omega (arith, long_snoc p e, long_snoc p f))))

last_less : (p : List ℕ) (e f : ℕ) → Less (p ++ (e ∷ [])) (p ++ (f ∷ [])) → e < f
last_less p e f a = go (below_or e f)
  where
    go : (e < f) ⊎ (f ≤ e) → e < f
    go (inl h) = h
    go (inr h) = absurd (a (record { short = omega (arith, long_snoc p e, long_snoc p f); first = λ i. last_lex p f e h }))

fewest_le : (g : Graph) (v : ℕ) (t fs : List ℕ) → Fewest g v t → Reaches g v fs → Le t fs
fewest_le g v t fs w r = record { short = w.fewest fs r; first = w.first fs r }

-- one edge more
reach_on : (g : Graph) (t : List ℕ) (e : ℕ) → is_walk g g.source t ≡ true → e < length g.edges → (edge g e).from ≡ tip g t → Reaches g (edge g e).to (t ++ (e ∷ []))
reach_on g t e w h q = record { walks = walk_snoc g g.source t e w h q; arrives = walk_end_snoc g g.source t e }

-- THE TREE
module _ (g : Graph) (ts : List (List ℕ)) (ms : List ℕ) (r : Tree g ts ms) where
  -- what is found is marked
  pub marked : (j : ℕ) → j < length ts → get_or ms (tip g (get_or ts j [])) 0 ≡ 0 → ⊥
  marked j h z = go (r.made j h)
    where
      go : Made g ts ms j → ⊥
      go (at_source p q) = let y : tip g (get_or ts j []) ≡ g.source = rw p (unfold walk_end in refl) in omega (arith, rw y at z)
      go (by_edge i e l b f p q) = let y : tip g (get_or ts j []) ≡ (edge g e).to = rw p (walk_end_snoc g g.source (get_or ts i []) e) in omega (arith, rw y at z)

  pub found_by : (v : ℕ) → (get_or ms v 0 ≡ 0 → ⊥) → (j : ℕ) × (j < length ts) × (tip g (get_or ts j []) ≡ v)
  found_by v n = go (r.known v)
    where
      go : (get_or ms v 0 ≡ 0) ⊎ ((j : ℕ) × (j < length ts) × (tip g (get_or ts j []) ≡ v)) → (j : ℕ) × (j < length ts) × (tip g (get_or ts j []) ≡ v)
      go (inl z) = absurd (n z)
      go (inr x) = x

  -- no vertex is found twice, so no more walks than vertices
  tips_differ : (i j : ℕ) → i < j → j < length ts → tip g (get_or ts i []) ≡ tip g (get_or ts j []) → ⊥
  tips_differ i j l h q =
      let a = r.fewest i (omega arith) in
      let b = r.fewest j h in
      let e : get_or ts i [] ≡ get_or ts j [] = fewest_one g (tip g (get_or ts j [])) (get_or ts i []) (get_or ts j []) (subst (λ (v : ℕ). Fewest g v (get_or ts i [])) q a) b in
      r.rising i j l h (subst (λ (t : List ℕ). Le (get_or ts j []) t) (sym e) (le_same (get_or ts j [])))

  module _ (h e : ℕ) (s : Scanned g ts ms h e) where
    -- every walk before the next one to be tried ends at a vertex that is found
    cover : (j : ℕ) (es : List ℕ) → j < length ts → is_walk g (tip g (get_or ts j [])) es ≡ true → (h < length ts → Less (get_or ts j [] ++ es) (get_or ts h [] ++ (e ∷ []))) →
        (k : ℕ) × (k < length ts) × (tip g (get_or ts k []) ≡ walk_end g (tip g (get_or ts j [])) es)
    cover j [] b w l = (j, b, unfold walk_end in refl)
    cover j (f ∷ es) b w l = go (found_by (edge g f).to (led (same_or j h) (below_or j h))) (λ k b w l. cover k es b w l)
      where
        st : Steps g (tip g (get_or ts j [])) f es
        st = steps g (tip g (get_or ts j [])) f es w

        split : (get_or ts j [] ++ (f ∷ [])) ++ es ≡ get_or ts j [] ++ (f ∷ es)
        split = append_snoc (get_or ts j []) f es

        before : h < length ts → Less (get_or ts j [] ++ (f ∷ [])) (get_or ts h [] ++ (e ∷ []))
        before i = le_less _ _ _ (le_prefix (get_or ts j [] ++ (f ∷ [])) es) (rw split (l i))

        led : (j ≡ h) ⊎ (j ≡ h → ⊥) → (j < h) ⊎ (h ≤ j) → get_or ms (edge g f).to 0 ≡ 0 → ⊥
        led d (inl y) = s.past j f y b st.below st.from
        led (inl d) (inr y) =
            let i : h < length ts = omega arith in
            let x = last_less (get_or ts h []) f e (subst (λ (k : ℕ). Less (get_or ts k [] ++ (f ∷ [])) (get_or ts h [] ++ (e ∷ []))) d (before i)) in
            s.here f x i st.below (subst (λ (k : ℕ). (edge g f).from ≡ tip g (get_or ts k [])) d st.from)
        led (inr n) (inr y) =
            let i : h < length ts = omega arith in
            absurd (less_snoc (get_or ts h []) (get_or ts j []) e f (r.rising h j (omega (arith, n)) b) (less_le _ _ (before i)))

        go : (k : ℕ) × (k < length ts) × (tip g (get_or ts k []) ≡ (edge g f).to) →
            ((k : ℕ) → k < length ts → is_walk g (tip g (get_or ts k [])) es ≡ true → (h < length ts → Less (get_or ts k [] ++ es) (get_or ts h [] ++ (e ∷ []))) → (i : ℕ) × (i < length ts) × (tip g (get_or ts i []) ≡ walk_end g (tip g (get_or ts k [])) es)) →
            (i : ℕ) × (i < length ts) × (tip g (get_or ts i []) ≡ walk_end g (tip g (get_or ts j [])) (f ∷ es))
        go (k, y, q) ih =
            let a = fewest_le g (edge g f).to (get_or ts k []) (get_or ts j [] ++ (f ∷ [])) (subst (λ (v : ℕ). Fewest g v (get_or ts k [])) q (r.fewest k y)) (reach_on g (get_or ts j []) f (r.fewest j b).reaches.walks st.below st.from) in
            let x = ih k y (rw q st.rest) (λ i. le_less _ _ _ (le_append _ _ es a) (rw split (l i))) in
            (x.0, x.1, x.2 ∙ (unfold walk_end in (rw q refl)))

    cover_all : (es : List ℕ) (v : ℕ) → Reaches g v es → (h < length ts → Less es (get_or ts h [] ++ (e ∷ []))) → (k : ℕ) × (k < length ts) × (tip g (get_or ts k []) ≡ v)
    cover_all es v w l =
        let t : tip g (get_or ts 0 []) ≡ g.source = rw r.root (unfold walk_end in refl) in
        let x = cover 0 es r.some_walk (rw t w.walks) (λ i. rw r.root (l i)) in
        (x.0, x.1, x.2 ∙ (rw t w.arrives))

    -- all is scanned: what can be reached is found
    pub all_found : length ts ≤ h → (es : List ℕ) (v : ℕ) → Reaches g v es → (k : ℕ) × (k < length ts) × (tip g (get_or ts k []) ≡ v)
    all_found b es v w = cover_all es v w (λ i. absurd (omega arith))

    -- the next edge leads to a vertex that is not found yet: by that walk it is found first
    pub first_found : h < length ts → e < length g.edges → (edge g e).from ≡ tip g (get_or ts h []) → get_or ms (edge g e).to 0 ≡ 0 → Fewest g (edge g e).to (get_or ts h [] ++ (e ∷ []))
    first_found i b q z = record { reaches = reach_on g (get_or ts h []) e (r.fewest h i).reaches.walks b q; fewest = λ fs w. (at fs w).short; first = λ fs w. (at fs w).first }
      where
        at : (fs : List ℕ) → Reaches g (edge g e).to fs → Le (get_or ts h [] ++ (e ∷ [])) fs
        at fs w = go (le_or (get_or ts h [] ++ (e ∷ [])) fs)
          where
            go : Le (get_or ts h [] ++ (e ∷ [])) fs ⊎ (Le fs (get_or ts h [] ++ (e ∷ [])) × (Le (get_or ts h [] ++ (e ∷ [])) fs → ⊥)) → Le (get_or ts h [] ++ (e ∷ [])) fs
            go (inl x) = x
            go (inr x) = let k = cover_all fs (edge g e).to w (λ j. x.1) in absurd (marked k.0 k.1 (rw k.2 z))

-- no more walks than vertices
pub tree_few : (g : Graph) (ts : List (List ℕ)) (ms : List ℕ) → Tree g ts ms → ((v : ℕ) → (es : List ℕ) → Reaches g v es → v < g.vertices) → length ts ≤ g.vertices
tree_few g ts ms r low = go (below_or g.vertices (length ts))
  where
    walks : (i : ℕ) → (i < length ts) ⊎ (length ts ≤ i) → tip g (get_or ts i []) < g.vertices
    walks i (inl h) = low (tip g (get_or ts i [])) (get_or ts i []) (r.fewest i h).reaches
    walks i (inr h) = low (tip g (get_or ts i [])) [] (record { walks = unfold is_walk in refl; arrives = rw (get_or-eq_default ts [] h) refl })

    go : (g.vertices < length ts) ⊎ (length ts ≤ g.vertices) → length ts ≤ g.vertices
    go (inr h) = h
    go (inl h) = let t = pigeon_twice g.vertices (λ i. tip g (get_or ts i [])) (λ i. walks i (below_or i (length ts))) in absurd (tips_differ g ts ms r t.i t.j t.rises (omega (arith, t.below)) t.same)

-- STEPS of the search
pub get_d_front : (ts : List (List ℕ)) (t : List ℕ) (j : ℕ) → j < length ts → get_or (ts ++ (t ∷ [])) j [] ≡ get_or ts j []
get_d_front ts t j h = get_or-append ts (t ∷ []) [] j h

getD_last : (ts : List (List ℕ)) (t : List ℕ) → get_or (ts ++ (t ∷ [])) (length ts) [] ≡ t
getD_last ts t = get_or-append_seam ts t [] []

-- the edge leads to a vertex that is found
pub scanned_skip : (g : Graph) (ts : List (List ℕ)) (ms : List ℕ) (h e : ℕ) → Scanned g ts ms h e → (get_or ms (edge g e).to 0 ≡ 0 → ⊥) → Scanned g ts ms h (e + 1)
scanned_skip g ts ms h e s n = record {
  past = s.past;
  here = λ f l i b q. go f l i b q (same_or f e);
  ahead = λ i j l. less_trans _ _ _ (s.ahead i j l) (less_le _ _ (less_last (get_or ts h []) e (e + 1) (omega arith)));
}
  where
    go : (f : ℕ) → f < e + 1 → h < length ts → f < length g.edges → (edge g f).from ≡ tip g (get_or ts h []) → (f ≡ e) ⊎ (f ≡ e → ⊥) → get_or ms (edge g f).to 0 ≡ 0 → ⊥
    go f l i b q (inl y) z = n (rw y at z)
    go f l i b q (inr m) z = s.here f (omega (arith, m)) i b q z

-- no edge of this walk's vertex is left before f
pub scanned_jump : (g : Graph) (ts : List (List ℕ)) (ms : List ℕ) (h f : ℕ) → Scanned g ts ms h 0 → ((k : ℕ) → k < f → k < length g.edges → (edge g k).from ≡ tip g (get_or ts h []) → ⊥) → Scanned g ts ms h f
scanned_jump g ts ms h f s n = record {
  past = s.past;
  here = λ k l i b q z. n k l b q;
  ahead = λ i j l. less_trans _ _ _ (s.ahead i j l) (go (same_or 0 f));
}
  where
    go : (0 ≡ f) ⊎ (0 ≡ f → ⊥) → Le (get_or ts h [] ++ (0 ∷ [])) (get_or ts h [] ++ (f ∷ []))
    go (inl y) = rw y (le_same _)
    go (inr m) = less_le _ _ (less_last (get_or ts h []) 0 f (omega (arith, m)))

-- nor is any: on to the next walk
pub scanned_next : (g : Graph) (ts : List (List ℕ)) (ms : List ℕ) (h e : ℕ) → Tree g ts ms → Scanned g ts ms h e → h < length ts → ((k : ℕ) → k < length g.edges → (edge g k).from ≡ tip g (get_or ts h []) → k < e) → Scanned g ts ms (h + 1) 0
scanned_next g ts ms h e r s i n = record {
  past = λ j f l b m q. go j f l b m q (same_or j h);
  here = λ f l. absurd (omega arith);
  ahead = λ b j l. less_trans _ _ _ (s.ahead i j l) (less_le _ _ (less_snoc (get_or ts h []) (get_or ts (h + 1) []) e 0 (r.rising h (h + 1) (omega arith) b)));
}
  where
    go : (j f : ℕ) → j < h + 1 → j < length ts → f < length g.edges → (edge g f).from ≡ tip g (get_or ts j []) → (j ≡ h) ⊎ (j ≡ h → ⊥) → get_or ms (edge g f).to 0 ≡ 0 → ⊥
    go j f l b m q (inl y) z = let p : (edge g f).from ≡ tip g (get_or ts h []) = rw y at q in s.here f (n f m p) i m p z
    go j f l b m q (inr y) z = s.past j f (omega (arith, y)) b m q z

-- the edge leads to a vertex that is not found: it is now
mark_stays : (ms : List ℕ) (v u k : ℕ) → v < length ms → (get_or ms u 0 ≡ 0 → ⊥) → get_or (set ms v (k + 2)) u 0 ≡ 0 → ⊥
mark_stays ms v u k h n z = go (same_or u v)
  where
    go : (u ≡ v) ⊎ (u ≡ v → ⊥) → ⊥
    go (inl y) = omega (arith, sym (get_or-set_same ms v (k + 2) 0 h) ∙ (rw y at z))
    go (inr m) = n (sym (get_or-set_other ms v u (k + 2) 0 m) ∙ z)

mark_same : (ms : List ℕ) (v u k j : ℕ) → get_or ms v 0 ≡ 0 → get_or ms u 0 ≡ j → 0 < j → get_or (set ms v (k + 2)) u 0 ≡ j
mark_same ms v u k j z q h = get_or-set_other ms v u (k + 2) 0 (λ y. omega (arith, z, rw y at q)) ∙ q

module _ (g : Graph) (ts : List (List ℕ)) (ms : List ℕ) (h e : ℕ) (r : Tree g ts ms) (s : Scanned g ts ms h e) (i : h < length ts) (b : e < length g.edges) (q : (edge g e).from ≡ tip g (get_or ts h [])) (z : get_or ms (edge g e).to 0 ≡ 0) (low : (edge g e).to < g.vertices) where
  abbrev new : List ℕ
  new = get_or ts h [] ++ (e ∷ [])

  abbrev walks : List (List ℕ)
  walks = ts ++ (new ∷ [])

  abbrev marks : List ℕ
  marks = set ms (edge g e).to (e + 2)

  below : (edge g e).to < length ms
  below = omega (arith, r.sized)

  more : length walks ≡ suc (length ts)
  more = omega (arith, length-append ts (new ∷ []))

  new_tip : tip g new ≡ (edge g e).to
  new_tip = walk_end_snoc g g.source (get_or ts h []) e

  made_old : (j : ℕ) → j < length ts → Made g ts ms j → Made g walks marks j
  made_old j l (at_source p m) = at_source (get_d_front ts new j l ∙ p) (mark_same ms _ _ e 1 z m (omega arith))
  made_old j l (by_edge k f a d o p m) =
      let y = get_d_front ts new k (omega arith) in
      by_edge k f a d (rw y o) (rw (y, get_d_front ts new j l) p) (mark_same ms _ _ e (f + 2) z m (omega arith))

  pub tree_grow : Tree g walks marks
  tree_grow = record {
    sized = length-set ms (edge g e).to (e + 2) ∙ r.sized;
    some_walk = omega (arith, more);
    root = get_d_front ts new 0 r.some_walk ∙ r.root;
    made = λ j l. made j l (same_or j (length ts));
    rising = λ j k l m. rising j k l m (same_or k (length ts));
    fewest = λ j l. fewest j l (same_or j (length ts));
    known = λ v. known v (same_or v (edge g e).to) (r.known v);
  }
    where
      made : (j : ℕ) → j < length walks → (j ≡ length ts) ⊎ (j ≡ length ts → ⊥) → Made g walks marks j
      made j l (inr n) = let y : j < length ts = omega (arith, n, more) in made_old j y (r.made j y)
      made j l (inl y) = rw y (by_edge h e i b (rw (get_d_front ts new h i) q) (getD_last ts new ∙ (rw (get_d_front ts new h i) refl)) (get_or-set_same ms (edge g e).to (e + 2) 0 below))

      rising : (j k : ℕ) → j < k → k < length walks → (k ≡ length ts) ⊎ (k ≡ length ts → ⊥) → Less (get_or walks j []) (get_or walks k [])
      rising j k l m (inr n) = rw (get_d_front ts new j (omega (arith, n, more)), get_d_front ts new k (omega (arith, n, more))) (r.rising j k l (omega (arith, n, more)))
      rising j k l m (inl y) = rw (y, getD_last ts new, get_d_front ts new j (omega arith)) (s.ahead i j (omega arith))

      fewest : (j : ℕ) → j < length walks → (j ≡ length ts) ⊎ (j ≡ length ts → ⊥) → Fewest g (tip g (get_or walks j [])) (get_or walks j [])
      fewest j l (inr n) = rw (get_d_front ts new j (omega (arith, n, more))) (r.fewest j (omega (arith, n, more)))
      fewest j l (inl y) = rw (y, getD_last ts new, new_tip) (first_found g ts ms r h e s i b q z)

      known : (v : ℕ) → (v ≡ (edge g e).to) ⊎ (v ≡ (edge g e).to → ⊥) → (get_or ms v 0 ≡ 0) ⊎ ((j : ℕ) × (j < length ts) × (tip g (get_or ts j []) ≡ v)) → (get_or marks v 0 ≡ 0) ⊎ ((j : ℕ) × (j < length walks) × (tip g (get_or walks j []) ≡ v))
      known v (inl y) k = inr (length ts, omega (arith, more), rw (getD_last ts new, y) new_tip)
      known v (inr n) (inl k) = inl (get_or-set_other ms (edge g e).to v (e + 2) 0 n ∙ k)
      known v (inr n) (inr k) = inr (k.0, omega (arith, more, k.1), rw (get_d_front ts new k.0 k.1) k.2)

  pub scanned_grow : Scanned g walks marks h (e + 1)
  scanned_grow = record {
    past = λ k f l m d o. mark_stays ms (edge g e).to (edge g f).to e below (s.past k f l (omega arith) d (rw (get_d_front ts new k (omega arith)) at o));
    here = λ f l m d o. here f l d (rw (get_d_front ts new h i) at o) (same_or f e);
    ahead = λ m j l. ahead j l (same_or j (length ts));
  }
    where
      here : (f : ℕ) → f < e + 1 → f < length g.edges → (edge g f).from ≡ tip g (get_or ts h []) → (f ≡ e) ⊎ (f ≡ e → ⊥) → get_or marks (edge g f).to 0 ≡ 0 → ⊥
      here f l d o (inl y) x = omega (arith, sym (get_or-set_same ms (edge g e).to (e + 2) 0 below) ∙ (rw y at x))
      here f l d o (inr n) x = mark_stays ms (edge g e).to (edge g f).to e below (s.here f (omega (arith, n)) i d o) x

      ahead : (j : ℕ) → j < length walks → (j ≡ length ts) ⊎ (j ≡ length ts → ⊥) → Less (get_or walks j []) (get_or walks h [] ++ ((e + 1) ∷ []))
      ahead j l (inl y) = rw (y, getD_last ts new, get_d_front ts new h i) (less_last (get_or ts h []) e (e + 1) (omega arith))
      ahead j l (inr n) =
          rw (get_d_front ts new j (omega (arith, n, more)), get_d_front ts new h i)
          (less_trans _ _ _ (s.ahead i j (omega (arith, n, more))) (less_le _ _ (less_last (get_or ts h []) e (e + 1) (omega arith))))

-- the source alone
module _ (g : Graph) (low : g.source < g.vertices) where
  abbrev start_marks : List ℕ
  start_marks = set (replicate g.vertices 0) g.source 1

  start_mark : get_or start_marks g.source 0 ≡ 1
  start_mark = get_or-set_same (replicate g.vertices 0) g.source 1 0 (omega (arith, length-replicate {A = ℕ} g.vertices 0))

  no_walk : Reaches g g.source []
  no_walk = record { walks = unfold is_walk in refl; arrives = unfold walk_end in refl }

  one_walk : (j : ℕ) → j < length {A = List ℕ} ([] ∷ []) → get_or {A = List ℕ} ([] ∷ []) j [] ≡ []
  one_walk j h = let y : j ≡ 0 = omega arith in rw y refl

  pub tree_start : Tree g ([] ∷ []) start_marks
  tree_start = record {
    sized = length-set (replicate g.vertices 0) g.source 1 ∙ length-replicate g.vertices 0;
    some_walk = omega arith;
    root = refl;
    made = λ j h. at_source (one_walk j h) start_mark;
    rising = λ i j l h. absurd (omega arith);
    fewest = λ j h. rw (one_walk j h) (unfold walk_end in (record { reaches = no_walk; fewest = λ fs w. omega arith; first = λ fs w i. tt }));
    known = λ v. go v (same_or v g.source);
  }
    where
      go : (v : ℕ) → (v ≡ g.source) ⊎ (v ≡ g.source → ⊥) → (get_or start_marks v 0 ≡ 0) ⊎ ((j : ℕ) × (j < 1) × (tip g (get_or ([] ∷ []) j []) ≡ v))
      go v (inl y) = inr (0, omega arith, unfold walk_end in (sym y))
      go v (inr n) = inl (get_or-set_other (replicate g.vertices 0) g.source v 1 0 n ∙ getD_replicate_same g.vertices v 0)

  pub scanned_start : Scanned g ([] ∷ []) start_marks 0 0
  scanned_start = record {
    past = λ i f l. absurd (omega arith);
    here = λ f l. absurd (omega arith);
    ahead = λ l j h. rw (one_walk j h) (λ a. omega (arith, a.short));
  }
