-- Stems: the stem that is computed is the walk of fewest edges, of those the first in dictionary order; there is no
-- other.
use mathlib.Core.Path.{◌≡◌, refl, sym, ap, subst, ◌∙◌}
use mathlib.Core.Bool.{Bool, true, false, cond}
use mathlib.Core.List.{List, [], ◌∷◌}
use mathlib.Core.Logic.{◌⊎◌, inl, inr}
use mathlib.Core.Option.{Option, none, some}
use Prim.Native.Nat.{ℕ, zero, suc, ◌+◌, ◌≤◌, ◌<◌}
use native.Mathlib.Omega.{arith}
use lib.Dec.{eqb}
use borrow.Author.Tests.{eqb-true, eqb-false, eq-eqb, ne_eqb}
use lib.ListN.{length}
use Rattle.model.specs.Graph.{Graph, edge, is_walk, walk_end, Reaches, Lex, Fewest}
use Rattle.model.specs.Case.{Case, Sound}
use Rattle.model.specs.Run.{member}
use Rattle.model.specs.Answer.{with_edge, or_walk, walk_of, walk_or, stem_from, stem}
use Rattle.text.proofs.Tests.{Test, test, Same, same?, clash, holds, fails, same, other}
use Rattle.model.proofs.Tools.{Once, once_tail, snoc_in}
use Rattle.model.proofs.Pigeon.{pigeon}
use Rattle.model.proofs.Walks.{Steps, steps, walk_cons}

-- a walk from v to t of k edges, whose first edge is one of the l from e on
abbrev Comes : (e l : ℕ) → List ℕ → Type 0
Comes e l [] = Unit {0}
Comes e l (f ∷ es) = (e ≤ f) × (f < e + l)

record Goes (g : Graph) (v t k e l : ℕ) (es : List ℕ) : Type 0 where
  walks : is_walk g v es ≡ true
  arrives : walk_end g v es ≡ t
  many : length es ≡ k
  comes : Comes e l es

comes_all : (g : Graph) (v : ℕ) (es : List ℕ) → is_walk g v es ≡ true → Comes 0 (length g.edges) es
comes_all g v [] w = tt
comes_all g v (e ∷ es) w = (omega arith, omega (arith, (steps g v e es w).below))

-- nothing where there is no such walk, else the first
abbrev Best : (g : Graph) (v t k e l : ℕ) → Option (List ℕ) → Type 0
Best g v t k e l none = (fs : List ℕ) → Goes g v t k e l fs → ⊥
Best g v t k e l (some es) = Goes g v t k e l es × ((fs : List ℕ) → Goes g v t k e l fs → Lex es fs)

-- e leads nowhere: the walks are those whose first edge comes later
past : (g : Graph) (v t k e l : ℕ) → ((fs : List ℕ) → Goes g v t (suc k) e (suc l) (e ∷ fs) → ⊥) → (fs : List ℕ) → Goes g v t (suc k) e (suc l) fs → Goes g v t (suc k) (suc e) l fs
past g v t k e l n [] w = absurd (let z : 0 ≡ suc k = w.many in omega arith)
past g v t k e l n (f ∷ fs) w = go (same? f e)
  where
    go : Same f e → Goes g v t (suc k) (suc e) l (f ∷ fs)
    go (same q) = absurd (n fs (subst (λ (j : ℕ). Goes g v t (suc k) e (suc l) (j ∷ fs)) q w))
    go (other m) = record { walks = w.walks; arrives = w.arrives; many = w.many; comes = (omega (arith, m, w.comes.0), omega (arith, w.comes.1)) }

later : (g : Graph) (v t k e l : ℕ) (o : Option (List ℕ)) → ((fs : List ℕ) → Goes g v t (suc k) e (suc l) (e ∷ fs) → ⊥) → Best g v t (suc k) (suc e) l o → Best g v t (suc k) e (suc l) o
later g v t k e l none n b = λ fs w. b fs (past g v t k e l n fs w)
later g v t k e l (some es) n b = (wide es b.0, λ fs w. b.1 fs (past g v t k e l n fs w))
  where
    wide : (es : List ℕ) → Goes g v t (suc k) (suc e) l es → Goes g v t (suc k) e (suc l) es
    wide [] w = record { walks = w.walks; arrives = w.arrives; many = w.many; comes = tt }
    wide (f ∷ es) w = record { walks = w.walks; arrives = w.arrives; many = w.many; comes = (omega (arith, w.comes.0), omega (arith, w.comes.1)) }

-- the rest of a walk that begins with e
tail : (g : Graph) (v t k e l : ℕ) (fs : List ℕ) → Goes g v t (suc k) e (suc l) (e ∷ fs) → Goes g (edge g e).to t k 0 (length g.edges) fs
unfolding walk_end
tail g v t k e l fs w =
    let s = steps g v e fs w.walks in
    record { walks = s.rest; arrives = w.arrives; many = let z : suc (length fs) ≡ suc k = w.many in omega arith; comes = comes_all g (edge g e).to fs s.rest }

best : (k l e : ℕ) (g : Graph) (v t : ℕ) → l + e ≡ length g.edges → Best g v t k e l (walk_of k l e g v t)
unfolding walk_of
best zero l e g v t h = go (eqb v t) refl
  where
    no : (eqb v t ≡ false) → (fs : List ℕ) → Goes g v t 0 e l fs → ⊥
    no q [] w = eqb-false v t q (unfold walk_end in w.arrives)
    no q (f ∷ fs) w = let z : suc (length fs) ≡ 0 = w.many in omega arith

    go : (b : Bool) → eqb v t ≡ b → Best g v t 0 e l (cond b (some []) none)
    go true q = (record { walks = unfold is_walk in refl; arrives = unfold walk_end in (eqb-true v t q); many = refl; comes = tt }, λ fs w. tt)
    go false q = no q
best (suc k) zero e g v t h = no
  where
    no : (fs : List ℕ) → Goes g v t (suc k) e 0 fs → ⊥
    no [] w = let z : 0 ≡ suc k = w.many in omega arith
    no (f ∷ fs) w = omega (arith, w.comes.0, w.comes.1)
best (suc k) (suc l) e g v t h = go (same? (edge g e).from v) (walk_of k (length g.edges) 0 g (edge g e).to t) (walk_of (suc k) l (suc e) g v t)
    (best k (length g.edges) 0 g (edge g e).to t (omega arith)) (best (suc k) l (suc e) g v t (omega arith))
  where
    go : Same (edge g e).from v → (a b : Option (List ℕ)) → Best g (edge g e).to t k 0 (length g.edges) a → Best g v t (suc k) (suc e) l b →
        Best g v t (suc k) e (suc l) (or_walk (cond (eqb (edge g e).from v) (with_edge e a) none) b)
    go (other n) a b p r = rw (ne_eqb (edge g e).from v n) (unfold or_walk in (later g v t k e l b (λ fs w. n (steps g v e fs w.walks).from) r))
    go (same z) none b p r = rw (eq-eqb (edge g e).from v z) (unfold or_walk with_edge in (later g v t k e l b (λ fs w. p fs (tail g v t k e l fs w)) r))
    go (same z) (some es) b p r = rw (eq-eqb (edge g e).from v z) (unfold or_walk with_edge in (goes, at))
      where
        goes : Goes g v t (suc k) e (suc l) (e ∷ es)
        goes = record {
          walks = subst (λ (u : ℕ). is_walk g u (e ∷ es) ≡ true) z (walk_cons g e es (omega arith) p.0.walks);
          arrives = unfold walk_end in p.0.arrives;
          many = ap suc p.0.many;
          comes = (omega arith, omega arith);
        }

        at : (fs : List ℕ) → Goes g v t (suc k) e (suc l) fs → Lex (e ∷ es) fs
        at [] w = absurd (let y : 0 ≡ suc k = w.many in omega arith)
        at (f ∷ fs) w = by (same? f e)
          where
            by : Same f e → (e < f) ⊎ ((e ≡ f) × Lex es fs)
            by (other m) = inl (omega (arith, m, w.comes.0))
            by (same m) = inr (sym m, p.1 fs (tail g v t k e l fs (subst (λ (j : ℕ). Goes g v t (suc k) e (suc l) (j ∷ fs)) m w)))

-- SIMPLE walks visit no vertex twice, so they have fewer than n edges
-- SIMPLE walks visit no vertex twice
unfoldable pub visited : Graph → (v : ℕ) → List ℕ → List ℕ
visited g v [] = v ∷ []
visited g v (e ∷ es) = v ∷ visited g (edge g e).to es

length_visited : (g : Graph) (v : ℕ) (es : List ℕ) → length (visited g v es) ≡ suc (length es)
unfolding visited
length_visited g v [] = refl
length_visited g v (e ∷ es) = ap suc (length_visited g (edge g e).to es)

pub record Simple (g : Graph) (v t : ℕ) : Type 0 where
  pub edges : List ℕ
  pub walks : is_walk g v edges ≡ true
  pub walk_end : walk_end g v edges ≡ t
  pub once : Once (visited g v edges)

cut : (g : Graph) (u v t : ℕ) (es : List ℕ) → member u (visited g v es) ≡ true → is_walk g v es ≡ true → walk_end g v es ≡ t → Once (visited g v es) → Simple g u t
unfolding visited
cut g u v t [] m w q o = snoc_in u v [] m (λ z. clash false (unfold member in z) refl) (λ i. record { edges = []; walks = rw i w; walk_end = unfold walk_end in (rw i q); once = rw i o })
cut g u v t (e ∷ es) m w q o = go (same? u v) (λ m. cut g u (edge g e).to t es m (steps g v e es w).rest (unfold walk_end in q) (once_tail v _ o))
  where
    go : Same u v → (member u (visited g (edge g e).to es) ≡ true → Simple g u t) → Simple g u t
    go (same i) r = record { edges = e ∷ es; walks = rw i w; walk_end = unfold walk_end in q; once = rw i o }
    go (other n) r = r (rest m)
      where
        rest : member u (v ∷ visited g (edge g e).to es) ≡ true → member u (visited g (edge g e).to es) ≡ true
        rest m = unfold member in (rw (ne_eqb u v n) at m)

simple : (g : Graph) (v t : ℕ) (es : List ℕ) → is_walk g v es ≡ true → walk_end g v es ≡ t → Simple g v t
unfolding visited
simple g v t [] w q = record { edges = []; walks = w; walk_end = q; once = unfold Once member in (refl, tt) }
simple g v t (e ∷ es) w q = go (simple g (edge g e).to t es s.rest (unfold walk_end in q))
  where
    s : Steps g v e es
    s = steps g v e es w

    go : Simple g (edge g e).to t → Simple g v t
    go r = put (test (member v (visited g (edge g e).to r.edges)))
      where
        put : Test (member v (visited g (edge g e).to r.edges)) → Simple g v t
        put (holds m) = cut g v (edge g e).to t r.edges m r.walks r.walk_end r.once
        put (fails m) = record { edges = e ∷ r.edges; walks = subst (λ (u : ℕ). is_walk g u (e ∷ r.edges) ≡ true) s.from (walk_cons g e r.edges s.below r.walks); walk_end = unfold walk_end in r.walk_end; once = unfold Once in (m, r.once) }

visited_below : (g : Graph) (ok : (e : ℕ) → e < length g.edges → (edge g e).to < g.vertices) (v u : ℕ) (es : List ℕ) → v < g.vertices → is_walk g v es ≡ true → member u (visited g v es) ≡ true → u < g.vertices
unfolding visited
visited_below g ok v u [] l w m = snoc_in u v [] m (λ z. clash false (unfold member in z) refl) (λ i. rw i l)
visited_below g ok v u (e ∷ es) l w m = go (same? u v) (visited_below g ok (edge g e).to u es (ok e (steps g v e es w).below) (steps g v e es w).rest)
  where
    go : Same u v → (member u (visited g (edge g e).to es) ≡ true → u < g.vertices) → u < g.vertices
    go (same i) r = rw i l
    go (other n) r = r (rest m)
      where
        rest : member u (v ∷ visited g (edge g e).to es) ≡ true → member u (visited g (edge g e).to es) ≡ true
        rest m = unfold member in (rw (ne_eqb u v n) at m)

simple_short : (g : Graph) (ok : (e : ℕ) → e < length g.edges → (edge g e).to < g.vertices) (v t : ℕ) → v < g.vertices → (r : Simple g v t) → length r.edges < g.vertices
simple_short g ok v t l r = omega (arith, length_visited g v r.edges, pigeon g.vertices (visited g v r.edges) r.once (λ u m. visited_below g ok v u r.edges l r.walks m))

fewest_from : (l k : ℕ) (g : Graph) (t : ℕ) (es : List ℕ) → l + k ≡ g.vertices → length es < g.vertices → Reaches g t es →
    ((fs : List ℕ) → Reaches g t fs → k ≤ length fs) → Fewest g t (stem_from l k g t)
unfolding stem_from
fewest_from zero k g t es h b w a = absurd (omega (arith, a es w))
fewest_from (suc l) k g t es h b w a = go (walk_of k (length g.edges) 0 g g.source t) (best k (length g.edges) 0 g g.source t (omega arith)) (λ f. fewest_from l (suc k) g t es (omega arith) b w f)
  where
    goes : (fs : List ℕ) → Reaches g t fs → length fs ≡ k → Goes g g.source t k 0 (length g.edges) fs
    goes fs r i = record { walks = r.walks; arrives = r.arrives; many = i; comes = comes_all g g.source fs r.walks }

    go : (o : Option (List ℕ)) → Best g g.source t k 0 (length g.edges) o → (((fs : List ℕ) → Reaches g t fs → suc k ≤ length fs) → Fewest g t (stem_from l (suc k) g t)) →
        Fewest g t (walk_or o (stem_from l (suc k) g t))
    go none p r = unfold walk_or in (r (λ fs w. further fs w (same? (length fs) k)))
      where
        further : (fs : List ℕ) → Reaches g t fs → Same (length fs) k → suc k ≤ length fs
        further fs w (same i) = absurd (p fs (goes fs w i))
        further fs w (other m) = omega (arith, m, a fs w)
    go (some ss) p r = unfold walk_or in (record {
      reaches = record { walks = p.0.walks; arrives = p.0.arrives };
      fewest = λ fs w. omega (arith, p.0.many, a fs w);
      first = λ fs w i. p.1 fs (goes fs w (i ∙ p.0.many));
    })

module _ (c : Case) (ok : Sound c) (t : ℕ) (es : List ℕ) (w : Reaches c.graph t es) where
  way : Simple c.graph c.graph.source t
  way = simple c.graph c.graph.source t es w.walks w.arrives

  way_short : length way.edges < c.graph.vertices
  way_short = simple_short c.graph ok.to c.graph.source t ok.source way

  pub stem_fewest : Fewest c.graph t (stem c.graph t)
  unfolding stem
  stem_fewest = fewest_from c.graph.vertices 0 c.graph t way.edges (omega arith) way_short (record { walks = way.walks; arrives = way.walk_end }) (λ _ _. omega arith)

  pub stem_short : length (stem c.graph t) < c.graph.vertices
  stem_short = omega (arith, way_short, stem_fewest.fewest way.edges (record { walks = way.walks; arrives = way.walk_end }))

pub lex_same : (es fs : List ℕ) → length es ≡ length fs → Lex es fs → Lex fs es → es ≡ fs
lex_same [] [] h p q = refl
lex_same [] (f ∷ fs) h p q = absurd q
lex_same (e ∷ es) [] h p q = absurd p
lex_same (e ∷ es) (f ∷ fs) h p q = go p q (lex_same es fs (omega arith))
  where
    go : (e < f) ⊎ ((e ≡ f) × Lex es fs) → (f < e) ⊎ ((f ≡ e) × Lex fs es) → (Lex es fs → Lex fs es → es ≡ fs) → e ∷ es ≡ f ∷ fs
    go (inl a) (inl b) r = absurd (omega arith)
    go (inl a) (inr b) r = absurd (omega (arith, b.0))
    go (inr a) (inl b) r = absurd (omega (arith, a.0))
    go (inr a) (inr b) r = cc (a.0, r a.1 b.1)

pub fewest_one : (g : Graph) (v : ℕ) (ss es : List ℕ) → Fewest g v ss → Fewest g v es → ss ≡ es
fewest_one g v ss es a b =
    let h : length ss ≡ length es = omega (arith, a.fewest es b.reaches, b.fewest ss a.reaches) in
    lex_same ss es h (a.first es b.reaches (sym h)) (b.first ss a.reaches h)
