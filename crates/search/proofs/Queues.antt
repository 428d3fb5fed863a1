-- Queues by links: a vertex joins at the tail, and the head leaves. Assumes nothing.
use mathlib.Core.Path.{◌≡◌, refl, sym, ap, subst, ◌∙◌}
use mathlib.Core.Bool.{Bool, true, false}
use mathlib.Core.List.{List, [], ◌∷◌, ◌++◌}
use mathlib.Core.Logic.{◌⊎◌, inl, inr, ⊎_elim}
use Prim.Native.Nat.{ℕ, ◌+◌, ◌≤◌, ◌<◌}
use native.Mathlib.Omega.{arith}
use lib.Dec.{eqb}
use borrow.Author.Tests.{eqb-true, eqb-false, eq-eqb, ne_eqb}
use lib.ListN.{length, get_or, set, length-set, get_or-eq_default}
use lib.Seq.{get_or-set_same, get_or-set_other}
use Rattle.model.specs.Case.{Case, owner}
use Rattle.model.specs.Run.{member, no_vertex}
use Rattle.text.proofs.Tests.{or_false, or_cases, or_right}
use Rattle.model.proofs.Tools.{member_first, member_later, no_queue, no_queues}
use Rattle.search.specs.Rep.{link, Linked, Ends, Lined}
use Rattle.search.proofs.Regions.{same_or, below_or}

pub true_or : (b : Bool) → (b ≡ true) ⊎ (b ≡ false)
true_or true = inl refl
true_or false = inr refl

ne_of_tests : {A : Type 0} (f : A → Bool) (a b : A) → f a ≡ true → f b ≡ false → a ≡ b → ⊥
ne_of_tests f a b t u e = let z : true ≡ false = sym t ∙ ap f e ∙ u in let y : ◌≡◌ {A = ℕ} 0 1 = cc in omega arith

-- members
member_joined : (u v : ℕ) (q : List ℕ) → member u (q ++ (v ∷ [])) ≡ true → (member u q ≡ true) ⊎ (u ≡ v)
unfolding member
member_joined u v [] h = ⊎_elim (λ t. inr (eqb-true u v t)) (λ t. inl t) (or_cases (eqb u v) false h)
member_joined u v (x ∷ q) h =
    ⊎_elim (λ t. inl (rw t)) (λ t. ⊎_elim (λ s. inl (or_right (eqb u x) (member u q) s)) (λ e. inr e) (member_joined u v q t)) (or_cases (eqb u x) (member u (q ++ (v ∷ []))) h)

member_kept : (u v : ℕ) (q : List ℕ) → member u (q ++ (v ∷ [])) ≡ false → (member u q ≡ false) × (u ≡ v → ⊥)
unfolding member
member_kept u v [] h = (refl, eqb-false u v (or_false (eqb u v) false h).0)
member_kept u v (x ∷ q) h =
    let t = or_false (eqb u x) (member u (q ++ (v ∷ []))) h in
    let s = member_kept u v q t.1 in
    (rw t.0 s.0, s.1)

not_snoc : (u v : ℕ) (q : List ℕ) → member u q ≡ false → (u ≡ v → ⊥) → member u (q ++ (v ∷ [])) ≡ false
unfolding member
not_snoc u v [] h n = rw (ne_eqb u v n)
not_snoc u v (x ∷ q) h n = let t = or_false (eqb u x) (member u q) h in rw t.0 (not_snoc u v q t.1 n)

ends_member : (t u : ℕ) (q : List ℕ) → Ends t (u ∷ q) → member t (u ∷ q) ≡ true
unfolding member
ends_member t u [] h = rw (eq-eqb t u h)
ends_member t u (x ∷ q) h = or_right (eqb t u) (member t (x ∷ q)) (ends_member t x q h)

walk_end_snoc : (v : ℕ) (q : List ℕ) → Ends v (q ++ (v ∷ []))
walk_end_snoc v [] = refl
walk_end_snoc v (x ∷ []) = refl
walk_end_snoc v (x ∷ y ∷ q) = walk_end_snoc v (y ∷ q)

-- chains
chain_kept : (N : List ℕ) (j a : ℕ) (q : List ℕ) → Linked N q → member j q ≡ false → Linked (set N j a) q
unfolding member
chain_kept N j a [] h m = tt
chain_kept N j a (v ∷ q) h m =
    let t = or_false (eqb j v) (member j q) m in
    let n : v ≡ j → ⊥ = λ e. eqb-false j v t.0 (sym e) in
    (get_or-set_other N j v a 0 n ∙ h.0, h.1, chain_kept N j a q h.2 t.1)

pub chain_marked : (N : List ℕ) (v : ℕ) (q : List ℕ) → Linked N q → member v q ≡ true → 1 ≤ get_or N v 0
unfolding member
chain_marked N v [] h m = let z : ◌≡◌ {A = ℕ} 0 1 = cc in omega arith
chain_marked N v (x ∷ q) h m = ⊎_elim (λ t. first (eqb-true v x t) q h.0) (λ t. chain_marked N v q h.2 t) (or_cases (eqb v x) (member v q) m)
  where
    first : v ≡ x → (r : List ℕ) → get_or N x 0 ≡ link r → 1 ≤ get_or N v 0
    first e [] g = rw (e, g) (omega arith)
    first e (y ∷ r) g = rw (e, g) (omega arith)

-- v joins behind t
chain_snoc : (N : List ℕ) (t v u : ℕ) (q : List ℕ) → Linked N (u ∷ q) → Ends t (u ∷ q) → member v (u ∷ q) ≡ false → t < length N → v < length N
    → Linked (set (set N t (v + 2)) v 1) ((u ∷ q) ++ (v ∷ []))
unfolding member
chain_snoc N t v u [] h e m a b =
    let s = or_false (eqb v u) false m in
    let n : u ≡ v → ⊥ = λ f. eqb-false v u s.0 (sym f) in
    let k : v < length (set N t (v + 2)) = omega (arith, length-set N t (v + 2)) in
    (get_or-set_other (set N t (v + 2)) v u 1 0 n ∙ rw (← e) (get_or-set_same N t (v + 2) 0 a), rw (ne_eqb u v n), (get_or-set_same (set N t (v + 2)) v 1 0 k, refl, tt))
chain_snoc N t v u (x ∷ q) h e m a b =
    let s = or_false (eqb v u) (member v (x ∷ q)) m in
    let n : u ≡ v → ⊥ = λ f. eqb-false v u s.0 (sym f) in
    let f : u ≡ t → ⊥ = λ g. ne_of_tests (λ (z : ℕ). member z (x ∷ q)) t u (ends_member t x q e) h.1 (sym g) in
    (get_or-set_other (set N t (v + 2)) v u 1 0 n ∙ get_or-set_other N t u (v + 2) 0 f ∙ h.0, not_snoc u v (x ∷ q) h.1 n, chain_snoc N t v x q h.2 e s.1 a b)

-- what holds of one queue after a store among the queues
at_set : {A : Type 0} (P : ℕ → A → Type 0) (l : List A) (p : ℕ) (a d : A) → p < length l → P p a → ((r : ℕ) → (r ≡ p → ⊥) → P r (get_or l r d))
    → (r : ℕ) → P r (get_or (set l p a) r d)
at_set {A} P l p a d h here there r = go (same_or r p)
  where
    go : (r ≡ p) ⊎ (r ≡ p → ⊥) → P r (get_or (set l p a) r d)
    go (inl e) = rw (e, get_or-set_same l p a d h) here
    go (inr n) = rw (get_or-set_other l p r a d n) (there r n)

-- in no queue but its owner's
pub elsewhere : (c : Case) (qs : List (List ℕ)) (N H T : List ℕ) (v p r : ℕ) → Lined c qs N H T → owner c v ≡ p → (r ≡ p → ⊥) → member v (get_or qs r []) ≡ false
elsewhere c qs N H T v p r L o n = go (true_or (member v (get_or qs r [])))
  where
    go : (member v (get_or qs r []) ≡ true) ⊎ (member v (get_or qs r []) ≡ false) → member v (get_or qs r []) ≡ false
    go (inl t) = absurd (n (sym (L.mine r v t).1 ∙ o))
    go (inr f) = f

pub link_one : (q : List ℕ) → link q ≡ 1 → q ≡ []
link_one [] h = refl
link_one (v ∷ q) h = let z : ◌≡◌ {A = ℕ} 0 1 = omega arith in cc

-- whether all queues are empty
pub some_vertex : (qs : List (List ℕ)) (p h : ℕ) → link (get_or qs p []) ≡ h → (h ≡ 1 → ⊥) → false ≡ no_vertex qs
some_vertex qs p h e n = go (true_or (no_vertex qs))
  where
    go : (no_vertex qs ≡ true) ⊎ (no_vertex qs ≡ false) → false ≡ no_vertex qs
    go (inl t) = absurd (n (sym e ∙ ap link (no_queue qs t p)))
    go (inr f) = sym f

pub all_empty : (qs : List (List ℕ)) (p : ℕ) → length qs ≤ p → ((j : ℕ) → j < p → get_or qs j [] ≡ []) → no_vertex qs ≡ true
all_empty qs p l f = no_queues qs (λ j. go j (below_or j p))
  where
    go : (j : ℕ) → (j < p) ⊎ (p ≤ j) → get_or qs j [] ≡ []
    go j (inl b) = f j b
    go j (inr b) = get_or-eq_default qs [] (omega arith)

pub one_more : (qs : List (List ℕ)) (p : ℕ) → ((j : ℕ) → j < p → get_or qs j [] ≡ []) → get_or qs p [] ≡ [] → (j : ℕ) → j < p + 1 → get_or qs j [] ≡ []
one_more qs p f e j l = go (same_or j p)
  where
    go : (j ≡ p) ⊎ (j ≡ p → ⊥) → get_or qs j [] ≡ []
    go (inl q) = rw q e
    go (inr n) = f j (omega (arith, n))

no_member : (v : ℕ) → member v [] ≡ false
unfolding member
no_member v = refl

ends_rest : (t v : ℕ) (q : List ℕ) → Ends t (v ∷ q) → Ends t q
ends_rest t v [] h = tt
ends_rest t v (u ∷ q) h = h

not_member : (u v : ℕ) (q : List ℕ) → (u ≡ v → ⊥) → member u q ≡ false → member u (v ∷ q) ≡ false
unfolding member
not_member u v q n h = rw (ne_eqb u v n) h

module _ (c : Case) (qs : List (List ℕ)) (N H T : List ℕ) (v p : ℕ) (L : Lined c qs N H T) (o : owner c v ≡ p) (below : v < c.graph.vertices) (pw : p < c.workers)
    (ln : length N ≡ c.graph.vertices) (lh : length H ≡ c.workers) (lt : length T ≡ c.workers) (fresh : member v (get_or qs p []) ≡ false) where
  abbrev joined : List (List ℕ)
  joined = set qs p (get_or qs p [] ++ (v ∷ []))

  pq : p < length qs
  pq = omega (arith, L.sized)

  mine_joined : (r u : ℕ) → member u (get_or joined r []) ≡ true → (u < c.graph.vertices) × (owner c u ≡ r)
  unfolding pq
  mine_joined r u =
      at_set (λ (r : ℕ) (q : List ℕ). member u q ≡ true → (u < c.graph.vertices) × (owner c u ≡ r)) qs p (get_or qs p [] ++ (v ∷ [])) [] pq
      (λ m. ⊎_elim (λ t. L.mine p u t) (λ e. rw e (below, o)) (member_joined u v (get_or qs p []) m)) (λ r n m. L.mine r u m) r

  tails_joined : (r : ℕ) → r < c.workers → Ends (get_or (set T p v) r 0) (get_or joined r [])
  tails_joined r =
      at_set (λ (r : ℕ) (q : List ℕ). r < c.workers → Ends (get_or (set T p v) r 0) q) qs p (get_or qs p [] ++ (v ∷ [])) [] pq
      (λ g. let k : p < length T = omega arith in rw (get_or-set_same T p v 0 k) (walk_end_snoc v (get_or qs p [])))
      (λ r n g. rw (get_or-set_other T p r v 0 n) (L.tails r g)) r

  -- an empty queue
  pub join_first : get_or H p 0 ≡ 1 → Lined c joined (set N v 1) (set H p (v + 2)) (set T p v)
  join_first h =
      let e : get_or qs p [] ≡ [] = link_one (get_or qs p []) (sym (L.heads p pw) ∙ h) in
      let k : v < length N = omega arith in
      let j : p < length H = omega arith in
      record {
        sized = length-set qs p (get_or qs p [] ++ (v ∷ [])) ∙ L.sized;
        chains = at_set (λ (r : ℕ) (q : List ℕ). Linked (set N v 1) q) qs p (get_or qs p [] ++ (v ∷ [])) [] pq (rw e (get_or-set_same N v 1 0 k, no_member v, tt))
            (λ r n. chain_kept N v 1 (get_or qs r []) (L.chains r) (elsewhere c qs N H T v p r L o n));
        heads = at_set (λ (r : ℕ) (q : List ℕ). r < c.workers → get_or (set H p (v + 2)) r 0 ≡ link q) qs p (get_or qs p [] ++ (v ∷ [])) [] pq
            (λ g. rw e (get_or-set_same H p (v + 2) 0 j)) (λ r n g. get_or-set_other H p r (v + 2) 0 n ∙ L.heads r g);
        tails = tails_joined;
        mine = mine_joined;
        clear = λ u g. at_set (λ (r : ℕ) (q : List ℕ). owner c u ≡ r → member u q ≡ false → get_or (set N v 1) u 0 ≡ 0) qs p (get_or qs p [] ++ (v ∷ [])) [] pq
            (λ f m. let s = member_kept u v (get_or qs p []) m in get_or-set_other N v u 1 0 s.1 ∙ L.clear u g (rw f s.0))
            (λ r n f m. get_or-set_other N v u 1 0 (λ i. n (sym f ∙ ap (owner c) i ∙ o)) ∙ L.clear u g (rw f m)) (owner c u) refl;
      }

  -- behind the last
  pub join_next : (t : ℕ) → t ≡ get_or T p 0 → (get_or H p 0 ≡ 1 → ⊥) → Lined c joined (set (set N t (v + 2)) v 1) H (set T p v)
  join_next t te h = go (get_or qs p []) refl
    where
      go : (q : List ℕ) → get_or qs p [] ≡ q → Lined c joined (set (set N t (v + 2)) v 1) H (set T p v)
      go [] e = absurd (h (L.heads p pw ∙ ap link e))
      go (u ∷ q) e =
          let ends : Ends t (u ∷ q) = subst (λ (x : ℕ). Ends x (u ∷ q)) (sym te) (rw e at (L.tails p pw)) in
          let tm : member t (get_or qs p []) ≡ true = rw e (ends_member t u q ends) in
          let tb = L.mine p t tm in
          let k : v < length N = omega arith in
          let kt : t < length N = omega (arith, tb.0) in
          record {
            sized = length-set qs p (get_or qs p [] ++ (v ∷ [])) ∙ L.sized;
            chains = at_set (λ (r : ℕ) (q : List ℕ). Linked (set (set N t (v + 2)) v 1) q) qs p (get_or qs p [] ++ (v ∷ [])) [] pq
                (rw e (chain_snoc N t v u q (rw e at (L.chains p)) ends (rw e at fresh) kt k))
                (λ r n. chain_kept (set N t (v + 2)) v 1 (get_or qs r [])
                (chain_kept N t (v + 2) (get_or qs r []) (L.chains r) (elsewhere c qs N H T t p r L tb.1 n)) (elsewhere c qs N H T v p r L o n));
            heads = at_set (λ (r : ℕ) (q : List ℕ). r < c.workers → get_or H r 0 ≡ link q) qs p (get_or qs p [] ++ (v ∷ [])) [] pq
                (λ g. rw e (rw e at (L.heads p g))) (λ r n g. L.heads r g);
            tails = tails_joined;
            mine = mine_joined;
            clear = λ w g. at_set (λ (r : ℕ) (q : List ℕ). owner c w ≡ r → member w q ≡ false → get_or (set (set N t (v + 2)) v 1) w 0 ≡ 0) qs p (get_or qs p [] ++ (v ∷ [])) [] pq
                (λ f m. let s = member_kept w v (get_or qs p []) m in
                get_or-set_other (set N t (v + 2)) v w 1 0 s.1
                ∙ get_or-set_other N t w (v + 2) 0 (λ i. ne_of_tests (λ (z : ℕ). member z (get_or qs p [])) t w tm s.0 (sym i)) ∙ L.clear w g (rw f s.0))
                (λ r n f m. get_or-set_other (set N t (v + 2)) v w 1 0 (λ i. n (sym f ∙ ap (owner c) i ∙ o))
                ∙ get_or-set_other N t w (v + 2) 0 (λ i. n (sym f ∙ ap (owner c) i ∙ tb.1)) ∙ L.clear w g (rw f m)) (owner c w) refl;
          }

-- the head leaves
pub leave : (c : Case) (qs : List (List ℕ)) (N H T : List ℕ) (v p : ℕ) (q : List ℕ) → Lined c qs N H T → get_or qs p [] ≡ v ∷ q → p < c.workers
    → length N ≡ c.graph.vertices → length H ≡ c.workers → Lined c (set qs p q) (set N v 0) (set H p (link q)) T
leave c qs N H T v p q L e pw ln lh =
    let pq : p < length qs = omega (arith, L.sized) in
    let ch : Linked N (v ∷ q) = rw e at (L.chains p) in
    let vm : member v (get_or qs p []) ≡ true = rw e (member_first v q) in
    let vb = L.mine p v vm in
    let j : p < length H = omega arith in
    let k : v < length N = omega (arith, vb.0) in
    record {
      sized = length-set qs p q ∙ L.sized;
      chains = at_set (λ (r : ℕ) (q : List ℕ). Linked (set N v 0) q) qs p q [] pq (chain_kept N v 0 q ch.2 ch.1)
          (λ r n. chain_kept N v 0 (get_or qs r []) (L.chains r) (elsewhere c qs N H T v p r L vb.1 n));
      heads = at_set (λ (r : ℕ) (s : List ℕ). r < c.workers → get_or (set H p (link q)) r 0 ≡ link s) qs p q [] pq
          (λ g. get_or-set_same H p (link q) 0 j) (λ r n g. get_or-set_other H p r (link q) 0 n ∙ L.heads r g);
      tails = at_set (λ (r : ℕ) (s : List ℕ). r < c.workers → Ends (get_or T r 0) s) qs p q [] pq (λ g. ends_rest (get_or T p 0) v q (rw e at (L.tails p g))) (λ r n g. L.tails r g);
      mine = λ r u. at_set (λ (r : ℕ) (s : List ℕ). member u s ≡ true → (u < c.graph.vertices) × (owner c u ≡ r)) qs p q [] pq
          (λ m. L.mine p u (rw e (member_later u v q m))) (λ r n m. L.mine r u m) r;
      clear = λ u g. at_set (λ (r : ℕ) (s : List ℕ). owner c u ≡ r → member u s ≡ false → get_or (set N v 0) u 0 ≡ 0) qs p q [] pq
          (λ f m. here u g f m k (same_or u v)) (λ r n f m. get_or-set_other N v u 0 0 (λ i. n (sym f ∙ ap (owner c) i ∙ vb.1)) ∙ L.clear u g (rw f m)) (owner c u) refl;
    }
  where
    here : (u : ℕ) → u < c.graph.vertices → owner c u ≡ p → member u q ≡ false → v < length N → (u ≡ v) ⊎ (u ≡ v → ⊥) → get_or (set N v 0) u 0 ≡ 0
    here u g f m k (inl i) = rw i (get_or-set_same N v 0 0 k)
    here u g f m k (inr n) = get_or-set_other N v u 0 0 n ∙ L.clear u g (rw (f, e) (not_member u v q n m))

-- links are at most n + 1
pub link_low : (n : ℕ) (q : List ℕ) → ((u : ℕ) → member u q ≡ true → u < n) → link q < n + 2
link_low n [] f = omega arith
link_low n (u ∷ q) f = omega (arith, f u (member_first u q))

chain_low : (n : ℕ) (N : List ℕ) (v : ℕ) (q : List ℕ) → Linked N q → ((u : ℕ) → member u q ≡ true → u < n) → member v q ≡ true → get_or N v 0 < n + 2
unfolding member
chain_low n N v [] h f m = let z : ◌≡◌ {A = ℕ} 0 1 = cc in omega arith
chain_low n N v (x ∷ q) h f m =
    ⊎_elim (λ t. rw (eqb-true v x t, h.0) (link_low n q (λ u g. f u (member_later u x q g)))) (λ t. chain_low n N v q h.2 (λ u g. f u (member_later u x q g)) t)
    (or_cases (eqb v x) (member v q) m)

pub links_low : (c : Case) (qs : List (List ℕ)) (N H T : List ℕ) (v : ℕ) → Lined c qs N H T → v < c.graph.vertices → get_or N v 0 < c.graph.vertices + 2
links_low c qs N H T v L h = go (true_or (member v (get_or qs (owner c v) [])))
  where
    go : (member v (get_or qs (owner c v) []) ≡ true) ⊎ (member v (get_or qs (owner c v) []) ≡ false) → get_or N v 0 < c.graph.vertices + 2
    go (inl m) = chain_low c.graph.vertices N v (get_or qs (owner c v) []) (L.chains (owner c v)) (λ u g. (L.mine (owner c v) u g).0) m
    go (inr m) = rw (L.clear v h m) (omega arith)

pub last_below : (c : Case) (qs : List (List ℕ)) (N H T : List ℕ) (p : ℕ) → Lined c qs N H T → p < c.workers → (get_or H p 0 ≡ 1 → ⊥) → get_or T p 0 < c.graph.vertices
last_below c qs N H T p L g n = go (get_or qs p []) refl
  where
    go : (q : List ℕ) → get_or qs p [] ≡ q → get_or T p 0 < c.graph.vertices
    go [] e = absurd (n (L.heads p g ∙ ap link e))
    go (u ∷ q) e = (L.mine p (get_or T p 0) (rw e (ends_member (get_or T p 0) u q (rw e at (L.tails p g))))).0
