-- Rest loops in tables: which vertices an edge leaves, and the loops of the others behind the edges. Assumes nothing.
use mathlib.Core.Path.{◌≡◌, refl, sym, ap, subst, ◌∙◌}
use mathlib.Core.Bool.{Bool, true, false}
use mathlib.Core.List.{List, [], ◌∷◌, ◌++◌, append-nil}
use Prim.Native.Nat.{ℕ, zero, suc, ◌+◌, ◌-◌, ◌≤◌, ◌<◌}
use native.Mathlib.Omega.{arith}
use lib.ListN.{length, get_or, set, replicate, length-append, get_or-append}
use lib.Seq.{append_snoc, get_or_at, get_or-set_same, get_or-set_other}
use borrow.Author.Tests.{eq-eqb, ne_eqb}
use Rattle.text.proofs.Tests.{Same, same?, same, other}
use Rattle.model.specs.Graph.{Edge, Graph, edge, leaves, loop, loops_from, rested}
use Rattle.model.specs.Case.{answer_version}
use Rattle.model.proofs.Rests.{leaves_at, leaves_none, rests_skip, rests_take, rested_edge}
use Rattle.casefile.specs.declared.Case.{Case}
use Rattle.checker.specs.declared.tables.Graph as code
use Rattle.checker.specs.Checking.{Ends, Starts, Stands, meant_by, Tables}

-- a new table
pub unmarked : (n v : ℕ) → get_or (replicate n false) v false ≡ false
unmarked zero v = refl
unmarked (suc n) zero = refl
unmarked (suc n) (suc v) = unmarked n v

-- of edges in tables: whether one leaves a vertex
module _ {es : List Edge} {m : ℕ} {froms tos : List ℕ} {starts : List Bool} (e : Ends es m froms tos) (l : Starts m froms starts) where
  pub rests : (v : ℕ) → v < length starts → get_or starts v false ≡ false → leaves es v ≡ false
  rests v b z = leaves_none es v (λ i h q. l.none v b z i (omega (arith, e.many)) (e.from_at i (omega (arith, e.many)) ∙ q))

  pub is_start : (v : ℕ) → get_or starts v false ≡ true → leaves es v ≡ true
  is_start v n = let (i, h, q) = l.some v n in leaves_at es i v (omega (arith, e.many)) (sym (e.from_at i h) ∙ q)

-- LOOPS: the edges so far, behind which those of v and the vertices after it come, and their ends
pub record Adding (n : ℕ) (es : List Edge) (v k : ℕ) (froms tos : List ℕ) : Type 0 where
  pub so_far : List Edge
  pub whole : es ++ loops_from n 0 es ≡ so_far ++ loops_from (n - v) v es
  pub ends : Ends so_far k froms tos

pub adding_start : {n m : ℕ} {es : List Edge} {froms tos : List ℕ} → Ends es m froms tos → Adding n es 0 m froms tos
adding_start {n} {m} {es} e = let z : n - 0 ≡ n = omega arith in record { so_far = es; whole = rw z refl; ends = e }

module _ {n : ℕ} {es : List Edge} {v k : ℕ} {froms tos : List ℕ} (a : Adding n es v k froms tos) (h : v < n) where
  to_come : n - v ≡ suc (n - (v + 1))
  to_come = omega arith

  next : v + 1 ≡ suc v
  next = omega arith

  pub adding_skip : leaves es v ≡ true → Adding n es (v + 1) k froms tos
  adding_skip q = record { so_far = a.so_far; whole = a.whole ∙ (rw (to_come, next, rests_skip (n - suc v) v es q) refl); ends = a.ends }

  pub adding_loop : leaves es v ≡ false → k < length froms → k < length tos → {froms' tos' : List ℕ} → froms' ≡ set froms k v → tos' ≡ set tos k v → Adding n es (v + 1) (k + 1) froms' tos'
  adding_loop q f t w x = rw (w, x) (record {
    so_far = a.so_far ++ (loop v ∷ []);
    whole = a.whole ∙ (rw (to_come, next, rests_take (n - suc v) v es q) (sym (append_snoc a.so_far (loop v) (loops_from (n - suc v) (suc v) es))));
    ends = record {
      many = length-append a.so_far (loop v ∷ []) ∙ ap (λ (i : ℕ). i + 1) a.ends.many;
      from_at = λ e l. from_at e l (same? e k);
      to_at = λ e l. to_at e l (same? e k);
    };
  })
    where
      here : get_or (a.so_far ++ (loop v ∷ [])) k (record { from = 0; to = 0 }) ≡ loop v
      here = get_or_at a.so_far (loop v) [] (record { from = 0; to = 0 }) k a.ends.many

      before : (e : ℕ) → e < k → get_or (a.so_far ++ (loop v ∷ [])) e (record { from = 0; to = 0 }) ≡ get_or a.so_far e (record { from = 0; to = 0 })
      before e l = get_or-append a.so_far (loop v ∷ []) (record { from = 0; to = 0 }) e (omega (arith, a.ends.many))

      from_at : (e : ℕ) → e < k + 1 → Same e k → get_or (set froms k v) e 0 ≡ (get_or (a.so_far ++ (loop v ∷ [])) e (record { from = 0; to = 0 })).from
      from_at e l (same s) = rw (s, here) (get_or-set_same froms k v 0 f)
      from_at e l (other m) = let b : e < k = omega (arith, m) in rw (before e b) (get_or-set_other froms k e v 0 m ∙ a.ends.from_at e b)

      to_at : (e : ℕ) → e < k + 1 → Same e k → get_or (set tos k v) e 0 ≡ (get_or (a.so_far ++ (loop v ∷ [])) e (record { from = 0; to = 0 })).to
      to_at e l (same s) = rw (s, here) (get_or-set_same tos k v 0 t)
      to_at e l (other m) = let b : e < k = omega (arith, m) in rw (before e b) (get_or-set_other tos k e v 0 m ∙ a.ends.to_at e b)

pub adding_done : (g : Graph) {n v k : ℕ} {froms tos : List ℕ} → g.vertices ≡ n → Adding n g.edges v k froms tos → n ≤ v → Ends (rested g).edges k froms tos
unfolding rested loops_from
adding_done g {n} {v} {k} {froms} {tos} q a h =
    let z : n - v ≡ 0 = omega arith in
    let w : g.edges ++ loops_from g.vertices 0 g.edges ≡ a.so_far = rw q (a.whole ∙ (rw z (append-nil a.so_far))) in
    subst (λ (es : List Edge). Ends es k froms tos) (sym w) a.ends

-- A GRAPH IN TABLES, with its loops; and as a version means it
pub stands_rested : {g : Graph} {c : Case} {marks froms froms' tos tos' : List ℕ} {k : ℕ} → Stands g c marks froms tos → Ends (rested g).edges k froms' tos'
    → Stands (rested g) (record { vertices = c.vertices; edges = k; source = c.source; workers = c.workers }) marks froms' tos'
unfolding rested
stands_rested {g} s e = record {
  vertices = s.vertices;
  source = s.source;
  ends = e;
  below = λ i h. rested_edge g (λ d. d.from < g.vertices) i h (s.below i) (λ r. r.below);
  mark_at = s.mark_at;
  small = s.small;
}

pub meant_rested : {v : ℕ} (g : Graph) → v ≡ answer_version → meant_by v g ≡ rested g
unfolding meant_by
meant_rested {v} g e = rw (eq-eqb v answer_version e) refl

pub meant_file : {v : ℕ} (g : Graph) → (v ≡ answer_version → ⊥) → meant_by v g ≡ g
unfolding meant_by
meant_file {v} g n = rw (ne_eqb v answer_version n) refl

-- what the passing rules ask
pub stands_tables : {g : Graph} {t : code.Graph} → Stands g t.case t.marks.now t.froms.now t.tos.now → Tables g t
unfolding edge
stands_tables s = record {
  vertices = s.vertices;
  source = s.source;
  many = s.ends.many;
  from_at = s.ends.from_at;
  to_at = s.ends.to_at;
  mark_at = λ e h. s.mark_at _ (s.below e (omega (arith, s.ends.many)));
  small = λ e h. s.small _ (s.below e (omega (arith, s.ends.many)));
}
