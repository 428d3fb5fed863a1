-- Parent edges back: from a vertex whose parents never end, and around until the start comes again. Assumes nothing.
use mathlib.Core.Path.{◌≡◌, refl, sym, ap, subst, ◌∙◌}
use mathlib.Core.Bool.{Bool, true, false, cond}
use mathlib.Core.List.{List, [], ◌∷◌}
use mathlib.Core.Logic.{◌⊎◌, inl, inr}
use mathlib.Core.Option.{Option, none, some}
use Prim.Native.Nat.{ℕ, suc, ◌+◌, ◌-◌, ◌≤◌, ◌<◌}
use native.Mathlib.Omega.{arith}
use Rattle.std.proofs.Math.Nat.{sub-zero}
use borrow.Author.Tests.{eqb-true, eqb-false}
use lib.Dec.{eqb}
use lib.ListN.{length, get_or, set, get_or-eq_default}
use lib.IntN.{ℤ, pos}
use Rattle.model.specs.Graph.{Graph, edge}
use Rattle.model.specs.Case.{Case, most_run_edges}
use Rattle.model.specs.Answer.{one_back, back, with_parent, cycle_start, cycle_from, cycle}
use Rattle.model.proofs.Tools.{some_not_none}
use Rattle.model.specs.Run.{State}
use Rattle.model.proofs.Trace.{Trace}
use Rattle.model.proofs.Walked.{Walked}
use Rattle.model.proofs.Loops.{Alive, alive_parent, back_alive, broken_alive, start_depth}
use Rattle.search.specs.Cells.{Below, parent_at, cycle_at, cells_end}
use Rattle.search.specs.Show.{Lies, Chained, Written, Circling, Broke}
use Rattle.search.proofs.Regions.{below_or}
use Rattle.search.proofs.Frames.{kept_set, lies_kept, written_none, written_cons}

-- what the model knows of a broken floor: the parents never end
pub alive_chained : (g : Graph) (ps : List (Option ℕ)) (v : ℕ) → Alive g ps v → Chained g ps v
alive_chained g ps v a k = alive_parent g ps (back k g ps v) (back_alive k g ps v a)

pub chained_here : (g : Graph) (ps : List (Option ℕ)) (v : ℕ) → Chained g ps v → (e : ℕ) × (get_or ps v none ≡ some e)
unfolding back
chained_here g ps v f = f 0

pub chained_up : (g : Graph) (ps : List (Option ℕ)) (v : ℕ) → Chained g ps v → Chained g ps (one_back g (get_or ps v none) v)
unfolding back
chained_up g ps v f k = f (suc k)

pub one_back_some : (g : Graph) (ps : List (Option ℕ)) (v e : ℕ) → get_or ps v none ≡ some e → one_back g (get_or ps v none) v ≡ (edge g e).from
unfolding one_back
one_back_some g ps v e h = rw h

module _ (c : Case) (ps : List (Option ℕ)) (v : ℕ) (w : List ℤ) (l : Lies c ps w) (f : Chained c.graph ps v) where
  pub chained_below : v < c.graph.vertices
  chained_below = go (below_or v (length ps))
    where
      go : (v < length ps) ⊎ (length ps ≤ v) → v < c.graph.vertices
      go (inl h) = omega (arith, l.sized)
      go (inr h) = let p = chained_here c.graph ps v f in some_not_none (get_or ps v none) p.0 p.1 (get_or-eq_default ps none h)

  parent_cell : (e : ℕ) → get_or ps v none ≡ some e → get_or w (parent_at + v) (pos 0) ≡ pos (suc e)
  parent_cell e h = l.parents.each v (omega (arith, l.sized, chained_below)) ∙ rw h refl

  pub parent_there : Below (most_run_edges + 1) (get_or w (parent_at + v) (pos 0))
  parent_there =
      let p = chained_here c.graph ps v f in
      record { number = suc p.0; is = parent_cell p.0 p.1; less = omega (arith, l.real v p.0 p.1, l.laid.within.edges) }

  -- the cell's number and what it says
  pub parent_is : (r : ℕ) → get_or w (parent_at + v) (pos 0) ≡ pos r → (1 ≤ r) × (get_or ps v none ≡ some (r - 1))
  parent_is r q =
      let p = chained_here c.graph ps v f in
      let z : pos r ≡ pos (suc p.0) = sym q ∙ parent_cell p.0 p.1 in
      let y : r ≡ suc p.0 = cc in
      let x : p.0 ≡ r - 1 = omega arith in
      (omega arith, p.1 ∙ ap some x)

pub back_step : (k : ℕ) (g : Graph) (ps : List (Option ℕ)) (v : ℕ) → 0 < k → back k g ps v ≡ back (k - 1) g ps (one_back g (get_or ps v none) v)
back_step k g ps v h = let e : k ≡ suc (k - 1) = omega arith in ap (λ (j : ℕ). back j g ps v) e ∙ (unfold back in refl)

pub back_none : (g : Graph) (ps : List (Option ℕ)) (v : ℕ) → back 0 g ps v ≡ v
unfolding back
back_none g ps v = refl

-- AROUND
pub circling_start : (c : Case) (ps : List (Option ℕ)) (s n : ℕ) (w : List ℤ) → Lies c ps w → Chained c.graph ps s → Circling c ps s n s (n - 0) cells_end w
circling_start c ps s n w l f = record {
  so_far = [];
  rest = rw sub-zero refl;
  chained = f;
  written = written_none c cells_end w;
  lies = l;
}

cycle_step : (k : ℕ) (g : Graph) (ps : List (Option ℕ)) (s v e : ℕ) (es : List ℕ) → 0 < k → get_or ps v none ≡ some e →
    cycle_from k g ps s v es ≡ cond (eqb (edge g e).from s) (e ∷ es) (cycle_from (k - 1) g ps s (edge g e).from (e ∷ es))
cycle_step k g ps s v e es h q = let i : k ≡ suc (k - 1) = omega arith in ap (λ (j : ℕ). cycle_from j g ps s v es) i ∙ (unfold cycle_from one_back with_parent in (rw q refl))

cycle_end : (g : Graph) (ps : List (Option ℕ)) (s v : ℕ) (es : List ℕ) → cycle_from 0 g ps s v es ≡ es
unfolding cycle_from
cycle_end g ps s v es = refl

-- one parent edge more; k is what the code goes on with: nothing where the start came again
pub circling_step : (c : Case) (ps : List (Option ℕ)) (s n v left at : ℕ) (w : List ℤ) (e u k : ℕ) → Circling c ps s n v left at w → 0 < left → cycle_at < at →
    get_or ps v none ≡ some e → u ≡ one_back c.graph (get_or ps v none) v → (u ≡ s → k ≡ 0) → ((u ≡ s → ⊥) → k ≡ left - 1) → Circling c ps s n u k (at - 1) (set w (at - 1) (pos e))
circling_step c ps s n v left at w e u k r h a p o y z =
    let l = r.lies in
    let i : suc (at - 1) ≡ at = omega arith in
    record {
      so_far = e ∷ r.so_far;
      rest = sym (go (eqb (edge c.graph e).from s) refl) ∙ sym (cycle_step left c.graph ps s v e r.so_far h p) ∙ r.rest;
      chained = rw o (chained_up c.graph ps v r.chained);
      written = written_cons c e (at - 1) cells_end r.so_far w (rw i r.written) (l.real v e p) (omega (arith, r.written.ends, l.laid.long));
      lies = lies_kept c ps cycle_at w (set w (at - 1) (pos e)) (omega arith) (kept_set cycle_at w (at - 1) (pos e) (omega arith)) l;
    }
  where
    q : u ≡ (edge c.graph e).from
    q = o ∙ one_back_some c.graph ps v e p

    go : (b : Bool) → eqb (edge c.graph e).from s ≡ b →
        cond b (e ∷ r.so_far) (cycle_from (left - 1) c.graph ps s (edge c.graph e).from (e ∷ r.so_far)) ≡ cycle_from k c.graph ps s u (e ∷ r.so_far)
    go true t = rw (y (q ∙ eqb-true (edge c.graph e).from s t)) (sym (cycle_end c.graph ps s u (e ∷ r.so_far)))
    go false t = rw (z (λ o. eqb-false (edge c.graph e).from s t (sym q ∙ o)), q)

pub circling_done : (c : Case) (ps : List (Option ℕ)) (s n v at b : ℕ) (w : List ℤ) → Circling c ps s n v 0 at w → s ≡ cycle_start c.graph ps b → n ≡ c.graph.vertices → Written c (cycle c.graph ps b) at cells_end w
unfolding cycle
circling_done c ps s n v at b w r p q =
    let e : r.so_far ≡ cycle_from n c.graph ps s s [] = sym (cycle_end c.graph ps s v r.so_far) ∙ r.rest in
    let f = ap (λ (k : ℕ). cycle_from k c.graph ps s s []) q ∙ ap (λ (u : ℕ). cycle_from c.graph.vertices c.graph ps u u []) p in
    subst (λ (es : List ℕ). Written c es at cells_end w) (e ∙ f) r.written

pub start_is : (g : Graph) (ps : List (Option ℕ)) (b n r : ℕ) → r ≡ back n g ps b → n ≡ g.vertices → r ≡ cycle_start g ps b
unfolding cycle_start
start_is g ps b n r p q = p ∙ ap (λ (k : ℕ). back k g ps b) q

-- every run that breaks the floor is such a one
pub run_broke : (c : Case) (x : State) → Trace c x → Walked c x → (b : ℕ) → x.broken ≡ some b → Broke c x.parents b
run_broke c x t w b h =
    let d = start_depth c x t.t t.T t.traced b h in
    let y = w.depths (cycle_start c.graph x.parents b) d.0 d.1 in
    record { chained = alive_chained c.graph x.parents b (broken_alive c x t.t t.T t.traced b h); walk = y.edges; reaches = y.reaches }

pub run_real : (c : Case) (x : State) → Trace c x → (v e : ℕ) → get_or x.parents v none ≡ some e → e < length c.graph.edges
run_real c x t v e h = (t.traced.parent v e h).below
