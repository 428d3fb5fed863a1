-- A fresh run: what the fills leave in the cells, and the source in its owner's queue. Assumes nothing.
use mathlib.Core.Path.{◌≡◌, refl, sym, ap, ◌∙◌}
use mathlib.Core.Bool.{false, true}
use mathlib.Core.List.{List, []}
use mathlib.Core.Option.{none, some}
use Prim.Native.Nat.{ℕ, ◌+◌, ◌<◌}
use native.Mathlib.Omega.{arith}
use lib.ListN.{get_or, set, replicate, length-replicate, get_or-replicate}
use lib.IntN.{ℤ, pos}
use Rattle.model.specs.Graph.{accepting_count}
use Rattle.model.specs.Case.{Case, owner, most_vertices, most_edges, most_workers}
use Rattle.model.specs.Run.{State, one_if, member, enqueue, fresh, with_queues}
use Rattle.model.proofs.Tools.{sum_of_none, one_none, getD_replicate_same}
use Rattle.search.specs.declared.run.Run.{Run}
use Rattle.search.specs.Cells.{Filled, far, by_more, distance_at, parent_at, link_at, message_at, head_at, tail_at}
use Rattle.search.specs.Rep.{Laid, Table, Lined, Rep}
use Rattle.search.specs.Asks.{blank, blank_run}
use Rattle.search.proofs.Stores.{laid_same, held_depth}

-- one item in each place of a table
table_blank : {A : Type 0} (code : A → ℤ) (d a : A) (base n : ℕ) (w : List ℤ) → ((i : ℕ) → i < n → get_or w (base + i) (pos 0) ≡ code a) → Table code d base n (replicate n a) w
table_blank code d a base n w f =
    record {
      sized = length-replicate n a;
      region = record { each = λ i h. let l : i < n = omega (arith, length-replicate n a) in f i l ∙ ap code (sym (get_or-replicate n i a d l)) };
    }

no_member : (v : ℕ) → member v [] ≡ false
unfolding member
no_member v = refl

lined_blank : (c : Case) → Lined c (replicate c.workers []) (replicate c.graph.vertices 0) (replicate c.workers 1) (replicate c.workers 0)
lined_blank c =
    record {
      sized = length-replicate c.workers [];
      chains = λ p. rw (getD_replicate_same {A = List ℕ} c.workers p []) tt;
      heads = λ p h. rw (getD_replicate_same {A = List ℕ} c.workers p [], get_or-replicate {A = ℕ} c.workers p 1 0 h);
      tails = λ p h. rw (getD_replicate_same {A = List ℕ} c.workers p []) tt;
      mine = λ p v m. absurd (never v (rw (getD_replicate_same {A = List ℕ} c.workers p []) at m));
      clear = λ v h m. get_or-replicate {A = ℕ} c.graph.vertices v 0 0 h;
    }
  where
    never : (v : ℕ) → member v [] ≡ true → ⊥
    never v m = let e = sym m ∙ no_member v in let y : ◌≡◌ {A = ℕ} 0 1 = cc in omega arith

module _ (c : Case) (w w1 w2 w3 w4 w5 w6 : List ℤ) (laid : Laid c w) (f1 : Filled distance_at most_vertices (pos 1) w w1) (f2 : Filled parent_at most_vertices (pos 0) w1 w2)
    (f3 : Filled link_at most_vertices (pos 0) w2 w3) (f4 : Filled message_at most_edges (pos 1) w3 w4) (f5 : Filled head_at most_workers (pos 1) w4 w5) (f6 : Filled tail_at most_workers (pos 0) w5 w6) where
  -- a cell before a table is as it was before the table was filled
  before_heads : (j : ℕ) → j < head_at → get_or w6 j (pos 0) ≡ get_or w4 j (pos 0)
  before_heads j h = f6.before j (omega arith) ∙ f5.before j h

  before_links : (j : ℕ) → j < link_at → get_or w6 j (pos 0) ≡ get_or w2 j (pos 0)
  before_links j h = before_heads j (omega arith) ∙ f4.before j (omega arith) ∙ f3.before j h

  kept : (j : ℕ) → j < distance_at → get_or w6 j (pos 0) ≡ get_or w j (pos 0)
  kept j h = before_links j (omega arith) ∙ f2.before j (omega arith) ∙ f1.before j h

  laid_still : Laid c w6
  laid_still = laid_same laid (omega (arith, f1.long, f2.long, f3.long, f4.long, f5.long, f6.long)) kept

  pub rep_blank : Rep c (blank c) (blank_run (accepting_count c.graph)) w6
  rep_blank =
      let l = laid.within in
      let n = c.graph.vertices in
      record {
        links = replicate n 0;
        heads = replicate c.workers 1;
        tails = replicate c.workers 0;
        held = record {
          laid = laid_still;
          depths = table_blank far none none distance_at n w6 (λ i h. before_links _ (omega arith) ∙ f2.before _ (omega arith) ∙ f1.inside _ (omega arith) (omega arith));
          parents = table_blank by_more none none parent_at n w6 (λ i h. before_links _ (omega arith) ∙ f2.inside _ (omega arith) (omega arith));
          links = table_blank pos 0 0 link_at n w6 (λ i h. before_heads _ (omega arith) ∙ f4.before _ (omega arith) ∙ f3.inside _ (omega arith) (omega arith));
          cells = table_blank far none none message_at c.file_edges w6 (λ i h. before_heads _ (omega arith) ∙ f4.inside _ (omega arith) (omega arith));
          heads = table_blank pos 0 1 head_at c.workers w6 (λ i h. f6.before _ (omega arith) ∙ f5.inside _ (omega arith) (omega arith));
          tails = table_blank pos 0 0 tail_at c.workers w6 (λ i h. f6.inside _ (omega arith) (omega arith));
        };
        lined = lined_blank c;
        counted = record {
          full = omega (arith, sum_of_none one_if none c.file_edges one_none);
          acts = refl;
          tallied = refl;
          broke = refl;
          marks = refl;
        };
      }

-- the source has distance 0
abbrev pub started : Case → (s : ℕ) → State
started c s =
    let x = blank c in
    record { depths = set x.depths s (some 0); parents = x.parents; queues = x.queues; cells = x.cells; broken = x.broken; ended_empty = x.ended_empty; count = x.count; tallies = x.tallies }

pub rep_started : (c : Case) (k : Run) (w : List ℤ) (s : ℕ) → Rep c (blank c) k w → s < c.graph.vertices → Rep c (started c s) k (set w (distance_at + s) (pos 0))
rep_started c k w s rep h =
    record { links = rep.links; heads = rep.heads; tails = rep.tails; held = held_depth rep.held s (some 0) h; lined = rep.lined; counted = rep.counted }

-- and stands in its owner's queue
pub fresh_is : (c : Case) (s : ℕ) → s ≡ c.graph.source → with_queues (enqueue (owner c s) s (replicate c.workers [])) (started c s) ≡ fresh c
unfolding fresh enqueue
fresh_is c s e = rw (e, getD_replicate_same {A = List ℕ} c.workers (owner c c.graph.source) [], no_member)
