-- `show_lasso` meets its contract.
use mathlib.Core.Path.{◌≡◌, sym, subst}
use mathlib.Core.List.{List}
use mathlib.Core.Option.{Option}
use Prim.Native.Nat.{ℕ}
use native.Mathlib.Omega.{arith}
use Rattle.model.specs.Graph.{Reaches}
use Rattle.model.specs.Case.{Case}
use Rattle.model.specs.Answer.{cycle_start, stem}
use Rattle.search.specs.Cells.{found_at, stem_at, cycle_at}
use Rattle.search.specs.Show.{Lies, Broke, Chained, Kept, Grown, Written, Backed, Searched, StemTaken, Cycled, Shows}
use Rattle.search.proofs.Frames.{kept_more, kept_less, laid_kept, lies_kept, written_kept}
use Rattle.search.proofs.Cycles.{chained_below, start_is}
use Rattle.search.proofs.show.show_lasso.Goals as goal

pub go_back-start-requires : goal.go_back-start-requires
go_back-start-requires c = let s = c.requires in record { case = s.case; parents = s.parents; lies = s.lies; chained = s.broke.chained }

pub find_stem-requires : goal.find_stem-requires
unfolding Backed
find_stem-requires c =
    let start : let s = c.args in
    (q : Case) (ps : List (Option ℕ)) → Lies q ps s.work.now → Broke q ps s.broken → s.n ≡ q.graph.vertices → (c.go_back-start.result ≡ cycle_start q.graph ps s.broken) × Chained q.graph ps c.go_back-start.result = λ q ps l k n. let b = c.go_back-start.ensures q ps l k.chained in
    (start_is q.graph ps _ _ _ b.0 n, b.1) in
    let s = c.requires in
    let t = start s.case s.parents s.lies s.broke s.vertices in
    record { start = record { case = s.case; laid = s.lies.laid; source_is = s.source_is; vertices = s.vertices }; goal_below = omega (arith, chained_below _ _ _ _ s.lies t.1, s.vertices) }

pub take_stem-stem-requires : goal.take_stem-stem-requires
unfolding Searched Backed
take_stem-stem-requires c =
    let start : let s = c.args in
    (q : Case) (ps : List (Option ℕ)) → Lies q ps s.work.now → Broke q ps s.broken → s.n ≡ q.graph.vertices → (c.go_back-start.result ≡ cycle_start q.graph ps s.broken) × Chained q.graph ps c.go_back-start.result = λ q ps l k n. let b = c.go_back-start.ensures q ps l k.chained in
    (start_is q.graph ps _ _ _ b.0 n, b.1) in
    let grown : let s = c.args in
    (q : Case) (ps : List (Option ℕ)) → Lies q ps s.work.now → Broke q ps s.broken → s.source ≡ q.graph.source → s.n ≡ q.graph.vertices → Grown q c.go_back-start.result c.find_stem.new.work = λ q ps l k s n. let t = start q ps l k n in
    c.find_stem.ensures.1 q l.laid s n (omega (arith, chained_below q ps _ _ l t.1)) k.walk (subst (λ (v : ℕ). Reaches q.graph v k.walk) (sym t.0) k.reaches) in
    let s = c.requires in
    record { case = s.case; laid = laid_kept s.case found_at _ _ (omega arith) c.find_stem.ensures.0 s.lies.laid; grown = grown s.case s.parents s.lies s.broke s.source_is s.vertices }

pub take_cycle-cycle-requires : goal.take_cycle-cycle-requires
unfolding Backed Searched StemTaken
take_cycle-cycle-requires c =
    let start : let s = c.args in
    (q : Case) (ps : List (Option ℕ)) → Lies q ps s.work.now → Broke q ps s.broken → s.n ≡ q.graph.vertices → (c.go_back-start.result ≡ cycle_start q.graph ps s.broken) × Chained q.graph ps c.go_back-start.result = λ q ps l k n. let b = c.go_back-start.ensures q ps l k.chained in
    (start_is q.graph ps _ _ _ b.0 n, b.1) in
    let kept : Kept found_at c.args.work.now c.take_stem-stem.new.work = kept_more _ _ _ _ c.find_stem.ensures.0 (kept_less stem_at found_at _ _ (omega arith) c.take_stem-stem.ensures.0) in
    let s = c.requires in
    let t = start s.case s.parents s.lies s.broke s.vertices in
    (omega (arith, s.vertices, s.lies.laid.within.vertices), record { case = s.case; parents = s.parents; lies = lies_kept _ _ found_at _ _ (omega arith) kept s.lies; chained = t.1 })

pub returns : goal.returns
unfolding Shows Searched StemTaken Cycled Backed
returns c =
    let start : let s = c.args in
    (q : Case) (ps : List (Option ℕ)) → Lies q ps s.work.now → Broke q ps s.broken → s.n ≡ q.graph.vertices → (c.go_back-start.result ≡ cycle_start q.graph ps s.broken) × Chained q.graph ps c.go_back-start.result = λ q ps l k n. let b = c.go_back-start.ensures q ps l k.chained in
    (start_is q.graph ps _ _ _ b.0 n, b.1) in
    let grown : let s = c.args in
    (q : Case) (ps : List (Option ℕ)) → Lies q ps s.work.now → Broke q ps s.broken → s.source ≡ q.graph.source → s.n ≡ q.graph.vertices → Grown q c.go_back-start.result c.find_stem.new.work = λ q ps l k s n. let t = start q ps l k n in
    c.find_stem.ensures.1 q l.laid s n (omega (arith, chained_below q ps _ _ l t.1)) k.walk (subst (λ (v : ℕ). Reaches q.graph v k.walk) (sym t.0) k.reaches) in
    let kept : Kept found_at c.args.work.now c.take_stem-stem.new.work = kept_more _ _ _ _ c.find_stem.ensures.0 (kept_less stem_at found_at _ _ (omega arith) c.take_stem-stem.ensures.0) in (
      kept_more _ _ _ _ kept (kept_less cycle_at found_at _ _ (omega arith) c.take_cycle-cycle.ensures.0),
      λ q ps l k s n.
          let t = start q ps l k n in
          let d = laid_kept q found_at _ _ (omega arith) c.find_stem.ensures.0 l.laid in
          let w = c.take_stem-stem.ensures.1 q d (grown q ps l k s n) in
          record {
            stem = written_kept q _ _ cycle_at cycle_at _ _ c.take_cycle-cycle.ensures.0 (omega arith) (subst (λ (v : ℕ). Written q (stem q.graph v) c.take_stem-stem.result cycle_at c.take_stem-stem.new.work) t.0 w);
            cycle = c.take_cycle-cycle.ensures.1 q ps (lies_kept q ps found_at _ _ (omega arith) kept l) t.1 _ t.0 n;
          },
    )
