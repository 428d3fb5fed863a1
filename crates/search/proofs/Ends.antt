-- Ends: from a run that stands in the cells to its answer and its outcome. Assumes nothing.
use mathlib.Core.Path.{◌≡◌, refl, sym, ap, ◌∙◌}
use mathlib.Core.Bool.{Bool, true, false, cond}
use mathlib.Core.List.{List}
use mathlib.Core.Option.{Option, none, some}
use Prim.Native.Nat.{ℕ, ◌+◌, ◌-◌, ◌≤◌, ◌<◌, ◌^◌}
use native.Mathlib.Nat.{zero-add}
use native.Mathlib.Omega.{arith}
use lib.ListN.{length, get_or, replicate}
use lib.IntN.{ℤ, pos}
use Rattle.std.specs.Prelude as code
use Rattle.std.specs.Prelude.{unwrap_or}
use Rattle.text.specs.declared.write.Writer.{Writer}
use Rattle.text.specs.Writing.{put, Puts}
use Rattle.text.proofs.Writing.{put_front}
use Rattle.text.proofs.Chains.{puts_as}
use Rattle.model.specs.Case.{Case, least_output}
use Rattle.model.specs.Run.{State, is_some, ended_lasso, has_ended}
use Rattle.model.specs.Answer.{lasso_verdict, empty_verdict, stem, cycle, cycle_start, lasso_text, empty_text, answer_of, answer}
use Rattle.model.specs.Entry.{verdict, in_front, zeros, RunSays}
use Rattle.model.specs.Refusals.{verdict_number}
use Rattle.model.proofs.Fits.{cycle_few, answer_fits}
use Rattle.search.specs.Cells.{found_at, cycle_at, cells_end}
use Rattle.search.specs.Rep.{held_as}
use Rattle.search.specs.Asks.{OverSays}
use Rattle.search.specs.Show.{Kept, Lies, Broke, Showable, Shows, LassoThere, Written}
use Rattle.search.specs.Writing.{EdgesAt, DistancesAt, LassoAsks, LassoSays, EmptySays}
use Rattle.search.specs.Finish.{Gone, AnswerAsks, BrokenAsks, LassoDone, AnswerDone, FinishSays, verdict_of, Answers}
use Rattle.search.specs.declared.run.Run.{Run}
use Rattle.model.proofs.Findings.{Known, moment_known, stem_few}
use Rattle.search.proofs.Acts.{count_small}
use Rattle.search.proofs.Steps.{broken_at, not_broken}
use Rattle.search.proofs.Cycles.{run_broke, run_real}

module _ {c : Case} {x : State} {k : Run} {n s : ℕ} {w : List ℤ} (g : Gone c x k n s w) where
  known : Known c x
  known = moment_known c g.rep.held.laid.sound x g.moment

  pub lies : Lies c x.parents w
  lies = record { laid = g.rep.held.laid; parents = g.rep.held.parents.region; sized = g.rep.held.parents.sized; real = run_real c x known.trace }

  pub broke : (b : ℕ) → x.broken ≡ some b → Broke c x.parents b
  broke b h = run_broke c x known.trace known.tale.walked b h

  pub showable : (b : ℕ) → x.broken ≡ some b → Showable b s n w
  showable b h = record { case = c; parents = x.parents; lies = lies; broke = broke b h; source_is = g.start; vertices = g.vertices }

  pub fits_least : length (answer c.graph x) ≤ least_output
  unfolding answer
  fits_least = let l = g.rep.held.laid in answer_fits c l.sound l.within x (known) x.broken refl

  answer_is : (q : Option ℕ) → x.broken ≡ q → answer_of c.graph q x.parents x.depths ≡ answer c.graph x
  unfolding answer
  answer_is q h = ap (λ (p : Option ℕ). answer_of c.graph p x.parents x.depths) (sym h)

  module _ (b : ℕ) (h : x.broken ≡ some b) {at to : ℕ} {v : List ℤ} (long : cells_end ≤ length v) (t : LassoThere c x.parents b at to v) where
    written_at : {es : List ℕ} {p e : ℕ} → Written c es p e v → e ≤ cells_end → EdgesAt p (e - p) v
    written_at {es} {p} {e} y l =
        let z = y.ends in
        record { inside = omega arith; each = λ i q. record { number = get_or es i 0; is = y.region.each i (omega arith); less = omega (arith, y.small i (omega arith), g.rep.held.laid.within.edges) } }

    pub lasso_asks : LassoAsks at (cycle_at - at) to (cells_end - to) v
    lasso_asks =
        let z = t.stem.ends in
        let y = t.cycle.ends in
        let ok = g.rep.held.laid in
        record {
          stem_edges = written_at t.stem (omega arith);
          cycle_edges = written_at t.cycle (omega arith);
          stem_short = omega (arith, stem_few c ok.sound x (known) b h, ok.within.vertices);
          cycle_short = omega (arith, cycle_few c.graph x.parents b, ok.within.vertices);
        }

    pub lasso_answers : {o z : Writer} → LassoSays at (cycle_at - at) to (cells_end - to) v o z → Puts (answer c.graph x) o z
    lasso_answers y =
        let p = t.stem.ends in
        let q = t.cycle.ends in
        puts_as (whole ∙ answer_is (some b) h)
        (y.answer (stem c.graph (cycle_start c.graph x.parents b)) (cycle c.graph x.parents b) t.stem.region (omega arith) t.cycle.region (omega arith))
      where
        whole : lasso_text (stem c.graph (cycle_start c.graph x.parents b)) (cycle c.graph x.parents b) ≡ answer_of c.graph (some b) x.parents x.depths
        whole = unfold answer_of in refl

  pub empty_answers : {o z : Writer} → x.broken ≡ none → EmptySays n w o z → Puts (answer c.graph x) o z
  empty_answers h y =
      puts_as (whole ∙ answer_is none h) (y.answer x.depths g.rep.held.depths.region (g.rep.held.depths.sized ∙ sym g.vertices))
    where
      whole : empty_text x.depths ≡ answer_of c.graph none x.parents x.depths
      whole = unfold answer_of in refl

  -- THE OUTCOME
  verdict_is : verdict_number (verdict_of k.broken) ≡ verdict x
  unfolding verdict ended_lasso is_some
  verdict_is = rw g.rep.counted.broke (go x.broken)
    where
      go : (q : Option ℕ) → verdict_number (verdict_of (held_as q)) ≡ cond (is_some q) lasso_verdict empty_verdict
      go none = refl
      go (some b) = refl

  zeros_kept : (u v : List ℤ) → v ≡ zeros u → length u ≡ length w → v ≡ zeros w
  unfolding zeros
  zeros_kept u v e l = e ∙ ap (λ (j : ℕ). replicate j (pos 0)) l

  pub cut_short : {v : List ℤ} (o : List ℕ) → has_ended x ≡ false → v ≡ zeros w →
      RunSays 0 (has_ended x) c x (record { refusal = 10; verdict = 0; acts = k.turns + k.delivered; written = 0; sent = k.sent; delivered = k.delivered; joined = k.joined }) o o w v
  unfolding RunSays
  cut_short o e z = rw e (record { refusal = refl; verdict = refl; acts = g.rep.counted.acts; written = refl; tallies = g.rep.counted.tallied; output = refl; work = z })

  pub finished : {r : ℕ} (u : List ℤ) {v : List ℤ} {o z : List ℕ} → has_ended x ≡ true → Answers (answer c.graph x) r o z → v ≡ zeros u → length u ≡ length w →
      RunSays 0 (has_ended x) c x (record { refusal = 0; verdict = verdict_number (verdict_of k.broken); acts = k.turns + k.delivered; written = r; sent = k.sent; delivered = k.delivered; joined = k.joined }) o z w v
  unfolding RunSays
  finished u e a z l = rw e (record { refusal = refl; verdict = verdict_is; acts = g.rep.counted.acts; written = a.written; tallies = g.rep.counted.tallied; output = a.output; work = zeros_kept u _ z l })

-- THE FUNCTIONS of src/finish.rt: the lasso is shown, then written
long_after : {c : Case} {x : State} {k : Run} {n s : ℕ} {w v : List ℤ} → Gone c x k n s w → Kept found_at w v → cells_end ≤ length v
long_after g y = omega (arith, y.long, g.rep.held.laid.long)

module _ {c : Case} {x : State} {k : Run} {b n s : ℕ} {w : List ℤ} (g : Gone c x k n s w) (h : x.broken ≡ some b) {at to : ℕ} {v : List ℤ} (y : Shows b s n at to w v) where
  pub there : LassoThere c x.parents b at to v
  unfolding Shows
  there = y.1 c x.parents (lies g) (broke g b h) g.start g.vertices

  pub asked_written : LassoAsks at (cycle_at - at) to (cells_end - to) v
  unfolding Shows
  asked_written = lasso_asks g b h (long_after g y.0) there

  shown_answers : {o z : Writer} → LassoSays at (cycle_at - at) to (cells_end - to) v o z → Puts (answer c.graph x) o z
  unfolding Shows
  shown_answers l = lasso_answers g b h (long_after g y.0) there l

pub lasso_shown : {b n s at to : ℕ} {w v : List ℤ} {o z : Writer} → Shows b s n at to w v → LassoSays at (cycle_at - at) to (cells_end - to) v o z → LassoDone b n s w o z
lasso_shown y l = record { answers = λ c x k g h. shown_answers g h y l }

-- then either answer
module _ {k : Run} {n s : ℕ} {w : List ℤ} where
  pub broken_asks : {b : ℕ} → AnswerAsks k n s w → k.broken ≡ code.Some b → BrokenAsks b n s w
  broken_asks {b} a e = record { case = a.case; state = a.state; run = k; gone = a.gone; broke = broken_at a.state.broken b (sym e ∙ a.gone.rep.counted.broke) }

  pub answered_lasso : {b : ℕ} {o z : Writer} → k.broken ≡ code.Some b → LassoDone b n s w o z → AnswerDone k n s w o z
  answered_lasso {b} e l = record { answers = λ c x g _. l.answers c x k g (broken_at x.broken b (sym e ∙ g.rep.counted.broke)) }

  pub answered_empty : {o z : Writer} → k.broken ≡ code.None → EmptySays n w o z → AnswerDone k n s w o z
  answered_empty e y = record { answers = λ c x g _. empty_answers g (not_broken x.broken (ap code.is_some (sym g.rep.counted.broke ∙ e))) y }

pub distances_at : {c : Case} {x : State} {k : Run} {n s : ℕ} {w : List ℤ} → Gone c x k n s w → DistancesAt n w
distances_at g = let l = g.rep.held.laid in record { few = omega (arith, g.vertices, l.within.vertices); inside = omega (arith, l.long, g.vertices, l.within.vertices) }

-- what a page holds from its front on
module _ {bs : List ℕ} {p q : Writer} (y : Puts bs p q) (e : p.end ≡ code.Some 0) (h : length bs ≤ length p.output.now) where
  placed : (q.end ≡ code.Some (0 + length bs)) × (q.output.now ≡ put 0 bs p.output.now)
  placed = y.fits 0 e (omega arith)

  page_end : q.end ≡ code.Some (length bs)
  page_end = placed.0 ∙ ap code.Some (zero-add (length bs))

  page_output : q.output.now ≡ in_front bs p.output.now
  page_output = placed.1 ∙ (unfold in_front in (put_front bs p.output.now))

-- then the outcome
module _ {k : Run} {p n s : ℕ} {w : List ℤ} {over : Bool} (says : OverSays p k over w) where
  ended_is : {c : Case} {x : State} → Gone c x k n s w → p ≡ c.workers → (b : Bool) → over ≡ b → has_ended x ≡ b
  unfolding OverSays
  ended_is {c} {x} g q b e = sym (says c x g.rep g.moment q) ∙ e

  pub finish_cut : {v : List ℤ} {o : List ℕ} {acts : ℕ} → over ≡ false → v ≡ zeros w → acts ≡ k.turns + k.delivered →
      FinishSays k p n s (record { refusal = 10; verdict = 0; acts = acts; written = 0; sent = k.sent; delivered = k.delivered; joined = k.joined }) w v o o
  finish_cut {o = o} e z a = record { says = λ c x g q. rw a (cut_short g o (ended_is g q false e) z) }

  module _ {o : List ℕ} {a b : Writer} (room : least_output ≤ length o) (lent : a.output.now ≡ o) (front : a.end ≡ code.Some 0) (t : over ≡ true) (y : AnswerDone k n s w a b) where
    whole : {c : Case} {x : State} → Gone c x k n s w → p ≡ c.workers → Answers (answer c.graph x) (unwrap_or b.end 0) o b.output.now
    whole {c} {x} g q =
        let l = y.answers c x g (ended_is g q true t) in
        let i : length (answer c.graph x) ≤ length a.output.now = omega (arith, fits_least g, ap length lent) in
        record { written = rw (page_end l front i) refl; output = page_output l front i ∙ ap (in_front (answer c.graph x)) lent }

    pub done_written : {c : Case} {x : State} → Gone c x k n s w → p ≡ c.workers → unwrap_or b.end 0 ≤ least_output
    done_written g q = omega (arith, (whole g q).written, fits_least g)

    pub finish_done : (u : List ℤ) {v : List ℤ} {z : List ℕ} {i acts : ℕ} → z ≡ b.output.now → v ≡ zeros u → length u ≡ length w → i ≡ verdict_number (verdict_of k.broken) → acts ≡ k.turns + k.delivered →
        FinishSays k p n s (record { refusal = 0; verdict = i; acts = acts; written = unwrap_or b.end 0; sent = k.sent; delivered = k.delivered; joined = k.joined }) w v o z
    finish_done u m z l i j = record { says = λ c x g q. rw (m, i, j) (finished g u (ended_is g q true t) (whole g q) z l) }

-- the acts counted fit 64 bits
pub acts_small : {c : Case} {x : State} {k : Run} {n s : ℕ} {w : List ℤ} → Gone c x k n s w → k.turns + k.delivered < 2 ^ 64
acts_small {c} {x} g = let l = g.rep.held.laid in omega (arith, g.rep.counted.acts, count_small c x l.sound l.within g.moment)
