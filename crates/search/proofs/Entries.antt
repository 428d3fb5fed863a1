-- Entries: from the judged case through loading, the run and its end to what `Entry` says. Assumes nothing.
use mathlib.Core.Path.{◌≡◌, refl, sym, ap, ◌∙◌}
use mathlib.Core.Bool.{Bool, true, false, ◌||◌}
use mathlib.Core.List.{List, [], ◌∷◌}
use Prim.Native.Nat.{ℕ, zero, suc, ◌+◌, ◌≤◌, ◌<◌}
use native.Mathlib.Omega.{arith}
use lib.Dec.{ltb, leb}
use lib.ListN.{length, get_or, take, replicate}
use lib.IntN.{ℤ, pos}
use borrow.Author.Tests.{eqb-true, leb-false}
use Rattle.std.specs.List.{list_any}
use Rattle.text.proofs.Tests.{or_false}
use Rattle.model.specs.Case as model
use Rattle.model.specs.Graph.{rested, accepting_count}
use Rattle.model.specs.Case.{resting, least_output, least_work, most_acts, Sound}
use Rattle.model.specs.CaseFile.{refuse, first_of, case_refusal, accepted, case_in, run_case}
use Rattle.model.specs.Run.{State, fresh, has_ended, by_list, by_rounds}
use Rattle.model.specs.Entry.{buffer_refusal, any_at_or_above, acts_refusal, list_refusal, rounds_refusal, zeros, RunSays, ListSays, RoundsSay}
use Rattle.model.specs.Promise.{whole_rounds}
use Rattle.model.specs.declared.Outcome.{Outcome}
use Rattle.model.proofs.ActRules.{moment_fresh}
use Rattle.model.proofs.Kept.{runs_kept, file_sound}
use Rattle.casefile.specs.Judging.{header, judged}
use Rattle.casefile.specs.declared.Case.{Case}
use Rattle.casefile.specs.declared.CaseTables.{CaseTables}
use Rattle.model.specs.Refusals.{number}
use Rattle.model.specs.declared.refusal.Refusal.{Refusal}
use Rattle.std.specs.Prelude.{Result, Ok, Err}
use Rattle.casefile.specs.Tables.{CaseRead, Holds}
use Rattle.casefile.proofs.Refusals.{first_decides}
use Rattle.casefile.proofs.Whole.{turned, taken}
use Rattle.casefile.proofs.Tables.{held}
use Rattle.search.specs.Rep.{Rep}
use Rattle.search.specs.Asks.{FreshAsks, FreshSays, ListAsks, ListDone, ByRoundsAsks, ByRoundsSays}
use Rattle.search.specs.Loading.{LoadAsks, LoadSays, Filed, LoopsAsk, LoopsSay}
use Rattle.search.specs.Finish.{Gone, FinishAsks, FinishSays}
use Rattle.search.specs.Entries.{refused_by, load_refusal, CaseLaid}
use Rattle.search.proofs.Loads.{sound_in, within_in, whole_in, from_rises, load_asks, load_filed, load_counts}
use Rattle.search.specs.declared.run.Run.{Run}

-- ACTS IN RANGE
pub any_listed : (l : ℕ) (xs : List ℕ) → any_at_or_above l xs ≡ list_any (leb l) xs
unfolding any_at_or_above
any_listed l [] = refl
any_listed l (x ∷ xs) = ap (λ (b : Bool). leb l x || b) (any_listed l xs)

all_below : (l : ℕ) (xs : List ℕ) → any_at_or_above l xs ≡ false → (i : ℕ) → i < length xs → get_or xs i 0 < l
unfolding any_at_or_above
all_below l [] e i h = absurd (omega arith)
all_below l (x ∷ xs) e zero h = leb-false l x (or_false (leb l x) (any_at_or_above l xs) e).0
all_below l (x ∷ xs) e (suc i) h = all_below l xs (or_false (leb l x) (any_at_or_above l xs) e).1 i (omega arith)

-- BUFFERS
pub buffers_enough : (o w : ℕ) → (ltb o least_output || ltb w least_work) ≡ false → (least_output ≤ o) × (least_work ≤ w)
buffers_enough o w e =
    let p = or_false (ltb o least_output) (ltb w least_work) e in
    (ltb_at_least o least_output p.0, ltb_at_least w least_work p.1)
  where
    ltb_at_least : (a b : ℕ) → ltb a b ≡ false → b ≤ a
    ltb_at_least a b h = borrow.Author.Tests.ltb-false a b h

buffers_short : (o w : ℕ) → (ltb o least_output || ltb w least_work) ≡ true → buffer_refusal o w ≡ 11
unfolding buffer_refusal refuse
buffers_short o w e = rw e refl

buffers_long : (o w : ℕ) → (ltb o least_output || ltb w least_work) ≡ false → buffer_refusal o w ≡ 0
unfolding buffer_refusal refuse
buffers_long o w e = rw e refl

-- A REFUSED CALL
first_skip : (ks : List ℕ) → first_of (0 ∷ ks) ≡ first_of ks
unfolding first_of
first_skip ks = refl

refused_so : (k j : ℕ) (b : Bool) (c : model.Case) (x : State) (o : List ℕ) (w : List ℤ) → k ≡ j → 0 < j → RunSays k b c x (refused_by j) o o w w
unfolding RunSays
refused_so zero j b c x o w e n = absurd (omega arith)
refused_so (suc k) j b c x o w e n = record { refusal = sym e; verdict = refl; acts = refl; written = refl; tallies = refl; output = refl; work = refl }

-- with room in the buffers loading decides
module _ (s xs : List ℕ) (o : ℕ) (w : List ℤ) where
  pub short : (ltb o least_output || ltb (length w) least_work) ≡ true → (list_refusal s xs o (length w) ≡ 11) × (0 < 11) × (w ≡ w)
  unfolding list_refusal
  short e = (rw (buffers_short o (length w) e) (first_decides 11 _ (λ z. omega arith)), omega arith, refl)

  pub turned_away : (ltb o least_output || ltb (length w) least_work) ≡ false → (k : ℕ) (v : List ℤ) → (load_refusal s xs ≡ k) × (0 < k) × (v ≡ w) → (list_refusal s xs o (length w) ≡ k) × (0 < k) × (v ≡ w)
  turned_away e k v t = (as_loaded ∙ t.0, t.1, t.2)
    where
      as_loaded : list_refusal s xs o (length w) ≡ load_refusal s xs
      as_loaded = unfold list_refusal load_refusal in (rw (buffers_long o (length w) e) (first_skip _))

-- by rounds no act can refuse
rounds_as_list : (s : List ℕ) (o w : ℕ) → rounds_refusal s o w ≡ list_refusal s [] o w
rounds_as_list s o w = unfold rounds_refusal list_refusal acts_refusal any_at_or_above refuse in go (buffer_refusal o w) (case_refusal s)
  where
    go : (j k : ℕ) → first_of (j ∷ k ∷ []) ≡ first_of (j ∷ k ∷ 0 ∷ [])
    go zero zero = unfold first_of in refl
    go zero (suc k) = unfold first_of in refl
    go (suc j) k = unfold first_of in refl

module _ (s : List ℕ) (o : List ℕ) (w v : List ℤ) (k : ℕ) where
  pub list_turned : (xs : List ℕ) → (list_refusal s xs (length o) (length w) ≡ k) × (0 < k) × (v ≡ w) → ListSays s xs (refused_by k) o o w v
  list_turned xs t = rw t.2 (unfold ListSays in (refused_so _ k _ _ _ o w t.0 t.1))

  pub rounds_turned : (list_refusal s [] (length o) (length w) ≡ k) × (0 < k) × (v ≡ w) → RoundsSay s (refused_by k) o o w v
  rounds_turned t = rw t.2 (unfold RoundsSay in (refused_so _ k _ _ _ o w (rounds_as_list s (length o) (length w) ∙ t.0) t.1))

-- LOADING: what the reader says
module _ (s : List ℕ) {r : Result Case Refusal} (p : r ≡ judged s) where
  pub text_refused : (xs : List ℕ) {e : Refusal} (w : List ℤ) → r ≡ Err e → (load_refusal s xs ≡ number e) × (0 < number e) × (w ≡ w)
  unfolding load_refusal
  text_refused xs w q = let t = turned s p q in (rw t.0 (first_decides (case_refusal s) _ t.1), omega (arith, t.0, t.1), refl)

  module _ {c : Case} (q : r ≡ Ok c) where
    is_taken : (accepted s ≡ true) × (c ≡ header s)
    is_taken = taken s p q

    vertices_of : c.vertices ≡ (case_in s).graph.vertices
    vertices_of = ap (λ (h : Case). h.vertices) is_taken.1 ∙ (unfold header in refl)

    edges_of : c.edges ≡ length (case_in s).graph.edges
    edges_of = ap (λ (h : Case). h.edges) is_taken.1 ∙ (unfold header in refl)

    workers_of : c.workers ≡ (case_in s).workers
    workers_of = ap (λ (h : Case). h.workers) is_taken.1 ∙ (unfold header in refl)

    pub counts_few : (c.workers ≤ model.most_workers) × (c.edges ≤ model.most_edges) × (c.vertices ≤ model.most_vertices)
    counts_few = let l = within_in s is_taken.0 in (omega (arith, workers_of, l.workers), omega (arith, edges_of, whole_in s, l.file), omega (arith, vertices_of, l.vertices))

    pub acts_refused : (xs : List ℕ) (w : List ℤ) → any_at_or_above (c.workers + c.edges) xs ≡ true → (load_refusal s xs ≡ 9) × (0 < 9) × (w ≡ w)
    acts_refused xs w e = (nine (rw (workers_of, edges_of) at e), omega arith, refl)
      where
        nine : any_at_or_above ((case_in s).workers + length (case_in s).graph.edges) xs ≡ true → load_refusal s xs ≡ 9
        nine f = let e = rw (← whole_in s) at f in unfold load_refusal acts_refusal in (rw (eqb-true (case_refusal s) 0 (unfold accepted in is_taken.0), e) (unfold refuse first_of in refl))

-- tables with room for every case
pub record Roomy (t : CaseTables) : Type 0 where
  pub marks : model.most_vertices ≤ length t.marks.now
  pub owners : model.most_vertices ≤ length t.owners.now
  pub froms : model.most_edges ≤ length t.froms.now
  pub tos : model.most_edges ≤ length t.tos.now

-- four arrays that have such room, and were lent as these tables
pub record Lent (t : CaseTables) (marks owners froms tos : List ℕ) : Type 0 where
  pub marks_are : t.marks.now ≡ marks
  pub owners_are : t.owners.now ≡ owners
  pub froms_are : t.froms.now ≡ froms
  pub tos_are : t.tos.now ≡ tos
  pub marks_room : model.most_vertices ≤ length marks
  pub owners_room : model.most_vertices ≤ length owners
  pub froms_room : model.most_edges ≤ length froms
  pub tos_room : model.most_edges ≤ length tos

module _ (s : List ℕ) {r : Result Case Refusal} {old new : CaseTables} (g : CaseRead s r old new) {c : Case} (q : r ≡ Ok c) {ms ws fs ts : List ℕ} (before : Roomy old) (after : Lent new ms ws fs ts) where
  room : (c.vertices ≤ length ms) × (c.vertices ≤ length ws) × (c.edges ≤ length fs) × (c.edges ≤ length ts)
  room = let f = counts_few s g.answer q in (omega (arith, after.marks_room, f.2), omega (arith, after.owners_room, f.2), omega (arith, after.froms_room, f.1), omega (arith, after.tos_room, f.1))

  in_tables : Holds (case_in s) ms ws fs ts
  in_tables =
      let k = within_in s (is_taken s g.answer q).0 in
      rw (← after.marks_are, ← after.owners_are, ← after.froms_are, ← after.tos_are)
      (held g q (omega (arith, before.marks, k.vertices)) (omega (arith, before.owners, k.vertices)) (omega (arith, before.froms, whole_in s, k.file)) (omega (arith, before.tos, whole_in s, k.file)))

  accepts : accepted s ≡ true
  accepts = (is_taken s g.answer q).0

  pub tables_ask : {w : List ℤ} → least_work ≤ length w → LoadAsks (take c.vertices ms) (take c.vertices ws) (take c.edges fs) (take c.edges ts) w
  tables_ask enough = load_asks (sound_in s accepts) (within_in s accepts) (from_rises s accepts) (whole_in s) in_tables (vertices_of s g.answer q) (edges_of s g.answer q) room enough

  -- the file's case, and then the case of its runs
  module _ {count : ℕ} {w v : List ℤ} (enough : least_work ≤ length w)
      (l : LoadSays (take c.vertices ms) (take c.vertices ws) (take c.edges fs) (take c.edges ts) count w v) where
    filed : Filed (case_in s) v
    filed = load_filed (sound_in s accepts) (within_in s accepts) (from_rises s accepts) (whole_in s) in_tables (vertices_of s g.answer q) (edges_of s g.answer q) room enough l

    file_many : c.edges ≡ (case_in s).file_edges
    file_many = edges_of s g.answer q ∙ sym (whole_in s)

    pub loops_ask : LoopsAsk c.vertices c.edges v
    loops_ask = record { case = case_in s; filed = filed; vertices = vertices_of s g.answer q; edges = file_many }

    pub case_laid : (xs : List ℕ) → any_at_or_above (c.workers + c.edges) xs ≡ false → {edges : ℕ} {u : List ℤ} → LoopsSay c.vertices c.edges edges v u → length u ≡ length v → CaseLaid s xs c count edges w u
    unfolding LoopsSay
    case_laid xs e r long =
        let k = r (case_in s) filed (vertices_of s g.answer q) file_many in
        record {
          taken = accepts;
          is = (is_taken s g.answer q).1;
          in_range = e;
          laid = k.0;
          counted = unfold resting rested accepting_count in (load_counts (sound_in s accepts) (within_in s accepts) (from_rises s accepts) (whole_in s) in_tables (vertices_of s g.answer q) (edges_of s g.answer q) room l);
          many = k.1;
          long = long ∙ l.long;
        }

-- A RUN OF A CASE IN THE CELLS: what each call on the way asks
module _ (s xs : List ℕ) (c : Case) (marks m : ℕ) (w w₁ : List ℤ) (l : CaseLaid s xs c marks m w w₁) where
  vertices : c.vertices ≡ (run_case s).graph.vertices
  vertices = ap (λ (h : Case). h.vertices) l.is ∙ (unfold header resting rested in refl)

  edges : c.edges ≡ (case_in s).file_edges
  edges = ap (λ (h : Case). h.edges) l.is ∙ (unfold header in (sym (whole_in s)))

  -- act numbers are of the file's edges
  limit : c.workers + c.edges ≡ c.workers + (run_case s).file_edges
  limit = ap (λ (k : ℕ). c.workers + k) edges ∙ (unfold resting in refl)

  source : c.source ≡ (run_case s).graph.source
  source = ap (λ (h : Case). h.source) l.is ∙ (unfold header resting rested in refl)

  workers : c.workers ≡ (run_case s).workers
  workers = ap (λ (h : Case). h.workers) l.is ∙ (unfold header resting rested in refl)

  ok : Sound (run_case s)
  ok = (file_sound s l.taken).0

  pub fresh_asks : FreshAsks c.source marks w₁
  fresh_asks = record { case = run_case s; laid = l.laid; starts = source; counts = l.counted }

  module _ (k₂ : Run) (w₂ : List ℤ) (b : FreshSays c.source marks k₂ w₁ w₂) where
    begun : Rep (run_case s) (fresh (run_case s)) k₂ w₂
    unfolding FreshSays
    begun = b (run_case s) l.laid source l.counted

    pub rounds_asks : ByRoundsAsks c.workers c.vertices m k₂ w₂
    rounds_asks = record { case = run_case s; rep = begun; workers = workers; vertices = vertices; edges = l.many }

    pub list_asks : ListAsks c.workers xs k₂ w₂
    list_asks = record { case = run_case s; state = fresh (run_case s); rep = begun; moment = moment_fresh (run_case s); workers = workers; below = λ i h. rw (← limit) (all_below (c.workers + c.edges) xs l.in_range i h) }

    module _ (k₃ : Run) (w₃ : List ℤ) (o : List ℕ) (enough : (ltb (length o) least_output || ltb (length w) least_work) ≡ false) where
      list_gone : ListDone c.workers xs k₂ k₃ w₂ w₃ → Gone (run_case s) (by_list (run_case s) xs) k₃ c.vertices c.source w₃
      list_gone d = record { rep = rep; moment = record { acts = xs; is = refl }; vertices = vertices; start = source }
        where
          rep : Rep (run_case s) (by_list (run_case s) xs) k₃ w₃
          rep = unfold ListDone by_list in (d (run_case s) (fresh (run_case s)) begun (moment_fresh (run_case s)) workers (λ i h. rw (← limit) (all_below (c.workers + c.edges) xs l.in_range i h)))

      rounds_gone : ByRoundsSays c.workers c.vertices m k₂ k₃ w₂ w₃ → Gone (run_case s) (by_rounds (run_case s)) k₃ c.vertices c.source w₃
      rounds_gone d = record { rep = rep; moment = record { acts = acts; is = listed }; vertices = vertices; start = source }
        where
          rep : Rep (run_case s) (by_rounds (run_case s)) k₃ w₃
          rep = unfold ByRoundsSays in (d (run_case s) begun workers vertices l.many)

          acts : List ℕ
          acts = whole_rounds (most_acts (run_case s)) (run_case s)

          listed : by_rounds (run_case s) ≡ by_list (run_case s) acts
          listed = (runs_kept (run_case s) ok).rounds_listed (most_acts (run_case s)) (omega arith)

      pub list_finish : ListDone c.workers xs k₂ k₃ w₂ w₃ → FinishAsks k₃ c.workers c.vertices c.source w₃ o
      list_finish d = record { answer = record { case = run_case s; state = by_list (run_case s) xs; gone = list_gone d }; workers = workers; room = (buffers_enough (length o) (length w) enough).0 }

      pub rounds_finish : ByRoundsSays c.workers c.vertices m k₂ k₃ w₂ w₃ → FinishAsks k₃ c.workers c.vertices c.source w₃ o
      rounds_finish d = record { answer = record { case = run_case s; state = by_rounds (run_case s); gone = rounds_gone d }; workers = workers; room = (buffers_enough (length o) (length w) enough).0 }

      -- the cells' length alone counts in what is said of them
      as_lent : length w₃ ≡ length w → (b : Bool) (x : State) (r : Outcome) (z : List ℕ) (v : List ℤ) → RunSays 0 b (run_case s) x r o z w₃ v → RunSays 0 b (run_case s) x r o z w v
      unfolding RunSays zeros
      as_lent long true x r z v t = record { refusal = t.refusal; verdict = t.verdict; acts = t.acts; written = t.written; tallies = t.tallies; output = t.output; work = t.work ∙ ap (λ (j : ℕ). replicate j (pos 0)) long }
      as_lent long false x r z v t = record { refusal = t.refusal; verdict = t.verdict; acts = t.acts; written = t.written; tallies = t.tallies; output = t.output; work = t.work ∙ ap (λ (j : ℕ). replicate j (pos 0)) long }

      right : case_refusal s ≡ 0
      right = eqb-true (case_refusal s) 0 (unfold accepted in l.taken)

      owned : c.workers ≡ (case_in s).workers
      owned = ap (λ (h : Case). h.workers) l.is ∙ (unfold header in refl)

      in_range : acts_refusal (case_in s) xs ≡ 0
      in_range = unfold acts_refusal in (rw (rw (owned, edges) at l.in_range) (unfold refuse in refl))

      pub list_says : ListDone c.workers xs k₂ k₃ w₂ w₃ → {r : Outcome} {z : List ℕ} {v : List ℤ} → FinishSays k₃ c.workers c.vertices c.source r w₃ v o z → length w₃ ≡ length w → ListSays s xs r o z w v
      unfolding ListSays list_refusal
      list_says d {r} {z} {v} f long =
          rw (buffers_long (length o) (length w) enough, right, in_range) (unfold first_of in (as_lent long (has_ended (by_list (run_case s) xs)) (by_list (run_case s) xs) r z v (f.says (run_case s) (by_list (run_case s) xs) (list_gone d) workers)))

      pub rounds_say : ByRoundsSays c.workers c.vertices m k₂ k₃ w₂ w₃ → {r : Outcome} {z : List ℕ} {v : List ℤ} → FinishSays k₃ c.workers c.vertices c.source r w₃ v o z → length w₃ ≡ length w → RoundsSay s r o z w v
      unfolding RoundsSay rounds_refusal
      rounds_say d {r} {z} {v} f long =
          rw (buffers_long (length o) (length w) enough, right) (unfold first_of in (as_lent long (has_ended (by_rounds (run_case s))) (by_rounds (run_case s)) r z v (f.says (run_case s) (by_rounds (run_case s)) (rounds_gone d) workers)))
