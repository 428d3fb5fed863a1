-- Kept: the promises of specs/Promise.antt about any sound case and about accepted files, put together from the files
-- before.
use mathlib.Core.Path.{◌≡◌, refl, sym, ap, subst, ◌∙◌}
use mathlib.Core.Bool.{Bool, true, false, cond}
use mathlib.Core.List.{List}
use mathlib.Core.Logic.{◌⊎◌, inl, inr}
use mathlib.Core.Option.{Option, none, some}
use Prim.Native.Nat.{ℕ, zero, suc, ◌+◌, ◌-◌, ◌≤◌}
use native.Mathlib.Omega.{arith}
use native.Mathlib.Nat.{suc-add}
use lib.ListN.{length, get_or}
use Rattle.model.specs.Graph.{Graph, edge, rested}
use Rattle.model.specs.Case.{Case, resting, least_output, most_acts, Sound, Within}
use Rattle.model.specs.CaseFile.{accepted, case_in, run_case}
use Rattle.model.specs.Run.{State, is_some, ended_lasso, has_ended, fresh, acted, round_acts, rounds, by_list, by_rounds}
use Rattle.model.specs.Answer.{lasso_verdict, empty_verdict, cycle_start, cycle, stem, lasso_text, empty_text, answer_of, answer}
use Rattle.model.specs.Passing.{meant, answer_refusal}
use Rattle.model.specs.Entry.{verdict}
use Rattle.model.specs.Promise.{Ended, Finding, whole_rounds, RunsKept, MomentsKept, LimitsKept, OfCases, OneStem, Agree, SameFinding, RestingSound, FilesSound, OfFiles, FilesAgree}
use Rattle.text.proofs.Tests.{or_cases, clash}
use Rattle.model.proofs.Tools.{some_of}
use Rattle.model.proofs.Walks.{lasso_whole}
use Rattle.model.proofs.Few.{paid, few}
use Rattle.model.proofs.Tallied.{tallied, tallied_inside}
use Rattle.model.proofs.Rounds.{rounds_listed, rounds_end}
use Rattle.model.proofs.RoundCells.{rounds_join_none}
use Rattle.model.proofs.Settled.{tale, relaxed}
use Rattle.model.proofs.Moments.{never_raised, joins_lower}
use Rattle.model.proofs.Stems.{fewest_one}
use Rattle.model.proofs.Findings.{Known, known, walk_real, distances_le, stem_few, lasso_shown, finding, alike}
use Rattle.model.proofs.ActRules.{rules_kept, counts}
use Rattle.model.proofs.Accepting.{files_sound}
use Rattle.model.proofs.Fits.{walk_below, below_append, cycle_few, accepting_few, answer_fits, answers_fit}
use Rattle.model.proofs.Bounds.{most_acts_small, most_sent_small}
use Rattle.model.proofs.CheckerComplete.{Complete, lasso_complete, empty_complete}
use Rattle.model.proofs.Rests.{resting_sound}

-- ROUNDS past the end change nothing, so enough whole rounds are the run by rounds
rounds_past_end : (i : ℕ) (c : Case) (x : State) → has_ended x ≡ true → rounds i c x ≡ x
unfolding rounds
rounds_past_end zero c x o = refl
rounds_past_end (suc i) c x o = rw o refl

rounds_enough : (j i : ℕ) (c : Case) (x : State) → has_ended (rounds j c x) ≡ true → rounds (j + i) c x ≡ rounds j c x
unfolding rounds
rounds_enough zero i c x o = rounds_past_end (0 + i) c x o
rounds_enough (suc j) i c x o = ap (λ (k : ℕ). rounds k c x) (suc-add j i) ∙ go (has_ended x) (λ o. rounds_enough j i c (acted c (round_acts c) x) o) o
  where
    go : (b : Bool) → (has_ended (rounds j c (acted c (round_acts c) x)) ≡ true → rounds (j + i) c (acted c (round_acts c) x) ≡ rounds j c (acted c (round_acts c) x)) → has_ended (cond b x (rounds j c (acted c (round_acts c) x))) ≡ true →
        cond b x (rounds (j + i) c (acted c (round_acts c) x)) ≡ cond b x (rounds j c (acted c (round_acts c) x))
    go true ih o = refl
    go false ih o = ih o

rounds_are_list : (c : Case) → Sound c → (k : ℕ) → most_acts c ≤ k → by_rounds c ≡ by_list c (whole_rounds k c)
unfolding by_rounds by_list
rounds_are_list c ok k l =
    let z : most_acts c + (k - most_acts c) ≡ k = omega arith in
    sym (rounds_enough (most_acts c) (k - most_acts c) c (fresh c) (rounds_end c ok)) ∙ ap (λ (j : ℕ). rounds j c (fresh c)) z ∙ rounds_listed k c (fresh c)

pub runs_kept : (c : Case) → Sound c → RunsKept c
runs_kept c ok = record {
  finds = λ x e. finding c ok x e;
  few_acts = λ xs. (few c ok (by_list c xs) (paid c ok xs)).0;
  then_ended = λ xs. (few c ok (by_list c xs) (paid c ok xs)).1;
  rounds_end = unfold by_rounds in (rounds_end c ok);
  rounds_listed = rounds_are_list c ok;
  rounds_join_none = rounds_join_none c ok;
}

moments_kept : (c : Case) → Sound c → MomentsKept c
moments_kept c ok = record {
  rules = rules_kept c ok;
  counts = counts c;
  real_distances = λ xs v d h. walk_real c.graph v d ((tale c ok xs).walked.depths v d h);
  real_offers = λ xs e o h. walk_real c.graph (edge c.graph e).to o ((tale c ok xs).walked.cells e o h);
  never_raised = λ xs ys v d h. let r = never_raised c ok xs ys (tale c ok xs).walked.shape v d h in (r.0, r.1, distances_le d r.0 r.2);
  joins_lower = λ xs w v q e k _ h i m. joins_lower c ok xs w v q e k h i m;
  tallied = tallied c ok;
  tallied_inside = tallied_inside c ok;
}

-- WHAT AN ENDED RUN WRITES is read back and passes
complete_at : (c : Case) (ok : Sound c) → Within c → (x : State) → Known c x → (o : Option ℕ) → x.broken ≡ o → (is_some o ≡ true) ⊎ (x.ended_empty ≡ true) →
    Complete c.graph (answer_of c.graph o x.parents x.depths) (cond (is_some o) lasso_verdict empty_verdict)
unfolding answer_of is_some
complete_at c ok w x k none h (inl i) = clash false i refl
complete_at c ok w x k none h (inr i) =
    let s = some_of (get_or x.depths c.graph.source none) k.tale.walked.source in
    empty_complete c.graph x.depths w.vertices k.paid.shape.depths (λ j d q. omega (arith, k.paid.shape.above h j d q, accepting_few c ok, w.vertices)) (relaxed c ok x k.paid k.tale h i) s.0 s.1
    (let l : length (empty_text x.depths) ≤ least_output = answer_fits c ok w x k none h in omega arith)
complete_at c ok w x k (some b) h _ =
    let y = lasso_shown c ok x k b h in
    let ss = stem c.graph (cycle_start c.graph x.parents b) in
    let es = cycle c.graph x.parents b in
    lasso_complete c.graph ss es (omega (arith, w.edges)) (below_append (length c.graph.edges) ss es (walk_below c.graph _ ss y.stem) (walk_below c.graph _ es y.cycle))
    (omega (arith, stem_few c ok x k b h, w.vertices)) (omega (arith, cycle_few c.graph x.parents b, w.vertices)) y.some_edge
    (let l : length (lasso_text ss es) ≤ least_output = answer_fits c ok w x k (some b) h in omega arith) (lasso_whole c.graph ss es y)

pub complete : (c : Case) → Sound c → Within c → (x : State) → Ended c x → Complete c.graph (answer c.graph x) (verdict x)
unfolding answer verdict ended_lasso
complete c ok w x e = complete_at c ok w x (known c ok x e) x.broken refl (unfold has_ended ended_lasso in (or_cases (is_some x.broken) x.ended_empty e.ended))

-- version 2 means the graph with its rest loops
pub passes_rested : {f : Graph} {ts : List ℕ} {v : ℕ} (g : Graph) → rested g ≡ f → Complete f ts v → answer_refusal g ts ≡ 0
unfolding answer_refusal meant
passes_rested g e k = rw (k.version, e) k.passes

limits_kept : (c : Case) → Sound c → Within c → LimitsKept c
limits_kept c ok l = record {
  answers_fit = answers_fit c ok l;
  counts_fit = most_acts_small c ok l;
  tallies_fit = most_sent_small c ok l;
  passes = λ g r x e. (passes_rested g r (complete c ok l x e), (complete c ok l x e).says);
  older = λ g x e. (complete c ok l x e).older g;
}

pub of_cases : OfCases
unfolding OfCases
of_cases c ok = (runs_kept c ok, moments_kept c ok, limits_kept c ok)

pub one_stem : OneStem
unfolding OneStem
one_stem = fewest_one

pub agree : (c d : Case) → Sound c → Sound d → c.graph ≡ d.graph → Agree c d
unfolding Agree
agree c d okc okd g x y ex ey =
    let G : Finding c.graph y = subst (λ (z : Graph). Finding z y) (sym g) (finding d okd y ey) in
    let s : length x.depths ≡ length y.depths = (known c okc x ex).paid.shape.depths ∙ ap (λ (z : Graph). z.vertices) g ∙ sym (known d okd y ey).paid.shape.depths in
    let r = alike c.graph x y (finding c okc x ex) G s in
    (r.0, λ f. r.1 f ∙ ap (λ (z : Graph). answer z y) g)

pub same_finding : SameFinding
unfolding SameFinding
same_finding = agree

-- ACCEPTED FILES, and the cases of their runs
pub file_sound : (bs : List ℕ) → accepted bs ≡ true → Sound (run_case bs) × Within (run_case bs)
file_sound bs e =
    let s = sound_in bs e in
    let r = rests (case_in bs) s.0 in
    (r.0, r.1 s.1 (unfold case_in in refl))
  where
    sound_in : (bs : List ℕ) → accepted bs ≡ true → Sound (case_in bs) × Within (case_in bs)
    sound_in = unfold FilesSound in files_sound

    rests : (c : Case) → Sound c → Sound (resting c) × (Within c → c.file_edges ≡ length c.graph.edges → Within (resting c))
    rests = unfold RestingSound in resting_sound

pub of_files : OfFiles
unfolding OfFiles
of_files bs e = let s = file_sound bs e in (runs_kept (run_case bs) s.0, moments_kept (run_case bs) s.0, limits_kept (run_case bs) s.0 s.1)

pub files_agree : FilesAgree
unfolding FilesAgree
files_agree bs ds e f g = agree (run_case bs) (run_case ds) (file_sound bs e).0 (file_sound ds f).0 (unfold resting in (ap rested g))
