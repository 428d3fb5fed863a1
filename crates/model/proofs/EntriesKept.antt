-- Kept by the entries: the three demands about every outcome that meets an entry's contract.
use mathlib.Core.Path.{◌≡◌, refl, sym, ap, subst, ◌∙◌}
use mathlib.Core.Bool.{Bool, true, false, cond}
use mathlib.Core.List.{List, [], ◌∷◌, ◌++◌}
use mathlib.Core.Logic.{◌⊎◌, inl, inr}
use mathlib.Core.Option.{Option, none, some}
use Prim.Native.Nat.{ℕ, zero, suc, ◌+◌, ◌≤◌, ◌<◌}
use native.Mathlib.Omega.{arith}
use borrow.Author.Tests.{eqb-true, eq-eqb, lt-leb}
use lib.Dec.{leb}
use lib.ListN.{length, take, drop}
use lib.Seq.{take-append_seam, drop-append_seam}
use lib.IntN.{ℤ}
use Rattle.text.specs.Lines.{lines, line_at}
use Rattle.model.specs.Graph.{Graph, rested, HasLasso, NoLasso}
use Rattle.model.specs.Case.{Case, resting, most_acts, most_sent, Sound, Within}
use Rattle.model.specs.CaseFile.{refuse, first_of, case_refusal, accepted, case_in, run_case}
use Rattle.model.specs.Run.{Tallies, State, is_some, range, ended_lasso, has_ended, full_cells, round_acts, by_list, by_rounds}
use Rattle.model.specs.Answer.{lasso_verdict, empty_verdict, cycle_start, cycle, stem, answer_of, answer}
use Rattle.model.specs.Passing.{says_lasso, meant, answer_refusal, check_refusal, answer_verdict}
use Rattle.model.specs.Entry.{any_at_or_above, acts_refusal, list_refusal, rounds_refusal, verdict, in_front, tallies_of, Refused, CutShort, Finished, RunSays, ListSays, RoundsSay}
use Rattle.model.specs.Promise.{Ended, Finding, whole_rounds, Balanced, Tallied, Agree, CheckerSound, Says, Definite, RunsDefinite, ChecksDefinite, TrueVerdict, ShowsLasso, ShowsDistances, ResultTallied, RunsRight, CheckRight, RunsAgree, RoundsAsList, Ten, TenExactly, RoundsNeverTen, RoundsJoinNone}
use Rattle.model.specs.declared.Outcome.{Outcome}
use Rattle.text.proofs.Tests.{Same, same?, same, other, or_false, clash}
use Rattle.model.proofs.Tools.{none_of, some_of, no_message_is}
use Rattle.model.proofs.Few.{paid, few}
use Rattle.model.proofs.Tallied.{tallied, moment_tallied}
use Rattle.model.proofs.Rounds.{rounds_end}
use Rattle.model.proofs.Findings.{ended_listed, known, finding}
use Rattle.model.proofs.ActRules.{rules_kept, counts}
use Rattle.model.proofs.Accepting.{first_zero, zero_first, first_none}
use Rattle.model.proofs.Refusals.{list_numbers, rounds_numbers, check_numbers}
use Rattle.model.proofs.CheckerSound.{checker_sound}
use Rattle.model.proofs.Kept.{runs_kept, complete, passes_rested, agree, file_sound}

true_verdict : (c : Case) → Sound c → (x : State) → Ended c x → TrueVerdict c.graph (verdict x)
true_verdict c ok x e = go x.broken refl
  where
    F : Finding c.graph x
    F = finding c ok x e

    says : (o : Option ℕ) → x.broken ≡ o → verdict x ≡ cond (is_some o) lasso_verdict empty_verdict
    says o h = unfold verdict ended_lasso in (rw h refl)

    go : (o : Option ℕ) → x.broken ≡ o → TrueVerdict c.graph (verdict x)
    go none h =
        let v : verdict x ≡ empty_verdict = says none h ∙ (unfold is_some in refl) in
        record { lasso = λ q. absurd (omega arith); empty = λ _. F.none_there h; either = inr v }
    go (some b) h =
        let v : verdict x ≡ lasso_verdict = says (some b) h ∙ (unfold is_some in refl) in
        record { lasso = λ _. record { stem = _; cycle = _; lasso = F.shown b h }; empty = λ q. absurd (omega arith); either = inl v }

accepted_by : (bs : List ℕ) → case_refusal bs ≡ 0 → Sound (run_case bs) × Within (run_case bs)
accepted_by bs e = file_sound bs (unfold accepted in (eq-eqb (case_refusal bs) 0 e))

list_accepted : (bs xs : List ℕ) (o w : ℕ) → list_refusal bs xs o w ≡ 0 → case_refusal bs ≡ 0
unfolding list_refusal
list_accepted bs xs o w e = (first_zero _ _ (first_zero _ _ e).1).0

rounds_accepted : (bs : List ℕ) (o w : ℕ) → rounds_refusal bs o w ≡ 0 → case_refusal bs ≡ 0
unfolding rounds_refusal
rounds_accepted bs o w e = (first_zero _ _ (first_zero _ _ e).1).0

-- by cases of what a run says
says_cases : (P : Type 0) (k : ℕ) (b : Bool) (c : Case) (x : State) (r : Outcome) (o z : List ℕ) (w v : List ℤ) → RunSays k b c x r o z w v →
    ((j : ℕ) → k ≡ suc j → Refused (suc j) r o z w v → P) → (k ≡ 0 → b ≡ true → Finished c x r o z w v → P) → (k ≡ 0 → b ≡ false → CutShort x r o z w v → P) → P
unfolding RunSays
says_cases P (suc k) b c x r o z w v s f g h = f k refl s
says_cases P zero true c x r o z w v s f g h = g refl refl s
says_cases P zero false c x r o z w v s f g h = h refl refl s

-- what an entry returned, as a run
record Result (bs : List ℕ) (r : Outcome) (z : List ℕ) : Type 0 where
  sound : Sound (run_case bs)
  within : Within (run_case bs)
  taken : case_refusal bs ≡ 0
  state : State
  ended : Ended (run_case bs) state
  verdict : r.verdict ≡ verdict state
  acts : r.acts ≡ state.count
  tallies : tallies_of r ≡ state.tallies
  shown : take r.written z ≡ answer (run_case bs).graph state

finished : (bs : List ℕ) (x : State) (r : Outcome) (o z : List ℕ) (w v : List ℤ) → case_refusal bs ≡ 0 → Ended (run_case bs) x → Finished (run_case bs) x r o z w v → Result bs r z
finished bs x r o z w v k e t = record {
  sound = (accepted_by bs k).0;
  within = (accepted_by bs k).1;
  taken = k;
  state = x;
  ended = e;
  verdict = t.verdict;
  acts = t.acts;
  tallies = t.tallies;
  shown = ap (λ (n : ℕ). take n z) t.written ∙ ap (λ (l : List ℕ). take (length (answer (run_case bs).graph x)) l) t.output ∙ front;
}
  where
    front : take (length (answer (run_case bs).graph x)) (in_front (answer (run_case bs).graph x) o) ≡ answer (run_case bs).graph x
    front = unfold in_front in (take-append_seam (answer (run_case bs).graph x) (drop (length (answer (run_case bs).graph x)) o))

result : (bs : List ℕ) (r : Outcome) (o z : List ℕ) (w v : List ℤ) → Says bs r o z w v → r.refusal ≡ 0 → Result bs r z
unfolding Says ListSays RoundsSay
result bs r o z w v (inl (xs, s)) e = let x = by_list (run_case bs) xs in says_cases (Result bs r z) (list_refusal bs xs (length o) (length w)) (has_ended x) (run_case bs) x r o z w v s
    (λ j _ t. absurd (omega (arith, t.refusal)))
    (λ k b t. finished bs x r o z w v (list_accepted bs xs (length o) (length w) k) (record { ended = b; run = inl (record { acts = xs; is = refl }) }) t)
    (λ k b t. absurd (omega (arith, t.refusal)))
result bs r o z w v (inr s) e = let x = by_rounds (run_case bs) in says_cases (Result bs r z) (rounds_refusal bs (length o) (length w)) (has_ended x) (run_case bs) x r o z w v s
    (λ j _ t. absurd (omega (arith, t.refusal)))
    (λ k b t. finished bs x r o z w v (rounds_accepted bs (length o) (length w) k) (record { ended = b; run = inr refl }) t)
    (λ k b t. absurd (omega (arith, t.refusal)))

verdict_one : (x : State) → verdict x ≡ lasso_verdict → ended_lasso x ≡ true
unfolding verdict
verdict_one x e = go (ended_lasso x) e
  where
    go : (b : Bool) → ◌≡◌ {A = ℕ} (cond b lasso_verdict empty_verdict) lasso_verdict → b ≡ true
    go true e = refl
    go false e = absurd (omega arith)

verdict_two : (x : State) → verdict x ≡ empty_verdict → ended_lasso x ≡ false
unfolding verdict
verdict_two x e = go (ended_lasso x) e
  where
    go : (b : Bool) → ◌≡◌ {A = ℕ} (cond b lasso_verdict empty_verdict) empty_verdict → b ≡ false
    go true e = absurd (omega arith)
    go false e = refl

pub runs_agree : RunsAgree
unfolding RunsAgree
runs_agree bs ds r s o z p y w v u t a b g e f =
    let m = result bs r o z w v a e in
    let n = result ds s p y u t b f in
    let k = agreed (run_case bs) (run_case ds) m.sound n.sound (unfold resting in (ap rested g)) m.state n.state m.ended n.ended in
    let q : verdict m.state ≡ verdict n.state = same_verdict m.state n.state k.0 in
    (m.verdict ∙ q ∙ sym n.verdict, λ h. m.shown ∙ k.1 (verdict_two m.state (sym m.verdict ∙ h)) ∙ sym n.shown)
  where
    agreed : (c d : Case) → Sound c → Sound d → c.graph ≡ d.graph → (x y : State) → Ended c x → Ended d y → (ended_lasso x ≡ ended_lasso y) × (ended_lasso x ≡ false → answer c.graph x ≡ answer d.graph y)
    agreed = unfold Agree in agree

    same_verdict : (x y : State) → ended_lasso x ≡ ended_lasso y → verdict x ≡ verdict y
    same_verdict x y e = unfold verdict in (rw e refl)

-- what a result shows
shows_lasso : (c : Case) → Sound c → (x : State) → Ended c x → ended_lasso x ≡ true → ShowsLasso c.graph (answer c.graph x)
unfolding ended_lasso answer
shows_lasso c ok x e l = let b = some_of x.broken l in let F = finding c ok x e in record {
  stem = stem c.graph (cycle_start c.graph x.parents b.0);
  cycle = cycle c.graph x.parents b.0;
  bytes = ap (λ (o : Option ℕ). answer_of c.graph o x.parents x.depths) b.1 ∙ (unfold answer_of in refl);
  lasso = F.shown b.0 b.1;
  fewest = rw (F.fewest b.0 b.1).reaches.arrives (F.fewest b.0 b.1);
}

shows_distances : (c : Case) → Sound c → (x : State) → Ended c x → ended_lasso x ≡ false → ShowsDistances c.graph (answer c.graph x)
unfolding ended_lasso answer
shows_distances c ok x e l = let n = none_of x.broken l in let F = finding c ok x e in record {
  depths = x.depths;
  bytes = ap (λ (o : Option ℕ). answer_of c.graph o x.parents x.depths) n ∙ (unfold answer_of in refl);
  distances = F.distances n;
  reached = F.reached n;
}

-- the tallies that a result carries
sent_by : (c : Case) (x : State) (r : Outcome) → tallies_of r ≡ x.tallies → Tallied c x → Balanced (tallies_of r) (full_cells x.cells) × (r.sent ≤ most_sent c)
sent_by c x r e t = (subst (λ (y : Tallies). Balanced y (full_cells x.cells)) (sym e) t.balanced, let z : r.sent ≡ x.tallies.sent = ap (λ (t : Tallies). t.sent) e in omega (arith, t.few_sent))

none_full : (c : Case) → Sound c → (x : State) → Ended c x → ended_lasso x ≡ false → full_cells x.cells ≡ 0
none_full c ok x e l = eqb-true (full_cells x.cells) 0 (no_message_is x.cells ∙ ((rules_kept c ok x (ended_listed c x e)).empty_only (or_else e.ended)).1.cells)
  where
    or_else : has_ended x ≡ true → x.ended_empty ≡ true
    or_else h = unfold has_ended in (rw l at h)

result_tallied : (c : Case) → Sound c → (x : State) → Ended c x → (r : Outcome) → r.verdict ≡ verdict x → tallies_of r ≡ x.tallies → ResultTallied c r
result_tallied c ok x e r v t = let s = sent_by c x r t (moment_tallied c ok x (ended_listed c x e)) in record {
  full = full_cells x.cells;
  balanced = s.0;
  none_full = λ q. none_full c ok x e (verdict_two x (sym v ∙ q));
  few_sent = s.1;
}

pub runs_right : RunsRight
unfolding RunsRight check_refusal resting
runs_right bs r o z w v s e =
    let p = result bs r o z w v s e in
    let k = complete (run_case bs) p.sound p.within p.state p.ended in
    let a : answer_refusal (case_in bs).graph (take r.written z) ≡ 0 = rw p.shown (passes_rested (case_in bs).graph refl k) in
    record {
      verdict = subst (λ (n : ℕ). TrueVerdict (run_case bs).graph n) (sym p.verdict) (true_verdict (run_case bs) p.sound p.state p.ended);
      lasso = λ q. rw p.shown (shows_lasso (run_case bs) p.sound p.state p.ended (verdict_one p.state (sym p.verdict ∙ q)));
      empty = λ q. rw p.shown (shows_distances (run_case bs) p.sound p.state p.ended (verdict_two p.state (sym p.verdict ∙ q)));
      acts = omega (arith, p.acts, (few (run_case bs) p.sound p.state (known (run_case bs) p.sound p.state p.ended).paid).0);
      tallies = result_tallied (run_case bs) p.sound p.state p.ended r p.verdict p.tallies;
      passes = (zero_first _ _ p.taken (zero_first _ _ a first_none), rw p.shown (k.says ∙ sym p.verdict));
      older = rw p.shown (k.older (case_in bs).graph);
    }

pub check_right : CheckRight
unfolding CheckRight check_refusal
check_right bs ts r s e =
    let z : first_of (case_refusal bs ∷ answer_refusal (case_in bs).graph ts ∷ []) ≡ 0 = sym s.refusal ∙ e in
    let a = (first_zero _ _ (first_zero _ _ z).1).0 in
    let k = sound_of (case_in bs).graph ts a in
    let v : r.verdict ≡ answer_verdict ts = s.verdict ∙ (rw z refl) in
    record { lasso = λ q. k.0 (sym v ∙ q); empty = λ q. k.1 (sym v ∙ q); either = either ts r.verdict v }
  where
    sound_of : (g : Graph) (ts : List ℕ) → answer_refusal g ts ≡ 0 → (answer_verdict ts ≡ lasso_verdict → HasLasso (meant g ts)) × (answer_verdict ts ≡ empty_verdict → NoLasso (meant g ts))
    sound_of = unfold CheckerSound in checker_sound

    either : (ts : List ℕ) (n : ℕ) → n ≡ answer_verdict ts → (n ≡ lasso_verdict) ⊎ (n ≡ empty_verdict)
    either ts n = unfold answer_verdict in (go (says_lasso (line_at (lines ts) 1)))
      where
        go : (b : Bool) → n ≡ cond b lasso_verdict empty_verdict → (n ≡ lasso_verdict) ⊎ (n ≡ empty_verdict)
        go true e = inl e
        go false e = inr e

pub ten_exactly : TenExactly
unfolding TenExactly ListSays
ten_exactly bs xs r o z w v s = let x = by_list (run_case bs) xs in let k = list_refusal bs xs (length o) (length w) in
    says_cases (Ten bs xs r (length o) (length w)) k (has_ended x) (run_case bs) x r o z w v s
    (λ j q t. record {
      only = λ e. absurd (not_ten j q (sym t.refusal ∙ e));
      always = λ n _. absurd (omega (arith, q, n));
      below = λ e. absurd (not_ten j q (sym t.refusal ∙ e));
      counted = λ e. absurd (not_ten j q (sym t.refusal ∙ e));
      balanced = λ e. absurd (not_ten j q (sym t.refusal ∙ e));
      few_sent = λ e. absurd (not_ten j q (sym t.refusal ∙ e));
    })
    (λ n b t. record {
      only = λ e. absurd (omega (arith, t.refusal));
      always = λ _ f. clash (has_ended (by_list (run_case bs) xs)) b f;
      below = λ e. absurd (omega (arith, t.refusal));
      counted = λ e. absurd (omega (arith, t.refusal));
      balanced = λ e. absurd (omega (arith, t.refusal));
      few_sent = λ e. absurd (omega (arith, t.refusal));
    })
    (λ n b t. let a = list_accepted bs xs (length o) (length w) n in record {
      only = λ _. (n, b);
      always = λ _ _. t.refusal;
      below = λ _. below a b t.acts;
      counted = λ _. t.acts ∙ counts (run_case bs) xs;
      balanced = λ _. (sums a t.tallies).0;
      few_sent = λ _. (sums a t.tallies).1;
    })
  where
    sums : case_refusal bs ≡ 0 → tallies_of r ≡ (by_list (run_case bs) xs).tallies → Balanced (tallies_of r) (full_cells (by_list (run_case bs) xs).cells) × (r.sent ≤ most_sent (run_case bs))
    sums a t = sent_by (run_case bs) (by_list (run_case bs) xs) r t (tallied (run_case bs) (accepted_by bs a).0 xs)

    not_ten : (j : ℕ) → list_refusal bs xs (length o) (length w) ≡ suc j → suc j ≡ 10 → ⊥
    not_ten j q e = list_numbers (λ n. n ≡ 10 → ⊥) (λ n l e. omega arith) (λ e. omega arith) (λ e. omega arith) bs xs (length o) (length w) (q ∙ e)

    -- with as many acts as the bound the run would have ended
    below : case_refusal bs ≡ 0 → has_ended (by_list (run_case bs) xs) ≡ false → r.acts ≡ (by_list (run_case bs) xs).count → r.acts < most_acts (run_case bs)
    below a b t = let c = run_case bs in let ok = (accepted_by bs a).0 in let f = few c ok (by_list c xs) (paid c ok xs) in
        go (same? (by_list c xs).count (most_acts c)) f.0 f.1
      where
        go : Same (by_list (run_case bs) xs).count (most_acts (run_case bs)) → (by_list (run_case bs) xs).count ≤ most_acts (run_case bs) →
            ((by_list (run_case bs) xs).count ≡ most_acts (run_case bs) → has_ended (by_list (run_case bs) xs) ≡ true) → r.acts < most_acts (run_case bs)
        go (same e) l h = clash (has_ended (by_list (run_case bs) xs)) (h e) b
        go (other n) l h = omega (arith, n, t)

-- A ROUND'S ACTS are all in range, so a list of whole rounds is never refused by 9
range_below : (k i l : ℕ) → i + k ≤ l → any_at_or_above l (range k i) ≡ false
unfolding range any_at_or_above
range_below zero i l h = refl
range_below (suc k) i l h = rw (lt-leb l i (let z : i < l = omega arith in z)) (range_below k (suc i) l (omega arith))

any_append : (l : ℕ) (xs ys : List ℕ) → any_at_or_above l xs ≡ false → any_at_or_above l ys ≡ false → any_at_or_above l (xs ++ ys) ≡ false
unfolding any_at_or_above
any_append l [] ys p q = q
any_append l (x ∷ xs) ys p q = let z = or_false (leb l x) (any_at_or_above l xs) p in rw z.0 (any_append l xs ys z.1 q)

rounds_in_range : (k : ℕ) (c : Case) → any_at_or_above (c.workers + c.file_edges) (whole_rounds k c) ≡ false
unfolding whole_rounds round_acts
rounds_in_range zero c = unfold any_at_or_above in refl
rounds_in_range (suc k) c = any_append _ (range (c.workers + c.file_edges) 0) (whole_rounds k c) (range_below _ 0 _ (omega arith)) (rounds_in_range k c)

same_refusal : (bs : List ℕ) (k o w : ℕ) → rounds_refusal bs o w ≡ list_refusal bs (whole_rounds k (run_case bs)) o w
unfolding rounds_refusal list_refusal acts_refusal
same_refusal bs k o w =
    let r : any_at_or_above ((case_in bs).workers + (case_in bs).file_edges) (whole_rounds k (run_case bs)) ≡ false = unfold resting in (rounds_in_range k (run_case bs)) in
    rw r (unfold refuse first_of in refl)

pub rounds_as_list : RoundsAsList
unfolding RoundsAsList RoundsSay ListSays
rounds_as_list bs k r o z w v l s = go (rounds_refusal bs (length o) (length w)) refl s
  where
    -- a refused case may have no end by rounds, but then no run is asked for
    go : (n : ℕ) → rounds_refusal bs (length o) (length w) ≡ n → RunSays n (has_ended (by_rounds (run_case bs))) (run_case bs) (by_rounds (run_case bs)) r o z w v →
        RunSays (list_refusal bs (whole_rounds k (run_case bs)) (length o) (length w)) (has_ended (by_list (run_case bs) (whole_rounds k (run_case bs)))) (run_case bs) (by_list (run_case bs) (whole_rounds k (run_case bs))) r o z w v
    go zero e s = rw (sym (same_refusal bs k (length o) (length w)) ∙ e, ← (runs_kept (run_case bs) (accepted_by bs (rounds_accepted bs (length o) (length w) e)).0).rounds_listed k l) s
    go (suc n) e s = rw (sym (same_refusal bs k (length o) (length w)) ∙ e) (unfold RunSays in s)

pub rounds_never_ten : RoundsNeverTen
unfolding RoundsNeverTen RoundsSay
rounds_never_ten bs r o z w v s e = let x = by_rounds (run_case bs) in says_cases ⊥ (rounds_refusal bs (length o) (length w)) (has_ended x) (run_case bs) x r o z w v s
    (λ j q t. rounds_numbers (λ n. n ≡ 10 → ⊥) (λ n l e. omega arith) (λ e. omega arith) bs (length o) (length w) (q ∙ sym t.refusal ∙ e))
    (λ n b t. omega (arith, t.refusal))
    (λ n b t. clash (has_ended (by_rounds (run_case bs))) (rounds_past_end_end bs (rounds_accepted bs (length o) (length w) n)) b)
  where
    rounds_past_end_end : (bs : List ℕ) → case_refusal bs ≡ 0 → has_ended (by_rounds (run_case bs)) ≡ true
    rounds_past_end_end bs n = unfold by_rounds in (rounds_end (run_case bs) (accepted_by bs n).0)

pub rounds_join_none : RoundsJoinNone
unfolding RoundsJoinNone RoundsSay
rounds_join_none bs r o z w v s = let x = by_rounds (run_case bs) in says_cases (r.joined ≡ 0) (rounds_refusal bs (length o) (length w)) (has_ended x) (run_case bs) x r o z w v s
    (λ _ _ t. ap (λ (t : Tallies). t.joined) t.tallies)
    (λ n _ t. ap (λ (t : Tallies). t.joined) t.tallies ∙ none n)
    (λ n _ t. ap (λ (t : Tallies). t.joined) t.tallies ∙ none n)
  where
    none : rounds_refusal bs (length o) (length w) ≡ 0 → (by_rounds (run_case bs)).tallies.joined ≡ 0
    none n = (runs_kept (run_case bs) (accepted_by bs (rounds_accepted bs (length o) (length w) n)).0).rounds_join_none

-- THE FIRST DEMAND
rest_kept : (written : ℕ) (new o z : List ℕ) → written ≡ length new → z ≡ in_front new o → drop written z ≡ drop written o
unfolding in_front
rest_kept k new o z e f = rw (e, f) (drop-append_seam new (drop (length new) o))

definite_says : (k : ℕ) (b : Bool) (c : Case) (x : State) (r : Outcome) (o z : List ℕ) (w v : List ℤ) → k ≤ 11 → (k ≡ 10 → ⊥) → RunSays k b c x r o z w v → Definite r o z w v
definite_says k b c x r o z w v l n s = says_cases (Definite r o z w v) k b c x r o z w v s
    (λ j q t. record { listed = omega (arith, q, t.refusal); output = λ _. t.output; work = λ _ _. t.work; zeroed = λ e. absurd (n (q ∙ sym t.refusal ∙ e)); length_zero = λ _. t.written; acts_zero = λ _ _. t.acts; tallies_zero = λ _ _. t.tallies; rest = λ e. absurd (omega (arith, sym t.refusal ∙ e)); cleared = λ e. absurd (omega (arith, sym t.refusal ∙ e)) })
    (λ q _ t. record { listed = omega (arith, t.refusal); output = λ n. absurd (n t.refusal); work = λ n _. absurd (n t.refusal); zeroed = λ e. absurd (omega (arith, t.refusal)); length_zero = λ n. absurd (n t.refusal); acts_zero = λ n _. absurd (n t.refusal); tallies_zero = λ n _. absurd (n t.refusal); rest = λ _. rest_kept r.written (answer c.graph x) o z t.written t.output; cleared = λ _. t.work })
    (λ q _ t. record { listed = omega (arith, t.refusal); output = λ _. t.output; work = λ _ n. absurd (n t.refusal); zeroed = λ _. t.work; length_zero = λ _. t.written; acts_zero = λ _ n. absurd (n t.refusal); tallies_zero = λ _ n. absurd (n t.refusal); rest = λ e. absurd (omega (arith, sym t.refusal ∙ e)); cleared = λ e. absurd (omega (arith, sym t.refusal ∙ e)) })

pub runs_definite : RunsDefinite
unfolding RunsDefinite Says ListSays RoundsSay
runs_definite bs r o z w v (inl (xs, s)) =
    definite_says (list_refusal bs xs (length o) (length w)) (has_ended (by_list (run_case bs) xs)) (run_case bs) (by_list (run_case bs) xs) r o z w v
    (list_numbers (λ n. n ≤ 11) (λ n l. omega arith) (omega arith) (omega arith) bs xs (length o) (length w))
    (list_numbers (λ n. n ≡ 10 → ⊥) (λ n l e. omega arith) (λ e. omega arith) (λ e. omega arith) bs xs (length o) (length w)) s
runs_definite bs r o z w v (inr s) =
    definite_says (rounds_refusal bs (length o) (length w)) (has_ended (by_rounds (run_case bs))) (run_case bs) (by_rounds (run_case bs)) r o z w v
    (rounds_numbers (λ n. n ≤ 11) (λ n l. omega arith) (omega arith) bs (length o) (length w))
    (rounds_numbers (λ n. n ≡ 10 → ⊥) (λ n l e. omega arith) (λ e. omega arith) bs (length o) (length w)) s

pub checks_definite : ChecksDefinite
unfolding ChecksDefinite
checks_definite bs ts r s = subst (λ (n : ℕ). (n ≤ 8) ⊎ ((n ≡ 12) ⊎ (n ≡ 13))) (sym s.refusal)
    (check_numbers (λ n. (n ≤ 8) ⊎ ((n ≡ 12) ⊎ (n ≡ 13))) (λ n l. inl l) (inr (inl refl)) (inr (inr refl)) bs ts)
