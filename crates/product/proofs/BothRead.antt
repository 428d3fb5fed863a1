-- A chart and a claim read into their tables, and what is returned where one of them is refused. Assumes nothing.
use mathlib.Core.Path.{◌≡◌, refl, sym, ap, ◌∙◌}
use Rattle.std.specs.Prelude.{Result, Ok, Err}
use mathlib.Core.Bool.{false, cond}
use mathlib.Core.List.{List}
use mathlib.Core.Logic.{◌⊎◌, inl, inr}
use Prim.Native.Nat.{ℕ, ◌+◌, ◌*◌, ◌^◌, ◌≤◌, ◌<◌}
use native.Mathlib.Nat.{mul-le-mul, pow-le-pow_right}
use native.Mathlib.Omega.{arith}
use lib.Dec.{eqb, lit<}
use lib.ListN.{length, get_or}
use borrow.Author.Tests.{eq-eqb, ne_eqb}
use Rattle.model.specs.CaseFile.{refuse, first_of}
use Rattle.model.specs.ClaimGrammar.{most_states}
use Rattle.model.specs.ClaimTable.{claim_refusal}
use Rattle.model.specs.Claim.{claim_in, ClaimSound}
use Rattle.model.specs.ClaimPromise.{ClaimsDefinite, ClaimsRight}
use Rattle.model.specs.Chart.{most_modes, most_flags, charted, combinations, next_mode, chart_in, chart_says, ChartSound}
use Rattle.model.specs.ChartPromise.{ChartDefinite, ChartsDefinite, ChartsSound}
use Rattle.model.specs.BuiltEntry.{names_pair, BuiltSays}
use Rattle.model.specs.declared.Charted.{Charted}
use Rattle.model.specs.Refusals.{number}
use Rattle.model.specs.declared.refusal.Refusal.{Refusal}
use Rattle.model.specs.declared.refusal.Refusal.TheVariants.{CountsDiffer}
use Rattle.model.proofs.Pairs.{pair_below}
use Rattle.model.proofs.ClaimDefinite.{claims_definite}
use Rattle.model.proofs.ClaimWhole.{claims_right}
use Rattle.model.proofs.Charts.{charts_definite}
use Rattle.model.proofs.ChartSound.{charts_sound}
use Rattle.claim.specs.Cells.{ClaimHeld}
use Rattle.claim.specs.Judging.{counts_of, judged_claim, ClaimRead}
use Rattle.claim.specs.declared.Counts.{Counts}
use Rattle.claim.proofs.EntryCode.{SomeClaim, judged_by}
use Rattle.chart.specs.Pairs.{table_after, most_combinations, most_pairs, one_rule}
use Rattle.chart.specs.Reading.{counts_in, returned, ChartRead}
use Rattle.chart.specs.declared.Chart as D
use Rattle.chart.specs.declared.NoChart.{NoChart}
use Rattle.chart.specs.declared.NoChart.TheVariants.{Fault, Bad}
use Rattle.chart.proofs.Whole.{PassedRead, passed_read, bad_read, read_returns, handed_at}
use Rattle.product.specs.Edges.{most_product, Leads, Asks}
use Rattle.product.specs.Refused.{refused_as, refused_by, refused_pair, refused_chart, built_as}
use Rattle.product.specs.Both.{texts_refusal, BothAsks, BothHeld, BothRefused}

-- WHICH REFUSAL of both texts comes first
module _ (bs cs : List ℕ) where
  by_chart : ((chart_says bs).refusal ≡ 0 → ⊥) → texts_refusal bs cs ≡ (chart_says bs).refusal
  unfolding texts_refusal first_of
  by_chart n = rw (ne_eqb (chart_says bs).refusal 0 n) refl

  module _ (passes : (chart_says bs).refusal ≡ 0) where
    by_claim : (claim_refusal cs ≡ 0 → ⊥) → texts_refusal bs cs ≡ claim_refusal cs
    unfolding texts_refusal first_of
    by_claim n = rw (eq-eqb (chart_says bs).refusal 0 passes, ne_eqb (claim_refusal cs) 0 n) refl

    module _ (taken : claim_refusal cs ≡ 0) where
      by_counts : ((claim_in cs).propositions ≡ (chart_in bs).flags → ⊥) → texts_refusal bs cs ≡ 20
      unfolding texts_refusal first_of refuse
      by_counts n = rw (eq-eqb (chart_says bs).refusal 0 passes, eq-eqb (claim_refusal cs) 0 taken, ne_eqb (claim_in cs).propositions (chart_in bs).flags n) refl

      by_none : (claim_in cs).propositions ≡ (chart_in bs).flags → texts_refusal bs cs ≡ 0
      unfolding texts_refusal first_of refuse
      by_none e = rw (eq-eqb (chart_says bs).refusal 0 passes, eq-eqb (claim_refusal cs) 0 taken, eq-eqb (claim_in cs).propositions (chart_in bs).flags e) refl

-- WHAT IS RETURNED: with 18 and 19 the pair, else none
pub plain_says : (k : ℕ) → eqb k 0 ≡ false → names_pair k ≡ false → (c : Charted) (t o : List ℕ) → BuiltSays k c t (built_as (Err (refused_as k))) o o
plain_says k n p c t o = record { refusal = refl; mode = rw p refl; combination = rw p refl; written = rw n refl; output = rw n refl }

pub unpaired : (k : ℕ) → (k ≡ 18 → ⊥) → (k ≡ 19 → ⊥) → names_pair k ≡ false
unfolding names_pair
unpaired k p q = rw (ne_eqb k 18 p, ne_eqb k 19 q) refl

pair_says : (c : Charted) → ChartDefinite c → (c.refusal ≡ 0 → ⊥) → (t o : List ℕ) → BuiltSays c.refusal c t (built_as (Err (refused_pair c))) o o
unfolding names_pair
pair_says c d n t o =
    record { refusal = refl; mode = shown c.mode (λ z. (d.no_pair z).0) d.listed; combination = shown c.combination (λ z. (d.no_pair z).1) d.listed; written = rw (ne_eqb c.refusal 0 n) refl; output = rw (ne_eqb c.refusal 0 n) refl }
  where
    shown : (x : ℕ) → ((c.refusal ≡ 0) ⊎ (c.refusal ≡ 17) → x ≡ 0) → (c.refusal ≡ 0) ⊎ (c.refusal ≡ 17) ⊎ (c.refusal ≡ 18) ⊎ (c.refusal ≡ 19) → x ≡ cond (names_pair c.refusal) x 0
    shown x z (inl e) = absurd (n e)
    shown x z (inr (inl e)) = unfold names_pair in (rw e (z (inr e)))
    shown x z (inr (inr (inl e))) = unfold names_pair in (rw e refl)
    shown x z (inr (inr (inr e))) = unfold names_pair in (rw e refl)

chart_refused : (bs cs : List ℕ) (c : Charted) → chart_says bs ≡ c → (c.refusal ≡ 0 → ⊥) → BothRefused bs cs (refused_pair c)
unfolding ChartsDefinite
chart_refused bs cs c e n =
    let k : texts_refusal bs cs ≡ c.refusal = by_chart bs cs (λ z. n (sym (ap (λ (x : Charted). x.refusal) e) ∙ z)) ∙ ap (λ (x : Charted). x.refusal) e in
    record { fails = λ z. n (sym k ∙ z); says = λ t o. rw (k, e) (pair_says c (rw e at (charts_definite bs)) n t o) }

pub chart_no : (bs cs : List ℕ) (n : NoChart) {t t' : List ℕ} → ChartRead bs (Err n) t t' → BothRefused bs cs (refused_chart n)
unfolding returned
chart_no bs cs Fault g = chart_refused bs cs (charted 17 0 0) (sym (read_returns g refl)) (λ z. omega arith)
chart_no bs cs (Bad h c) g = let b = bad_read g refl in chart_refused bs cs c b.said (not_zero b.refusal)
  where
    not_zero : (c.refusal ≡ 18) ⊎ (c.refusal ≡ 19) → c.refusal ≡ 0 → ⊥
    not_zero (inl e) z = omega arith
    not_zero (inr e) z = omega arith

-- AFTER AN ACCEPTED CHART
module _ (bs cs : List ℕ) {t follow : List ℕ} {x : D.Chart} (g : ChartRead bs (Ok x) t follow) where
  read : PassedRead bs x
  read = passed_read g refl

  module _ {w cells : List ℕ} {k : Refusal} (d : ClaimRead cs (Err k) w cells) where
    number_is : number k ≡ claim_refusal cs
    number_is = (judged_by cs (Err k) (Err k) d.answer refl).by_number

    not_taken : claim_refusal cs ≡ 0 → ⊥
    unfolding judged_claim
    not_taken e =
        let z : ◌≡◌ {A = Result Counts Refusal} (Err k) (Ok (counts_of (claim_in cs))) = rw (eq-eqb (claim_refusal cs) 0 e) at d.answer in
        cc

    in_claim : 14 ≤ claim_refusal cs → claim_refusal cs ≤ 16 → BothRefused bs cs (refused_by k)
    in_claim u v =
        let e : texts_refusal bs cs ≡ number k = by_claim bs cs read.passes not_taken ∙ sym number_is in
        record {
          fails = λ z. omega (arith, e, number_is);
          says = λ t o. rw e (plain_says (number k) (ne_eqb (number k) 0 (λ z. omega (arith, number_is))) (unpaired (number k) (λ z. omega (arith, number_is)) (λ z. omega (arith, number_is))) (chart_says bs) t o);
        }

    pub claim_refused : BothRefused bs cs (refused_by k)
    unfolding ClaimsDefinite
    claim_refused = go (claims_definite cs)
      where
        go : (claim_refusal cs ≡ 0) ⊎ ((claim_refusal cs ≡ 14) ⊎ ((claim_refusal cs ≡ 15) ⊎ (claim_refusal cs ≡ 16))) → BothRefused bs cs (refused_by k)
        go (inl e) = absurd (not_taken e)
        go (inr (inl e)) = in_claim (omega arith) (omega arith)
        go (inr (inr (inl e))) = in_claim (omega arith) (omega arith)
        go (inr (inr (inr e))) = in_claim (omega arith) (omega arith)

  module _ {w cells : List ℕ} {c : Counts} (d : ClaimRead cs (Ok c) w cells) where
    taken : SomeClaim cs c
    taken = judged_by cs (Ok c) (Ok c) d.answer refl

    flags_are : (chart_in bs).flags ≡ x.flags
    unfolding chart_in counts_in
    flags_are = ap (λ (y : D.Chart). y.flags) read.counts

    modes_are : (chart_in bs).modes ≡ x.modes
    unfolding chart_in counts_in
    modes_are = ap (λ (y : D.Chart). y.modes) read.counts

    start_is : (chart_in bs).start ≡ x.start
    unfolding chart_in counts_in
    start_is = ap (λ (y : D.Chart). y.start) read.counts

    propositions_are : (claim_in cs).propositions ≡ c.propositions
    unfolding counts_of
    propositions_are = sym (ap (λ (y : Counts). y.propositions) taken.counts)

    states_are : c.states ≡ length (claim_in cs).states
    unfolding counts_of
    states_are = ap (λ (y : Counts). y.states) taken.counts

    first_is : c.start ≡ (claim_in cs).start
    unfolding counts_of
    first_is = ap (λ (y : Counts). y.start) taken.counts

    pub counts_refused : (c.propositions ≡ x.flags → ⊥) → BothRefused bs cs (refused_by CountsDiffer)
    unfolding names_pair
    counts_refused n =
        let k : texts_refusal bs cs ≡ 20 = by_counts bs cs read.passes taken.by_number (λ e. n (sym propositions_are ∙ e ∙ flags_are)) in
        record { fails = λ z. omega (arith, k); says = λ t o. rw k (plain_says 20 refl refl (chart_says bs) t o) }

    sound : ChartSound (chart_in bs)
    unfolding ChartsSound
    sound = charts_sound bs read.passes

    claim_sound : ClaimSound (claim_in cs)
    unfolding ClaimsRight
    claim_sound = (claims_right cs taken.by_number).sound

    pub few_flags : x.flags ≤ most_flags
    few_flags = omega (arith, sound.flags, flags_are)

    few_values : 2 ^ x.flags ≤ most_combinations
    few_values = pow-le-pow_right {n = 2} (lit< tt) few_flags

    combinations_are : combinations (chart_in bs) ≡ 2 ^ x.flags
    unfolding combinations
    combinations_are = ap (λ (n : ℕ). 2 ^ n) flags_are

    -- the product's counts fit
    few_vertices : x.modes * c.states ≤ most_product
    few_vertices =
        let a : x.modes ≤ most_modes = omega (arith, sound.modes, modes_are) in
        let b : c.states ≤ most_states = omega (arith, claim_sound.states, states_are) in
        mul-le-mul a b

    pub source_fits : x.start * c.states + c.start < most_product
    source_fits =
        omega (
          arith,
          few_vertices,
          pair_below c.states x.start c.start x.modes (omega (arith, claim_sound.start, states_are, first_is)) (omega (arith, sound.start, modes_are, start_is)),
        )

    few_pairs : x.modes * 2 ^ x.flags ≤ most_pairs
    few_pairs = let a : x.modes ≤ most_modes = omega (arith, sound.modes, modes_are) in mul-le-mul a few_values

    module _ (a : BothAsks t w) (kept : length follow ≡ length t) (long : length cells ≡ length w) where
      held : ClaimHeld cs (claim_in cs) cells
      held = d.held a.cells_long

      entry : (m f : ℕ) → m < x.modes → f < 2 ^ x.flags → get_or follow (m * 2 ^ x.flags + f) 0 ≡ next_mode (chart_in bs) m f + one_rule
      entry m f u v =
          let same : (chart_in bs).modes * combinations (chart_in bs) ≡ x.modes * 2 ^ x.flags = ap (λ (n : ℕ). n * combinations (chart_in bs)) modes_are ∙ ap (λ (n : ℕ). x.modes * n) combinations_are in
          let room : (chart_in bs).modes * combinations (chart_in bs) ≤ length t = omega (arith, same, few_pairs, a.follow_long) in
          ap (λ (l : List ℕ). get_or l (m * 2 ^ x.flags + f) 0) g.table ∙ ap (λ (n : ℕ). get_or (table_after bs t) (m * n + f) 0) (sym combinations_are)
          ∙ handed_at bs t read.passes room m f (omega (arith, modes_are)) (omega (arith, combinations_are))

      leads : (m f : ℕ) → m < x.modes → f < 2 ^ x.flags → Leads (get_or follow (m * 2 ^ x.flags + f) 0)
      leads m f u v = record { from = omega (arith, entry m f u v); below = omega (arith, entry m f u v, sound.next m f, sound.modes) }

      asks : (n source : ℕ) → n ≡ 2 ^ x.flags → Asks (record { modes = x.modes; states = c.states; count = n; source = source }) follow cells
      asks n source m = rw m
          (record {
            some_states = omega (arith, claim_sound.start, states_are);
            few_states = omega (arith, claim_sound.states, states_are);
            few_modes = omega (arith, sound.modes, modes_are);
            few_values = few_values;
            pairs = omega (arith, few_pairs, a.follow_long);
            roomy = omega (arith, a.cells_long);
            leads = leads;
          })

      pub both_held : c.propositions ≡ x.flags → {n : ℕ} → n ≡ 2 ^ x.flags → BothHeld bs cs (record { modes = x.modes; states = c.states; count = n; source = x.start * c.states + c.start }) follow cells
      both_held e {n} m =
          record {
            passes = by_none bs cs read.passes taken.by_number (propositions_are ∙ e ∙ sym flags_are);
            held = record {
              given = record {
                of_modes = sym modes_are;
                of_states = states_are;
                of_flags = m ∙ sym combinations_are;
                next = rw m entry;
                goes = λ s f u v i. held.moves s f i (omega (arith, claim_sound.states, states_are)) (omega (arith, few_values));
              };
              source = rw (start_is, ← states_are, ← first_is) refl;
              marks = λ s u. held.marks s (omega (arith, claim_sound.states));
            };
            claim = held;
            tables = asks n _ m;
            near = omega (arith, source_fits);
          }
