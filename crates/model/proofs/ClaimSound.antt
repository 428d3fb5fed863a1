-- The claim of a tree within the limits is sound.
use mathlib.Core.Path.{◌≡◌, refl, sym, ap, subst, ◌∙◌}
use mathlib.Core.Bool.{Bool, true, false, ◌&&◌, not, cond}
use mathlib.Core.List.{List, [], ◌∷◌, ◌++◌}
use mathlib.Core.Option
use mathlib.Core.Option.{Option, none, some}
use Prim.Native.Nat.{ℕ, zero, suc, ◌+◌, ◌≤◌, ◌<◌}
use native.Mathlib.Nat.{zero-add}
use native.Mathlib.Omega.{arith}
use lib.Dec.{ltb, leb, eqb}
use lib.ListN.{length, get_or}
use borrow.Author.Tests.{leb-true, ltb-true, ltb-false, ne_eqb, not-true}
use Rattle.text.specs.Ascii.{line_feed}
use Rattle.text.proofs.Tests.{and_both, or_false, clash}
use Rattle.model.specs.Run.{member, is_some}
use Rattle.model.specs.ClaimGrammar.{Edge, State, Syntax, state_count, start_state, proposition_names, has_acceptance, count_in, propositions_in, header_whole, items_fit, title_fits, marks_fit, edge_fits, edges_fit, has_line, state_fits, states_fit, taken, most_states, most_propositions, longest_title}
use Rattle.model.specs.ClaimLabels.{label_depth, label_within, deepest}
use Rattle.model.specs.ClaimTable.{bare}
use Rattle.model.specs.Claim.{ClaimState, is_marked, state, some_target, claim_leads, edges_of, state_of_line, line_of, states_from, claim_of, ClaimSound}
use Rattle.model.proofs.ClaimItems.{Below, CountSane, FewNames, sane}

-- STATES by number
pub length_states : (m c : ℕ) (ss : List State) → length (states_from m c ss) ≡ m
unfolding states_from
length_states zero c ss = refl
length_states (suc m) c ss = omega (arith, length_states m (suc c) ss)

abbrev no_state : ClaimState
no_state = record { name = none; accepting = false; edges = [] }

pub state_from : (m b c : ℕ) (ss : List State) → c < m → get_or (states_from m b ss) c no_state ≡ state_of_line (line_of (b + c) ss)
unfolding states_from
state_from zero b c ss h = absurd (omega (arith, h))
state_from (suc m) b zero ss h = let e : b + 0 ≡ b = omega arith in rw e refl
state_from (suc m) b (suc c) ss h = let e : b + suc c ≡ suc b + c = omega arith in rw e (state_from m (suc b) c ss (omega (arith, h)))

state_past : (m b c : ℕ) (ss : List State) → m ≤ c → get_or (states_from m b ss) c no_state ≡ no_state
unfolding states_from
state_past zero b c ss h = refl
state_past (suc m) b zero ss h = absurd (omega (arith, h))
state_past (suc m) b (suc c) ss h = state_past m (suc b) c ss (omega (arith, h))

-- LINES THAT FIT: each has a name that fits, and targets that are states
record LineSane (n : ℕ) (s : State) : Type 0 where
  title : title_fits s.title ≡ true
  targets : (d : ℕ) → n ≤ d → some_target (edges_of s.edges) d ≡ false

targets_low : (n k d : ℕ) (es : List Edge) → edges_fit n k es ≡ true → n ≤ d → some_target (edges_of es) d ≡ false
unfolding edges_fit edge_fits edges_of some_target
targets_low n k d [] f h = refl
targets_low n k d (e ∷ es) f h =
    let p = and_both (edge_fits n k e) (edges_fit n k es) f in
    let q = and_both (leb (label_depth e.label) deepest && label_within k e.label) (ltb e.to n) p.0 in
    let t : e.to < n = ltb-true e.to n q.1 in
    rw (ne_eqb e.to d (λ w. absurd (omega (arith, t, h, w)))) (targets_low n k d es p.1 h)

line_sane : (n k : ℕ) (bs : List State) (s : State) → state_fits n k bs s ≡ true → LineSane n s
unfolding state_fits
line_sane n k bs s f =
    let a = ltb s.number n && not (has_line s.number bs) in
    let b = title_fits s.title && marks_fit s.marks in
    let p = and_both (a && b) (edges_fit n k s.edges) f in
    let q = and_both (title_fits s.title) (marks_fit s.marks) (and_both a b p.0).1 in
    record { title = q.0; targets = λ d h. targets_low n k d s.edges p.1 h }

bare_sane : (n c : ℕ) → LineSane n (bare c none none)
unfolding title_fits edges_of some_target
bare_sane n c = record { title = refl; targets = λ d h. refl }

lines_sane : (n k c : ℕ) (bs ss : List State) → states_fit n k bs ss ≡ true → LineSane n (line_of c ss)
unfolding states_fit line_of
lines_sane n k c bs [] f = bare_sane n c
lines_sane n k c bs (s ∷ ss) f =
    let p = and_both (state_fits n k bs s) (states_fit n k (bs ++ (s ∷ [])) ss) f in
    pick (eqb c s.number) (line_sane n k bs s p.0) (lines_sane n k c (bs ++ (s ∷ [])) ss p.1)
  where
    pick : (b : Bool) → LineSane n s → LineSane n (line_of c ss) → LineSane n (cond b s (line_of c ss))
    pick true p q = p
    pick false p q = q

-- no line is of a number that is no state
lines_low : (n k c : ℕ) (bs ss : List State) → states_fit n k bs ss ≡ true → n ≤ c → has_line c ss ≡ false
unfolding states_fit state_fits has_line
lines_low n k c bs [] f h = refl
lines_low n k c bs (s ∷ ss) f h =
    let a = ltb s.number n && not (has_line s.number bs) in
    let b = title_fits s.title && marks_fit s.marks in
    let p = and_both (state_fits n k bs s) (states_fit n k (bs ++ (s ∷ [])) ss) f in
    let q = and_both (a && b) (edges_fit n k s.edges) p.0 in
    let t : s.number < n = ltb-true s.number n (and_both (ltb s.number n) (not (has_line s.number bs)) (and_both a b q.0).0).0 in
    rw (ne_eqb c s.number (λ e. absurd (omega (arith, t, h, e)))) (lines_low n k c (bs ++ (s ∷ [])) ss p.1 h)

pub line_bare : (ss : List State) (c : ℕ) → has_line c ss ≡ false → line_of c ss ≡ bare c none none
unfolding line_of has_line
line_bare [] c h = refl
line_bare (k ∷ ss) c h = let p = or_false (eqb c k.number) (has_line c ss) h in rw p.0 (line_bare ss c p.1)

title_short : (w : List ℕ) → title_fits (some w) ≡ true → (length w ≤ longest_title) × (member line_feed w ≡ false)
unfolding title_fits
title_short w f = let p = and_both (leb (length w) longest_title) (not (member line_feed w)) f in (leb-true _ _ p.0, not-true _ p.1)

count_given : (x y : Option ℕ) → is_some x ≡ true → is_some y ≡ true → Below x y → Option.get_or y 0 < Option.get_or x 0
unfolding is_some
count_given none y e f h = clash false e refl
count_given (some n) none e f h = clash false f refl
count_given (some n) (some s) e f h = h

count_few : (x : Option ℕ) → CountSane x → Option.get_or x 0 ≤ most_states
count_few none h = omega arith
count_few (some n) h = h.1

names_few : (x : Option (List (List ℕ))) → FewNames x → length (Option.get_or x []) ≤ most_propositions
names_few none h = omega arith
names_few (some ws) h = h

module _ (a : Syntax) (ok : taken a ≡ true) where
  abbrev n : ℕ
  n = count_in a.items

  abbrev k : ℕ
  k = propositions_in a.items

  record Parts : Type 0 where
    items_ok : items_fit [] a.items ≡ true
    whole_ok : header_whole a.items ≡ true
    lines_ok : states_fit n k [] a.states ≡ true

  parts : Parts
  parts =
      let p = items_fit [] a.items && header_whole a.items in
      let q = states_fit n k [] a.states && eqb (length a.states) n in
      let h = and_both p q (unfold taken in ok) in
      let u = and_both (items_fit [] a.items) (header_whole a.items) h.0 in
      record { items_ok = u.0; whole_ok = u.1; lines_ok = (and_both (states_fit n k [] a.states) (eqb (length a.states) n) h.1).0 }

  all_states : length (claim_of a).states ≡ n
  unfolding claim_of
  all_states = length_states n 0 a.states

  -- every state is its line's, bare past the last
  pub state_is_line : (c : ℕ) → state (claim_of a) c ≡ state_of_line (line_of c a.states)
  unfolding state claim_of
  state_is_line c = pick (ltb c n) refl
    where
      bare_state : (v : ℕ) → state_of_line (bare v none none) ≡ no_state
      bare_state v = unfold state_of_line is_marked edges_of in refl

      pick : (b : Bool) → ltb c n ≡ b → get_or (states_from n 0 a.states) c no_state ≡ state_of_line (line_of c a.states)
      pick true e = state_from n 0 c a.states (ltb-true c n e) ∙ ap (λ (i : ℕ). state_of_line (line_of i a.states)) (zero-add c)
      pick false e = state_past n 0 c a.states (ltb-false c n e) ∙ sym (ap state_of_line (line_bare a.states c (lines_low n k c [] a.states parts.lines_ok (ltb-false c n e))) ∙ bare_state c)

  line_right : (c : ℕ) → LineSane n (line_of c a.states)
  line_right c = lines_sane n k c [] a.states parts.lines_ok

  few_states : length (claim_of a).states ≤ most_states
  few_states = subst (λ (m : ℕ). m ≤ most_states) (sym all_states) (unfold count_in in count_few (state_count a.items) (sane a.items parts.items_ok).count_sane)

  start_low : (claim_of a).start < length (claim_of a).states
  start_low = subst (λ (m : ℕ). (claim_of a).start < m) (sym all_states) low
    where
      low : (claim_of a).start < n
      low =
          let g = and_both (is_some (state_count a.items) && is_some (start_state a.items)) (has_acceptance a.items) (unfold header_whole in parts.whole_ok) in
          let h = and_both (is_some (state_count a.items)) (is_some (start_state a.items)) g.0 in
          unfold claim_of count_in in count_given (state_count a.items) (start_state a.items) h.0 h.1 (sane a.items parts.items_ok).below

  few_propositions : (claim_of a).propositions ≤ most_propositions
  few_propositions = unfold claim_of propositions_in in names_few (proposition_names a.items) (sane a.items parts.items_ok).few_names

  named : (c : ℕ) (w : List ℕ) → (state (claim_of a) c).name ≡ some w → title_fits (some w) ≡ true
  unfolding state_of_line
  named c w e = subst (λ (o : Option (List ℕ)). title_fits o ≡ true) (sym (ap (λ (x : ClaimState). x.name) (state_is_line c)) ∙ e) (line_right c).title

  low_targets : (c d : ℕ) → length (claim_of a).states ≤ d → claim_leads (claim_of a) c d ≡ false
  unfolding claim_leads state_of_line
  low_targets c d h = ap (λ (x : ClaimState). some_target x.edges d) (state_is_line c) ∙ (line_right c).targets d (subst (λ (m : ℕ). m ≤ d) all_states h)

  pub taken_sound : ClaimSound (claim_of a)
  taken_sound =
      record {
        states = few_states;
        start = start_low;
        propositions = few_propositions;
        names = λ c w e. (title_short w (named c w e)).0;
        one_line = λ c w e. (title_short w (named c w e)).1;
        targets = low_targets;
      }
