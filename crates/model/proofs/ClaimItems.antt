-- What items of a header give with more items after them, and what items that fit say of the counts.
use mathlib.Core.Path.{◌≡◌, refl, sym, subst}
use mathlib.Core.Bool.{true, false, ◌&&◌, ◌||◌, not}
use mathlib.Core.List.{List, [], ◌∷◌, ◌++◌, append_assoc, append-nil}
use mathlib.Core.Option.{Option, none, some, get_or}
use Prim.Native.Nat.{ℕ, ◌≤◌, ◌<◌}
use native.Mathlib.Omega.{arith}
use lib.Dec.{ltb, leb}
use lib.ListN.{length}
use borrow.Author.Tests.{leb-true, ltb-true}
use Rattle.text.proofs.Tests.{clash, and_both}
use Rattle.model.specs.Run.{is_some}
use Rattle.model.specs.ClaimGrammar.{Item, states, start, propositions, acceptance, skipped, state_count, start_state, proposition_names, has_acceptance, below_given, item_fits, items_fit, most_states, most_propositions}

-- MORE ITEMS: of each kind the first counts
abbrev pub first_given : {A : Type 0} → Option A → Option A → Option A
first_given none y = y
first_given (some a) y = some a

pub given_none : {A : Type 0} (x : Option A) → first_given x none ≡ x
given_none none = refl
given_none (some a) = refl

pub count_append : (is js : List Item) → state_count (is ++ js) ≡ first_given (state_count is) (state_count js)
unfolding state_count
count_append [] js = refl
count_append (states n ∷ is) js = refl
count_append (start s ∷ is) js = count_append is js
count_append (propositions ws ∷ is) js = count_append is js
count_append (acceptance ∷ is) js = count_append is js
count_append (skipped h ts ∷ is) js = count_append is js

pub start_append : (is js : List Item) → start_state (is ++ js) ≡ first_given (start_state is) (start_state js)
unfolding start_state
start_append [] js = refl
start_append (start s ∷ is) js = refl
start_append (states n ∷ is) js = start_append is js
start_append (propositions ws ∷ is) js = start_append is js
start_append (acceptance ∷ is) js = start_append is js
start_append (skipped h ts ∷ is) js = start_append is js

pub names_append : (is js : List Item) → proposition_names (is ++ js) ≡ first_given (proposition_names is) (proposition_names js)
unfolding proposition_names
names_append [] js = refl
names_append (propositions ws ∷ is) js = refl
names_append (states n ∷ is) js = names_append is js
names_append (start s ∷ is) js = names_append is js
names_append (acceptance ∷ is) js = names_append is js
names_append (skipped h ts ∷ is) js = names_append is js

pub acceptance_append : (is js : List Item) → has_acceptance (is ++ js) ≡ (has_acceptance is || has_acceptance js)
unfolding has_acceptance
acceptance_append [] js = refl
acceptance_append (acceptance ∷ is) js = refl
acceptance_append (states n ∷ is) js = acceptance_append is js
acceptance_append (start s ∷ is) js = acceptance_append is js
acceptance_append (propositions ws ∷ is) js = acceptance_append is js
acceptance_append (skipped h ts ∷ is) js = acceptance_append is js

-- ITEMS THAT FIT: what they give is in range
abbrev pub CountSane : Option ℕ → Type 0
CountSane none = Unit {0}
CountSane (some n) = (1 ≤ n) × (n ≤ most_states)

abbrev pub StartSane : Option ℕ → Type 0
StartSane none = Unit {0}
StartSane (some s) = s < most_states

-- the start is below the count
abbrev pub Below : (count start : Option ℕ) → Type 0
Below none y = Unit {0}
Below (some n) none = Unit {0}
Below (some n) (some s) = s < n

abbrev pub FewNames : Option (List (List ℕ)) → Type 0
FewNames none = Unit {0}
FewNames (some ws) = length ws ≤ most_propositions

pub record InRange (count start : Option ℕ) (names : Option (List (List ℕ))) : Type 0 where
  pub count_sane : CountSane count
  pub start_sane : StartSane start
  pub below : Below count start
  pub few_names : FewNames names

abbrev pub Sane : List Item → Type 0
Sane is = InRange (state_count is) (start_state is) (proposition_names is)

-- an item more, of each kind
given_not : {A : Type 0} {X : Type 0} (a : A) → not (is_some (some a)) ≡ true → X
unfolding is_some
given_not a e = clash false e refl

more_count : (x y : Option ℕ) (z : Option (List (List ℕ))) (n : ℕ) → not (is_some x) ≡ true → 1 ≤ n → n ≤ most_states → below_given y n ≡ true → InRange x y z → InRange (first_given x (some n)) y z
more_count (some m) y z n e h k b g = given_not m e
more_count none none z n e h k b g = record { count_sane = (h, k); start_sane = tt; below = tt; few_names = g.few_names }
more_count none (some s) z n e h k b g = record { count_sane = (h, k); start_sane = g.start_sane; below = ltb-true s n (unfold below_given in b); few_names = g.few_names }

more_start : (x y : Option ℕ) (z : Option (List (List ℕ))) (s : ℕ) → not (is_some y) ≡ true → s < get_or x most_states → InRange x y z → InRange x (first_given y (some s)) z
more_start x (some r) z s e h g = given_not r e
more_start none none z s e h g = record { count_sane = tt; start_sane = h; below = tt; few_names = g.few_names }
more_start (some n) none z s e h g = record { count_sane = g.count_sane; start_sane = let c = g.count_sane in omega (arith, h, c.1); below = h; few_names = g.few_names }

more_names : (x y : Option ℕ) (z : Option (List (List ℕ))) (ws : List (List ℕ)) → not (is_some z) ≡ true → length ws ≤ most_propositions → InRange x y z → InRange x y (first_given z (some ws))
more_names x y (some vs) ws e h g = given_not vs e
more_names x y none ws e h g = record { count_sane = g.count_sane; start_sane = g.start_sane; below = g.below; few_names = h }

-- an item that gives only some of them
sane_by : (is : List Item) (i : Item) → InRange (first_given (state_count is) (state_count (i ∷ []))) (first_given (start_state is) (start_state (i ∷ []))) (first_given (proposition_names is) (proposition_names (i ∷ []))) → Sane (is ++ (i ∷ []))
sane_by is i g = rw (count_append is (i ∷ []), start_append is (i ∷ []), names_append is (i ∷ [])) g

sane_snoc : (is : List Item) (i : Item) → Sane is → item_fits is i ≡ true → Sane (is ++ (i ∷ []))
unfolding item_fits state_count start_state proposition_names
sane_snoc is (states n) g f =
    let a = not (is_some (state_count is)) in
    let b = leb 1 n && leb n most_states in
    let h = and_both (a && b) (below_given (start_state is) n) f in
    let k = and_both (leb 1 n) (leb n most_states) (and_both a b h.0).1 in
    sane_by is (states n) (rw (given_none (start_state is), given_none (proposition_names is)) (more_count (state_count is) (start_state is) (proposition_names is) n (and_both a b h.0).0 (leb-true 1 n k.0) (leb-true n most_states k.1) h.1 g))
sane_snoc is (start s) g f =
    let h = and_both (not (is_some (start_state is))) (ltb s (get_or (state_count is) most_states)) f in
    sane_by is (start s) (rw (given_none (state_count is), given_none (proposition_names is)) (more_start (state_count is) (start_state is) (proposition_names is) s h.0 (ltb-true s _ h.1) g))
sane_snoc is (propositions ws) g f =
    let h = and_both (not (is_some (proposition_names is))) (leb (length ws) most_propositions) f in
    sane_by is (propositions ws) (rw (given_none (state_count is), given_none (start_state is)) (more_names (state_count is) (start_state is) (proposition_names is) ws h.0 (leb-true _ most_propositions h.1) g))
sane_snoc is acceptance g f = sane_by is acceptance (rw (given_none (state_count is), given_none (start_state is), given_none (proposition_names is)) g)
sane_snoc is (skipped h ts) g f = sane_by is (skipped h ts) (rw (given_none (state_count is), given_none (start_state is), given_none (proposition_names is)) g)

sane_all : (is js : List Item) → Sane is → items_fit is js ≡ true → Sane (is ++ js)
unfolding items_fit
sane_all is [] g f = subst (λ (x : List Item). Sane x) (sym (append-nil is)) g
sane_all is (j ∷ js) g f =
    subst (λ (x : List Item). Sane x) (append_assoc is (j ∷ []) js)
    (sane_all (is ++ (j ∷ [])) js (sane_snoc is j g (and_both (item_fits is j) _ f).0) (and_both (item_fits is j) _ f).1)

pub sane : (is : List Item) → items_fit [] is ≡ true → Sane is
sane is e = sane_all [] is (unfold state_count start_state proposition_names in record { count_sane = tt; start_sane = tt; below = tt; few_names = tt }) e
