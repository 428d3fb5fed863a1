-- A refused text is refused where it can first be told: every place that is reached goes on to a taken text, and no taken
-- text goes on with a token that is refused there.
use Rattle.model.specs.Run.{is_some}
use mathlib.Core.Path.{◌≡◌, refl, sym, ap, subst, ◌∙◌}
use mathlib.Core.Bool.{Bool, true, false, ◌&&◌, ◌||◌, not, cond}
use mathlib.Core.List.{List, [], ◌∷◌, ◌++◌}
use mathlib.Core.Option.{Option, none, some, get_or}
use Prim.Native.Nat.{ℕ, zero, suc, ◌+◌, ◌-◌, ◌≤◌, ◌<◌}
use native.Mathlib.Omega.{arith}
use lib.Dec.{ltb, eqb}
use lib.ListN.{length, length-append}
use borrow.Author.Tests.{eqb-true, eqb-false, eq-eqb, lt-ltb, le-ltb, ltb-true}
use Rattle.text.specs.Ascii.{ascii}
use Rattle.text.specs.Lines.{equal}
use Rattle.text.proofs.Tests.{both_true}
use Rattle.model.specs.ClaimTokens.{Token, name, header, number, string, body_mark, end_mark, is_header, is_name}
use Rattle.model.specs.ClaimLabels.{or_level, and_level, Label, always, bracketed, Under, stands, negations, extend, close_or, with_atom, on_name, atom_step, operator_step, close_step, close_label, open_bracket, close_bracket, close_mark, Reading, due, LabelNext, on, label_ends, broken, label_step, label_told, LabelRead, label_is, no_label}
use Rattle.model.specs.ClaimGrammar.{Item, states, start, propositions, acceptance, skipped, item_tokens, State, state_tokens, Syntax, item_fits, header_whole, state_count, start_state, has_acceptance, count_in, propositions_in, has_line, states_fit, most_states, below_given}
use Rattle.model.specs.ClaimTable.{Last, whole, after_start, after_acceptance, Part, numbered, marked, edged, bare, state_of, Line, Place, opening, version, in_items, in_skipped, wants_count, wants_start, wants_propositions, wants_names, wants_sets, wants_inf, wants_open, wants_set, wants_close, in_lines, wants_state, in_line, in_marks, in_label, wants_target, complete, Next, go, fault, on_number, on_string, is_sign, snoc, with_item, named, with_edge, from_label, step, ended, told, Told, taken_as, refused}
use Rattle.model.proofs.ClaimSpelling.{taken_spelled}
use Rattle.model.proofs.ClaimComplete.{head_read, Boundary, at_body, items_boundary, skipped_boundary, item_read, item_begins, line_read, LineEnd, at_state, at_end, part_end, finish, through_label, state_read, body_read, lines_read, end_read, taken_read}
use Rattle.model.proofs.ClaimLabels.{Fits, stays}
use Rattle.model.specs.ClaimPromise.{reached, FaultsFirst}
use Rattle.model.proofs.ClaimItems.{first_given, count_append, start_append, acceptance_append, CountSane, StartSane, Sane, sane}
use Rattle.model.proofs.ClaimGood.{LabelGood, good_label, Good, GoodNext, good_step, told_taken, ItemsGood, BodyGood, LineGood, item_more, line_more, fresh_fits, accepts}

-- LINES THAT ARE MISSING
unfoldable missing_count : ℕ → List State → ℕ
missing_count zero ss = 0
missing_count (suc n) ss = cond (has_line n ss) 0 1 + missing_count n ss

none_there : (n : ℕ) → missing_count n [] ≡ n
unfolding missing_count has_line
none_there zero = refl
none_there (suc n) = omega (arith, none_there n)

at_most_one : (b : Bool) → cond b 0 1 ≤ 1
at_most_one true = omega arith
at_most_one false = omega arith

same_test : (v n : ℕ) → (n ≡ v → ⊥) → cond (ltb v n) 1 0 ≤ cond (ltb v (suc n)) 1 0
same_test v n d = pick (ltb v n) refl
  where
    pick : (b : Bool) → ltb v n ≡ b → cond b 1 0 ≤ cond (ltb v (suc n)) 1 0
    pick true e = rw (lt-ltb v (suc n) (omega (arith, ltb-true v n e))) (omega arith)
    pick false e = omega arith

one_less : (n : ℕ) (s : State) (ss : List State) → missing_count n ss ≤ missing_count n (s ∷ ss) + cond (ltb s.number n) 1 0
unfolding missing_count has_line
one_less zero s ss = omega arith
one_less (suc n) s ss = go (eqb n s.number) refl (one_less n s ss)
  where
    go : (b : Bool) → eqb n s.number ≡ b → missing_count n ss ≤ missing_count n (s ∷ ss) + cond (ltb s.number n) 1 0 → cond (has_line n ss) 0 1 + missing_count n ss ≤ (cond (b || has_line n ss) 0 1 + missing_count n (s ∷ ss)) + cond (ltb s.number (suc n)) 1 0
    go true e h =
        let q : n ≡ s.number = eqb-true n s.number e in
        let x : ltb s.number (suc n) ≡ true = lt-ltb s.number (suc n) (omega arith) in
        let y : ltb s.number n ≡ false = le-ltb s.number n (omega arith) in
        rw x (let h' : missing_count n ss ≤ missing_count n (s ∷ ss) + 0 = subst (λ (b : Bool). missing_count n ss ≤ missing_count n (s ∷ ss) + cond b 1 0) y h in omega (arith, h', at_most_one (has_line n ss)))
    go false e h = omega (arith, h, same_test s.number n (eqb-false n s.number e))

below_one : (b : Bool) → cond b 1 0 ≤ 1
below_one true = omega arith
below_one false = omega arith

enough_missing : (n : ℕ) (ss : List State) → n ≤ missing_count n ss + length ss
enough_missing n [] = omega (arith, none_there n)
enough_missing n (s ∷ ss) = omega (arith, enough_missing n ss, one_less n s ss, below_one (ltb s.number n))

record Missing (n : ℕ) (ss : List State) : Type 0 where
  state : ℕ
  below : state < n
  unlisted : has_line state ss ≡ false

find_missing : (n : ℕ) (ss : List State) → 1 ≤ missing_count n ss → Missing n ss
unfolding missing_count
find_missing zero ss h = absurd (omega (arith, h))
find_missing (suc n) ss h = pick (has_line n ss) refl h (λ k. find_missing n ss k)
  where
    pick : (b : Bool) → has_line n ss ≡ b → 1 ≤ cond b 0 1 + missing_count n ss → (1 ≤ missing_count n ss → Missing n ss) → Missing (suc n) ss
    pick true e h r = let m = r (omega (arith, h)) in record { state = m.state; below = omega (arith, m.below); unlisted = m.unlisted }
    pick false e h r = record { state = n; below = omega arith; unlisted = e }

missing : (n : ℕ) (ss : List State) → length ss < n → Missing n ss
missing n ss h = find_missing n ss (omega (arith, h, enough_missing n ss))

free_number : (n v : ℕ) (ss : List State) → v < n → has_line v ss ≡ false → (ltb v n && not (has_line v ss)) ≡ true
free_number n v ss h e = both_true (ltb v n) (not (has_line v ss)) (lt-ltb v n h) (rw e refl)

-- THE REST OF A BODY: lines that are missing, and the end
record Ends (is : List Item) (ss : List State) : Type 0 where
  rest : List Token
  ends_line : LineEnd rest
  tree : Syntax
  comes : line_read is ss rest ≡ taken_as tree

ends_body : (m : ℕ) (is : List Item) (ss : List State) → BodyGood is ss → length ss + m ≡ count_in is → Ends is ss
ends_body zero is ss g e =
    record { rest = end_mark ∷ []; ends_line = at_end []; tree = record { items = is; states = ss }; comes = end_read is ss (eq-eqb (length ss) (count_in is) (omega (arith, e))) }
ends_body (suc m) is ss g e =
    let h : length ss < count_in is = omega (arith, e) in
    let v = missing (count_in is) ss h in
    let f = fresh_fits (count_in is) (propositions_in is) ss v.state (free_number (count_in is) v.state ss v.below v.unlisted) in
    let s = bare v.state none none in
    let r = ends_body m is (snoc ss s) (line_more is ss s (record { body = g; room = h; state_good = f })) (one_longer ss s m (count_in is) e) in
    record { rest = state_tokens s ++ r.rest; ends_line = begins s r.rest; tree = r.tree; comes = state_read is ss s r.rest r.ends_line h f ∙ r.comes }
  where
    one_longer : (ss : List State) (s : State) (m n : ℕ) → length ss + suc m ≡ n → length (snoc ss s) + m ≡ n
    one_longer ss s m n e = (simp length-append (omega (arith, e)))

    begins : (s : State) (r : List Token) → LineEnd (state_tokens s ++ r)
    begins s r = unfold state_tokens in at_state _ _

-- a text goes on from a place
pub record GoesOn (p : Place) : Type 0 where
  pub rest : List Token
  pub tree : Syntax
  pub comes : told (go p) rest ≡ taken_as tree

lines_go : (is : List Item) (ss : List State) → BodyGood is ss → GoesOn (in_lines is ss)
lines_go is ss g =
    let r = ends_body (count_in is - length ss) is ss g (omega (arith, g.few)) in
    record { rest = r.rest; tree = r.tree; comes = lines_read is ss r.rest ∙ r.comes }

line_goes : (is : List Item) (ss : List State) (p : Part) → LineGood is ss (state_of p) → GoesOn (in_line is ss p)
line_goes is ss p g =
    let b = line_more is ss (state_of p) g in
    let r = ends_body (count_in is - length (snoc ss (state_of p))) is (snoc ss (state_of p)) b (omega (arith, b.few)) in
    record { rest = r.rest; tree = r.tree; comes = part_end is ss p r.rest r.ends_line ∙ r.comes }

-- one token, and then from the place that it leads to
one_more : (p q : Place) (t : Token) → step p t ≡ go q → GoesOn q → GoesOn p
one_more p q t e r = record { rest = t ∷ r.rest; tree = r.tree; comes = first p q t r.rest e ∙ r.comes }
  where
    first : (p q : Place) (t : Token) (ts : List Token) → step p t ≡ go q → told (go p) (t ∷ ts) ≡ told (go q) ts
    first p q t ts e = unfold told in (rw (told, e) refl)

-- LABELS: brackets close, and the label ends
record LabelGoes (k : ℕ) (r : Reading) : Type 0 where
  rest : List Token
  label : Label or_level
  comes : (ts : List Token) → label_told k (on r) (rest ++ ts) ≡ label_is label ts

stands_goes : (k : ℕ) (us : List Under) (o : Option (Label or_level)) (c : Label and_level) → LabelGoes k (stands us o c)
unfolding label_told label_step operator_step close_step with_atom
stands_goes k [] o c = record { rest = close_label ∷ []; label = close_or o c; comes = λ ts. stays k (close_or o c) ts }
stands_goes k (u ∷ us) o c =
    let r = stands_goes k us u.ors (extend u.ands (negations u.nots (bracketed (close_or o c)))) in
    record { rest = close_bracket ∷ r.rest; label = r.label; comes = λ ts. r.comes ts }

label_goes : (k : ℕ) (r : Reading) → LabelGoes k r
unfolding label_told label_step atom_step on_name equal with_atom
label_goes k (stands us o c) = stands_goes k us o c
label_goes k (due us u) =
    let r = stands_goes k us u.ors (extend u.ands (negations u.nots always)) in
    record { rest = name (ascii "t") ∷ r.rest; label = r.label; comes = λ ts. r.comes ts }

-- one token that a place takes, and then from the next place, which is good
by_token : (p q : Place) (t : Token) → Good p → step p t ≡ go q → (Good q → GoesOn q) → GoesOn p
by_token p q t g e r = one_more p q t e (r (subst (λ (n : Next). GoodNext n) e (good_step p t g)))

target_goes : (l : Line) (o : Label or_level) → Good (wants_target l o) → GoesOn (wants_target l o)
target_goes l o g =
    by_token (wants_target l o) (in_line l.items l.states (edged (with_edge l.state (record { label = o; to = 0 })))) (number 0) g
    (takes l o (lt-ltb 0 (count_in l.items) (omega (arith, g.0.room))))
    (λ h. line_goes l.items l.states (edged (with_edge l.state (record { label = o; to = 0 }))) h)
  where
    takes : (l : Line) (o : Label or_level) → ltb 0 (count_in l.items) ≡ true → step (wants_target l o) (number 0) ≡ go (in_line l.items l.states (edged (with_edge l.state (record { label = o; to = 0 }))))
    takes l o e = unfold step on_number in (rw e refl)

-- a label that is read fits
abbrev ReadGood : (k : ℕ) → LabelRead → Type 0
ReadGood k (label_is o ts) = Fits k 0 o
ReadGood k (no_label n) = Unit {0}

label_fits : (k : ℕ) (n : LabelNext) (ts : List Token) → LabelGood k n → ReadGood k (label_told k n ts)
unfolding label_told
label_fits k (label_ends o) [] g = g
label_fits k (label_ends o) (t ∷ ts) g = g
label_fits k (broken m) [] g = tt
label_fits k (broken m) (t ∷ ts) g = tt
label_fits k (on r) [] g = tt
label_fits k (on r) (t ∷ ts) g = label_fits k (label_step k r t) ts (good_label k r t g)

-- a place in a label: through the label's end to its edge's target
in_label_goes : (l : Line) (r : Reading) → Good (in_label l r) → GoesOn (in_label l r)
in_label_goes l r g =
    let x = label_goes (propositions_in l.items) r in
    let f : Fits (propositions_in l.items) 0 x.label = subst (λ (z : LabelRead). ReadGood (propositions_in l.items) z) (x.comes []) (label_fits (propositions_in l.items) (on r) (x.rest ++ []) g.1) in
    let y = target_goes l x.label (g.0, f) in
    record { rest = x.rest ++ y.rest; tree = y.tree; comes = through l r (x.rest ++ y.rest) ∙ (ap (finish l) (x.comes y.rest) ∙ y.comes) }
  where
    through : (l : Line) (r : Reading) (ts : List Token) → told (go (in_label l r)) ts ≡ finish l (label_told (propositions_in l.items) (on r) ts)
    through l r ts = unfold from_label in through_label l (on r) ts

state_goes : (is : List Item) (ss : List State) → Good (wants_state is ss) → GoesOn (wants_state is ss)
state_goes is ss g =
    let v = missing (count_in is) ss g.1 in
    by_token (wants_state is ss) (in_line is ss (numbered v.state)) (number v.state) g
    (takes is ss v.state (free_number (count_in is) v.state ss v.below v.unlisted))
    (λ h. line_goes is ss (numbered v.state) h)
  where
    takes : (is : List Item) (ss : List State) (v : ℕ) → (ltb v (count_in is) && not (has_line v ss)) ≡ true → step (wants_state is ss) (number v) ≡ go (in_line is ss (numbered v))
    takes is ss v e = unfold step is_sign on_number in (rw e refl)

marks_go : (is : List Item) (ss : List State) (v : ℕ) (o : Option (List ℕ)) (ms : List ℕ) → Good (in_marks is ss v o ms) → GoesOn (in_marks is ss v o ms)
marks_go is ss v o ms g = by_token (in_marks is ss v o ms) (in_line is ss (marked v o ms)) close_mark g (takes is ss v o ms) (λ h. line_goes is ss (marked v o ms) h)
  where
    takes : (is : List Item) (ss : List State) (v : ℕ) (o : Option (List ℕ)) (ms : List ℕ) → step (in_marks is ss v o ms) close_mark ≡ go (in_line is ss (marked v o ms))
    takes is ss v o ms = unfold step is_sign in refl

-- ONE ITEM MORE, if something is missing
record Further (is : List Item) : Type 0 where
  items : List Item
  good : ItemsGood items
  tokens_between : List Token
  reads : (r : List Token) → Boundary r → head_read is (tokens_between ++ r) ≡ head_read items r
  begins : (r : List Token) → Boundary r → Boundary (tokens_between ++ r)

abbrev same_items : (is : List Item) → ItemsGood is → Further is
same_items is g = record { items = is; good = g; tokens_between = []; reads = λ r b. refl; begins = λ r b. b }

abbrev one_item : (is : List Item) (i : Item) → ItemsGood is → item_fits is i ≡ true → Further is
one_item is i g f = record { items = snoc is i; good = item_more is i g f; tokens_between = item_tokens i; reads = λ r b. item_read is i r b f; begins = λ r b. item_begins i r }

given_later : (x y : Option ℕ) → is_some x ≡ true → is_some (first_given x y) ≡ true
unfolding is_some
given_later none y e = absurd (no_true e)
  where
    no_true : false ≡ true → ⊥
    no_true e = subst (λ (b : Bool). elim b as (λ x. Type 0) [ true ↦ ⊥ | false ↦ Unit {0} ]) e tt
given_later (some n) y e = refl

given_now : (x : Option ℕ) (n : ℕ) → is_some (first_given x (some n)) ≡ true
unfolding is_some
given_now none n = refl
given_now (some m) n = refl

below_most : (x : Option ℕ) → StartSane x → below_given x most_states ≡ true
unfolding below_given
below_most none s = refl
below_most (some n) s = lt-ltb n most_states s

zero_below : (x : Option ℕ) → CountSane x → ltb 0 (get_or x most_states) ≡ true
zero_below none c = lt-ltb 0 most_states (omega arith)
zero_below (some n) c = lt-ltb 0 n (omega (arith, c.0))

states_fits : (is : List Item) → Sane is → is_some (state_count is) ≡ false → item_fits is (states most_states) ≡ true
unfolding item_fits
states_fits is s e = both_true (not (is_some (state_count is)) && true) (below_given (start_state is) most_states) (both_true (not (is_some (state_count is))) true (rw e refl) refl) (below_most (start_state is) s.start_sane)

start_fits : (is : List Item) → Sane is → is_some (start_state is) ≡ false → item_fits is (start 0) ≡ true
unfolding item_fits
start_fits is s e = both_true (not (is_some (start_state is))) (ltb 0 (get_or (state_count is) most_states)) (rw e refl) (zero_below (state_count is) s.count_sane)

record Counted (is : List Item) : Type 0 where
  further : Further is
  count : is_some (state_count further.items) ≡ true

counted : (is : List Item) → ItemsGood is → Counted is
counted is g = pick (is_some (state_count is)) refl
  where
    now_given : (is : List Item) (n : ℕ) → is_some (state_count (snoc is (states n))) ≡ true
    now_given is n = (rw (count_append is (states n ∷ [])) (unfold state_count in given_now (state_count is) n))

    pick : (b : Bool) → is_some (state_count is) ≡ b → Counted is
    pick true e = record { further = same_items is g; count = e }
    pick false e = record { further = one_item is (states most_states) g (states_fits is (sane is g) e); count = now_given is most_states }

record Started (is : List Item) : Type 0 where
  further : Further is
  count : is_some (state_count further.items) ≡ true
  begun : is_some (start_state further.items) ≡ true

started : (is : List Item) → ItemsGood is → is_some (state_count is) ≡ true → Started is
started is g c = pick (is_some (start_state is)) refl
  where
    now_given : (is : List Item) (n : ℕ) → is_some (start_state (snoc is (start n))) ≡ true
    now_given is n = (rw (start_append is (start n ∷ [])) (unfold start_state in given_now (start_state is) n))

    kept : (is : List Item) (n : ℕ) → is_some (state_count is) ≡ true → is_some (state_count (snoc is (start n))) ≡ true
    kept is n e = (rw (count_append is (start n ∷ [])) (unfold state_count in given_later (state_count is) none e))

    pick : (b : Bool) → is_some (start_state is) ≡ b → Started is
    pick true e = record { further = same_items is g; count = c; begun = e }
    pick false e = record { further = one_item is (start 0) g (start_fits is (sane is g) e); count = kept is 0 c; begun = now_given is 0 }

record Whole (is : List Item) : Type 0 where
  further : Further is
  whole_head : header_whole further.items ≡ true

whole_items : (is : List Item) → is_some (state_count is) ≡ true → is_some (start_state is) ≡ true → has_acceptance is ≡ true → header_whole is ≡ true
unfolding header_whole
whole_items is a b c = both_true (is_some (state_count is) && is_some (start_state is)) (has_acceptance is) (both_true (is_some (state_count is)) (is_some (start_state is)) a b) c

made_whole : (is : List Item) → ItemsGood is → is_some (state_count is) ≡ true → is_some (start_state is) ≡ true → Whole is
made_whole is g c b = pick (has_acceptance is) refl
  where
    now_there : (is : List Item) → has_acceptance is ≡ false → has_acceptance (snoc is acceptance) ≡ true
    now_there is e = (rw (acceptance_append is (acceptance ∷ []), e) (unfold has_acceptance in refl))

    kept : (is : List Item) → is_some (state_count is) ≡ true → is_some (state_count (snoc is acceptance)) ≡ true
    kept is e = (rw (count_append is (acceptance ∷ [])) (unfold state_count in given_later (state_count is) none e))

    kept_start : (is : List Item) → is_some (start_state is) ≡ true → is_some (start_state (snoc is acceptance)) ≡ true
    kept_start is e = (rw (start_append is (acceptance ∷ [])) (unfold start_state in given_later (start_state is) none e))

    pick : (t : Bool) → has_acceptance is ≡ t → Whole is
    pick true e = record { further = same_items is g; whole_head = whole_items is c b e }
    pick false e = record { further = one_item is acceptance g (accepts is e); whole_head = whole_items (snoc is acceptance) (kept is c) (kept_start is b) (now_there is e) }

-- THE REST OF A HEADER, and a body
record Heads (is : List Item) : Type 0 where
  rest : List Token
  bounds : Boundary rest
  tree : Syntax
  comes : head_read is rest ≡ taken_as tree

-- items that are whole: the body
whole_heads : (is : List Item) → ItemsGood is → header_whole is ≡ true → Heads is
whole_heads is g w =
    let l = lines_go is [] (record { items_good = g; whole_head = w; lines_good = none_fit (count_in is) (propositions_in is); few = omega arith }) in
    record { rest = body_mark ∷ l.rest; bounds = at_body l.rest; tree = l.tree; comes = body_read is l.rest w ∙ l.comes }
  where
    none_fit : (n k : ℕ) → states_fit n k [] [] ≡ true
    none_fit n k = unfold states_fit in refl

further_heads : (is : List Item) (f : Further is) → Heads f.items → Heads is
further_heads is f h =
    record { rest = f.tokens_between ++ h.rest; bounds = f.begins h.rest h.bounds; tree = h.tree; comes = f.reads h.rest h.bounds ∙ h.comes }

heads : (is : List Item) → ItemsGood is → Heads is
heads is g =
    let a = counted is g in
    let b = started a.further.items a.further.good a.count in
    let c = made_whole b.further.items b.further.good b.count b.begun in
    further_heads is a.further (further_heads _ b.further (further_heads _ c.further (whole_heads _ c.further.good c.whole_head)))

items_go : (l : Last) (is : List Item) → ItemsGood is → GoesOn (in_items l is)
items_go l is g = let h = heads is g in record { rest = h.rest; tree = h.tree; comes = items_boundary l is h.rest h.bounds ∙ h.comes }

skipped_goes : (is : List Item) (w : List ℕ) (us : List Token) → Good (in_skipped is w us) → GoesOn (in_skipped is w us)
skipped_goes is w us g = let h = heads (snoc is (skipped w us)) (item_more is (skipped w us) g.0 g.1) in record { rest = h.rest; tree = h.tree; comes = skipped_boundary is w us h.rest h.bounds ∙ h.comes }

-- a place that waits for something in the header
count_goes : (is : List Item) → Good (wants_count is) → GoesOn (wants_count is)
count_goes is g =
    by_token (wants_count is) (in_items whole (snoc is (states most_states))) (number most_states) g
    (takes is (states_fits is (sane is g.0) g.1)) (λ h. items_go whole (snoc is (states most_states)) h)
  where
    takes : (is : List Item) → item_fits is (states most_states) ≡ true → step (wants_count is) (number most_states) ≡ go (in_items whole (snoc is (states most_states)))
    takes is e = unfold step on_number with_item in (rw e refl)

start_goes : (is : List Item) → Good (wants_start is) → GoesOn (wants_start is)
start_goes is g =
    by_token (wants_start is) (in_items after_start (snoc is (start 0))) (number 0) g
    (takes is (start_fits is (sane is g.0) g.1)) (λ h. items_go after_start (snoc is (start 0)) h)
  where
    takes : (is : List Item) → item_fits is (start 0) ≡ true → step (wants_start is) (number 0) ≡ go (in_items after_start (snoc is (start 0)))
    takes is e = unfold step on_number with_item in (rw e refl)

propositions_go : (is : List Item) → Good (wants_propositions is) → GoesOn (wants_propositions is)
propositions_go is g =
    by_token (wants_propositions is) (in_items whole (snoc is (propositions []))) (number 0) g (takes is) (λ h. items_go whole (snoc is (propositions [])) h)
  where
    takes : (is : List Item) → step (wants_propositions is) (number 0) ≡ go (in_items whole (snoc is (propositions [])))
    takes is = unfold step on_number named in refl

names_go : (is : List Item) (l : ℕ) (ns : List (List ℕ)) → Good (wants_names is l ns) → GoesOn (wants_names is l ns)
names_go is zero ns g = by_token (wants_names is zero ns) (in_items whole (snoc is (propositions (snoc ns [])))) (string []) g (takes is ns) (λ h. items_go whole _ h)
  where
    takes : (is : List Item) (ns : List (List ℕ)) → step (wants_names is zero ns) (string []) ≡ go (in_items whole (snoc is (propositions (snoc ns []))))
    takes is ns = unfold step on_string named in refl
names_go is (suc l) ns g = by_token (wants_names is (suc l) ns) (wants_names is l (snoc ns [])) (string []) g (takes is l ns) (λ h. names_go is l (snoc ns []) h)
  where
    takes : (is : List Item) (l : ℕ) (ns : List (List ℕ)) → step (wants_names is (suc l) ns) (string []) ≡ go (wants_names is l (snoc ns []))
    takes is l ns = unfold step on_string named in refl

close_goes : (is : List Item) → Good (wants_close is) → GoesOn (wants_close is)
close_goes is g = by_token (wants_close is) (in_items after_acceptance (snoc is acceptance)) close_bracket g (takes is) (λ h. items_go after_acceptance (snoc is acceptance) h)
  where
    takes : (is : List Item) → step (wants_close is) close_bracket ≡ go (in_items after_acceptance (snoc is acceptance))
    takes is = unfold step is_sign in refl

set_goes : (is : List Item) → Good (wants_set is) → GoesOn (wants_set is)
set_goes is g = by_token (wants_set is) (wants_close is) (number 0) g (takes is) (λ h. close_goes is h)
  where
    takes : (is : List Item) → step (wants_set is) (number 0) ≡ go (wants_close is)
    takes is = unfold step is_sign on_number in refl

open_goes : (is : List Item) → Good (wants_open is) → GoesOn (wants_open is)
open_goes is g = by_token (wants_open is) (wants_set is) open_bracket g (takes is) (λ h. set_goes is h)
  where
    takes : (is : List Item) → step (wants_open is) open_bracket ≡ go (wants_set is)
    takes is = unfold step is_sign in refl

inf_goes : (is : List Item) → Good (wants_inf is) → GoesOn (wants_inf is)
inf_goes is g = by_token (wants_inf is) (wants_open is) (name (ascii "Inf")) g (takes is) (λ h. open_goes is h)
  where
    takes : (is : List Item) → step (wants_inf is) (name (ascii "Inf")) ≡ go (wants_open is)
    takes is = unfold step is_name equal in refl

sets_go : (is : List Item) → Good (wants_sets is) → GoesOn (wants_sets is)
sets_go is g = by_token (wants_sets is) (wants_inf is) (number 1) g (takes is) (λ h. inf_goes is h)
  where
    takes : (is : List Item) → step (wants_sets is) (number 1) ≡ go (wants_inf is)
    takes is = unfold step on_number in refl

version_goes : GoesOn version
version_goes = by_token version (in_items whole []) (name (ascii "v1")) tt takes (λ h. items_go whole [] h)
  where
    takes : step version (name (ascii "v1")) ≡ go (in_items whole [])
    takes = unfold step is_name equal in refl

opening_goes : GoesOn opening
opening_goes = by_token opening version (header (ascii "HOA")) tt takes (λ h. version_goes)
  where
    takes : step opening (header (ascii "HOA")) ≡ go version
    takes = unfold step is_header equal in refl

-- EVERY PLACE that is reached goes on
pub goes_on : (p : Place) → Good p → GoesOn p
goes_on opening g = opening_goes
goes_on version g = version_goes
goes_on (in_items l is) g = items_go l is g
goes_on (in_skipped is h us) g = skipped_goes is h us g
goes_on (wants_count is) g = count_goes is g
goes_on (wants_start is) g = start_goes is g
goes_on (wants_propositions is) g = propositions_go is g
goes_on (wants_names is l ns) g = names_go is l ns g
goes_on (wants_sets is) g = sets_go is g
goes_on (wants_inf is) g = inf_goes is g
goes_on (wants_open is) g = open_goes is g
goes_on (wants_set is) g = set_goes is g
goes_on (wants_close is) g = close_goes is g
goes_on (in_lines is ss) g = lines_go is ss g
goes_on (wants_state is ss) g = state_goes is ss g
goes_on (in_line is ss p) g = line_goes is ss p g
goes_on (in_marks is ss v o ms) g = marks_go is ss v o ms g
goes_on (in_label l r) g = in_label_goes l r g
goes_on (wants_target l o) g = target_goes l o g
goes_on (complete a) g = record { rest = []; tree = a; comes = unfold told ended in refl }

-- FIRST TOLD
told_on : (n : Next) (ts us : List Token) → told n (ts ++ us) ≡ told (reached n ts) us
unfolding told reached
told_on (fault k) [] [] = refl
told_on (fault k) [] (u ∷ us) = refl
told_on (fault k) (t ∷ ts) [] = refl
told_on (fault k) (t ∷ ts) (u ∷ us) = refl
told_on (go p) [] us = refl
told_on (go p) (t ∷ ts) us = told_on (step p t) ts us

reached_good : (n : Next) (ts : List Token) → GoodNext n → GoodNext (reached n ts)
unfolding reached
reached_good (fault k) [] g = tt
reached_good (fault k) (t ∷ ts) g = tt
reached_good (go p) [] g = g
reached_good (go p) (t ∷ ts) g = reached_good (step p t) ts (good_step p t g)

no_clash : (a : Syntax) (k : ℕ) → taken_as a ≡ refused k → ⊥
no_clash a k e = subst (λ (x : Told). elim x as (λ y. Type 0) [ taken_as b ↦ Unit {0} | refused j ↦ ⊥ ]) e tt

refused_on : (k : ℕ) (ts : List Token) → told (fault k) ts ≡ refused k
unfolding told
refused_on k [] = refl
refused_on k (t ∷ ts) = refl

pub first_told : FaultsFirst
unfolding FaultsFirst
first_told ts t p k e f =
    let g = goes_on p (subst (λ (n : Next). GoodNext n) e (reached_good (go opening) ts tt)) in
    let whole_text : told (go opening) (ts ++ g.rest) ≡ taken_as g.tree = told_on (go opening) ts g.rest ∙ (ap (λ (n : Next). told n g.rest) e ∙ g.comes) in
    let stop : (rest : List Token) → told (go opening) (ts ++ (t ∷ rest)) ≡ refused k = λ rest. told_on (go opening) ts (t ∷ rest) ∙ (ap (λ (n : Next). told n (t ∷ rest)) e ∙ at_token p t k rest f) in
    record {
      before = (g.tree, g.rest, told_taken g.tree (ts ++ g.rest) whole_text, taken_spelled g.tree (ts ++ g.rest) whole_text);
      with_it = λ a rest ok s. no_clash a k (sym (taken_read a ok) ∙ (ap (told (go opening)) s ∙ stop rest));
      refuses = stop;
    }
  where
    at_token : (p : Place) (t : Token) (k : ℕ) (rest : List Token) → step p t ≡ fault k → told (go p) (t ∷ rest) ≡ refused k
    at_token p t k rest f = unfold told in (rw (told, f) (refused_on k rest))
