-- Whatever the table takes is asked for by the grammar: each place keeps what it has read within the limits.
use Rattle.model.specs.Run.{is_some}
use mathlib.Core.Path.{◌≡◌, refl, sym, subst}
use mathlib.Core.Bool.{Bool, true, false, ◌&&◌, ◌||◌, not, cond}
use mathlib.Core.List.{List, [], ◌∷◌, ◌++◌, append_assoc, append-nil}
use mathlib.Core.Option.{Option, none, some}
use Prim.Native.Nat.{ℕ, zero, suc, ◌+◌, ◌≤◌, ◌<◌}
use native.Mathlib.Omega.{arith}
use lib.Dec.{ltb, leb, eqb}
use lib.ListN.{length, length-append}
use borrow.Author.Tests.{le-leb, leb-true, ltb-true}
use Rattle.text.specs.Ascii.{ascii}
use Rattle.text.specs.Lines.{equal}
use Rattle.text.proofs.Tests.{and_both, both_true}
use Rattle.model.specs.ClaimTokens.{Token, name, header, number, string, symbol, body_mark, end_mark, alias, comment, stray, is_header, is_name}
use Rattle.model.specs.ClaimLabels.{Level, or_level, and_level, atom, Label, always, never, proposition, negated, bracketed, one, both, term, either, label_depth, label_within, deepest, open_label, open_bracket, close_bracket, open_mark, close_mark, not_sign, and_sign, or_sign, Under, Reading, due, stands, label_start, LabelNext, on, label_ends, broken, depth_of, negations, extend, close_or, with_atom, deeper, on_name, atom_step, close_step, operator_step, label_step}
use Rattle.model.specs.ClaimGrammar.{Item, states, start, propositions, acceptance, skipped, Edge, State, Syntax, item_fits, items_fit, header_whole, state_count, start_state, proposition_names, has_acceptance, small_first, count_in, propositions_in, has_line, title_fits, marks_fit, all_zero, edge_fits, edges_fit, state_fits, states_fit, most_propositions, is_plain, all_plain, taken}
use Rattle.model.specs.ClaimTable.{Last, whole, after_start, after_acceptance, Part, numbered, titled, marked, edged, bare, state_of, Line, Place, opening, version, in_items, in_skipped, wants_count, wants_start, wants_propositions, wants_names, wants_sets, wants_inf, wants_open, wants_set, wants_close, in_lines, wants_state, in_line, in_marks, in_label, wants_target, complete, Next, go, fault, otherwise, on_number, on_string, is_sign, is_any_name, snoc, with_item, unless, on_header, header_step, named, line_step, line_at, with_edge, edge_step, marks_step, part_step, from_label, step, ended, told, Told, taken_as, refused}
use Rattle.model.proofs.ClaimLabels.{Fits}

-- LABELS
fits_negated : (k d : ℕ) (a : Label atom) → Fits k (suc d) a → Fits k d (negated a)
unfolding label_depth label_within
fits_negated k d a f = record { depth = omega (arith, f.depth); within = f.within }

fits_negations : (k d n : ℕ) (a : Label atom) → Fits k (n + d) a → Fits k d (negations n a)
unfolding negations
fits_negations k d zero a f = record { depth = omega (arith, f.depth); within = f.within }
fits_negations k d (suc n) a f = fits_negations k d n (negated a) (fits_negated k (n + d) a (record { depth = omega (arith, f.depth); within = f.within }))

fits_bracketed : (k d : ℕ) (o : Label or_level) → Fits k (suc d) o → Fits k d (bracketed o)
unfolding label_depth label_within
fits_bracketed k d o f = record { depth = omega (arith, f.depth); within = f.within }

fits_one : (k d : ℕ) (a : Label atom) → Fits k d a → Fits k d (one a)
unfolding label_depth label_within
fits_one k d a f = record { depth = f.depth; within = f.within }

fits_both : (k d : ℕ) (c : Label and_level) (a : Label atom) → Fits k d c → Fits k d a → Fits k d (both c a)
unfolding label_depth label_within
fits_both k d c a f g = record { depth = omega (arith, f.depth, g.depth); within = both_true _ _ f.within g.within }

fits_term : (k d : ℕ) (c : Label and_level) → Fits k d c → Fits k d (term c)
unfolding label_depth label_within
fits_term k d c f = record { depth = f.depth; within = f.within }

fits_either : (k d : ℕ) (o : Label or_level) (c : Label and_level) → Fits k d o → Fits k d c → Fits k d (either o c)
unfolding label_depth label_within
fits_either k d o c f g = record { depth = omega (arith, f.depth, g.depth); within = both_true _ _ f.within g.within }

abbrev pub FitsSo : {j : Level} → (k d : ℕ) → Option (Label j) → Type 0
FitsSo k d none = Unit {0}
FitsSo k d (some x) = Fits k d x

fits_extend : (k d : ℕ) (c : Option (Label and_level)) (a : Label atom) → FitsSo k d c → Fits k d a → Fits k d (extend c a)
unfolding extend
fits_extend k d none a f g = fits_one k d a g
fits_extend k d (some c) a f g = fits_both k d c a f g

fits_close : (k d : ℕ) (o : Option (Label or_level)) (c : Label and_level) → FitsSo k d o → Fits k d c → Fits k d (close_or o c)
unfolding close_or
fits_close k d none c f g = fits_term k d c g
fits_close k d (some o) c f g = fits_either k d o c f g

-- a bracket under way, d brackets and negations deep
pub record UnderGood (k d : ℕ) (u : Under) : Type 0 where
  pub ors_fit : FitsSo k d u.ors
  pub ands_fit : FitsSo k d u.ands
  pub low : u.nots + d ≤ deepest

abbrev pub OuterGood : (k : ℕ) → List Under → Type 0
OuterGood k [] = Unit {0}
OuterGood k (u ∷ us) = UnderGood k (depth_of us) u × ((u.nots + depth_of us < deepest) × OuterGood k us)

abbrev pub ReadingGood : (k : ℕ) → Reading → Type 0
ReadingGood k (due us u) = UnderGood k (depth_of us) u × OuterGood k us
ReadingGood k (stands us o c) = FitsSo k (depth_of us) o × (Fits k (depth_of us) c × OuterGood k us)

abbrev pub LabelGood : (k : ℕ) → LabelNext → Type 0
LabelGood k (on r) = ReadingGood k r
LabelGood k (label_ends o) = Fits k 0 o
LabelGood k (broken n) = Unit {0}

label_cond : (k : ℕ) (b : Bool) (x y : LabelNext) → (b ≡ true → LabelGood k x) → (b ≡ false → LabelGood k y) → LabelGood k (cond b x y)
label_cond k true x y f g = f refl
label_cond k false x y f g = g refl

good_with : (k : ℕ) (us : List Under) (u : Under) (a : Label atom) → UnderGood k (depth_of us) u → OuterGood k us → Fits k (u.nots + depth_of us) a → ReadingGood k (with_atom us u a)
unfolding with_atom
good_with k us u a g h f = (g.ors_fit, (fits_extend k (depth_of us) u.ands _ g.ands_fit (fits_negations k (depth_of us) u.nots a f), h))

fits_always : (k d : ℕ) → d ≤ deepest → Fits k d always
unfolding label_depth label_within
fits_always k d h = record { depth = omega (arith, h); within = refl }

fits_never : (k d : ℕ) → d ≤ deepest → Fits k d never
unfolding label_depth label_within
fits_never k d h = record { depth = omega (arith, h); within = refl }

fits_proposition : (k d i : ℕ) → d ≤ deepest → ltb i k ≡ true → Fits k d (proposition i)
unfolding label_depth label_within
fits_proposition k d i h e = record { depth = omega (arith, h); within = e }

good_atom : (k : ℕ) (us : List Under) (u : Under) (t : Token) → UnderGood k (depth_of us) u → OuterGood k us → LabelGood k (atom_step k us u t)
unfolding atom_step on_name deeper depth_of
good_atom k us u (symbol b) g h =
    label_cond k (eqb b 33) _ _
    (λ _. label_cond k (ltb (u.nots + depth_of us) deepest) _ _ (λ q. (record { ors_fit = g.ors_fit; ands_fit = g.ands_fit; low = omega (arith, ltb-true (u.nots + depth_of us) deepest q) }, h)) (λ _. tt))
    (λ _. label_cond k (eqb b 40) _ _
    (λ _. label_cond k (ltb (u.nots + depth_of us) deepest) _ _ (λ q. (record { ors_fit = tt; ands_fit = tt; low = omega (arith, ltb-true (u.nots + depth_of us) deepest q) }, (g, (ltb-true (u.nots + depth_of us) deepest q, h)))) (λ _. tt))
    (λ _. tt))
good_atom k us u (name w) g h =
    label_cond k (equal w (ascii "t")) _ _ (λ _. good_with k us u always g h (fits_always k _ g.low))
    (λ _. label_cond k (equal w (ascii "f")) _ _ (λ _. good_with k us u never g h (fits_never k _ g.low)) (λ _. tt))
good_atom k us u (number i) g h = label_cond k (ltb i k) _ _ (λ q. good_with k us u (proposition i) g h (fits_proposition k _ i g.low q)) (λ _. tt)
good_atom k us u (header w) g h = tt
good_atom k us u (string w) g h = tt
good_atom k us u body_mark g h = tt
good_atom k us u end_mark g h = tt
good_atom k us u alias g h = tt
good_atom k us u comment g h = tt
good_atom k us u stray g h = tt

good_close : (k : ℕ) (us : List Under) (o : Option (Label or_level)) (c : Label and_level) (b : ℕ) → FitsSo k (depth_of us) o → Fits k (depth_of us) c → OuterGood k us → LabelGood k (close_step us o c b)
unfolding close_step depth_of
good_close k [] o c b f g h = label_cond k (eqb b 93) _ _ (λ _. fits_close k 0 o c f g) (λ _. tt)
good_close k (u ∷ us) o c b f g h =
    label_cond k (eqb b 41) _ _
    (λ _. good_with k us u _ h.0 h.1.1
    (fits_bracketed k (u.nots + depth_of us) (close_or o c) (let z : Fits k (suc u.nots + depth_of us) (close_or o c) = fits_close k (suc u.nots + depth_of us) o c f g in record { depth = omega (arith, z.depth); within = z.within })))
    (λ _. tt)

zero_nots : (k d : ℕ) (us : List Under) (c : Label and_level) → Fits k d c → d ≤ deepest
zero_nots k d us c f = omega (arith, f.depth)

good_operator : (k : ℕ) (us : List Under) (o : Option (Label or_level)) (c : Label and_level) (t : Token) → FitsSo k (depth_of us) o → Fits k (depth_of us) c → OuterGood k us → LabelGood k (operator_step us o c t)
unfolding operator_step
good_operator k us o c (symbol b) f g h =
    label_cond k (eqb b 38) _ _ (λ _. (record { ors_fit = f; ands_fit = g; low = omega (arith, zero_nots k (depth_of us) us c g) }, h))
    (λ _. label_cond k (eqb b 124) _ _ (λ _. (record { ors_fit = fits_close k (depth_of us) o c f g; ands_fit = tt; low = omega (arith, zero_nots k (depth_of us) us c g) }, h))
    (λ _. good_close k us o c b f g h))
good_operator k us o c (name w) f g h = tt
good_operator k us o c (number v) f g h = tt
good_operator k us o c (header w) f g h = tt
good_operator k us o c (string w) f g h = tt
good_operator k us o c body_mark f g h = tt
good_operator k us o c end_mark f g h = tt
good_operator k us o c alias f g h = tt
good_operator k us o c comment f g h = tt
good_operator k us o c stray f g h = tt

pub good_label : (k : ℕ) (r : Reading) (t : Token) → ReadingGood k r → LabelGood k (label_step k r t)
unfolding label_step
good_label k (due us u) t g = good_atom k us u t g.0 g.1
good_label k (stands us o c) t g = good_operator k us o c t g.0 g.1.0 g.1.1

good_start : (k : ℕ) → ReadingGood k label_start
unfolding depth_of
good_start k = (record { ors_fit = tt; ands_fit = tt; low = omega arith }, tt)

-- PLACES
abbrev pub ItemsGood : List Item → Type 0
ItemsGood is = items_fit [] is ≡ true

pub record BodyGood (is : List Item) (ss : List State) : Type 0 where
  pub items_good : ItemsGood is
  pub whole_head : header_whole is ≡ true
  pub lines_good : states_fit (count_in is) (propositions_in is) [] ss ≡ true
  pub few : length ss ≤ count_in is

pub record LineGood (is : List Item) (ss : List State) (s : State) : Type 0 where
  pub body : BodyGood is ss
  pub room : length ss < count_in is
  pub state_good : state_fits (count_in is) (propositions_in is) ss s ≡ true

abbrev pub Good : Place → Type 0
Good opening = Unit {0}
Good version = Unit {0}
Good (in_items l is) = ItemsGood is
Good (in_skipped is h us) = ItemsGood is × (item_fits is (skipped h us) ≡ true)
Good (wants_count is) = ItemsGood is × (is_some (state_count is) ≡ false)
Good (wants_start is) = ItemsGood is × (is_some (start_state is) ≡ false)
Good (wants_propositions is) = ItemsGood is × (is_some (proposition_names is) ≡ false)
Good (wants_names is l ns) = ItemsGood is × ((is_some (proposition_names is) ≡ false) × (length ns + suc l ≤ most_propositions))
Good (wants_sets is) = ItemsGood is × (has_acceptance is ≡ false)
Good (wants_inf is) = ItemsGood is × (has_acceptance is ≡ false)
Good (wants_open is) = ItemsGood is × (has_acceptance is ≡ false)
Good (wants_set is) = ItemsGood is × (has_acceptance is ≡ false)
Good (wants_close is) = ItemsGood is × (has_acceptance is ≡ false)
Good (in_lines is ss) = BodyGood is ss
Good (wants_state is ss) = BodyGood is ss × (length ss < count_in is)
Good (in_line is ss p) = LineGood is ss (state_of p)
Good (in_marks is ss v o ms) = LineGood is ss (bare v o none) × (all_zero ms ≡ true)
Good (in_label l r) = LineGood l.items l.states l.state × ReadingGood (propositions_in l.items) r
Good (wants_target l o) = LineGood l.items l.states l.state × Fits (propositions_in l.items) 0 o
Good (complete a) = taken a ≡ true

abbrev pub GoodNext : Next → Type 0
GoodNext (go p) = Good p
GoodNext (fault k) = Unit {0}

good_cond : (b : Bool) (x y : Next) → (b ≡ true → GoodNext x) → (b ≡ false → GoodNext y) → GoodNext (cond b x y)
good_cond true x y f g = f refl
good_cond false x y f g = g refl

good_otherwise : (t : Token) → GoodNext (otherwise t)
unfolding otherwise
good_otherwise (name w) = tt
good_otherwise (header w) = tt
good_otherwise (number v) = tt
good_otherwise (string w) = tt
good_otherwise (symbol b) = tt
good_otherwise body_mark = tt
good_otherwise end_mark = tt
good_otherwise alias = tt
good_otherwise comment = tt
good_otherwise stray = tt

good_number : (t : Token) (f : ℕ → Next) → ((v : ℕ) → GoodNext (f v)) → GoodNext (on_number t f)
unfolding on_number
good_number (number v) f h = h v
good_number (name w) f h = tt
good_number (header w) f h = tt
good_number (string w) f h = tt
good_number (symbol b) f h = tt
good_number body_mark f h = tt
good_number end_mark f h = tt
good_number alias f h = tt
good_number comment f h = tt
good_number stray f h = tt

good_string : (t : Token) (f : List ℕ → Next) (n : Next) → ((w : List ℕ) → GoodNext (f w)) → GoodNext n → GoodNext (on_string t f n)
unfolding on_string
good_string (string w) f n h k = h w
good_string (number v) f n h k = k
good_string (name w) f n h k = k
good_string (header w) f n h k = k
good_string (symbol b) f n h k = k
good_string body_mark f n h k = k
good_string end_mark f n h k = k
good_string alias f n h k = k
good_string comment f n h k = k
good_string stray f n h k = k

-- one item more, one line more
fit_snoc : (bs is : List Item) (i : Item) → items_fit bs is ≡ true → item_fits (bs ++ is) i ≡ true → items_fit bs (is ++ (i ∷ [])) ≡ true
unfolding items_fit
fit_snoc bs [] i e f = both_true _ _ (subst (λ (x : List Item). item_fits x i ≡ true) (append-nil bs) f) refl
fit_snoc bs (j ∷ is) i e f =
    both_true _ _ (and_both (item_fits bs j) _ e).0
    (fit_snoc (bs ++ (j ∷ [])) is i (and_both (item_fits bs j) _ e).1 (subst (λ (x : List Item). item_fits x i ≡ true) (sym (append_assoc bs (j ∷ []) is)) f))

pub item_more : (is : List Item) (i : Item) → ItemsGood is → item_fits is i ≡ true → ItemsGood (snoc is i)
item_more is i e f = fit_snoc [] is i e f

lines_snoc : (n k : ℕ) (bs ss : List State) (s : State) → states_fit n k bs ss ≡ true → state_fits n k (bs ++ ss) s ≡ true → states_fit n k bs (ss ++ (s ∷ [])) ≡ true
unfolding states_fit
lines_snoc n k bs [] s e f = both_true _ _ (subst (λ (x : List State). state_fits n k x s ≡ true) (append-nil bs) f) refl
lines_snoc n k bs (r ∷ ss) s e f =
    both_true _ _ (and_both (state_fits n k bs r) _ e).0
    (lines_snoc n k (bs ++ (r ∷ [])) ss s (and_both (state_fits n k bs r) _ e).1 (subst (λ (x : List State). state_fits n k x s ≡ true) (sym (append_assoc bs (r ∷ []) ss)) f))

pub line_more : (is : List Item) (ss : List State) (s : State) → LineGood is ss s → BodyGood is (snoc ss s)
line_more is ss s g = record { items_good = g.body.items_good; whole_head = g.body.whole_head; lines_good = lines_snoc _ _ [] ss s g.body.lines_good g.state_good; few = simp length-append (omega (arith, g.room)) }

-- THE HEADER
good_item : (l : Last) (is : List Item) (i : Item) → ItemsGood is → GoodNext (with_item l is i)
unfolding with_item
good_item l is i e = good_cond (item_fits is i) _ _ (λ f. item_more is i e f) (λ _. tt)

good_unless : (g : Bool) (k : ℕ) (p : Place) → (g ≡ false → Good p) → GoodNext (unless g k p)
unfolding unless
good_unless g k p h = good_cond g (fault k) (go p) (λ _. tt) h

skips : (is : List Item) (h : List ℕ) → small_first h ≡ true → item_fits is (skipped h []) ≡ true
unfolding item_fits all_plain
skips is h e = both_true _ _ e refl

good_on_header : (is : List Item) (h : List ℕ) → ItemsGood is → GoodNext (on_header is h)
unfolding on_header
good_on_header is h e =
    good_cond (equal h (ascii "HOA")) _ _ (λ _. tt)
    (λ _. good_cond (equal h (ascii "States")) _ _ (λ _. good_unless (is_some (state_count is)) _ _ (λ q. (e, q)))
    (λ _. good_cond (equal h (ascii "Start")) _ _ (λ _. good_unless (is_some (start_state is)) _ _ (λ q. (e, q)))
    (λ _. good_cond (equal h (ascii "AP")) _ _ (λ _. good_unless (is_some (proposition_names is)) _ _ (λ q. (e, q)))
    (λ _. good_cond (equal h (ascii "Acceptance")) _ _ (λ _. good_unless (has_acceptance is) _ _ (λ q. (e, q)))
    (λ _. good_cond (small_first h) _ _ (λ q. (e, skips is h q)) (λ _. tt))))))

good_header : (is : List Item) (t : Token) → ItemsGood is → GoodNext (header_step is t)
unfolding header_step states_fit
good_header is (header h) e = good_on_header is h e
good_header is body_mark e = good_cond (header_whole is) _ _ (λ q. record { items_good = e; whole_head = q; lines_good = refl; few = omega arith }) (λ _. tt)
good_header is (name w) e = tt
good_header is (number v) e = tt
good_header is (string w) e = tt
good_header is (symbol b) e = tt
good_header is end_mark e = tt
good_header is alias e = tt
good_header is comment e = tt
good_header is stray e = tt

plain_snoc : (us : List Token) (t : Token) → all_plain us ≡ true → is_plain t ≡ true → all_plain (us ++ (t ∷ [])) ≡ true
unfolding all_plain
plain_snoc [] t e f = both_true _ _ f refl
plain_snoc (u ∷ us) t e f = both_true _ _ (and_both (is_plain u) _ e).0 (plain_snoc us t (and_both (is_plain u) _ e).1 f)

skips_more : (is : List Item) (h : List ℕ) (us : List Token) (t : Token) → item_fits is (skipped h us) ≡ true → is_plain t ≡ true → item_fits is (skipped h (snoc us t)) ≡ true
unfolding item_fits
skips_more is h us t e f = both_true (small_first h) (all_plain (us ++ (t ∷ []))) (and_both (small_first h) (all_plain us) e).0 (plain_snoc us t (and_both (small_first h) (all_plain us) e).1 f)

pub names_fit : (is : List Item) (ns : List (List ℕ)) → is_some (proposition_names is) ≡ false → length ns ≤ most_propositions → item_fits is (propositions ns) ≡ true
unfolding item_fits
names_fit is ns e h = both_true (not (is_some (proposition_names is))) (leb (length ns) most_propositions) (rw e refl) (le-leb (length ns) most_propositions h)

good_named : (is : List Item) (l : ℕ) (ns : List (List ℕ)) → ItemsGood is → is_some (proposition_names is) ≡ false → length ns + l ≤ most_propositions → Good (named is l ns)
unfolding named
good_named is zero ns e f h = item_more is (propositions ns) e (names_fit is ns f (omega (arith, h)))
good_named is (suc l) ns e f h = (e, (f, h))

names_longer : (ns : List (List ℕ)) (w : List ℕ) (l : ℕ) → length ns + suc l ≤ most_propositions → length (snoc ns w) + l ≤ most_propositions
names_longer ns w l h = simp length-append (omega (arith, h))

pub accepts : (is : List Item) → has_acceptance is ≡ false → item_fits is acceptance ≡ true
unfolding item_fits
accepts is e = rw e refl

-- THE BODY
whole_taken : (is : List Item) (ss : List State) → BodyGood is ss → eqb (length ss) (count_in is) ≡ true → taken (record { items = is; states = ss }) ≡ true
unfolding taken
whole_taken is ss g e = both_true _ _ (both_true _ _ g.items_good g.whole_head) (both_true _ _ g.lines_good e)

good_line : (is : List Item) (ss : List State) (t : Token) → BodyGood is ss → GoodNext (line_step is ss t)
unfolding line_step
good_line is ss (header h) g = good_cond (equal h (ascii "State") && ltb (length ss) (count_in is)) _ _ (λ q. (g, ltb-true (length ss) (count_in is) (and_both (equal h (ascii "State")) _ q).1)) (λ _. tt)
good_line is ss end_mark g = good_cond (eqb (length ss) (count_in is)) _ _ (λ q. whole_taken is ss g q) (λ _. tt)
good_line is ss body_mark g = tt
good_line is ss (name w) g = tt
good_line is ss (number v) g = tt
good_line is ss (string w) g = tt
good_line is ss (symbol b) g = tt
good_line is ss alias g = tt
good_line is ss comment g = tt
good_line is ss stray g = tt

good_edge : (is : List Item) (ss : List State) (s : State) (t : Token) → LineGood is ss s → GoodNext (edge_step (line_at is ss s) t)
unfolding edge_step
good_edge is ss s t g = good_cond (is_sign open_label t) _ _ (λ _. (g, good_start _)) (λ _. good_line is (snoc ss s) t (line_more is ss s g))

good_marks : (is : List Item) (ss : List State) (v : ℕ) (o : Option (List ℕ)) (t : Token) → LineGood is ss (bare v o none) → GoodNext (marks_step is ss v o t)
unfolding marks_step all_zero
good_marks is ss v o t g = good_cond (is_sign open_mark t) _ _ (λ _. (g, refl)) (λ _. good_edge is ss (bare v o none) t g)

with_title_fits : (n k : ℕ) (ss : List State) (v : ℕ) (w : List ℕ) → state_fits n k ss (bare v none none) ≡ true → title_fits (some w) ≡ true → state_fits n k ss (bare v (some w) none) ≡ true
unfolding state_fits marks_fit edges_fit
with_title_fits n k ss v w e f =
    let a = ltb v n && not (has_line v ss) in
    both_true (a && (title_fits (some w) && true)) true
    (both_true a (title_fits (some w) && true) (and_both a (title_fits none && true) (and_both (a && (title_fits none && true)) true e).0).0 (both_true (title_fits (some w)) true f refl)) refl

with_marks_fits : (n k : ℕ) (ss : List State) (v : ℕ) (o : Option (List ℕ)) (ms : List ℕ) → state_fits n k ss (bare v o none) ≡ true → all_zero ms ≡ true → state_fits n k ss (bare v o (some ms)) ≡ true
unfolding state_fits marks_fit edges_fit
with_marks_fits n k ss v o ms e f =
    let a = ltb v n && not (has_line v ss) in
    let front : (a && (title_fits o && true)) ≡ true = (and_both (a && (title_fits o && true)) true e).0 in
    both_true (a && (title_fits o && all_zero ms)) true
    (both_true a (title_fits o && all_zero ms) (and_both a (title_fits o && true) front).0
    (both_true (title_fits o) (all_zero ms) (and_both (title_fits o) true (and_both a (title_fits o && true) front).1).0 f)) refl

edges_snoc_fit : (n k : ℕ) (es : List Edge) (e : Edge) → edges_fit n k es ≡ true → edge_fits n k e ≡ true → edges_fit n k (es ++ (e ∷ [])) ≡ true
unfolding edges_fit
edges_snoc_fit n k [] e f g = both_true _ _ g refl
edges_snoc_fit n k (d ∷ es) e f g = both_true _ _ (and_both (edge_fits n k d) _ f).0 (edges_snoc_fit n k es e (and_both (edge_fits n k d) _ f).1 g)

with_edge_fits : (n k : ℕ) (ss : List State) (s : State) (e : Edge) → state_fits n k ss s ≡ true → edge_fits n k e ≡ true → state_fits n k ss (with_edge s e) ≡ true
unfolding state_fits
with_edge_fits n k ss s e f g =
    let a = (ltb s.number n && not (has_line s.number ss)) && (title_fits s.title && marks_fit s.marks) in
    both_true a (edges_fit n k (s.edges ++ (e ∷ []))) (and_both a (edges_fit n k s.edges) f).0
    (edges_snoc_fit n k s.edges e (and_both a (edges_fit n k s.edges) f).1 g)

edge_good : (n k : ℕ) (o : Label or_level) (v : ℕ) → Fits k 0 o → ltb v n ≡ true → edge_fits n k (record { label = o; to = v }) ≡ true
unfolding edge_fits
edge_good n k o v f e = both_true _ _ (both_true _ _ (le-leb (label_depth o) deepest (omega (arith, f.depth))) f.within) e

pub fresh_fits : (n k : ℕ) (ss : List State) (v : ℕ) → (ltb v n && not (has_line v ss)) ≡ true → state_fits n k ss (bare v none none) ≡ true
unfolding state_fits title_fits marks_fit edges_fit
fresh_fits n k ss v e = both_true _ _ (both_true _ _ e refl) refl

zeros_snoc : (ms : List ℕ) (m : ℕ) → all_zero ms ≡ true → eqb m 0 ≡ true → all_zero (ms ++ (m ∷ [])) ≡ true
unfolding all_zero
zeros_snoc [] m e f = both_true _ _ f refl
zeros_snoc (n ∷ ms) m e f = both_true _ _ (and_both (eqb n 0) _ e).0 (zeros_snoc ms m (and_both (eqb n 0) _ e).1 f)

more_zeros : (ms : List ℕ) (m : ℕ) → all_zero ms ≡ true → eqb m 0 ≡ true → all_zero (snoc ms m) ≡ true
more_zeros ms m e f = zeros_snoc ms m e f

good_part : (is : List Item) (ss : List State) (p : Part) (t : Token) → LineGood is ss (state_of p) → GoodNext (part_step is ss p t)
unfolding part_step state_of
good_part is ss (numbered v) t g =
    good_string t _ _
    (λ w. good_cond (title_fits (some w)) _ _ (λ q. record { body = g.body; room = g.room; state_good = with_title_fits _ _ ss v w g.state_good q }) (λ _. tt))
    (good_marks is ss v none t g)
good_part is ss (titled v w) t g = good_marks is ss v (some w) t g
good_part is ss (marked v o ms) t g = good_edge is ss (bare v o (some ms)) t g
good_part is ss (edged s) t g = good_cond (is_sign open_mark t) _ _ (λ _. tt) (λ _. good_edge is ss s t g)

good_from_label : (l : Line) (n : LabelNext) → LineGood l.items l.states l.state → LabelGood (propositions_in l.items) n → GoodNext (from_label l n)
unfolding from_label
good_from_label l (on r) g h = (g, h)
good_from_label l (label_ends o) g h = (g, h)
good_from_label l (broken k) g h = tt

-- EACH STEP keeps it
pub good_step : (p : Place) (t : Token) → Good p → GoodNext (step p t)
unfolding step items_fit state_of
good_step opening t g = good_cond (is_header (ascii "HOA") t) _ _ (λ _. tt) (λ _. good_otherwise t)
good_step version t g = good_cond (is_name (ascii "v1") t) _ _ (λ _. refl) (λ _. good_otherwise t)
good_step (in_items whole is) t g = good_header is t g
good_step (in_items after_start is) t g = good_cond (is_sign and_sign t) _ _ (λ _. tt) (λ _. good_header is t g)
good_step (in_items after_acceptance is) t g = good_cond (is_sign and_sign t || is_sign or_sign t) _ _ (λ _. tt) (λ _. good_header is t g)
good_step (in_skipped is h us) t g = good_cond (is_plain t) _ _ (λ q. (g.0, skips_more is h us t g.1 q)) (λ _. good_header (snoc is (skipped h us)) t (item_more is (skipped h us) g.0 g.1))
good_step (wants_count is) t g = good_number t _ (λ v. good_item whole is (states v) g.0)
good_step (wants_start is) t g = good_number t _ (λ v. good_item after_start is (start v) g.0)
good_step (wants_propositions is) t g = good_number t _ (λ v. good_cond (leb v most_propositions) _ _ (λ q. good_named is v [] g.0 g.1 (omega (arith, leb-true v most_propositions q))) (λ _. tt))
good_step (wants_names is l ns) t g = good_string t _ _ (λ w. good_named is l (snoc ns w) g.0 g.1.0 (names_longer ns w l g.1.1)) (good_otherwise t)
good_step (wants_sets is) t g = good_number t _ (λ v. good_cond (eqb v 1) _ _ (λ _. g) (λ _. tt))
good_step (wants_inf is) t g = good_cond (is_name (ascii "Inf") t) _ _ (λ _. g) (λ _. good_cond (is_any_name t || is_sign open_bracket t) _ _ (λ _. tt) (λ _. good_otherwise t))
good_step (wants_open is) t g = good_cond (is_sign open_bracket t) _ _ (λ _. g) (λ _. good_otherwise t)
good_step (wants_set is) t g = good_cond (is_sign not_sign t) _ _ (λ _. tt) (λ _. good_number t _ (λ v. good_cond (eqb v 0) _ _ (λ _. g) (λ _. tt)))
good_step (wants_close is) t g = good_cond (is_sign close_bracket t) _ _ (λ _. item_more is acceptance g.0 (accepts is g.1)) (λ _. good_otherwise t)
good_step (in_lines is ss) t g = good_line is ss t g
good_step (wants_state is ss) t g =
    good_cond (is_sign open_label t) _ _ (λ _. tt)
    (λ _. good_number t _ (λ v. good_cond (ltb v (count_in is) && not (has_line v ss)) _ _ (λ q. record { body = g.0; room = g.1; state_good = fresh_fits _ _ ss v q }) (λ _. tt)))
good_step (in_line is ss p) t g = good_part is ss p t g
good_step (in_marks is ss v o ms) t g =
    good_cond (is_sign close_mark t) _ _ (λ _. record { body = g.0.body; room = g.0.room; state_good = with_marks_fits _ _ ss v o ms g.0.state_good g.1 })
    (λ _. good_number t _ (λ m. good_cond (eqb m 0) _ _ (λ q. (g.0, more_zeros ms m g.1 q)) (λ _. tt)))
good_step (in_label l r) t g = good_from_label l _ g.0 (good_label _ r t g.1)
good_step (wants_target l o) t g =
    good_number t _
    (λ v. good_cond (ltb v (count_in l.items)) _ _
    (λ q. record { body = g.0.body; room = g.0.room; state_good = with_edge_fits _ _ l.states l.state _ g.0.state_good (edge_good _ _ o v g.1 q) }) (λ _. tt))
good_step (complete a) t g = good_otherwise t

abbrev pub GoodTold : Told → Type 0
GoodTold (taken_as a) = taken a ≡ true
GoodTold (refused k) = Unit {0}

good_ended : (p : Place) → Good p → GoodTold (ended p)
unfolding ended
good_ended (complete a) g = g
good_ended opening g = tt
good_ended version g = tt
good_ended (in_items l is) g = tt
good_ended (in_skipped is h us) g = tt
good_ended (wants_count is) g = tt
good_ended (wants_start is) g = tt
good_ended (wants_propositions is) g = tt
good_ended (wants_names is l ns) g = tt
good_ended (wants_sets is) g = tt
good_ended (wants_inf is) g = tt
good_ended (wants_open is) g = tt
good_ended (wants_set is) g = tt
good_ended (wants_close is) g = tt
good_ended (in_lines is ss) g = tt
good_ended (wants_state is ss) g = tt
good_ended (in_line is ss p) g = tt
good_ended (in_marks is ss v o ms) g = tt
good_ended (in_label l r) g = tt
good_ended (wants_target l o) g = tt

pub good_told : (n : Next) (ts : List Token) → GoodNext n → GoodTold (told n ts)
unfolding told
good_told (fault k) [] g = tt
good_told (fault k) (t ∷ ts) g = tt
good_told (go p) [] g = good_ended p g
good_told (go p) (t ∷ ts) g = good_told (step p t) ts (good_step p t g)

-- what the table takes is within the limits
pub told_taken : (a : Syntax) (ts : List Token) → told (go opening) ts ≡ taken_as a → taken a ≡ true
told_taken a ts e = subst (λ (x : Told). GoodTold x) e (good_told (go opening) ts tt)
