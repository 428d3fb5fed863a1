-- A claim gets 0, 14, 15 or 16: every fault of the table is 15 or 16.
use Rattle.model.specs.Run.{is_some}
use mathlib.Core.Path.{subst, ap, ◌≡◌, refl}
use mathlib.Core.Bool.{Bool, true, false, ◌&&◌, ◌||◌, not, cond}
use mathlib.Core.List.{List, [], ◌∷◌}
use mathlib.Core.Logic.{◌⊎◌, inl, inr}
use mathlib.Core.Option.{Option, none, some}
use Prim.Native.Nat.{ℕ, ◌+◌}
use native.Mathlib.Omega.{arith}
use lib.Dec.{ltb, leb, eqb}
use lib.ListN.{length}
use Rattle.text.specs.Ascii.{ascii}
use Rattle.text.specs.Lines.{equal}
use Rattle.model.specs.ClaimTokens.{Token, name, header, number, string, symbol, body_mark, end_mark, alias, comment, stray, is_header, is_name}
use Rattle.model.specs.ClaimLabels.{or_level, and_level, Label, deepest, open_label, open_bracket, close_bracket, open_mark, close_mark, not_sign, and_sign, or_sign, Under, Reading, due, stands, LabelNext, on, label_ends, broken, depth_of, deeper, on_name, atom_step, close_step, operator_step, label_step}
use Rattle.model.specs.ClaimGrammar.{Item, states, start, skipped, State, Syntax, item_fits, header_whole, state_count, start_state, proposition_names, has_acceptance, small_first, count_in, has_line, title_fits, most_propositions, is_plain}
use Rattle.model.specs.ClaimTokens.{tokens, opens}
use Rattle.model.specs.ClaimPromise.{ClaimsDefinite}
use Rattle.model.specs.ClaimTable.{refusal_of, claim_refusal, claim_told, whole, after_start, after_acceptance, Part, numbered, titled, marked, edged, bare, Line, Place, opening, version, in_items, in_skipped, wants_count, wants_start, wants_propositions, wants_names, wants_sets, wants_inf, wants_open, wants_set, wants_close, in_lines, wants_state, in_line, in_marks, in_label, wants_target, complete, Next, go, fault, otherwise, on_number, on_string, is_sign, is_any_name, snoc, with_item, unless, capital_first, on_header, header_step, line_step, line_at, edge_step, marks_step, part_step, from_label, step, ended, told, Told, taken_as, refused}

abbrev pub NumberGood : ℕ → Type 0
NumberGood k = (k ≡ 15) ⊎ (k ≡ 16)

abbrev Numbered : Next → Type 0
Numbered (go p) = Unit {0}
Numbered (fault k) = NumberGood k

abbrev LabelNumbered : LabelNext → Type 0
LabelNumbered (on r) = Unit {0}
LabelNumbered (label_ends o) = Unit {0}
LabelNumbered (broken k) = NumberGood k

if_so : (b : Bool) (x y : Next) → Numbered x → Numbered y → Numbered (cond b x y)
if_so true x y f g = f
if_so false x y f g = g

label_if : (b : Bool) (x y : LabelNext) → LabelNumbered x → LabelNumbered y → LabelNumbered (cond b x y)
label_if true x y f g = f
label_if false x y f g = g

number_if : (b : Bool) (j k : ℕ) → NumberGood j → NumberGood k → NumberGood (cond b j k)
number_if true j k f g = f
number_if false j k f g = g

numbered_otherwise : (t : Token) → Numbered (otherwise t)
unfolding otherwise
numbered_otherwise (name w) = inl refl
numbered_otherwise (header w) = inl refl
numbered_otherwise (number v) = inl refl
numbered_otherwise (string w) = inl refl
numbered_otherwise (symbol b) = inl refl
numbered_otherwise body_mark = inl refl
numbered_otherwise end_mark = inl refl
numbered_otherwise alias = inl refl
numbered_otherwise comment = inr refl
numbered_otherwise stray = inl refl

by_number : (t : Token) (f : ℕ → Next) → ((v : ℕ) → Numbered (f v)) → Numbered (on_number t f)
unfolding on_number
by_number (name w) f h = inl refl
by_number (header w) f h = inl refl
by_number (number v) f h = h v
by_number (string w) f h = inl refl
by_number (symbol b) f h = inl refl
by_number body_mark f h = inl refl
by_number end_mark f h = inl refl
by_number alias f h = inl refl
by_number comment f h = inr refl
by_number stray f h = inl refl

by_string : (t : Token) (f : List ℕ → Next) (n : Next) → ((w : List ℕ) → Numbered (f w)) → Numbered n → Numbered (on_string t f n)
unfolding on_string
by_string (name w) f n h k = k
by_string (header w) f n h k = k
by_string (number v) f n h k = k
by_string (string w) f n h k = h w
by_string (symbol b) f n h k = k
by_string body_mark f n h k = k
by_string end_mark f n h k = k
by_string alias f n h k = k
by_string comment f n h k = k
by_string stray f n h k = k

by_header : (is : List Item) (h : List ℕ) → Numbered (on_header is h)
unfolding on_header unless
by_header is h =
    if_so (equal h (ascii "HOA")) _ _ (inl refl)
    (if_so (equal h (ascii "States")) _ _ (if_so (is_some (state_count is)) _ _ (inl refl) tt)
    (if_so (equal h (ascii "Start")) _ _ (if_so (is_some (start_state is)) _ _ (inr refl) tt)
    (if_so (equal h (ascii "AP")) _ _ (if_so (is_some (proposition_names is)) _ _ (inl refl) tt)
    (if_so (equal h (ascii "Acceptance")) _ _ (if_so (has_acceptance is) _ _ (inl refl) tt)
    (if_so (small_first h) _ _ tt (number_if (capital_first h) 16 15 (inr refl) (inl refl)))))))

in_header : (is : List Item) (t : Token) → Numbered (header_step is t)
unfolding header_step
in_header is (name w) = inl refl
in_header is (header w) = by_header is w
in_header is (number v) = inl refl
in_header is (string w) = inl refl
in_header is (symbol b) = inl refl
in_header is body_mark = if_so (header_whole is) _ _ tt (inl refl)
in_header is end_mark = inl refl
in_header is alias = inl refl
in_header is comment = inr refl
in_header is stray = inl refl

at_line : (is : List Item) (ss : List State) (t : Token) → Numbered (line_step is ss t)
unfolding line_step
at_line is ss (name w) = inl refl
at_line is ss (header w) = if_so (equal w (ascii "State") && ltb (length ss) (count_in is)) _ _ tt (inl refl)
at_line is ss (number v) = inl refl
at_line is ss (string w) = inl refl
at_line is ss (symbol b) = inl refl
at_line is ss body_mark = inl refl
at_line is ss end_mark = if_so (eqb (length ss) (count_in is)) _ _ tt (inl refl)
at_line is ss alias = inl refl
at_line is ss comment = inr refl
at_line is ss stray = inl refl

at_edge : (l : Line) (t : Token) → Numbered (edge_step l t)
unfolding edge_step
at_edge l t = if_so (is_sign open_label t) _ _ tt (at_line l.items (snoc l.states l.state) t)

at_marks : (is : List Item) (ss : List State) (v : ℕ) (o : Option (List ℕ)) (t : Token) → Numbered (marks_step is ss v o t)
unfolding marks_step
at_marks is ss v o t = if_so (is_sign open_mark t) _ _ tt (at_edge (line_at is ss (bare v o none)) t)

at_part : (is : List Item) (ss : List State) (p : Part) (t : Token) → Numbered (part_step is ss p t)
unfolding part_step
at_part is ss (numbered v) t = by_string t _ _ (λ w. if_so (title_fits (some w)) _ _ tt (inl refl)) (at_marks is ss v none t)
at_part is ss (titled v w) t = at_marks is ss v (some w) t
at_part is ss (marked v o ms) t = at_edge (line_at is ss (bare v o (some ms))) t
at_part is ss (edged s) t = if_so (is_sign open_mark t) _ _ (inr refl) (at_edge (line_at is ss s) t)

at_atom : (k : ℕ) (us : List Under) (u : Under) (t : Token) → LabelNumbered (atom_step k us u t)
unfolding atom_step deeper on_name
at_atom k us u (name w) = label_if (equal w (ascii "t")) _ _ tt (label_if (equal w (ascii "f")) _ _ tt (inl refl))
at_atom k us u (header w) = inl refl
at_atom k us u (number v) = label_if (ltb v k) _ _ tt (inl refl)
at_atom k us u (string w) = inl refl
at_atom k us u (symbol b) = label_if (eqb b 33) _ _ (label_if (ltb (u.nots + depth_of us) deepest) _ _ tt (inl refl)) (label_if (eqb b 40) _ _ (label_if (ltb (u.nots + depth_of us) deepest) _ _ tt (inl refl)) (inl refl))
at_atom k us u body_mark = inl refl
at_atom k us u end_mark = inl refl
at_atom k us u alias = inr refl
at_atom k us u comment = inr refl
at_atom k us u stray = inl refl

at_close : (us : List Under) (o : Option (Label or_level)) (c : Label and_level) (b : ℕ) → LabelNumbered (close_step us o c b)
unfolding close_step
at_close [] o c b = label_if (eqb b 93) _ _ tt (inl refl)
at_close (u ∷ us) o c b = label_if (eqb b 41) _ _ tt (inl refl)

at_operator : (us : List Under) (o : Option (Label or_level)) (c : Label and_level) (t : Token) → LabelNumbered (operator_step us o c t)
unfolding operator_step
at_operator us o c (name w) = inl refl
at_operator us o c (header w) = inl refl
at_operator us o c (number v) = inl refl
at_operator us o c (string w) = inl refl
at_operator us o c (symbol b) = label_if (eqb b 38) _ _ tt (label_if (eqb b 124) _ _ tt (at_close us o c b))
at_operator us o c body_mark = inl refl
at_operator us o c end_mark = inl refl
at_operator us o c alias = inl refl
at_operator us o c comment = inr refl
at_operator us o c stray = inl refl

at_label : (k : ℕ) (r : Reading) (t : Token) → LabelNumbered (label_step k r t)
unfolding label_step
at_label k (due us u) t = at_atom k us u t
at_label k (stands us o c) t = at_operator us o c t

from_labelled : (l : Line) (n : LabelNext) → LabelNumbered n → Numbered (from_label l n)
unfolding from_label
from_labelled l (on r) g = tt
from_labelled l (label_ends o) g = tt
from_labelled l (broken k) g = g

pub numbered_step : (p : Place) (t : Token) → Numbered (step p t)
unfolding step with_item
numbered_step opening t = if_so (is_header (ascii "HOA") t) _ _ tt (numbered_otherwise t)
numbered_step version t = if_so (is_name (ascii "v1") t) _ _ tt (numbered_otherwise t)
numbered_step (in_items whole is) t = in_header is t
numbered_step (in_items after_start is) t = if_so (is_sign and_sign t) _ _ (inr refl) (in_header is t)
numbered_step (in_items after_acceptance is) t = if_so (is_sign and_sign t || is_sign or_sign t) _ _ (inr refl) (in_header is t)
numbered_step (in_skipped is h us) t = if_so (is_plain t) _ _ tt (in_header (snoc is (skipped h us)) t)
numbered_step (wants_count is) t = by_number t _ (λ v. if_so (item_fits is (states v)) _ _ tt (inl refl))
numbered_step (wants_start is) t = by_number t _ (λ v. if_so (item_fits is (start v)) _ _ tt (inl refl))
numbered_step (wants_propositions is) t = by_number t _ (λ v. if_so (leb v most_propositions) _ _ tt (inl refl))
numbered_step (wants_names is l ns) t = by_string t _ _ (λ w. tt) (numbered_otherwise t)
numbered_step (wants_sets is) t = by_number t _ (λ v. if_so (eqb v 1) _ _ tt (inr refl))
numbered_step (wants_inf is) t = if_so (is_name (ascii "Inf") t) _ _ tt (if_so (is_any_name t || is_sign open_bracket t) _ _ (inr refl) (numbered_otherwise t))
numbered_step (wants_open is) t = if_so (is_sign open_bracket t) _ _ tt (numbered_otherwise t)
numbered_step (wants_set is) t = if_so (is_sign not_sign t) _ _ (inr refl) (by_number t _ (λ v. if_so (eqb v 0) _ _ tt (inr refl)))
numbered_step (wants_close is) t = if_so (is_sign close_bracket t) _ _ tt (numbered_otherwise t)
numbered_step (in_lines is ss) t = at_line is ss t
numbered_step (wants_state is ss) t = if_so (is_sign open_label t) _ _ (inr refl) (by_number t _ (λ v. if_so (ltb v (count_in is) && not (has_line v ss)) _ _ tt (inl refl)))
numbered_step (in_line is ss p) t = at_part is ss p t
numbered_step (in_marks is ss v o ms) t = if_so (is_sign close_mark t) _ _ tt (by_number t _ (λ m. if_so (eqb m 0) _ _ tt (inl refl)))
numbered_step (in_label l r) t = from_labelled l _ (at_label _ r t)
numbered_step (wants_target l o) t = by_number t _ (λ v. if_so (ltb v (count_in l.items)) _ _ tt (inl refl))
numbered_step (complete a) t = numbered_otherwise t

abbrev ToldNumbered : Told → Type 0
ToldNumbered (taken_as a) = Unit {0}
ToldNumbered (refused k) = NumberGood k

ended_numbered : (p : Place) → ToldNumbered (ended p)
unfolding ended
ended_numbered (complete a) = tt
ended_numbered opening = inl refl
ended_numbered version = inl refl
ended_numbered (in_items l is) = inl refl
ended_numbered (in_skipped is h us) = inl refl
ended_numbered (wants_count is) = inl refl
ended_numbered (wants_start is) = inl refl
ended_numbered (wants_propositions is) = inl refl
ended_numbered (wants_names is l ns) = inl refl
ended_numbered (wants_sets is) = inl refl
ended_numbered (wants_inf is) = inl refl
ended_numbered (wants_open is) = inl refl
ended_numbered (wants_set is) = inl refl
ended_numbered (wants_close is) = inl refl
ended_numbered (in_lines is ss) = inl refl
ended_numbered (wants_state is ss) = inl refl
ended_numbered (in_line is ss p) = inl refl
ended_numbered (in_marks is ss v o ms) = inl refl
ended_numbered (in_label l r) = inl refl
ended_numbered (wants_target l o) = inl refl

told_numbered : (n : Next) (ts : List Token) → Numbered n → ToldNumbered (told n ts)
unfolding told
told_numbered (fault k) [] g = g
told_numbered (fault k) (t ∷ ts) g = g
told_numbered (go p) [] g = ended_numbered p
told_numbered (go p) (t ∷ ts) g = told_numbered (step p t) ts (numbered_step p t)

-- what a text that is not refused is taken as
pub record TakenAs (ts : List Token) : Type 0 where
  pub tree : Syntax
  pub comes : told (go opening) ts ≡ taken_as tree

not_zero : {X : Type 0} (k : ℕ) → NumberGood k → k ≡ 0 → X
not_zero k (inl e) f = absurd (omega (arith, e, f))
not_zero k (inr e) f = absurd (omega (arith, e, f))

pub not_refused : (ts : List Token) → refusal_of (told (go opening) ts) ≡ 0 → TakenAs ts
not_refused ts e = pick (told (go opening) ts) refl (told_numbered (go opening) ts tt) e
  where
    pick : (x : Told) → told (go opening) ts ≡ x → ToldNumbered x → refusal_of x ≡ 0 → TakenAs ts
    pick (taken_as a) q n e = record { tree = a; comes = q }
    pick (refused k) q n e = not_zero k n (unfold refusal_of in e)

-- 0, 14, 15 and 16 and no other
pub claims_definite : ClaimsDefinite
unfolding ClaimsDefinite claim_refusal claim_told refusal_of
claims_definite bs = pick (opens bs)
  where
    number_of : (x : Told) → ToldNumbered x → (refusal_of x ≡ 0) ⊎ ((refusal_of x ≡ 14) ⊎ NumberGood (refusal_of x))
    number_of (taken_as a) n = unfold refusal_of in (inl refl)
    number_of (refused k) n = unfold refusal_of in (inr (inr n))

    pick : (b : Bool) → let k = refusal_of (cond b (told (go opening) (tokens bs)) (refused 14)) in (k ≡ 0) ⊎ ((k ≡ 14) ⊎ NumberGood k)
    pick true = number_of (told (go opening) (tokens bs)) (told_numbered (go opening) (tokens bs) tt)
    pick false = unfold refusal_of in (inr (inl refl))

-- a refusal is not 0
pub refused_some : (bs : List ℕ) (k : ℕ) → claim_told bs ≡ refused k → k ≡ 0 → ⊥
unfolding claim_told refusal_of
refused_some bs k e = pick (opens bs) e
  where
    number_of : (x : Told) → ToldNumbered x → x ≡ refused k → k ≡ 0 → ⊥
    number_of x n q = not_zero k (subst (λ (y : Told). ToldNumbered y) q n)

    pick : (b : Bool) → cond b (told (go opening) (tokens bs)) (refused 14) ≡ refused k → k ≡ 0 → ⊥
    pick true q = number_of (told (go opening) (tokens bs)) (told_numbered (go opening) (tokens bs) tt) q
    pick false q = λ z. absurd (omega (arith, z, ap refusal_of q))
