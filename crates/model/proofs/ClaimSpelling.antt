-- What stands before a place is what the place has read: each step adds its token, so a text that is taken is spelled by
-- its automaton.
use mathlib.Core.Path.{◌≡◌, refl, sym, ap, subst, ◌∙◌}
use mathlib.Core.Bool.{Bool, true, false, ◌&&◌, ◌||◌, not, cond}
use mathlib.Core.List.{List, [], ◌∷◌, ◌++◌, append_assoc, append-nil}
use mathlib.Core.Option.{Option, none, some}
use Prim.Native.Nat.{ℕ, zero, suc, ◌+◌}
use native.Mathlib.Omega.{arith}
use lib.Dec.{ltb, leb, eqb}
use lib.ListN.{length, length-append}
use borrow.Author.Tests.{eqb-true}
use Rattle.text.specs.Ascii.{ascii}
use Rattle.text.specs.Lines.{equal}
use Rattle.text.proofs.Tests.{and_both}
use Rattle.text.proofs.Lines.{equal_true}
use Rattle.model.specs.ClaimTokens.{Token, name, header, number, string, symbol, body_mark, end_mark, alias, comment, stray, is_header, is_name}
use Rattle.model.specs.ClaimLabels.{or_level, and_level, atom, Label, always, never, proposition, negated, bracketed, label_tokens, deepest, open_label, close_label, open_bracket, close_bracket, open_mark, close_mark, not_sign, and_sign, or_sign, Under, no_under, Reading, due, stands, LabelNext, on, label_ends, broken, depth_of, negations, extend, close_or, with_atom, deeper, on_name, atom_step, close_step, operator_step, label_step}
use Rattle.model.specs.ClaimGrammar.{Item, states, start, propositions, acceptance, skipped, strings, item_tokens, items_tokens, Edge, State, edge_tokens, edges_tokens, state_tokens, states_tokens, title_tokens, mark_tokens, numbers, Syntax, syntax_tokens, item_fits, header_whole, small_first, count_in, has_line, title_fits, most_propositions, is_plain}
use Rattle.model.specs.ClaimTable.{Last, whole, after_start, after_acceptance, Part, numbered, titled, marked, edged, bare, state_of, Line, Place, opening, version, in_items, in_skipped, wants_count, wants_start, wants_propositions, wants_names, wants_sets, wants_inf, wants_open, wants_set, wants_close, in_lines, wants_state, in_line, in_marks, in_label, wants_target, complete, Next, go, fault, otherwise, on_number, on_string, is_sign, is_any_name, snoc, with_item, unless, on_header, header_step, named, line_step, line_at, with_edge, edge_step, marks_step, part_step, from_label, step, ended, told, Told, taken_as, refused}

-- EQUAL TEXTS
-- WHAT A PLACE HAS READ
abbrev head_of : List Item → List Token
head_of is = header (ascii "HOA") ∷ name (ascii "v1") ∷ items_tokens is

abbrev body_of : List Item → List State → List Token
body_of is ss = head_of is ++ (body_mark ∷ states_tokens ss)

abbrev line_of : List Item → List State → State → List Token
line_of is ss s = body_of is ss ++ state_tokens s

unfoldable pub nots_tokens : ℕ → List Token
nots_tokens zero = []
nots_tokens (suc n) = not_sign ∷ nots_tokens n

unfoldable pub ors_tokens : Option (Label or_level) → List Token
ors_tokens none = []
ors_tokens (some o) = label_tokens o ++ (or_sign ∷ [])

unfoldable pub ands_tokens : Option (Label and_level) → List Token
ands_tokens none = []
ands_tokens (some c) = label_tokens c ++ (and_sign ∷ [])

unfoldable pub under_tokens : Under → List Token
under_tokens u = ors_tokens u.ors ++ (ands_tokens u.ands ++ nots_tokens u.nots)

unfoldable pub outer_tokens : List Under → List Token
outer_tokens [] = []
outer_tokens (u ∷ us) = outer_tokens us ++ (under_tokens u ++ (open_bracket ∷ []))

unfoldable pub reading_tokens : Reading → List Token
reading_tokens (due us u) = outer_tokens us ++ under_tokens u
reading_tokens (stands us o c) = outer_tokens us ++ (ors_tokens o ++ label_tokens c)

abbrev label_of : Line → List Token → List Token
label_of l ts = line_of l.items l.states l.state ++ (open_label ∷ ts)

unfoldable pub place_tokens : Place → List Token
place_tokens opening = []
place_tokens version = header (ascii "HOA") ∷ []
place_tokens (in_items l is) = head_of is
place_tokens (in_skipped is h ts) = head_of is ++ (header h ∷ ts)
place_tokens (wants_count is) = head_of is ++ (header (ascii "States") ∷ [])
place_tokens (wants_start is) = head_of is ++ (header (ascii "Start") ∷ [])
place_tokens (wants_propositions is) = head_of is ++ (header (ascii "AP") ∷ [])
place_tokens (wants_names is l ns) = head_of is ++ (header (ascii "AP") ∷ number (length ns + suc l) ∷ strings ns)
place_tokens (wants_sets is) = head_of is ++ (header (ascii "Acceptance") ∷ [])
place_tokens (wants_inf is) = head_of is ++ (header (ascii "Acceptance") ∷ number 1 ∷ [])
place_tokens (wants_open is) = head_of is ++ (header (ascii "Acceptance") ∷ number 1 ∷ name (ascii "Inf") ∷ [])
place_tokens (wants_set is) = head_of is ++ (header (ascii "Acceptance") ∷ number 1 ∷ name (ascii "Inf") ∷ open_bracket ∷ [])
place_tokens (wants_close is) = head_of is ++ (header (ascii "Acceptance") ∷ number 1 ∷ name (ascii "Inf") ∷ open_bracket ∷ number 0 ∷ [])
place_tokens (in_lines is ss) = body_of is ss
place_tokens (wants_state is ss) = body_of is ss ++ (header (ascii "State") ∷ [])
place_tokens (in_line is ss p) = line_of is ss (state_of p)
place_tokens (in_marks is ss v o ms) = line_of is ss (bare v o none) ++ (open_mark ∷ numbers ms)
place_tokens (in_label l r) = label_of l (reading_tokens r)
place_tokens (wants_target l o) = label_of l (label_tokens o ++ (close_label ∷ []))
place_tokens (complete a) = syntax_tokens a

abbrev Spells : Next → List Token → Type 0
Spells (go q) ts = place_tokens q ≡ ts
Spells (fault k) ts = Unit {0}

-- TESTS
spells_cond : (b : Bool) (x y : Next) (ts : List Token) → (b ≡ true → Spells x ts) → (b ≡ false → Spells y ts) → Spells (cond b x y) ts
spells_cond true x y ts f g = f refl
spells_cond false x y ts f g = g refl

spells_to : (n : Next) (ts us : List Token) → ts ≡ us → Spells n ts → Spells n us
spells_to n ts us e s = subst (λ (r : List Token). Spells n r) e s

spells_otherwise : (t : Token) (ts : List Token) → Spells (otherwise t) ts
unfolding otherwise
spells_otherwise (name w) ts = tt
spells_otherwise (header w) ts = tt
spells_otherwise (number v) ts = tt
spells_otherwise (string w) ts = tt
spells_otherwise (symbol b) ts = tt
spells_otherwise body_mark ts = tt
spells_otherwise end_mark ts = tt
spells_otherwise alias ts = tt
spells_otherwise comment ts = tt
spells_otherwise stray ts = tt

spells_number : (t : Token) (f : ℕ → Next) (ts : List Token) → ((v : ℕ) → t ≡ number v → Spells (f v) ts) → Spells (on_number t f) ts
unfolding on_number
spells_number (number v) f ts h = h v refl
spells_number (name w) f ts h = tt
spells_number (header w) f ts h = tt
spells_number (string w) f ts h = tt
spells_number (symbol b) f ts h = tt
spells_number body_mark f ts h = tt
spells_number end_mark f ts h = tt
spells_number alias f ts h = tt
spells_number comment f ts h = tt
spells_number stray f ts h = tt

spells_string : (t : Token) (f : List ℕ → Next) (n : Next) (ts : List Token) → ((w : List ℕ) → t ≡ string w → Spells (f w) ts) → Spells n ts → Spells (on_string t f n) ts
unfolding on_string
spells_string (string w) f n ts h k = h w refl
spells_string (number v) f n ts h k = k
spells_string (name w) f n ts h k = k
spells_string (header w) f n ts h k = k
spells_string (symbol b) f n ts h k = k
spells_string body_mark f n ts h k = k
spells_string end_mark f n ts h k = k
spells_string alias f n ts h k = k
spells_string comment f n ts h k = k
spells_string stray f n ts h k = k

header_told : (w : List ℕ) (t : Token) → is_header w t ≡ true → t ≡ header w
unfolding is_header
header_told w (header v) e = ap header (equal_true v w e)
header_told w (name v) e = cc
header_told w (number v) e = cc
header_told w (string v) e = cc
header_told w (symbol v) e = cc
header_told w body_mark e = cc
header_told w end_mark e = cc
header_told w alias e = cc
header_told w comment e = cc
header_told w stray e = cc

name_told : (w : List ℕ) (t : Token) → is_name w t ≡ true → t ≡ name w
unfolding is_name
name_told w (name v) e = ap name (equal_true v w e)
name_told w (header v) e = cc
name_told w (number v) e = cc
name_told w (string v) e = cc
name_told w (symbol v) e = cc
name_told w body_mark e = cc
name_told w end_mark e = cc
name_told w alias e = cc
name_told w comment e = cc
name_told w stray e = cc

sign_told : (b : ℕ) (t : Token) → is_sign (symbol b) t ≡ true → t ≡ symbol b
unfolding is_sign
sign_told b (symbol v) e = ap symbol (eqb-true v b e)
sign_told b (header v) e = cc
sign_told b (name v) e = cc
sign_told b (number v) e = cc
sign_told b (string v) e = cc
sign_told b body_mark e = cc
sign_told b end_mark e = cc
sign_told b alias e = cc
sign_told b comment e = cc
sign_told b stray e = cc

-- LISTS
grows : (xs ys zs : List Token) (t : Token) → zs ≡ ys ++ (t ∷ []) → xs ++ zs ≡ (xs ++ ys) ++ (t ∷ [])
grows xs ys zs t e = ap (λ (r : List Token). xs ++ r) e ∙ sym (append_assoc xs ys (t ∷ []))

items_snoc : (is : List Item) (i : Item) → items_tokens (snoc is i) ≡ items_tokens is ++ item_tokens i
unfolding items_tokens
items_snoc [] i = append-nil (item_tokens i)
items_snoc (j ∷ is) i = ap (λ (r : List Token). item_tokens j ++ r) (items_snoc is i) ∙ sym (append_assoc (item_tokens j) (items_tokens is) (item_tokens i))

head_snoc : (is : List Item) (i : Item) → head_of (snoc is i) ≡ head_of is ++ item_tokens i
head_snoc is i = ap (λ (r : List Token). header (ascii "HOA") ∷ name (ascii "v1") ∷ r) (items_snoc is i)

-- an item whose last token comes now
head_more : (is : List Item) (i : Item) (ys : List Token) (t : Token) → item_tokens i ≡ ys ++ (t ∷ []) → head_of (snoc is i) ≡ (head_of is ++ ys) ++ (t ∷ [])
head_more is i ys t e = head_snoc is i ∙ grows (head_of is) ys (item_tokens i) t e

states_snoc : (ss : List State) (s : State) → states_tokens (snoc ss s) ≡ states_tokens ss ++ state_tokens s
unfolding states_tokens
states_snoc [] s = append-nil (state_tokens s)
states_snoc (r ∷ ss) s = ap (λ (x : List Token). state_tokens r ++ x) (states_snoc ss s) ∙ sym (append_assoc (state_tokens r) (states_tokens ss) (state_tokens s))

body_snoc : (is : List Item) (ss : List State) (s : State) → body_of is (snoc ss s) ≡ line_of is ss s
body_snoc is ss s = ap (λ (r : List Token). head_of is ++ (body_mark ∷ r)) (states_snoc ss s) ∙ sym (append_assoc (head_of is) (body_mark ∷ states_tokens ss) (state_tokens s))

strings_snoc : (ns : List (List ℕ)) (w : List ℕ) → strings (snoc ns w) ≡ strings ns ++ (string w ∷ [])
unfolding strings
strings_snoc [] w = refl
strings_snoc (n ∷ ns) w = ap (λ (r : List Token). string n ∷ r) (strings_snoc ns w)

numbers_snoc : (ns : List ℕ) (w : ℕ) → numbers (snoc ns w) ≡ numbers ns ++ (number w ∷ [])
unfolding numbers
numbers_snoc [] w = refl
numbers_snoc (n ∷ ns) w = ap (λ (r : List Token). number n ∷ r) (numbers_snoc ns w)

-- THE HEADER
spells_unless : (g : Bool) (k : ℕ) (p : Place) (ts : List Token) → place_tokens p ≡ ts → Spells (unless g k p) ts
unfolding unless
spells_unless g k p ts e = spells_cond g (fault k) (go p) ts (λ _. tt) (λ _. e)

-- a header's name, told by comparing
spells_named : (is : List Item) (h w : List ℕ) (p : Place) → place_tokens p ≡ head_of is ++ (header w ∷ []) → equal h w ≡ true → place_tokens p ≡ head_of is ++ (header h ∷ [])
spells_named is h w p e q = e ∙ ap (λ (x : List ℕ). head_of is ++ (header x ∷ [])) (sym (equal_true h w q))

spells_on_header : (is : List Item) (h : List ℕ) → Spells (on_header is h) (head_of is ++ (header h ∷ []))
unfolding on_header place_tokens
spells_on_header is h =
    let ts = head_of is ++ (header h ∷ []) in
    spells_cond (equal h (ascii "HOA")) _ _ ts (λ _. tt)
    (λ _. spells_cond (equal h (ascii "States")) _ _ ts (λ q. spells_unless _ _ _ ts (spells_named is h (ascii "States") (wants_count is) refl q))
    (λ _. spells_cond (equal h (ascii "Start")) _ _ ts (λ q. spells_unless _ _ _ ts (spells_named is h (ascii "Start") (wants_start is) refl q))
    (λ _. spells_cond (equal h (ascii "AP")) _ _ ts (λ q. spells_unless _ _ _ ts (spells_named is h (ascii "AP") (wants_propositions is) refl q))
    (λ _. spells_cond (equal h (ascii "Acceptance")) _ _ ts (λ q. spells_unless _ _ _ ts (spells_named is h (ascii "Acceptance") (wants_sets is) refl q))
    (λ _. spells_cond (small_first h) _ _ ts (λ _. refl) (λ _. tt))))))

spells_header : (is : List Item) (t : Token) → Spells (header_step is t) (head_of is ++ (t ∷ []))
unfolding header_step place_tokens states_tokens
spells_header is (header h) = spells_on_header is h
spells_header is body_mark = spells_cond (header_whole is) _ _ _ (λ _. refl) (λ _. tt)
spells_header is (name w) = tt
spells_header is (number v) = tt
spells_header is (string w) = tt
spells_header is (symbol b) = tt
spells_header is end_mark = tt
spells_header is alias = tt
spells_header is comment = tt
spells_header is stray = tt

spells_skipped : (is : List Item) (h : List ℕ) (us : List Token) (t : Token) → Spells (step (in_skipped is h us) t) (place_tokens (in_skipped is h us) ++ (t ∷ []))
unfolding step place_tokens item_tokens
spells_skipped is h us t =
    spells_cond (is_plain t) _ _ _
    (λ _. grows (head_of is) (header h ∷ us) (header h ∷ snoc us t) t refl)
    (λ _. spells_to (header_step (snoc is (skipped h us)) t) _ _ (ap (λ (r : List Token). r ++ (t ∷ [])) (head_snoc is (skipped h us))) (spells_header (snoc is (skipped h us)) t))

-- an item that a number ends
spells_item : (l : Last) (is : List Item) (i : Item) (ys : List Token) (t : Token) → item_tokens i ≡ ys ++ (t ∷ []) → Spells (with_item l is i) ((head_of is ++ ys) ++ (t ∷ []))
unfolding with_item place_tokens
spells_item l is i ys t e = spells_cond (item_fits is i) _ _ _ (λ _. head_more is i ys t e) (λ _. tt)

named_tokens : (is : List Item) (l : ℕ) (ns : List (List ℕ)) → place_tokens (named is l ns) ≡ head_of is ++ (header (ascii "AP") ∷ number (length ns + l) ∷ strings ns)
unfolding named place_tokens item_tokens
named_tokens is zero ns =
    head_snoc is (propositions ns)
    ∙ ap (λ (k : ℕ). head_of is ++ (header (ascii "AP") ∷ number k ∷ strings ns)) (omega arith)
named_tokens is (suc l) ns = refl

spells_count : (is : List Item) (t : Token) → Spells (step (wants_count is) t) (place_tokens (wants_count is) ++ (t ∷ []))
unfolding step place_tokens item_tokens
spells_count is t = spells_number t _ _ (λ v e. spells_item whole is (states v) (header (ascii "States") ∷ []) t (ap (λ (r : Token). header (ascii "States") ∷ r ∷ []) (sym e)))

spells_start : (is : List Item) (t : Token) → Spells (step (wants_start is) t) (place_tokens (wants_start is) ++ (t ∷ []))
unfolding step place_tokens item_tokens
spells_start is t = spells_number t _ _ (λ v e. spells_item after_start is (start v) (header (ascii "Start") ∷ []) t (ap (λ (r : Token). header (ascii "Start") ∷ r ∷ []) (sym e)))

spells_propositions : (is : List Item) (t : Token) → Spells (step (wants_propositions is) t) (place_tokens (wants_propositions is) ++ (t ∷ []))
unfolding step place_tokens strings
spells_propositions is t =
    spells_number t _ _
    (λ v e. spells_cond (leb v most_propositions) _ _ _
    (λ _. named_tokens is v [] ∙ grows (head_of is) (header (ascii "AP") ∷ []) _ t
    (ap (λ (r : Token). header (ascii "AP") ∷ r ∷ []) (ap number (omega arith) ∙ sym e)))
    (λ _. tt))

spells_names : (is : List Item) (l : ℕ) (ns : List (List ℕ)) (t : Token) → Spells (step (wants_names is l ns) t) (place_tokens (wants_names is l ns) ++ (t ∷ []))
unfolding step place_tokens
spells_names is l ns t =
    spells_string t _ _ _
    (λ w e. named_tokens is l (snoc ns w) ∙ grows (head_of is) _ _ t
    (ap (λ (k : ℕ). header (ascii "AP") ∷ number k ∷ strings (snoc ns w)) (counted ns w l)
    ∙ ap (λ (r : List Token). header (ascii "AP") ∷ number (length ns + suc l) ∷ r) (strings_snoc ns w ∙ ap (λ (r : Token). strings ns ++ (r ∷ [])) (sym e))))
    (spells_otherwise t _)
  where
    counted : (ns : List (List ℕ)) (w : List ℕ) (l : ℕ) → length (snoc ns w) + l ≡ length ns + suc l
    counted ns w l = (simp length-append (omega arith))

-- THE ACCEPTANCE
spells_sets : (is : List Item) (t : Token) → Spells (step (wants_sets is) t) (place_tokens (wants_sets is) ++ (t ∷ []))
unfolding step place_tokens
spells_sets is t = spells_number t _ _ (λ v e. spells_cond (eqb v 1) _ _ _ (λ q. grows (head_of is) _ _ t (ap (λ (r : Token). header (ascii "Acceptance") ∷ r ∷ []) (ap number (sym (eqb-true v 1 q)) ∙ sym e))) (λ _. tt))

spells_inf : (is : List Item) (t : Token) → Spells (step (wants_inf is) t) (place_tokens (wants_inf is) ++ (t ∷ []))
unfolding step place_tokens
spells_inf is t =
    spells_cond (is_name (ascii "Inf") t) _ _ _
    (λ q. grows (head_of is) _ _ t (ap (λ (r : Token). header (ascii "Acceptance") ∷ number 1 ∷ r ∷ []) (sym (name_told (ascii "Inf") t q))))
    (λ _. spells_cond (is_any_name t || is_sign open_bracket t) _ _ _ (λ _. tt) (λ _. spells_otherwise t _))

spells_open : (is : List Item) (t : Token) → Spells (step (wants_open is) t) (place_tokens (wants_open is) ++ (t ∷ []))
unfolding step place_tokens
spells_open is t =
    spells_cond (is_sign open_bracket t) _ _ _
    (λ q. grows (head_of is) _ _ t (ap (λ (r : Token). header (ascii "Acceptance") ∷ number 1 ∷ name (ascii "Inf") ∷ r ∷ []) (sym (sign_told 40 t q))))
    (λ _. spells_otherwise t _)

spells_set : (is : List Item) (t : Token) → Spells (step (wants_set is) t) (place_tokens (wants_set is) ++ (t ∷ []))
unfolding step place_tokens
spells_set is t =
    spells_cond (is_sign not_sign t) _ _ _ (λ _. tt)
    (λ _. spells_number t _ _ (λ v e. spells_cond (eqb v 0) _ _ _
    (λ q. grows (head_of is) _ _ t (ap (λ (r : Token). header (ascii "Acceptance") ∷ number 1 ∷ name (ascii "Inf") ∷ open_bracket ∷ r ∷ []) (ap number (sym (eqb-true v 0 q)) ∙ sym e))) (λ _. tt)))

spells_close : (is : List Item) (t : Token) → Spells (step (wants_close is) t) (place_tokens (wants_close is) ++ (t ∷ []))
unfolding step place_tokens item_tokens
spells_close is t =
    spells_cond (is_sign close_bracket t) _ _ _
    (λ q. head_more is acceptance _ t (ap (λ (r : Token). header (ascii "Acceptance") ∷ number 1 ∷ name (ascii "Inf") ∷ open_bracket ∷ number 0 ∷ r ∷ []) (sym (sign_told 41 t q))))
    (λ _. spells_otherwise t _)

-- STATE LINES
spells_line : (is : List Item) (ss : List State) (t : Token) → Spells (line_step is ss t) (body_of is ss ++ (t ∷ []))
unfolding line_step place_tokens syntax_tokens
spells_line is ss (header h) =
    spells_cond (equal h (ascii "State") && ltb (length ss) (count_in is)) _ _ _
    (λ q. ap (λ (x : List ℕ). body_of is ss ++ (header x ∷ [])) (sym (equal_true h (ascii "State") (and_both _ _ q).0))) (λ _. tt)
spells_line is ss end_mark = spells_cond (eqb (length ss) (count_in is)) _ _ _ (λ _. sym (append_assoc (head_of is) (body_mark ∷ states_tokens ss) (end_mark ∷ []))) (λ _. tt)
spells_line is ss body_mark = tt
spells_line is ss (name w) = tt
spells_line is ss (number v) = tt
spells_line is ss (string w) = tt
spells_line is ss (symbol b) = tt
spells_line is ss alias = tt
spells_line is ss comment = tt
spells_line is ss stray = tt

spells_edge : (is : List Item) (ss : List State) (s : State) (t : Token) → Spells (edge_step (line_at is ss s) t) (line_of is ss s ++ (t ∷ []))
unfolding edge_step place_tokens reading_tokens outer_tokens under_tokens ors_tokens ands_tokens nots_tokens
spells_edge is ss s t =
    spells_cond (is_sign open_label t) _ _ _
    (λ q. ap (λ (r : Token). line_of is ss s ++ (r ∷ [])) (sym (sign_told 91 t q)))
    (λ _. spells_to (line_step is (snoc ss s) t) _ _ (ap (λ (r : List Token). r ++ (t ∷ [])) (body_snoc is ss s)) (spells_line is (snoc ss s) t))

spells_marks : (is : List Item) (ss : List State) (v : ℕ) (o : Option (List ℕ)) (t : Token) → Spells (marks_step is ss v o t) (line_of is ss (bare v o none) ++ (t ∷ []))
unfolding marks_step place_tokens numbers
spells_marks is ss v o t =
    spells_cond (is_sign open_mark t) _ _ _
    (λ q. ap (λ (r : Token). line_of is ss (bare v o none) ++ (r ∷ [])) (sym (sign_told 123 t q)))
    (λ _. spells_edge is ss (bare v o none) t)

spells_part : (is : List Item) (ss : List State) (p : Part) (t : Token) → Spells (part_step is ss p t) (line_of is ss (state_of p) ++ (t ∷ []))
unfolding part_step place_tokens state_of state_tokens title_tokens mark_tokens edges_tokens
spells_part is ss (numbered v) t =
    spells_string t _ _ _
    (λ w e. spells_cond (title_fits (some w)) _ _ _
    (λ _. grows (body_of is ss) _ _ t (ap (λ (r : Token). header (ascii "State") ∷ number v ∷ r ∷ []) (sym e))) (λ _. tt))
    (spells_marks is ss v none t)
spells_part is ss (titled v w) t = spells_marks is ss v (some w) t
spells_part is ss (marked v o ms) t = spells_edge is ss (bare v o (some ms)) t
spells_part is ss (edged s) t = spells_cond (is_sign open_mark t) _ _ _ (λ _. tt) (λ _. spells_edge is ss s t)

spells_state : (is : List Item) (ss : List State) (t : Token) → Spells (step (wants_state is ss) t) (place_tokens (wants_state is ss) ++ (t ∷ []))
unfolding step place_tokens state_of state_tokens title_tokens mark_tokens edges_tokens
spells_state is ss t =
    spells_cond (is_sign open_label t) _ _ _ (λ _. tt)
    (λ _. spells_number t _ _ (λ v e. spells_cond (ltb v (count_in is) && not (has_line v ss)) _ _ _
    (λ _. grows (body_of is ss) _ _ t (ap (λ (r : Token). header (ascii "State") ∷ r ∷ []) (sym e))) (λ _. tt)))

-- a state line that its marks end
marks_end : (v : ℕ) (o : Option (List ℕ)) (ms : List ℕ) → state_tokens (bare v o (some ms)) ≡ (state_tokens (bare v o none) ++ (open_mark ∷ numbers ms)) ++ (close_mark ∷ [])
unfolding state_tokens title_tokens mark_tokens edges_tokens
marks_end v none ms = ap (λ (r : List Token). header (ascii "State") ∷ number v ∷ r) (append-nil _)
marks_end v (some w) ms = ap (λ (r : List Token). header (ascii "State") ∷ number v ∷ string w ∷ r) (append-nil _)

spells_in_marks : (is : List Item) (ss : List State) (v : ℕ) (o : Option (List ℕ)) (ms : List ℕ) (t : Token) → Spells (step (in_marks is ss v o ms) t) (place_tokens (in_marks is ss v o ms) ++ (t ∷ []))
unfolding step place_tokens state_of
spells_in_marks is ss v o ms t =
    spells_cond (is_sign close_mark t) _ _ _
    (λ q. grows (body_of is ss) (state_tokens (bare v o none) ++ (open_mark ∷ numbers ms)) _ t (marks_end v o ms ∙ ap (λ (r : Token). (state_tokens (bare v o none) ++ (open_mark ∷ numbers ms)) ++ (r ∷ [])) (sym (sign_told 125 t q)))
    ∙ ap (λ (r : List Token). r ++ (t ∷ [])) (sym (append_assoc (body_of is ss) (state_tokens (bare v o none)) (open_mark ∷ numbers ms))))
    (λ _. spells_number t _ _ (λ m e. spells_cond (eqb m 0) _ _ _
    (λ _. grows (line_of is ss (bare v o none)) _ _ t (ap (λ (r : List Token). open_mark ∷ r) (numbers_snoc ms m ∙ ap (λ (r : Token). numbers ms ++ (r ∷ [])) (sym e)))) (λ _. tt)))

-- LABELS
nots_snoc : (n : ℕ) → nots_tokens (suc n) ≡ nots_tokens n ++ (not_sign ∷ [])
unfolding nots_tokens
nots_snoc zero = refl
nots_snoc (suc n) = ap (λ (r : List Token). not_sign ∷ r) (nots_snoc n)

always_tokens : label_tokens always ≡ name (ascii "t") ∷ []
unfolding label_tokens
always_tokens = refl

never_tokens : label_tokens never ≡ name (ascii "f") ∷ []
unfolding label_tokens
never_tokens = refl

proposition_tokens : (i : ℕ) → label_tokens (proposition i) ≡ number i ∷ []
unfolding label_tokens
proposition_tokens i = refl

bracketed_tokens : (o : Label or_level) → label_tokens (bracketed o) ≡ open_bracket ∷ label_tokens o ++ (close_bracket ∷ [])
unfolding label_tokens
bracketed_tokens o = refl

negated_tokens : (a : Label atom) → label_tokens (negated a) ≡ not_sign ∷ label_tokens a
unfolding label_tokens
negated_tokens a = refl

under_none : under_tokens no_under ≡ []
unfolding under_tokens ors_tokens ands_tokens nots_tokens
under_none = refl

negations_tokens : (n : ℕ) (a : Label atom) → label_tokens (negations n a) ≡ nots_tokens n ++ label_tokens a
unfolding negations nots_tokens
negations_tokens zero a = refl
negations_tokens (suc n) a =
    negations_tokens n (negated a) ∙ ap (λ (r : List Token). nots_tokens n ++ r) (negated_tokens a)
    ∙ sym (append_assoc (nots_tokens n) (not_sign ∷ []) (label_tokens a))
    ∙ ap (λ (r : List Token). r ++ label_tokens a) (sym (nots_snoc n))

extend_tokens : (c : Option (Label and_level)) (a : Label atom) → label_tokens (extend c a) ≡ ands_tokens c ++ label_tokens a
unfolding extend ands_tokens label_tokens
extend_tokens none a = refl
extend_tokens (some c) a = sym (append_assoc (label_tokens c) (and_sign ∷ []) (label_tokens a))

close_tokens : (o : Option (Label or_level)) (c : Label and_level) → label_tokens (close_or o c) ≡ ors_tokens o ++ label_tokens c
unfolding close_or ors_tokens label_tokens
close_tokens none c = refl
close_tokens (some o) c = sym (append_assoc (label_tokens o) (or_sign ∷ []) (label_tokens c))

-- an atom that stands whole
atom_tokens : (u : Under) (a : Label atom) → ors_tokens u.ors ++ label_tokens (extend u.ands (negations u.nots a)) ≡ under_tokens u ++ label_tokens a
unfolding under_tokens
atom_tokens u a =
    ap (λ (r : List Token). ors_tokens u.ors ++ r)
    (extend_tokens u.ands (negations u.nots a)
    ∙ (ap (λ (r : List Token). ands_tokens u.ands ++ r) (negations_tokens u.nots a)
    ∙ sym (append_assoc (ands_tokens u.ands) (nots_tokens u.nots) (label_tokens a))))
    ∙ sym (append_assoc (ors_tokens u.ors) (ands_tokens u.ands ++ nots_tokens u.nots) (label_tokens a))

abbrev LabelSpells : LabelNext → List Token → Type 0
LabelSpells (on r) ts = reading_tokens r ≡ ts
LabelSpells (label_ends o) ts = label_tokens o ++ (close_label ∷ []) ≡ ts
LabelSpells (broken k) ts = Unit {0}

label_cond : (b : Bool) (x y : LabelNext) (ts : List Token) → (b ≡ true → LabelSpells x ts) → (b ≡ false → LabelSpells y ts) → LabelSpells (cond b x y) ts
label_cond true x y ts f g = f refl
label_cond false x y ts f g = g refl

-- an atom of one token
spells_atom : (us : List Under) (u : Under) (a : Label atom) (t : Token) → label_tokens a ≡ t ∷ [] → reading_tokens (with_atom us u a) ≡ reading_tokens (due us u) ++ (t ∷ [])
unfolding with_atom reading_tokens
spells_atom us u a t e = grows (outer_tokens us) (under_tokens u) _ t (atom_tokens u a ∙ ap (λ (r : List Token). under_tokens u ++ r) e)

spells_deeper : (us : List Under) (u : Under) (r : Reading) (ts : List Token) → reading_tokens r ≡ ts → LabelSpells (deeper us u r) ts
unfolding deeper
spells_deeper us u r ts e = label_cond (ltb (u.nots + depth_of us) deepest) (on r) (broken 15) ts (λ _. e) (λ _. tt)

spells_not : (us : List Under) (u : Under) → reading_tokens (due us (record { ors = u.ors; ands = u.ands; nots = suc u.nots })) ≡ reading_tokens (due us u) ++ (not_sign ∷ [])
unfolding reading_tokens under_tokens
spells_not us u =
    grows (outer_tokens us) (under_tokens u) _ not_sign
    (grows (ors_tokens u.ors) (ands_tokens u.ands ++ nots_tokens u.nots) _ not_sign
    (grows (ands_tokens u.ands) (nots_tokens u.nots) _ not_sign (nots_snoc u.nots)))

spells_bracket : (us : List Under) (u : Under) → reading_tokens (due (u ∷ us) no_under) ≡ reading_tokens (due us u) ++ (open_bracket ∷ [])
unfolding reading_tokens outer_tokens
spells_bracket us u = ap (λ (r : List Token). outer_tokens (u ∷ us) ++ r) under_none ∙ append-nil _ ∙ sym (append_assoc (outer_tokens us) (under_tokens u) (open_bracket ∷ []))

as_symbol : (x b : ℕ) (ts us : List Token) → us ≡ ts ++ (symbol x ∷ []) → eqb b x ≡ true → us ≡ ts ++ (symbol b ∷ [])
as_symbol x b ts us e q = e ∙ ap (λ (y : ℕ). ts ++ (symbol y ∷ [])) (sym (eqb-true b x q))

spells_atom_step : (k : ℕ) (us : List Under) (u : Under) (t : Token) → LabelSpells (atom_step k us u t) (reading_tokens (due us u) ++ (t ∷ []))
unfolding atom_step on_name
spells_atom_step k us u (symbol b) =
    label_cond (eqb b 33) _ _ _ (λ q. spells_deeper us u _ _ (as_symbol 33 b (reading_tokens (due us u)) _ (spells_not us u) q))
    (λ _. label_cond (eqb b 40) _ _ _ (λ q. spells_deeper us u _ _ (as_symbol 40 b (reading_tokens (due us u)) _ (spells_bracket us u) q))
    (λ _. tt))
spells_atom_step k us u (name w) =
    label_cond (equal w (ascii "t")) _ _ _ (λ q. spells_atom us u always (name w) (always_tokens ∙ ap (λ (x : List ℕ). name x ∷ []) (sym (equal_true w (ascii "t") q))))
    (λ _. label_cond (equal w (ascii "f")) _ _ _ (λ q. spells_atom us u never (name w) (never_tokens ∙ ap (λ (x : List ℕ). name x ∷ []) (sym (equal_true w (ascii "f") q))))
    (λ _. tt))
spells_atom_step k us u (number i) = label_cond (ltb i k) _ _ _ (λ _. spells_atom us u (proposition i) (number i) (proposition_tokens i)) (λ _. tt)
spells_atom_step k us u (header w) = tt
spells_atom_step k us u (string w) = tt
spells_atom_step k us u body_mark = tt
spells_atom_step k us u end_mark = tt
spells_atom_step k us u alias = tt
spells_atom_step k us u comment = tt
spells_atom_step k us u stray = tt

-- after an atom: an operator, a bracket that closes, or the label's end
spells_and : (us : List Under) (o : Option (Label or_level)) (c : Label and_level) → reading_tokens (due us (record { ors = o; ands = some c; nots = 0 })) ≡ reading_tokens (stands us o c) ++ (and_sign ∷ [])
unfolding reading_tokens under_tokens ands_tokens nots_tokens
spells_and us o c = grows (outer_tokens us) (ors_tokens o ++ label_tokens c) _ and_sign (grows (ors_tokens o) (label_tokens c) _ and_sign (append-nil _))

spells_or : (us : List Under) (o : Option (Label or_level)) (c : Label and_level) → reading_tokens (due us (record { ors = some (close_or o c); ands = none; nots = 0 })) ≡ reading_tokens (stands us o c) ++ (or_sign ∷ [])
unfolding reading_tokens under_tokens ors_tokens ands_tokens nots_tokens
spells_or us o c =
    grows (outer_tokens us) (ors_tokens o ++ label_tokens c) _ or_sign
    (append-nil _ ∙ ap (λ (r : List Token). r ++ (or_sign ∷ [])) (close_tokens o c))

four : (a b c d e : List Token) → a ++ (b ++ (c ++ (d ++ e))) ≡ ((a ++ (b ++ c)) ++ d) ++ e
four a b c d e = simp append_assoc

spells_closed : (us : List Under) (u : Under) (o : Option (Label or_level)) (c : Label and_level) → reading_tokens (with_atom us u (bracketed (close_or o c))) ≡ reading_tokens (stands (u ∷ us) o c) ++ (close_bracket ∷ [])
unfolding with_atom reading_tokens outer_tokens
spells_closed us u o c =
    ap (λ (r : List Token). outer_tokens us ++ r)
    (atom_tokens u (bracketed (close_or o c)) ∙ ap (λ (r : List Token). under_tokens u ++ r)
    (bracketed_tokens (close_or o c) ∙ ap (λ (r : List Token). open_bracket ∷ r ++ (close_bracket ∷ [])) (close_tokens o c)))
    ∙ four (outer_tokens us) (under_tokens u) (open_bracket ∷ []) (ors_tokens o ++ label_tokens c) (close_bracket ∷ [])

spells_ended : (o : Option (Label or_level)) (c : Label and_level) → label_tokens (close_or o c) ++ (close_label ∷ []) ≡ reading_tokens (stands [] o c) ++ (close_label ∷ [])
unfolding reading_tokens outer_tokens
spells_ended o c = ap (λ (r : List Token). r ++ (close_label ∷ [])) (close_tokens o c)

spells_close_step : (us : List Under) (o : Option (Label or_level)) (c : Label and_level) (b : ℕ) → LabelSpells (close_step us o c b) (reading_tokens (stands us o c) ++ (symbol b ∷ []))
unfolding close_step
spells_close_step [] o c b = label_cond (eqb b 93) _ _ _ (λ q. as_symbol 93 b (reading_tokens (stands [] o c)) _ (spells_ended o c) q) (λ _. tt)
spells_close_step (u ∷ us) o c b = label_cond (eqb b 41) _ _ _ (λ q. as_symbol 41 b (reading_tokens (stands (u ∷ us) o c)) _ (spells_closed us u o c) q) (λ _. tt)

spells_operator : (us : List Under) (o : Option (Label or_level)) (c : Label and_level) (t : Token) → LabelSpells (operator_step us o c t) (reading_tokens (stands us o c) ++ (t ∷ []))
unfolding operator_step
spells_operator us o c (symbol b) =
    label_cond (eqb b 38) _ _ _ (λ q. as_symbol 38 b (reading_tokens (stands us o c)) _ (spells_and us o c) q)
    (λ _. label_cond (eqb b 124) _ _ _ (λ q. as_symbol 124 b (reading_tokens (stands us o c)) _ (spells_or us o c) q)
    (λ _. spells_close_step us o c b))
spells_operator us o c (name w) = tt
spells_operator us o c (number v) = tt
spells_operator us o c (header w) = tt
spells_operator us o c (string w) = tt
spells_operator us o c body_mark = tt
spells_operator us o c end_mark = tt
spells_operator us o c alias = tt
spells_operator us o c comment = tt
spells_operator us o c stray = tt

pub spells_label_step : (k : ℕ) (r : Reading) (t : Token) → LabelSpells (label_step k r t) (reading_tokens r ++ (t ∷ []))
unfolding label_step
spells_label_step k (due us u) t = spells_atom_step k us u t
spells_label_step k (stands us o c) t = spells_operator us o c t

-- what grows within a label
label_grows : (l : Line) (ys zs : List Token) (t : Token) → zs ≡ ys ++ (t ∷ []) → label_of l zs ≡ label_of l ys ++ (t ∷ [])
label_grows l ys zs t e = grows (line_of l.items l.states l.state) (open_label ∷ ys) (open_label ∷ zs) t (ap (λ (r : List Token). open_label ∷ r) e)

spells_from_label : (l : Line) (n : LabelNext) (ys : List Token) (t : Token) → LabelSpells n (ys ++ (t ∷ [])) → Spells (from_label l n) (label_of l ys ++ (t ∷ []))
unfolding from_label place_tokens
spells_from_label l (on r) ys t e = label_grows l ys _ t e
spells_from_label l (label_ends o) ys t e = label_grows l ys _ t e
spells_from_label l (broken k) ys t e = tt

-- AN EDGE'S TARGET
edges_snoc : (es : List Edge) (e : Edge) → edges_tokens (snoc es e) ≡ edges_tokens es ++ edge_tokens e
unfolding edges_tokens
edges_snoc [] e = append-nil (edge_tokens e)
edges_snoc (f ∷ es) e = ap (λ (x : List Token). edge_tokens f ++ x) (edges_snoc es e) ∙ sym (append_assoc (edge_tokens f) (edges_tokens es) (edge_tokens e))

nest : (h n : Token) (a b c d : List Token) → h ∷ n ∷ a ++ (b ++ (c ++ d)) ≡ (h ∷ n ∷ a ++ (b ++ c)) ++ d
nest h n a b c d = ap (λ (r : List Token). h ∷ n ∷ r) (ap (λ (r : List Token). a ++ r) (sym (append_assoc b c d)) ∙ sym (append_assoc a (b ++ c) d))

state_with_edge : (s : State) (e : Edge) → state_tokens (with_edge s e) ≡ state_tokens s ++ edge_tokens e
unfolding state_tokens
state_with_edge s e =
    ap (λ (r : List Token). header (ascii "State") ∷ number s.number ∷ title_tokens s.title ++ (mark_tokens s.marks ++ r)) (edges_snoc s.edges e)
    ∙ nest _ _ (title_tokens s.title) (mark_tokens s.marks) (edges_tokens s.edges) (edge_tokens e)

edge_end : (o : Label or_level) (v : ℕ) → edge_tokens (record { label = o; to = v }) ≡ (open_label ∷ (label_tokens o ++ (close_label ∷ []))) ++ (number v ∷ [])
unfolding edge_tokens
edge_end o v = ap (λ (r : List Token). open_label ∷ r) (sym (append_assoc (label_tokens o) (close_label ∷ []) (number v ∷ [])))

spells_target : (l : Line) (o : Label or_level) (t : Token) → Spells (step (wants_target l o) t) (place_tokens (wants_target l o) ++ (t ∷ []))
unfolding step place_tokens state_of
spells_target l o t =
    spells_number t _ _
    (λ v e. spells_cond (ltb v (count_in l.items)) _ _ _
    (λ _. ap (λ (r : List Token). body_of l.items l.states ++ r) (state_with_edge l.state (record { label = o; to = v }))
    ∙ (sym (append_assoc (body_of l.items l.states) (state_tokens l.state) (edge_tokens (record { label = o; to = v })))
    ∙ grows (line_of l.items l.states l.state) (open_label ∷ (label_tokens o ++ (close_label ∷ []))) _ t
    (edge_end o v ∙ ap (λ (r : Token). (open_label ∷ (label_tokens o ++ (close_label ∷ []))) ++ (r ∷ [])) (sym e))))
    (λ _. tt))

-- EACH STEP
pub spells_step : (p : Place) (t : Token) → Spells (step p t) (place_tokens p ++ (t ∷ []))
unfolding step place_tokens items_tokens
spells_step opening t = spells_cond (is_header (ascii "HOA") t) _ _ _ (λ q. ap (λ (r : Token). r ∷ []) (sym (header_told (ascii "HOA") t q))) (λ _. spells_otherwise t _)
spells_step version t = spells_cond (is_name (ascii "v1") t) _ _ _ (λ q. ap (λ (r : Token). header (ascii "HOA") ∷ r ∷ []) (sym (name_told (ascii "v1") t q))) (λ _. spells_otherwise t _)
spells_step (in_items whole is) t = spells_header is t
spells_step (in_items after_start is) t = spells_cond (is_sign and_sign t) _ _ _ (λ _. tt) (λ _. spells_header is t)
spells_step (in_items after_acceptance is) t = spells_cond (is_sign and_sign t || is_sign or_sign t) _ _ _ (λ _. tt) (λ _. spells_header is t)
spells_step (in_skipped is h ts) t = spells_skipped is h ts t
spells_step (wants_count is) t = spells_count is t
spells_step (wants_start is) t = spells_start is t
spells_step (wants_propositions is) t = spells_propositions is t
spells_step (wants_names is l ns) t = spells_names is l ns t
spells_step (wants_sets is) t = spells_sets is t
spells_step (wants_inf is) t = spells_inf is t
spells_step (wants_open is) t = spells_open is t
spells_step (wants_set is) t = spells_set is t
spells_step (wants_close is) t = spells_close is t
spells_step (in_lines is ss) t = spells_line is ss t
spells_step (wants_state is ss) t = spells_state is ss t
spells_step (in_line is ss p) t = spells_part is ss p t
spells_step (in_marks is ss v o ms) t = spells_in_marks is ss v o ms t
spells_step (in_label l r) t = spells_from_label l _ (reading_tokens r) t (spells_label_step _ r t)
spells_step (wants_target l o) t = spells_target l o t
spells_step (complete a) t = spells_otherwise t _

-- WHAT IS TAKEN is spelled by its automaton
abbrev Spelled : Told → List Token → Type 0
Spelled (taken_as a) ts = syntax_tokens a ≡ ts
Spelled (refused k) ts = Unit {0}

spelled_end : (p : Place) (us : List Token) → place_tokens p ≡ us → Spelled (ended p) us
unfolding ended place_tokens
spelled_end (complete a) us e = e
spelled_end opening us e = tt
spelled_end version us e = tt
spelled_end (in_items l is) us e = tt
spelled_end (in_skipped is h ts) us e = tt
spelled_end (wants_count is) us e = tt
spelled_end (wants_start is) us e = tt
spelled_end (wants_propositions is) us e = tt
spelled_end (wants_names is l ns) us e = tt
spelled_end (wants_sets is) us e = tt
spelled_end (wants_inf is) us e = tt
spelled_end (wants_open is) us e = tt
spelled_end (wants_set is) us e = tt
spelled_end (wants_close is) us e = tt
spelled_end (in_lines is ss) us e = tt
spelled_end (wants_state is ss) us e = tt
spelled_end (in_line is ss p) us e = tt
spelled_end (in_marks is ss v o ms) us e = tt
spelled_end (in_label l r) us e = tt
spelled_end (wants_target l o) us e = tt

pub spelled : (n : Next) (us ts : List Token) → Spells n us → Spelled (told n ts) (us ++ ts)
unfolding told
spelled (fault k) us [] s = tt
spelled (fault k) us (t ∷ ts) s = tt
spelled (go p) us [] s = spelled_end p (us ++ []) (s ∙ sym (append-nil us))
spelled (go p) us (t ∷ ts) s =
    subst (λ (r : List Token). Spelled (told (step p t) ts) r) (append_assoc us (t ∷ []) ts)
    (spelled (step p t) (us ++ (t ∷ [])) ts (spells_to (step p t) _ _ (ap (λ (r : List Token). r ++ (t ∷ [])) s) (spells_step p t)))

-- SOUND: a text that the table takes is the automaton's
pub taken_spelled : (a : Syntax) (ts : List Token) → told (go opening) ts ≡ taken_as a → syntax_tokens a ≡ ts
unfolding place_tokens
taken_spelled a ts e = subst (λ (x : Told). Spelled x ts) e (spelled (go opening) [] ts refl)
