-- Every automaton of the grammar that is taken is read by the table: item by item, line by line.
use Rattle.model.specs.Run.{is_some}
use mathlib.Core.Path.{◌≡◌, refl, sym, ap, subst, ◌∙◌}
use mathlib.Core.Bool.{Bool, true, false, ◌&&◌, not}
use mathlib.Core.List.{List, [], ◌∷◌, ◌++◌, append_assoc, append-nil}
use mathlib.Core.Option.{Option, none, some}
use Prim.Native.Nat.{ℕ, suc, ◌+◌, ◌≤◌, ◌<◌}
use native.Mathlib.Omega.{arith}
use lib.Dec.{ltb, leb, eqb}
use lib.ListN.{length, length-append}
use borrow.Author.Tests.{eqb-true, ne_eqb, lt-ltb, leb-true}
use Rattle.text.specs.Ascii.{ascii}
use Rattle.text.specs.Lines.{equal}
use Rattle.text.proofs.Tests.{and_both}
use Rattle.model.specs.ClaimTokens.{Token, name, header, number, string, body_mark, end_mark, is_header, is_name, is_small}
use Rattle.model.specs.ClaimLabels.{or_level, Label, label_tokens, label_depth, label_within, deepest, open_label, close_label, open_mark, close_mark, label_start, LabelNext, on, label_ends, broken, label_step, label_told, LabelRead, label_is, no_label}
use Rattle.model.specs.ClaimGrammar.{Item, states, start, propositions, acceptance, skipped, strings, item_tokens, items_tokens, Edge, State, edge_tokens, edges_tokens, state_tokens, states_tokens, title_tokens, mark_tokens, numbers, Syntax, syntax_tokens, item_fits, items_fit, header_whole, state_count, start_state, proposition_names, has_acceptance, small_first, count_in, propositions_in, has_line, title_fits, marks_fit, all_zero, edge_fits, edges_fit, state_fits, states_fit, most_propositions, is_plain, all_plain, taken}
use Rattle.model.specs.ClaimTable.{Last, whole, after_start, after_acceptance, Part, numbered, titled, marked, edged, bare, state_of, Line, opening, in_items, in_skipped, wants_propositions, wants_names, in_lines, wants_state, in_line, in_marks, in_label, wants_target, go, on_number, on_string, is_sign, snoc, with_item, unless, on_header, header_step, named, line_step, line_at, with_edge, edge_step, marks_step, part_step, from_label, step, ended, told, Told, taken_as, refused}
use Rattle.model.proofs.ClaimLabels.{Fits, label_back}

not_both : (b : Bool) → not b ≡ true → b ≡ false
not_both true e = sym e
not_both false e = refl

-- THE HEADER, from where whole items stand
unfoldable pub head_read : List Item → List Token → Told
head_read is [] = refused 15
head_read is (t ∷ ts) = told (header_step is t) ts

pub data Boundary : List Token → Type 0 where
  at_header : (h : List ℕ) (ts : List Token) → Boundary (header h ∷ ts)
  at_body : (ts : List Token) → Boundary (body_mark ∷ ts)

pub items_boundary : (l : Last) (is : List Item) (r : List Token) → Boundary r → told (go (in_items l is)) r ≡ head_read is r
unfolding head_read told step is_sign
items_boundary whole is r (at_header h ts) = refl
items_boundary whole is r (at_body ts) = refl
items_boundary after_start is r (at_header h ts) = refl
items_boundary after_start is r (at_body ts) = refl
items_boundary after_acceptance is r (at_header h ts) = refl
items_boundary after_acceptance is r (at_body ts) = refl

pub skipped_boundary : (is : List Item) (h : List ℕ) (us r : List Token) → Boundary r → told (go (in_skipped is h us)) r ≡ head_read (snoc is (skipped h us)) r
unfolding head_read told step is_plain
skipped_boundary is h us r (at_header g ts) = refl
skipped_boundary is h us r (at_body ts) = refl

-- an item that comes with its last token
with_item_reads : (l : Last) (is : List Item) (i : Item) (r : List Token) → Boundary r → item_fits is i ≡ true → told (with_item l is i) r ≡ head_read (snoc is i) r
unfolding with_item
with_item_reads l is i r b f = rw f (items_boundary l (snoc is i) r b)

-- what an item that fits says of those before it
no_count : (is : List Item) (n : ℕ) → item_fits is (states n) ≡ true → is_some (state_count is) ≡ false
unfolding item_fits
no_count is n f = not_both _ (and_both _ _ (and_both _ _ f).0).0

no_start : (is : List Item) (s : ℕ) → item_fits is (start s) ≡ true → is_some (start_state is) ≡ false
unfolding item_fits
no_start is s f = not_both _ (and_both _ _ f).0

no_names : (is : List Item) (ws : List (List ℕ)) → item_fits is (propositions ws) ≡ true → is_some (proposition_names is) ≡ false
unfolding item_fits
no_names is ws f = not_both _ (and_both _ _ f).0

few_names : (is : List Item) (ws : List (List ℕ)) → item_fits is (propositions ws) ≡ true → leb (length ws) most_propositions ≡ true
unfolding item_fits
few_names is ws f = (and_both (not (is_some (proposition_names is))) _ f).1

no_acceptance : (is : List Item) → item_fits is acceptance ≡ true → has_acceptance is ≡ false
unfolding item_fits
no_acceptance is f = not_both _ f

small_header : (is : List Item) (h : List ℕ) (us : List Token) → item_fits is (skipped h us) ≡ true → small_first h ≡ true
unfolding item_fits
small_header is h us f = (and_both _ _ f).0

plain_rest : (is : List Item) (h : List ℕ) (us : List Token) → item_fits is (skipped h us) ≡ true → all_plain us ≡ true
unfolding item_fits
plain_rest is h us f = (and_both (small_first h) _ f).1

states_read : (is : List Item) (n : ℕ) (r : List Token) → Boundary r → item_fits is (states n) ≡ true → head_read is (item_tokens (states n) ++ r) ≡ head_read (snoc is (states n)) r
unfolding head_read item_tokens told header_step on_header equal unless step on_number
states_read is n r b f = rw (no_count is n f) (with_item_reads whole is (states n) r b f)

start_read : (is : List Item) (n : ℕ) (r : List Token) → Boundary r → item_fits is (start n) ≡ true → head_read is (item_tokens (start n) ++ r) ≡ head_read (snoc is (start n)) r
unfolding head_read item_tokens told header_step on_header equal unless step on_number
start_read is n r b f = rw (no_start is n f) (with_item_reads after_start is (start n) r b f)

names_read : (is : List Item) (ns ws : List (List ℕ)) (r : List Token) → told (go (named is (length ws) ns)) (strings ws ++ r) ≡ told (go (in_items whole (snoc is (propositions (ns ++ ws))))) r
unfolding named strings
names_read is ns [] r = ap (λ (x : List (List ℕ)). told (go (in_items whole (snoc is (propositions x)))) r) (sym (append-nil ns))
names_read is ns (w ∷ ws) r = one_name is ns w ws r ∙ (names_read is (snoc ns w) ws r ∙ ap (λ (x : List (List ℕ)). told (go (in_items whole (snoc is (propositions x)))) r) (shift ns w ws))
  where
    one_name : (is : List Item) (ns : List (List ℕ)) (w : List ℕ) (ws : List (List ℕ)) (r : List Token) → told (go (wants_names is (length ws) ns)) (string w ∷ (strings ws ++ r)) ≡ told (go (named is (length ws) (snoc ns w))) (strings ws ++ r)
    one_name is ns w ws r = unfold told step on_string in refl

    shift : (ns : List (List ℕ)) (w : List ℕ) (ws : List (List ℕ)) → snoc ns w ++ ws ≡ ns ++ (w ∷ ws)
    shift ns w ws = append_assoc ns (w ∷ []) ws

pub count_read : (is : List Item) (k : ℕ) (r : List Token) → leb k most_propositions ≡ true → told (go (wants_propositions is)) (number k ∷ r) ≡ told (go (named is k [])) r
unfolding told step on_number
count_read is k r e = rw (told, e) refl

propositions_read : (is : List Item) (ws : List (List ℕ)) (r : List Token) → Boundary r → item_fits is (propositions ws) ≡ true → head_read is (item_tokens (propositions ws) ++ r) ≡ head_read (snoc is (propositions ws)) r
unfolding head_read item_tokens header_step on_header equal unless
propositions_read is ws r b f = rw (no_names is ws f) (count_read is (length ws) (strings ws ++ r) (few_names is ws f) ∙ (names_read is [] ws r ∙ items_boundary whole (snoc is (propositions ws)) r b))

acceptance_read : (is : List Item) (r : List Token) → Boundary r → item_fits is acceptance ≡ true → head_read is (item_tokens acceptance ++ r) ≡ head_read (snoc is acceptance) r
unfolding head_read item_tokens told header_step on_header equal unless step on_number is_name is_sign
acceptance_read is r b f = rw (no_acceptance is f) (items_boundary after_acceptance (snoc is acceptance) r b)

-- a name that begins with a small letter is none of those read
pub small_not : (b c : ℕ) (h w : List ℕ) → is_small b ≡ true → c < 97 → equal (b ∷ h) (c ∷ w) ≡ false
unfolding equal is_small
small_not b c h w s q = rw (ne_eqb b c (λ e. absurd (omega (arith, leb-true 97 b (and_both _ _ s).0)))) refl

on_small : (is : List Item) (h : List ℕ) → small_first h ≡ true → on_header is h ≡ go (in_skipped is h [])
unfolding on_header small_first
on_small is [] e = cc
on_small is (b ∷ h) e =
    rw (small_not b 72 h (ascii "OA") e (omega arith), small_not b 83 h (ascii "tates") e (omega arith), small_not b 83 h (ascii "tart") e (omega arith), small_not b 65 h (ascii "P") e (omega arith), small_not b 65 h (ascii "cceptance") e (omega arith), e) refl

plain_read : (is : List Item) (h : List ℕ) (us ps r : List Token) → all_plain ps ≡ true → told (go (in_skipped is h us)) (ps ++ r) ≡ told (go (in_skipped is h (us ++ ps))) r
unfolding all_plain
plain_read is h us [] r e = ap (λ (x : List Token). told (go (in_skipped is h x)) r) (sym (append-nil us))
plain_read is h us (p ∷ ps) r e =
    one_plain is h us p (ps ++ r) (and_both (is_plain p) (all_plain ps) e).0
    ∙ (plain_read is h (snoc us p) ps r (and_both (is_plain p) (all_plain ps) e).1
    ∙ ap (λ (x : List Token). told (go (in_skipped is h x)) r) (shift us p ps))
  where
    one_plain : (is : List Item) (h : List ℕ) (us : List Token) (p : Token) (r : List Token) → is_plain p ≡ true → told (go (in_skipped is h us)) (p ∷ r) ≡ told (go (in_skipped is h (snoc us p))) r
    one_plain is h us p r e = unfold told step in (rw (told, e) refl)

    shift : (us : List Token) (p : Token) (ps : List Token) → snoc us p ++ ps ≡ us ++ (p ∷ ps)
    shift us p ps = append_assoc us (p ∷ []) ps

skipped_read : (is : List Item) (h : List ℕ) (us r : List Token) → Boundary r → item_fits is (skipped h us) ≡ true → head_read is (item_tokens (skipped h us) ++ r) ≡ head_read (snoc is (skipped h us)) r
unfolding head_read item_tokens header_step
skipped_read is h us r b f = rw (on_small is h (small_header is h us f)) (plain_read is h [] us r (plain_rest is h us f) ∙ skipped_boundary is h us r b)

pub item_read : (is : List Item) (i : Item) (r : List Token) → Boundary r → item_fits is i ≡ true → head_read is (item_tokens i ++ r) ≡ head_read (snoc is i) r
item_read is (states n) r b f = states_read is n r b f
item_read is (start n) r b f = start_read is n r b f
item_read is (propositions ws) r b f = propositions_read is ws r b f
item_read is acceptance r b f = acceptance_read is r b f
item_read is (skipped h us) r b f = skipped_read is h us r b f

-- an item begins with a header
pub item_begins : (i : Item) (r : List Token) → Boundary (item_tokens i ++ r)
unfolding item_tokens
item_begins (states n) r = at_header _ _
item_begins (start n) r = at_header _ _
item_begins (propositions ws) r = at_header _ _
item_begins acceptance r = at_header _ _
item_begins (skipped h us) r = at_header _ _

items_begin : (is : List Item) (r : List Token) → Boundary r → Boundary (items_tokens is ++ r)
unfolding items_tokens
items_begin [] r b = b
items_begin (i ∷ is) r b = subst (λ (x : List Token). Boundary x) (sym (append_assoc (item_tokens i) (items_tokens is) r)) (item_begins i (items_tokens is ++ r))

items_read : (is js : List Item) (r : List Token) → Boundary r → items_fit is js ≡ true → head_read is (items_tokens js ++ r) ≡ head_read (is ++ js) r
unfolding items_tokens items_fit
items_read is [] r b f = ap (λ (x : List Item). head_read x r) (sym (append-nil is))
items_read is (j ∷ js) r b f =
    ap (λ (x : List Token). head_read is x) (append_assoc (item_tokens j) (items_tokens js) r)
    ∙ (item_read is j (items_tokens js ++ r) (items_begin js r b) (and_both (item_fits is j) (items_fit (is ++ (j ∷ [])) js) f).0
    ∙ (items_read (is ++ (j ∷ [])) js r b (and_both (item_fits is j) (items_fit (is ++ (j ∷ [])) js) f).1
    ∙ ap (λ (x : List Item). head_read x r) (append_assoc is (j ∷ []) js)))

-- STATE LINES, from where whole lines stand
unfoldable pub line_read : List Item → List State → List Token → Told
line_read is ss [] = refused 15
line_read is ss (t ∷ ts) = told (line_step is ss t) ts

pub data LineEnd : List Token → Type 0 where
  at_state : (h : List ℕ) (ts : List Token) → LineEnd (header h ∷ ts)
  at_end : (ts : List Token) → LineEnd (end_mark ∷ ts)

pub part_end : (is : List Item) (ss : List State) (p : Part) (r : List Token) → LineEnd r → told (go (in_line is ss p)) r ≡ line_read is (snoc ss (state_of p)) r
unfolding line_read told step part_step on_string marks_step edge_step is_sign state_of
part_end is ss (numbered v) r (at_state h ts) = refl
part_end is ss (numbered v) r (at_end ts) = refl
part_end is ss (titled v w) r (at_state h ts) = refl
part_end is ss (titled v w) r (at_end ts) = refl
part_end is ss (marked v o ms) r (at_state h ts) = refl
part_end is ss (marked v o ms) r (at_end ts) = refl
part_end is ss (edged s) r (at_state h ts) = refl
part_end is ss (edged s) r (at_end ts) = refl

-- a label begins
part_edge : (is : List Item) (ss : List State) (p : Part) (r : List Token) → told (go (in_line is ss p)) (open_label ∷ r) ≡ told (go (in_label (line_at is ss (state_of p)) label_start)) r
unfolding told step part_step on_string marks_step edge_step is_sign state_of
part_edge is ss (numbered v) r = refl
part_edge is ss (titled v w) r = refl
part_edge is ss (marked v o ms) r = refl
part_edge is ss (edged s) r = refl

-- what the label's own table comes to
abbrev pub finish : Line → LabelRead → Told
finish l (label_is o ts) = told (go (wants_target l o)) ts
finish l (no_label n) = refused n

pub through_label : (l : Line) (n : LabelNext) (ts : List Token) → told (from_label l n) ts ≡ finish l (label_told (propositions_in l.items) n ts)
unfolding label_told from_label told step ended
through_label l (label_ends o) [] = refl
through_label l (label_ends o) (t ∷ ts) = refl
through_label l (broken n) [] = refl
through_label l (broken n) (t ∷ ts) = refl
through_label l (on r) [] = refl
through_label l (on r) (t ∷ ts) = through_label l (label_step (propositions_in l.items) r t) ts

label_reads : (l : Line) (o : Label or_level) (r : List Token) → Fits (propositions_in l.items) 0 o → told (go (in_label l label_start)) (label_tokens o ++ (close_label ∷ r)) ≡ told (go (wants_target l o)) r
unfolding from_label
label_reads l o r f = through_label l (on label_start) (label_tokens o ++ (close_label ∷ r)) ∙ ap (finish l) (label_back (propositions_in l.items) o r f)

pub target_reads : (l : Line) (o : Label or_level) (v : ℕ) (r : List Token) → ltb v (count_in l.items) ≡ true → told (go (wants_target l o)) (number v ∷ r) ≡ told (go (in_line l.items l.states (edged (with_edge l.state (record { label = o; to = v }))))) r
unfolding told step on_number
target_reads l o v r e = rw (told, e) refl

edge_label_fits : (n k : ℕ) (e : Edge) → edge_fits n k e ≡ true → Fits k 0 e.label
unfolding edge_fits
edge_label_fits n k e f = record { depth = omega (arith, leb-true (label_depth e.label) deepest (and_both _ _ (and_both _ _ f).0).0); within = (and_both (leb (label_depth e.label) deepest) _ (and_both _ _ f).0).1 }

edge_target_fits : (n k : ℕ) (e : Edge) → edge_fits n k e ≡ true → ltb e.to n ≡ true
unfolding edge_fits
edge_target_fits n k e f = (and_both (leb (label_depth e.label) deepest && label_within k e.label) _ f).1

edge_read : (is : List Item) (ss : List State) (p : Part) (e : Edge) (r : List Token) → edge_fits (count_in is) (propositions_in is) e ≡ true → told (go (in_line is ss p)) (edge_tokens e ++ r) ≡ told (go (in_line is ss (edged (with_edge (state_of p) e)))) r
unfolding edge_tokens
edge_read is ss p e r f =
    part_edge is ss p _
    ∙ (ap (λ (x : List Token). told (go (in_label (line_at is ss (state_of p)) label_start)) x) (append_assoc (label_tokens e.label) (close_label ∷ number e.to ∷ []) r)
    ∙ (label_reads (line_at is ss (state_of p)) e.label (number e.to ∷ r) (edge_label_fits (count_in is) (propositions_in is) e f)
    ∙ target_reads (line_at is ss (state_of p)) e.label e.to r (edge_target_fits (count_in is) (propositions_in is) e f)))

-- the state with more edges
abbrev with_edges : State → List Edge → State
with_edges s es = record { number = s.number; title = s.title; marks = s.marks; edges = s.edges ++ es }

edges_read : (is : List Item) (ss : List State) (p : Part) (es : List Edge) (r : List Token) → LineEnd r → edges_fit (count_in is) (propositions_in is) es ≡ true → told (go (in_line is ss p)) (edges_tokens es ++ r) ≡ line_read is (snoc ss (with_edges (state_of p) es)) r
unfolding edges_tokens edges_fit state_of
edges_read is ss p [] r b f = part_end is ss p r b ∙ ap (λ (x : List Edge). line_read is (snoc ss (record { number = (state_of p).number; title = (state_of p).title; marks = (state_of p).marks; edges = x })) r) (sym (append-nil (state_of p).edges))
edges_read is ss p (e ∷ es) r b f =
    ap (λ (x : List Token). told (go (in_line is ss p)) x) (append_assoc (edge_tokens e) (edges_tokens es) r)
    ∙ (edge_read is ss p e (edges_tokens es ++ r) (and_both (edge_fits (count_in is) (propositions_in is) e) (edges_fit (count_in is) (propositions_in is) es) f).0
    ∙ (edges_read is ss (edged (with_edge (state_of p) e)) es r b (and_both (edge_fits (count_in is) (propositions_in is) e) (edges_fit (count_in is) (propositions_in is) es) f).1
    ∙ ap (λ (x : List Edge). line_read is (snoc ss (record { number = (state_of p).number; title = (state_of p).title; marks = (state_of p).marks; edges = x })) r) (shift (state_of p).edges e es)))
  where
    shift : (xs : List Edge) (e : Edge) (es : List Edge) → snoc xs e ++ es ≡ xs ++ (e ∷ es)
    shift xs e es = append_assoc xs (e ∷ []) es

-- the line's front: number, name, marks
title_read : (is : List Item) (ss : List State) (v : ℕ) (w : List ℕ) (r : List Token) → title_fits (some w) ≡ true → told (go (in_line is ss (numbered v))) (string w ∷ r) ≡ told (go (in_line is ss (titled v w))) r
unfolding told step part_step on_string
title_read is ss v w r f = rw (told, f) refl

pub zero_read : (is : List Item) (ss : List State) (v : ℕ) (o : Option (List ℕ)) (ms : List ℕ) (m : ℕ) (r : List Token) → eqb m 0 ≡ true → told (go (in_marks is ss v o ms)) (number m ∷ r) ≡ told (go (in_marks is ss v o (snoc ms m))) r
unfolding told step is_sign on_number
zero_read is ss v o ms m r e = rw (told, e) refl

marks_read : (is : List Item) (ss : List State) (v : ℕ) (o : Option (List ℕ)) (ms ns : List ℕ) (r : List Token) → all_zero ns ≡ true → told (go (in_marks is ss v o ms)) (numbers ns ++ (close_mark ∷ r)) ≡ told (go (in_line is ss (marked v o (ms ++ ns)))) r
unfolding numbers all_zero
marks_read is ss v o ms [] r f = closing is ss v o ms r ∙ ap (λ (x : List ℕ). told (go (in_line is ss (marked v o x))) r) (sym (append-nil ms))
  where
    closing : (is : List Item) (ss : List State) (v : ℕ) (o : Option (List ℕ)) (ms : List ℕ) (r : List Token) → told (go (in_marks is ss v o ms)) (close_mark ∷ r) ≡ told (go (in_line is ss (marked v o ms))) r
    closing is ss v o ms r = unfold told step is_sign in refl
marks_read is ss v o ms (n ∷ ns) r f =
    zero_read is ss v o ms n (numbers ns ++ (close_mark ∷ r)) (and_both (eqb n 0) (all_zero ns) f).0
    ∙ (marks_read is ss v o (snoc ms n) ns r (and_both (eqb n 0) (all_zero ns) f).1
    ∙ ap (λ (x : List ℕ). told (go (in_line is ss (marked v o x))) r) (shift ms n ns))
  where
    shift : (xs : List ℕ) (e : ℕ) (es : List ℕ) → snoc xs e ++ es ≡ xs ++ (e ∷ es)
    shift xs e es = append_assoc xs (e ∷ []) es

-- the part of a line before its edges
abbrev front : ℕ → (title marks : Option (List ℕ)) → Part
front v none none = numbered v
front v (some w) none = titled v w
front v none (some ms) = marked v none ms
front v (some w) (some ms) = marked v (some w) ms

opens_marks : (is : List Item) (ss : List State) (v : ℕ) (o : Option (List ℕ)) (r : List Token) → told (go (in_line is ss (front v o none))) (open_mark ∷ r) ≡ told (go (in_marks is ss v o [])) r
unfolding told step part_step on_string marks_step is_sign
opens_marks is ss v none r = refl
opens_marks is ss v (some w) r = refl

front_titled : (is : List Item) (ss : List State) (v : ℕ) (o : Option (List ℕ)) (r : List Token) → title_fits o ≡ true → told (go (in_line is ss (numbered v))) (title_tokens o ++ r) ≡ told (go (in_line is ss (front v o none))) r
unfolding title_tokens
front_titled is ss v none r f = refl
front_titled is ss v (some w) r f = title_read is ss v w r f

front_marked : (is : List Item) (ss : List State) (v : ℕ) (o m : Option (List ℕ)) (r : List Token) → marks_fit m ≡ true → told (go (in_line is ss (front v o none))) (mark_tokens m ++ r) ≡ told (go (in_line is ss (front v o m))) r
unfolding mark_tokens marks_fit
front_marked is ss v o none r f = refl
front_marked is ss v none (some ms) r f = opens_marks is ss v none _ ∙ (ap (λ (x : List Token). told (go (in_marks is ss v none [])) x) (append_assoc (numbers ms) (close_mark ∷ []) r) ∙ marks_read is ss v none [] ms r f)
front_marked is ss v (some w) (some ms) r f = opens_marks is ss v (some w) _ ∙ (ap (λ (x : List Token). told (go (in_marks is ss v (some w) [])) x) (append_assoc (numbers ms) (close_mark ∷ []) r) ∙ marks_read is ss v (some w) [] ms r f)

front_state : (v : ℕ) (o m : Option (List ℕ)) → state_of (front v o m) ≡ bare v o m
unfolding state_of
front_state v none none = refl
front_state v (some w) none = refl
front_state v none (some ms) = refl
front_state v (some w) (some ms) = refl

-- what a state that fits gives
module _ (n k : ℕ) (ss : List State) (s : State) (f : state_fits n k ss s ≡ true) where
  number_fits : (ltb s.number n && not (has_line s.number ss)) ≡ true
  unfolding state_fits
  number_fits = (and_both _ _ (and_both _ _ f).0).0

  title_good : title_fits s.title ≡ true
  unfolding state_fits
  title_good = (and_both _ _ (and_both (ltb s.number n && not (has_line s.number ss)) _ (and_both _ _ f).0).1).0

  marks_good : marks_fit s.marks ≡ true
  unfolding state_fits
  marks_good = (and_both (title_fits s.title) _ (and_both (ltb s.number n && not (has_line s.number ss)) _ (and_both _ _ f).0).1).1

  edges_good : edges_fit n k s.edges ≡ true
  unfolding state_fits
  edges_good = (and_both ((ltb s.number n && not (has_line s.number ss)) && (title_fits s.title && marks_fit s.marks)) _ f).1

state_begins : (is : List Item) (ss : List State) (v : ℕ) (r : List Token) → ltb (length ss) (count_in is) ≡ true → (ltb v (count_in is) && not (has_line v ss)) ≡ true → line_read is ss (header (ascii "State") ∷ number v ∷ r) ≡ told (go (in_line is ss (numbered v))) r
unfolding line_read line_step equal
state_begins is ss v r e f = rw e (second is ss v r f)
  where
    second : (is : List Item) (ss : List State) (v : ℕ) (r : List Token) → (ltb v (count_in is) && not (has_line v ss)) ≡ true → told (go (wants_state is ss)) (number v ∷ r) ≡ told (go (in_line is ss (numbered v))) r
    second is ss v r f = unfold told step is_sign on_number in (rw (told, f) refl)

pub state_read : (is : List Item) (ss : List State) (s : State) (r : List Token) → LineEnd r → length ss < count_in is → state_fits (count_in is) (propositions_in is) ss s ≡ true → line_read is ss (state_tokens s ++ r) ≡ line_read is (snoc ss s) r
unfolding state_tokens
state_read is ss s r b h f =
    state_begins is ss s.number _ (lt-ltb _ _ h) (number_fits (count_in is) (propositions_in is) ss s f)
    ∙ (ap (λ (x : List Token). told (go (in_line is ss (numbered s.number))) x) (append_assoc (title_tokens s.title) (mark_tokens s.marks ++ edges_tokens s.edges) r)
    ∙ (front_titled is ss s.number s.title _ (title_good (count_in is) (propositions_in is) ss s f)
    ∙ (ap (λ (x : List Token). told (go (in_line is ss (front s.number s.title none))) x) (append_assoc (mark_tokens s.marks) (edges_tokens s.edges) r)
    ∙ (front_marked is ss s.number s.title s.marks _ (marks_good (count_in is) (propositions_in is) ss s f)
    ∙ (edges_read is ss (front s.number s.title s.marks) s.edges r b (edges_good (count_in is) (propositions_in is) ss s f)
    ∙ ap (λ (x : State). line_read is (snoc ss (with_edges x s.edges)) r) (front_state s.number s.title s.marks))))))

states_end : (ss : List State) (r : List Token) → LineEnd r → LineEnd (states_tokens ss ++ r)
unfolding states_tokens state_tokens
states_end [] r b = b
states_end (s ∷ ss) r b = at_state _ _

states_read_all : (is : List Item) (ss ts : List State) (r : List Token) → LineEnd r → length ss + length ts ≤ count_in is → states_fit (count_in is) (propositions_in is) ss ts ≡ true → line_read is ss (states_tokens ts ++ r) ≡ line_read is (ss ++ ts) r
unfolding states_tokens states_fit
states_read_all is ss [] r b h f = ap (λ (x : List State). line_read is x r) (sym (append-nil ss))
states_read_all is ss (t ∷ ts) r b h f =
    ap (λ (x : List Token). line_read is ss x) (append_assoc (state_tokens t) (states_tokens ts) r)
    ∙ (state_read is ss t (states_tokens ts ++ r) (states_end ts r b) (omega (arith, h)) (and_both (state_fits (count_in is) (propositions_in is) ss t) _ f).0
    ∙ (states_read_all is (ss ++ (t ∷ [])) ts r b (longer ss t ts h) (and_both (state_fits (count_in is) (propositions_in is) ss t) _ f).1
    ∙ ap (λ (x : List State). line_read is x r) (append_assoc ss (t ∷ []) ts)))
  where
    longer : {n : ℕ} (ss : List State) (t : State) (ts : List State) → length ss + suc (length ts) ≤ n → length (ss ++ (t ∷ [])) + length ts ≤ n
    longer ss t ts h = simp length-append (omega (arith, h))

-- THE WHOLE
opening_read : (r : List Token) → told (go opening) (header (ascii "HOA") ∷ name (ascii "v1") ∷ r) ≡ told (go (in_items whole [])) r
unfolding told step is_header is_name equal
opening_read r = refl

pub body_read : (is : List Item) (r : List Token) → header_whole is ≡ true → head_read is (body_mark ∷ r) ≡ told (go (in_lines is [])) r
unfolding head_read header_step
body_read is r e = rw e refl

pub lines_read : (is : List Item) (ss : List State) (r : List Token) → told (go (in_lines is ss)) r ≡ line_read is ss r
unfolding told step line_read ended
lines_read is ss [] = refl
lines_read is ss (t ∷ ts) = refl

pub end_read : (is : List Item) (ss : List State) → eqb (length ss) (count_in is) ≡ true → line_read is ss (end_mark ∷ []) ≡ taken_as (record { items = is; states = ss })
unfolding line_read line_step
end_read is ss e = rw e (unfold told ended in refl)

-- COMPLETE: every automaton that is taken is read, as itself
pub taken_read : (a : Syntax) → taken a ≡ true → told (go opening) (syntax_tokens a) ≡ taken_as a
unfolding taken syntax_tokens
taken_read a f =
    let is = a.items in
    let ss = a.states in
    let good : items_fit [] is ≡ true = (and_both _ _ (and_both _ _ f).0).0 in
    let whole_head : header_whole is ≡ true = (and_both (items_fit [] is) _ (and_both _ _ f).0).1 in
    let lines_good : states_fit (count_in is) (propositions_in is) [] ss ≡ true = (and_both _ _ (and_both (items_fit [] is && header_whole is) _ f).1).0 in
    let many : eqb (length ss) (count_in is) ≡ true = (and_both (states_fit (count_in is) (propositions_in is) [] ss) _ (and_both (items_fit [] is && header_whole is) _ f).1).1 in
    let rest = body_mark ∷ states_tokens ss ++ (end_mark ∷ []) in
    opening_read (items_tokens is ++ rest)
    ∙ (items_boundary whole [] (items_tokens is ++ rest) (items_begin is rest (at_body _))
    ∙ (items_read [] is rest (at_body _) good
    ∙ (body_read is _ whole_head
    ∙ (lines_read is [] _
    ∙ (states_read_all is [] ss (end_mark ∷ []) (at_end []) (omega (arith, eqb-true (length ss) (count_in is) many)) lines_good
    ∙ end_read is ss many)))))
