-- How the readers of names and marks of src/body.rt meet their contracts: a law for each return and turn of a loop. Assumes
-- nothing.
use mathlib.Core.Path.{◌≡◌, refl, sym, ap, subst, ◌∙◌}
use mathlib.Core.Bool.{Bool, true, false, not, cond}
use mathlib.Core.List.{List, [], ◌∷◌}
use mathlib.Core.Option.{Option, none, some}
use Prim.Native.Nat.{ℕ, ◌+◌, ◌-◌, ◌≤◌, ◌<◌}
use native.Mathlib.Omega.{arith}
use types.Run.{OneOf, miss}
use denote.Enum.Declared.{tag_of}
use mir.Val.{bool_byte}
use lib.Dec.{ltb, eqb}
use lib.ListN.{length, get_or, set, drop, length-drop, length-set}
use lib.Seq.{length-take-le, get_or-set_same, get_or-set_other}
use borrow.Author.Tests.{lt-ltb, le-leb, lt-leb, eq-eqb, ne_eqb}
use Rattle.text.specs.Ascii.{line_feed}
use Rattle.model.specs.Run.{member}
use Rattle.model.specs.ClaimTokens as T
use Rattle.model.specs.ClaimLabels.{mark_byte, bit}
use Rattle.model.specs.ClaimGrammar.{Item, State, most_states, title_fits}
use Rattle.model.specs.ClaimTable.{numbered, titled, marked, bare, line_at, Place, in_line, in_marks, Next, go, fault, is_sign, on_string, snoc, edge_step, marks_step, part_step, step, ended, told, refused}
use Rattle.model.specs.Claim.{is_marked}
use Rattle.model.specs.ClaimEntry.{mark_of}
use Rattle.std.specs.Prelude.{Some}
use Rattle.claim.specs.Reads.{part, claim_tokens, spelt, starts, is_symbol_of, fault_of, BlanksEnd, byte_of, Quoted, Sees, Onward}
use Rattle.claim.specs.Cells.{name_cell, length_cell, lead_cell, move_cell, claim_cells, LineHeld, Adds}
use Rattle.claim.specs.BodySays.{from_step, TitleSays, MarksSay, MarkSays}
use Rattle.claim.specs.declared.tokens.Token.{Token}
use Rattle.claim.specs.declared.tokens.Token.TheVariants.{Name, Header, Number, Text, Symbol, Body, End, Alias, Comment, Stray, Done}
use Rattle.claim.specs.declared.tokens.Seen.{Seen}
use Rattle.std.specs.List.{list_any}
use Rattle.claim.proofs.Lexing.{eqb_turned}
use Rattle.claim.proofs.Places.{over_blanks, stays, onto, onward}
use Rattle.claim.specs.contracts.tokens.Token.{the_type}
use Rattle.claim.proofs.Seeing.{reads_as, goes_past, bounds_as, symbol_next, symbol_past}
use Rattle.claim.proofs.Signs.{mark_sign, sign_is, sign_past, sign_not}
use Rattle.claim.proofs.Held.{adds, adds_nothing, row_then, off_row, mark_off, name_off, length_off}
use Rattle.claim.proofs.HeaderCode.{told_end, told_fault, stepped, but_number, SignOrNumber, sign_then, number_then, neither}
use Rattle.std.specs.Prelude.{Result, Ok, Err}
use Rattle.model.specs.Refusals.{number}
use Rattle.model.specs.declared.refusal.Refusal.{Refusal}
use Rattle.model.specs.declared.refusal.Refusal.TheVariants.{ClaimGrammar}

-- WHERE a reader stands
-- a place does what a step does
pub from_place : (p : Place) (f : T.Token → Next) → ended p ≡ refused 15 → ((t : T.Token) → step p t ≡ f t) → (ts : List T.Token) → told (go p) ts ≡ from_step f ts
unfolding from_step
from_place p f e h [] = told_end p ∙ e
from_place p f e h (t ∷ ts) = stepped p t ts (f t) (h t)

-- LINE FEEDS
pub some_feed : (w : List ℕ) → list_any (λ y. eqb y 10) w ≡ member line_feed w
unfolding member
some_feed [] = refl
some_feed (x ∷ w) = rw (eqb_turned x 10, some_feed w) refl

-- NAMES
module _ (s : List ℕ) (a e : ℕ) (h : a ≤ e) (g : e ≤ length s) where
  title_length : length (part s a e) ≡ e - a
  title_length = length-take-le (e - a) (drop a s) (rw (length-drop a s) (omega arith))

  pub title_long : 32 < e - a → false ≡ title_fits (some (part s a e))
  unfolding title_fits
  title_long k = sym (rw (title_length, lt-leb (e - a) 32 k) refl)

  pub title_short : e - a ≤ 32 → (b : Bool) → b ≡ member line_feed (part s a e) → not b ≡ title_fits (some (part s a e))
  unfolding title_fits
  title_short k b q = sym (rw (title_length, le-leb (e - a) 32 k) (ap not (sym q)))

-- its two cells, and the others of its row
abbrev pub titled_cells : (c a e : ℕ) → List ℕ → List ℕ
titled_cells c a e w = set (set w (name_cell c) a) (length_cell c) (e - a)

module _ (s : List ℕ) (c a e : ℕ) (w : List ℕ) (hc : c < most_states) (room : claim_cells ≤ length w) where
  kept : (i : ℕ) → (i ≡ name_cell c → ⊥) → (i ≡ length_cell c → ⊥) → get_or (titled_cells c a e w) i 0 ≡ get_or w i 0
  kept i p q = get_or-set_other (set w (name_cell c) a) (length_cell c) i (e - a) 0 q ∙ get_or-set_other w (name_cell c) i a 0 p

  name_there : get_or (titled_cells c a e w) (name_cell c) 0 ≡ a
  name_there = get_or-set_other (set w (name_cell c) a) (length_cell c) (name_cell c) (e - a) 0 (λ z. omega arith) ∙ get_or-set_same w (name_cell c) a 0 (omega arith)

  length_there : get_or (titled_cells c a e w) (length_cell c) 0 ≡ e - a
  length_there = get_or-set_same (set w (name_cell c) a) (length_cell c) (e - a) 0 (rw (length-set w (name_cell c) a) (omega arith))

  titled_row : Quoted s T.longest_claim a e → LineHeld s (bare c none none) c w → LineHeld s (bare c (some (part s a e)) none) c (titled_cells c a e w)
  titled_row q h =
      record {
        mark = kept c (λ z. omega arith) (λ z. omega arith) ∙ h.mark;
        name = rw (name_there, length_there) (q.past_quote, omega (arith, q.ahead, q.inside), refl);
        leads = λ d. ap (λ (x : ℕ). bit x d) (kept (lead_cell c) (λ z. omega arith) (λ z. omega arith)) ∙ h.leads d;
        moves = λ f d k. ap (λ (x : ℕ). bit x d) (kept (move_cell c f) (λ z. omega arith) (λ z. omega arith)) ∙ h.moves f d k;
      }

  titled_adds : Quoted s T.longest_claim a e → Adds s c (bare c none none) (bare c (some (part s a e)) none) w (titled_cells c a e w)
  titled_adds q =
      adds s c (bare c none none) (bare c (some (part s a e)) none) w (titled_cells c a e w) refl refl (titled_row q)
      (λ d hd n. row_then (off_row d (name_cell c) a w (name_off c d hc hd n)) (off_row d (length_cell c) (e - a) (set w (name_cell c) a) (length_off c d hc hd n)))

abbrev but_text : List ℕ
but_text = 0 ∷ 1 ∷ 2 ∷ 4 ∷ 5 ∷ 6 ∷ 7 ∷ 8 ∷ 9 ∷ 10 ∷ []

module _ (is : List Item) (ls : List State) (c : ℕ) where
  string_step : (w : List ℕ) → step (in_line is ls (numbered c)) (T.string w) ≡ cond (title_fits (some w)) (go (in_line is ls (titled c w))) (fault 15)
  unfolding step part_step on_string
  string_step w = refl

  titled_on : (w : List ℕ) (ts : List T.Token) → told (go (in_line is ls (titled c w))) ts ≡ from_step (marks_step is ls c (some w)) ts
  unfolding step part_step ended
  titled_on w ts = from_place (in_line is ls (titled c w)) (marks_step is ls c (some w)) refl (λ t. refl) ts

  marked_on : (o : Option (List ℕ)) (ms : List ℕ) (ts : List T.Token) → told (go (in_line is ls (marked c o ms))) ts ≡ from_step (edge_step (line_at is ls (bare c o (some ms)))) ts
  unfolding step part_step ended
  marked_on o ms ts = from_place (in_line is ls (marked c o ms)) (edge_step (line_at is ls (bare c o (some ms)))) refl (λ t. refl) ts

  no_string : (s : List ℕ) (r : List T.Token) (t : Token) → OneOf but_text (tag_of the_type t) → told (go (in_line is ls (numbered c))) (spelt s t r) ≡ from_step (marks_step is ls c none) (spelt s t r)
  unfolding step part_step on_string ended told from_step
  no_string s r (Text a e) h = absurd (miss but_text 3 tt h)
  no_string s r (Name a e) h = refl
  no_string s r (Header a e) h = refl
  no_string s r (Number v) h = refl
  no_string s r (Symbol b) h = refl
  no_string s r Body h = refl
  no_string s r End h = refl
  no_string s r Alias h = refl
  no_string s r Comment h = refl
  no_string s r Stray h = refl
  no_string s r Done h = refl

pub quoted_at : {s : List ℕ} {at : ℕ} {r : Seen} → Sees s T.longest_claim at (claim_tokens s at) r → (a e : ℕ) → r.token ≡ Text a e → Quoted s T.longest_claim a e
quoted_at n a e q = bounds_as n (Text a e) q

module _ {s : List ℕ} {at : ℕ} {r : Seen} (n : Sees s T.longest_claim at (claim_tokens s at) r) (c : ℕ) where
  string_told : (a e : ℕ) → r.token ≡ Text a e → (b : Bool) → title_fits (some (part s a e)) ≡ b → (is : List Item) (ls : List State) → told (go (in_line is ls (numbered c))) (claim_tokens s at) ≡ told (cond b (go (in_line is ls (titled c (part s a e)))) (fault 15)) (claim_tokens s r.next)
  string_told a e q b f is ls =
      ap (λ (ts : List T.Token). told (go (in_line is ls (numbered c))) ts) (reads_as n (Text a e) q refl)
      ∙ stepped (in_line is ls (numbered c)) _ _ _ (string_step is ls c (part s a e) ∙ ap (λ (x : Bool). cond x (go (in_line is ls (titled c (part s a e)))) (fault 15)) f)

  pub title_is : (a e : ℕ) → r.token ≡ Text a e → title_fits (some (part s a e)) ≡ true → c < most_states → (w : List ℕ) → claim_cells ≤ length w → TitleSays s c at (Ok r.next) w (titled_cells c a e w)
  title_is a e q f hc w room = (some (part s a e), λ is ls. string_told a e q true f is ls ∙ titled_on is ls c (part s a e) _, titled_adds s c a e w hc room (quoted_at n a e q), onto (goes_past n (Text a e) q refl))

  -- a refusal says nothing of the cells, so any will do
  pub title_broken : (a e : ℕ) → r.token ≡ Text a e → title_fits (some (part s a e)) ≡ false → TitleSays s c at (Err ClaimGrammar) [] []
  title_broken a e q f is ls = string_told a e q false f is ls ∙ told_fault 15 _

  pub title_none : OneOf but_text (tag_of the_type r.token) → (w : List ℕ) → TitleSays s c at (Ok at) w w
  title_none h w =
      (none, λ is ls. subst (λ (ts : List T.Token). told (go (in_line is ls (numbered c))) ts ≡ from_step (marks_step is ls c none) ts) (sym n.reads) (no_string is ls c s n.rest r.token h), adds_nothing s c (bare c none none) w, stays)

-- from before the blanks in front of it
pub title_past : {s : List ℕ} {at here : ℕ} → BlanksEnd s T.longest_claim at here → (c : ℕ) (r : Result ℕ Refusal) (w v : List ℕ) → TitleSays s c here r w v → TitleSays s c at r w v
title_past b c (Ok n) w v (o, t, a, p) = (o, λ is ls. ap (told (go (in_line is ls (numbered c)))) b.same ∙ t is ls, a, onward (over_blanks b) p)
title_past b c (Err j) w v t = λ is ls. ap (told (go (in_line is ls (numbered c)))) b.same ∙ t is ls

-- MARKS: the numbers so far
pub record MarksSoFar (s : List ℕ) (at : ℕ) (any : Bool) (here : ℕ) : Type 0 where
  pub marks : List ℕ
  pub some_yet : any ≡ ltb 0 (length marks)
  pub same : (is : List Item) (ls : List State) (c : ℕ) (o : Option (List ℕ)) → told (go (in_marks is ls c o [])) (claim_tokens s at) ≡ told (go (in_marks is ls c o marks)) (claim_tokens s here)
  pub goes_on : Onward s at here

pub marks_begun : (s : List ℕ) (at : ℕ) → MarksSoFar s at false at
marks_begun s at = record { marks = []; some_yet = refl; same = λ is ls c o. refl; goes_on = stays }

marks_want : (is : List Item) (ls : List State) (c : ℕ) (o : Option (List ℕ)) (ms : List ℕ) → SignOrNumber (in_marks is ls c o ms) 125 (go (in_line is ls (marked c o ms))) (λ m. cond (eqb m 0) (go (in_marks is ls c o (snoc ms m))) (fault 15))
unfolding step ended
marks_want is ls c o ms = record { steps = λ t. refl; open_ended = refl }

some_marks : (ms : List ℕ) (m : ℕ) → true ≡ ltb 0 (length (snoc ms m))
some_marks [] m = refl
some_marks (k ∷ ms) m = sym (lt-ltb 0 (length (k ∷ snoc ms m)) (omega arith))

module _ {s : List ℕ} {at : ℕ} {any : Bool} {here : ℕ} (a : MarksSoFar s at any here) {r : Seen} (n : Sees s T.longest_claim here (claim_tokens s here) r) where
  from_here : (is : List Item) (ls : List State) (c : ℕ) (o : Option (List ℕ)) (ts : List T.Token) → claim_tokens s here ≡ ts → told (go (in_marks is ls c o [])) (claim_tokens s at) ≡ told (go (in_marks is ls c o a.marks)) ts
  from_here is ls c o ts q = a.same is ls c o ∙ ap (λ (x : List T.Token). told (go (in_marks is ls c o a.marks)) x) q

  number_told : (v : ℕ) → r.token ≡ Number v → (b : Bool) → eqb v 0 ≡ b → (is : List Item) (ls : List State) (c : ℕ) (o : Option (List ℕ)) → told (go (in_marks is ls c o [])) (claim_tokens s at) ≡ told (cond b (go (in_marks is ls c o (snoc a.marks v))) (fault 15)) (claim_tokens s r.next)
  number_told v q b e is ls c o =
      from_here is ls c o _ (reads_as n (Number v) q refl)
      ∙ stepped (in_marks is ls c o a.marks) _ _ _ (number_then (marks_want is ls c o a.marks) v ∙ ap (λ (x : Bool). cond x (go (in_marks is ls c o (snoc a.marks v))) (fault 15)) e)

  pub marks_more : (v : ℕ) → r.token ≡ Number v → v ≡ 0 → MarksSoFar s at true r.next
  marks_more v q e = record { marks = snoc a.marks v; some_yet = some_marks a.marks v; same = number_told v q true (eq-eqb v 0 e); goes_on = onward a.goes_on (onto (goes_past n (Number v) q refl)) }

  pub marks_other : (v : ℕ) → r.token ≡ Number v → (v ≡ 0 → ⊥) → MarksSay s at (Err ClaimGrammar)
  marks_other v q e is ls c o = number_told v q false (ne_eqb v 0 e) is ls c o ∙ told_fault 15 _

  pub marks_closed : is_symbol_of r.token 125 ≡ true → MarksSay s at (Ok (any, r.next))
  marks_closed e = (
    a.marks,
    a.some_yet,
    λ is ls c o. from_here is ls c o _ (symbol_next n 125 e) ∙ stepped (in_marks is ls c o a.marks) _ _ _ (sign_then (marks_want is ls c o a.marks)),
    onward a.goes_on (onto (symbol_past n 125 e)),
  )

  pub marks_none : OneOf but_number (tag_of the_type r.token) → is_symbol_of r.token 125 ≡ false → (j : Refusal) → j ≡ fault_of r.token → MarksSay s at (Err j)
  marks_none h e j f is ls c o = from_here is ls c o _ n.reads ∙ (neither (marks_want is ls c o a.marks) s n.rest r.token h e ∙ ap (λ (i : Refusal). refused (number i)) (sym f))

-- the cell of a mark, as the code writes it
byte_mark : (b : Bool) → bool_byte b ≡ mark_of b
byte_mark true = refl
byte_mark false = refl

module _ (s : List ℕ) (c : ℕ) (w : List ℕ) (hc : c < most_states) (room : claim_cells ≤ length w) (any : Bool) (ms : List ℕ) (e : any ≡ ltb 0 (length ms)) where
  marked_row : (o : Option (List ℕ)) → LineHeld s (bare c o none) c w → LineHeld s (bare c o (some ms)) c (set w c (bool_byte any))
  unfolding is_marked
  marked_row o h =
      record {
        mark = get_or-set_same w c (bool_byte any) 0 (omega arith) ∙ (byte_mark any ∙ ap mark_of e);
        name = rw (get_or-set_other w c (name_cell c) (bool_byte any) 0 (λ z. omega arith), get_or-set_other w c (length_cell c) (bool_byte any) 0 (λ z. omega arith)) h.name;
        leads = λ d. ap (λ (y : ℕ). bit y d) (get_or-set_other w c (lead_cell c) (bool_byte any) 0 (λ z. omega arith)) ∙ h.leads d;
        moves = λ f d k. ap (λ (y : ℕ). bit y d) (get_or-set_other w c (move_cell c f) (bool_byte any) 0 (λ z. omega arith)) ∙ h.moves f d k;
      }

  marked_adds : (o : Option (List ℕ)) → Adds s c (bare c o none) (bare c o (some ms)) w (set w c (bool_byte any))
  marked_adds o = adds s c (bare c o none) (bare c o (some ms)) w (set w c (bool_byte any)) refl refl (marked_row o) (λ d hd n. off_row d c (bool_byte any) w (mark_off c d hc hd n))

module _ (is : List Item) (ls : List State) (c : ℕ) (o : Option (List ℕ)) where
  open_mark_on : (ts : List T.Token) → from_step (marks_step is ls c o) (T.symbol mark_byte ∷ ts) ≡ told (go (in_marks is ls c o [])) ts
  unfolding from_step marks_step is_sign
  open_mark_on ts = refl

  no_mark_on : (ts : List T.Token) → starts mark_byte ts ≡ false → from_step (marks_step is ls c o) ts ≡ from_step (edge_step (line_at is ls (bare c o none))) ts
  unfolding from_step marks_step starts
  no_mark_on [] e = refl
  no_mark_on (t ∷ ts) e = rw e refl

module _ {s : List ℕ} {at here : ℕ} (n : BlanksEnd s T.longest_claim at here) (c : ℕ) where
  pub mark_none : (byte_of s here ≡ Some mark_byte → ⊥) → (w : List ℕ) → MarkSays s c at (Ok here) w w
  mark_none e w = (none, λ is ls o. ap (λ (ts : List T.Token). from_step (marks_step is ls c o) ts) n.same ∙ no_mark_on is ls c o _ (sign_not s here mark_byte n.stops e), λ o. adds_nothing s c (bare c o none) w, over_blanks n)

  -- past its {
  abbrev inner : ℕ
  inner = here + 1

  mark_opens : byte_of s here ≡ Some mark_byte → (is : List Item) (ls : List State) (o : Option (List ℕ)) → from_step (marks_step is ls c o) (claim_tokens s at) ≡ told (go (in_marks is ls c o [])) (claim_tokens s inner)
  mark_opens e is ls o = ap (λ (ts : List T.Token). from_step (marks_step is ls c o) ts) (n.same ∙ sign_is s here mark_byte mark_sign e) ∙ open_mark_on is ls c o _

  pub mark_broken : byte_of s here ≡ Some mark_byte → (j : Refusal) → MarksSay s inner (Err j) → MarkSays s c at (Err j) [] []
  mark_broken e j a is ls o = mark_opens e is ls o ∙ a is ls c o

  pub mark_read : byte_of s here ≡ Some mark_byte → (any : Bool) (z : ℕ) → MarksSay s inner (Ok (any, z)) → c < most_states → (w : List ℕ) → claim_cells ≤ length w → MarkSays s c at (Ok z) w (set w c (bool_byte any))
  mark_read e any z (ms, p, b, past) hc w room = (some ms, λ is ls o. mark_opens e is ls o ∙ (b is ls c o ∙ marked_on is ls c o ms _), λ o. marked_adds s c w hc room any ms p o, onward (over_blanks n) (onward (onto (sign_past s here mark_byte mark_sign e)) past))
