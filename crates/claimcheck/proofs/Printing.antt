-- From what the reader of claims says to what is printed. Assumes nothing.
use mathlib.Core.Path.{◌≡◌, refl, sym, ap, ◌∙◌}
use mathlib.Core.Bool.{false}
use mathlib.Core.List.{List, [], ◌∷◌, ◌++◌, append_assoc}
use mathlib.Core.Option.{Option, none, some}
use Prim.Native.Nat.{ℕ, suc, ◌+◌, ◌*◌, ◌-◌, ◌≤◌, ◌<◌}
use native.Mathlib.Nat.{add-zero, zero-add}
use native.Mathlib.Omega.{arith}
use lib.ListN.{length, get_or, take, drop, length-append}
use lib.Seq.{take-suc, take_all, length-take-le}
use Rattle.text.specs.Ascii.{ascii, space, line_feed}
use Rattle.text.specs.Lines.{joined, text}
use Rattle.text.specs.Numbers.{decimal}
use Rattle.text.specs.declared.write.Writer.{Writer}
use Rattle.text.specs.Writing.{Writes, Puts, Chain, written}
use Rattle.text.proofs.Chains.{puts, puts_none, puts_then, puts_as}
use Rattle.text.proofs.Decimals.{decimal_most}
use Rattle.text.proofs.Rows.{text_append}
use Rattle.model.specs.ClaimGrammar.{most_states}
use Rattle.model.specs.ClaimTable.{claim_refusal}
use Rattle.model.specs.Claim.{ClaimState, Claim, state, claim_in, ClaimSound}
use Rattle.model.specs.ClaimEntry.{mark_of, NameAt}
use Rattle.model.specs.ClaimPromise.{ClaimsRight}
use Rattle.model.proofs.ClaimWhole.{claims_right}
use Rattle.claim.specs.Cells.{name_cell, length_cell, claim_cells}
use Rattle.claim.specs.Judging.{counts_of, ClaimRead}
use Rattle.claim.specs.declared.Counts.{Counts}
use Rattle.std.specs.Prelude.{Result, Ok, Err, Some}
use Rattle.model.specs.Refusals.{number}
use Rattle.model.specs.declared.refusal.Refusal.{Refusal}
use Rattle.model.specs.ClaimTable.{claim_told, refused}
use Rattle.model.proofs.ClaimDefinite.{refused_some}
use Rattle.claim.proofs.EntryCode.{SomeClaim, judged_by}
use borrow.Author.Tests.{ne_eqb}
use Rattle.desk.specs.Lines.{refused_line, refused_parts}
use Rattle.desk.proofs.Writing.{puts_shows, refused_puts, refused_short}
use Rattle.claimcheck.specs.Printing.{name_fields, state_row, state_rows, count_names, state_names, count_row, claim_lines, printed, name_end, head_lines, ClaimThere, page_room}

-- THE NAME: none where its place is 0, else that part of the text
unnamed : (s : List ℕ) (o : Option (List ℕ)) (a l : ℕ) → NameAt s o a l → a ≡ 0 → line_feed ∷ [] ≡ name_end o
unfolding name_end
unnamed s none a l h e = refl
unnamed s (some w) a l h e = absurd (omega (arith, h.0))

named : (s : List ℕ) (o : Option (List ℕ)) (a l : ℕ) → NameAt s o a l → (a ≡ 0 → ⊥) → (a + l ≤ length s) × (((space ∷ []) ++ take l (drop a s)) ++ (line_feed ∷ []) ≡ name_end o)
unfolding name_end
named s none a l h e = absurd (e h.0)
named s (some w) a l h e = (h.1, rw h.2 refl)

-- the same of a state whose name's place is found in its cell
module _ (s cells : List ℕ) (c : ℕ) (h : ClaimThere s cells) (low : c < most_states) (a : ℕ) (found : a ≡ get_or cells (name_cell c) 0) where
  there : (l : ℕ) → l ≡ get_or cells (length_cell c) 0 → NameAt s (state (claim_in s) c).name a l
  there l e = rw (found, e) (h.held.names c low)

  pub writes_unnamed : a ≡ 0 → {v u : Writer} → Writes (line_feed ∷ []) v u → Puts (name_end (state (claim_in s) c).name) v u
  writes_unnamed e w = puts_as (unnamed s (state (claim_in s) c).name a _ (there (get_or cells (length_cell c) 0) refl) e) (puts w)

  module _ (off : a ≡ 0 → ⊥) (l : ℕ) (long : l ≡ get_or cells (length_cell c) 0) where
    pub name_inside : a + l ≤ length s
    name_inside = (named s (state (claim_in s) c).name a l (there l long) off).0

    pub writes_named : {t x y z : Writer} → Writes (space ∷ []) t x → Writes (take (a + l - a) (drop a s)) x y → Writes (line_feed ∷ []) y z → Puts (name_end (state (claim_in s) c).name) t z
    writes_named u v w =
        let e : a + l - a ≡ l = omega arith in
        puts_as (named s (state (claim_in s) c).name a l (there l long) off).1 (puts_then (puts_then (puts u) (puts (rw e at v))) (puts w))

-- ROWS
unnamed_joined : (d x m e : List ℕ) → ((d ++ x) ++ m) ++ e ≡ (d ++ (x ++ m)) ++ e
unnamed_joined d x m e = simp append_assoc

named_joined : (d x m y w z : List ℕ) → ((d ++ x) ++ m) ++ (y ++ (w ++ z)) ≡ (d ++ (x ++ (m ++ (y ++ w)))) ++ z
named_joined d x m y w z = simp append_assoc

pub state_parts : (c : ℕ) (s : ClaimState) → ((decimal c ++ (space ∷ [])) ++ decimal (mark_of s.accepting)) ++ name_end s.name ≡ text (state_row c s ∷ [])
unfolding state_row
state_parts c s = go s.name
  where
    m : List ℕ
    m = decimal (mark_of s.accepting)

    go : (o : Option (List ℕ)) → ((decimal c ++ (space ∷ [])) ++ m) ++ name_end o ≡ text ((decimal c ∷ m ∷ name_fields o) ∷ [])
    go none = unfold name_fields name_end text joined in unnamed_joined (decimal c) (space ∷ []) m (line_feed ∷ [])
    go (some w) = unfold name_fields name_end text joined in named_joined (decimal c) (space ∷ []) m (space ∷ []) w (line_feed ∷ [])

counts_joined : (n x s y p z : List ℕ) → ((n ++ x) ++ (s ++ y)) ++ (p ++ z) ≡ (n ++ (x ++ (s ++ (y ++ p)))) ++ z
counts_joined n x s y p z = simp append_assoc

pub count_parts : (n s p : ℕ) → ((decimal n ++ (space ∷ [])) ++ (decimal s ++ (space ∷ []))) ++ (decimal p ++ (line_feed ∷ [])) ≡ text (count_row n s p ∷ [])
unfolding count_row text joined
count_parts n s p = counts_joined (decimal n) (space ∷ []) (decimal s) (space ∷ []) (decimal p) (line_feed ∷ [])

pub head_parts : (n s p : ℕ) → ((ascii "states start propositions" ++ (line_feed ∷ [])) ++ text (count_row n s p ∷ [])) ++ (ascii "state accepting name" ++ (line_feed ∷ [])) ≡ head_lines n s p
unfolding head_lines text joined
head_parts n s p = sym (text_append (count_names ∷ count_row n s p ∷ []) (state_names ∷ []))

pub claim_parts : (k : Claim) → head_lines (length k.states) k.start k.propositions ++ text (state_rows 0 k.states) ≡ claim_lines k
unfolding claim_lines head_lines
claim_parts k = sym (text_append (count_names ∷ count_row (length k.states) k.start k.propositions ∷ state_names ∷ []) (state_rows 0 k.states))

pub marked : (s cells : List ℕ) (c : ℕ) → ClaimThere s cells → c < most_states → {v u : Writer} → Writes (decimal (get_or cells c 0)) v u → Puts (decimal (mark_of (state (claim_in s) c).accepting)) v u
marked s cells c h low w = puts_as (ap decimal (h.held.marks c low)) (puts w)

-- the counts
pub count_states : (k : Claim) (n : Counts) → n ≡ counts_of k → n.states ≡ length k.states
unfolding counts_of
count_states k n e = ap (λ (x : Counts). x.states) e

pub head_of : (k : Claim) (n : Counts) → n ≡ counts_of k → head_lines n.states n.start n.propositions ≡ head_lines (length k.states) k.start k.propositions
unfolding counts_of
head_of k n e = ap (λ (x : Counts). head_lines x.states x.start x.propositions) e

-- ONE STATE MORE
abbrev no_state : ClaimState
no_state = record { name = none; accepting = false; edges = [] }

rows_snoc : (b : ℕ) (l : List ClaimState) (s : ClaimState) → state_rows b (l ++ (s ∷ [])) ≡ state_rows b l ++ (state_row (b + length l) s ∷ [])
unfolding state_rows
rows_snoc b [] s = rw (add-zero b) refl
rows_snoc b (x ∷ l) s =
    let e : b + suc (length l) ≡ suc b + length l = omega arith in
    rw e (ap (λ (r : List (List (List ℕ))). state_row b x ∷ r) (rows_snoc (suc b) l s))

lines_more : (k : Claim) (c : ℕ) → c < length k.states → text (state_rows 0 (take c k.states)) ++ text (state_row c (state k c) ∷ []) ≡ text (state_rows 0 (take (c + 1) k.states))
unfolding state
lines_more k c h =
    let s = get_or k.states c no_state in
    let f = take c k.states in
    let e : c + 1 ≡ suc c = omega arith in
    let n : 0 + length f ≡ c = zero-add (length f) ∙ length-take-le c k.states (omega arith) in
    sym (ap (λ (l : List ClaimState). text (state_rows 0 l)) (ap (λ (j : ℕ). take j k.states) e ∙ take-suc k.states c no_state h)
    ∙ ap text (rows_snoc 0 f s ∙ ap (λ (j : ℕ). state_rows 0 f ++ (state_row j s ∷ [])) n)
    ∙ text_append (state_rows 0 f) (state_row c s ∷ []))

-- the first c states are written
pub record Listed (k : Claim) (c : ℕ) (w v : Writer) : Type 0 where
  pub within : c ≤ length k.states
  pub same : v.output.ghost_name ≡ w.output.ghost_name
  pub puts_so : Puts (text (state_rows 0 (take c k.states))) w v

pub listed_start : (k : Claim) (w : Writer) → Listed k 0 w w
unfolding text state_rows
listed_start k w = record { within = omega arith; same = refl; puts_so = puts_none w }

pub listed_step : {k : Claim} {c : ℕ} {w v u : Writer} → Listed k c w v → c < length k.states → u.output.ghost_name ≡ v.output.ghost_name → Puts (text (state_row c (state k c) ∷ [])) v u → Listed k (c + 1) w u
listed_step {k} {c = c} l h e p = record { within = omega arith; same = e ∙ l.same; puts_so = puts_as (lines_more k c h) (puts_then l.puts_so p) }

pub listed_end : {k : Claim} {c : ℕ} {w v : Writer} → Listed k c w v → length k.states ≤ c → Puts (text (state_rows 0 k.states)) w v
listed_end {k} {c = c} l h = puts_as (ap (λ (s : List ClaimState). text (state_rows 0 s)) (take_all c k.states h)) l.puts_so

-- SHORT
sound : (bs : List ℕ) → claim_refusal bs ≡ 0 → ClaimSound (claim_in bs)
unfolding ClaimsRight
sound bs e = (claims_right bs e).sound

pub few_states : (bs cells : List ℕ) → ClaimThere bs cells → length (claim_in bs).states ≤ most_states
few_states bs cells h = (sound bs h.taken).states

abbrev ShortName : Option (List ℕ) → Type 0
ShortName o = (w : List ℕ) → o ≡ some w → length w ≤ 32

name_short : (o : Option (List ℕ)) → ShortName o → length (name_end o) ≤ 34
unfolding name_end
name_short none h = omega arith
name_short (some w) h = omega (arith, h w refl, length-append w (line_feed ∷ []))

row_short : (c : ℕ) (s : ClaimState) → ShortName s.name → length (text (state_row c s ∷ [])) ≤ 55
row_short c s h =
    let a = decimal c in
    let b = decimal (mark_of s.accepting) in
    omega (
      arith,
      ap length (sym (state_parts c s)),
      length-append ((a ++ (space ∷ [])) ++ b) (name_end s.name),
      length-append (a ++ (space ∷ [])) b,
      length-append a (space ∷ []),
      decimal_most c,
      decimal_most (mark_of s.accepting),
      name_short s.name h,
    )

rows_short : (c : ℕ) (l : List ClaimState) → ((i : ℕ) → ShortName (get_or l i no_state).name) → length (text (state_rows c l)) ≤ 55 * length l
unfolding state_rows
rows_short c [] h = unfold text in omega arith
rows_short c (s ∷ l) h =
    omega (
      arith,
      ap length (text_append (state_row c s ∷ []) (state_rows (suc c) l)),
      length-append (text (state_row c s ∷ [])) (text (state_rows (suc c) l)),
      row_short c s (h 0),
      rows_short (suc c) l (λ i. h (suc i)),
    )

head_short : (n s p : ℕ) → length (head_lines n s p) ≤ 80
head_short n s p =
    let a = ascii "states start propositions" ++ (line_feed ∷ []) in
    let b = text (count_row n s p ∷ []) in
    let u = decimal n ++ (space ∷ []) in
    let v = decimal s ++ (space ∷ []) in
    let w = decimal p ++ (line_feed ∷ []) in
    omega (
      arith,
      ap length (sym (head_parts n s p)),
      length-append (a ++ b) (ascii "state accepting name" ++ (line_feed ∷ [])),
      length-append a b,
      ap length (sym (count_parts n s p)),
      length-append (u ++ v) w,
      length-append u v,
      length-append (decimal n) (space ∷ []),
      length-append (decimal s) (space ∷ []),
      length-append (decimal p) (line_feed ∷ []),
      decimal_most n,
      decimal_most s,
      decimal_most p,
    )

names_short : (k : Claim) → ClaimSound k → (i : ℕ) → ShortName (get_or k.states i no_state).name
unfolding state
names_short k h i w e = h.names i w e

claim_short : (k : Claim) → ClaimSound k → length (claim_lines k) ≤ page_room
claim_short k h =
    omega (
      arith,
      ap length (sym (claim_parts k)),
      length-append (head_lines (length k.states) k.start k.propositions) (text (state_rows 0 k.states)),
      head_short (length k.states) k.start k.propositions,
      rows_short 0 k.states (names_short k h),
      h.states,
    )

-- WHAT THE READER SAYS
print_refused : (bs : List ℕ) (k : ℕ) → claim_told bs ≡ refused k → k ≡ claim_refusal bs → printed bs ≡ refused_line k
unfolding printed
print_refused bs k t e = rw (sym e, ne_eqb k 0 (refused_some bs k t)) refl

print_taken : (bs : List ℕ) → claim_refusal bs ≡ 0 → printed bs ≡ claim_lines (claim_in bs)
unfolding printed
print_taken bs e = rw e refl

module _ (bs : List ℕ) {r : Result Counts Refusal} {cells cells_now : List ℕ} (h : ClaimRead bs r cells cells_now) where
  pub refused_shows : (j : Refusal) → r ≡ Err j → (k : ℕ) → k ≡ number j → {w v : Writer} → w.end ≡ Some 0 → page_room ≤ length w.output.now → Chain (refused_parts k) w v → written v ≡ printed bs
  refused_shows j e k q begins room c =
      let u = judged_by bs r (Err j) h.answer e in
      rw (print_refused bs k (u.told ∙ ap refused (sym q)) (q ∙ u.by_number)) (puts_shows (refused_puts k c) begins (omega (arith, refused_short k)))

  module _ (n : Counts) (e : r ≡ Ok n) where
    taken : SomeClaim bs n
    taken = judged_by bs r (Ok n) h.answer e

    pub claim_there : claim_cells ≤ length cells → length cells_now ≡ length cells → ClaimThere bs cells_now
    claim_there room kept = record { taken = taken.by_number; roomy = omega arith; held = h.held room }

    pub accepted_shows : {w v : Writer} → w.end ≡ Some 0 → page_room ≤ length w.output.now → Puts (claim_lines (claim_in bs)) w v → written v ≡ printed bs
    accepted_shows begins room p = rw (print_taken bs taken.by_number) (puts_shows p begins (omega (arith, claim_short (claim_in bs) (sound bs taken.by_number))))
