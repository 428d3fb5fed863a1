-- How the readers of a line's number, of what is due and of the end, in src/body.rt, meet their contracts: a law for each
-- return. Assumes nothing.
use mathlib.Core.Path.{◌≡◌, refl, sym, ap, ap₂, ◌∙◌}
use mathlib.Core.Bool.{Bool, true, false, ◌&&◌, not, cond}
use mathlib.Core.List.{List, [], ◌∷◌}
use Prim.Native.Nat.{ℕ, ◌≤◌, ◌<◌}
use native.Mathlib.Omega.{arith}
use types.Run.{OneOf, miss}
use denote.Enum.Declared.{tag_of}
use lib.Dec.{ltb, eqb}
use lib.ListN.{length}
use borrow.Author.Tests.{lt-ltb, le-ltb, ltb-true, eq-eqb, ne_eqb, not-true}
use Rattle.text.specs.Ascii.{ascii}
use Rattle.text.specs.Lines.{equal}
use Rattle.text.proofs.Tests.{and_both, both_true}
use Rattle.model.specs.ClaimTokens as T
use Rattle.model.specs.ClaimLabels.{bit}
use Rattle.model.specs.ClaimGrammar.{Item, State, Syntax, count_in, has_line, most_states}
use Rattle.model.specs.ClaimTable.{numbered, in_lines, wants_state, in_line, complete, go, fault, otherwise, line_step, step, ended, told, taken_as, refused}
use Rattle.claim.specs.Reads.{part, claim_tokens, spelt, is_symbol_of, fault_of, Sees}
use Rattle.claim.specs.BodySays.{Listed, NumberRead, EndSays, DueSays}
use Rattle.claim.specs.declared.tokens.Token.{Token}
use Rattle.claim.specs.declared.tokens.Token.TheVariants.{Name, Header, Number, Text, Symbol, Body, End, Alias, Comment, Stray, Done}
use Rattle.claim.specs.declared.tokens.Seen.{Seen}
use Rattle.claim.proofs.Places.{onto}
use Rattle.claim.specs.contracts.tokens.Token.{the_type}
use Rattle.claim.proofs.Seeing.{symbol_is, reads_as, goes_past, ends_as}
use Rattle.claim.proofs.HeaderCode.{told_end, told_fault, stepped, refuses, but_number, SignOrNumber, sign_then, number_then, neither}
use Rattle.std.specs.Prelude.{Ok, Err, Some, None}
use Rattle.model.specs.Refusals.{number}
use Rattle.model.specs.declared.refusal.Refusal.{Refusal}
use Rattle.model.specs.declared.refusal.Refusal.TheVariants.{ClaimGrammar, NotTaken}

-- THE NUMBER of a line: a state without one
pub no_state : (c n : ℕ) (b : Bool) → n ≤ c → false ≡ (ltb c n && b)
no_state c n b h = sym (rw (le-ltb c n h) refl)

pub a_state : (c n : ℕ) (b : Bool) → c < n → b ≡ (ltb c n && b)
a_state c n b h = sym (rw (lt-ltb c n h) refl)

state_wants : (is : List Item) (ls : List State) → SignOrNumber (wants_state is ls) 91 (fault 16) (λ v. cond (ltb v (count_in is) && not (has_line v ls)) (go (in_line is ls (numbered v))) (fault 15))
unfolding step ended
state_wants is ls = record { steps = λ t. refl; open_ended = refl }

-- the bits say which states have one
unlisted_as : (is : List Item) (ls : List State) (n b v : ℕ) → n ≤ most_states → count_in is ≡ n → Listed ls b → (ltb v (count_in is) && not (has_line v ls)) ≡ (ltb v n && not (bit b v))
unlisted_as is ls n b v few p l = rw p (go' (ltb v n) refl)
  where
    go' : (x : Bool) → ltb v n ≡ x → (x && not (has_line v ls)) ≡ (x && not (bit b v))
    go' true e = ap not (l v (omega (arith, ltb-true v n e)))
    go' false e = refl

module _ {s : List ℕ} {at : ℕ} {r : Seen} (k : Sees s T.longest_claim at (claim_tokens s at) r) (n b : ℕ) where
  state_told : n ≤ most_states → (v : ℕ) → r.token ≡ Number v → (x : Bool) → x ≡ (ltb v n && not (bit b v)) → (is : List Item) (ls : List State) → count_in is ≡ n → Listed ls b → told (go (wants_state is ls)) (claim_tokens s at) ≡ told (cond x (go (in_line is ls (numbered v))) (fault 15)) (claim_tokens s r.next)
  state_told few v q x e is ls p l =
      ap (λ (ts : List T.Token). told (go (wants_state is ls)) ts) (reads_as k (Number v) q refl)
      ∙ stepped (wants_state is ls) _ _ _ (number_then (state_wants is ls) v ∙ ap (λ (y : Bool). cond y (go (in_line is ls (numbered v))) (fault 15)) (unlisted_as is ls n b v few p l ∙ sym e))

  pub state_is : n ≤ most_states → (v : ℕ) → r.token ≡ Number v → (x : Bool) → x ≡ (ltb v n && not (bit b v)) → x ≡ true → NumberRead s n b at (Ok (v, r.next))
  state_is few v q x e t =
      let f = and_both (ltb v n) (not (bit b v)) (sym e ∙ t) in
      (state_told few v q true (sym t ∙ e), ltb-true v n f.0, not-true (bit b v) f.1, onto (goes_past k (Number v) q refl))

  pub state_other : n ≤ most_states → (v : ℕ) → r.token ≡ Number v → (x : Bool) → x ≡ (ltb v n && not (bit b v)) → x ≡ false → NumberRead s n b at (Err ClaimGrammar)
  state_other few v q x e t is ls p l = state_told few v q false (sym t ∙ e) is ls p l ∙ told_fault 15 _

  pub state_label : is_symbol_of r.token 91 ≡ true → NumberRead s n b at (Err NotTaken)
  state_label e is ls p l = ap (λ (ts : List T.Token). told (go (wants_state is ls)) ts) (reads_as k (Symbol 91) (symbol_is r.token 91 e) refl) ∙ refuses (wants_state is ls) _ _ 16 (sign_then (state_wants is ls))

  pub state_none : OneOf but_number (tag_of the_type r.token) → is_symbol_of r.token 91 ≡ false → (j : Refusal) → j ≡ fault_of r.token → NumberRead s n b at (Err j)
  state_none h e j f is ls p l = ap (λ (ts : List T.Token). told (go (wants_state is ls)) ts) k.reads ∙ (neither (state_wants is ls) s k.rest r.token h e ∙ ap (λ (i : Refusal). refused (number i)) (sym f))

-- THE END
abbrev but_done : List ℕ
but_done = 0 ∷ 1 ∷ 2 ∷ 3 ∷ 4 ∷ 5 ∷ 6 ∷ 7 ∷ 8 ∷ 9 ∷ []

end_told : (a : Syntax) → told (go (complete a)) [] ≡ taken_as a
unfolding ended
end_told a = told_end (complete a)

not_ended : (a : Syntax) (s : List ℕ) (r : List T.Token) (t : Token) → OneOf but_done (tag_of the_type t) → told (go (complete a)) (spelt s t r) ≡ refused (number (fault_of t))
unfolding step otherwise
not_ended a s r Done h = absurd (miss but_done 10 tt h)
not_ended a s r (Name c e) h = refuses (complete a) _ r 15 refl
not_ended a s r (Header c e) h = refuses (complete a) _ r 15 refl
not_ended a s r (Number v) h = refuses (complete a) _ r 15 refl
not_ended a s r (Text c e) h = refuses (complete a) _ r 15 refl
not_ended a s r (Symbol b) h = refuses (complete a) _ r 15 refl
not_ended a s r Body h = refuses (complete a) _ r 15 refl
not_ended a s r End h = refuses (complete a) _ r 15 refl
not_ended a s r Alias h = refuses (complete a) _ r 15 refl
not_ended a s r Comment h = refuses (complete a) _ r 16 refl
not_ended a s r Stray h = refuses (complete a) _ r 15 refl

-- WHAT IS DUE: after a header, or --END--
module _ (is : List Item) (ls : List State) where
  header_then : (h : List ℕ) → step (in_lines is ls) (T.header h) ≡ cond (equal h (ascii "State") && ltb (length ls) (count_in is)) (go (wants_state is ls)) (fault 15)
  unfolding step line_step
  header_then h = refl

  end_then : step (in_lines is ls) T.end_mark ≡ cond (eqb (length ls) (count_in is)) (go (complete (record { items = is; states = ls }))) (fault 15)
  unfolding step line_step
  end_then = refl

abbrev but_due : List ℕ
but_due = 0 ∷ 2 ∷ 3 ∷ 4 ∷ 5 ∷ 7 ∷ 8 ∷ 9 ∷ 10 ∷ []

not_due : (is : List Item) (ls : List State) (s : List ℕ) (r : List T.Token) (t : Token) → OneOf but_due (tag_of the_type t) → told (go (in_lines is ls)) (spelt s t r) ≡ refused (number (fault_of t))
unfolding step line_step ended
not_due is ls s r (Header c e) h = absurd (miss but_due 1 tt h)
not_due is ls s r End h = absurd (miss but_due 6 tt h)
not_due is ls s r (Name c e) h = refuses (in_lines is ls) _ r 15 refl
not_due is ls s r (Number v) h = refuses (in_lines is ls) _ r 15 refl
not_due is ls s r (Text c e) h = refuses (in_lines is ls) _ r 15 refl
not_due is ls s r (Symbol b) h = refuses (in_lines is ls) _ r 15 refl
not_due is ls s r Body h = refuses (in_lines is ls) _ r 15 refl
not_due is ls s r Alias h = refuses (in_lines is ls) _ r 15 refl
not_due is ls s r Comment h = refuses (in_lines is ls) _ r 16 refl
not_due is ls s r Stray h = refuses (in_lines is ls) _ r 15 refl
not_due is ls s r Done h = told_end (in_lines is ls)

none_left : (x : Bool) (m n : ℕ) → n ≤ m → (x && ltb m n) ≡ false
none_left true m n h = le-ltb m n h
none_left false m n h = refl

module _ {s : List ℕ} {at : ℕ} {r : Seen} (k : Sees s T.longest_claim at (claim_tokens s at) r) where
  pub end_is : r.token ≡ Done → EndSays s at (Ok tt)
  end_is q a = ap (λ (ts : List T.Token). told (go (complete a)) ts) (ends_as k Done q) ∙ end_told a

  pub end_not : OneOf but_done (tag_of the_type r.token) → (j : Refusal) → j ≡ fault_of r.token → EndSays s at (Err j)
  end_not h j f a = ap (λ (ts : List T.Token). told (go (complete a)) ts) k.reads ∙ (not_ended a s k.rest r.token h ∙ ap (λ (i : Refusal). refused (number i)) (sym f))

  module _ (n m : ℕ) where
    header_told : (a e : ℕ) → r.token ≡ Header a e → (x : Bool) → (equal (part s a e) (ascii "State") && ltb m n) ≡ x → (is : List Item) (ls : List State) → count_in is ≡ n → length ls ≡ m → told (go (in_lines is ls)) (claim_tokens s at) ≡ told (cond x (go (wants_state is ls)) (fault 15)) (claim_tokens s r.next)
    header_told a e q x f is ls p l =
        ap (λ (ts : List T.Token). told (go (in_lines is ls)) ts) (reads_as k (Header a e) q refl)
        ∙ stepped (in_lines is ls) _ _ _ (header_then is ls (part s a e) ∙ ap (λ (y : Bool). cond y (go (wants_state is ls)) (fault 15)) (ap₂ (λ (y z : ℕ). equal (part s a e) (ascii "State") && ltb y z) l p ∙ f))

    pub line_due : (a e : ℕ) → r.token ≡ Header a e → equal (part s a e) (ascii "State") ≡ true → m < n → DueSays s n m at (Ok (Some r.next))
    line_due a e q w h = (header_told a e q true (both_true _ (ltb m n) w (lt-ltb m n h)), h, goes_past k (Header a e) q refl)

    pub line_other : (a e : ℕ) → r.token ≡ Header a e → equal (part s a e) (ascii "State") ≡ false → DueSays s n m at (Err ClaimGrammar)
    line_other a e q w is ls p l = header_told a e q false (ap (λ (y : Bool). y && ltb m n) w) is ls p l ∙ told_fault 15 _

    pub line_many : (a e : ℕ) → r.token ≡ Header a e → n ≤ m → DueSays s n m at (Err ClaimGrammar)
    line_many a e q h is ls p l = header_told a e q false (none_left (equal (part s a e) (ascii "State")) m n h) is ls p l ∙ told_fault 15 _

    end_due_told : r.token ≡ End → (x : Bool) → eqb m n ≡ x → (is : List Item) (ls : List State) → count_in is ≡ n → length ls ≡ m → told (go (in_lines is ls)) (claim_tokens s at) ≡ told (cond x (go (complete (record { items = is; states = ls }))) (fault 15)) (claim_tokens s r.next)
    end_due_told q x f is ls p l =
        ap (λ (ts : List T.Token). told (go (in_lines is ls)) ts) (reads_as k End q refl)
        ∙ stepped (in_lines is ls) _ _ _ (end_then is ls ∙ ap (λ (y : Bool). cond y (go (complete (record { items = is; states = ls }))) (fault 15)) (ap₂ eqb l p ∙ f))

    pub end_early : r.token ≡ End → m < n → DueSays s n m at (Err ClaimGrammar)
    end_early q h is ls p l = end_due_told q false (ne_eqb m n (λ z. omega arith)) is ls p l ∙ told_fault 15 _

    pub end_due : r.token ≡ End → m ≤ n → n ≤ m → EndSays s r.next (Ok tt) → DueSays s n m at (Ok None)
    end_due q h g a is ls p l = end_due_told q true (eq-eqb m n (omega arith)) is ls p l ∙ a (record { items = is; states = ls })

    pub end_not_due : r.token ≡ End → m ≤ n → n ≤ m → (j : Refusal) → EndSays s r.next (Err j) → DueSays s n m at (Err j)
    end_not_due q h g j a is ls p l = end_due_told q true (eq-eqb m n (omega arith)) is ls p l ∙ a (record { items = is; states = ls })

    pub due_not : OneOf but_due (tag_of the_type r.token) → (j : Refusal) → j ≡ fault_of r.token → DueSays s n m at (Err j)
    due_not h j f is ls p l = ap (λ (ts : List T.Token). told (go (in_lines is ls)) ts) k.reads ∙ (not_due is ls s k.rest r.token h ∙ ap (λ (i : Refusal). refused (number i)) (sym f))
