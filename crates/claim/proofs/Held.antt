-- What the cells hold after a write: the line under way changes, and every other state's stays. Assumes nothing.
use mathlib.Core.Path.{◌≡◌, refl, sym, ap, subst, ◌∙◌}
use mathlib.Core.Bool.{false, cond}
use mathlib.Core.List.{List, [], ◌∷◌}
use Prim.Native.Nat.{ℕ, ◌<◌}
use native.Mathlib.Omega.{arith}
use lib.Dec.{eqb}
use lib.ListN.{get_or, set}
use lib.Seq.{get_or-set_other}
use borrow.Author.Tests.{eq-eqb, ne_eqb}
use Rattle.text.proofs.Tests.{Same, same, other, same?, or_false}
use Rattle.model.specs.ClaimLabels.{bit}
use Rattle.model.specs.ClaimGrammar.{State, has_line, most_states}
use Rattle.model.specs.ClaimTable.{snoc}
use Rattle.model.specs.Claim.{line_of}
use Rattle.claim.specs.LabelSays.{most_values}
use Rattle.claim.specs.Cells.{name_cell, length_cell, lead_cell, move_cell, LineHeld, Adds}

-- LINES: the last one's, where none before it has its number; and any other's
pub line_here : (ls : List State) (l : State) (c : ℕ) → has_line c ls ≡ false → l.number ≡ c → line_of c (snoc ls l) ≡ l
unfolding line_of has_line
line_here [] l c h e = rw (eq-eqb c l.number (sym e)) refl
line_here (k ∷ ls) l c h e = let p = or_false (eqb c k.number) (has_line c ls) h in rw p.0 (line_here ls l c p.1 e)

pub line_other : (ls : List State) (l : State) (d : ℕ) → (d ≡ l.number → ⊥) → line_of d (snoc ls l) ≡ line_of d ls
unfolding line_of
line_other [] l d n = rw (ne_eqb d l.number n) refl
line_other (k ∷ ls) l d n = ap (λ (x : State). cond (eqb d k.number) k x) (line_other ls l d n)

-- ROWS: the cells of one state are as they were
pub record SameRow (c : ℕ) (w v : List ℕ) : Type 0 where
  pub same_mark : get_or v c 0 ≡ get_or w c 0
  pub same_name : get_or v (name_cell c) 0 ≡ get_or w (name_cell c) 0
  pub same_length : get_or v (length_cell c) 0 ≡ get_or w (length_cell c) 0
  pub same_leads : get_or v (lead_cell c) 0 ≡ get_or w (lead_cell c) 0
  pub same_moves : (f : ℕ) → f < most_values → get_or v (move_cell c f) 0 ≡ get_or w (move_cell c f) 0

pub row_held : {s : List ℕ} {l : State} {c : ℕ} {w v : List ℕ} → SameRow c w v → LineHeld s l c w → LineHeld s l c v
row_held {s} {l} {c} r h =
    record {
      mark = r.same_mark ∙ h.mark;
      name = rw (r.same_name, r.same_length) h.name;
      leads = λ d. ap (λ (x : ℕ). bit x d) r.same_leads ∙ h.leads d;
      moves = λ f d q. ap (λ (x : ℕ). bit x d) (r.same_moves f q) ∙ h.moves f d q;
    }

pub row_then : {c : ℕ} {u w v : List ℕ} → SameRow c u w → SameRow c w v → SameRow c u v
row_then p q =
    record {
      same_mark = q.same_mark ∙ p.same_mark;
      same_name = q.same_name ∙ p.same_name;
      same_length = q.same_length ∙ p.same_length;
      same_leads = q.same_leads ∙ p.same_leads;
      same_moves = λ f h. q.same_moves f h ∙ p.same_moves f h;
    }

-- a cell of another state
pub record Off (c i : ℕ) : Type 0 where
  pub off_mark : i ≡ c → ⊥
  pub off_name : i ≡ name_cell c → ⊥
  pub off_length : i ≡ length_cell c → ⊥
  pub off_leads : i ≡ lead_cell c → ⊥
  pub off_moves : (f : ℕ) → f < most_values → i ≡ move_cell c f → ⊥

pub off_row : (c i x : ℕ) (w : List ℕ) → Off c i → SameRow c w (set w i x)
off_row c i x w o =
    record {
      same_mark = get_or-set_other w i c x 0 (λ q. o.off_mark (sym q));
      same_name = get_or-set_other w i (name_cell c) x 0 (λ q. o.off_name (sym q));
      same_length = get_or-set_other w i (length_cell c) x 0 (λ q. o.off_length (sym q));
      same_leads = get_or-set_other w i (lead_cell c) x 0 (λ q. o.off_leads (sym q));
      same_moves = λ f h. get_or-set_other w i (move_cell c f) x 0 (λ q. o.off_moves f h (sym q));
    }

-- the mark, and the name by place and length, of state c, for another state d
module _ (c d : ℕ) (hc : c < most_states) (hd : d < most_states) (n : d ≡ c → ⊥) where
  pub mark_off : Off d c
  mark_off = record { off_mark = λ q. n (sym q); off_name = λ q. omega arith; off_length = λ q. omega arith; off_leads = λ q. omega arith; off_moves = λ f h q. omega arith }

  pub name_off : Off d (name_cell c)
  name_off = record { off_mark = λ q. omega arith; off_name = λ q. n (omega arith); off_length = λ q. omega arith; off_leads = λ q. omega arith; off_moves = λ f h q. omega arith }

  pub length_off : Off d (length_cell c)
  length_off = record { off_mark = λ q. omega arith; off_name = λ q. omega arith; off_length = λ q. n (omega arith); off_leads = λ q. omega arith; off_moves = λ f h q. omega arith }

-- WHAT A PIECE ADDS: the line under way changes as it should, and the rows of other states stay
pub adds : (s : List ℕ) (c : ℕ) (a b : State) (w v : List ℕ) → a.number ≡ c → b.number ≡ c → (LineHeld s a c w → LineHeld s b c v) → ((d : ℕ) → d < most_states → (d ≡ c → ⊥) → SameRow d w v) → Adds s c a b w v
adds s c a b w v p q here there ls none_yet held d h = go (same? d c)
  where
    go : Same d c → LineHeld s (line_of d (snoc ls b)) d v
    go (same e) =
        let x : LineHeld s a c w = subst (λ (l : State). LineHeld s l c w) (line_here ls a c none_yet p) (subst (λ (i : ℕ). LineHeld s (line_of i (snoc ls a)) i w) e (held d h)) in
        subst (λ (i : ℕ). LineHeld s (line_of i (snoc ls b)) i v) (sym e) (subst (λ (l : State). LineHeld s l c v) (sym (line_here ls b c none_yet q)) (here x))
    go (other n) =
        let m : d ≡ a.number → ⊥ = λ z. n (z ∙ p) in
        let k : d ≡ b.number → ⊥ = λ z. n (z ∙ q) in
        let x : LineHeld s (line_of d ls) d w = subst (λ (l : State). LineHeld s l d w) (line_other ls a d m) (held d h) in
        subst (λ (l : State). LineHeld s l d v) (sym (line_other ls b d k)) (row_held (there d h n) x)

pub adds_nothing : (s : List ℕ) (c : ℕ) (a : State) (w : List ℕ) → Adds s c a a w w
adds_nothing s c a w ls none_yet held = held

pub adds_then : (s : List ℕ) (c : ℕ) (a b d : State) (u w v : List ℕ) → Adds s c a b u w → Adds s c b d w v → Adds s c a d u v
adds_then s c a b d u w v p q ls none_yet held = q ls none_yet (p ls none_yet held)
