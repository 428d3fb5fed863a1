-- More targets for a state: a cell at a time, a word, a set, and the sets of all targets. Assumes nothing.
use mathlib.Core.Path.{◌≡◌, refl, sym, ap, subst, ◌∙◌}
use mathlib.Core.Bool.{Bool, true, false, ◌&&◌, ◌||◌, or-false, and_comm, or_assoc, and-or_distrib_right}
use mathlib.Core.List.{List, [], ◌∷◌, ◌++◌}
use mathlib.Core.Logic.{◌⊎◌, inl, inr}
use Prim.Native.Nat.{ℕ, zero, suc, ◌+◌, ◌*◌, ◌-◌, ◌^◌, ◌%◌, ◌<◌, ◌≤◌}
use native.Mathlib.Omega.{arith}
use lib.Bits.{bit_or}
use lib.Dec.{ltb, eqb}
use lib.ListN.{length, get_or, set, replicate, length-set}
use lib.Seq.{get_or-set_same, get_or-set_other}
use borrow.Author.Tests.{ltb-true, ltb-false, lt-ltb, le-ltb, eq-eqb, ne_eqb}
use Rattle.std.proofs.lemmas.List.{get_or_default}
use Rattle.text.proofs.Tests.{Same, same, other, same?, or_false as neither}
use Rattle.model.proofs.Tools.{getD_replicate_same}
use Rattle.model.specs.ClaimLabels.{bit, truth}
use Rattle.model.specs.ClaimGrammar.{Edge, State, most_states}
use Rattle.model.specs.ClaimTable.{snoc}
use Rattle.model.specs.Claim.{some_edge, some_target, edges_of}
use Rattle.claim.specs.LabelSays.{most_values, all_bits, word_of, holds, union_of, nothing}
use Rattle.claim.specs.Cells.{name_cell, length_cell, lead_cell, move_cell, moves_from, claim_cells, set_of, word_moves, set_moves, Added, Gathered, Led, LineHeld, Adds}
use Rattle.claim.specs.BodySays.{with_edges}
use Rattle.claim.specs.declared.labels.Values.{Values}
use Rattle.model.proofs.Bits.{bit_of_or, bit_zero}
use Rattle.claim.proofs.Bits.{bit_shifted, bit_set, bit_all, holds_union, never_nothing}
use Rattle.claim.proofs.Lexing.{eqb_turned}
use Rattle.claim.proofs.Held.{SameRow, adds}

same_order : (a b : ℕ) → (a ≡ b → ⊥) → (a < b) ⊎ (b < a)
same_order a b n = go (ltb a b) refl
  where
    go : (t : Bool) → ltb a b ≡ t → (a < b) ⊎ (b < a)
    go true e = inl (ltb-true a b e)
    go false e = inr (omega (arith, ltb-false a b e, n))

-- A RANGE OF CELLS: one cell more
added_none : (first : ℕ) (p : ℕ → ℕ → Bool) (u : List ℕ) → Added first 0 p u u
added_none first p u = record { added = λ i e h. absurd (omega (arith, h)); before = λ i h. refl; behind = λ i h. refl }

module _ {first m : ℕ} {p : ℕ → ℕ → Bool} {u v : List ℕ} (a : Added first m p u v) (room : first + m < length v) (x : ℕ) (q : (e : ℕ) → bit x e ≡ p m e) where
  abbrev here : ℕ
  here = first + m

  abbrev next : List ℕ
  next = set v here (bit_or (get_or v here 0) x)

  other_cell : (i : ℕ) → (i ≡ here → ⊥) → get_or next i 0 ≡ get_or v i 0
  other_cell i n = get_or-set_other v here i (bit_or (get_or v here 0) x) 0 n

  this_cell : (e : ℕ) → bit (get_or next here 0) e ≡ (bit (get_or u here 0) e || p m e)
  this_cell e =
      ap (λ (y : ℕ). bit y e) (get_or-set_same v here (bit_or (get_or v here 0) x) 0 room)
      ∙ (bit_of_or (get_or v here 0) x e
      ∙ (ap (λ (b : Bool). bit (get_or v here 0) e || b) (q e)
      ∙ ap (λ (y : ℕ). bit y e || p m e) (a.behind here (omega arith))))

  added_one : Added first (m + 1) p u next
  added_one =
      record {
        added = each;
        before = λ i k. other_cell i (λ q. omega (arith, k, q)) ∙ a.before i k;
        behind = λ i k. other_cell i (λ q. omega (arith, k, q)) ∙ a.behind i (omega (arith, k));
      }
    where
      each : (i e : ℕ) → i < m + 1 → bit (get_or next (first + i) 0) e ≡ (bit (get_or u (first + i) 0) e || p i e)
      each i e k = go (same? i m)
        where
          go : Same i m → bit (get_or next (first + i) 0) e ≡ (bit (get_or u (first + i) 0) e || p i e)
          go (same q) = subst (λ (y : ℕ). bit (get_or next (first + y) 0) e ≡ (bit (get_or u (first + y) 0) e || p y e)) (sym q) (this_cell e)
          go (other n) = ap (λ (y : ℕ). bit y e) (other_cell (first + i) (λ q. n (omega (arith, q)))) ∙ a.added i e (omega (arith, k, n))

-- one range behind the other
added_beside : {p q : ℕ → ℕ → Bool} {f g m n k : ℕ} {u v w : List ℕ} (r : ℕ → ℕ → Bool) → g ≡ f + m → k ≡ m + n → Added f m p u v → Added g n q v w → ((i e : ℕ) → i < m → p i e ≡ r i e) → ((i e : ℕ) → i < n → q i e ≡ r (m + i) e) → Added f k r u w
added_beside {p} {q} {f} {g} {m} {n} {k} {u} {v} {w} r eg ek a b one two =
    record {
      added = λ i e h. go i e h (ltb i m) refl;
      before = λ i h. b.before i (omega (arith, eg, h)) ∙ a.before i h;
      behind = λ i h. b.behind i (omega (arith, eg, ek, h)) ∙ a.behind i (omega (arith, ek, h));
    }
  where
    second : (j e : ℕ) → j < n → bit (get_or w (f + (m + j)) 0) e ≡ (bit (get_or u (f + (m + j)) 0) e || r (m + j) e)
    second j e h =
        let z : f + (m + j) ≡ g + j = omega (arith, eg) in
        ap (λ (y : ℕ). bit (get_or w y 0) e) z
        ∙ (b.added j e h
        ∙ (ap (λ (y : ℕ). bit (get_or v y 0) e || q j e) (sym z)
        ∙ (ap (λ (y : ℕ). bit y e || q j e) (a.behind (f + (m + j)) (omega arith))
        ∙ ap (λ (t : Bool). bit (get_or u (f + (m + j)) 0) e || t) (two j e h))))

    go : (i e : ℕ) → i < k → (t : Bool) → ltb i m ≡ t → bit (get_or w (f + i) 0) e ≡ (bit (get_or u (f + i) 0) e || r i e)
    go i e h true l =
        let x = ltb-true i m l in
        ap (λ (y : ℕ). bit y e) (b.before (f + i) (omega (arith, eg, x))) ∙ (a.added i e x ∙ ap (λ (t : Bool). bit (get_or u (f + i) 0) e || t) (one i e x))
    go i e h false l =
        let x = ltb-false i m l in
        let z : m + (i - m) ≡ i = omega (arith, x) in
        subst (λ (y : ℕ). bit (get_or w (f + y) 0) e ≡ (bit (get_or u (f + y) 0) e || r y e)) z (second (i - m) e (omega (arith, x, ek, h)))

-- the same range twice, and the same with other words
added_both : (r : ℕ → ℕ → Bool) {p q : ℕ → ℕ → Bool} {f m : ℕ} {u v w : List ℕ} → Added f m p u v → Added f m q v w → ((i e : ℕ) → i < m → (p i e || q i e) ≡ r i e) → Added f m r u w
added_both r {p} {q} {f} {m} {u} {v} {w} a b same_all =
    record {
      added = λ i e h. b.added i e h ∙ (ap (λ (t : Bool). t || q i e) (a.added i e h) ∙ (or_assoc (bit (get_or u (f + i) 0) e) (p i e) (q i e) ∙ ap (λ (t : Bool). bit (get_or u (f + i) 0) e || t) (same_all i e h)));
      before = λ i h. b.before i h ∙ a.before i h;
      behind = λ i h. b.behind i h ∙ a.behind i h;
    }

added_as : (r : ℕ → ℕ → Bool) {p : ℕ → ℕ → Bool} {f m : ℕ} {u v : List ℕ} → Added f m p u v → ((i e : ℕ) → i < m → p i e ≡ r i e) → Added f m r u v
added_as r {p} {f} {m} {u} a same_all =
    record {
      added = λ i e h. a.added i e h ∙ ap (λ (t : Bool). bit (get_or u (f + i) 0) e || t) (same_all i e h);
      before = a.before;
      behind = a.behind;
    }

-- A WORD: so many bits are done
pub record Adding (first d word : ℕ) (u v : List ℕ) (i : ℕ) : Type 0 where
  pub few : i ≤ 64
  pub long : length v ≡ length u
  pub done : Added first i (word_moves d word) u v

pub adding_none : (first d word : ℕ) (u : List ℕ) → Adding first d word u u 0
adding_none first d word u = record { few = omega arith; long = refl; done = added_none first (word_moves d word) u }

pub adding_more : {first d word : ℕ} {u v : List ℕ} {i : ℕ} → Adding first d word u v i → (x : ℕ) → ((e : ℕ) → bit x e ≡ word_moves d word i e) → first + 64 ≤ length v → i < 64 → Adding first d word u (set v (first + i) (bit_or (get_or v (first + i) 0) x)) (i + 1)
adding_more {first} {v = v} {i = i} a x q room h = record { few = omega (arith, h); long = length-set v (first + i) _ ∙ a.long; done = added_one a.done (omega (arith, room, h)) x q }

pub adding_all : {first d word : ℕ} {u v : List ℕ} {i : ℕ} → Adding first d word u v i → 64 ≤ i → Added first 64 (word_moves d word) u v
adding_all {first} {d} {word} {u} {v} a h = subst (λ (i : ℕ). Added first i (word_moves d word) u v) (omega (arith, h, a.few)) a.done

-- a word without a bit, and a bit of one with all
pub no_bit_added : (first d : ℕ) (u : List ℕ) → Added first 64 (word_moves d 0) u u
no_bit_added first d u =
    record {
      added = λ i e h. sym (or-false (bit (get_or u (first + i) 0) e)) ∙ ap (λ (b : Bool). bit (get_or u (first + i) 0) e || (b && eqb e d)) (sym (bit_zero i));
      before = λ i h. refl;
      behind = λ i h. refl;
    }

pub bit_of_all : (d i e : ℕ) → d < 32 → i < 64 → bit (1 * 2 ^ d % 2 ^ 32) e ≡ word_moves d all_bits i e
bit_of_all d i e hd h = bit_shifted d e hd ∙ sym (ap (λ (b : Bool). b && eqb e d) (bit_all i h))

-- A SET: its words
set_word : (w : Values) (k i : ℕ) → k < 4 → i < 64 → bit (word_of w k) i ≡ holds w (64 * k + i)
unfolding holds
set_word w zero i hk h = rw (lt-ltb (64 * 0 + i) 64 (omega (arith, h))) (ap (bit (word_of w 0)) (omega arith))
set_word w (suc zero) i hk h = rw (le-ltb (64 + i) 64 (omega arith), lt-ltb (64 + i) 128 (omega (arith, h))) (ap (bit (word_of w 1)) (omega arith))
set_word w (suc (suc zero)) i hk h = rw (le-ltb (128 + i) 64 (omega arith), le-ltb (128 + i) 128 (omega arith), lt-ltb (128 + i) 192 (omega (arith, h))) (ap (bit (word_of w 2)) (omega arith))
set_word w (suc (suc (suc zero))) i hk h = rw (le-ltb (192 + i) 64 (omega arith), le-ltb (192 + i) 128 (omega arith), le-ltb (192 + i) 192 (omega arith)) (ap (bit (word_of w 3)) (omega arith))
set_word w (suc (suc (suc (suc k)))) i hk h = absurd (omega (arith, hk))

-- so many words are done
pub record AddingWords (first d : ℕ) (w : Values) (u v : List ℕ) (k : ℕ) : Type 0 where
  pub few : k ≤ 4
  pub long : length v ≡ length u
  pub done : Added first (64 * k) (set_moves d w) u v

pub words_more : {first d k : ℕ} {w : Values} {u v x : List ℕ} → AddingWords first d w u v k → k < 4 → length x ≡ length v → Added (first + 64 * k) 64 (word_moves d (word_of w k)) v x → AddingWords first d w u x (k + 1)
words_more {first} {d} {k} {w} a h l b =
    record {
      few = omega (arith, h);
      long = l ∙ a.long;
      done = added_beside (set_moves d w) refl (omega arith) a.done b (λ i e q. refl) (λ i e q. ap (λ (t : Bool). t && eqb e d) (set_word w k i h q));
    }

-- THE SETS BY TARGET: one target's grows
pub values_gathered : (d : ℕ) (u : List Values) → d < length u → (x w r : Values) → r ≡ union_of (get_or u d x) w → Gathered d w u (set u d r)
values_gathered d u hd x w r e = record { gathered = λ t f. go t f (same? t d) }
  where
    here_now : (f : ℕ) → holds (set_of (set u d r) d) f ≡ (holds (set_of u d) f || (holds w f && eqb d d))
    here_now f =
        ap (λ (x : Values). holds x f) (get_or-set_same u d r nothing hd ∙ (e ∙ ap (λ (y : Values). union_of y w) (get_or_default u d x nothing hd)))
        ∙ (holds_union (set_of u d) w f
        ∙ ap (λ (b : Bool). holds (set_of u d) f || b) (and_comm true (holds w f) ∙ ap (λ (b : Bool). holds w f && b) (sym (eq-eqb d d refl))))

    go : (t f : ℕ) → Same t d → holds (set_of (set u d r) t) f ≡ (holds (set_of u t) f || (holds w f && eqb t d))
    go t f (same q) = subst (λ (x : ℕ). holds (set_of (set u d r) x) f ≡ (holds (set_of u x) f || (holds w f && eqb x d))) (sym q) (here_now f)
    go t f (other n) =
        ap (λ (x : Values). holds x f) (get_or-set_other u d t r nothing n)
        ∙ (sym (or-false (holds (set_of u t) f))
        ∙ ap (λ (b : Bool). holds (set_of u t) f || b) (and_comm false (holds w f) ∙ ap (λ (b : Bool). holds w f && b) (sym (ne_eqb t d n))))

-- THE CELLS FROM THE SETS: the targets below d are done
abbrev targets_moves : (leads : ℕ) → (sets : List Values) → (values target : ℕ) → Bool
targets_moves l x f e = bit l e && holds (set_of x e) f

abbrev moves_below : (d leads : ℕ) → (sets : List Values) → (values target : ℕ) → Bool
moves_below d l x f e = ltb e d && targets_moves l x f e

next_below : (d e : ℕ) → ltb e (d + 1) ≡ (ltb e d || eqb e d)
next_below d e = go (same? e d) (ltb e d) refl
  where
    go : Same e d → (t : Bool) → ltb e d ≡ t → ltb e (d + 1) ≡ (ltb e d || eqb e d)
    go (same q) t l = rw (lt-ltb e (d + 1) (omega (arith, q)), le-ltb e d (omega (arith, q)), eq-eqb e d q) refl
    go (other n) true l = rw (lt-ltb e (d + 1) (omega (arith, ltb-true e d l)), l) refl
    go (other n) false l = rw (le-ltb e (d + 1) (omega (arith, n, ltb-false e d l)), l, ne_eqb e d n) refl

pub record Spreading (c leads : ℕ) (sets : List Values) (u v : List ℕ) (d : ℕ) : Type 0 where
  pub few : d ≤ most_states
  pub long : length v ≡ length u
  pub done : Added (moves_from c) most_values (moves_below d leads sets) u v

pub spread_none : (c leads : ℕ) (sets : List Values) (u : List ℕ) → Spreading c leads sets u u 0
spread_none c leads sets u =
    record {
      few = omega arith;
      long = refl;
      done = record {
        added = λ f e h. sym (or-false (bit (get_or u (move_cell c f) 0) e)) ∙ ap (λ (b : Bool). bit (get_or u (move_cell c f) 0) e || (b && targets_moves leads sets f e)) (sym (le-ltb e 0 (omega arith)));
        before = λ i h. refl;
        behind = λ i h. refl;
      };
    }

module _ {c leads : ℕ} {sets : List Values} {u v : List ℕ} {d : ℕ} (a : Spreading c leads sets u v d) where
  -- the moves to d, beside those to the targets below it
  below_now : (f e : ℕ) → (moves_below d leads sets f e || (eqb e d && targets_moves leads sets f e)) ≡ moves_below (d + 1) leads sets f e
  below_now f e = sym (ap (λ (b : Bool). b && targets_moves leads sets f e) (next_below d e) ∙ and-or_distrib_right (ltb e d) (eqb e d) (targets_moves leads sets f e))

  at_target : (b : Bool) → bit leads d ≡ b → (f e : ℕ) → (eqb e d && targets_moves leads sets f e) ≡ (eqb e d && (b && holds (set_of sets d) f))
  at_target b q f e = go (same? e d)
    where
      go : Same e d → (eqb e d && targets_moves leads sets f e) ≡ (eqb e d && (b && holds (set_of sets d) f))
      go (same p) = ap (λ (x : ℕ). eqb e d && targets_moves leads sets f x) p ∙ ap (λ (t : Bool). eqb e d && (t && holds (set_of sets d) f)) q
      go (other n) = rw (ne_eqb e d n) refl

  pub spread_past : d < most_states → bit leads d ≡ false → Spreading c leads sets u v (d + 1)
  spread_past h q =
      record {
        few = omega (arith, h);
        long = a.long;
        done = added_as (moves_below (d + 1) leads sets) a.done (λ f e k. sym (or-false (moves_below d leads sets f e)) ∙ (ap (λ (b : Bool). moves_below d leads sets f e || b) (sym (at_target false q f e ∙ and_comm (eqb e d) false)) ∙ below_now f e));
      }

  pub spread_more : {w : List ℕ} (s : Values) → d < most_states → bit leads d ≡ true → length w ≡ length v → s ≡ set_of sets d → Added (moves_from c) most_values (set_moves d s) v w → Spreading c leads sets u w (d + 1)
  spread_more s h q m z b =
      record {
        few = omega (arith, h);
        long = m ∙ a.long;
        done = added_both (moves_below (d + 1) leads sets) a.done b (λ f e k. ap (λ (t : Bool). moves_below d leads sets f e || t) (ap (λ (x : Values). holds x f && eqb e d) z ∙ (and_comm (holds (set_of sets d) f) (eqb e d) ∙ sym (at_target true q f e))) ∙ below_now f e);
      }

  -- all targets, and then where the edges lead
  pub all_led : c < most_states → claim_cells ≤ length v → most_states ≤ d → ((e : ℕ) → most_states ≤ e → bit leads e ≡ false) → Led c leads sets u (set v (lead_cell c) (bit_or (get_or v (lead_cell c) 0) leads))
  all_led hc room hd few =
      record {
        led = λ e. ap (λ (y : ℕ). bit y e) (get_or-set_same v (lead_cell c) _ 0 (omega (arith, hc, room))) ∙ (bit_of_or (get_or v (lead_cell c) 0) leads e ∙ ap (λ (y : ℕ). bit y e || bit leads e) (a.done.before (lead_cell c) (omega (arith, hc))));
        moved = λ f e h. ap (λ (y : ℕ). bit y e) (get_or-set_other v (lead_cell c) (move_cell c f) _ 0 (λ q. omega (arith, hc, q))) ∙ (a.done.added f e h ∙ ap (λ (b : Bool). bit (get_or u (move_cell c f) 0) e || b) (all_below f e (ltb e d) refl));
        before = λ i h n. get_or-set_other v (lead_cell c) i _ 0 n ∙ a.done.before i h;
        behind = λ i h. get_or-set_other v (lead_cell c) i _ 0 (λ q. omega (arith, hc, h, q)) ∙ a.done.behind i (omega (arith, h));
      }
    where
      all_below : (f e : ℕ) (t : Bool) → ltb e d ≡ t → (ltb e d && targets_moves leads sets f e) ≡ targets_moves leads sets f e
      all_below f e true l = rw l refl
      all_below f e false l = rw (l, few e (omega (arith, hd, ltb-false e d l))) refl

-- EDGES MORE: those of one list and then another's
target_append : (es gs : List Edge) (d : ℕ) → some_target (edges_of (es ++ gs)) d ≡ (some_target (edges_of es) d || some_target (edges_of gs) d)
unfolding some_target edges_of
target_append [] gs d = refl
target_append (x ∷ es) gs d = ap (λ (b : Bool). eqb x.to d || b) (target_append es gs d) ∙ sym (or_assoc (eqb x.to d) (some_target (edges_of es) d) (some_target (edges_of gs) d))

move_append : (es gs : List Edge) (f d : ℕ) → some_edge (edges_of (es ++ gs)) f d ≡ (some_edge (edges_of es) f d || some_edge (edges_of gs) f d)
unfolding some_edge edges_of
move_append [] gs f d = refl
move_append (x ∷ es) gs f d =
    ap (λ (b : Bool). (eqb x.to d && truth x.label f) || b) (move_append es gs f d)
    ∙ sym (or_assoc (eqb x.to d && truth x.label f) (some_edge (edges_of es) f d) (some_edge (edges_of gs) f d))

-- one
target_one : (e : Edge) (d : ℕ) → some_target (edges_of (e ∷ [])) d ≡ eqb d e.to
unfolding some_target edges_of
target_one e d = or-false (eqb e.to d) ∙ eqb_turned e.to d

move_one : (e : Edge) (f d : ℕ) → some_edge (edges_of (e ∷ [])) f d ≡ (truth e.label f && eqb d e.to)
unfolding some_edge edges_of
move_one e f d = or-false (eqb e.to d && truth e.label f) ∙ (ap (λ (b : Bool). b && truth e.label f) (eqb_turned e.to d) ∙ and_comm (eqb d e.to) (truth e.label f))

target_snoc : (es : List Edge) (e : Edge) (d : ℕ) → some_target (edges_of (snoc es e)) d ≡ (some_target (edges_of es) d || eqb d e.to)
target_snoc es e d = target_append es (e ∷ []) d ∙ ap (λ (b : Bool). some_target (edges_of es) d || b) (target_one e d)

move_snoc : (es : List Edge) (e : Edge) (f d : ℕ) → some_edge (edges_of (snoc es e)) f d ≡ (some_edge (edges_of es) f d || (truth e.label f && eqb d e.to))
move_snoc es e f d = move_append es (e ∷ []) f d ∙ ap (λ (b : Bool). some_edge (edges_of es) f d || b) (move_one e f d)

-- no move without a target
untargeted : (es : List Edge) (f d : ℕ) → some_target (edges_of es) d ≡ false → some_edge (edges_of es) f d ≡ false
unfolding some_target some_edge edges_of
untargeted [] f d q = refl
untargeted (x ∷ es) f d q = let p = neither (eqb x.to d) (some_target (edges_of es) d) q in rw (p.0, untargeted es f d p.1) refl

target_move : (es : List Edge) (f d : ℕ) → (some_target (edges_of es) d && some_edge (edges_of es) f d) ≡ some_edge (edges_of es) f d
target_move es f d = go (some_target (edges_of es) d) refl
  where
    go : (b : Bool) → some_target (edges_of es) d ≡ b → (some_target (edges_of es) d && some_edge (edges_of es) f d) ≡ some_edge (edges_of es) f d
    go true q = rw q refl
    go false q = rw (q, untargeted es f d q) refl

-- what is gathered of edges: their targets, and of each target its flag values
pub record Gathers (es : List Edge) (leads : ℕ) (sets : List Values) : Type 0 where
  pub targets : (d : ℕ) → bit leads d ≡ some_target (edges_of es) d
  pub values : (d f : ℕ) → f < most_values → holds (set_of sets d) f ≡ some_edge (edges_of es) f d

pub gathers_none : (n : ℕ) → Gathers [] 0 (replicate n nothing)
unfolding some_target some_edge edges_of truth
gathers_none n =
    record {
      targets = bit_zero;
      values = λ d f h. ap (λ (x : Values). holds x f) (getD_replicate_same {A = Values} n d nothing) ∙ sym (never_nothing.agrees f h);
    }

pub gathers_one : {es : List Edge} {leads : ℕ} {sets : List Values} → Gathers es leads sets → (e : Edge) (d : ℕ) → e.to ≡ d → d < 32 → (v : List Values) → ((t f : ℕ) → f < most_values → holds (set_of v t) f ≡ (holds (set_of sets t) f || (truth e.label f && eqb t d))) → Gathers (snoc es e) (bit_or leads (1 * 2 ^ d % 2 ^ 32)) v
gathers_one {es} {leads} {sets} g e d q h v p =
    record {
      targets = λ t. bit_set leads d t h ∙ (ap (λ (b : Bool). b || eqb t d) (g.targets t) ∙ (ap (λ (x : ℕ). some_target (edges_of es) t || eqb t x) (sym q) ∙ sym (target_snoc es e t)));
      values = λ t f k. p t f k ∙ (ap (λ (b : Bool). b || (truth e.label f && eqb t d)) (g.values t f k) ∙ (ap (λ (x : ℕ). some_edge (edges_of es) f t || (truth e.label f && eqb t x)) (sym q) ∙ sym (move_snoc es e f t)));
    }

-- then the line of state c has them, and the rows of other states stay
module _ {c leads : ℕ} {sets : List Values} {u v : List ℕ} (m : Led c leads sets u v) (hc : c < most_states) where
  module _ {es : List Edge} (g : Gathers es leads sets) where
    lead_now : (l : State) (e : ℕ) → (some_target (edges_of l.edges) e || bit leads e) ≡ some_target (edges_of (l.edges ++ es)) e
    lead_now l e = ap (λ (b : Bool). some_target (edges_of l.edges) e || b) (g.targets e) ∙ sym (target_append l.edges es e)

    move_now : (l : State) (f e : ℕ) → f < most_values → (some_edge (edges_of l.edges) f e || (bit leads e && holds (set_of sets e) f)) ≡ some_edge (edges_of (l.edges ++ es)) f e
    move_now l f e h =
        ap (λ (b : Bool). some_edge (edges_of l.edges) f e || (b && holds (set_of sets e) f)) (g.targets e)
        ∙ (ap (λ (b : Bool). some_edge (edges_of l.edges) f e || (some_target (edges_of es) e && b)) (g.values e f h)
        ∙ (ap (λ (b : Bool). some_edge (edges_of l.edges) f e || b) (target_move es f e)
        ∙ sym (move_append l.edges es f e)))

    edges_held : (s : List ℕ) (l : State) → LineHeld s l c u → LineHeld s (with_edges l es) c v
    edges_held s l h =
        record {
          mark = m.before c (omega (arith, hc)) (λ q. omega (arith, q)) ∙ h.mark;
          name = rw (m.before (name_cell c) (omega (arith, hc)) (λ q. omega (arith, q)), m.before (length_cell c) (omega (arith, hc)) (λ q. omega (arith, q))) h.name;
          leads = λ e. m.led e ∙ (ap (λ (b : Bool). b || bit leads e) (h.leads e) ∙ lead_now l e);
          moves = λ f e k. m.moved f e k ∙ (ap (λ (b : Bool). b || (bit leads e && holds (set_of sets e) f)) (h.moves f e k) ∙ move_now l f e k);
        }

  row_kept : (b : ℕ) → b < most_states → (b ≡ c → ⊥) → SameRow b u v
  row_kept b hb n =
      record {
        same_mark = m.before b (omega (arith, hb)) (λ q. omega (arith, hb, q));
        same_name = m.before (name_cell b) (omega (arith, hb)) (λ q. omega (arith, hb, q));
        same_length = m.before (length_cell b) (omega (arith, hb)) (λ q. omega (arith, hb, q));
        same_leads = m.before (lead_cell b) (omega (arith, hb)) (λ q. n (omega (arith, q)));
        same_moves = λ f h. apart f h (same_order b c n);
      }
    where
      apart : (f : ℕ) → f < most_values → (b < c) ⊎ (c < b) → get_or v (move_cell b f) 0 ≡ get_or u (move_cell b f) 0
      apart f h (inl k) = m.before (move_cell b f) (omega (arith, h, k)) (λ q. omega (arith, hc, q))
      apart f h (inr k) = m.behind (move_cell b f) (omega (arith, k))

  pub edges_add : (s : List ℕ) (es : List Edge) (l : State) → Gathers es leads sets → l.number ≡ c → Adds s c l (with_edges l es) u v
  edges_add s es l g e = adds s c l _ u v e e (λ h. edges_held g s l h) row_kept
