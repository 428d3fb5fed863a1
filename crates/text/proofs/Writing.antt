-- Laws of writing: a longer text by several writers one after the other, and what each writer's loop keeps. Assumes
-- nothing.
use mathlib.Core.Path.{◌≡◌, refl, sym, ap, ◌∙◌}
use mathlib.Core.Bool.{Bool, true, false, cond}
use mathlib.Core.List.{List, [], ◌∷◌, ◌++◌, append_assoc}
use mathlib.Core.Logic.{inl, inr}
use Prim.Native.Nat.{ℕ, suc, ◌+◌, ◌-◌, ◌≤◌, ◌<◌}
use native.Mathlib.Nat.{add-zero, zero-add}
use native.Mathlib.Numerals.{add-one}
use native.Mathlib.Omega.{arith}
use lib.Dec.{leb}
use lib.ListN.{length, get_or, set, take, drop, length-append, length-set}
use lib.Seq.{append_snoc, length-take-le, take-suc, set_at, get_or-set_other, sets, sets-eq, length-sets, paste, paste-zero, paste-suc, take-length}
use borrow.Author.Tests.{leb-true, leb-false, le-leb, lt-leb}
use Rattle.std.specs.Prelude.{Option, Some, None}
use Rattle.text.specs.declared.write.Writer.{Writer}
use Rattle.text.specs.Writing.{put, end_after, granted, output_after, Writes, Reserves, Outside}
use Rattle.text.specs.Promise.{OnlyThere}

-- PUT is a run of stores
put_sets : (at : ℕ) (bs o : List ℕ) → at + length bs ≤ length o → put at bs o ≡ sets o at bs
unfolding put
put_sets at bs o h = sym (sets-eq bs o at h)

pub length_put : (at : ℕ) (bs o : List ℕ) → at + length bs ≤ length o → length (put at bs o) ≡ length o
length_put at bs o h = ap length (put_sets at bs o h) ∙ length-sets o at bs

pub put_front : (bs o : List ℕ) → put 0 bs o ≡ bs ++ drop (length bs) o
unfolding put
put_front bs o = rw (zero-add (length bs)) refl

pub put_none : (at : ℕ) (o : List ℕ) → at ≤ length o → put at [] o ≡ o
put_none at o h = put_sets at [] o (omega arith)

sets_append : (at : ℕ) (bs cs o : List ℕ) → sets o at (bs ++ cs) ≡ sets (sets o at bs) (at + length bs) cs
sets_append at [] cs o = rw (add-zero at)
sets_append at (b ∷ bs) cs o = let e : at + suc (length bs) ≡ suc at + length bs = omega arith in rw e (sets_append (suc at) bs cs (set o at b))

-- bytes, and then more behind them
pub put_append : (at : ℕ) (bs cs o : List ℕ) → at + length (bs ++ cs) ≤ length o → put at (bs ++ cs) o ≡ put (at + length bs) cs (put at bs o)
put_append at bs cs o h =
    let g : at + length bs + length cs ≤ length o = omega (arith, length-append bs cs) in
    put_sets at (bs ++ cs) o h ∙ sets_append at bs cs o
    ∙ ap (λ (l : List ℕ). sets l (at + length bs) cs) (sym (put_sets at bs o (omega arith)))
    ∙ sym (put_sets (at + length bs) cs (put at bs o) (omega (arith, length_put at bs o (omega arith))))

-- WRITES
-- no byte outside the place changes
sets_outside : (at : ℕ) (bs o : List ℕ) (i : ℕ) → Outside at (length bs) i → get_or (sets o at bs) i 0 ≡ get_or o i 0
sets_outside at [] o i h = refl
sets_outside at (b ∷ bs) o i h = sets_outside (suc at) bs (set o at b) i (next h) ∙ get_or-set_other o at i b 0 (other h)
  where
    next : Outside at (suc (length bs)) i → Outside (suc at) (length bs) i
    next (inl l) = inl (omega arith)
    next (inr l) = inr (omega arith)

    other : Outside at (suc (length bs)) i → i ≡ at → ⊥
    other (inl l) e = omega arith
    other (inr l) e = omega arith

length_after : (end : Option ℕ) (bs o : List ℕ) → length (output_after end bs o) ≡ length o
unfolding output_after
length_after None bs o = refl
length_after (Some at) bs o = go (leb (at + length bs) (length o)) refl
  where
    go : (t : Bool) → leb (at + length bs) (length o) ≡ t → length (cond t (put at bs o) o) ≡ length o
    go true e = length_put at bs o (leb-true (at + length bs) (length o) e)
    go false e = refl

pub writes_length : {bs : List ℕ} {w v : Writer} → Writes bs w v → length v.output.now ≡ length w.output.now
writes_length {bs} {w} {v} p = ap length p.output ∙ length_after w.end bs w.output.now

outside_after : (end : Option ℕ) (at : ℕ) (bs o : List ℕ) (i : ℕ) → end ≡ Some at → Outside at (length bs) i → get_or (output_after end bs o) i 0 ≡ get_or o i 0
unfolding output_after
outside_after end at bs o i e h = rw e (go (leb (at + length bs) (length o)) refl)
  where
    go : (t : Bool) → leb (at + length bs) (length o) ≡ t → get_or (cond t (put at bs o) o) i 0 ≡ get_or o i 0
    go true q = rw (put_sets at bs o (leb-true (at + length bs) (length o) q)) (sets_outside at bs o i h)
    go false q = refl

pub only_there : OnlyThere
unfolding OnlyThere output_after
only_there bs w v p = (writes_length p, λ at i e h. rw p.output (outside_after w.end at bs w.output.now i e h), λ e. p.output ∙ rw e refl)

-- A PLACE: where there is no end, where there is no room, and where there is
no_place : (e : Option ℕ) (k n : ℕ) → e ≡ None → (None ≡ granted e k n) × (e ≡ end_after e k n)
unfolding end_after granted
no_place e k n p = rw p (refl, refl)

a_place : (e : Option ℕ) (at k n : ℕ) (t : Bool) → e ≡ Some at → leb (at + k) n ≡ t → (cond t (Some at) None ≡ granted e k n) × (cond t (Some (at + k)) None ≡ end_after e k n)
unfolding end_after granted
a_place e at k n t p q = rw (p, q) (refl, refl)

pub none_reserved : (k : ℕ) (w : Writer) → w.end ≡ None → Reserves k w w None
none_reserved k w p = let g = no_place w.end k (length w.output.now) p in record { place = g.0; end = g.1; output = refl }

pub not_reserved : (k at : ℕ) (w v : Writer) → w.end ≡ Some at → false ≡ leb (at + k) (length w.output.now) → v.end ≡ None → v.output.now ≡ w.output.now → Reserves k w v None
not_reserved k at w v p q e o =
    let g = a_place w.end at k (length w.output.now) false p (sym q) in
    record { place = g.0; end = e ∙ g.1; output = o }

pub is_reserved : (k at : ℕ) (w v : Writer) → w.end ≡ Some at → true ≡ leb (at + k) (length w.output.now) → v.end ≡ Some (at + k) → v.output.now ≡ w.output.now → Reserves k w v (Some at)
is_reserved k at w v p q e o =
    let g = a_place w.end at k (length w.output.now) true p (sym q) in
    record { place = g.0; end = e ∙ g.1; output = o }

-- what a place tells: there is an end, and room behind it
place_end : (e : Option ℕ) (at k n : ℕ) → Some at ≡ granted e k n → (e ≡ Some at) × (at + k ≤ n)
unfolding granted
place_end None at k n p = cc
place_end (Some i) at k n p = go (leb (i + k) n) refl p
  where
    go : (t : Bool) → leb (i + k) n ≡ t → Some at ≡ cond t (Some i) None → (Some i ≡ Some at) × (at + k ≤ n)
    go true q p = let s : at ≡ i = cc in (ap Some (sym s), rw s (leb-true (i + k) n q))
    go false q p = cc

pub reserved_room : {k at : ℕ} {w v : Writer} {r : Option ℕ} → Reserves k w v r → r ≡ Some at → at + k ≤ length v.output.now
reserved_room {k} {at} {w} {v} q p = rw q.output (place_end w.end at k (length w.output.now) (sym p ∙ q.place)).1

-- bytes that got a place, and that got none
nothing_after : (e : Option ℕ) (bs o : List ℕ) → None ≡ granted e (length bs) (length o) → o ≡ output_after e bs o
unfolding granted output_after
nothing_after None bs o p = refl
nothing_after (Some at) bs o p = go (leb (at + length bs) (length o)) p
  where
    go : (t : Bool) → None ≡ cond t (Some at) None → o ≡ cond t (put at bs o) o
    go true p = cc
    go false p = refl

put_after : (at : ℕ) (bs o : List ℕ) → at + length bs ≤ length o → put at bs o ≡ output_after (Some at) bs o
unfolding output_after
put_after at bs o h = rw (le-leb (at + length bs) (length o) h) refl

pub writes_nothing : {bs : List ℕ} {w v : Writer} {r : Option ℕ} → Reserves (length bs) w v r → r ≡ None → Writes bs w v
writes_nothing {bs} {w} {v} q p = record { end = q.end; output = q.output ∙ nothing_after w.end bs w.output.now (sym p ∙ q.place) }

pub writes_there : {bs : List ℕ} {w v u : Writer} {r : Option ℕ} {at : ℕ} → Reserves (length bs) w v r → r ≡ Some at → u.end ≡ v.end → u.output.now ≡ put at bs v.output.now → Writes bs w u
writes_there {bs} {w} {v} {u} {r} {at} q p e o =
    let s = place_end w.end at (length bs) (length w.output.now) (sym p ∙ q.place) in
    record { end = e ∙ q.end; output = o ∙ rw (q.output, s.0) (put_after at bs w.output.now s.1) }

pub reserved_as : {k n : ℕ} {w v : Writer} {r : Option ℕ} → k ≡ n → Reserves k w v r → Reserves n w v r
reserved_as e q = rw (← e) q

-- COPYING: i bytes are copied
pub record Copied (at : ℕ) (bs : List ℕ) (i : ℕ) (o z : List ℕ) : Type 0 where
  pub room : at + length bs ≤ length o
  pub kept : length z ≡ length o
  pub holds : z ≡ paste o at bs i

pub copied_start : (at : ℕ) (bs o : List ℕ) → at + length bs ≤ length o → Copied at bs 0 o o
copied_start at bs o h = record { room = h; kept = refl; holds = paste-zero o at bs }

pub copied_step : (at : ℕ) (bs : List ℕ) (i : ℕ) (o z : List ℕ) → Copied at bs i o z → i < length bs → Copied at bs (i + 1) o (set z (at + i) (get_or bs i 0))
copied_step at bs i o z c h =
    record {
      room = c.room;
      kept = length-set z (at + i) (get_or bs i 0) ∙ c.kept;
      holds = rw (add-one i, c.holds) (paste-suc o at bs i 0 (omega (arith, c.room)) h);
    }

pub copied_end : (at : ℕ) (bs : List ℕ) (i : ℕ) (o z : List ℕ) → Copied at bs i o z → i ≡ length bs → z ≡ put at bs o
unfolding put
copied_end at bs i o z c e = c.holds ∙ rw (e, take-length bs) refl

-- ONE BYTE
pub put_one : (at b : ℕ) (o : List ℕ) → at < length o → put at (b ∷ []) o ≡ set o at b
put_one at b o h = put_sets at (b ∷ []) o (omega arith)

-- a sign, and digits behind it
pub sign_put : (at b : ℕ) (ds o z : List ℕ) → at + suc (length ds) ≤ length o → z ≡ put (at + 1) ds (set o at b) → z ≡ put at (b ∷ ds) o
sign_put at b ds o z h e = e ∙ ap (put (at + 1) ds) (sym (put_one at b o (omega arith))) ∙ sym (put_append at (b ∷ []) ds o h)

-- FROM THE LAST byte to the first
pub put_before : (j b : ℕ) (bs o : List ℕ) → suc j + length bs ≤ length o → set (put (suc j) bs o) j b ≡ put j (b ∷ bs) o
unfolding put
put_before j b bs o h =
    let e : j + suc (length bs) ≡ suc j + length bs = omega arith in
    let rest = bs ++ drop (suc j + length bs) o in
    rw (e, take-suc o j 0 (omega arith))
    (ap (λ (l : List ℕ). set l j b) (append_assoc (take j o ++ (get_or o j 0 ∷ [])) bs (drop (suc j + length bs) o) ∙ append_snoc (take j o) (get_or o j 0) rest)
    ∙ set_at (take j o) (get_or o j 0) rest b j (length-take-le j o (omega arith))
    ∙ sym (append_assoc (take j o) (b ∷ bs) (drop (suc j + length bs) o)))

-- ROOM
pub room_inside : (len at size : ℕ) → at ≤ len → leb size (len - at) ≡ leb (at + size) len
room_inside len at size h = go (leb (at + size) len) refl
  where
    go : (t : Bool) → leb (at + size) len ≡ t → leb size (len - at) ≡ t
    go true e = le-leb size (len - at) (omega (arith, leb-true (at + size) len e))
    go false e = lt-leb size (len - at) (omega (arith, leb-false (at + size) len e))

pub room_outside : (len at size : ℕ) → len < at → leb at len ≡ leb (at + size) len
room_outside len at size h = lt-leb at len h ∙ sym (lt-leb (at + size) len (omega arith))
