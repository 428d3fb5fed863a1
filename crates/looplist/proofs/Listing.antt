-- Reading a list of acts line by line. Assumes nothing.
use Rattle.text.proofs.Tests.{and_both}
use mathlib.Core.Path.{◌≡◌, refl, sym, ap, ◌∙◌}
use mathlib.Core.Bool.{Bool, true, false, ◌&&◌, cond}
use mathlib.Core.List.{List, [], ◌∷◌, ◌++◌, append_assoc, append-nil}
use Prim.Native.Nat.{ℕ, zero, suc, ◌+◌, ◌-◌, ◌^◌, ◌≤◌, ◌<◌}
use native.Mathlib.Numerals.{add-one}
use native.Mathlib.Omega.{arith}
use lib.Dec.{eqb, lit<}
use lib.ListN.{length, get_or, set, take, drop, length-set}
use lib.Seq.{take-suc-set, length-take-le}
use Rattle.std.specs.Prelude.{Option, Some, None, Result, Ok, Err}
use Rattle.text.specs.Lines.{Line, lines, fields}
use Rattle.text.specs.Numbers.{numbers_line, all_numbers, number_at}
use Rattle.text.specs.Reading.{line_here, past_line, row_here}
use Rattle.text.specs.declared.read.Row.{Row as Numbers}
use Rattle.text.proofs.Reading.{lines_here, no_lines, Row, row_rest, row_read, row_fault}
use Rattle.looplist.specs.Listing.{listed, numbers_of, Lists, Near}
use Rattle.looplist.specs.declared.acts.BadList.{BadList}
use Rattle.looplist.specs.declared.acts.BadList.TheVariants.{NoAct, TooMany}

-- a row ends past its start
row_rises : {s : List ℕ} {at : ℕ} {vs : List ℕ} {z : ℕ} → Row s at vs z → at < z
unfolding numbers_line past_line
row_rises {s} {at} {vs} {z} r =
    let l = line_here s at in
    let g = and_both l.closed (eqb (length (fields l.text)) (length vs) && all_numbers (fields l.text)) r.line in
    let k : ◌≡◌ {A = ℕ} (cond l.closed 1 0) 1 = ap (λ (t : Bool). cond t 1 0) g.0 in
    omega (arith, r.past)

pub row_past : (k : ℕ) (s : List ℕ) (at : ℕ) {r : Option (Numbers k)} {x : Numbers k} → r ≡ row_here k s at → r ≡ Some x → at < x.next
row_past k s at p q = row_rises (row_read k p q)

pub listed_step : (room k : ℕ) (l : Line) (ls : List Line) → listed (suc room) k (l ∷ ls) ≡ cond (numbers_line 1 l) (listed room (suc k) ls) (Err (NoAct (suc k)))
unfolding listed
listed_step room k l ls = refl

-- SO FAR: what is still to read gives the whole
pub record ListsOn (s : List ℕ) (at k : ℕ) (xs ys : List ℕ) : Type 0 where
  pub says : listed (length xs - k) k (lines (drop at s)) ≡ listed (length xs) 0 (lines s)
  pub holds : take k ys ++ numbers_of (lines (drop at s)) ≡ numbers_of (lines s)
  pub within : k ≤ length ys
  pub kept : length ys ≡ length xs

module _ {s : List ℕ} {at k : ℕ} {xs ys : List ℕ} (l : ListsOn s at k xs ys) where
  -- at the end
  pub lists_end : length s ≤ at → Lists s (Ok k) xs ys
  lists_end h = record { says = unfold listed in (rw (no_lines s at h) at l.says); holds = (l.within, sym (append-nil (take k ys)) ∙ unfold numbers_of in (rw (no_lines s at h) at l.holds)) }

  pub lists_all : length s ≤ at → length xs ≤ k → Lists s (Ok (length ys)) xs ys
  lists_all h f = let e : length ys ≡ k = omega (arith, l.within, l.kept) in rw e (lists_end h)

  -- what is still to read, before the text's end
  rest_says : at < length s → listed (length xs - k) k (line_here s at ∷ drop 1 (lines (drop at s))) ≡ listed (length xs) 0 (lines s)
  rest_says h = rw (← lines_here s at h) l.says

  rest_holds : at < length s → take k ys ++ numbers_of (line_here s at ∷ drop 1 (lines (drop at s))) ≡ numbers_of (lines s)
  rest_holds h = rw (← lines_here s at h) l.holds

  -- no room is left
  pub lists_full : at < length s → length xs ≤ k → Lists s (Err TooMany) xs ys
  lists_full h f = record { says = says; holds = tt }
    where
      none : length xs - k ≡ 0
      none = omega arith

      says : Err TooMany ≡ listed (length xs) 0 (lines s)
      says = unfold listed in (rw none at (rest_says h))

  -- with room left the line at the place decides
  room_says : at < length s → k < length xs → (b : Bool) → numbers_line 1 (line_here s at) ≡ b →
      cond b (listed (length xs - (k + 1)) (k + 1) (drop 1 (lines (drop at s)))) (Err (NoAct (k + 1))) ≡ listed (length xs) 0 (lines s)
  room_says h f b q =
      let e : length xs - k ≡ suc (length xs - suc k) = omega arith in
      rw (← q, add-one k) (sym (listed_step (length xs - suc k) k (line_here s at) (drop 1 (lines (drop at s)))) ∙ (rw e at (rest_says h)))

  -- it is no act
  pub lists_none : at < length s → k < length xs → {r : Option (Numbers 1)} → r ≡ row_here 1 s at → r ≡ None → Lists s (Err (NoAct (k + 1))) xs ys
  lists_none h f p q = record { says = room_says h f false (row_fault 1 s at p q).none; holds = tt }

  -- it is one
  pub lists_more : at < length s → k < length xs → (x : Numbers 1) {r : Option (Numbers 1)} → r ≡ row_here 1 s at → r ≡ Some x → ListsOn s x.next (k + 1) xs (set ys k (get_or x.numbers 0 0))
  lists_more h f x p q = record { says = says; holds = holds; within = omega (arith, length-set ys k a, l.kept); kept = length-set ys k a ∙ l.kept }
    where
      a : ℕ
      a = get_or x.numbers 0 0

      z : ℕ
      z = x.next

      row : Row s at (a ∷ []) z
      row = row_read 1 p q

      says : listed (length xs - (k + 1)) (k + 1) (lines (drop z s)) ≡ listed (length xs) 0 (lines s)
      says = rw (row_rest row) (room_says h f true row.line)

      front : take (k + 1) (set ys k a) ≡ take k ys ++ (a ∷ [])
      front = let g : k < length ys = omega (arith, l.kept) in rw (add-one k) (take-suc-set ys k a g)

      holds : take (k + 1) (set ys k a) ++ numbers_of (lines (drop z s)) ≡ numbers_of (lines s)
      holds = rw (front, row_rest row, append_assoc) (next (row.are 0 (lit< tt)) (rest_holds h))
        where
          next : number_at (line_here s at) 0 ≡ a → take k ys ++ numbers_of (line_here s at ∷ drop 1 (lines (drop at s))) ≡ numbers_of (lines s) →
              take k ys ++ (a ∷ numbers_of (drop 1 (lines (drop at s)))) ≡ numbers_of (lines s)
          next e t = rw (← e) (unfold numbers_of in t)

-- the acts that were read are few: no more than the buffer has room for
pub few_taken : (n : ℕ) (l : List ℕ) → n ≤ length l → length l ≡ 400000 → length (take n l) < 2 ^ 32
few_taken n l h e = omega (arith, length-take-le n l h)

-- and so is the line that is no act
no_act_near : (room k n : ℕ) (ls : List Line) → Err (NoAct n) ≡ listed room k ls → n ≤ k + room
unfolding listed
no_act_near room k n [] e = absurd (cc)
no_act_near zero k n (l ∷ ls) e = absurd (cc)
no_act_near (suc room) k n (l ∷ ls) e = go (numbers_line 1 l) e (no_act_near room (suc k) n ls)
  where
    go : (b : Bool) → Err (NoAct n) ≡ cond b (listed room (suc k) ls) (Err (NoAct (suc k))) → (Err (NoAct n) ≡ listed room (suc k) ls → n ≤ suc k + room) → n ≤ k + suc room
    go true e near = omega (arith, near e)
    go false e near = let s : n ≡ suc k = cc in omega arith

pub near : {s : List ℕ} {r : Result ℕ BadList} {bad : BadList} {xs ys : List ℕ} → Lists s r xs ys → r ≡ Err bad → length xs ≡ 400000 → Near bad
near {bad = NoAct n} {xs} l e k = omega (arith, no_act_near (length xs) 0 n (lines _) (sym e ∙ l.says))
near {bad = TooMany} l e k = tt
