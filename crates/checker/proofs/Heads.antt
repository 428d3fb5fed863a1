-- Line 2 of an answer: a number, the word of its verdict, three counts. Assumes nothing.
use mathlib.Core.Path.{◌≡◌, refl, sym, ap, ◌∙◌}
use mathlib.Core.Bool.{Bool, true, false, ◌&&◌, ◌||◌, cond, and-false, and-true}
use mathlib.Core.List.{List, [], ◌∷◌}
use Prim.Native.Nat.{ℕ, suc, ◌+◌}
use native.Mathlib.Omega.{arith}
use lib.Dec.{ltb, eqb}
use lib.ListN.{length, get_or, drop}
use lib.Seq.{get_or-drop}
use borrow.Author.Tests.{eqb-true, ne_eqb, ltb-false}
use Rattle.std.specs.Prelude.{Option, Some, None}
use Rattle.text.specs.Ascii.{space}
use Rattle.text.specs.Lines.{fields, field, equal, begins}
use Rattle.text.specs.Numbers.{is_number, value, all_numbers, numbers_line, number_at}
use Rattle.text.specs.Reading.{line_here, past_line, field_here, leading_here}
use Rattle.text.specs.declared.read.Row.{Row as Numbers}
use Rattle.text.proofs.ReadingRows.{Parted, Spaced, spaced, fields_more}
use Rattle.text.proofs.Reading.{Row, NoRow, leading_fault}
use Rattle.model.specs.Answer.{lasso_word, empty_word}
use Rattle.model.specs.Passing.{says_lasso, says_empty, head_layout}
use Rattle.model.specs.declared.verdict.Verdict.{Verdict}
use Rattle.model.specs.declared.verdict.Verdict.TheVariants.{Lasso, Empty}
use Rattle.checker.specs.Checking.{verdict_by, counts_here, head_of, head_here}
use Rattle.checker.specs.declared.opening.Head.{Head}

-- COUNTS
pub counts_none : {s : List ℕ} {at : ℕ} (v : ℕ) (w : Verdict) → NoRow 3 s at → None ≡ counts_here s at v w
unfolding counts_here
counts_none v w r = sym (rw r.none refl)

pub counts_some : {s : List ℕ} {at x y k z : ℕ} (v : ℕ) (w : Verdict) → Row s at (x ∷ y ∷ k ∷ []) z
    → Some (record { version = v; verdict = w; stem = x; cycle = y; reached = k; next = z }) ≡ counts_here s at v w
unfolding counts_here
counts_some v w r = sym (rw (r.line, r.are 0 (omega arith), r.are 1 (omega arith), r.are 2 (omega arith), r.past) refl)

-- THE LINE by its end, its fields and the place past it
abbrev layout_in : (closed : Bool) → List (List ℕ) → Bool
layout_in c fs =
    (c && eqb (length fs) 5)
    && ((is_number (get_or fs 0 []) && (equal (get_or fs 1 []) lasso_word || equal (get_or fs 1 []) empty_word))
    && (is_number (get_or fs 2 []) && (is_number (get_or fs 3 []) && is_number (get_or fs 4 []))))

abbrev head_in : (closed : Bool) → List (List ℕ) → (past : ℕ) → Option Head
head_in c fs z = cond (layout_in c fs) (Some (record { version = value (get_or fs 0 []); verdict = verdict_by (equal (get_or fs 1 []) lasso_word); stem = value (get_or fs 2 []); cycle = value (get_or fs 3 []); reached = value (get_or fs 4 []); next = z })) None

head_is : (s : List ℕ) (at : ℕ) {c : Bool} {fs : List (List ℕ)} {z : ℕ} → (line_here s at).closed ≡ c → fields (line_here s at).text ≡ fs → past_line s at ≡ z → head_here s at ≡ head_in c fs z
unfolding head_here head_of head_layout says_lasso says_empty number_at field
head_is s at {c} {fs} {z} hc hf hz =
    ap (λ (t : Bool). head_in t (fields (line_here s at).text) (past_line s at)) hc
    ∙ ap (λ (gs : List (List ℕ)). head_in c gs (past_line s at)) hf
    ∙ ap (λ (i : ℕ). head_in c fs i) hz

-- three numbers more
three_go : (c : Bool) (fs : List (List ℕ)) → ((c && eqb (suc (suc (length fs))) 5) && (is_number (get_or fs 0 []) && (is_number (get_or fs 1 []) && is_number (get_or fs 2 [])))) ≡ (c && (eqb (length fs) 3 && all_numbers fs))
unfolding all_numbers
three_go false fs = refl
three_go true [] = refl
three_go true (u ∷ []) = refl
three_go true (u ∷ v ∷ []) = refl
three_go true (u ∷ v ∷ w ∷ []) = rw (and-true (is_number w)) refl
three_go true (u ∷ v ∷ w ∷ x ∷ fs) = rw (ne_eqb (suc (suc (suc (suc (suc (suc (length fs))))))) 5 (λ q. omega arith), ne_eqb (suc (suc (suc (suc (length fs))))) 3 (λ q. omega arith)) refl

-- FOR THE READER of line 2: after the number the word, which a space must end
space_begins : (xs : List ℕ) → begins (space ∷ []) xs ≡ eqb (get_or xs 0 0) space
unfolding begins equal
space_begins [] = refl
space_begins (x ∷ xs) = and-true (eqb x space)

module _ {s : List ℕ} {at v p : ℕ} (g : Parted s at v p) {w : List ℕ} (is_w : w ≡ field_here s p) where
  spaces : begins (space ∷ []) (drop (p + length w) s) ≡ eqb (get_or s (p + length (field_here s p)) 0) space
  spaces =
      space_begins (drop (p + length w) s)
      ∙ ap (λ (b : ℕ). eqb b space) (get_or-drop (p + length w) s 0 0 ∙ ap (λ (i : ℕ). get_or s i 0) (let e : p + length w + 0 ≡ p + length (field_here s p) = omega (arith, ap length is_w) in e))

  pub head_unspaced : begins (space ∷ []) (drop (p + length w) s) ≡ false → None ≡ head_here s at
  head_unspaced h =
      sym
      (head_is s at refl g.pieces refl
      ∙ rw (short_go (line_here s at).closed (length (fields (line_here s p).text)) _ (fields_more s p ∙ sym spaces ∙ h)) refl)
    where
      short_go : (c : Bool) (n : ℕ) (r : Bool) → ltb 1 n ≡ false → ((c && eqb (suc n) 5) && r) ≡ false
      short_go c n r h = rw (ne_eqb (suc n) 5 (λ q. omega (arith, ltb-false 1 n h)), and-false c) refl

  word_is : get_or (fields (line_here s p).text) 0 [] ≡ w
  unfolding field
  word_is = sym is_w

  pub head_neither : equal w lasso_word ≡ false → equal w empty_word ≡ false → None ≡ head_here s at
  head_neither a b =
      sym
      (head_is s at refl g.pieces refl
      ∙ rw (word_is, a, b, and-false, and-false ((line_here s at).closed && eqb (suc (length (fields (line_here s p).text))) 5)) refl)

  module _ (h : begins (space ∷ []) (drop (p + length w) s) ≡ true) where
    next : Spaced s p (p + length w + 1)
    next =
        let e : p + suc (length (field_here s p)) ≡ p + length w + 1 = omega (arith, ap length is_w) in
        rw e at (spaced s p (eqb-true _ space (sym spaces ∙ h)))

    head_word : (b : Bool) → equal w lasso_word ≡ b → (equal w lasso_word || equal w empty_word) ≡ true → counts_here s (p + length w + 1) v (verdict_by b) ≡ head_here s at
    unfolding counts_here numbers_line number_at field
    head_word b e f =
        let fs = fields (line_here s (p + length w + 1)).text in
        sym
        (head_is s at (g.closed ∙ next.closed) (g.pieces ∙ ap (λ (gs : List (List ℕ)). field_here s at ∷ gs) (next.pieces ∙ ap (λ (u : List ℕ). u ∷ fs) (sym is_w))) (g.past ∙ next.past)
        ∙ rw (g.number, g.worth, f, e, three_go (line_here s (p + length w + 1)).closed fs) refl)

    pub head_lasso : equal w lasso_word ≡ true → counts_here s (p + length w + 1) v Lasso ≡ head_here s at
    head_lasso e = head_word true e (rw e refl)

    pub head_empty : equal w lasso_word ≡ false → equal w empty_word ≡ true → counts_here s (p + length w + 1) v Empty ≡ head_here s at
    head_empty e f = head_word false e (rw (e, f) refl)

pub head_torn : (s : List ℕ) (at : ℕ) {r : Option (Numbers 1)} → r ≡ leading_here s at → r ≡ None → None ≡ head_here s at
head_torn s at e f =
    let l = line_here s at in
    let fs = fields l.text in
    sym
    (head_is s at refl refl refl
    ∙ rw (go l.closed (length fs) (is_number (get_or fs 0 [])) (ltb 1 (length fs)) (equal (get_or fs 1 []) lasso_word || equal (get_or fs 1 []) empty_word) (is_number (get_or fs 2 []) && (is_number (get_or fs 3 []) && is_number (get_or fs 4 []))) refl (first_torn (leading_fault s at e f))) refl)
  where
    first_torn : (is_number (field_here s at) && ltb 1 (length (fields (line_here s at).text))) ≡ false → (is_number (get_or (fields (line_here s at).text) 0 []) && ltb 1 (length (fields (line_here s at).text))) ≡ false
    first_torn h = unfold field in h

    go : (c : Bool) (n : ℕ) (x t y r : Bool) → ltb 1 n ≡ t → (x && t) ≡ false → ((c && eqb n 5) && ((x && y) && r)) ≡ false
    go c n true true y r e h = cc
    go c n false true y r e h = and-false (c && eqb n 5)
    go c n x false y r e h = rw (ne_eqb n 5 (λ q. omega (arith, ltb-false 1 n e)), and-false c) refl
