-- Edge lines read one by one, as a walk: what is left to read decides as the whole does; and a lasso of two walks.
-- Assumes nothing.
use mathlib.Core.Path.{◌≡◌, refl, sym, ap, ◌∙◌}
use mathlib.Core.Bool.{Bool, true, false, ◌&&◌, ◌||◌, not, cond, and-false, and-true, or-false}
use mathlib.Core.List.{List, [], ◌∷◌}
use Prim.Native.Nat.{ℕ, zero, suc, ◌+◌, ◌-◌, ◌≤◌, ◌<◌}
use native.Mathlib.Omega.{arith}
use native.Mathlib.Nat.{suc-add, zero-add}
use lib.Dec.{ltb, leb, eqb}
use lib.ListN.{length, get_or, take, drop}
use lib.Seq.{drop-drop}
use borrow.Author.Tests.{lt-ltb, le-ltb, le-leb}
use Rattle.text.proofs.Tests.{and_assoc}
use Rattle.std.specs.Prelude.{Result, Ok, Err}
use Rattle.text.specs.Lines.{Line, lines, line_at}
use Rattle.text.specs.Numbers.{numbers_line, number_at}
use Rattle.text.specs.Reading.{line_here, skip}
use Rattle.text.proofs.Reading.{Row, NoRow, row_rest}
use Rattle.model.specs.Graph.{Graph, edge, mark, is_walk, walk_end, leaves_accepting, is_lasso}
use Rattle.model.specs.CaseFile.{refuse, first_of, column}
use Rattle.model.specs.Passing.{listed_edges_refusal}
use Rattle.text.proofs.Places.{skip_none, skip_first, skip_add}
use Rattle.casefile.proofs.Refusals.{first_one, first_decides}
use Rattle.model.specs.Answer.{lasso_verdict}
use Rattle.model.specs.Refusals.{number}
use Rattle.model.specs.declared.refusal.Refusal.{Refusal}
use Rattle.model.specs.declared.refusal.Refusal.TheVariants.{AnswerLayout, NotShown}
use Rattle.model.specs.declared.verdict.Verdict.{Verdict}
use Rattle.model.specs.declared.verdict.Verdict.TheVariants.{Lasso}
use Rattle.checker.specs.Checking.{Told, Tables, WalkRead, WalkSays, edge_lines_refusal}
use Rattle.checker.specs.declared.walk.Walk.{Walk}
use Rattle.checker.specs.declared.tables.Graph as code
use Rattle.checker.proofs.Tells.{told_fault, told_pass}
use Rattle.checker.proofs.Ends.{rest_lines, more_lines, no_more_lines}

-- ONE LINE of so many
edges_step : (k m : ℕ) (ls : List Line) → let l = line_at ls 0 in
    listed_edges_refusal (suc k) m ls ≡ cond (numbers_line 1 l) (cond (ltb (number_at l 0) m) (listed_edges_refusal k m (drop 1 ls)) 13) 12
unfolding listed_edges_refusal refuse first_of
edges_step k m ls = go (numbers_line 1 (line_at ls 0)) (ltb (number_at (line_at ls 0) 0) m) (listed_edges_refusal k m (drop 1 ls))
  where
    go : (a b : Bool) (r : ℕ) → first_of (refuse (not a) 12 ∷ refuse (not b) 13 ∷ r ∷ []) ≡ cond a (cond b r 13) 12
    go true true r = first_one r
    go true false r = refl
    go false b r = refl

column_step : (j : ℕ) (ls : List Line) → numbers_line 1 (line_at ls 0) ≡ true → column 0 (take (suc j) ls) ≡ number_at (line_at ls 0) 0 ∷ column 0 (take j (drop 1 ls))
unfolding column line_at numbers_line
column_step j [] h = cc
column_step j (l ∷ ls) h = refl

-- x lines and y lines more
both_go : (a b : Bool) (p q r : ℕ) → p ≡ first_of (q ∷ r ∷ []) → cond a (cond b p 13) 12 ≡ first_of (cond a (cond b q 13) 12 ∷ r ∷ [])
unfolding first_of
both_go true true p q r h = h
both_go true false p q r h = refl
both_go false b p q r h = refl

edges_both : (x y m : ℕ) (ls : List Line) → listed_edges_refusal (x + y) m ls ≡ first_of (listed_edges_refusal x m ls ∷ listed_edges_refusal y m (drop x ls) ∷ [])
unfolding listed_edges_refusal
edges_both zero y m ls = rw (zero-add y) (sym (unfold first_of in (first_one (listed_edges_refusal y m ls))))
edges_both (suc x) y m ls =
    let d : drop (suc x) ls ≡ drop x (drop 1 ls) = sym (drop-drop x 1 ls ∙ ap (λ (j : ℕ). drop j ls) (let z : 1 + x ≡ suc x = omega arith in z)) in
    rw (suc-add x y, edges_step (x + y) m ls, edges_step x m ls, d)
    (both_go (numbers_line 1 (line_at ls 0)) (ltb (number_at (line_at ls 0) 0) m) _ _ _ (edges_both x y m (drop 1 ls)))

-- THE WALK so far, and what is left of it
pub record Going (g : Graph) (start : ℕ) (es rest : List ℕ) (w : Walk) : Type 0 where
  pub walk : is_walk g start es ≡ (w.joined && is_walk g w.end rest)
  pub end : walk_end g start es ≡ walk_end g w.end rest
  pub leaves : leaves_accepting g es ≡ (w.marked || leaves_accepting g rest)

pub record Walking (s : List ℕ) (at k start : ℕ) (t : code.Graph) (i : ℕ) (w : Walk) : Type 0 where
  pub left : listed_edges_refusal (k - i) t.case.edges (lines (drop w.next s)) ≡ listed_edges_refusal k t.case.edges (lines (drop at s))
  pub place : skip (k - i) s w.next ≡ skip k s at
  pub going : (g : Graph) → Tables g t → Going g start (column 0 (take k (lines (drop at s)))) (column 0 (take (k - i) (lines (drop w.next s)))) w

pub walking_start : (s : List ℕ) (at k start : ℕ) (t : code.Graph) → Walking s at k start t 0 (record { end = start; joined = true; marked = false; next = at })
walking_start s at k start t =
    let e : k - 0 ≡ k = omega arith in
    record { left = rw e refl; place = rw e refl; going = λ g t. record { walk = rw e refl; end = rw e refl; leaves = rw e refl } }

or_shift : (x y z : Bool) → (x || (y || z)) ≡ ((x || y) || z)
or_shift true y z = refl
or_shift false y z = refl

-- the walk after one edge more, whose line is before z
unfoldable pub after : code.Graph → Walk → (e z : ℕ) → Walk
after t w e z =
    let u = get_or t.froms.now e 0 in
    record { end = get_or t.tos.now e 0; joined = w.joined && eqb u w.end; marked = w.marked || leb 1 (get_or t.marks.now u 0); next = z }

going_on : {g : Graph} {t : code.Graph} {start : ℕ} {es rest : List ℕ} {w : Walk} → Tables g t → (e z : ℕ) → e < t.case.edges → Going g start es (e ∷ rest) w → Going g start es rest (after t w e z)
unfolding is_walk walk_end leaves_accepting after
going_on {g} {t} {start} {es} {rest} {w} x e z h y =
    let l : ltb e (length g.edges) ≡ true = lt-ltb e (length g.edges) (omega (arith, x.many)) in
    let f = x.from_at e h in
    let o = x.to_at e h in
    let k : get_or t.marks.now (get_or t.froms.now e 0) 0 ≡ mark g (edge g e).from = ap (λ (u : ℕ). get_or t.marks.now u 0) f ∙ x.mark_at e h in
    record {
      walk = y.walk ∙ rw (l, ← f, ← o) (and_assoc w.joined (eqb (get_or t.froms.now e 0) w.end) (is_walk g (get_or t.tos.now e 0) rest));
      end = y.end ∙ rw (← o) refl;
      leaves = y.leaves ∙ rw (← k) (or_shift w.marked (leb 1 (get_or t.marks.now (get_or t.froms.now e 0) 0)) (leaves_accepting g rest));
    }

module _ {s : List ℕ} {at k start : ℕ} {t : code.Graph} {i : ℕ} {w : Walk} (r : Walking s at k start t i w) where
  pub walking_end : k ≤ i → WalkSays s at k start t (Ok w)
  unfolding listed_edges_refusal column is_walk walk_end leaves_accepting
  walking_end h =
      let z : k - i ≡ 0 = omega arith in
      record {
        right = sym r.left ∙ rw z refl;
        place = sym r.place ∙ (rw z (skip_none s w.next));
        went = λ g t.
            let x = r.going g t in
            record { walk = x.walk ∙ rw z (and-true w.joined); end = x.end ∙ rw z refl; leaves = x.leaves ∙ rw z (or-false w.marked) };
      }

  module _ (h : i < k) where
    fewer : k - i ≡ suc (k - (i + 1))
    fewer = omega arith

    next : let l = line_here s w.next in listed_edges_refusal k t.case.edges (lines (drop at s))
        ≡ cond (numbers_line 1 l) (cond (ltb (number_at l 0) t.case.edges) (listed_edges_refusal (k - (i + 1)) t.case.edges (drop 1 (lines (drop w.next s)))) 13) 12
    next = sym r.left ∙ (rw fewer (edges_step (k - (i + 1)) t.case.edges (lines (drop w.next s))))

    pub walking_torn : NoRow 1 s w.next → WalkSays s at k start t (Err AnswerLayout)
    walking_torn b = (next ∙ (rw b.none refl), omega arith)

    module _ {e z : ℕ} (l : Row s w.next (e ∷ []) z) where
      pub walking_out : t.case.edges ≤ e → WalkSays s at k start t (Err NotShown)
      walking_out b = (next ∙ (rw (l.line, l.are 0 (omega arith), le-ltb e t.case.edges b) refl), omega arith)

      listed : column 0 (take (k - i) (lines (drop w.next s))) ≡ e ∷ column 0 (take (k - (i + 1)) (lines (drop z s)))
      listed = rw (fewer, column_step (k - (i + 1)) (lines (drop w.next s)) l.line, l.are 0 (omega arith), row_rest l) refl

      pub walking_on : e < t.case.edges → Walking s at k start t (i + 1) (after t w e z)
      unfolding after
      walking_on b = record {
        left = sym (next ∙ (rw (l.line, l.are 0 (omega arith), lt-ltb e t.case.edges b, ← row_rest l) refl));
        place = rw (← l.past, ← skip_first (k - (i + 1)) s w.next, ← fewer) r.place;
        going = λ g x. going_on x e z b (rw listed at (r.going g x));
      }

-- A LASSO of stem and cycle
leaves_long : (g : Graph) (es : List ℕ) → leaves_accepting g es ≡ true → leb 1 (length es) ≡ true
unfolding leaves_accepting
leaves_long g [] h = cc
leaves_long g (e ∷ es) h = le-leb 1 (suc (length es)) (omega arith)

long_go : (x y marked long : Bool) → (marked ≡ true → long ≡ true) → (x && (long && (y && marked))) ≡ (x && (y && marked))
long_go x y true long h = rw (h refl) refl
long_go x y false long h = rw (and-false y, and-false long) refl

lasso_parts : (g : Graph) (ss es : List ℕ) (u₀ u v : ℕ) (joined round marked : Bool) → g.source ≡ u₀ → is_walk g u₀ ss ≡ joined → walk_end g u₀ ss ≡ u → is_walk g u es ≡ round → walk_end g u es ≡ v
    → leaves_accepting g es ≡ marked → is_lasso g ss es ≡ ((joined && round) && (eqb v u && marked))
unfolding is_lasso
lasso_parts g ss es u₀ u v joined round marked e a b d f l =
    ap
    (λ (x : ℕ). (is_walk g x ss && is_walk g (walk_end g x ss) es) && (leb 1 (length es) && (eqb (walk_end g (walk_end g x ss) es) (walk_end g x ss) && leaves_accepting g es)))
    e
    ∙ rw (a, b, d, f, l) (long_go (joined && round) (eqb v u) marked (leb 1 (length es)) (λ q. leaves_long g es (l ∙ q)))

-- what the lines of stem and cycle tell
abbrev pub LinesSay : (text : List ℕ) → (at stem cycle : ℕ) → code.Graph → Result Verdict Refusal → Type 0
LinesSay s at x y t r = (g : Graph) → Tables g t → Told (edge_lines_refusal g x y (lines (drop at s))) lasso_verdict r

module _ (s : List ℕ) (at x y : ℕ) {t : code.Graph} where
  pub stem_refused : {e : Refusal} → WalkSays s at x t.case.source t (Err e) → LinesSay s at x y t (Err e)
  unfolding edge_lines_refusal
  stem_refused {e} h g a =
      let nz : number e ≡ 0 → ⊥ = λ q. omega (arith, h.1) in
      told_fault e (sym (rw (a.many, edges_both x y t.case.edges (lines (drop at s)), h.0, first_decides (number e) (listed_edges_refusal y t.case.edges (drop x (lines (drop at s))) ∷ []) nz) (first_decides (number e) _ nz))) h.1

  module _ {w : Walk} (a : WalkRead s at x t.case.source t w) where
    rest : drop x (lines (drop at s)) ≡ lines (drop w.next s)
    rest = sym (rest_lines x s at w.next a.place)

    both : listed_edges_refusal (x + y) t.case.edges (lines (drop at s)) ≡ listed_edges_refusal y t.case.edges (lines (drop w.next s))
    both =
        edges_both x y t.case.edges (lines (drop at s))
        ∙ (rw (a.right, rest) (unfold first_of in (first_one (listed_edges_refusal y t.case.edges (lines (drop w.next s))))))

    pub cycle_refused : {e : Refusal} → WalkSays s w.next y w.end t (Err e) → LinesSay s at x y t (Err e)
    unfolding edge_lines_refusal
    cycle_refused {e} h g b = told_fault e (sym (rw (b.many, both, h.0) (first_decides (number e) _ (λ q. omega (arith, h.1))))) h.1

    module _ {v : Walk} (b : WalkRead s w.next y w.end t v) where
      end_is : skip (x + y) s at ≡ v.next
      end_is = skip_add x y s at ∙ (rw a.place b.place)

      lasso_is : (g : Graph) → Tables g t
          → is_lasso g (column 0 (take x (lines (drop at s)))) (column 0 (take y (lines (drop w.next s)))) ≡ ((w.joined && v.joined) && (eqb v.end w.end && v.marked))
      lasso_is g c =
          let p = a.went g c in
          let q = b.went g c in
          lasso_parts g (column 0 (take x (lines (drop at s)))) (column 0 (take y (lines (drop w.next s)))) t.case.source w.end v.end w.joined v.joined v.marked c.source p.walk p.end q.walk q.end q.leaves

      pub lasso_trailed : v.next < length s → LinesSay s at x y t (Err AnswerLayout)
      unfolding edge_lines_refusal
      lasso_trailed h g c = told_fault AnswerLayout (sym (rw (c.many, both, b.right, more_lines (x + y) s at v.next end_is h) (unfold refuse first_of in refl))) (omega arith)

      module _ (h : length s ≤ v.next) {r : Bool} (is_r : r ≡ ((w.joined && v.joined) && (eqb v.end w.end && v.marked))) where
        pub lasso_passes : r ≡ true → LinesSay s at x y t (Ok Lasso)
        unfolding edge_lines_refusal
        lasso_passes q g c = told_pass Lasso (rw (c.many, both, b.right, no_more_lines (x + y) s at v.next end_is h, rest, lasso_is g c, ← is_r, q) (unfold refuse first_of in refl))

        pub lasso_fails : r ≡ false → LinesSay s at x y t (Err NotShown)
        unfolding edge_lines_refusal
        lasso_fails q g c =
            told_fault NotShown (sym (rw (c.many, both, b.right, no_more_lines (x + y) s at v.next end_is h, rest, lasso_is g c, ← is_r, q) (unfold refuse first_of in refl))) (omega arith)
