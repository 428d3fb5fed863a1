-- Tables: what the lines of a block put into them, line by line, and what the whole file has put there. Assumes nothing.
use mathlib.Core.Path.{◌≡◌, refl, sym, ◌∙◌}
use mathlib.Core.Bool.{true, cond}
use mathlib.Core.List.{List, [], ◌∷◌}
use mathlib.Core.Option.{none}
use Prim.Native.Nat.{ℕ, zero, suc, ◌+◌, ◌≤◌, ◌<◌}
use native.Mathlib.Omega.{arith}
use native.Mathlib.Decide.{ℕ_discrete}
use lib.Dec.{eqb, lit<}
use lib.ListN.{length, get_or, set, drop}
use lib.Seq.{get_or-set_same, get_or-set_other}
use borrow.Author.Tests.{eq-eqb, ne_eqb, eqb-true}
use Rattle.std.specs.Prelude.{Result, Ok, Err}
use Rattle.text.specs.Lines.{lines}
use Rattle.text.specs.Reading.{skip}
use Rattle.text.proofs.Reading.{Row}
use Rattle.model.specs.Graph.{mark, edge}
use Rattle.model.specs.Case.{owner}
use Rattle.model.specs.CaseFile.{vertices_refusal, edges_refusal, case_refusal, accepted, case_in}
use Rattle.model.specs.Refusals.{refusal_of}
use Rattle.model.specs.declared.refusal.Refusal.{Refusal}
use Rattle.casefile.specs.Judging.{header, block_says, judged, head_refusal, counts_in, before_edges}
use Rattle.casefile.specs.Tables.{Took, line_number, right_lines, BlockRead, rows_taken, pairs_taken, CaseRead, Holds}
use Rattle.casefile.specs.declared.Case.{Case}
use Rattle.casefile.specs.declared.CaseTables.{CaseTables}
use Rattle.text.proofs.Places.{skip_none, skip_last, skip_lines, skip_line}
use Rattle.casefile.proofs.Whole.{Headed, Numbered, head_before, before_judged, before_zero, head_zero, taken}
use Rattle.casefile.proofs.Loading.{drop_line, parts, edges_counted, vertex_row, edge_row}

-- A TABLE takes value after value
pub took_none : (f : ℕ → ℕ) (t : List ℕ) → Took 0 f t t
took_none f t = record { front = λ i h g. absurd (omega arith); rest = λ i h. refl }

pub took_more : {k : ℕ} {f : ℕ → ℕ} {t u : List ℕ} → Took k f t u → length u ≡ length t → (x : ℕ) → x ≡ f k → Took (k + 1) f t (set u k x)
took_more {k} {f} {t} {u} p l x e = record { front = λ i h g. new i h g (ℕ_discrete i k); rest = λ i h. let n : i ≡ k → ⊥ = λ q. omega arith in get_or-set_other u k i x 0 n ∙ p.rest i (omega arith) }
  where
    new : (i : ℕ) → i < k + 1 → i < length t → Dec (i ≡ k) → get_or (set u k x) i 0 ≡ f i
    new i h g (yes q) = let b : k < length u = omega arith in rw (q, get_or-set_same u k x 0 b) e
    new i h g (no n) = get_or-set_other u k i x 0 n ∙ p.front i (omega arith) g

-- A BLOCK: k lines have been taken, and the next one is at here
pub record LinesTaken (s : List ℕ) (at i j here k : ℕ) (a₀ a b₀ b : List ℕ) : Type 0 where
  pub place : skip k s at ≡ here
  pub one : Took k (λ l. line_number s at l i) a₀ a
  pub two : Took k (λ l. line_number s at l j) b₀ b

pub lines_start : (s : List ℕ) (at i j : ℕ) (a b : List ℕ) → LinesTaken s at i j at 0 a a b b
lines_start s at i j a b = record { place = skip_none s at; one = took_none _ a; two = took_none _ b }

-- a row's numbers are those of its line
row_number : {s : List ℕ} {here : ℕ} {vs : List ℕ} {z : ℕ} (at k : ℕ) → skip k s at ≡ here → Row s here vs z → (i : ℕ) → i < length vs → get_or vs i 0 ≡ line_number s at k i
unfolding line_number
row_number {s} at k e r i h = sym (r.are i h) ∙ (rw (← e, skip_line k s at) refl)

module _ {s : List ℕ} {at i j here k : ℕ} {a₀ a b₀ b : List ℕ} (g : LinesTaken s at i j here k a₀ a b₀ b) {vs : List ℕ} {z : ℕ} (r : Row s here vs z) where
  pub lines_more : length a ≡ length a₀ → length b ≡ length b₀ → i < length vs → j < length vs → LinesTaken s at i j z (k + 1) a₀ (set a k (get_or vs i 0)) b₀ (set b k (get_or vs j 0))
  lines_more long_one long_two h l =
      record {
        place = skip_last k s at ∙ (rw g.place r.past);
        one = took_more g.one long_one _ (row_number at k g.place r i h);
        two = took_more g.two long_two _ (row_number at k g.place r j l);
      }

-- how many lines are right, by the refusals of the first k: v, where these have none and one line more has a fault
right_here : (f : ℕ → ℕ) (v n : ℕ) → f v ≡ 0 → ((k : ℕ) → v < k → f k ≡ 0 → ⊥) → v ≤ n → right_lines f n ≡ v
unfolding right_lines
right_here f v zero clean stop h = omega arith
right_here f v (suc n) clean stop h = go (ℕ_discrete v (suc n)) (λ l. right_here f v n clean stop l)
  where
    go : Dec (v ≡ suc n) → (v ≤ n → right_lines f n ≡ v) → cond (eqb (f (suc n)) 0) (suc n) (right_lines f n) ≡ v
    go (yes e) ih = let z : f (suc n) ≡ 0 = rw e at clean in rw (eq-eqb (f (suc n)) 0 z) (sym e)
    go (no e) ih = rw (ne_eqb (f (suc n)) 0 (stop (suc n) (omega arith))) (ih (omega arith))

right_all : (f : ℕ → ℕ) (n : ℕ) → f n ≡ 0 → right_lines f n ≡ n
unfolding right_lines
right_all f zero e = refl
right_all f (suc n) e = rw (eq-eqb (f (suc n)) 0 e) refl

-- a block's answer after v right lines: all there are, or the next one has a fault
module _ {s : List ℕ} {at i j here v : ℕ} {a₀ a b₀ b : List ℕ} (g : LinesTaken s at i j here v a₀ a b₀ b) {refusal : ℕ → ℕ} (clean : refusal v ≡ 0) {many : ℕ} where
  took : {r : Result ℕ Refusal} → r ≡ block_says (refusal many) many s at → right_lines refusal many ≡ v → BlockRead refusal many s at i j r a₀ a b₀ b
  took e l = record { answer = e; one = rw l g.one; two = rw l g.two }

  pub block_stops : v < many → {fault : ℕ} {e : Refusal} → e ≡ refusal_of (suc fault) → ((k : ℕ) → v < k → refusal k ≡ suc fault) → BlockRead refusal many s at i j (Err e) a₀ a b₀ b
  block_stops h {fault} {e} is stop =
      took (refused (refusal many) (stop many h)) (right_here refusal v many clean (λ k l e. omega (arith, stop k l)) (omega arith))
    where
      refused : (k : ℕ) → k ≡ suc fault → Err e ≡ block_says k many s at
      refused k q = unfold block_says in (rw (q, is, ne_eqb (suc fault) 0 (λ z. omega arith)) refl)

  pub block_ends : v ≡ many → BlockRead refusal many s at i j (Ok here) a₀ a b₀ b
  block_ends h = took (past (refusal many) (rw h at clean)) (right_all refusal many (rw h at clean) ∙ sym h)
    where
      past : (r : ℕ) → r ≡ 0 → Ok here ≡ block_says r many s at
      past r e = unfold block_says in (rw (e, ← h, g.place) refl)

-- THE WHOLE FILE: lines from a place on are lines of the file
line_same : (j : ℕ) (s : List ℕ) (l i : ℕ) → line_number s (skip j s 0) l i ≡ line_number s 0 (j + l) i
unfolding line_number
line_same j s l i = rw (skip_lines j s 0, drop_line j (lines s) l) refl

took_lines : (k j : ℕ) (s : List ℕ) (at i : ℕ) (t u : List ℕ) → skip j s 0 ≡ at → Took k (λ l. line_number s at l i) t u → Took k (λ l. line_number s 0 (j + l) i) t u
took_lines k j s at i t u e p = record { front = λ l h g. p.front l h g ∙ (rw (← e) (line_same j s l i)); rest = p.rest }

-- how many lines of the file are taken
rows_all : (s : List ℕ) → head_refusal s ≡ 0 → rows_taken s ≡ right_lines (λ k. vertices_refusal k 0 (counts_in s).workers (drop 3 (lines s))) (counts_in s).vertices
unfolding rows_taken
rows_all s e = rw e refl

rows_none : (s : List ℕ) → (head_refusal s ≡ 0 → ⊥) → rows_taken s ≡ 0
unfolding rows_taken
rows_none s n = rw (ne_eqb (head_refusal s) 0 n) refl

pairs_all : (s : List ℕ) → before_edges s ≡ 0 → pairs_taken s ≡ right_lines (λ k. edges_refusal k (counts_in s).vertices none (drop (4 + (counts_in s).vertices) (lines s))) (counts_in s).edges
unfolding pairs_taken
pairs_all s e = rw e refl

pairs_none : (s : List ℕ) → (before_edges s ≡ 0 → ⊥) → pairs_taken s ≡ 0
unfolding pairs_taken
pairs_none s n = rw (ne_eqb (before_edges s) 0 n) refl

-- nothing is taken where the first three lines are refused
pub none_read : {s : List ℕ} {e : Refusal} → Numbered e (head_refusal s) → (t : CaseTables) → CaseRead s (Err e) t t
none_read {s} n t =
    let r = rows_none s n.some in
    let p = pairs_none s (head_before s n).some in
    record {
      answer = before_judged s (head_before s n);
      mark_table = rw r (took_none _ t.marks.now);
      owner_table = rw r (took_none _ t.owners.now);
      from_table = rw p (took_none _ t.froms.now);
      to_table = rw p (took_none _ t.tos.now);
    }

rows_are : {s : List ℕ} {n m u p rows : ℕ} → Headed s n m u p rows → rows_taken s ≡ right_lines (λ k. vertices_refusal k 0 p (lines (drop rows s))) n
rows_are {s} h = rows_all s h.right ∙ (unfold counts_in in (rw (← h.place, skip_lines 3 s 0, h.counts.vertices, h.counts.workers) refl))

module _ {s : List ℕ} {n m u p rows : ℕ} (h : Headed s n m u p rows) {r : Result ℕ Refusal} {old new : CaseTables}
    (v : BlockRead (λ k. vertices_refusal k 0 p (lines (drop rows s))) n s rows 1 2 r old.marks.now new.marks.now old.owners.now new.owners.now) where
  -- a fault before the edge lines
  pub rows_read : {e : Refusal} → Numbered e (before_edges s) → new.froms.now ≡ old.froms.now → new.tos.now ≡ old.tos.now → CaseRead s (Err e) old new
  rows_read z froms tos =
      let q = pairs_none s z.some in
      record {
        answer = before_judged s z;
        mark_table = rw (rows_are h) (took_lines _ 3 s rows 1 _ _ h.place v.one);
        owner_table = rw (rows_are h) (took_lines _ 3 s rows 2 _ _ h.place v.two);
        from_table = rw (q, froms) (took_none _ old.froms.now);
        to_table = rw (q, tos) (took_none _ old.tos.now);
      }

  pub case_read : {rest : ℕ} {q : Result ℕ Refusal} → before_edges s ≡ 0 → rest ≡ skip (4 + n) s 0
      → (g : BlockRead (λ k. edges_refusal k n none (lines (drop rest s))) m s rest 0 1 q old.froms.now new.froms.now old.tos.now new.tos.now)
      → {a : Result Case Refusal} → a ≡ judged s → CaseRead s a old new
  case_read {rest} right place g e =
      record {
        answer = e;
        mark_table = rw (rows_are h) (took_lines _ 3 s rows 1 _ _ h.place v.one);
        owner_table = rw (rows_are h) (took_lines _ 3 s rows 2 _ _ h.place v.two);
        from_table = rw (pairs_are, vertices) (took_lines _ (4 + n) s rest 0 _ _ (sym place) g.one);
        to_table = rw (pairs_are, vertices) (took_lines _ (4 + n) s rest 1 _ _ (sym place) g.two);
      }
    where
      vertices : (counts_in s).vertices ≡ n
      vertices = unfold counts_in in h.counts.vertices

      pairs_are : pairs_taken s ≡ right_lines (λ k. edges_refusal k n none (lines (drop rest s))) m
      pairs_are = pairs_all s right ∙ (unfold counts_in in (rw (place, skip_lines (4 + n) s 0, h.counts.vertices, h.counts.edges) refl))

-- all lines of an accepted text
all_taken : (s : List ℕ) → accepted s ≡ true → (rows_taken s ≡ (case_in s).graph.vertices) × (pairs_taken s ≡ length (case_in s).graph.edges)
unfolding counts_in case_in
all_taken s a =
    let b = before_zero s (eqb-true (case_refusal s) 0 (unfold accepted in a)) in
    let p = parts s a in
    (rows_all s (head_zero s b) ∙ right_all _ _ p.vertices, pairs_all s b ∙ right_all _ _ p.edges ∙ sym (edges_counted s a))

-- an accepted text's case stands in tables that have room for it
module _ {s : List ℕ} {r : Result Case Refusal} {old new : CaseTables} (g : CaseRead s r old new) {c : Case} (e : r ≡ Ok c) where
  accepts : (accepted s ≡ true) × (c ≡ header s)
  accepts = taken s g.answer e

  whole : (rows_taken s ≡ (case_in s).graph.vertices) × (pairs_taken s ≡ length (case_in s).graph.edges)
  whole = all_taken s accepts.0

  -- number i of the line of vertex v, and of edge k
  vertex_number : (v : ℕ) → v < (case_in s).graph.vertices → (i : ℕ) → i < 3 → line_number s 0 (3 + v) i ≡ get_or (v ∷ mark (case_in s).graph v ∷ owner (case_in s) v ∷ []) i 0
  vertex_number v h i l = sym (row_number (skip 3 s 0) v refl (vertex_row s accepts.0 v h) i l ∙ line_same 3 s v i)

  edge_number : (k : ℕ) → k < length (case_in s).graph.edges → (i : ℕ) → i < 2 → line_number s 0 (4 + (case_in s).graph.vertices + k) i ≡ get_or ((edge (case_in s).graph k).from ∷ (edge (case_in s).graph k).to ∷ []) i 0
  edge_number k h i l = sym (row_number (skip (4 + (case_in s).graph.vertices) s 0) k refl (edge_row s accepts.0 k h) i l ∙ line_same (4 + (case_in s).graph.vertices) s k i)

  pub mark_held : (case_in s).graph.vertices ≤ length old.marks.now → (v : ℕ) → v < (case_in s).graph.vertices → get_or new.marks.now v 0 ≡ mark (case_in s).graph v
  mark_held room v h = g.mark_table.front v (omega (arith, whole.0)) (omega arith) ∙ vertex_number v h 1 (lit< tt)

  pub owner_held : (case_in s).graph.vertices ≤ length old.owners.now → (v : ℕ) → v < (case_in s).graph.vertices → get_or new.owners.now v 0 ≡ owner (case_in s) v
  owner_held room v h = g.owner_table.front v (omega (arith, whole.0)) (omega arith) ∙ vertex_number v h 2 (lit< tt)

  pub from_held : length (case_in s).graph.edges ≤ length old.froms.now → (k : ℕ) → k < length (case_in s).graph.edges → get_or new.froms.now k 0 ≡ (edge (case_in s).graph k).from
  unfolding counts_in case_in
  from_held room k h = g.from_table.front k (omega (arith, whole.1)) (omega arith) ∙ edge_number k h 0 (lit< tt)

  pub to_held : length (case_in s).graph.edges ≤ length old.tos.now → (k : ℕ) → k < length (case_in s).graph.edges → get_or new.tos.now k 0 ≡ (edge (case_in s).graph k).to
  unfolding counts_in case_in
  to_held room k h = g.to_table.front k (omega (arith, whole.1)) (omega arith) ∙ edge_number k h 1 (lit< tt)

  pub held : (case_in s).graph.vertices ≤ length old.marks.now → (case_in s).graph.vertices ≤ length old.owners.now → length (case_in s).graph.edges ≤ length old.froms.now → length (case_in s).graph.edges ≤ length old.tos.now → Holds (case_in s) new.marks.now new.owners.now new.froms.now new.tos.now
  held a b c d = record { mark_at = mark_held a; owner_at = owner_held b; from_at = from_held c; to_at = to_held d }
