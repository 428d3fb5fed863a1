-- An accepted text is what its case is written as: each of its lines is the row that is written for it.
use mathlib.Core.Path.{◌≡◌, refl, sym, ap, ◌∙◌}
use mathlib.Core.Bool.{Bool, true, false, ◌&&◌, not}
use mathlib.Core.List.{List, [], ◌∷◌, ◌++◌}
use mathlib.Core.Option.{Option, none, some}
use Prim.Native.Nat.{ℕ, zero, suc, ◌+◌, ◌≤◌}
use native.Mathlib.Omega.{arith}
use lib.Dec.{ltb, leb, eqb}
use lib.ListN.{length, get_or, take, drop, take-append-drop, length-drop}
use lib.Seq.{drop-drop, take_all}
use borrow.Author.Tests.{not-false, ltb-false, leb-true, eqb-true}
use Rattle.text.specs.Lines.{Line, closed_line, lines, line_at, line_is, fields, field, equal, joined, text}
use Rattle.text.specs.Numbers.{is_number, value, all_numbers, numbers_line, number_at, decimal}
use Rattle.model.specs.Graph.{Edge}
use Rattle.model.specs.Case.{known_version}
use Rattle.model.specs.CaseFile.{head_names, vertex_names, edge_names, other_version, vertex_good, vertices_refusal, edge_of, rises, edges_refusal, case_refusal, accepted, column, edges_in, case_in}
use Rattle.model.specs.CaseText.{counts_row, mark_rows, end_rows, case_file, all_rise}
use Rattle.model.specs.ProductPromise.{OnlyFile}
use Rattle.text.proofs.Tests.{Same, same?, and_both, both_true, clash, same, other}
use Rattle.text.proofs.Lines.{equal_true}
use Rattle.text.proofs.Rows.{row_lines, rows_append}
use Rattle.text.proofs.Unique.{number_decimal, joined_fields, all_closed, unlines, unlines_lines}
use Rattle.model.proofs.Accepting.{first_zero, refuse_zero, refuse_not, no_line}

-- ROWS as lines
text_rows : (rs : List (List (List ℕ))) → text rs ≡ unlines (row_lines rs)
unfolding text unlines row_lines
text_rows [] = refl
text_rows (r ∷ rs) = ap (λ (l : List ℕ). joined r ++ 10 ∷ l) (text_rows rs)

rows_closed : (rs : List (List (List ℕ))) → all_closed (row_lines rs) ≡ true
unfolding all_closed row_lines
rows_closed [] = refl
rows_closed (r ∷ rs) = rows_closed rs

-- A LINE OF NUMBERS is the row of their decimals
unfoldable rewritten : List (List ℕ) → List (List ℕ)
rewritten [] = []
rewritten (w ∷ ws) = decimal (value w) ∷ rewritten ws

as_written : (ws : List (List ℕ)) → all_numbers ws ≡ true → rewritten ws ≡ ws
unfolding rewritten all_numbers
as_written [] n = refl
as_written (w ∷ ws) n =
    let p = and_both (is_number w) (all_numbers ws) n in
    ap (λ (x : List ℕ). x ∷ rewritten ws) (number_decimal w p.0) ∙ ap (λ (l : List (List ℕ)). w ∷ l) (as_written ws p.1)

record Numbers (k : ℕ) (l : Line) : Type 0 where
  closed : l.closed ≡ true
  many : length (fields l.text) ≡ k
  row : l.text ≡ joined (rewritten (fields l.text))

numbers : (k : ℕ) (l : Line) → numbers_line k l ≡ true → Numbers k l
unfolding numbers_line
numbers k l n =
    let p = and_both l.closed (eqb (length (fields l.text)) k && all_numbers (fields l.text)) n in
    let q = and_both (eqb (length (fields l.text)) k) (all_numbers (fields l.text)) p.1 in
    record {
      closed = p.0;
      many = eqb-true (length (fields l.text)) k q.0;
      row = sym (joined_fields l.text) ∙ ap joined (sym (as_written (fields l.text) q.1));
    }

two : (ws : List (List ℕ)) → length ws ≡ 2 → rewritten ws ≡ decimal (value (get_or ws 0 [])) ∷ decimal (value (get_or ws 1 [])) ∷ []
unfolding rewritten
two [] e = absurd (omega arith)
two (a ∷ []) e = absurd (omega arith)
two (a ∷ b ∷ []) e = refl
two (a ∷ b ∷ c ∷ ws) e = absurd (omega arith)

three : (ws : List (List ℕ)) → length ws ≡ 3 → rewritten ws ≡ decimal (value (get_or ws 0 [])) ∷ decimal (value (get_or ws 1 [])) ∷ decimal (value (get_or ws 2 [])) ∷ []
unfolding rewritten
three [] e = absurd (omega arith)
three (a ∷ ws) e = go ws (two ws (omega arith)) e
  where
    go : (ws : List (List ℕ)) → rewritten ws ≡ decimal (value (get_or ws 0 [])) ∷ decimal (value (get_or ws 1 [])) ∷ [] → length (a ∷ ws) ≡ 3
        → rewritten (a ∷ ws) ≡ decimal (value a) ∷ decimal (value (get_or ws 0 [])) ∷ decimal (value (get_or ws 1 [])) ∷ []
    go ws r e = unfold rewritten in (ap (λ (l : List (List ℕ)). decimal (value a) ∷ l) r)

five : (ws : List (List ℕ)) → length ws ≡ 5
    → rewritten ws ≡ decimal (value (get_or ws 0 [])) ∷ decimal (value (get_or ws 1 [])) ∷ decimal (value (get_or ws 2 [])) ∷ decimal (value (get_or ws 3 [])) ∷ decimal (value (get_or ws 4 [])) ∷ []
unfolding rewritten
five [] e = absurd (omega arith)
five (a ∷ []) e = absurd (omega arith)
five (a ∷ b ∷ ws) e = ap (λ (l : List (List ℕ)). decimal (value a) ∷ decimal (value b) ∷ l) (three ws (omega arith))

-- a closed line of these bytes
closed_is : (l : Line) (t : List ℕ) → l.closed ≡ true → l.text ≡ t → l ≡ closed_line t
closed_is l t c e = ap (λ (x : List ℕ). record { text = x; closed = l.closed }) e ∙ ap (λ (b : Bool). record { text = t; closed = b }) c

row2 : (l : Line) → numbers_line 2 l ≡ true → l ≡ closed_line (joined (decimal (number_at l 0) ∷ decimal (number_at l 1) ∷ []))
unfolding number_at field
row2 l n = let p = numbers 2 l n in closed_is l _ p.closed (p.row ∙ ap joined (two (fields l.text) p.many))

row3 : (l : Line) → numbers_line 3 l ≡ true → l ≡ closed_line (joined (decimal (number_at l 0) ∷ decimal (number_at l 1) ∷ decimal (number_at l 2) ∷ []))
unfolding number_at field
row3 l n = let p = numbers 3 l n in closed_is l _ p.closed (p.row ∙ ap joined (three (fields l.text) p.many))

row5 : (l : Line) → numbers_line 5 l ≡ true
    → l ≡ closed_line (joined (decimal (number_at l 0) ∷ decimal (number_at l 1) ∷ decimal (number_at l 2) ∷ decimal (number_at l 3) ∷ decimal (number_at l 4) ∷ []))
unfolding number_at field
row5 l n = let p = numbers 5 l n in closed_is l _ p.closed (p.row ∙ ap joined (five (fields l.text) p.many))

-- a line of names
names : (t : List ℕ) (l : Line) → line_is t l ≡ true → l ≡ closed_line (joined (fields t))
unfolding line_is
names t l e = let p = and_both l.closed (equal l.text t) e in closed_is l (joined (fields t)) p.0 (equal_true l.text t p.1 ∙ sym (joined_fields t))

-- THE BLOCKS
number_is : (l : Line) (v p : ℕ) → vertex_good v p l ≡ true → number_at l 0 ≡ v
unfolding vertex_good
number_is l v p g = eqb-true (number_at l 0) v (and_both (eqb (number_at l 0) v) (ltb (number_at l 1) 2 && ltb (number_at l 2) p) g).0

vertex_lines : (k v p : ℕ) (ls : List Line) → vertices_refusal k v p ls ≡ 0 → row_lines (mark_rows v (column 1 (take k ls)) (column 2 (take k ls))) ≡ take k ls
unfolding vertices_refusal column mark_rows row_lines line_at
vertex_lines zero v p ls e = refl
vertex_lines (suc k) v p [] e = absurd (no_line 3 (unfold line_at in (refuse_not _ 3 (first_zero _ _ e).0)))
vertex_lines (suc k) v p (l ∷ ls) e =
    let a = (first_zero _ _ e).1 in
    let i = number_is l v p (refuse_not _ 5 (first_zero _ _ a).0) in
    let n = row3 l (refuse_not _ 3 (first_zero _ _ e).0) in
    let r = vertex_lines k (suc v) p ls (first_zero _ _ (first_zero _ _ a).1).0 in
    ap (λ (x : Line). x ∷ row_lines (mark_rows (suc v) (column 1 (take k ls)) (column 2 (take k ls))))
    (ap (λ (u : ℕ). closed_line (joined (decimal u ∷ decimal (number_at l 1) ∷ decimal (number_at l 2) ∷ []))) (sym i) ∙ sym n)
    ∙ ap (λ (x : List Line). l ∷ x) r

edge_lines : (k n : ℕ) (b : Option Edge) (ls : List Line) → edges_refusal k n b ls ≡ 0 → row_lines (end_rows (edges_in (take k ls))) ≡ take k ls
unfolding edges_refusal edges_in edge_of end_rows row_lines line_at
edge_lines zero n b ls e = refl
edge_lines (suc k) n b [] e = absurd (no_line 2 (unfold line_at in (refuse_not _ 3 (first_zero _ _ e).0)))
edge_lines (suc k) n b (l ∷ ls) e =
    let a = (first_zero _ _ e).1 in
    let q = row2 l (refuse_not _ 3 (first_zero _ _ e).0) in
    let r = edge_lines k n (some (edge_of l)) ls (first_zero _ _ (first_zero _ _ (first_zero _ _ a).1).1).0 in
    ap (λ (x : Line). x ∷ row_lines (end_rows (edges_in (take k ls)))) (sym q) ∙ ap (λ (x : List Line). l ∷ x) r

edges_many : (k n : ℕ) (b : Option Edge) (ls : List Line) → edges_refusal k n b ls ≡ 0 → length (edges_in (take k ls)) ≡ k
unfolding edges_refusal edges_in
edges_many zero n b ls e = refl
edges_many (suc k) n b [] e = absurd (no_line 2 (refuse_not _ 3 (first_zero _ _ e).0))
edges_many (suc k) n b (l ∷ ls) e =
    ap suc (edges_many k n (some (edge_of (line_at (l ∷ ls) 0))) ls (first_zero _ _ (first_zero _ _ (first_zero _ _ (first_zero _ _ e).1).1).1).0)

-- THE WHOLE: a line that is closed is there
there : (ls : List Line) (i : ℕ) → (line_at ls i).closed ≡ true → drop i ls ≡ line_at ls i ∷ drop (suc i) ls
unfolding line_at
there [] zero c = clash false c refl
there [] (suc i) c = clash false c refl
there (l ∷ ls) zero c = refl
there (l ∷ ls) (suc i) c = there ls i c

closed_names : (t : List ℕ) (l : Line) → line_is t l ≡ true → l.closed ≡ true
unfolding line_is
closed_names t l e = (and_both l.closed (equal l.text t) e).0

first_number : (l : Line) → numbers_line 5 l ≡ true → is_number (field l 0) ≡ true
unfolding numbers_line field
first_number l n = go (fields l.text) (and_both l.closed (eqb (length (fields l.text)) 5 && all_numbers (fields l.text)) n).1
  where
    go : (ws : List (List ℕ)) → (eqb (length ws) 5 && all_numbers ws) ≡ true → is_number (get_or ws 0 []) ≡ true
    go [] e = clash false (and_both (eqb 0 5) true e).0 refl
    go (w ∷ ws) e = unfold all_numbers in (and_both (is_number w) (all_numbers ws) (and_both (eqb (suc (length ws)) 5) (is_number w && all_numbers ws) e).1).0

version_is : (ls : List Line) → other_version known_version ls ≡ false → numbers_line 5 (line_at ls 1) ≡ true → number_at (line_at ls 1) 0 ≡ known_version
unfolding other_version number_at
version_is ls o n = go (same? (value (field (line_at ls 1) 0)) known_version) (first_number (line_at ls 1) n) o
  where
    w : List ℕ
    w = field (line_at ls 1) 0

    go : Same (value (field (line_at ls 1) 0)) known_version → is_number (field (line_at ls 1) 0) ≡ true
        → (is_number (field (line_at ls 1) 0) && not (leb 1 (value (field (line_at ls 1) 0)) && leb (value (field (line_at ls 1) 0)) known_version)) ≡ false → value (field (line_at ls 1) 0) ≡ known_version
    go (same e) i o = e
    go (other x) i o =
        let v = value (field (line_at ls 1) 0) in
        let p = and_both (leb 1 v) (leb v known_version) (not-false (leb 1 v && leb v known_version) (rw i at o)) in
        absurd (x (omega (arith, leb-true 1 v p.0, leb-true v known_version p.1)))

-- the lines of a text whose blocks are those
record Whole (ls : List Line) (n m : ℕ) : Type 0 where
  head : line_is head_names (line_at ls 0) ≡ true
  counts : numbers_line 5 (line_at ls 1) ≡ true
  vertices : line_is vertex_names (line_at ls 2) ≡ true
  edges : line_is edge_names (line_at ls (3 + n)) ≡ true
  most : length ls ≤ 4 + n + m

cut : (ls : List Line) (n m : ℕ) → Whole ls n m
    → ls ≡ line_at ls 0 ∷ line_at ls 1 ∷ line_at ls 2 ∷ take n (drop 3 ls) ++ (line_at ls (3 + n) ∷ take m (drop (4 + n) ls))
cut ls n m w =
    let a = there ls 0 (closed_names head_names (line_at ls 0) w.head) in
    let b = there ls 1 (numbers 5 (line_at ls 1) w.counts).closed in
    let c = there ls 2 (closed_names vertex_names (line_at ls 2) w.vertices) in
    let d = there ls (3 + n) (closed_names edge_names (line_at ls (3 + n)) w.edges) in
    let e : suc (3 + n) ≡ 4 + n = omega arith in
    let l : length (drop (4 + n) ls) ≤ m = rw (length-drop (4 + n) ls) (omega (arith, w.most)) in
    let f : drop (3 + n) ls ≡ line_at ls (3 + n) ∷ take m (drop (4 + n) ls) = d ∙ ap (λ (k : ℕ). line_at ls (3 + n) ∷ drop k ls) e ∙ ap (λ (x : List Line). line_at ls (3 + n) ∷ x) (sym (take_all m (drop (4 + n) ls) l)) in
    let g : drop 3 ls ≡ take n (drop 3 ls) ++ (line_at ls (3 + n) ∷ take m (drop (4 + n) ls)) = sym (take-append-drop n (drop 3 ls)) ∙ ap (λ (x : List Line). take n (drop 3 ls) ++ x) (drop-drop n 3 ls ∙ f) in
    a ∙ ap (λ (x : List Line). line_at ls 0 ∷ x) (b ∙ ap (λ (x : List Line). line_at ls 1 ∷ x) (c ∙ ap (λ (x : List Line). line_at ls 2 ∷ x) g))

-- the rows that are written are these lines
join5 : {a b c e a' b' c' e' : Line} {v w v' w' : List Line} → a ≡ a' → b ≡ b' → c ≡ c' → v ≡ v' → e ≡ e' → w ≡ w'
    → a ∷ b ∷ c ∷ v ++ (e ∷ w) ≡ a' ∷ b' ∷ c' ∷ v' ++ (e' ∷ w')
join5 {a = a} {b = b} {c = c} {e = e} {a' = a'} {b' = b'} {c' = c'} {e' = e'} {v = v} {w = w} {v' = v'} {w' = w'} p q r s t u =
    ap (λ (x : Line). x ∷ b ∷ c ∷ v ++ (e ∷ w)) p ∙ ap (λ (x : Line). a' ∷ x ∷ c ∷ v ++ (e ∷ w)) q ∙ ap (λ (x : Line). a' ∷ b' ∷ x ∷ v ++ (e ∷ w)) r
    ∙ ap (λ (x : List Line). a' ∷ b' ∷ c' ∷ x ++ (e ∷ w)) s ∙ ap (λ (x : Line). a' ∷ b' ∷ c' ∷ v' ++ (x ∷ w)) t ∙ ap (λ (x : List Line). a' ∷ b' ∷ c' ∷ v' ++ (e' ∷ x)) u

-- line 2 by its numbers
counts_line : (l : Line) (a b c d e : ℕ) → numbers_line 5 l ≡ true → a ≡ number_at l 0 → b ≡ number_at l 1 → c ≡ number_at l 2 → d ≡ number_at l 3 → e ≡ number_at l 4
    → closed_line (joined (decimal a ∷ decimal b ∷ decimal c ∷ decimal d ∷ decimal e ∷ [])) ≡ l
counts_line l a b c d e n p q r s t = rw (p, q, r, s, t) (sym (row5 l n))

rows_whole : (ls : List Line) (n m p s : ℕ) → let h = line_at ls 1 in let vs = take n (drop 3 ls) in let es = take m (drop (4 + n) ls) in
    number_at h 1 ≡ n → number_at h 2 ≡ m → number_at h 3 ≡ s → number_at h 4 ≡ p
    → line_is head_names (line_at ls 0) ≡ true → numbers_line 5 h ≡ true → line_is vertex_names (line_at ls 2) ≡ true
    → vertices_refusal n 0 p (drop 3 ls) ≡ 0 → line_is edge_names (line_at ls (3 + n)) ≡ true → edges_refusal m n none (drop (4 + n) ls) ≡ 0
    → number_at h 0 ≡ known_version → length (edges_in es) ≡ m
    → row_lines (fields head_names ∷ (decimal known_version ∷ decimal n ∷ decimal (length (edges_in es)) ∷ decimal s ∷ decimal p ∷ []) ∷ fields vertex_names
    ∷ mark_rows 0 (column 1 vs) (column 2 vs) ++ (fields edge_names ∷ end_rows (edges_in es)))
    ≡ line_at ls 0 ∷ h ∷ line_at ls 2 ∷ vs ++ (line_at ls (3 + n) ∷ es)
unfolding row_lines
rows_whole ls n m p s en em es ep a b c d f g v k =
    let vs = take n (drop 3 ls) in
    let es' = take m (drop (4 + n) ls) in
    ap (λ (x : List Line). closed_line (joined (fields head_names)) ∷ closed_line (joined (decimal known_version ∷ decimal n ∷ decimal (length (edges_in es')) ∷ decimal s ∷ decimal p ∷ [])) ∷ closed_line (joined (fields vertex_names)) ∷ x)
    (rows_append (mark_rows 0 (column 1 vs) (column 2 vs)) (fields edge_names ∷ end_rows (edges_in es')))
    ∙ join5 (sym (names head_names (line_at ls 0) a)) (counts_line (line_at ls 1) known_version n (length (edges_in es')) s p b (sym v) (sym en) (k ∙ sym em) (sym es) (sym ep))
    (sym (names vertex_names (line_at ls 2) c)) (vertex_lines n 0 p (drop 3 ls) d) (sym (names edge_names (line_at ls (3 + n)) f)) (edge_lines m n none (drop (4 + n) ls) g)

pub only_file : OnlyFile
unfolding OnlyFile accepted case_refusal case_in case_file counts_row
only_file bs e =
    let ls = lines bs in
    let h = line_at ls 1 in
    let n = number_at h 1 in
    let m = number_at h 2 in
    let r0 : case_refusal bs ≡ 0 = eqb-true (case_refusal bs) 0 e in
    let r2 = (first_zero _ _ (first_zero _ _ r0).1).1 in
    let o = refuse_zero _ 2 (first_zero _ _ r2).0 in
    let r3 = (first_zero _ _ r2).1 in
    let hc = and_both (line_is head_names (line_at ls 0)) (numbers_line 5 h) (refuse_not _ 3 (first_zero _ _ r3).0) in
    let r5 = (first_zero _ _ (first_zero _ _ r3).1).1 in
    let vn = refuse_not _ 3 (first_zero _ _ r5).0 in
    let r6 = (first_zero _ _ r5).1 in
    let vs = (first_zero _ _ r6).0 in
    let r7 = (first_zero _ _ r6).1 in
    let en = refuse_not _ 3 (first_zero _ _ r7).0 in
    let r8 = (first_zero _ _ r7).1 in
    let es = (first_zero _ _ r8).0 in
    let z = ltb-false (4 + n + m) (length ls) (refuse_zero _ 3 (first_zero _ _ (first_zero _ _ r8).1).0) in
    let whole : Whole ls n m = record { head = hc.0; counts = hc.1; vertices = vn; edges = en; most = z } in
    let k = edges_many m n none (drop (4 + n) ls) es in
    let rows = rows_whole ls n m (number_at h 4) (number_at h 3) refl refl refl refl hc.0 hc.1 vn vs en es (version_is ls o hc.1) k in
    let same_lines = rows ∙ sym (cut ls n m whole) in
    text_rows _ ∙ ap unlines same_lines ∙ unlines_lines bs (ap all_closed (sym same_lines) ∙ rows_closed _)

-- its edges rise
edges_rise : (k n : ℕ) (b : Option Edge) (ls : List Line) → edges_refusal k n b ls ≡ 0 → all_rise b (edges_in (take k ls)) ≡ true
unfolding edges_refusal edges_in all_rise line_at
edges_rise zero n b ls e = refl
edges_rise (suc k) n b [] e = refl
edges_rise (suc k) n b (l ∷ ls) e =
    let a = (first_zero _ _ (first_zero _ _ e).1).1 in
    both_true (rises b (edge_of l)) (all_rise (some (edge_of l)) (edges_in (take k ls))) (refuse_not _ 7 (first_zero _ _ a).0) (edges_rise k n (some (edge_of l)) ls (first_zero _ _ (first_zero _ _ a).1).0)

pub accepted_rise : (bs : List ℕ) → accepted bs ≡ true → all_rise none (case_in bs).graph.edges ≡ true
unfolding accepted case_refusal case_in
accepted_rise bs e =
    let r0 : case_refusal bs ≡ 0 = eqb-true (case_refusal bs) 0 e in
    let r4 = (first_zero _ _ (first_zero _ _ (first_zero _ _ (first_zero _ _ r0).1).1).1).1 in
    let r8 = (first_zero _ _ (first_zero _ _ (first_zero _ _ (first_zero _ _ r4).1).1).1).1 in
    edges_rise _ _ none _ (first_zero _ _ r8).0
