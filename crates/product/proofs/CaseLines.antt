-- A case file out of tables: line by line, and as its four parts. Assumes nothing.
use mathlib.Core.Path.{◌≡◌, refl, sym, ap, ◌∙◌}
use mathlib.Core.List.{List, [], ◌∷◌, ◌++◌, append_assoc}
use Prim.Native.Nat.{ℕ, suc, ◌+◌, ◌≤◌, ◌<◌}
use native.Mathlib.Numerals.{add-one}
use native.Mathlib.Omega.{arith}
use lib.ListN.{length, get_or, drop, drop_of_length-le}
use lib.Seq.{drop-cons}
use Rattle.text.specs.Ascii.{ascii}
use Rattle.text.specs.Lines.{put_first, fields, joined, text}
use Rattle.text.specs.Numbers.{digits, decimal}
use Rattle.text.specs.Writing.{Writes, Puts, Chain}
use Rattle.text.specs.declared.write.Writer.{Writer}
use Rattle.text.proofs.Chains.{puts, puts_as, puts_then, Still, still_step, still_end, field_puts}
use Rattle.text.proofs.Rows.{text_append}
use Rattle.std.proofs.lemmas.List.{length-map}
use Rattle.model.specs.Graph.{Edge}
use Rattle.model.specs.Case.{known_version}
use Rattle.model.specs.CaseFile.{head_names, vertex_names, edge_names}
use Rattle.model.specs.CaseText.{counts_row, mark_rows, end_rows, case_file}
use Rattle.product.specs.Tables.{edge_of, edges_of, tabled, head_text}
use Rattle.product.specs.declared.table.Ends.{Ends}

-- a line as its fields, each with the byte that ends it
two_fields : (a b : List ℕ) → (a ++ (32 ∷ [])) ++ (b ++ (10 ∷ [])) ≡ text ((a ∷ b ∷ []) ∷ [])
unfolding joined text
two_fields a b = simp append_assoc

three_fields : (a b c : List ℕ) → (a ++ (32 ∷ [])) ++ (b ++ (32 ∷ [])) ++ (c ++ (10 ∷ [])) ≡ text ((a ∷ b ∷ c ∷ []) ∷ [])
unfolding joined text
three_fields a b c = simp append_assoc

-- THE HEAD
decimal_one : decimal 1 ≡ 49 ∷ []
unfolding decimal digits
decimal_one = refl

head_joined : (s n m v w t k : List ℕ) → (n ++ s) ++ ((m ++ s) ++ ((v ++ s) ++ ((w ++ t) ++ k))) ≡ (n ++ (s ++ (m ++ (s ++ (v ++ (s ++ w)))))) ++ (t ++ k)
head_joined s n m v w t k = simp append_assoc

six : (a b c d e f : List ℕ) → a ++ b ++ c ++ d ++ e ++ f ≡ a ++ (b ++ (c ++ (d ++ (e ++ f))))
six a b c d e f = simp append_assoc

pub head_parts : (n m s p : ℕ)
    → ascii "version vertices edges source workers\n1 " ++ (decimal n ++ (32 ∷ [])) ++ (decimal m ++ (32 ∷ [])) ++ (decimal s ++ (32 ∷ [])) ++ (decimal p ++ (10 ∷ [])) ++ ascii "vertex accepting owner\n" ≡ head_text n m s p
unfolding head_text text joined fields put_first
head_parts n m s p =
    rw decimal_one
    (six (ascii "version vertices edges source workers\n1 ") (decimal n ++ (32 ∷ [])) (decimal m ++ (32 ∷ [])) (decimal s ++ (32 ∷ [])) (decimal p ++ (10 ∷ [])) (ascii "vertex accepting owner\n")
    ∙ ap (λ (l : List ℕ). ascii "version vertices edges source workers\n1 " ++ l) (head_joined (32 ∷ []) (decimal n) (decimal m) (decimal s) (decimal p) (10 ∷ []) (ascii "vertex accepting owner\n")))

-- VERTEX LINES: what is left from v on
abbrev marks_left : (ms os : List ℕ) → (v : ℕ) → List ℕ
marks_left ms os v = text (mark_rows v (drop v ms) (drop v os))

marks_next : (ms os : List ℕ) (v : ℕ) → v < length ms → v < length os → marks_left ms os v ≡ text ((decimal v ∷ decimal (get_or ms v 0) ∷ decimal (get_or os v 0) ∷ []) ∷ []) ++ marks_left ms os (suc v)
unfolding mark_rows
marks_next ms os v a b =
    rw (drop-cons ms v 0 a, drop-cons os v 0 b)
    (text_append ((decimal v ∷ decimal (get_or ms v 0) ∷ decimal (get_or os v 0) ∷ []) ∷ []) (mark_rows (suc v) (drop (suc v) ms) (drop (suc v) os)))

marks_done : (ms os : List ℕ) (v : ℕ) → length ms ≤ v → marks_left ms os v ≡ []
unfolding mark_rows text
marks_done ms os v h = rw (drop_of_length-le ms h) refl

pub record VerticesLeft (ms os : List ℕ) (v : ℕ) (o z : Writer) : Type 0 where
  pub same : z.output.ghost_name ≡ o.output.ghost_name
  pub still : Still (text (mark_rows 0 ms os)) o (marks_left ms os v) z

pub vertices_step : {v : ℕ} {ms os : List ℕ} {o w x y z : Writer} → VerticesLeft ms os v o w → v < length ms → length os ≡ length ms
    → Chain (decimal v ∷ (32 ∷ []) ∷ []) w x → Chain (decimal (get_or ms v 0) ∷ (32 ∷ []) ∷ []) x y → Chain (decimal (get_or os v 0) ∷ (10 ∷ []) ∷ []) y z
    → z.output.ghost_name ≡ w.output.ghost_name → VerticesLeft ms os (v + 1) o z
vertices_step {v} {ms} {os} l h e f g k n =
    let line = puts_as (three_fields (decimal v) (decimal (get_or ms v 0)) (decimal (get_or os v 0))) (puts_then (puts_then (field_puts v 32 f) (field_puts (get_or ms v 0) 32 g)) (field_puts (get_or os v 0) 10 k)) in
    record { same = n ∙ l.same; still = rw (add-one v) (still_step l.still (marks_next ms os v h (omega arith)) line) }

pub vertices_end : {v : ℕ} {ms os : List ℕ} {o z : Writer} → VerticesLeft ms os v o z → length ms ≤ v → Puts (text (mark_rows 0 ms os)) o z
vertices_end {v} {ms} {os} l h = still_end l.still (marks_done ms os v h)

-- EDGE LINES: what is left from e on
abbrev pub ends_left : (edges : List Ends) → (e : ℕ) → List ℕ
ends_left es e = text (end_rows (edges_of (drop e es)))

ends_next : (es : List Ends) (e : ℕ) (d : Ends) → e < length es → ends_left es e ≡ text ((decimal (get_or es e d).from ∷ decimal (get_or es e d).to ∷ []) ∷ []) ++ ends_left es (suc e)
unfolding end_rows
ends_next es e d h = rw (drop-cons es e d h) (text_append ((decimal (get_or es e d).from ∷ decimal (get_or es e d).to ∷ []) ∷ []) (end_rows (edges_of (drop (suc e) es))))

ends_done : (es : List Ends) (e : ℕ) → length es ≤ e → ends_left es e ≡ []
unfolding end_rows text
ends_done es e h = rw (drop_of_length-le es h) refl

pub record EdgesLeft (es : List Ends) (e : ℕ) (o z : Writer) : Type 0 where
  pub same : z.output.ghost_name ≡ o.output.ghost_name
  pub still : Still (ends_left es 0) o (ends_left es e) z

pub edges_step : {e : ℕ} {es : List Ends} {o x y z : Writer} (d : Ends) → EdgesLeft es e o x → e < length es
    → Chain (decimal (get_or es e d).from ∷ (32 ∷ []) ∷ []) x y → Chain (decimal (get_or es e d).to ∷ (10 ∷ []) ∷ []) y z
    → z.output.ghost_name ≡ x.output.ghost_name → EdgesLeft es (e + 1) o z
edges_step {e} {es} d l h f g n =
    let line = puts_as (two_fields (decimal (get_or es e d).from) (decimal (get_or es e d).to)) (puts_then (field_puts (get_or es e d).from 32 f) (field_puts (get_or es e d).to 10 g)) in
    record { same = n ∙ l.same; still = rw (add-one e) (still_step l.still (ends_next es e d h) line) }

pub edges_end : {e : ℕ} {es : List Ends} {o z : Writer} → EdgesLeft es e o z → length es ≤ e → Puts (ends_left es 0) o z
edges_end {e} {es} l h = still_end l.still (ends_done es e h)

-- THE WHOLE
names_line : (rs : List (List (List ℕ))) → text (fields edge_names ∷ rs) ≡ ascii "from to\n" ++ text rs
unfolding text joined fields put_first
names_line rs = refl

four : (a b c d : List ℕ) → a ++ b ++ c ++ d ≡ a ++ (b ++ (c ++ d))
four a b c d = simp append_assoc

case_parts : (s p : ℕ) (ms os : List ℕ) (es : List Edge)
    → head_text (length ms) (length es) s p ++ text (mark_rows 0 ms os) ++ ascii "from to\n" ++ text (end_rows es) ≡ case_file (tabled s p ms os es)
unfolding case_file tabled head_text counts_row
case_parts s p ms os es =
    let rows = mark_rows 0 ms os in
    let ends = end_rows es in
    let head = fields head_names ∷ (decimal known_version ∷ decimal (length ms) ∷ decimal (length es) ∷ decimal s ∷ decimal p ∷ []) ∷ fields vertex_names ∷ [] in
    four (text head) (text rows) (ascii "from to\n") (text ends)
    ∙ sym (text_append head (rows ++ (fields edge_names ∷ ends)) ∙ ap (λ (l : List ℕ). text head ++ l) (text_append rows (fields edge_names ∷ ends) ∙ ap (λ (l : List ℕ). text rows ++ l) (names_line ends)))

pub case_says : (s p : ℕ) (ms os : List ℕ) (es : List Ends) {o w x y z : Writer} → Puts (head_text (length ms) (length es) s p) o w
    → Puts (text (mark_rows 0 ms os)) w x → Writes (ascii "from to\n") x y → Puts (text (end_rows (edges_of es))) y z
    → Puts (case_file (tabled s p ms os (edges_of es))) o z
case_says s p ms os es f g h k =
    let e : head_text (length ms) (length es) s p ≡ head_text (length ms) (length (edges_of es)) s p = ap (λ (m : ℕ). head_text (length ms) m s p) (sym (length-map es edge_of)) in
    puts_as (case_parts s p ms os (edges_of es)) (puts_then (puts_then (puts_then (puts_as e f) g) (puts h)) k)
