-- Rows: the answers' texts as what is written one after the other. Assumes nothing.
use mathlib.Core.Path.{◌≡◌, refl, sym, ap, ◌∙◌}
use mathlib.Core.List.{List, [], ◌∷◌, ◌++◌, append_assoc, append-nil}
use mathlib.Core.Option.{Option, none, some}
use Prim.Native.Nat.{ℕ, suc, ◌+◌, ◌≤◌, ◌<◌}
use native.Mathlib.Nat.{add-zero}
use native.Mathlib.Numerals.{add-one}
use native.Mathlib.Omega.{arith}
use lib.ListN.{length, get_or, take, length-append}
use lib.Seq.{take-suc, take_all, length-take-le}
use Rattle.text.specs.Ascii.{ascii}
use Rattle.text.specs.Lines.{put_first, fields, joined, text}
use Rattle.text.specs.Numbers.{digits, decimal, signed_decimal}
use Rattle.text.proofs.Rows.{text_append}
use Rattle.model.specs.Case.{answer_version}
use Rattle.model.specs.Run.{distance}
use Rattle.model.specs.Answer.{answer_names, lasso_names, empty_names, lasso_word, empty_word, head_row, edge_rows, lasso_text, vertex_rows, empty_text}
use Rattle.search.specs.Writing.{head_text}

-- rows after rows
edge_rows_append : (es fs : List ℕ) → edge_rows (es ++ fs) ≡ edge_rows es ++ edge_rows fs
unfolding edge_rows
edge_rows_append [] fs = refl
edge_rows_append (e ∷ es) fs = ap (λ (l : List (List (List ℕ))). (decimal e ∷ []) ∷ l) (edge_rows_append es fs)

vertex_rows_append : (v : ℕ) (ds bs : List (Option ℕ)) → vertex_rows v (ds ++ bs) ≡ vertex_rows v ds ++ vertex_rows (v + length ds) bs
unfolding vertex_rows
vertex_rows_append v [] bs = rw (add-zero v)
vertex_rows_append v (none ∷ ds) bs = let e : v + suc (length ds) ≡ suc v + length ds = omega arith in rw e (vertex_rows_append (suc v) ds bs)
vertex_rows_append v (some d ∷ ds) bs =
    let e : v + suc (length ds) ≡ suc v + length ds = omega arith in
    rw e (ap (λ (l : List (List (List ℕ))). (decimal v ∷ signed_decimal (distance d) ∷ []) ∷ l) (vertex_rows_append (suc v) ds bs))

-- EDGES, one more at a time
edge_row : (e : ℕ) → text (edge_rows (e ∷ [])) ≡ decimal e ++ (10 ∷ [])
unfolding edge_rows text joined
edge_row e = refl

pub edges_none : (es : List ℕ) → text (edge_rows (take 0 es)) ≡ []
unfolding edge_rows text
edges_none es = refl

pub edges_more : (es : List ℕ) (i : ℕ) → i < length es → text (edge_rows (take i es)) ++ (decimal (get_or es i 0) ++ (10 ∷ [])) ≡ text (edge_rows (take (i + 1) es))
edges_more es i h =
    let a : take (i + 1) es ≡ take i es ++ (get_or es i 0 ∷ []) = rw (add-one i) (take-suc es i 0 h) in
    sym (ap (λ (l : List ℕ). text (edge_rows l)) a ∙ ap text (edge_rows_append (take i es) (get_or es i 0 ∷ []))
    ∙ text_append (edge_rows (take i es)) (edge_rows (get_or es i 0 ∷ [])) ∙ ap (λ (l : List ℕ). text (edge_rows (take i es)) ++ l) (edge_row (get_or es i 0)))

pub edges_all : (es : List ℕ) (i : ℕ) → length es ≤ i → text (edge_rows (take i es)) ≡ text (edge_rows es)
edges_all es i h = rw (take_all i es h) refl

-- VERTICES, one more at a time
rows_more : (ds : List (Option ℕ)) (v : ℕ) → v < length ds → vertex_rows 0 (take (v + 1) ds) ≡ vertex_rows 0 (take v ds) ++ vertex_rows v (get_or ds v none ∷ [])
rows_more ds v h =
    let a : take (v + 1) ds ≡ take v ds ++ (get_or ds v none ∷ []) = rw (add-one v) (take-suc ds v none h) in
    let b : 0 + length (take v ds) ≡ v = omega (arith, length-take-le v ds (omega arith)) in
    ap (vertex_rows 0) a ∙ vertex_rows_append 0 (take v ds) (get_or ds v none ∷ []) ∙ ap (λ (i : ℕ). vertex_rows 0 (take v ds) ++ vertex_rows i (get_or ds v none ∷ [])) b

pub vertices_none : (ds : List (Option ℕ)) → text (vertex_rows 0 (take 0 ds)) ≡ []
unfolding vertex_rows text
vertices_none ds = refl

pub vertices_more : (ds : List (Option ℕ)) (v : ℕ) → v < length ds
    → text (vertex_rows 0 (take v ds)) ++ text (vertex_rows v (get_or ds v none ∷ [])) ≡ text (vertex_rows 0 (take (v + 1) ds))
vertices_more ds v h = sym (ap text (rows_more ds v h) ∙ text_append (vertex_rows 0 (take v ds)) (vertex_rows v (get_or ds v none ∷ [])))

pub vertices_all : (ds : List (Option ℕ)) (v : ℕ) → length ds ≤ v → text (vertex_rows 0 (take v ds)) ≡ text (vertex_rows 0 ds)
vertices_all ds v h = rw (take_all v ds h) refl

pub no_vertex_line : (v : ℕ) → text (vertex_rows v (none ∷ [])) ≡ []
unfolding vertex_rows text
no_vertex_line v = refl

line_joined : (v s d t : List ℕ) → (v ++ s) ++ (d ++ t) ≡ (v ++ (s ++ d)) ++ t
line_joined v s d t = simp append_assoc

pub vertex_line : (v d : ℕ) → (decimal v ++ (32 ∷ [])) ++ (signed_decimal (distance d) ++ (10 ∷ [])) ≡ text (vertex_rows v (some d ∷ []))
unfolding vertex_rows text joined
vertex_line v d = line_joined (decimal v) (32 ∷ []) (signed_decimal (distance d)) (10 ∷ [])

-- how many
pub rows_none : (ds : List (Option ℕ)) → length (vertex_rows 0 (take 0 ds)) ≡ 0
unfolding vertex_rows
rows_none ds = refl

pub rows_same : (ds : List (Option ℕ)) (v : ℕ) → v < length ds → get_or ds v none ≡ none → length (vertex_rows 0 (take (v + 1) ds)) ≡ length (vertex_rows 0 (take v ds))
unfolding vertex_rows
rows_same ds v h e = ap length (rows_more ds v h) ∙ rw e (rw (append-nil (vertex_rows 0 (take v ds))) refl)

pub rows_one : (ds : List (Option ℕ)) (v d : ℕ) → v < length ds → get_or ds v none ≡ some d → length (vertex_rows 0 (take (v + 1) ds)) ≡ length (vertex_rows 0 (take v ds)) + 1
unfolding vertex_rows
rows_one ds v d h e = ap length (rows_more ds v h) ∙ rw e (length-append (vertex_rows 0 (take v ds)) ((decimal v ∷ signed_decimal (distance d) ∷ []) ∷ []))

pub rows_all : (ds : List (Option ℕ)) (v : ℕ) → length ds ≤ v → length (vertex_rows 0 (take v ds)) ≡ length (vertex_rows 0 ds)
rows_all ds v h = rw (take_all v ds h) refl

-- THE HEAD
decimal_version : decimal answer_version ≡ 50 ∷ []
unfolding decimal digits
decimal_version = refl

head_joined : (w s a b r t : List ℕ) → w ++ s ++ (a ++ s) ++ (b ++ s) ++ (r ++ t) ≡ (w ++ (s ++ (a ++ (s ++ (b ++ (s ++ r)))))) ++ t
head_joined w s a b r t = simp append_assoc

pub head_parts : (w : List ℕ) (s k r : ℕ)
    → ascii "version verdict stem cycle reached\n" ++ (decimal answer_version ++ (32 ∷ [])) ++ w ++ (32 ∷ []) ++ (decimal s ++ (32 ∷ [])) ++ (decimal k ++ (32 ∷ [])) ++ (decimal r ++ (10 ∷ [])) ≡ head_text w s k r
unfolding head_text text joined fields put_first head_row
head_parts w s k r =
    rw decimal_version (ap (λ (l : List ℕ). ascii "version verdict stem cycle reached\n2 " ++ l) (head_joined w (32 ∷ []) (decimal s) (decimal k) (decimal r) (10 ∷ [])))

-- THE ANSWERS
four : (a b c d : List ℕ) → a ++ b ++ c ++ d ≡ a ++ (b ++ (c ++ d))
four a b c d = simp append_assoc

edges_both : (ss es : List ℕ) → text (edge_rows (ss ++ es)) ≡ text (edge_rows ss) ++ text (edge_rows es)
edges_both ss es = ap text (edge_rows_append ss es) ∙ text_append (edge_rows ss) (edge_rows es)

edge_names : (rs : List (List (List ℕ))) → text (fields lasso_names ∷ rs) ≡ ascii "edge\n" ++ text rs
unfolding text joined fields put_first
edge_names rs = refl

vertex_names : (rs : List (List (List ℕ))) → text (fields empty_names ∷ rs) ≡ ascii "vertex distance\n" ++ text rs
unfolding text joined fields put_first
vertex_names rs = refl

pub lasso_parts : (ss es : List ℕ) → head_text lasso_word (length ss) (length es) 0 ++ ascii "edge\n" ++ text (edge_rows ss) ++ text (edge_rows es) ≡ lasso_text ss es
unfolding lasso_text head_text
lasso_parts ss es =
    let head = fields answer_names ∷ head_row lasso_word (length ss) (length es) 0 ∷ [] in
    four (text head) (ascii "edge\n") (text (edge_rows ss)) (text (edge_rows es))
    ∙ ap (λ (l : List ℕ). text head ++ l) (sym (edge_names (edge_rows (ss ++ es)) ∙ ap (λ (l : List ℕ). ascii "edge\n" ++ l) (edges_both ss es)))
    ∙ sym (text_append head (fields lasso_names ∷ edge_rows (ss ++ es)))

pub empty_parts : (ds : List (Option ℕ)) → head_text empty_word 0 0 (length (vertex_rows 0 ds)) ++ ascii "vertex distance\n" ++ text (vertex_rows 0 ds) ≡ empty_text ds
unfolding empty_text head_text
empty_parts ds =
    let head = fields answer_names ∷ head_row empty_word 0 0 (length (vertex_rows 0 ds)) ∷ [] in
    append_assoc (text head) (ascii "vertex distance\n") (text (vertex_rows 0 ds)) ∙ ap (λ (l : List ℕ). text head ++ l) (sym (vertex_names (vertex_rows 0 ds)))
    ∙ sym (text_append head (fields empty_names ∷ vertex_rows 0 ds))
