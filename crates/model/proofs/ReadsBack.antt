-- What a case is written as is accepted, and read back as that case. Numbers of up to 4 digits are allowed for, so larger
-- limits move nothing here.
use mathlib.Core.Path.{◌≡◌, refl, sym, ap, subst, ◌∙◌}
use mathlib.Core.Bool.{true, ◌&&◌}
use mathlib.Core.List.{List, [], ◌∷◌, ◌++◌}
use mathlib.Core.Option.{Option, none, some}
use Prim.Native.Nat.{ℕ, suc, ◌+◌, ◌*◌, ◌^◌, ◌≤◌, ◌<◌}
use native.Mathlib.Omega.{arith}
use lib.Dec.{ltb, leb}
use borrow.Author.Tests.{lt-ltb, le-ltb, le-leb, eq-eqb}
use lib.ListN.{length, get_or, take, drop, length-append}
use lib.Seq.{take_at, get_or_at, take_all, drop-append-add}
use Rattle.text.specs.Lines.{Line, closed_line, lines, line_at, put_first, fields, field, equal, begins, line_is, joined, text}
use Rattle.text.specs.Numbers.{numbers_line, number_at, decimal}
use Rattle.model.specs.Graph.{Edge, edge}
use Rattle.model.specs.Case.{Case, most_vertices, most_edges, most_workers, longest_file, known_version, Sound, Within, owner}
use Rattle.model.specs.CaseFile.{head_names, vertex_names, edge_names, begins_version, counts_good, vertex_good, vertices_refusal, edge_of, edge_good, rises, edges_refusal, case_refusal, accepted, column, edges_in, case_in}
use Rattle.model.specs.CaseText.{counts_row, mark_rows, end_rows, case_file, all_rise}
use Rattle.model.specs.ProductPromise.{ReadsBack}
use Rattle.text.proofs.Tests.{and_both, both_true}
use Rattle.text.proofs.Lines.{equal_same}
use Rattle.text.proofs.Unique.{joined_fields}
use Rattle.text.proofs.Rows.{Plain, AllPlain, plain_append, row_lines, rows_append, lines_text, field_row, AllBelow, decimals, decimals_plain, row_numbers, row_number, row_short}
use Rattle.model.proofs.Accepting.{zero_first, first_none, zero_refuse, not_refuse}
use Rattle.model.proofs.Fits.{text_length}
use Rattle.model.proofs.CheckerComplete.{free_of, is_plain, plain_by, version_known, length_lines}

-- VERTEX LINES, with what follows them
record Marked (v p : ℕ) (ms os : List ℕ) : Type 0 where
  few : v + length ms ≤ 10000
  workers : p ≤ 10000
  many : length os ≡ length ms
  mark : (i : ℕ) → i < length ms → get_or ms i 0 < 2
  owner : (i : ℕ) → i < length ms → get_or os i 0 < p

marked_row : {v p m o : ℕ} {ms os : List ℕ} → Marked v p (m ∷ ms) (o ∷ os) → AllBelow 10000 (v ∷ m ∷ o ∷ [])
marked_row h = (omega (arith, h.few), (omega (arith, h.mark 0 (omega arith)), (omega (arith, h.workers, h.owner 0 (omega arith)), tt)))

marked_rest : {v p m o : ℕ} {ms os : List ℕ} → Marked v p (m ∷ ms) (o ∷ os) → Marked (suc v) p ms os
marked_rest h =
    record {
      few = omega (arith, h.few);
      workers = h.workers;
      many = omega (arith, h.many);
      mark = λ i l. h.mark (suc i) (omega arith);
      owner = λ i l. h.owner (suc i) (omega arith);
    }

widen : (ns : List ℕ) → AllBelow 10000 ns → AllBelow (10 ^ 9) ns
widen [] a = tt
widen (n ∷ ns) a = (omega (arith, a.0), widen ns a.1)

abbrev vertex_line : (v mark owner : ℕ) → Line
vertex_line v m o = closed_line (joined (decimals (v ∷ m ∷ o ∷ [])))

marks_plain : (v : ℕ) (ms os : List ℕ) → AllPlain (mark_rows v ms os)
unfolding mark_rows
marks_plain v [] os = tt
marks_plain v (m ∷ ms) [] = tt
marks_plain v (m ∷ ms) (o ∷ os) = (decimals_plain v (m ∷ o ∷ []), marks_plain (suc v) ms os)

marks_many : (v p : ℕ) (ms os : List ℕ) → Marked v p ms os → length (mark_rows v ms os) ≡ length ms
unfolding mark_rows
marks_many v p [] os h = refl
marks_many v p (m ∷ ms) [] h = absurd (omega (arith, h.many))
marks_many v p (m ∷ ms) (o ∷ os) h = ap suc (marks_many (suc v) p ms os (marked_rest h))

marks_short : (v p : ℕ) (ms os : List ℕ) (rs : List (List (List ℕ))) → Marked v p ms os → length (text (mark_rows v ms os ++ rs)) ≤ 15 * length ms + length (text rs)
unfolding mark_rows
marks_short v p [] os rs h = omega arith
marks_short v p (m ∷ ms) [] rs h = absurd (omega (arith, h.many))
marks_short v p (m ∷ ms) (o ∷ os) rs h =
    omega (arith, text_length (decimals (v ∷ m ∷ o ∷ [])) (mark_rows (suc v) ms os ++ rs), row_short v (m ∷ o ∷ []) (marked_row h), marks_short (suc v) p ms os rs (marked_rest h))

marks_pass : (v p : ℕ) (ms os : List ℕ) (ls : List Line) → Marked v p ms os → vertices_refusal (length ms) v p (row_lines (mark_rows v ms os) ++ ls) ≡ 0
unfolding vertices_refusal mark_rows row_lines line_at
marks_pass v p [] os ls h = refl
marks_pass v p (m ∷ ms) [] ls h = absurd (omega (arith, h.many))
marks_pass v p (m ∷ ms) (o ∷ os) ls h =
    zero_first _ _ (not_refuse _ 4 (row_numbers v (m ∷ o ∷ []) a)) (zero_first _ _ (not_refuse _ 6 good) (zero_first _ _ (marks_pass (suc v) p ms os ls (marked_rest h)) first_none))
  where
    a : AllBelow (10 ^ 9) (v ∷ m ∷ o ∷ [])
    a = widen (v ∷ m ∷ o ∷ []) (marked_row h)

    good : vertex_good v p (vertex_line v m o) ≡ true
    good = unfold vertex_good in (rw (row_number v (m ∷ o ∷ []) a 0, row_number v (m ∷ o ∷ []) a 1, row_number v (m ∷ o ∷ []) a 2, eq-eqb v v refl, lt-ltb m 2 (h.mark 0 (omega arith)), lt-ltb o p (h.owner 0 (omega arith))) refl)

marks_back : (v p : ℕ) (ms os : List ℕ) → Marked v p ms os → column 1 (row_lines (mark_rows v ms os)) ≡ ms
unfolding mark_rows row_lines column
marks_back v p [] os h = refl
marks_back v p (m ∷ ms) [] h = absurd (omega (arith, h.many))
marks_back v p (m ∷ ms) (o ∷ os) h = cc (row_number v (m ∷ o ∷ []) (widen (v ∷ m ∷ o ∷ []) (marked_row h)) 1, marks_back (suc v) p ms os (marked_rest h))

owners_back : (v p : ℕ) (ms os : List ℕ) → Marked v p ms os → column 2 (row_lines (mark_rows v ms os)) ≡ os
unfolding mark_rows row_lines column
owners_back v p [] [] h = refl
owners_back v p [] (o ∷ os) h = absurd (omega (arith, h.many))
owners_back v p (m ∷ ms) [] h = absurd (omega (arith, h.many))
owners_back v p (m ∷ ms) (o ∷ os) h = cc (row_number v (m ∷ o ∷ []) (widen (v ∷ m ∷ o ∷ []) (marked_row h)) 2, owners_back (suc v) p ms os (marked_rest h))

-- EDGE LINES
abbrev EndsBelow : ℕ → List Edge → Type 0
EndsBelow n [] = Unit {0}
EndsBelow n (e ∷ es) = (e.from < n) × (e.to < n) × EndsBelow n es

ends_below : (n : ℕ) (es : List Edge) → ((i : ℕ) → i < length es → (get_or es i (record { from = 0; to = 0 })).from < n) → ((i : ℕ) → i < length es → (get_or es i (record { from = 0; to = 0 })).to < n) → EndsBelow n es
ends_below n [] f t = tt
ends_below n (e ∷ es) f t = (f 0 (omega arith), t 0 (omega arith), ends_below n es (λ i l. f (suc i) (omega arith)) (λ i l. t (suc i) (omega arith)))

ends_plain : (es : List Edge) → AllPlain (end_rows es)
unfolding end_rows
ends_plain [] = tt
ends_plain (e ∷ es) = (decimals_plain e.from (e.to ∷ []), ends_plain es)

ends_many : (es : List Edge) → length (end_rows es) ≡ length es
unfolding end_rows
ends_many [] = refl
ends_many (e ∷ es) = ap suc (ends_many es)

module _ (n : ℕ) (few : n ≤ 10000) where
  end_row : (e : Edge) → e.from < n → e.to < n → AllBelow 10000 (e.from ∷ e.to ∷ [])
  end_row e f t = (omega arith, (omega arith, tt))

  end_line : (e : Edge) (f : e.from < n) (t : e.to < n) → edge_of (closed_line (joined (decimals (e.from ∷ e.to ∷ [])))) ≡ e
  unfolding edge_of
  end_line e f t = let a = widen (e.from ∷ e.to ∷ []) (end_row e f t) in rw (row_number e.from (e.to ∷ []) a 0, row_number e.from (e.to ∷ []) a 1) refl

  ends_short : (es : List Edge) → EndsBelow n es → length (text (end_rows es)) ≤ 10 * length es
  unfolding end_rows
  ends_short [] h = unfold text in (omega arith)
  ends_short (e ∷ es) h = omega (arith, text_length (decimals (e.from ∷ e.to ∷ [])) (end_rows es), row_short e.from (e.to ∷ []) (end_row e h.0 h.1), ends_short es h.2)

  ends_pass : (b : Option Edge) (es : List Edge) → EndsBelow n es → all_rise b es ≡ true → edges_refusal (length es) n b (row_lines (end_rows es)) ≡ 0
  unfolding edges_refusal end_rows row_lines line_at all_rise
  ends_pass b [] h r = refl
  ends_pass b (e ∷ es) h r =
      let p = and_both (rises b e) (all_rise (some e) es) r in
      let q = end_line e h.0 h.1 in
      let good : edge_good n e ≡ true = unfold edge_good in (rw (lt-ltb e.from n h.0, lt-ltb e.to n h.1) refl) in
      zero_first _ _ (not_refuse _ 4 (row_numbers e.from (e.to ∷ []) (widen (e.from ∷ e.to ∷ []) (end_row e h.0 h.1))))
      (zero_first _ _ (not_refuse _ 7 (subst (λ (d : Edge). edge_good n d ≡ true) (sym q) good))
      (zero_first _ _ (not_refuse _ 8 (subst (λ (d : Edge). rises b d ≡ true) (sym q) p.0))
      (zero_first _ _ (subst (λ (d : Edge). edges_refusal (length es) n (some d) (row_lines (end_rows es)) ≡ 0) (sym q) (ends_pass (some e) es h.2 p.1)) first_none)))

  ends_back : (es : List Edge) → EndsBelow n es → edges_in (row_lines (end_rows es)) ≡ es
  unfolding edges_in end_rows row_lines
  ends_back [] h = refl
  ends_back (e ∷ es) h = cc (end_line e h.0 h.1, ends_back es h.2)

head_plain : Plain (fields head_names)
head_plain = plain_by (fields head_names) (unfold fields put_first is_plain free_of in refl)

vertex_plain : Plain (fields vertex_names)
vertex_plain = plain_by (fields vertex_names) (unfold fields put_first is_plain free_of in refl)

edge_plain : Plain (fields edge_names)
edge_plain = plain_by (fields edge_names) (unfold fields put_first is_plain free_of in refl)

-- THE WHOLE: a text of these lines, with vertex lines vs and edge lines es
abbrev blocks : (counts : Line) → (vs es : List Line) → List Line
blocks h vs es = closed_line head_names ∷ h ∷ closed_line vertex_names ∷ vs ++ (closed_line edge_names ∷ es)

module _ (h : Line) (vs es : List Line) (n : ℕ) (many : length vs ≡ n) where
  names_at : line_at (blocks h vs es) (3 + n) ≡ closed_line edge_names
  unfolding line_at
  names_at = let e : 3 + n ≡ suc (suc (suc n)) = omega arith in rw e (get_or_at vs (closed_line edge_names) es _ n many)

  edges_after : drop (4 + n) (blocks h vs es) ≡ es
  edges_after =
      let e : 4 + n ≡ suc (suc (suc (n + 1))) = omega arith in
      rw e (ap (λ (k : ℕ). drop (k + 1) (vs ++ (closed_line edge_names ∷ es))) (sym many) ∙ drop-append-add vs (closed_line edge_names ∷ es) 1)

  vertices_first : take n (vs ++ (closed_line edge_names ∷ es)) ≡ vs
  vertices_first = take_at vs (closed_line edge_names ∷ es) n many

-- a text of these lines whose line 2 has these numbers; and what makes it acceptable
record Read (bs : List ℕ) (h : Line) (vs es : List Line) (n m s p : ℕ) : Type 0 where
  lined : lines bs ≡ blocks h vs es
  numbers : numbers_line 5 h ≡ true
  version : field h 0 ≡ decimal known_version
  vertices : number_at h 1 ≡ n
  edges : number_at h 2 ≡ m
  source : number_at h 3 ≡ s
  workers : number_at h 4 ≡ p
  many : length vs ≡ n

record Good (bs : List ℕ) (vs es : List Line) (n m s p : ℕ) : Type 0 where
  short : length bs ≤ longest_file
  begun : begins_version bs ≡ true
  some : 1 ≤ n
  vertices : n ≤ most_vertices
  edges : m ≤ most_edges
  source : s < n
  owned : 1 ≤ p
  workers : p ≤ most_workers
  vertex_lines : vertices_refusal n 0 p (vs ++ (closed_line edge_names ∷ es)) ≡ 0
  edge_lines : edges_refusal m n none es ≡ 0
  last : length es ≡ m

names_line : (t : List ℕ) → line_is t (closed_line t) ≡ true
unfolding line_is
names_line t = equal_same t

module _ (bs : List ℕ) (h : Line) (vs es : List Line) (n m s p : ℕ) (r : Read bs h vs es n m s p) where
  read_accepted : Good bs vs es n m s p → case_refusal bs ≡ 0
  unfolding case_refusal counts_good
  read_accepted g =
      rw (r.lined, second, third, r.vertices, r.edges, r.source, r.workers, names_at h vs es n r.many, edges_after h vs es n r.many)
      (zero_first _ _ (zero_refuse _ 1 (le-ltb longest_file (length bs) g.short))
      (zero_first _ _ (not_refuse _ 2 g.begun)
      (zero_first _ _ (zero_refuse _ 3 (version_known known_version known_version (blocks h vs es) (ap (λ (l : Line). field l 0) second ∙ r.version) (omega arith) (omega arith) (omega arith)))
      (zero_first _ _ (not_refuse _ 4 (both_true _ _ first r.numbers))
      (zero_first _ _ (not_refuse _ 5 counts)
      (zero_first _ _ (not_refuse _ 4 (names_line vertex_names))
      (zero_first _ _ g.vertex_lines
      (zero_first _ _ (not_refuse _ 4 (names_line edge_names))
      (zero_first _ _ g.edge_lines
      (zero_first _ _ (zero_refuse _ 4 (le-ltb (4 + n + m) (length (blocks h vs es)) whole)) first_none))))))))))
    where
      second : line_at (blocks h vs es) 1 ≡ h
      second = unfold line_at in refl

      third : line_at (blocks h vs es) 2 ≡ closed_line vertex_names
      third = unfold line_at in refl

      first : line_is head_names (line_at (blocks h vs es) 0) ≡ true
      first = unfold line_at in (names_line head_names)

      counts : (((leb 1 n && leb n most_vertices) && leb m most_edges) && (ltb s n && (leb 1 p && leb p most_workers))) ≡ true
      counts = rw (le-leb 1 n g.some, le-leb n most_vertices g.vertices, le-leb m most_edges g.edges, lt-ltb s n g.source, le-leb 1 p g.owned, le-leb p most_workers g.workers) refl

      whole : length (blocks h vs es) ≤ 4 + n + m
      whole = omega (arith, length-append vs (closed_line edge_names ∷ es), r.many, g.last)

  read_case : length es ≡ m
      → case_in bs ≡ record { graph = record { vertices = n; source = s; accepting = column 1 vs; edges = edges_in es }; file_edges = length (edges_in es); workers = p; owners = column 2 vs }
  unfolding case_in
  read_case e = rw (r.lined, second, r.vertices, r.edges, r.source, r.workers, edges_after h vs es n r.many, vertices_first h vs es n r.many, take_all m es (omega arith)) refl
    where
      second : line_at (blocks h vs es) 1 ≡ h
      second = unfold line_at in refl

-- A CASE as it is written
module _ (c : Case) where
  abbrev counts : List ℕ
  counts = c.graph.vertices ∷ length c.graph.edges ∷ c.graph.source ∷ c.workers ∷ []

  abbrev counts_line : Line
  counts_line = closed_line (joined (decimals (known_version ∷ counts)))

  abbrev vertex_rows : List (List (List ℕ))
  vertex_rows = mark_rows 0 c.graph.accepting c.owners

  abbrev names_rows : List (List (List ℕ))
  names_rows = fields edge_names ∷ end_rows c.graph.edges

  abbrev vertex_lines : List Line
  vertex_lines = row_lines vertex_rows

  abbrev edge_lines : List Line
  edge_lines = row_lines (end_rows c.graph.edges)

  rows_plain : AllPlain (vertex_rows ++ names_rows)
  rows_plain = plain_append vertex_rows names_rows (marks_plain 0 c.graph.accepting c.owners) (edge_plain, ends_plain c.graph.edges)

  rows_lines : row_lines (vertex_rows ++ names_rows) ≡ vertex_lines ++ (closed_line edge_names ∷ edge_lines)
  unfolding row_lines
  rows_lines = rows_append vertex_rows names_rows ∙ rw (joined_fields edge_names) refl

  case_lines : lines (case_file c) ≡ blocks counts_line vertex_lines edge_lines
  unfolding case_file counts_row row_lines
  case_lines =
      lines_text (fields head_names ∷ counts_row c ∷ fields vertex_names ∷ (vertex_rows ++ names_rows)) (head_plain, (decimals_plain known_version counts, (vertex_plain, rows_plain)))
      ∙ rw (joined_fields head_names, joined_fields vertex_names) (ap (λ (x : List Line). closed_line head_names ∷ counts_line ∷ closed_line vertex_names ∷ x) rows_lines)

module _ (c : Case) (ok : Sound c) (l : Within c) where
  marked : Marked 0 c.workers c.graph.accepting c.owners
  marked =
      record {
        few = omega (arith, ok.marks, l.vertices);
        workers = omega (arith, l.workers);
        many = omega (arith, ok.marks, ok.owned);
        mark = λ i h. ok.mark i (omega (arith, ok.marks));
        owner = λ i h. unfold owner in (ok.owner i (omega (arith, ok.marks)));
      }

  ends : EndsBelow c.graph.vertices c.graph.edges
  unfolding edge
  ends = ends_below c.graph.vertices c.graph.edges ok.from ok.to

  counts_below : AllBelow 10000 (known_version ∷ counts c)
  counts_below = (omega arith, (omega (arith, l.vertices), (omega (arith, l.edges), (omega (arith, l.vertices, ok.source), (omega (arith, l.workers), tt)))))

  -- its length, with four digits for each number
  pub case_short : length (case_file c) ≤ 94 + 15 * c.graph.vertices + 10 * length c.graph.edges
  unfolding case_file counts_row
  case_short =
      omega (
        arith,
        text_length (fields head_names) (counts_row c ∷ fields vertex_names ∷ (vertex_rows c ++ names_rows c)),
        text_length (counts_row c) (fields vertex_names ∷ (vertex_rows c ++ names_rows c)),
        text_length (fields vertex_names) (vertex_rows c ++ names_rows c),
        text_length (fields edge_names) (end_rows c.graph.edges),
        row_short known_version (counts c) counts_below,
        marks_short 0 c.workers c.graph.accepting c.owners (names_rows c) marked,
        ends_short c.graph.vertices (omega (arith, l.vertices)) c.graph.edges ends,
        ap length (joined_fields head_names),
        ap length (joined_fields vertex_names),
        ap length (joined_fields edge_names),
        ok.marks,
      )

  case_read : Read (case_file c) (counts_line c) (vertex_lines c) (edge_lines c) c.graph.vertices (length c.graph.edges) c.graph.source c.workers
  case_read =
      let a = widen (known_version ∷ counts c) counts_below in
      record {
        lined = case_lines c;
        numbers = row_numbers known_version (counts c) a;
        version = field_row (decimals (known_version ∷ counts c)) (decimals_plain known_version (counts c)) 0;
        vertices = row_number known_version (counts c) a 1;
        edges = row_number known_version (counts c) a 2;
        source = row_number known_version (counts c) a 3;
        workers = row_number known_version (counts c) a 4;
        many = length_lines (vertex_rows c) ∙ marks_many 0 c.workers c.graph.accepting c.owners marked ∙ ok.marks;
      }

  edge_lines_many : length (edge_lines c) ≡ length c.graph.edges
  edge_lines_many = length_lines (end_rows c.graph.edges) ∙ ends_many c.graph.edges

  case_good : c.file_edges ≡ length c.graph.edges → all_rise none c.graph.edges ≡ true
      → Good (case_file c) (vertex_lines c) (edge_lines c) c.graph.vertices (length c.graph.edges) c.graph.source c.workers
  case_good f r =
      record {
        short = omega (arith, case_short, l.vertices, l.file, f);
        begun = unfold begins case_file text joined fields put_first equal in refl;
        some = omega (arith, ok.source);
        vertices = l.vertices;
        edges = omega (arith, l.file, f);
        source = ok.source;
        owned = omega (arith, ok.owner c.graph.source ok.source);
        workers = l.workers;
        vertex_lines = rw (← ok.marks) (marks_pass 0 c.workers c.graph.accepting c.owners (closed_line edge_names ∷ edge_lines c) marked);
        edge_lines = ends_pass c.graph.vertices (omega (arith, l.vertices)) none c.graph.edges ends r;
        last = edge_lines_many;
      }

pub reads_back : ReadsBack
unfolding ReadsBack accepted
reads_back c ok l f r =
    let x = case_read c ok l in
    let n = c.graph.vertices in
    let back = read_case (case_file c) _ _ _ _ _ _ _ x (edge_lines_many c ok l) in (
      eq-eqb (case_refusal (case_file c)) 0 (read_accepted (case_file c) _ _ _ _ _ _ _ x (case_good c ok l f r)),
      back ∙ rw (marks_back 0 c.workers c.graph.accepting c.owners (marked c ok l), owners_back 0 c.workers c.graph.accepting c.owners (marked c ok l), ends_back n (omega (arith, l.vertices)) c.graph.edges (ends c ok l), ← f) refl,
    )
