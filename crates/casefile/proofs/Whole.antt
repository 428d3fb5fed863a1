-- Whole: lines 1 to 3, then the blocks: what the judge answers at each fault, and the case where there is none.
-- Assumes nothing.
use mathlib.Core.Path.{◌≡◌, refl, sym, ap, ◌∙◌}
use mathlib.Core.Bool.{Bool, true, false, ◌&&◌, ◌||◌, not, cond, and-false}
use mathlib.Core.List.{List, [], ◌∷◌}
use mathlib.Core.Option.{none}
use Prim.Native.Nat.{ℕ, suc, ◌+◌, ◌-◌, ◌≤◌, ◌<◌}
use native.Mathlib.Omega.{arith}
use lib.Dec.{ltb, leb, eqb}
use lib.ListN.{length, drop, length-drop}
use borrow.Author.Tests.{eqb-true, eqb-false, lt-ltb, le-ltb, ne_eqb}
use Rattle.std.proofs.lemmas.Bool.Decides.{nat_tests}
use Rattle.std.specs.Prelude.{Option, Some, None, Result, Ok, Err}
use Rattle.text.specs.Lines.{Line, lines, line_at, line_is, field}
use Rattle.text.specs.Numbers.{is_number, value, numbers_line, number_at}
use Rattle.text.specs.Reading.{line_here, past_line, field_here, number_in, skip}
use Rattle.text.proofs.Reading.{Row, NoRow, no_lines, some_lines, LineNamed}
use Rattle.text.proofs.Tests.{both_true}
use Rattle.model.specs.Case.{longest_file, known_version}
use Rattle.model.specs.CaseFile.{refuse, first_of, head_names, vertex_names, edge_names, begins_version, other_version, counts_good, vertices_refusal, edges_refusal, case_refusal, accepted, case_in}
use Rattle.model.specs.Refusals.{number, refusal_of}
use Rattle.model.specs.declared.refusal.Refusal.{Refusal}
use Rattle.model.specs.declared.refusal.Refusal.TheVariants.{LongFile, NoVersion, OtherVersion, CaseLayout, OutOfRange}
use Rattle.model.proofs.RefusalNumbers.{number_of}
use Rattle.model.proofs.Refusals.{case_numbers}
use Rattle.model.proofs.Accepting.{first_zero, edge_ends}
use Rattle.casefile.specs.Judging.{header, judged, counts_in_range, head_refusal, counts_in, before_edges, head_says, block_says}
use Rattle.casefile.specs.declared.Case.{Case}
use Rattle.text.proofs.Places.{skip_one, skip_add, skip_last, skip_lines, skip_line}
use Rattle.casefile.proofs.Refusals.{first_append, first_decides}

both_false : (a : Bool) {b : Bool} → b ≡ false → (a && b) ≡ false
both_false a e = rw (e, and-false) refl

-- LINES 1 TO 3
head_refused : (s : List ℕ) (j : ℕ) → head_refusal s ≡ suc j → Err (refusal_of (suc j)) ≡ head_says s
unfolding head_says
head_refused s j e = rw (e, ne_eqb (suc j) 0 (λ z. omega arith)) refl

module _ (s : List ℕ) where
  pub head_1 : longest_file < length s → Err LongFile ≡ head_says s
  unfolding refusal_of
  head_1 h = head_refused s 0 (unfold head_refusal in (rw (lt-ltb longest_file (length s) h) (unfold refuse first_of in refl)))

  module _ (short : length s ≤ longest_file) where
    pub head_2 : begins_version s ≡ false → Err NoVersion ≡ head_says s
    unfolding refusal_of
    head_2 b = head_refused s 1 (unfold head_refusal in (rw (le-ltb longest_file (length s) short, b) (unfold refuse first_of in refl)))

    module _ (begun : begins_version s ≡ true) where
      pub head_3 : other_version known_version (lines s) ≡ true → Err OtherVersion ≡ head_says s
      unfolding refusal_of
      head_3 v = head_refused s 2 (unfold head_refusal in (rw (le-ltb longest_file (length s) short, begun, v) (unfold refuse first_of in refl)))

      module _ (version : other_version known_version (lines s) ≡ false) where
        pub head_4 : (line_is head_names (line_at (lines s) 0) && numbers_line 5 (line_at (lines s) 1)) ≡ false → Err CaseLayout ≡ head_says s
        unfolding refusal_of
        head_4 l = head_refused s 3 (unfold head_refusal in (rw (le-ltb longest_file (length s) short, begun, version, l) (unfold refuse first_of in refl)))

        module _ (laid : (line_is head_names (line_at (lines s) 0) && numbers_line 5 (line_at (lines s) 1)) ≡ true) where
          pub head_5 : counts_good (line_at (lines s) 1) ≡ false → Err OutOfRange ≡ head_says s
          unfolding refusal_of
          head_5 g = head_refused s 4 (unfold head_refusal in (rw (le-ltb longest_file (length s) short, begun, version, laid, g) (unfold refuse first_of in refl)))

          module _ (good : counts_good (line_at (lines s) 1) ≡ true) where
            pub head_names_4 : line_is vertex_names (line_at (lines s) 2) ≡ false → Err CaseLayout ≡ head_says s
            unfolding refusal_of
            head_names_4 l = head_refused s 3 (unfold head_refusal in (rw (le-ltb longest_file (length s) short, begun, version, laid, good, l) (unfold refuse first_of in refl)))

            pub head_right : line_is vertex_names (line_at (lines s) 2) ≡ true → head_refusal s ≡ 0
            unfolding head_refusal
            head_right l = rw (le-ltb longest_file (length s) short, begun, version, laid, good, l) (unfold refuse first_of in refl)

-- what the numbers of line 2 say
pub record Counted (s : List ℕ) (n m u p : ℕ) : Type 0 where
  pub vertices : number_at (line_at (lines s) 1) 1 ≡ n
  pub edges : number_at (line_at (lines s) 1) 2 ≡ m
  pub source : number_at (line_at (lines s) 1) 3 ≡ u
  pub workers : number_at (line_at (lines s) 1) 4 ≡ p

pub counted : {s : List ℕ} {a n m u p z : ℕ} → Row s (skip 1 s 0) (a ∷ n ∷ m ∷ u ∷ p ∷ []) z → Counted s n m u p
counted {s} r =
    let e : line_here s (skip 1 s 0) ≡ line_at (lines s) 1 = skip_line 1 s 0 in
    record {
      vertices = rw e at (r.are 1 (omega arith));
      edges = rw e at (r.are 2 (omega arith));
      source = rw e at (r.are 3 (omega arith));
      workers = rw e at (r.are 4 (omega arith));
    }

pub counts_are : {s : List ℕ} {n m u p : ℕ} → Counted s n m u p → counts_good (line_at (lines s) 1) ≡ counts_in_range n m u p
unfolding counts_good counts_in_range
counts_are k = rw (k.vertices, k.edges, k.source, k.workers) refl

pub head_counts : {s : List ℕ} {n m u p : ℕ} → Counted s n m u p → head_refusal s ≡ 0 → Ok (record { vertices = n; edges = m; source = u; workers = p }, skip 3 s 0) ≡ head_says s
unfolding head_says counts_in
head_counts k e = rw (e, k.vertices, k.edges, k.source, k.workers) refl

-- lines 1 to 3, fault by fault: what is known before line 1's names are read, where the versions 1 to the newest are known
pub record Opened (newest : ℕ) (s : List ℕ) : Type 0 where
  pub short : length s ≤ longest_file
  pub begun : begins_version s ≡ true
  pub version : other_version newest (lines s) ≡ false

pub opened_with : {newest : ℕ} {s : List ℕ} → length s ≤ longest_file → true ≡ begins_version s → false ≡ other_version newest (lines s) → Opened newest s
opened_with a b c = record { short = a; begun = sym b; version = sym c }

module _ {s : List ℕ} (o : Opened known_version s) where
  pub head_unnamed : line_is head_names (line_here s 0) ≡ false → Err CaseLayout ≡ head_says s
  head_unnamed h = head_4 s o.short o.begun o.version (rw h refl)

  module _ {z : ℕ} (named : LineNamed s 0 head_names z) where
    second : z ≡ skip 1 s 0
    second = sym named.past ∙ sym (skip_one s 0)

    line_2 : line_here s z ≡ line_at (lines s) 1
    line_2 = rw second (skip_line 1 s 0)

    pub head_torn : NoRow 5 s z → Err CaseLayout ≡ head_says s
    head_torn b = head_4 s o.short o.begun o.version (both_false (line_is head_names (line_at (lines s) 0)) (rw line_2 at b.none))

    module _ {a n m u p y : ℕ} (r : Row s z (a ∷ n ∷ m ∷ u ∷ p ∷ []) y) where
      counts : Counted s n m u p
      counts = counted (rw second at r)

      laid : (line_is head_names (line_at (lines s) 0) && numbers_line 5 (line_at (lines s) 1)) ≡ true
      laid = both_true _ _ named.line (rw line_2 at r.line)

      pub head_miscounted : counts_in_range n m u p ≡ false → Err OutOfRange ≡ head_says s
      head_miscounted g = head_5 s o.short o.begun o.version laid (counts_are counts ∙ g)

      line_3 : line_here s y ≡ line_at (lines s) 2
      line_3 = rw (← r.past, second, ← skip_last 1 s 0) (skip_line 2 s 0)

      pub head_untitled : counts_in_range n m u p ≡ true → line_is vertex_names (line_here s y) ≡ false → Err CaseLayout ≡ head_says s
      head_untitled g b = head_names_4 s o.short o.begun o.version laid (counts_are counts ∙ g) (rw line_3 at b)

      pub head_whole : {x : ℕ} → counts_in_range n m u p ≡ true → LineNamed s y vertex_names x → Ok (record { vertices = n; edges = m; source = u; workers = p }, x) ≡ head_says s
      head_whole {x} g b =
          let e : x ≡ skip 3 s 0 = sym b.past ∙ (rw (← r.past, second, ← skip_last 1 s 0) (sym (skip_last 2 s 0))) in
          rw e (head_counts counts (head_right s o.short o.begun o.version laid (counts_are counts ∙ g) (rw line_3 at b.line)))

-- AFTER LINE 3
pub record Headed (s : List ℕ) (n m u p rows : ℕ) : Type 0 where
  pub right : head_refusal s ≡ 0
  pub counts : Counted s n m u p
  pub place : skip 3 s 0 ≡ rows

counted_in : {s : List ℕ} {c : Case} → counts_in s ≡ c → Counted s c.vertices c.edges c.source c.workers
unfolding counts_in
counted_in e =
    record {
      vertices = ap (λ (k : Case). k.vertices) e;
      edges = ap (λ (k : Case). k.edges) e;
      source = ap (λ (k : Case). k.source) e;
      workers = ap (λ (k : Case). k.workers) e;
    }

pub headed : (s : List ℕ) (c : Case) (rows : ℕ) → head_says s ≡ Ok (c, rows) → Headed s c.vertices c.edges c.source c.workers rows
unfolding head_says
headed s c rows h = go (eqb (head_refusal s) 0) refl h
  where
    go : (b : Bool) → eqb (head_refusal s) 0 ≡ b → cond {A = Result (Case × ℕ) Refusal} b (Ok (counts_in s, skip 3 s 0)) (Err (refusal_of (head_refusal s))) ≡ Ok (c, rows) → Headed s c.vertices c.edges c.source c.workers rows
    go true e q =
        let p : ◌≡◌ {A = Case × ℕ} (counts_in s, skip 3 s 0) (c, rows) = cc in
        record { right = eqb-true (head_refusal s) 0 e; counts = counted_in (ap (λ (x : Case × ℕ). x.0) p); place = ap (λ (x : Case × ℕ). x.1) p }
    go false e q = absurd (cc)

-- the refusals of what follows the names of the edge lines; what stands before decides before them
unfoldable after_names : List ℕ → List ℕ
after_names s =
    let ls = lines s in let c = counts_in s in
    edges_refusal c.edges c.vertices none (drop (4 + c.vertices) ls) ∷ refuse (ltb (4 + c.vertices + c.edges) (length ls)) 4 ∷ []

case_split : (s : List ℕ) → case_refusal s ≡ first_of (before_edges s ∷ after_names s)
unfolding case_refusal head_refusal before_edges after_names counts_in
case_split s = first_append _ (_ ∷ _ ∷ after_names s) ∙ first_append (_ ∷ _ ∷ _ ∷ []) (after_names s)

-- r is refusal number k
pub record Numbered (r : Refusal) (k : ℕ) : Type 0 where
  pub is : r ≡ refusal_of k
  pub some : k ≡ 0 → ⊥

judged_refused : (s : List ℕ) {r : Refusal} → Numbered r (case_refusal s) → Err r ≡ judged s
unfolding judged accepted
judged_refused s n = rw (n.is, ne_eqb (case_refusal s) 0 n.some) refl

pub before_judged : (s : List ℕ) {r : Refusal} → Numbered r (before_edges s) → Err r ≡ judged s
before_judged s n = judged_refused s (rw (case_split s, first_decides (before_edges s) (after_names s) n.some) n)

pub head_stops : (s : List ℕ) {r : Refusal} → Err r ≡ head_says s → Numbered r (head_refusal s)
unfolding head_says
head_stops s {r} h = go (eqb (head_refusal s) 0) refl h
  where
    go : (b : Bool) → eqb (head_refusal s) 0 ≡ b → ◌≡◌ {A = Result (Case × ℕ) Refusal} (Err r) (cond b (Ok (counts_in s, skip 3 s 0)) (Err (refusal_of (head_refusal s)))) → Numbered r (head_refusal s)
    go true e q = absurd (cc)
    go false e q = record { is = cc; some = eqb-false (head_refusal s) 0 e }

pub head_before : (s : List ℕ) {r : Refusal} → Numbered r (head_refusal s) → Numbered r (before_edges s)
unfolding before_edges
head_before s n = rw (first_decides (head_refusal s) _ n.some) n

-- a text without a refusal has none in front
pub before_zero : (s : List ℕ) → case_refusal s ≡ 0 → before_edges s ≡ 0
before_zero s e = (first_zero _ _ (sym (case_split s) ∙ e)).0

pub head_zero : (s : List ℕ) → before_edges s ≡ 0 → head_refusal s ≡ 0
unfolding before_edges
head_zero s e = (first_zero _ _ e).0

-- a block's answer gives its refusal
block_bad : (k j : ℕ) (s : List ℕ) (at : ℕ) {r : Refusal} → Err r ≡ block_says k j s at → Numbered r k
unfolding block_says
block_bad k j s at {r} e = go (eqb k 0) refl e
  where
    go : (b : Bool) → eqb k 0 ≡ b → Err r ≡ cond b (Ok (skip j s at)) (Err (refusal_of k)) → Numbered r k
    go true q e = absurd (cc)
    go false q e = record { is = cc; some = eqb-false k 0 q }

block_good : (k j : ℕ) (s : List ℕ) (at z : ℕ) → Ok z ≡ block_says k j s at → (k ≡ 0) × (skip j s at ≡ z)
unfolding block_says
block_good k j s at z e = go (eqb k 0) refl e
  where
    go : (b : Bool) → eqb k 0 ≡ b → Ok z ≡ cond b (Ok (skip j s at)) (Err (refusal_of k)) → (k ≡ 0) × (skip j s at ≡ z)
    go true q e = (eqb-true k 0 q, cc)
    go false q e = absurd (cc)

module _ {s : List ℕ} {n m u p rows : ℕ} (h : Headed s n m u p rows) where
  names_place : skip n s rows ≡ skip (3 + n) s 0
  names_place = rw (← h.place) (sym (skip_add 3 n s 0))

  edges_place : past_line s (skip n s rows) ≡ skip (4 + n) s 0
  edges_place =
      let e : 3 + n + 1 ≡ 4 + n = omega arith in
      rw names_place (sym (skip_last (3 + n) s 0) ∙ ap (λ (k : ℕ). skip k s 0) e)

  -- the lines before the edge lines, by what the judge reads
  before : before_edges s ≡ first_of (vertices_refusal n 0 p (lines (drop rows s)) ∷ refuse (not (line_is edge_names (line_here s (skip n s rows)))) 4 ∷ [])
  unfolding before_edges counts_in
  before =
      rw (h.right, ← h.place, h.counts.vertices, h.counts.workers, skip_lines 3 s 0, ← skip_add 3 n s 0, skip_line (3 + n) s 0)
      (unfold first_of in refl)

  -- a fault among them
  pub vertices_stop : {r : Refusal} → Err r ≡ block_says (vertices_refusal n 0 p (lines (drop rows s))) n s rows → Numbered r (before_edges s)
  vertices_stop b = let r = block_bad _ n s rows b in rw (before, first_decides _ _ r.some) r

  module _ (q : ℕ) (v : Ok q ≡ block_says (vertices_refusal n 0 p (lines (drop rows s))) n s rows) where
    pub names_stop : line_is edge_names (line_here s q) ≡ false → Numbered CaseLayout (before_edges s)
    unfolding refusal_of
    names_stop b =
        let r = block_good _ n s rows q v in
        let e : before_edges s ≡ 4 = before ∙ (rw (r.0, r.1, b) (unfold refuse first_of in refl)) in
        rw e (record { is = refl; some = λ z. omega arith })

    module _ (rest : ℕ) (named : LineNamed s q edge_names rest) where
      pub rest_place : rest ≡ skip (4 + n) s 0
      rest_place = sym named.past ∙ (rw (block_good _ n s rows q v).1 at edges_place)

      pub before_right : before_edges s ≡ 0
      before_right = let r = block_good _ n s rows q v in before ∙ (rw (r.0, r.1, named.line) (unfold refuse first_of in refl))

      after : case_refusal s ≡ first_of (edges_refusal m n none (lines (drop rest s)) ∷ refuse (ltb (4 + n + m) (length (lines s))) 4 ∷ [])
      after =
          case_split s
          ∙ (rw (before_right, rest_place, skip_lines (4 + n) s 0) (unfold after_names counts_in first_of in (rw (h.counts.vertices, h.counts.edges) refl)))

      pub edges_refused : {r : Refusal} → Err r ≡ block_says (edges_refusal m n none (lines (drop rest s))) m s rest → Err r ≡ judged s
      edges_refused b = let r = block_bad _ m s rest b in judged_refused s (rw (after, first_decides _ _ r.some) r)

      module _ (end : ℕ) (g : Ok end ≡ block_says (edges_refusal m n none (lines (drop rest s))) m s rest) where
        end_place : end ≡ skip (4 + n + m) s 0
        end_place =
            sym (block_good _ m s rest end g).1 ∙ ap (λ (k : ℕ). skip m s k) rest_place ∙ sym (skip_add (4 + n) m s 0)

        left_over : length (lines (drop end s)) ≡ length (lines s) - (4 + n + m)
        left_over = rw (end_place, skip_lines (4 + n + m) s 0) (length-drop (4 + n + m) (lines s))

        pub end_refused : end < length s → Err CaseLayout ≡ judged s
        unfolding refusal_of
        end_refused l =
            let t : 4 + n + m < length (lines s) = omega (arith, some_lines s end l, left_over) in
            let e : case_refusal s ≡ 4 = after ∙ (rw ((block_good _ m s rest end g).0, lt-ltb _ _ t) (unfold refuse first_of in refl)) in
            judged_refused s (rw e (record { is = refl; some = λ z. omega arith }))

        module _ (last : length s ≤ end) where
          right : case_refusal s ≡ 0
          right =
              let t : length (lines s) ≤ 4 + n + m = omega (arith, left_over, ap length (no_lines s end last)) in
              after ∙ (rw ((block_good _ m s rest end g).0, le-ltb _ _ t) (unfold refuse first_of in refl))

          many : length (case_in s).graph.edges ≡ m
          unfolding case_in
          many =
              let f : edges_refusal m n none (drop (4 + n) (lines s)) ≡ 0 = rw (rest_place, skip_lines (4 + n) s 0) at (block_good _ m s rest end g).0 in
              rw (h.counts.vertices, h.counts.edges) (edge_ends m n none (drop (4 + n) (lines s)) f).many

          pub all_accepted : Ok (record { vertices = n; edges = m; source = u; workers = p }) ≡ judged s
          unfolding judged accepted header
          all_accepted =
              rw (right, many) (unfold case_in in (rw (h.counts.vertices, h.counts.source, h.counts.workers) refl))

-- THE VERSION: line 2's first field
version_field : (s w : List ℕ) → w ≡ field_here s (past_line s 0) → w ≡ field (line_at (lines s) 1) 0
version_field s w e = e ∙ ap (λ (l : Line). field l 0) (rw (← skip_one s 0) (skip_line 1 s 0))

-- whether a number is that of a version that is not known
abbrev pub unknown : (newest : ℕ) → Option ℕ → Bool
unknown k None = false
unknown k (Some v) = ltb v 1 || ltb k v

pub version_says : (k : ℕ) (s w : List ℕ) → w ≡ field_here s (past_line s 0) → unknown k (number_in w) ≡ other_version k (lines s)
unfolding other_version number_in
version_says k s w e = rw (← version_field s w e) (go (is_number w) (value w))
  where
    go : (b : Bool) (v : ℕ) → unknown k (cond b (Some v) None) ≡ (b && not (leb 1 v && leb v k))
    go true v = grind (arith, nat_tests)
    go false v = refl

-- THE JUDGE'S ANSWER gives the case, or the refusal, whose number is the text's
pub refused_number : (s : List ℕ) → (case_refusal s ≡ 0 → ⊥) → number (refusal_of (case_refusal s)) ≡ case_refusal s
refused_number s n = case_numbers (λ k. ((k ≡ 0 → ⊥) → number (refusal_of k) ≡ k)) (λ k l z. number_of k (omega arith) (omega arith)) s n

pub turned : (s : List ℕ) {e : Refusal} {r : Result Case Refusal} → r ≡ judged s → r ≡ Err e → (number e ≡ case_refusal s) × (case_refusal s ≡ 0 → ⊥)
unfolding judged accepted
turned s {e} j q = go (eqb (case_refusal s) 0) refl (sym j ∙ q)
  where
    go : (b : Bool) → eqb (case_refusal s) 0 ≡ b → cond b (Ok (header s)) (Err (refusal_of (case_refusal s))) ≡ Err e → (number e ≡ case_refusal s) × (case_refusal s ≡ 0 → ⊥)
    go true h q = absurd (cc)
    go false h q =
        let n = eqb-false (case_refusal s) 0 h in
        let is : refusal_of (case_refusal s) ≡ e = cc in
        (rw is at (refused_number s n), n)

pub taken : (s : List ℕ) {c : Case} {r : Result Case Refusal} → r ≡ judged s → r ≡ Ok c → (accepted s ≡ true) × (c ≡ header s)
unfolding judged
taken s {c} j q = go (accepted s) refl (sym j ∙ q)
  where
    go : (b : Bool) → accepted s ≡ b → cond b (Ok (header s)) (Err (refusal_of (case_refusal s))) ≡ Ok c → (accepted s ≡ true) × (c ≡ header s)
    go true h q = (h, cc)
    go false h q = absurd (cc)

pub taken_right : (s : List ℕ) {c : Case} {r : Result Case Refusal} → r ≡ judged s → r ≡ Ok c → case_refusal s ≡ 0
taken_right s j q = eqb-true (case_refusal s) 0 (unfold accepted in (taken s j q).0)
