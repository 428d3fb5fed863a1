-- Vertex lines read one by one into a table: what is left to read decides as the whole does; and the passing rule by
-- that table. Assumes nothing.
use mathlib.Core.Path.{◌≡◌, refl, sym, ap, ◌∙◌}
use mathlib.Core.Bool.{Bool, true, false, ◌&&◌, not, cond, and-false}
use mathlib.Core.Logic.{◌⊎◌, inl, inr}
use mathlib.Core.List.{List, [], ◌∷◌}
use mathlib.Core.Option as maths
use mathlib.Core.Option.{none, some}
use Prim.Native.Nat.{ℕ, zero, suc, ◌+◌, ◌-◌, ◌≤◌, ◌<◌}
use native.Mathlib.Omega.{arith}
use native.Mathlib.Numerals.{add-one}
use lib.Dec.{ltb, leb, eqb}
use lib.IntN.{ℤ, pos, neg_ℤ}
use lib.ListN.{length, get_or, set, take, drop, replicate, length-set, length-replicate}
use lib.Seq.{get_or-set_same, get_or-set_other}
use borrow.Author.Tests.{eq-eqb, ne_eqb, le-leb, lt-leb, lt-ltb, le-ltb}
use Rattle.std.specs.Prelude.{Option, Some, None, is_some, Result, Ok, Err}
use Rattle.text.specs.Lines.{Line, lines, line_at, field}
use Rattle.text.specs.Numbers.{number_at}
use Rattle.text.specs.Reading.{line_here, signed_line, skip}
use Rattle.text.specs.declared.read.Signed.{Signed}
use Rattle.text.proofs.Tests.{Same, same, other, same?}
use Rattle.text.proofs.ReadingSigned.{SignedAt}
use Rattle.model.specs.Graph.{Graph, edge, mark, edge_depth, edge_length}
use Rattle.model.specs.Case.{most_vertices}
use Rattle.model.specs.CaseFile.{refuse, first_of}
use Rattle.model.specs.Passing.{vertex_layout, above, distance_good, listed_vertices_refusal, Listed, number_of, is_listed, leads, all_lead, passes_empty, listed_of, listed_in}
use Rattle.text.proofs.Places.{skip_none, skip_first}
use Rattle.casefile.proofs.Refusals.{first_one, first_decides}
use Rattle.model.specs.Answer.{empty_verdict}
use Rattle.model.specs.Refusals.{number}
use Rattle.model.specs.declared.refusal.Refusal.{Refusal}
use Rattle.model.specs.declared.refusal.Refusal.TheVariants.{AnswerLayout, NotShown}
use Rattle.model.specs.declared.verdict.Verdict.{Verdict}
use Rattle.model.specs.declared.verdict.Verdict.TheVariants.{Empty}
use Rattle.checker.specs.Checking.{Told, Tables, held, distance_of, Blank, ListingRead, ListingSays, length_by, LeadSays, vertex_lines_refusal}
use Rattle.checker.specs.declared.tables.Graph as code
use Rattle.checker.proofs.Tells.{told_fault, told_pass}
use Rattle.checker.proofs.Ends.{more_lines, no_more_lines}
use Rattle.checker.proofs.Distances.{distance_there, distance_gone}

-- ONE LINE of so many
vertices_step : (k n : ℕ) (b : maths.Option ℕ) (ls : List Line) → let l = line_at ls 0 in
    listed_vertices_refusal (suc k) n b ls
    ≡ cond (signed_line l) (cond (ltb (number_at l 0) n && above b (number_at l 0)) (cond (distance_good (field l 1)) (listed_vertices_refusal k n (some (number_at l 0)) (drop 1 ls)) 12) 13) 12
unfolding listed_vertices_refusal vertex_layout signed_line refuse first_of
vertices_step k n b ls =
    let l = line_at ls 0 in go (vertex_layout l) (ltb (number_at l 0) n && above b (number_at l 0)) (distance_good (field l 1)) (listed_vertices_refusal k n (some (number_at l 0)) (drop 1 ls))
  where
    go : (a b c : Bool) (r : ℕ) → first_of (refuse (not a) 12 ∷ refuse (not b) 13 ∷ refuse (not c) 12 ∷ r ∷ []) ≡ cond a (cond b (cond c r 12) 13) 12
    go true true true r = first_one r
    go true true false r = refl
    go true false c r = refl
    go false b c r = refl

listed_step : (j : ℕ) (ls : List Line) → signed_line (line_at ls 0) ≡ true → listed_in (take (suc j) ls) ≡ listed_of (line_at ls 0) ∷ listed_in (take j (drop 1 ls))
unfolding listed_in line_at signed_line
listed_step j [] h = cc
listed_step j (l ∷ ls) h = refl

-- the vertex before the least that may follow
unfoldable pub before : (least : ℕ) → maths.Option ℕ
before zero = none
before (suc u) = some u

above_least : (least v : ℕ) → above (before least) v ≡ leb least v
unfolding above before
above_least zero v = sym (le-leb 0 v (omega arith))
above_least (suc u) v = refl

before_next : (v : ℕ) → before (v + 1) ≡ some v
unfolding before
before_next v = rw (add-one v) refl

-- THE TABLE: a number that it holds, or one that is still to be read
unfoldable pub or_later : maths.Option ℤ → maths.Option ℤ → maths.Option ℤ
or_later maths.none o = o
or_later (maths.some z) o = maths.some z

later_none : (o : maths.Option ℤ) → or_later o none ≡ o
unfolding or_later
later_none maths.none = refl
later_none (maths.some z) = refl

pub record Listing (s : List ℕ) (at k n : ℕ) (t₀ : List (Option ℤ)) (here i least : ℕ) (t : List (Option ℤ)) : Type 0 where
  pub left : listed_vertices_refusal (k - i) n (before least) (lines (drop here s)) ≡ listed_vertices_refusal k n none (lines (drop at s))
  pub place : skip (k - i) s here ≡ skip k s at
  pub room : n ≤ length t₀
  pub long : length t ≡ length t₀
  pub known : (v : ℕ) → or_later (held (get_or t v None)) (number_of (listed_in (take (k - i) (lines (drop here s)))) v) ≡ number_of (listed_in (take k (lines (drop at s)))) v
  pub free : (v : ℕ) → least ≤ v → get_or t v None ≡ None

pub listing_start : (s : List ℕ) (at k n : ℕ) (t : List (Option ℤ)) → Blank n t → Listing s at k n t at 0 0 t
unfolding before or_later held
listing_start s at k n t b =
    let e : k - 0 ≡ k = omega arith in
    record { left = rw e refl; place = rw e refl; room = b.long; long = refl; known = λ v. rw (e, b.blank v) refl; free = λ v l. b.blank v }

module _ {s : List ℕ} {at k n : ℕ} {t₀ : List (Option ℤ)} {here i least : ℕ} {t : List (Option ℤ)} (w : Listing s at k n t₀ here i least t) where
  pub listing_end : k ≤ i → ListingSays s at k n t (Ok here)
  unfolding listed_vertices_refusal listed_in number_of
  listing_end h =
      let z : k - i ≡ 0 = omega arith in
      record {
        right = sym w.left ∙ rw z refl;
        place = sym w.place ∙ (rw z (skip_none s here));
        kept = λ v. sym (later_none (held (get_or t v None))) ∙ (rw z at (w.known v));
      }

  module _ (h : i < k) where
    fewer : k - i ≡ suc (k - (i + 1))
    fewer = omega arith

    next : let l = line_here s here in listed_vertices_refusal k n none (lines (drop at s))
        ≡ cond (signed_line l) (cond (ltb (number_at l 0) n && leb least (number_at l 0)) (cond (distance_good (field l 1)) (listed_vertices_refusal (k - (i + 1)) n (some (number_at l 0)) (drop 1 (lines (drop here s)))) 12) 13) 12
    next = sym w.left ∙ (rw (fewer, ← above_least least (number_at (line_here s here) 0)) (vertices_step (k - (i + 1)) n (before least) (lines (drop here s))))

    pub listing_torn : signed_line (line_here s here) ≡ false → ListingSays s at k n t (Err AnswerLayout)
    listing_torn b = (next ∙ (rw b refl), omega arith)

    module _ {a : ℕ} {g : Signed} {z : ℕ} (r : SignedAt s here a g z) where
      pub listing_wrong : (a < least) ⊎ ((least ≤ a) × (n ≤ a)) → ListingSays s at k n t (Err NotShown)
      listing_wrong x = (next ∙ (rw (r.line, r.number, out x) refl), omega arith)
        where
          out : (a < least) ⊎ ((least ≤ a) × (n ≤ a)) → (ltb a n && leb least a) ≡ false
          out (inl l) = rw (lt-leb least a l, and-false) refl
          out (inr l) = rw (le-ltb a n l.1) refl

      module _ (low : least ≤ a) (b : a < n) where
        in_order : (ltb a n && leb least a) ≡ true
        in_order = rw (lt-ltb a n b, le-leb least a low) refl

        pub in_table : a < length t
        in_table = omega (arith, w.room, w.long)

        pub listing_far : distance_of g ≡ None → ListingSays s at k n t (Err AnswerLayout)
        listing_far q = (next ∙ (rw (r.line, r.number, in_order, distance_gone r q) refl), omega arith)

        module _ {x : ℤ} (q : distance_of g ≡ Some x) where
          listed : listed_in (take (k - i) (lines (drop here s))) ≡ record { vertex = a; number = x } ∷ listed_in (take (k - (i + 1)) (lines (drop z s)))
          unfolding listed_of
          listed = rw (fewer, listed_step (k - (i + 1)) (lines (drop here s)) r.line, r.number, (distance_there r q).1, r.rest) refl

          known_go : (v : ℕ) → Same v a → or_later (held (get_or t v None)) (cond (eqb a v) (some x) (number_of (listed_in (take (k - (i + 1)) (lines (drop z s)))) v)) ≡ number_of (listed_in (take k (lines (drop at s)))) v
              → or_later (held (get_or (set t a (Some x)) v None)) (number_of (listed_in (take (k - (i + 1)) (lines (drop z s)))) v) ≡ number_of (listed_in (take k (lines (drop at s)))) v
          unfolding or_later held
          known_go v (same e) p = rw (e, get_or-set_same t a (Some x) None in_table) (rw (e, w.free a low, eq-eqb a a refl) at p)
          known_go v (other m) p = rw (get_or-set_other t a v (Some x) None m) (rw (ne_eqb a v (λ e. m (sym e))) at p)

          pub listing_on : Listing s at k n t₀ z (i + 1) (a + 1) (set t a (Some x))
          unfolding number_of
          listing_on = record {
            left = rw (before_next a) (sym (next ∙ (rw (r.line, r.number, in_order, (distance_there r q).0, ← r.rest) refl)));
            place = rw (← r.past, ← skip_first (k - (i + 1)) s here, ← fewer) w.place;
            room = w.room;
            long = length-set t a (Some x) ∙ w.long;
            known = λ v. known_go v (same? v a) (rw listed at (w.known v));
            free = λ v l. get_or-set_other t a v (Some x) None (λ e. omega arith) ∙ w.free v (omega (arith, low));
          }

-- a table that holds nothing yet
blank_at : (k v : ℕ) → ◌≡◌ {A = Option ℤ} (get_or (replicate k None) v None) None
blank_at zero v = refl
blank_at (suc k) zero = refl
blank_at (suc k) (suc v) = blank_at k v

pub blank : (n : ℕ) → n ≤ most_vertices → Blank n (replicate most_vertices None)
blank n h = record { long = omega (arith, length-replicate {A = Option ℤ} most_vertices None); blank = λ v. blank_at most_vertices v }

-- THE PASSING RULE: the length of an edge by the mark of its start
length_is : (k : ℕ) → k < 2 → neg_ℤ (pos k) ≡ length_by k
unfolding length_by
length_is zero h = refl
length_is (suc zero) h = refl
length_is (suc (suc k)) h = absurd (omega arith)

pub record Leading (t : code.Graph) (xs : List (Option ℤ)) (e : ℕ) : Type 0 where
  pub left : (g : Graph) → Tables g t → (vs : List Listed) → ((v : ℕ) → held (get_or xs v None) ≡ number_of vs v) → all_lead (t.case.edges - e) e g vs ≡ all_lead t.case.edges 0 g vs

pub leading_start : (t : code.Graph) (xs : List (Option ℤ)) → Leading t xs 0
leading_start t xs = let q : t.case.edges - 0 ≡ t.case.edges = omega arith in record { left = λ g x vs y. rw q refl }

module _ {t : code.Graph} {xs : List (Option ℤ)} {e : ℕ} (w : Leading t xs e) where
  pub leading_end : t.case.edges ≤ e → LeadSays t xs true
  unfolding all_lead
  leading_end h g x vs y =
      let z : t.case.edges - e ≡ 0 = omega arith in
      sym (sym (w.left g x vs y) ∙ rw z refl)

  module _ {u v k : ℕ} {a b : Option ℤ} {r : Bool} (h : e < t.case.edges) (is_u : u ≡ get_or t.froms.now e 0) (is_v : v ≡ get_or t.tos.now e 0) (is_a : a ≡ get_or xs u None) (is_b : b ≡ get_or xs v None) (is_k : k ≡ get_or t.marks.now u 0)
      (is_r : r ≡ leads (held a) (held b) (length_by k)) where
    edge_is : (g : Graph) → Tables g t → (vs : List Listed) → ((v : ℕ) → held (get_or xs v None) ≡ number_of vs v) → leads (number_of vs (edge g e).from) (number_of vs (edge g e).to) (edge_length g e) ≡ r
    unfolding edge_length edge_depth
    edge_is g x vs y =
        let f : (edge g e).from ≡ u = sym (is_u ∙ x.from_at e h) in
        let o : (edge g e).to ≡ v = sym (is_v ∙ x.to_at e h) in
        let d : mark g (edge g e).from ≡ k = sym (is_k ∙ ap (λ (i : ℕ). get_or t.marks.now i 0) (sym f) ∙ x.mark_at e h) in
        let l : neg_ℤ (pos (mark g (edge g e).from)) ≡ length_by k = length_is (mark g (edge g e).from) (x.small e h) ∙ ap length_by d in
        ap (λ (z : ℤ). leads (number_of vs (edge g e).from) (number_of vs (edge g e).to) z) l
        ∙ (rw (f, o, ← y u, ← y v, ← is_a, ← is_b) (sym is_r))

    step : (g : Graph) → Tables g t → (vs : List Listed) → ((v : ℕ) → held (get_or xs v None) ≡ number_of vs v) → all_lead t.case.edges 0 g vs ≡ (r && all_lead (t.case.edges - (e + 1)) (e + 1) g vs)
    unfolding all_lead
    step g x vs y =
        let q : t.case.edges - e ≡ suc (t.case.edges - (e + 1)) = omega arith in
        sym (w.left g x vs y) ∙ (rw (q, edge_is g x vs y, add-one e) refl)

    pub leading_on : r ≡ true → Leading t xs (e + 1)
    leading_on q = record { left = λ g x vs y. sym (step g x vs y ∙ (rw q refl)) }

    pub leading_not : r ≡ false → LeadSays t xs false
    leading_not q g x vs y = sym (step g x vs y ∙ (rw q refl))

-- A WHOLE LISTING: what the vertex lines tell
abbrev pub ListTells : (text : List ℕ) → (at reached : ℕ) → code.Graph → Result Verdict Refusal → Type 0
ListTells s at k t r = (g : Graph) → Tables g t → Told (vertex_lines_refusal g k (lines (drop at s))) empty_verdict r

listed_go : (o : Option ℤ) → is_listed (held o) ≡ is_some o
unfolding is_listed held
listed_go None = refl
listed_go (Some z) = refl

module _ (s : List ℕ) (at k : ℕ) {t : code.Graph} (xs : List (Option ℤ)) where
  pub listing_refused : {e : Refusal} → ListingSays s at k t.case.vertices xs (Err e) → ListTells s at k t (Err e)
  unfolding vertex_lines_refusal
  listing_refused {e} h g x = told_fault e (sym (rw (x.vertices, h.0) (first_decides (number e) _ (λ q. omega (arith, h.1))))) h.1

  module _ {z : ℕ} (w : ListingRead s at k t.case.vertices xs z) where
    pub empty_trailed : z < length s → ListTells s at k t (Err AnswerLayout)
    unfolding vertex_lines_refusal
    empty_trailed h g x = told_fault AnswerLayout (sym (rw (x.vertices, w.right, more_lines k s at z w.place h) (unfold refuse first_of in refl))) (omega arith)

    module _ (l : length s ≤ z) where
      rest_is : (g : Graph) → Tables g t → {p : Bool} → passes_empty g (listed_in (take k (lines (drop at s)))) ≡ p → vertex_lines_refusal g k (lines (drop at s)) ≡ refuse (not p) 13
      unfolding vertex_lines_refusal
      rest_is g x {p} q = rw (q, x.vertices, w.right, no_more_lines k s at z w.place l) (unfold refuse first_of in (first_one (refuse (not p) 13)))

      fails : (g : Graph) → Tables g t → passes_empty g (listed_in (take k (lines (drop at s)))) ≡ false → Told (vertex_lines_refusal g k (lines (drop at s))) empty_verdict (Err NotShown)
      fails g x q = told_fault NotShown (sym (rest_is g x q ∙ (unfold refuse in refl))) (omega arith)

      source_is : (g : Graph) → Tables g t → number_of (listed_in (take k (lines (drop at s)))) g.source ≡ held (get_or xs t.case.source None)
      source_is g x = rw x.source (sym (w.kept t.case.source))

      module _ {n : Option ℤ} (lost : Bool) (is_n : n ≡ get_or xs t.case.source None) (is_lost : is_some n ≡ not lost) where
        listed_as : (g : Graph) → Tables g t → is_listed (number_of (listed_in (take k (lines (drop at s)))) g.source) ≡ not lost
        listed_as g x = rw (source_is g x, ← is_n) (listed_go n ∙ is_lost)

        pub source_lost : lost ≡ true → ListTells s at k t (Err NotShown)
        unfolding passes_empty
        source_lost h g x = fails g x (rw (listed_as g x, h) refl)

        module _ (h : lost ≡ false) {r : Bool} (is_r : LeadSays t xs r) where
          passes_is : (g : Graph) → Tables g t → passes_empty g (listed_in (take k (lines (drop at s)))) ≡ r
          unfolding passes_empty
          passes_is g x = rw (listed_as g x, h, x.many) (sym (is_r g x (listed_in (take k (lines (drop at s)))) w.kept))

          pub empty_passes : r ≡ true → ListTells s at k t (Ok Empty)
          empty_passes q g x = told_pass Empty (rest_is g x (passes_is g x ∙ q) ∙ (unfold refuse in refl))

          pub empty_fails : r ≡ false → ListTells s at k t (Err NotShown)
          empty_fails q g x = fails g x (passes_is g x ∙ q)
