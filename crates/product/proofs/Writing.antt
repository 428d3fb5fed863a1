-- The vertices' tables, and the case of a product out of its tables. Assumes nothing.
use mathlib.Core.Path.{◌≡◌, refl, sym, ap, ◌∙◌}
use mathlib.Core.Bool.{Bool, true, false, ◌&&◌, ◌||◌, cond}
use mathlib.Core.List.{List, [], ◌∷◌, ◌++◌, map-append}
use Prim.Native.Nat.{ℕ, zero, suc, ◌+◌, ◌*◌, ◌%◌, ◌≤◌, ◌<◌}
use native.Mathlib.Nat.{zero-add, mod-lt}
use native.Mathlib.Numerals.{add-one}
use native.Mathlib.Omega.{arith}
use lib.Dec.{eqb}
use lib.ListN.{length, get_or, set, take, replicate, length-set, length-replicate}
use lib.Seq.{take-suc, take-suc-set, take_all, length-take-le, get_or-take, get_or-set_same, get_or-set_other, ext_get_or, take-append_seam}
use borrow.Author.Tests.{eq-eqb, ne_eqb}
use Rattle.text.specs.Writing.{Puts}
use Rattle.text.specs.declared.write.Writer.{Writer}
use Rattle.text.proofs.Tests.{Same, same?, same, other}
use Rattle.text.proofs.Chains.{puts_as}
use Rattle.model.specs.Case.{Case, most_vertices}
use Rattle.model.specs.Graph.{Edge, leaves, table_of}
use Rattle.model.specs.CaseText.{case_file}
use Rattle.model.specs.Chart.{Chart}
use Rattle.model.specs.Claim.{Claim}
use Rattle.model.specs.ClaimEntry.{mark_of}
use Rattle.model.specs.Product.{product, chart_automaton, claim_automaton, goes_on, state_mark, remainder_by, graph_of, product_graph, product_case}
use Rattle.model.proofs.Tools.{getD_replicate_same, table_length, table_at, table_same}
use Rattle.model.proofs.Products.{goes_on_right}
use Rattle.product.specs.Tables.{edge_of, edges_of, tabled}
use Rattle.product.specs.Edges.{both_of}
use Rattle.product.specs.Written.{mark_by, StartsMarked, case_by, Held}
use Rattle.product.specs.declared.edges.Sizes.{Sizes}
use Rattle.product.specs.declared.table.Ends.{Ends}

-- A TABLE, one number more at a time
table_snoc : (f : ℕ → ℕ) (k v : ℕ) → table_of f (suc k) v ≡ table_of f k v ++ (f (v + k) ∷ [])
unfolding table_of
table_snoc f zero v = let e : v + 0 ≡ v = omega arith in rw e refl
table_snoc f (suc k) v = let e : v + suc k ≡ suc v + k = omega arith in rw e (ap (λ (l : List ℕ). f v ∷ l) (table_snoc f k (suc v)))

table_next : (f : ℕ → ℕ) (v x : ℕ) (t : List ℕ) → take v t ≡ table_of f v 0 → v < length t → x ≡ f v → take (v + 1) (set t v x) ≡ table_of f (v + 1) 0
table_next f v x t e l q =
    rw (add-one v, take-suc-set t v x l, table_snoc f v 0, zero-add v, e, q) refl

-- THE OWNERS below v are done
pub record FillingOwners (workers v : ℕ) (owners : List ℕ) : Type 0 where
  pub owned : take v owners ≡ table_of (remainder_by workers) v 0

pub owners_start : (workers : ℕ) (owners : List ℕ) → FillingOwners workers 0 owners
unfolding table_of
owners_start workers owners = record { owned = refl }

pub owners_next : {workers v : ℕ} {owners : List ℕ} → FillingOwners workers v owners → v < length owners → FillingOwners workers (v + 1) (set owners v (v % workers))
owners_next {workers} {v} {owners} d h = record { owned = table_next (remainder_by workers) v (v % workers) owners d.owned h refl }

-- THE MARKS of the vertices that the edges below e leave
pub record MarkingStarts (states : ℕ) (cells : List ℕ) (edges : List Ends) (ms marks : List ℕ) (e : ℕ) : Type 0 where
  pub kept : length marks ≡ length ms
  pub marked : (v : ℕ) → v < length ms → get_or marks v 0 ≡ mark_by cells (edges_of (take e edges)) states v

pub marks_start : (states : ℕ) (cells : List ℕ) (edges : List Ends) (ms : List ℕ) → ms ≡ replicate most_vertices 0 → MarkingStarts states cells edges ms ms 0
unfolding mark_by leaves
marks_start states cells edges ms fresh = record {
  kept = refl;
  marked = λ v l. rw fresh (getD_replicate_same {A = ℕ} most_vertices v 0);
}

-- the start of one edge more
leaves_snoc : (v : ℕ) (d : Edge) (es : List Edge) → leaves (es ++ (d ∷ [])) v ≡ (leaves es v || eqb d.from v)
unfolding leaves
leaves_snoc v d [] = go (eqb d.from v)
  where
    go : (b : Bool) → (b || false) ≡ (false || b)
    go true = refl
    go false = refl
leaves_snoc v d (e ∷ es) = go (eqb e.from v) (leaves_snoc v d es)
  where
    go : (b : Bool) → leaves (es ++ (d ∷ [])) v ≡ (leaves es v || eqb d.from v) → (b || leaves (es ++ (d ∷ [])) v) ≡ ((b || leaves es v) || eqb d.from v)
    go true i = refl
    go false i = i

start_more : (cells : List ℕ) (es : List Edge) (d : Edge) (states v : ℕ) → mark_by cells (es ++ (d ∷ [])) states v ≡ cond (eqb d.from v) (get_or cells (v % states) 0) (mark_by cells es states v)
unfolding mark_by
start_more cells es d states v = rw (leaves_snoc v d es) (go (leaves es v) (eqb d.from v))
  where
    go : (a b : Bool) → cond (a || b) (get_or cells (v % states) 0) 0 ≡ cond b (get_or cells (v % states) 0) (cond a (get_or cells (v % states) 0) 0)
    go true true = refl
    go true false = refl
    go false true = refl
    go false false = refl

pub marks_next : {states e : ℕ} {cells : List ℕ} {edges : List Ends} {ms marks : List ℕ} → MarkingStarts states cells edges ms marks e → e < length edges → (d : Ends)
    → let u = (get_or edges e d).from in MarkingStarts states cells edges ms (set marks u (get_or cells (u % states) 0)) (e + 1)
marks_next {states} {e} {cells} {edges} {ms} {marks} m h d = record {
  kept = length-set marks u (get_or cells (u % states) 0) ∙ m.kept;
  marked = λ v l. rw (add-one e, take-suc edges e d h, map-append edge_of (take e edges) (get_or edges e d ∷ [])) (go v l (same? v u) ∙ sym (start_more cells (edges_of (take e edges)) (edge_of (get_or edges e d)) states v));
}
  where
    u : ℕ
    u = (get_or edges e d).from

    go : (v : ℕ) → v < length ms → Same v u → get_or (set marks u (get_or cells (u % states) 0)) v 0 ≡ cond (eqb u v) (get_or cells (v % states) 0) (mark_by cells (edges_of (take e edges)) states v)
    go v l (same q) = rw (eq-eqb u v (sym q), ← q) (get_or-set_same marks v (get_or cells (v % states) 0) 0 (omega (arith, m.kept)))
    go v l (other n) = rw (ne_eqb u v (λ q. n (sym q))) (get_or-set_other marks u v (get_or cells (u % states) 0) 0 n ∙ m.marked v l)

pub marks_last : {states e : ℕ} {cells : List ℕ} {edges : List Ends} {ms marks : List ℕ} → MarkingStarts states cells edges ms marks e → length edges ≤ e → ms ≡ replicate most_vertices 0
    → StartsMarked states cells (edges_of edges) marks
marks_last {states} {e} {cells} {edges} {ms} {marks} d h fresh = record { marked = front }
  where
    long : length ms ≡ most_vertices
    long = ap length fresh ∙ length-replicate {A = ℕ} most_vertices 0

    front : (n : ℕ) → n ≤ most_vertices → take n marks ≡ table_of (mark_by cells (edges_of edges) states) n 0
    front n l =
        let f = mark_by cells (edges_of edges) states in
        let t : length (take n marks) ≡ n = length-take-le n marks (omega (arith, d.kept, long)) in
        ext_get_or 0 (take n marks) (table_of f n 0) (t ∙ sym (table_length f n 0))
        (λ v b. get_or-take n marks v 0 (omega (arith, t)) ∙ d.marked v (omega (arith, t, long)) ∙ ap (λ (es : List Ends). mark_by cells (edges_of es) states v) (take_all e edges h)
        ∙ sym (table_at f n 0 v (omega (arith, t)) ∙ rw (zero-add v) refl))

-- THE PRODUCT: its case out of the tables
same_tables : {n m s t p : ℕ} {ms ns os ps : List ℕ} {es fs : List Edge} → n ≡ m → s ≡ t → ms ≡ ns → os ≡ ps → es ≡ fs
    → let c : (n s : ℕ) → (ms os : List ℕ) → List Edge → Case = λ n s ms os es. record { graph = record { vertices = n; source = s; accepting = ms; edges = es }; file_edges = length es; workers = p; owners = os } in
    c n s ms os es ≡ c m t ns ps fs
same_tables a b c d e = rw (a, b, c, d, e) refl

mark_both : (a b : Bool) → cond b (mark_of a) 0 ≡ mark_of (a && b)
mark_both true true = refl
mark_both true false = refl
mark_both false true = refl
mark_both false false = refl

module _ (h : Chart) (k : Claim) (z : Sizes) (p : ℕ) {follow cells : List ℕ} (es : List Edge) (g : Held h k z follow cells) (some : 1 ≤ z.states) (edges : es ≡ (product_graph h k).edges) where
  size_is : z.modes * z.states ≡ h.modes * length k.states
  size_is = rw (g.given.of_modes, g.given.of_states) refl

  state_marked : (v : ℕ) → get_or cells (v % z.states) 0 ≡ mark_of ((both_of h k).accepts v)
  unfolding product chart_automaton claim_automaton
  state_marked v = rw g.given.of_states (g.marks (v % length k.states) (mod-lt v (rw g.given.of_states at some)))

  mark_is : (v : ℕ) → v < z.modes * z.states → mark_by cells es z.states v ≡ state_mark (both_of h k) v
  unfolding mark_by
  mark_is v l =
      let m : leaves es v ≡ goes_on (both_of h k) v = ap (λ (ds : List Edge). leaves ds v) edges ∙ sym (goes_on_right h k v (rw size_is at l)) in
      rw (m, state_marked v) (mark_both ((both_of h k).accepts v) (goes_on (both_of h k) v))

  pub product_is : case_by z p cells es ≡ product_case h k p
  unfolding case_by tabled product_case graph_of product chart_automaton claim_automaton
  product_is =
      let n = z.modes * z.states in
      let rule = mark_by cells es z.states in
      same_tables (table_length rule n 0 ∙ size_is) g.source (table_same rule (state_mark (both_of h k)) n 0 (λ v l. mark_is v (omega arith)) ∙ rw size_is refl) (rw size_is refl) edges

-- its tables, filled
pub case_puts : (z : Sizes) (p : ℕ) (old rest : List ℕ) {cells marks owners : List ℕ} (es : List Edge) {w v : Writer} → let n = z.modes * z.states in
    n ≤ most_vertices → StartsMarked z.states cells es marks → owners ≡ table_of (remainder_by p) (length old) 0 → length old ≡ n
    → Puts (case_file (tabled z.source p (take n marks) (take n (owners ++ rest)) es)) w v → Puts (case_file (case_by z p cells es)) w v
unfolding case_by
case_puts z p old rest {owners = owners} es l f g n w =
    let q : owners ≡ table_of (remainder_by p) (z.modes * z.states) 0 = g ∙ ap (λ (m : ℕ). table_of (remainder_by p) m 0) n in
    let m : length owners ≡ z.modes * z.states = ap length q ∙ table_length (remainder_by p) (z.modes * z.states) 0 in
    let t : take (z.modes * z.states) (owners ++ rest) ≡ table_of (remainder_by p) (z.modes * z.states) 0 = rw (← m) (take-append_seam owners rest) ∙ q in
    puts_as (rw (f.marked (z.modes * z.states) l, t) refl) w
