-- The product of a chart and a claim: its case is what 003 says, sound and within the limits, and no other text is one.
use mathlib.Core.Path.{◌≡◌, refl, sym, ap, subst, ◌∙◌}
use mathlib.Core.Bool.{Bool, true, false, ◌&&◌, cond}
use mathlib.Core.List.{List}
use mathlib.Core.Option.{none}
use Prim.Native.Nat.{ℕ, ◌+◌, ◌*◌, ◌/◌, ◌%◌, ◌≤◌, ◌<◌}
use native.Mathlib.Nat.{zero-add, mul-le-mul, mod-lt}
use native.Mathlib.Omega.{arith}
use lib.Dec.{leb, eqb}
use lib.ListN.{length, get_or}
use lib.Seq.{ext_get_or}
use borrow.Author.Tests.{ltb-false, leb-true, eqb-true, eq-eqb}
use Rattle.text.proofs.Tests.{and_both, both_true}
use Rattle.model.specs.Graph.{Edge, Graph, edge, mark, leaves, table_of}
use Rattle.model.specs.Case.{Case, owner, most_edges, most_workers, Sound, Within}
use Rattle.model.specs.CaseFile.{accepted, case_in}
use Rattle.model.specs.CaseText.{case_file, all_rise}
use Rattle.model.specs.Chart.{Chart, next_mode, chart_in, ChartSound}
use Rattle.model.specs.ChartPromise.{ChartsSound}
use Rattle.model.specs.Claim.{Claim, state, claim_moves, claim_in, ClaimSound}
use Rattle.model.specs.ClaimEntry.{mark_of}
use Rattle.model.specs.ClaimPromise.{ClaimsRight}
use Rattle.model.specs.Product.{Automaton, product, chart_automaton, claim_automaton, has_edge, goes_on, state_mark, graph_of, product_graph, remainder_by, product_case, graph_in, product_refusal, build_refusal}
use Rattle.model.specs.ProductPromise.{OnlyFile, ReadsBack, Joint, EdgeIn, IsProduct, OnlyProduct}
use Rattle.model.specs.Promise.{FilesSound}
use Rattle.model.proofs.OnlyFile.{only_file, accepted_rise}
use Rattle.model.proofs.Accepting.{first_zero, refuse_zero, refuse_not, files_sound}
use Rattle.model.proofs.ReadsBack.{reads_back}
use Rattle.model.proofs.Rising.{In, in_at, at_in, rising_same}
use Rattle.model.proofs.Pairs.{pair_first, pair_second, pair_below, Pair, pair}
use Rattle.model.proofs.ClaimWhole.{claims_right}
use Rattle.model.proofs.ChartSound.{charts_sound}
use Rattle.model.proofs.Automata.{edge_by, by_edge, Move, edge_listed, listed_edge, goes_on_leaves, edges_rise}
use Rattle.model.proofs.Tools.{table_length, table_at}

-- a case is what it has
abbrev case_of : (vertices source file_edges workers : ℕ) → (marks owners : List ℕ) → (edges : List Edge) → Case
case_of n s l p ms os es = record { graph = record { vertices = n; source = s; accepting = ms; edges = es }; file_edges = l; workers = p; owners = os }

same_case : {n m s t l k p q : ℕ} {ms ns os ps : List ℕ} {es fs : List Edge} → n ≡ m → s ≡ t → l ≡ k → p ≡ q → ms ≡ ns → os ≡ ps → es ≡ fs → case_of n s l p ms os es ≡ case_of m t k q ns ps fs
same_case a b l c d e f = rw (a, b, l, c, d, e, f) refl

-- AN EDGE of a graph is a member of its edges
in_edges : (e : Edge) (g : Graph) → EdgeIn e g → In e g.edges
unfolding edge
in_edges e g l = subst (λ (d : Edge). In d g.edges) l.is (in_at g.edges l.number l.below)

edge_there : (e : Edge) (g : Graph) → In e g.edges → EdgeIn e g
unfolding edge
edge_there e g i = let (j, b, q) = at_in g.edges e i in record { number = j; below = b; is = q }

module _ (h : Chart) (k : Claim) where
  abbrev pub size : ℕ
  size = length k.states

  abbrev pub both : Automaton
  both = product (chart_automaton h) (claim_automaton k)

  abbrev pub vertex : (q s : ℕ) → ℕ
  vertex q s = q * size + s

  -- AN EDGE is a joint move
  pub vertex_moves : (f q s r t : ℕ) → s < size → t < size → both.moves f (vertex q s) (vertex r t) ≡ (eqb (next_mode h q f) r && claim_moves k f s t)
  unfolding product chart_automaton claim_automaton
  vertex_moves f q s r t hs ht = rw (pair_first size q s hs, pair_second size q s hs, pair_first size r t ht, pair_second size r t ht) refl

  joint_moves : (q s r t : ℕ) → s < size → t < size → Joint h k q s r t → has_edge both (vertex q s) (vertex r t) ≡ true
  joint_moves q s r t hs ht j =
      edge_by both (vertex q s) (vertex r t) j.flags (unfold product chart_automaton in j.below)
      (vertex_moves j.flags q s r t hs ht ∙ both_true (eqb (next_mode h q j.flags) r) (claim_moves k j.flags s t) (eq-eqb _ _ j.mode) j.claim)

  moves_joint : (q s r t : ℕ) → s < size → t < size → has_edge both (vertex q s) (vertex r t) ≡ true → Joint h k q s r t
  unfolding product chart_automaton
  moves_joint q s r t hs ht e =
      let (f, l, m) = by_edge both (vertex q s) (vertex r t) e in
      let p = and_both (eqb (next_mode h q f) r) (claim_moves k f s t) (sym (vertex_moves f q s r t hs ht) ∙ m) in
      record { flags = f; below = l; mode = eqb-true (next_mode h q f) r p.0; claim = p.1 }

  -- THE CASE is the product
  accepts_right : (q s : ℕ) → s < size → both.accepts (vertex q s) ≡ (state k s).accepting
  unfolding product chart_automaton claim_automaton
  accepts_right q s hs = rw (pair_second size q s hs) refl

  -- a vertex goes on exactly if an edge leaves it
  pub goes_on_right : (v : ℕ) → v < h.modes * size → goes_on both v ≡ leaves (product_graph h k).edges v
  unfolding graph_of product chart_automaton claim_automaton
  goes_on_right v l = goes_on_leaves both v l

  marks_right : (q s : ℕ) → q < h.modes → s < size → mark (product_graph h k) (vertex q s) ≡ mark_of ((state k s).accepting && leaves (product_graph h k).edges (vertex q s))
  unfolding graph_of product chart_automaton claim_automaton
  marks_right q s hq hs =
      let l = pair_below size q s h.modes hs hq in
      table_at (state_mark both) (h.modes * size) 0 (vertex q s) l ∙ rw (zero-add (vertex q s), accepts_right q s hs, goes_on_right (vertex q s) l) refl

  edge_move : (q s r t : ℕ) → q < h.modes → s < size → r < h.modes → t < size → Joint h k q s r t → In (record { from = vertex q s; to = vertex r t }) (product_graph h k).edges
  unfolding graph_of product chart_automaton claim_automaton
  edge_move q s r t hq hs hr ht j =
      edge_listed both (record { from = vertex q s; to = vertex r t })
      (record { from = pair_below size q s h.modes hs hq; to = pair_below size r t h.modes ht hr; moves = joint_moves q s r t hs ht j })

  pub move_edge : (e : Edge) → In e (product_graph h k).edges → Move both e
  unfolding graph_of
  move_edge e i = listed_edge both e i

  pub is_product : (p : ℕ) → IsProduct h k p (product_case h k p)
  unfolding product_case graph_of product chart_automaton claim_automaton owner
  is_product p =
      record {
        vertices = refl;
        source = refl;
        workers = refl;
        marks = marks_right;
        owners = λ v l. table_at (remainder_by p) (h.modes * size) 0 v l ∙ rw (zero-add v) refl;
        edges = λ q s r t hq hs hr ht. (
          (λ l. moves_joint q s r t hs ht (move_edge (record { from = vertex q s; to = vertex r t }) (in_edges _ _ l)).moves),
          (λ j. edge_there _ _ (edge_move q s r t hq hs hr ht j)),
        );
      }

  -- NO OTHER CASE is: its lists have the same lengths and entries, and its edges, which rise, the same members
  module _ (p : ℕ) (c : Case) (ok : Sound c) (r : all_rise none c.graph.edges ≡ true) (is : IsProduct h k p c) where
    apart : (v : ℕ) → v < c.graph.vertices → Pair h.modes size v
    apart v l = pair h.modes size v (rw is.vertices at l)

    same_owners : c.owners ≡ table_of (remainder_by p) (h.modes * size) 0
    unfolding owner
    same_owners = ext_get_or 0 c.owners (table_of (remainder_by p) (h.modes * size) 0) (ok.owned ∙ is.vertices ∙ sym (table_length (remainder_by p) (h.modes * size) 0)) each
      where
        each : (v : ℕ) → v < length c.owners → get_or c.owners v 0 ≡ get_or (table_of (remainder_by p) (h.modes * size) 0) v 0
        each v l =
            let l' : v < c.graph.vertices = rw ok.owned at l in
            is.owners v l' ∙ sym (table_at (remainder_by p) (h.modes * size) 0 v (rw is.vertices at l') ∙ rw (zero-add v) refl)

    same_edges : c.graph.edges ≡ (product_graph h k).edges
    same_edges = rising_same none c.graph.edges (product_graph h k).edges r (unfold graph_of in (edges_rise both)) there here
      where
        whole : (e : Edge) → Pair h.modes size e.from → Pair h.modes size e.to
            → record { from = vertex (e.from / size) (e.from % size); to = vertex (e.to / size) (e.to % size) } ≡ e
        whole e a b = rw (a.whole, b.whole) refl

        there : (e : Edge) → In e c.graph.edges → In e (product_graph h k).edges
        there e i =
            let l = edge_there e c.graph i in
            let a = apart e.from (subst (λ (d : Edge). d.from < c.graph.vertices) l.is (ok.from l.number l.below)) in
            let b = apart e.to (subst (λ (d : Edge). d.to < c.graph.vertices) l.is (ok.to l.number l.below)) in
            let j = (is.edges (e.from / size) (e.from % size) (e.to / size) (e.to % size) a.first a.second b.first b.second).0 (subst (λ (d : Edge). EdgeIn d c.graph) (sym (whole e a b)) l) in
            subst (λ (d : Edge). In d (product_graph h k).edges) (whole e a b)
            (edge_move (e.from / size) (e.from % size) (e.to / size) (e.to % size) a.first a.second b.first b.second j)

        here : (e : Edge) → In e (product_graph h k).edges → In e c.graph.edges
        here e i =
            let m = move_edge e i in
            let a = pair h.modes size e.from (unfold product chart_automaton claim_automaton in m.from) in
            let b = pair h.modes size e.to (unfold product chart_automaton claim_automaton in m.to) in
            let j = moves_joint (e.from / size) (e.from % size) (e.to / size) (e.to % size) a.second b.second (subst (λ (d : Edge). has_edge both d.from d.to ≡ true) (sym (whole e a b)) m.moves) in
            subst (λ (d : Edge). In d c.graph.edges) (whole e a b)
            (in_edges _ _ ((is.edges (e.from / size) (e.from % size) (e.to / size) (e.to % size) a.first a.second b.first b.second).1 j))

    same_marks : c.graph.accepting ≡ (product_graph h k).accepting
    unfolding graph_of product chart_automaton claim_automaton
    same_marks = ext_get_or 0 c.graph.accepting (table_of (state_mark both) (h.modes * size) 0) (ok.marks ∙ is.vertices ∙ sym (table_length (state_mark both) (h.modes * size) 0)) each
      where
        each : (v : ℕ) → v < length c.graph.accepting → get_or c.graph.accepting v 0 ≡ get_or (table_of (state_mark both) (h.modes * size) 0) v 0
        each v l =
            let d = apart v (rw ok.marks at l) in
            ap (λ (x : ℕ). mark c.graph x) (sym d.whole) ∙ is.marks (v / size) (v % size) d.first d.second
            ∙ ap (λ (es : List Edge). mark_of ((state k (v % size)).accepting && leaves es (vertex (v / size) (v % size)))) same_edges
            ∙ sym (marks_right (v / size) (v % size) d.first d.second) ∙ ap (λ (x : ℕ). mark (product_graph h k) x) d.whole

    pub only_case : c.file_edges ≡ length c.graph.edges → c ≡ product_case h k p
    unfolding product_case graph_of product chart_automaton claim_automaton
    only_case f = same_case is.vertices is.source (f ∙ ap length same_edges) is.workers same_marks same_owners same_edges

pub only_product : OnlyProduct
unfolding OnlyProduct OnlyFile FilesSound
only_product h k p bs e is =
    let s = files_sound bs e in
    sym (only_file bs e) ∙ ap case_file (only_case h k p (case_in bs) s.0 (accepted_rise bs e) is (unfold case_in in refl))

-- SOUND and within the limits, where nothing refuses: so its text is read back as it
pub record Right (h : Chart) (k : Claim) (p : ℕ) : Type 0 where
  pub product : IsProduct h k p (product_case h k p)
  pub accepted : accepted (case_file (product_case h k p)) ≡ true
  pub back : case_in (case_file (product_case h k p)) ≡ product_case h k p

one_bit : (b : Bool) → cond b 1 0 < 2
one_bit true = omega arith
one_bit false = omega arith

module _ (h : Chart) (k : Claim) (p : ℕ) (hs : ChartSound h) (ks : ClaimSound k) (some : 1 ≤ p) where
  product_sound : Sound (product_case h k p)
  unfolding product_case graph_of product chart_automaton claim_automaton owner edge
  product_sound =
      let n = h.modes * length k.states in
      record {
        source = pair_below (length k.states) h.start k.start h.modes ks.start hs.start;
        marks = table_length (state_mark (both h k)) n 0;
        owned = table_length (remainder_by p) n 0;
        mark = λ v l. rw (table_at (state_mark (both h k)) n 0 v l) (one_bit ((both h k).accepts (0 + v) && goes_on (both h k) (0 + v)));
        owner = λ v l. rw (table_at (remainder_by p) n 0 v l) (mod-lt (0 + v) some);
        from = λ i l. (move_edge h k _ (in_at (product_graph h k).edges i l)).from;
        to = λ i l. (move_edge h k _ (in_at (product_graph h k).edges i l)).to;
        file = omega arith;
        loops = λ i l b. absurd (omega arith);
      }

  product_within : p ≤ most_workers → length (product_graph h k).edges ≤ most_edges → Within (product_case h k p)
  unfolding product_case graph_of product chart_automaton claim_automaton
  product_within l m = record { vertices = omega (arith, mul-le-mul hs.modes ks.states); file = m; edges = omega arith; workers = l }

  product_rises : all_rise none (product_case h k p).graph.edges ≡ true
  unfolding product_case graph_of
  product_rises = edges_rise (both h k)

  pub right : p ≤ most_workers → length (product_graph h k).edges ≤ most_edges → Right h k p
  unfolding ReadsBack product_case
  right l m =
      let w = product_within l m in
      let b = reads_back (product_case h k p) product_sound w refl product_rises in
      record { product = is_product h k p; accepted = b.0; back = b.1 }

-- NO REFUSAL, of chart and claim, and of the workers
pub record Unrefused (bs cs : List ℕ) : Type 0 where
  pub chart : ChartSound (chart_in bs)
  pub claim : ClaimSound (claim_in cs)
  pub edges : length (graph_in bs cs).edges ≤ most_edges

pub unrefused : (bs cs : List ℕ) → product_refusal bs cs ≡ 0 → Unrefused bs cs
unfolding product_refusal ChartsSound ClaimsRight
unrefused bs cs e =
    let a = first_zero _ _ e in
    let b = first_zero _ _ a.1 in
    let d = first_zero _ _ (first_zero _ _ b.1).1 in
    record {
      chart = charts_sound bs a.0;
      claim = (claims_right cs b.0).sound;
      edges = ltb-false most_edges (length (graph_in bs cs).edges) (refuse_zero _ 20 d.0);
    }

pub built_right : (bs cs : List ℕ) (p o : ℕ) → build_refusal bs cs p o ≡ 0 → Right (chart_in bs) (claim_in cs) p
unfolding build_refusal
built_right bs cs p o e =
    let a = first_zero _ _ (first_zero _ _ e).1 in
    let l = and_both (leb 1 p) (leb p most_workers) (refuse_not (leb 1 p && leb p most_workers) 4 a.0) in
    let u = unrefused bs cs (first_zero _ _ a.1).0 in
    right (chart_in bs) (claim_in cs) p u.chart u.claim (leb-true 1 p l.0) (leb-true p most_workers l.1) u.edges
