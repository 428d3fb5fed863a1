-- The breadth-first search of Breadth.antt in the cells: edge by edge, vertex by vertex, and the stem read back from
-- it. Assumes nothing.
use mathlib.Core.Path.{◌≡◌, refl, sym, ap, subst, ◌∙◌}
use mathlib.Core.Bool.{true}
use mathlib.Core.List.{List, [], ◌∷◌, ◌++◌, append-nil}
use mathlib.Core.Logic.{◌⊎◌, inl, inr}
use Prim.Native.Nat.{ℕ, suc, ◌+◌, ◌-◌, ◌≤◌, ◌<◌}
use native.Mathlib.Omega.{arith}
use lib.ListN.{length, get_or, set, replicate, length-append, length-set, length-replicate, get_or-replicate}
use lib.Seq.{append_snoc}
use lib.IntN.{ℤ, pos}
use Rattle.model.specs.Case.{Case, Sound, most_vertices, most_run_edges}
use Rattle.model.specs.Graph.{edge, is_walk, walk_end, Reaches, Fewest}
use Rattle.model.proofs.Walks.{steps, walk_end_snoc}
use Rattle.model.proofs.Stems.{fewest_one, stem_fewest, stem_short}
use Rattle.model.specs.Answer.{stem}
use Rattle.search.specs.Cells.{Region, Below, Filled, from_at, to_at, found_at, queue_at, stem_at, cycle_at}
use Rattle.search.specs.Rep.{Own, Laid}
use Rattle.search.specs.Show.{tip, Made, Tree, by_tip, Stands, Searching, Scanning, Grown, Stemming, Written, Kept, at_source, by_edge}
use Rattle.search.proofs.Regions.{region_set, region_below, region_above}
use Rattle.search.proofs.Ranges.{own_to}
use Rattle.search.proofs.Frames.{from_is, to_is, region_snoc, region_kept, kept_set, laid_kept, written_none, written_cons}
use Rattle.search.proofs.Breadth.{all_found, found_by, get_d_front, long_snoc, scanned_grow, scanned_jump, scanned_next, scanned_skip, scanned_start, tree_few, tree_grow, tree_start}

end_low : (c : Case) → Sound c → (v : ℕ) (es : List ℕ) → v < c.graph.vertices → is_walk c.graph v es ≡ true → walk_end c.graph v es < c.graph.vertices
unfolding walk_end
end_low c ok v [] h w = h
end_low c ok v (e ∷ es) h w = let s = steps c.graph v e es w in end_low c ok (edge c.graph e).to es (ok.to e s.below) s.rest

reach_low : (c : Case) → Sound c → (v : ℕ) (es : List ℕ) → Reaches c.graph v es → v < c.graph.vertices
reach_low c ok v es w = rw w.arrives at (end_low c ok c.graph.source es ok.source w.walks)

module _ (c : Case) (ts : List (List ℕ)) (ms : List ℕ) (w : List ℤ) (d : Laid c w) (s : Stands c ts ms w) where
  pub stands_few : length ts ≤ c.graph.vertices
  stands_few = tree_few c.graph ts ms s.tree (reach_low c d.sound)

  mark_small : (v : ℕ) → get_or ms v 0 < length c.graph.edges + 2
  mark_small v = go (s.tree.known v)
    where
      by : (j : ℕ) → tip c.graph (get_or ts j []) ≡ v → Made c.graph ts ms j → get_or ms v 0 < length c.graph.edges + 2
      by j q (at_source p m) = let y : v ≡ c.graph.source = sym q ∙ (rw p (unfold walk_end in refl)) in rw (y, m) (omega arith)
      by j q (by_edge i e l b f p m) = let y : v ≡ (edge c.graph e).to = sym q ∙ (rw p (walk_end_snoc c.graph c.graph.source (get_or ts i []) e)) in rw (y, m) (omega arith)

      go : (get_or ms v 0 ≡ 0) ⊎ ((j : ℕ) × (j < length ts) × (tip c.graph (get_or ts j []) ≡ v)) → get_or ms v 0 < length c.graph.edges + 2
      go (inl z) = omega (arith, z)
      go (inr x) = by x.0 x.2 (s.tree.made x.0 x.1)

  pub mark_there : (v : ℕ) → v < c.graph.vertices → Below (most_run_edges + 2) (get_or w (found_at + v) (pos 0))
  mark_there v h = record { number = get_or ms v 0; is = s.marks.each v (omega (arith, s.tree.sized)); less = omega (arith, mark_small v, d.within.edges) }

  pub mark_is : (v r : ℕ) → v < c.graph.vertices → get_or w (found_at + v) (pos 0) ≡ pos r → r ≡ get_or ms v 0
  mark_is v r h q = let z : pos r ≡ pos (get_or ms v 0) = sym q ∙ s.marks.each v (omega (arith, s.tree.sized)) in cc

  tip_low : (j : ℕ) → j < length ts → tip c.graph (get_or ts j []) < c.graph.vertices
  tip_low j h = reach_low c d.sound _ (get_or ts j []) (s.tree.fewest j h).reaches

  pub queue_there : (j : ℕ) → j < length ts → Below most_vertices (get_or w (queue_at + j) (pos 0))
  queue_there j h = record { number = tip c.graph (get_or ts j []); is = s.queue.each j h; less = omega (arith, tip_low j h, d.within.vertices) }

  pub queue_is : (j r : ℕ) → j < length ts → get_or w (queue_at + j) (pos 0) ≡ pos r → tip c.graph (get_or ts j []) ≡ r
  queue_is j r h q = let z : pos r ≡ pos (tip c.graph (get_or ts j [])) = sym q ∙ s.queue.each j h in cc

-- ONE EDGE: u is what is loaded as its end, and r as that vertex's mark
module _ (c : Case) (h v e tail : ℕ) (w : List ℤ) (d : Laid c w) (s : Scanning c h v e tail w) (b : e < length c.graph.edges) (q : (edge c.graph e).from ≡ v) (u : ℕ) (a : get_or w (to_at + e) (pos 0) ≡ pos u) where
  end_is : u ≡ (edge c.graph e).to
  end_is = to_is c w e d b u a

  pub try_mark : Below (most_run_edges + 2) (get_or w (found_at + u) (pos 0))
  try_mark = mark_there c s.search.walks s.search.list w d s.search.stands u (rw end_is (d.sound.to e b))

  module _ (r : ℕ) (p : get_or w (found_at + u) (pos 0) ≡ pos r) where
    m : r ≡ get_or s.search.list (edge c.graph e).to 0
    m = mark_is c s.search.walks s.search.list w d s.search.stands u r (rw end_is (d.sound.to e b)) p ∙ ap (λ (k : ℕ). get_or s.search.list k 0) end_is

    pub try_skip : (r ≡ 0 → ⊥) → Scanning c h v (e + 1) tail w
    try_skip n =
        let y = s.search in
        record {
          search = record { walks = y.walks; list = y.list; stands = y.stands; scanned = scanned_skip c.graph y.walks y.list h e y.scanned (λ z. n (m ∙ z)); size = y.size };
          on = s.on;
          at = s.at;
        }

    try_tree : r ≡ 0 → Tree c.graph (s.search.walks ++ ((get_or s.search.walks h [] ++ (e ∷ [])) ∷ [])) (set s.search.list (edge c.graph e).to (e + 2))
    try_tree z = tree_grow c.graph s.search.walks s.search.list h e s.search.stands.tree s.search.scanned (omega (arith, s.on, s.search.size)) b (q ∙ sym s.at) (sym m ∙ z) (d.sound.to e b)

    pub try_room : r ≡ 0 → tail < c.graph.vertices
    try_room z = omega (arith, s.search.size, length-append s.search.walks ((get_or s.search.walks h [] ++ (e ∷ [])) ∷ []), tree_few c.graph _ _ (try_tree z) (reach_low c d.sound))

    pub try_grow : r ≡ 0 → Scanning c h v (e + 1) (tail + 1) (set (set w (found_at + u) (pos (e + 2))) (queue_at + tail) (pos u))
    try_grow z =
        let y = s.search in
        let g = c.graph in
        let new = get_or y.walks h [] ++ (e ∷ []) in
        let i : h < length y.walks = omega (arith, s.on, y.size) in
        let sized = y.stands.tree.sized in
        let low = d.sound.to e b in
        let n = d.within.vertices in
        let w1 = set w (found_at + (edge g e).to) (pos (e + 2)) in
        rw end_is (record {
          search = record {
            walks = y.walks ++ (new ∷ []);
            list = set y.list (edge g e).to (e + 2);
            stands = record {
              tree = try_tree z;
              marks = region_above pos 0 found_at (set y.list (edge g e).to (e + 2)) w1 (queue_at + tail) (pos (edge g e).to)
                  (region_set pos 0 found_at y.list w (edge g e).to (e + 2) y.stands.marks (omega arith) (omega (arith, d.long)))
                  (omega (arith, length-set y.list (edge g e).to (e + 2)));
              queue = subst (λ (k : ℕ). Region (by_tip g) [] queue_at (y.walks ++ (new ∷ [])) (set w1 (queue_at + tail) (pos k))) (walk_end_snoc g g.source (get_or y.walks h []) e)
                  (region_snoc (by_tip g) [] queue_at y.walks w1 (queue_at + tail) new
                  (region_below (by_tip g) [] queue_at y.walks w (found_at + (edge g e).to) (pos (e + 2)) y.stands.queue (omega arith))
                  (omega (arith, y.size))
                  (omega (arith, try_room z, d.long, length-set w (found_at + (edge g e).to) (pos (e + 2)))));
            };
            scanned = scanned_grow g y.walks y.list h e y.stands.tree y.scanned i b (q ∙ sym s.at) (sym m ∙ z) low;
            size = omega (arith, y.size, length-append y.walks (new ∷ []));
          };
          on = omega (arith, s.on);
          at = rw (get_d_front y.walks new h i) s.at;
        })

-- ONE VERTEX: v is what is loaded as the queue's head, and its edges are f to z
module _ (c : Case) (head tail : ℕ) (w : List ℤ) (l : Laid c w) (s : Searching c head 0 tail w) (i : head < tail) where
  on : head < length s.walks
  on = omega (arith, s.size)

  pub head_there : (head < most_vertices) × Below most_vertices (get_or w (queue_at + head) (pos 0))
  head_there = (omega (arith, on, stands_few c _ _ w l s.stands, l.within.vertices), queue_there c _ _ w l s.stands head on)

  module _ (v : ℕ) (a : get_or w (queue_at + head) (pos 0) ≡ pos v) where
    vertex_is : tip c.graph (get_or s.walks head []) ≡ v
    vertex_is = queue_is c _ _ w l s.stands head v on a

    pub vertex_low : v < c.graph.vertices
    vertex_low = rw vertex_is at (tip_low c s.walks s.list w l s.stands head on)

    module _ (f z : ℕ) (own : Own c v f z) where
      pub scan_start : Scanning c head v f tail w
      scan_start = record {
        search = record {
          walks = s.walks;
          list = s.list;
          stands = s.stands;
          scanned = scanned_jump c.graph s.walks s.list head f s.scanned (λ k h b o. own.before k h (o ∙ vertex_is));
          size = s.size;
        };
        on = i;
        at = vertex_is;
      }

      pub scan_edge : (e : ℕ) → f ≤ e → e < z → (e < length c.graph.edges) × ((edge c.graph e).from ≡ v)
      scan_edge e h g = (omega (arith, own.below), own.inside e h g)

      pub scan_done : (e last : ℕ) (w' : List ℤ) → Scanning c head v e last w' → z ≤ e → Searching c (head + 1) 0 last w'
      scan_done e last w' y h = let x = y.search in record {
        walks = x.walks;
        list = x.list;
        stands = x.stands;
        scanned = scanned_next c.graph x.walks x.list head e x.stands.tree x.scanned (omega (arith, x.size, y.on)) (λ k b o. omega (arith, own_to own k (o ∙ y.at) b));
        size = x.size;
      }

-- THE START, after the marks are cleared
pub search_start : (c : Case) (source n : ℕ) (w v : List ℤ) → Laid c w → source ≡ c.graph.source → n ≡ c.graph.vertices → Filled found_at n (pos 0) w v →
    Searching c 0 0 1 (set (set v (found_at + source) (pos 1)) queue_at (pos source))
unfolding walk_end
search_start c source n w v d p q f =
    let g = c.graph in
    let low = d.sound.source in
    let most = d.within.vertices in
    let zeros = replicate {A = ℕ} g.vertices 0 in
    let sized : length zeros ≡ g.vertices = length-replicate {A = ℕ} g.vertices 0 in
    let cleared : Region pos 0 found_at zeros v = record { each = λ i h. f.inside (found_at + i) (omega arith) (omega arith) ∙ ap pos (sym (get_or-replicate {A = ℕ} g.vertices i 0 0 (omega arith))) } in
    let v1 = set v (found_at + g.source) (pos 1) in
    let fits : queue_at < length v1 = omega (arith, length-set v (found_at + g.source) (pos 1), f.long, d.long) in
    rw p (record {
      walks = [] ∷ [];
      list = set zeros g.source 1;
      stands = record {
        tree = tree_start g low;
        marks = region_above pos 0 found_at (set zeros g.source 1) v1 queue_at (pos g.source) (region_set pos 0 found_at zeros v g.source 1 cleared (omega arith) (omega (arith, f.long, d.long))) (omega (arith, length-set zeros g.source 1));
        queue = region_snoc (by_tip g) [] queue_at [] v1 queue_at [] (record { each = λ i h. absurd (omega arith) }) refl fits;
      };
      scanned = scanned_start g low;
      size = refl;
    })

-- THE GOAL
module _ (c : Case) (head tail goal : ℕ) (w : List ℤ) (d : Laid c w) (s : Searching c head 0 tail w) where
  pub search_few : tail ≤ c.graph.vertices
  search_few = omega (arith, s.size, stands_few c _ _ w d s.stands)

  pub goal_mark : goal < c.graph.vertices → Below (most_run_edges + 2) (get_or w (found_at + goal) (pos 0))
  goal_mark h = mark_there c _ _ w d s.stands goal h

  grown : (j : ℕ) × (j < length s.walks) × (tip c.graph (get_or s.walks j []) ≡ goal) → Grown c goal w
  grown x = record { walks = s.walks; list = s.list; stands = s.stands; number = x.0; below = x.1; at = x.2 }

  pub goal_marked : (r : ℕ) → goal < c.graph.vertices → get_or w (found_at + goal) (pos 0) ≡ pos r → (r ≡ 0 → ⊥) → Grown c goal w
  goal_marked r h q n = grown (found_by c.graph s.walks s.list s.stands.tree goal (λ z. n (mark_is c _ _ w d s.stands goal r h q ∙ z)))

  pub goal_found : tail ≤ head → (es : List ℕ) → Reaches c.graph goal es → Grown c goal w
  goal_found h es r = grown (all_found c.graph s.walks s.list s.stands.tree head 0 s.scanned (omega (arith, s.size)) es goal r)

-- BACK from the goal
stands_kept : (c : Case) (ts : List (List ℕ)) (ms : List ℕ) (w v : List ℤ) → Laid c w → Kept stem_at w v → Stands c ts ms w → Stands c ts ms v
stands_kept c ts ms w v d k s = record {
  tree = s.tree;
  marks = region_kept pos 0 found_at ms stem_at w v k (omega (arith, s.tree.sized, d.within.vertices)) s.marks;
  queue = region_kept (by_tip c.graph) [] queue_at ts stem_at w v k (omega (arith, stands_few c ts ms w d s, d.within.vertices)) s.queue;
}

module _ (c : Case) (goal : ℕ) (w : List ℤ) (d : Laid c w) (r : Grown c goal w) where
  goal_low : goal < c.graph.vertices
  goal_low = rw r.at at (tip_low c r.walks r.list w d r.stands r.number r.below)

  pub grown_mark : (goal < most_vertices) × Below (most_run_edges + 2) (get_or w (found_at + goal) (pos 0))
  grown_mark = (omega (arith, goal_low, d.within.vertices), mark_there c r.walks r.list w d r.stands goal goal_low)

  pub stem_start : (mark : ℕ) → get_or w (found_at + goal) (pos 0) ≡ pos mark → Stemming c goal mark cycle_at w
  stem_start mark q =
      let t = get_or r.walks r.number [] in
      let best : Fewest c.graph goal t = subst (λ (v : ℕ). Fewest c.graph v t) r.at (r.stands.tree.fewest r.number r.below) in
      record {
        grown = r.walks;
        list = r.list;
        stands = r.stands;
        laid = d;
        number = r.number;
        below = r.below;
        mark = rw r.at (sym (mark_is c r.walks r.list w d r.stands goal mark goal_low q));
        so_far = [];
        written = written_none c cycle_at w;
        whole = append-nil t ∙ fewest_one c.graph goal t (stem c.graph goal) best (stem_fewest c d.sound goal t best.reaches);
        short = omega (arith, stem_short c d.sound goal t best.reaches, d.within.vertices);
      }

module _ (c : Case) (goal mark at : ℕ) (w : List ℤ) (s : Stemming c goal mark at w) where
  -- the last edge of the walk that is left
  record Last : Type 0 where
    before : ℕ
    lower : before < s.number
    below : mark - 2 < length c.graph.edges
    from : (edge c.graph (mark - 2)).from ≡ tip c.graph (get_or s.grown before [])
    split : get_or s.grown s.number [] ≡ get_or s.grown before [] ++ ((mark - 2) ∷ [])

  last_of : 1 < mark → Made c.graph s.grown s.list s.number → Last
  last_of h (at_source p q) = absurd (let y : tip c.graph (get_or s.grown s.number []) ≡ c.graph.source = rw p (unfold walk_end in refl) in omega (arith, q, rw y at s.mark))
  last_of h (by_edge i e l b f p q) =
      let y : tip c.graph (get_or s.grown s.number []) ≡ (edge c.graph e).to = rw p (walk_end_snoc c.graph c.graph.source (get_or s.grown i []) e) in
      let x : e ≡ mark - 2 = omega (arith, q, rw y at s.mark) in
      record {
        before = i;
        lower = l;
        below = omega arith;
        from = subst (λ (k : ℕ). (edge c.graph k).from ≡ tip c.graph (get_or s.grown i [])) x f;
        split = subst (λ (k : ℕ). get_or s.grown s.number [] ≡ get_or s.grown i [] ++ (k ∷ [])) x p;
      }

  module _ (h : 1 < mark) where
    last : Last
    last = last_of h (s.stands.tree.made s.number s.below)

    pub stem_edge : mark - 2 < length c.graph.edges
    stem_edge = last.below

    pub stem_room : stem_at < at
    stem_room = omega (arith, s.written.ends, s.short, ap length s.whole, length-append (get_or s.grown s.number []) s.so_far, ap length last.split, long_snoc (get_or s.grown last.before []) (mark - 2))

    -- v is what is loaded as where it starts, and k as that vertex's mark
    module _ (v : ℕ) (a : get_or w (from_at + (mark - 2)) (pos 0) ≡ pos v) where
      start_is : v ≡ tip c.graph (get_or s.grown last.before [])
      start_is = from_is c w (mark - 2) s.laid stem_edge v a ∙ last.from

      start_low : v < c.graph.vertices
      start_low = rw start_is (tip_low c s.grown s.list w s.laid s.stands last.before (omega (arith, last.lower, s.below)))

      pub stem_mark : Below (most_run_edges + 2) (get_or w (found_at + v) (pos 0))
      stem_mark = mark_there c s.grown s.list w s.laid s.stands v start_low

      pub stem_step : (k : ℕ) → get_or w (found_at + v) (pos 0) ≡ pos k → Stemming c goal k (at - 1) (set w (at - 1) (pos (mark - 2)))
      stem_step k q =
          let t = get_or s.grown last.before [] in
          let i : suc (at - 1) ≡ at = omega (arith, stem_room) in
          let kept = kept_set stem_at w (at - 1) (pos (mark - 2)) (omega (arith, stem_room)) in
          record {
            grown = s.grown;
            list = s.list;
            stands = stands_kept c s.grown s.list w _ s.laid kept s.stands;
            laid = laid_kept c stem_at w _ (omega arith) kept s.laid;
            number = last.before;
            below = omega (arith, last.lower, s.below);
            mark = rw (← start_is) (sym (mark_is c s.grown s.list w s.laid s.stands v k start_low q));
            so_far = (mark - 2) ∷ s.so_far;
            written = written_cons c (mark - 2) (at - 1) cycle_at s.so_far w (rw i s.written) stem_edge (omega (arith, s.written.ends, s.laid.long));
            whole = sym (append_snoc t (mark - 2) s.so_far) ∙ ap (λ (l : List ℕ). l ++ s.so_far) (sym last.split) ∙ s.whole;
            short = s.short;
          }

  pub stem_done : mark ≤ 1 → Written c (stem c.graph goal) at cycle_at w
  stem_done h = go (s.stands.tree.made s.number s.below)
    where
      go : Made c.graph s.grown s.list s.number → Written c (stem c.graph goal) at cycle_at w
      go (at_source p q) = subst (λ (es : List ℕ). Written c es at cycle_at w) (sym (ap (λ (l : List ℕ). l ++ s.so_far) p) ∙ s.whole) s.written
      go (by_edge i e l b f p q) =
          let y : tip c.graph (get_or s.grown s.number []) ≡ (edge c.graph e).to = rw p (walk_end_snoc c.graph c.graph.source (get_or s.grown i []) e) in
          absurd (omega (arith, q, rw y at s.mark))
