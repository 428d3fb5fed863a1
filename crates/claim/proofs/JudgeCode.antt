-- How the reader of a whole claim in src/lib.rt meets its contract: a law for each return. Assumes nothing.
use mathlib.Core.Path.{◌≡◌, refl, sym, ap, subst, ◌∙◌}
use mathlib.Core.Bool.{Bool, true, false}
use mathlib.Core.List.{List, [], ◌∷◌, ◌++◌}
use Prim.Native.Nat.{ℕ, ◌+◌, ◌-◌, ◌<◌, ◌≤◌}
use native.Mathlib.Nat.{sub-zero}
use native.Mathlib.Omega.{arith}
use lib.ListN.{length, get_or, take, drop, replicate, length-replicate, get_or-append}
use lib.Seq.{length-take-le, get_or-take, get_or-drop, get_or-append-add, ext_get_or}
use borrow.Author.Tests.{ne_eqb}
use Rattle.text.specs.Ascii.{ascii}
use Rattle.text.specs.Lines.{equal}
use Rattle.text.proofs.Tests.{clash}
use Rattle.model.specs.ClaimTokens as T
use Rattle.model.specs.ClaimTokens.{lex, tokens, is_header, is_name, opens_so, opens}
use Rattle.model.specs.ClaimLabels.{bit}
use Rattle.model.specs.ClaimGrammar.{State, Syntax, state_count, count_in, taken}
use Rattle.model.specs.ClaimTable.{opening, in_items, in_lines, whole, go, step, Told, told, taken_as, refused, refusal_of as told_number, claim_told, claim_refusal}
use Rattle.model.specs.Claim.{Claim, ClaimState, state, some_edge, some_target, claim_moves, claim_leads, is_marked, edges_of, state_of_line, line_of, states_from, claim_of, tree_of, claim_in}
use Rattle.model.specs.ClaimEntry.{mark_of, NameAt}
use Rattle.model.proofs.Tools.{getD_replicate_same}
use Rattle.model.proofs.ClaimDefinite.{refused_some}
use Rattle.model.proofs.ClaimGood.{told_taken}
use Rattle.model.proofs.ClaimSound.{state_is_line, length_states}
use Rattle.claim.specs.Reads.{tokens_at, claim_tokens}
use Rattle.claim.specs.HeaderSays.{HeaderSays}
use Rattle.claim.specs.Cells.{name_cell, length_cell, lead_cell, move_cell, claim_cells, LinesHeld, ClaimHeld}
use Rattle.claim.specs.BodySays.{BodySays}
use Rattle.claim.specs.Judging.{OpeningSays, TreeRead, TextRead, counts_of, judged_claim, IntoSays, ClaimRead}
use Rattle.claim.specs.declared.Counts.{Counts}
use Rattle.model.proofs.Bits.{bit_zero}
use Rattle.std.specs.Prelude.{is_err, IsErr, Result, Ok, Err}
use Rattle.model.specs.Refusals.{number, refusal_of}
use Rattle.model.specs.declared.refusal.Refusal.{Refusal}
use Rattle.model.specs.declared.refusal.Refusal.TheVariants.{LongFile, NoVersion, OtherVersion, CaseLayout, OutOfRange, VertexLine, EdgeEnd, EdgeOrder, ActRange, Unended, ShortBuffer, AnswerLayout, NotShown, NoClaim, ClaimGrammar, NotTaken, ChartFault, NoRule, TwoRules, CountsDiffer, TooManyEdges}

-- THE OPENING of the whole text, and of the part that is looked at
all_tokens : (s : List ℕ) → tokens_at s (length s) 0 ≡ lex (length s) T.between s
all_tokens s = ap (λ (k : ℕ). lex k T.between s) (sub-zero (length s))

front_tokens : (s : List ℕ) → claim_tokens s 0 ≡ tokens s
unfolding tokens
front_tokens s = refl

opens_by : (s : List ℕ) → opens_so (tokens_at s (length s) 0) ≡ opens s
unfolding opens
opens_by s = ap opens_so (all_tokens s)

so_opened : (ts : List T.Token) → opens_so (T.header (ascii "HOA") ∷ T.name (ascii "v1") ∷ ts) ≡ true
unfolding opens_so is_header is_name equal
so_opened ts = refl

pub text_opens : (s : List ℕ) (n : ℕ) → OpeningSays s (length s) (Ok n) → opens s ≡ true
text_opens s n said = sym (opens_by s) ∙ (ap opens_so said.0 ∙ so_opened _)

told_unopened : (s : List ℕ) → opens s ≡ false → claim_told s ≡ refused 14
unfolding claim_told
told_unopened s e = rw e refl

pub text_unopened : (s : List ℕ) (j : Refusal) → OpeningSays s (length s) (Err j) → (w v : List ℕ) → TextRead s (Err NoClaim) w v
text_unopened s j said w v = told_unopened s (sym (opens_by s) ∙ said.0)

told_opened : (s : List ℕ) → opens s ≡ true → claim_told s ≡ told (go opening) (claim_tokens s 0)
unfolding claim_told
told_opened s e = rw e (ap (λ (ts : List T.Token). told (go opening) ts) (sym (front_tokens s)))

past_opening : (ts : List T.Token) → told (go opening) (T.header (ascii "HOA") ∷ T.name (ascii "v1") ∷ ts) ≡ told (go (in_items whole [])) ts
unfolding told step is_header is_name equal
past_opening ts = refl

-- THE TEXT, opened
module _ (s : List ℕ) (opened : opens s ≡ true) (w v : List ℕ) where
  pub opened_torn : (j : Refusal) → OpeningSays s T.longest_claim (Err j) → TextRead s (Err j) w v
  opened_torn j said = told_opened s opened ∙ said.1

  module _ (n : ℕ) (said : OpeningSays s T.longest_claim (Ok n)) where
    to_items : claim_told s ≡ told (go (in_items whole [])) (claim_tokens s n)
    to_items = told_opened s opened ∙ (ap (λ (ts : List T.Token). told (go opening) ts) said.0 ∙ past_opening _)

    pub header_torn : (j : Refusal) → HeaderSays s n (Err j) → TextRead s (Err j) w v
    header_torn j header = to_items ∙ header

    module _ (k : Counts) (m : ℕ) (header_there : HeaderSays s n (Ok (k, m))) where
      to_lines : claim_told s ≡ told (go (in_lines header_there.0 [])) (claim_tokens s m)
      to_lines = to_items ∙ header_there.3

      pub body_torn : (j : Refusal) → BodySays s k.states k.propositions m (Err j) w v → TextRead s (Err j) w v
      body_torn j b = to_lines ∙ b header_there.0 header_there.1.states header_there.1.propositions

      pub body_taken : BodySays s k.states k.propositions m (Ok tt) w v → TextRead s (Ok k) w v
      body_taken b =
          record {
            items = header_there.0;
            states = b.0;
            taken_so = to_lines ∙ b.1 header_there.0 header_there.1.states header_there.1.propositions;
            counts = header_there.1;
            held = b.2;
          }

-- CELLS: all zeros hold no line
zero_cell : (n i : ℕ) → ◌≡◌ {A = ℕ} (get_or (replicate n 0) i 0) 0
zero_cell n i = getD_replicate_same n i 0

pub zeros_hold : (s : List ℕ) (n : ℕ) → LinesHeld s [] (replicate n 0)
unfolding line_of is_marked some_target some_edge edges_of
zeros_hold s n c h =
    record {
      mark = zero_cell n c;
      name = (zero_cell n (name_cell c), zero_cell n (length_cell c));
      leads = λ d. ap (λ (x : ℕ). bit x d) (zero_cell n (lead_cell c)) ∙ bit_zero d;
      moves = λ f d k. ap (λ (x : ℕ). bit x d) (zero_cell n (move_cell c f)) ∙ bit_zero d;
    }

-- lines that are held, as states of a claim
pub lines_claim : (s : List ℕ) (k : Claim) (ls : List State) (w : List ℕ) → ((c : ℕ) → state k c ≡ state_of_line (line_of c ls)) → LinesHeld s ls w → ClaimHeld s k w
unfolding claim_leads claim_moves state_of_line
lines_claim s k ls w by held =
    record {
      marks = λ c h. (held c h).mark ∙ ap (λ (x : ClaimState). mark_of x.accepting) (sym (by c));
      names = λ c h. subst (λ (x : ClaimState). NameAt s x.name (get_or w (name_cell c) 0) (get_or w (length_cell c) 0)) (sym (by c)) (held c h).name;
      leads = λ c d h. (held c h).leads d ∙ ap (λ (x : ClaimState). some_target x.edges d) (sym (by c));
      moves = λ c f d h g. (held c h).moves f d g ∙ ap (λ (x : ClaimState). some_edge x.edges f d) (sym (by c));
    }

-- a text that is refused has a claim without states
pub no_claim : (s : List ℕ) (k : ℕ) → claim_told s ≡ refused k → (c : ℕ) → state (claim_in s) c ≡ state_of_line (line_of c [])
unfolding claim_in tree_of claim_of state states_from count_in state_count state_of_line line_of is_marked edges_of
no_claim s k e c = rw e refl

-- THE JUDGE
of_number : (r : Refusal) → refusal_of (number r) ≡ r
unfolding refusal_of
of_number LongFile = refl
of_number NoVersion = refl
of_number OtherVersion = refl
of_number CaseLayout = refl
of_number OutOfRange = refl
of_number VertexLine = refl
of_number EdgeEnd = refl
of_number EdgeOrder = refl
of_number ActRange = refl
of_number Unended = refl
of_number ShortBuffer = refl
of_number AnswerLayout = refl
of_number NotShown = refl
of_number NoClaim = refl
of_number ClaimGrammar = refl
of_number NotTaken = refl
of_number ChartFault = refl
of_number NoRule = refl
of_number TwoRules = refl
of_number CountsDiffer = refl
of_number TooManyEdges = refl

refused_by : (s : List ℕ) (r : Refusal) → claim_told s ≡ refused (number r) → Err r ≡ judged_claim s
unfolding judged_claim claim_refusal told_number
refused_by s r e = rw (e, ne_eqb (number r) 0 (refused_some s (number r) e), of_number r) refl

pub into_refused : (s : List ℕ) (r : Result Counts Refusal) → IsErr r → (w v : List ℕ) → TextRead s r w v → (n : ℕ) → IntoSays s r (replicate n 0)
into_refused s (Err r) h w v e n =
    record { answer = refused_by s r e; held = lines_claim s (claim_in s) [] (replicate n 0) (no_claim s (number r) e) (zeros_hold s n) }
into_refused s (Ok c) h w v e n = clash false h refl

module _ (s : List ℕ) (c : Counts) (w v : List ℕ) (t : TreeRead s c w v) where
  abbrev tree : Syntax
  tree = record { items = t.items; states = t.states }

  claim_is : claim_in s ≡ claim_of tree
  unfolding claim_in tree_of
  claim_is = rw t.taken_so refl

  accepted_told : (b : Bool) → opens s ≡ b → told (go opening) (tokens s) ≡ taken_as tree
  accepted_told true e = ap (λ (ts : List T.Token). told (go opening) ts) (sym (front_tokens s)) ∙ (sym (told_opened s e) ∙ t.taken_so)
  accepted_told false e = clash_told (sym (told_unopened s e) ∙ t.taken_so)
    where
      clash_told : {X : Type 0} → refused 14 ≡ taken_as tree → X
      clash_told q = absurd (subst (λ (x : Told). elim x as (λ y. Type 0) [ taken_as a ↦ ⊥ | refused k ↦ Unit {0} ]) q tt)

  within : taken tree ≡ true
  within = told_taken tree (tokens s) (accepted_told (opens s) refl)

  counts_so : counts_of (claim_of tree) ≡ c
  unfolding counts_of claim_of
  counts_so = rw (length_states (count_in t.items) 0 t.states ∙ t.counts.states, t.counts.start, t.counts.propositions) refl

  accepted_by : Ok c ≡ judged_claim s
  unfolding judged_claim claim_refusal told_number
  accepted_by = rw (t.taken_so, claim_is, counts_so) refl

  pub into_accepted : LinesHeld s [] w → IntoSays s (Ok c) v
  into_accepted h = record { answer = accepted_by; held = subst (λ (k : Claim). ClaimHeld s k v) (sym claim_is) (lines_claim s (claim_of tree) t.states v (state_is_line tree within) (t.held h)) }

pub into_kept : (s : List ℕ) (r : Result Counts Refusal) → is_err r ≡ false → (w v : List ℕ) → TextRead s r w v → (n : ℕ) → w ≡ replicate n 0 → IntoSays s r v
into_kept s (Err k) h w v read n e = clash true refl h
into_kept s (Ok c) h w v read n e = into_accepted s c w v read (subst (λ (x : List ℕ). LinesHeld s [] x) (sym e) (zeros_hold s n))

-- ANY CELLS: those without room, and those behind a claim, are zeros
pub read_short : (s : List ℕ) (r : Result Counts Refusal) (w v : List ℕ) → IntoSays s r v → length w < claim_cells → ClaimRead s r w (replicate (length w) 0)
read_short s r w v i h = record { answer = i.answer; held = λ k. absurd (omega (arith, h, k)); rest = λ j k. zero_cell (length w) j; short = λ k. refl }

pub zeros_front : (n k : ℕ) → k ≤ n → (k ≤ length (take k (replicate {A = ℕ} n 0))) × (take k (replicate {A = ℕ} n 0) ≡ replicate (length (take k (replicate {A = ℕ} n 0))) 0)
zeros_front n k h =
    let e : length (take k (replicate {A = ℕ} n 0)) ≡ k = length-take-le k (replicate {A = ℕ} n 0) (subst (λ (m : ℕ). k ≤ m) (sym (length-replicate n 0)) h) in
    (omega (arith, e), rw e (take_replicate k n h))
  where
    take_replicate : (k n : ℕ) → k ≤ n → take k (replicate {A = ℕ} n 0) ≡ replicate k 0
    take_replicate k n h =
        ext_get_or 0 (take k (replicate {A = ℕ} n 0)) (replicate k 0) (length-take-le k (replicate {A = ℕ} n 0) (subst (λ (m : ℕ). k ≤ m) (sym (length-replicate n 0)) h) ∙ sym (length-replicate k 0))
        (λ j g. get_or-take k (replicate {A = ℕ} n 0) j 0 (subst (λ (m : ℕ). j < m) (length-take-le k (replicate {A = ℕ} n 0) (subst (λ (m : ℕ). k ≤ m) (sym (length-replicate n 0)) h)) g) ∙ (zero_cell n j ∙ sym (zero_cell k j)))

-- a claim held in front is held in the whole
front_held : (s : List ℕ) (k : Claim) (v z : List ℕ) → length v ≡ claim_cells → ClaimHeld s k v → ClaimHeld s k (v ++ z)
front_held s k v z e held =
    record {
      marks = λ c h. front c (omega (arith, h, e)) ∙ held.marks c h;
      names = λ c h. rw (front (name_cell c) (omega (arith, h, e)), front (length_cell c) (omega (arith, h, e))) (held.names c h);
      leads = λ c d h. ap (λ (x : ℕ). bit x d) (front (lead_cell c) (omega (arith, h, e))) ∙ held.leads c d h;
      moves = λ c f d h g. ap (λ (x : ℕ). bit x d) (front (move_cell c f) (omega (arith, h, g, e))) ∙ held.moves c f d h g;
    }
  where
    front : (i : ℕ) → i < length v → get_or (v ++ z) i 0 ≡ get_or v i 0
    front i h = get_or-append v z 0 i h

pub read_whole : (s : List ℕ) (r : Result Counts Refusal) (w v : List ℕ) (n : ℕ) → IntoSays s r v → length v ≡ claim_cells → claim_cells ≤ length w → ClaimRead s r w (v ++ drop claim_cells (replicate n 0))
read_whole s r w v n i e h =
    record {
      answer = i.answer;
      held = λ k. front_held s (claim_in s) v (drop claim_cells (replicate n 0)) e i.held;
      rest = λ j k. behind j k;
      short = λ k. absurd (omega (arith, h, k));
    }
  where
    behind : (j : ℕ) → claim_cells ≤ j → get_or (v ++ drop claim_cells (replicate n 0)) j 0 ≡ 0
    behind j k =
        let q : j ≡ length v + (j - length v) = omega (arith, e, k) in
        ap (λ (i : ℕ). get_or (v ++ drop claim_cells (replicate n 0)) i 0) q
        ∙ (get_or-append-add v (drop claim_cells (replicate n 0)) (j - length v) 0 ∙ (get_or-drop claim_cells (replicate n 0) (j - length v) 0 ∙ zero_cell n (claim_cells + (j - length v))))
