-- How the readers of edges in src/body.rt meet their contracts: a law for each return, and for each turn of the loop.
-- Assumes nothing.
use mathlib.Core.Path.{◌≡◌, refl, sym, ap, ◌∙◌}
use mathlib.Core.Bool.{Bool, false, cond, ◌&&◌, ◌||◌}
use mathlib.Core.List.{List, [], ◌∷◌, append-nil, append_assoc}
use Prim.Native.Nat.{ℕ, ◌+◌, ◌*◌, ◌%◌, ◌^◌, ◌<◌, ◌≤◌}
use native.Mathlib.Omega.{arith}
use lib.Bits.{bit_or}
use lib.Dec.{ltb, eqb}
use lib.ListN.{length, replicate}
use borrow.Author.Tests.{lt-ltb, le-ltb, ne_eqb}
use Rattle.model.specs.ClaimTokens as T
use Rattle.model.specs.ClaimLabels.{label_byte, mark_byte, or_level, Label, bit, on, label_start, label_told, LabelRead}
use Rattle.model.specs.ClaimGrammar.{Item, Edge, State, count_in, propositions_in, most_states}
use Rattle.model.specs.ClaimTable.{Line, in_lines, in_line, in_label, wants_target, edged, line_at, snoc, with_edge, Next, go, fault, is_sign, line_step, edge_step, part_step, from_label, step, ended, told, refused}
use Rattle.model.proofs.ClaimComplete.{finish, through_label}
use Rattle.std.specs.Prelude.{Some}
use Rattle.claim.specs.Reads.{claim_tokens, starts, BlanksEnd, PastBlanks, byte_of, LabelSays, Ahead, Onward}
use Rattle.claim.specs.LabelSays.{holds, nothing}
use Rattle.claim.specs.HeaderSays.{WantsNumber, NumberSays}
use Rattle.claim.specs.Cells.{set_of, Gathered, Led}
use Rattle.claim.specs.BodySays.{from_step, EdgeSays, with_edges, EdgesSay}
use Rattle.claim.specs.declared.labels.Values.{Values}
use Rattle.claim.proofs.HeaderCode.{told_fault, number_taken}
use Rattle.claim.proofs.Places.{over_blanks}
use Rattle.claim.proofs.Signs.{label_sign, mark_sign, sign_is, sign_past, sign_not}
use Rattle.model.proofs.Bits.{bit_zero}
use Rattle.claim.proofs.Bits.{bit_set}
use Rattle.claim.proofs.MoveCode.{Gathers, gathers_none, gathers_one, edges_add}
use Rattle.std.specs.Prelude.{Ok, Err}
use Rattle.model.specs.declared.refusal.Refusal.{Refusal}
use Rattle.model.specs.declared.refusal.Refusal.TheVariants.{ClaimGrammar, NotTaken}

-- THE LABEL, from its [ on
in_label_told : (l : Line) (ts : List T.Token) → told (go (in_label l label_start)) ts ≡ finish l (label_told (propositions_in l.items) (on label_start) ts)
unfolding from_label
in_label_told l ts = through_label l (on label_start) ts

labelled : (l : Line) (k : ℕ) (ts : List T.Token) (r : LabelRead) → propositions_in l.items ≡ k → label_told k (on label_start) ts ≡ r → told (go (in_label l label_start)) ts ≡ finish l r
labelled l k ts r e q = in_label_told l ts ∙ ap (finish l) (ap (λ (i : ℕ). label_told i (on label_start) ts) e ∙ q)

-- ITS TARGET
abbrev on_target : Line → Label or_level → ℕ → Next
on_target l o d = cond (ltb d (count_in l.items)) (go (in_line l.items l.states (edged (with_edge l.state (record { label = o; to = d }))))) (fault 15)

target_wants : (l : Line) (o : Label or_level) → WantsNumber (wants_target l o) (on_target l o)
unfolding step ended
target_wants l o = record { steps = λ t. refl; open_ended = refl }

-- AN EDGE MARK after it
edged_told : (is : List Item) (ls : List State) (l : State) (t : T.Token) (ts : List T.Token) → told (go (in_line is ls (edged l))) (t ∷ ts) ≡ told (cond (is_sign (T.symbol mark_byte) t) (fault 16) (edge_step (line_at is ls l) t)) ts
unfolding told step part_step
edged_told is ls l t ts = refl

edged_ended : (is : List Item) (ls : List State) (l : State) → told (go (in_line is ls (edged l))) [] ≡ refused 15
unfolding told ended
edged_ended is ls l = refl

edged_on : (is : List Item) (ls : List State) (l : State) (ts : List T.Token) → starts mark_byte ts ≡ false → told (go (in_line is ls (edged l))) ts ≡ from_step (edge_step (line_at is ls l)) ts
unfolding starts from_step
edged_on is ls l [] e = edged_ended is ls l
edged_on is ls l (t ∷ ts) e = edged_told is ls l t ts ∙ ap (λ (b : Bool). told (cond b (fault 16) (edge_step (line_at is ls l) t)) ts) e

edged_marked : (is : List Item) (ls : List State) (l : State) (ts : List T.Token) → told (go (in_line is ls (edged l))) (T.symbol mark_byte ∷ ts) ≡ refused 16
unfolding is_sign
edged_marked is ls l ts = edged_told is ls l (T.symbol mark_byte) ts ∙ told_fault 16 ts

-- AN EDGE
module _ (s : List ℕ) (n k at : ℕ) (w v : List Values) where
  pub edge_unlabelled : (j : Refusal) → LabelSays s k at (Err j) → EdgeSays s n k at (Err j) w v
  edge_unlabelled j said is ls l en ek = labelled (line_at is ls l) k _ _ ek said

  module _ (set : Values) (e : ℕ) (label_there : LabelSays s k at (Ok (set, e))) where
    to_target : (l : Line) → propositions_in l.items ≡ k → told (go (in_label l label_start)) (claim_tokens s at) ≡ told (go (wants_target l label_there.0)) (claim_tokens s e)
    to_target l ek = labelled l k _ _ ek label_there.2

    pub edge_untargeted : (j : Refusal) → NumberSays s e (Err j) → EdgeSays s n k at (Err j) w v
    edge_untargeted j read is ls l en ek = to_target (line_at is ls l) ek ∙ read _ _ (target_wants (line_at is ls l) _)

    module _ (d p : ℕ) (number_there : NumberSays s e (Ok (d, p))) where
      targeted : (is : List Item) (ls : List State) (l : State) → count_in is ≡ n → propositions_in is ≡ k → told (go (in_label (line_at is ls l) label_start)) (claim_tokens s at) ≡ told (cond (ltb d n) (go (in_line is ls (edged (with_edge l (record { label = label_there.0; to = d }))))) (fault 15)) (claim_tokens s p)
      targeted is ls l en ek =
          to_target (line_at is ls l) ek
          ∙ (ap (λ (ts : List T.Token). told (go (wants_target (line_at is ls l) label_there.0)) ts) number_there.0
          ∙ (number_taken (target_wants (line_at is ls l) label_there.0) d _
          ∙ ap (λ (m : ℕ). told (cond (ltb d m) (go (in_line is ls (edged (with_edge l (record { label = label_there.0; to = d }))))) (fault 15)) (claim_tokens s p)) en))

      pub edge_far : n ≤ d → EdgeSays s n k at (Err ClaimGrammar) w v
      edge_far h is ls l en ek = targeted is ls l en ek ∙ (ap (λ (b : Bool). told (cond b (go (in_line is ls (edged (with_edge l (record { label = label_there.0; to = d }))))) (fault 15)) (claim_tokens s p)) (le-ltb d n h) ∙ told_fault 15 _)

      near : (is : List Item) (ls : List State) (l : State) → d < n → count_in is ≡ n → propositions_in is ≡ k → told (go (in_label (line_at is ls l) label_start)) (claim_tokens s at) ≡ told (go (in_line is ls (edged (with_edge l (record { label = label_there.0; to = d }))))) (claim_tokens s p)
      near is ls l h en ek = targeted is ls l en ek ∙ ap (λ (b : Bool). told (cond b (go (in_line is ls (edged (with_edge l (record { label = label_there.0; to = d }))))) (fault 15)) (claim_tokens s p)) (lt-ltb d n h)

      module _ (z : ℕ) (b : BlanksEnd s T.longest_claim p z) where
        past_target : (is : List Item) (ls : List State) (l : State) → d < n → count_in is ≡ n → propositions_in is ≡ k → told (go (in_label (line_at is ls l) label_start)) (claim_tokens s at) ≡ told (go (in_line is ls (edged (with_edge l (record { label = label_there.0; to = d }))))) (claim_tokens s z)
        past_target is ls l h en ek = near is ls l h en ek ∙ ap (λ (ts : List T.Token). told (go (in_line is ls (edged (with_edge l (record { label = label_there.0; to = d }))))) ts) b.same

        pub edge_marked : d < n → byte_of s z ≡ Some mark_byte → EdgeSays s n k at (Err NotTaken) w v
        edge_marked h m is ls l en ek = past_target is ls l h en ek ∙ (ap (λ (ts : List T.Token). told (go (in_line is ls (edged (with_edge l (record { label = label_there.0; to = d }))))) ts) (sign_is s z mark_byte mark_sign m) ∙ edged_marked is ls _ _)

        pub edge_taken : d < n → (byte_of s z ≡ Some mark_byte → ⊥) → Gathered d set w v → EdgeSays s n k at (Ok (d, z)) w v
        edge_taken h m g = (
          record { label = label_there.0; to = d },
          refl,
          h,
          λ is ls l en ek. past_target is ls l h en ek ∙ edged_on is ls _ _ (sign_not s z mark_byte b.stops m),
          λ t f i. g.gathered t f ∙ ap (λ (b : Bool). holds (set_of w t) f || (b && eqb t d)) (sym (label_there.1.agrees f i)),
          record { more = omega (arith, label_there.3.more, number_there.1.more, b.ahead); inside = λ i. b.inside number_there.1.inside },
          b.stops,
        )

-- EDGES: from where one may stand
not_labelled : (is : List Item) (ls : List State) (l : State) (ts : List T.Token) → starts label_byte ts ≡ false → from_step (edge_step (line_at is ls l)) ts ≡ told (go (in_lines is (snoc ls l))) ts
unfolding starts from_step edge_step told step ended
not_labelled is ls l [] e = refl
not_labelled is ls l (t ∷ ts) e = ap (λ (b : Bool). told (cond b (go (in_label (line_at is ls l) label_start)) (line_step is (snoc ls l) t)) ts) e

is_labelled : (is : List Item) (ls : List State) (l : State) (ts : List T.Token) → from_step (edge_step (line_at is ls l)) (T.symbol label_byte ∷ ts) ≡ told (go (in_label (line_at is ls l) label_start)) ts
unfolding from_step edge_step is_sign
is_labelled is ls l ts = refl

no_more : (l : State) → with_edges l [] ≡ l
no_more l = ap (λ (es : List Edge). record { number = l.number; title = l.title; marks = l.marks; edges = es }) (append-nil l.edges)

one_more : (l : State) (es : List Edge) (e : Edge) → with_edge (with_edges l es) e ≡ with_edges l (snoc es e)
one_more l es e = ap (λ (fs : List Edge). record { number = l.number; title = l.title; marks = l.marks; edges = fs }) (append_assoc l.edges es (e ∷ []))

pub record EdgesSoFar (s : List ℕ) (n k at : ℕ) (sets : List Values) (leads here : ℕ) : Type 0 where
  pub so_far : List Edge
  pub goes : (is : List Item) (ls : List State) (l : State) → count_in is ≡ n → propositions_in is ≡ k → from_step (edge_step (line_at is ls l)) (claim_tokens s at) ≡ from_step (edge_step (line_at is ls (with_edges l so_far))) (claim_tokens s here)
  pub in_sets : Gathers so_far leads sets
  pub near_all : (t : ℕ) → most_states ≤ t → bit leads t ≡ false
  pub onward : Onward s at here
  pub stops : PastBlanks s here
  pub long : length sets ≡ most_states

pub edges_begun : (s : List ℕ) (n k at here : ℕ) → BlanksEnd s T.longest_claim at here → EdgesSoFar s n k at (replicate most_states nothing) 0 here
edges_begun s n k at here b =
    record {
      so_far = [];
      goes = λ is ls l en ek. ap (λ (x : State). from_step (edge_step (line_at is ls x)) (claim_tokens s at)) (sym (no_more l)) ∙ ap (λ (ts : List T.Token). from_step (edge_step (line_at is ls (with_edges l []))) ts) b.same;
      in_sets = gathers_none most_states;
      near_all = λ t h. bit_zero t;
      onward = over_blanks b;
      stops = b.stops;
      long = refl;
    }

module _ {s : List ℕ} {n k at : ℕ} {sets : List Values} {leads here : ℕ} (f : EdgesSoFar s n k at sets leads here) where
  pub edges_done : (c : ℕ) (w v : List ℕ) → (byte_of s here ≡ Some label_byte → ⊥) → c < most_states → Led c leads sets w v → EdgesSay s n k c at (Ok here) w v
  edges_done c w v e hc m = (f.so_far, λ is ls l en ek. f.goes is ls l en ek ∙ not_labelled is ls _ _ (sign_not s here label_byte f.stops e), λ l q. edges_add m hc s f.so_far l f.in_sets q, f.onward)

  module _ (e : byte_of s here ≡ Some label_byte) (u : List Values) where
    through : (is : List Item) (ls : List State) (l : State) → count_in is ≡ n → propositions_in is ≡ k → from_step (edge_step (line_at is ls l)) (claim_tokens s at) ≡ told (go (in_label (line_at is ls (with_edges l f.so_far)) label_start)) (claim_tokens s (here + 1))
    through is ls l en ek = f.goes is ls l en ek ∙ (ap (λ (ts : List T.Token). from_step (edge_step (line_at is ls (with_edges l f.so_far))) ts) (sign_is s here label_byte label_sign e) ∙ is_labelled is ls _ _)

    pub edges_broken : (c : ℕ) (w v : List ℕ) (j : Refusal) → EdgeSays s n k (here + 1) (Err j) sets u → EdgesSay s n k c at (Err j) w v
    edges_broken c w v j edge is ls l en ek = through is ls l en ek ∙ edge is ls (with_edges l f.so_far) en ek

    module _ (d z : ℕ) (edge_there : EdgeSays s n k (here + 1) (Ok (d, z)) sets u) where
      pub edges_ahead : Ahead s here z
      edges_ahead =
          let a = sign_past s here label_byte label_sign e in
          let b = edge_there.5 in
          record { more = omega (arith, a.more, b.more); inside = b.inside a.inside }

      pub edges_more : n ≤ most_states → length u ≡ length sets → EdgesSoFar s n k at u (bit_or leads (1 * 2 ^ d % 2 ^ 32)) z
      edges_more hn m =
          record {
            so_far = snoc f.so_far edge_there.0;
            goes = λ is ls l en ek. through is ls l en ek ∙ (edge_there.3 is ls (with_edges l f.so_far) en ek ∙ ap (λ (y : State). from_step (edge_step (line_at is ls y)) (claim_tokens s z)) (one_more l f.so_far edge_there.0));
            in_sets = gathers_one f.in_sets edge_there.0 d edge_there.1 (omega (arith, hn, edge_there.2)) u edge_there.4;
            near_all = λ i h. bit_set leads d i (omega (arith, hn, edge_there.2)) ∙ rw (f.near_all i h, ne_eqb i d (λ p. omega (arith, hn, h, edge_there.2, p))) refl;
            onward = record { more = omega (arith, f.onward.more, edges_ahead.more); inside = λ h. edges_ahead.inside };
            stops = edge_there.6;
            long = m ∙ f.long;
          }
