-- How state lines, and with them the body, are put together from their pieces: a law for each return of src/body.rt's
-- `line_rest`, `line` and `read_body`, and for each turn of the loop. Assumes nothing.
use mathlib.Core.Path.{◌≡◌, refl, sym, ap, subst, ◌∙◌}
use mathlib.Core.Bool.{Bool, false, ◌||◌, or-false, or_assoc}
use mathlib.Core.List.{List, [], ◌∷◌}
use mathlib.Core.Option.{none}
use Prim.Native.Nat.{ℕ, ◌+◌, ◌*◌, ◌^◌, ◌%◌, ◌<◌, ◌≤◌}
use native.Mathlib.Omega.{arith}
use lib.Bits.{bit_or}
use lib.Dec.{eqb}
use lib.ListN.{length, length-append}
use Rattle.text.proofs.Tests.{Same, same, other, same?}
use Rattle.model.specs.ClaimLabels.{bit}
use Rattle.model.specs.ClaimGrammar.{Item, State, has_line, count_in, propositions_in, most_states}
use Rattle.model.specs.ClaimTable.{in_lines, in_line, wants_state, numbered, bare, line_at, snoc, edge_step, go, told}
use Rattle.model.specs.Claim.{line_of}
use Rattle.model.proofs.ClaimSound.{line_bare}
use Rattle.claim.specs.Reads.{claim_tokens, Ahead}
use Rattle.claim.specs.Cells.{LineHeld, LinesHeld}
use Rattle.claim.specs.BodySays.{from_step, TitleSays, MarkSays, with_edges, EdgesSay, RestSays, Listed, NumberRead, LineSays, DueSays, BodySays}
use Rattle.claim.proofs.Places.{onward}
use Rattle.model.proofs.Bits.{bit_zero}
use Rattle.claim.proofs.Bits.{bit_set}
use Rattle.claim.proofs.Held.{line_here, line_other, adds_then}
use Rattle.std.specs.Prelude.{Result, Ok, Err, Some, None}
use Rattle.model.specs.declared.refusal.Refusal.{Refusal}

-- WHAT FOLLOWS A NUMBER: name, mark, edges
module _ (s : List ℕ) (n k c at : ℕ) (w u : List ℕ) where
  module _ (a : ℕ) (title_there : TitleSays s c at (Ok a) w u) (v : List ℕ) where
    pub rest_unmarked : (j : Refusal) → MarkSays s c a (Err j) u v → (t : List ℕ) → RestSays s n k c at (Err j) w t
    rest_unmarked j m t is ls en ek = title_there.1 is ls ∙ m is ls title_there.0

    module _ (b : ℕ) (mark_there : MarkSays s c a (Ok b) u v) (t : List ℕ) where
      to_edges : (is : List Item) (ls : List State) → told (go (in_line is ls (numbered c))) (claim_tokens s at) ≡ from_step (edge_step (line_at is ls (bare c title_there.0 mark_there.0))) (claim_tokens s b)
      to_edges is ls = title_there.1 is ls ∙ mark_there.1 is ls title_there.0

      pub rest_whole : (p : Result ℕ Refusal) → EdgesSay s n k c b p v t → RestSays s n k c at p w t
      rest_whole (Err j) e = λ is ls en ek. to_edges is ls ∙ e is ls (bare c title_there.0 mark_there.0) en ek
      rest_whole (Ok z) e =
          let o = title_there.0 in
          let m = mark_there.0 in (
            with_edges (bare c o m) e.0,
            refl,
            λ is ls en ek. to_edges is ls ∙ e.1 is ls (bare c o m) en ek,
            adds_then s c (bare c none none) (bare c o none) (with_edges (bare c o m) e.0) w u t title_there.2 (adds_then s c (bare c o none) (bare c o m) (with_edges (bare c o m) e.0) u v t (mark_there.2 o) (e.2 (bare c o m) refl)),
            onward title_there.3 (onward mark_there.3 e.3),
          )

-- A LINE: its state is not listed, and nothing of it is held yet
begun_held : {s : List ℕ} (c : ℕ) (ls : List State) {w : List ℕ} → has_line c ls ≡ false → LinesHeld s ls w → LinesHeld s (snoc ls (bare c none none)) w
begun_held {s} c ls {w} none_yet held d h = subst (λ (l : State). LineHeld s l d w) (sym (go (same? d c))) (held d h)
  where
    go : Same d c → line_of d (snoc ls (bare c none none)) ≡ line_of d ls
    go (same e) = subst (λ (i : ℕ). line_of i (snoc ls (bare c none none)) ≡ line_of i ls) (sym e) (line_here ls (bare c none none) c none_yet refl ∙ sym (line_bare ls c none_yet))
    go (other n) = line_other ls (bare c none none) d n

module _ (s : List ℕ) (n k b at : ℕ) (w v : List ℕ) (c a : ℕ) (number_there : NumberRead s n b at (Ok (c, a))) where
  pub line_broken : (j : Refusal) → RestSays s n k c a (Err j) w v → LineSays s n k b at (Err j) w v
  line_broken j t is ls en ek listed = number_there.0 is ls en listed ∙ t is ls en ek

  pub line_whole : (z : ℕ) → RestSays s n k c a (Ok z) w v → LineSays s n k b at (Ok (c, z)) w v
  line_whole z t = (
    t.0,
    t.1,
    number_there.1,
    number_there.2,
    λ is ls en ek listed. number_there.0 is ls en listed ∙ t.2 is ls en ek,
    λ ls none_yet held. t.3 ls none_yet (begun_held c ls none_yet held),
    onward number_there.3 t.4,
  )

-- THE BODY, so many lines done
pub record LinesSoFar (s : List ℕ) (n k at : ℕ) (w v : List ℕ) (here listed lines : ℕ) : Type 0 where
  pub so_far : List State
  pub goes : (is : List Item) → count_in is ≡ n → propositions_in is ≡ k → told (go (in_lines is [])) (claim_tokens s at) ≡ told (go (in_lines is so_far)) (claim_tokens s here)
  pub listed_so : Listed so_far listed
  pub counted : length so_far ≡ lines
  pub few : lines ≤ n
  pub held : LinesHeld s [] w → LinesHeld s so_far v
  pub long : length v ≡ length w

none_listed : Listed [] 0
unfolding has_line
none_listed v h = sym (bit_zero v)

pub lines_begun : (s : List ℕ) (n k at : ℕ) (w : List ℕ) → LinesSoFar s n k at w w at 0 0
lines_begun s n k at w = record { so_far = []; goes = λ is en ek. refl; listed_so = none_listed; counted = refl; few = omega arith; held = λ h. h; long = refl }

has_line_snoc : (ls : List State) (l : State) (v : ℕ) → has_line v (snoc ls l) ≡ (has_line v ls || eqb v l.number)
unfolding has_line
has_line_snoc [] l v = or-false (eqb v l.number)
has_line_snoc (k ∷ ls) l v = ap (λ (b : Bool). eqb v k.number || b) (has_line_snoc ls l v) ∙ sym (or_assoc (eqb v k.number) (has_line v ls) (eqb v l.number))

listed_more : (ls : List State) (l : State) (b c : ℕ) → l.number ≡ c → c < 32 → Listed ls b → Listed (snoc ls l) (bit_or b (1 * 2 ^ c % 2 ^ 32))
listed_more ls l b c e h listed v g = has_line_snoc ls l v ∙ (ap (λ (t : Bool). t || eqb v l.number) (listed v g) ∙ (ap (λ (i : ℕ). bit b v || eqb v i) e ∙ sym (bit_set b c v h)))

module _ {s : List ℕ} {n k at : ℕ} {w v : List ℕ} {here listed lines : ℕ} (f : LinesSoFar s n k at w v here listed lines) where
  pub body_stopped : (j : Refusal) → DueSays s n lines here (Err j) → BodySays s n k at (Err j) w v
  body_stopped j due is en ek = f.goes is en ek ∙ due is f.so_far en f.counted

  pub body_whole : DueSays s n lines here (Ok None) → BodySays s n k at (Ok tt) w v
  body_whole due = (f.so_far, λ is en ek. f.goes is en ek ∙ due is f.so_far en f.counted, f.held)

  module _ (next : ℕ) (line_due : DueSays s n lines here (Ok (Some next))) (u : List ℕ) where
    through : (is : List Item) → count_in is ≡ n → propositions_in is ≡ k → told (go (in_lines is [])) (claim_tokens s at) ≡ told (go (wants_state is f.so_far)) (claim_tokens s next)
    through is en ek = f.goes is en ek ∙ line_due.0 is f.so_far en f.counted

    pub body_broken : (j : Refusal) → LineSays s n k listed next (Err j) v u → BodySays s n k at (Err j) w u
    body_broken j line is en ek = through is en ek ∙ line is f.so_far en ek f.listed_so

    module _ (c end : ℕ) (line_there : LineSays s n k listed next (Ok (c, end)) v u) where
      pub lines_ahead : Ahead s here end
      lines_ahead =
          let a = line_due.2 in
          let b = line_there.6 in
          record { more = omega (arith, a.more, b.more); inside = b.inside a.inside }

      pub lines_more : n ≤ most_states → length u ≡ length v → LinesSoFar s n k at w u end (bit_or listed (1 * 2 ^ c % 2 ^ 32)) (lines + 1)
      lines_more h m =
          record {
            so_far = snoc f.so_far line_there.0;
            goes = λ is en ek. through is en ek ∙ line_there.4 is f.so_far en ek f.listed_so;
            listed_so = listed_more f.so_far line_there.0 listed c line_there.1 (omega (arith, h, line_there.2)) f.listed_so;
            counted = length-append f.so_far (line_there.0 ∷ []) ∙ ap (λ (i : ℕ). i + 1) f.counted;
            few = omega (arith, line_due.1);
            held = λ g. line_there.5 f.so_far (f.listed_so c (omega (arith, h, line_there.2)) ∙ line_there.3) (f.held g);
            long = m ∙ f.long;
          }
