-- The table reads every label of the grammar: from where an atom is due, over the label's tokens, to where it stands.
use mathlib.Core.Path.{◌≡◌, refl, ap, ◌∙◌}
use mathlib.Core.Bool.{true, ◌&&◌}
use mathlib.Core.List.{List, [], ◌∷◌, ◌++◌, append_assoc}
use mathlib.Core.Option.{Option, none, some}
use Prim.Native.Nat.{ℕ, suc, ◌+◌, ◌≤◌, ◌<◌, max}
use native.Mathlib.Omega.{arith}
use borrow.Author.Tests.{lt-ltb}
use Rattle.text.specs.Lines.{equal}
use Rattle.text.proofs.Tests.{and_both}
use Rattle.model.specs.ClaimTokens.{Token, symbol}
use Rattle.model.specs.ClaimLabels.{Level, or_level, and_level, atom, Label, always, never, proposition, negated, bracketed, one, both, term, either, label_tokens, label_depth, label_within, deepest, close_bracket, and_sign, or_sign}
use Rattle.model.specs.ClaimLabels.{Under, Reading, due, stands, on, label_ends, label_step, label_told, label_is, atom_step, operator_step, close_step, deeper, depth_of, negations, extend, close_or, with_atom, on_name, no_under, fresh_term, whole_or}

-- it fits: not too deep here, propositions in range
pub record Fits {j : Level} (k : ℕ) (deep : ℕ) (x : Label j) : Type 0 where
  pub depth : deep + label_depth x ≤ deepest
  pub within : label_within k x ≡ true

abbrev Reads : (j : Level) → Label j → Type 0
Reads atom x = (k : ℕ) (us : List Under) (u : Under) (ts : List Token) → Fits k (u.nots + depth_of us) x → label_told k (on (due us u)) (label_tokens x ++ ts) ≡ label_told k (on (with_atom us u x)) ts
Reads and_level x = (k : ℕ) (us : List Under) (o : Option (Label or_level)) (ts : List Token) → Fits k (depth_of us) x → label_told k (on (due us (fresh_term o))) (label_tokens x ++ ts) ≡ label_told k (on (stands us o x)) ts
Reads or_level x = (k : ℕ) (us : List Under) (ts : List Token) → Fits k (depth_of us) x → label_told k (on (due us no_under)) (label_tokens x ++ ts) ≡ label_told k (on (whole_or us x)) ts

reads_always : Reads atom always
unfolding label_tokens label_told label_step atom_step on_name equal
reads_always k us u ts f = refl

reads_never : Reads atom never
unfolding label_tokens label_told label_step atom_step on_name equal
reads_never k us u ts f = refl

reads_proposition : (i : ℕ) → Reads atom (proposition i)
unfolding label_tokens label_told label_step atom_step label_within
reads_proposition i k us u ts f = rw (label_told, f.within) refl

-- one negation more
abbrev pub more_nots : Under → Under
more_nots u = record { ors = u.ors; ands = u.ands; nots = suc u.nots }

room : (k : ℕ) (us : List Under) (u : Under) (p : Reading) → u.nots + depth_of us < deepest → deeper us u p ≡ on p
unfolding deeper
room k us u p h = rw (lt-ltb (u.nots + depth_of us) deepest h) refl

pub step_not : (k : ℕ) (us : List Under) (u : Under) (ts : List Token) → u.nots + depth_of us < deepest → label_told k (on (due us u)) (symbol 33 ∷ ts) ≡ label_told k (on (due us (more_nots u))) ts
unfolding label_told label_step atom_step
step_not k us u ts h = rw (label_told, room k us u (due us (more_nots u)) h) refl

pub step_open : (k : ℕ) (us : List Under) (u : Under) (ts : List Token) → u.nots + depth_of us < deepest → label_told k (on (due us u)) (symbol 40 ∷ ts) ≡ label_told k (on (due (u ∷ us) no_under)) ts
unfolding label_told label_step atom_step
step_open k us u ts h = rw (label_told, room k us u (due (u ∷ us) no_under) h) refl

pub step_close : (k : ℕ) (us : List Under) (u : Under) (o : Label or_level) (ts : List Token) → label_told k (on (whole_or (u ∷ us) o)) (symbol 41 ∷ ts) ≡ label_told k (on (with_atom us u (bracketed o))) ts
unfolding label_told label_step operator_step close_step close_or
step_close k us u (term c) ts = refl
step_close k us u (either o c) ts = refl

reads_negated : (a : Label atom) → Reads atom a → Reads atom (negated a)
unfolding label_tokens label_depth label_within with_atom negations
reads_negated a h k us u ts f =
    step_not k us u (label_tokens a ++ ts) (omega (arith, f.depth))
    ∙ h k us (more_nots u) ts (record { depth = omega (arith, f.depth); within = f.within })

reads_bracketed : (o : Label or_level) → Reads or_level o → Reads atom (bracketed o)
unfolding label_tokens label_depth label_within depth_of
reads_bracketed o h k us u ts f =
    step_open k us u _ (omega (arith, f.depth))
    ∙ (ap (λ (r : List Token). label_told k (on (due (u ∷ us) no_under)) r) (append_assoc (label_tokens o) (close_bracket ∷ []) ts)
    ∙ (h k (u ∷ us) (close_bracket ∷ ts) (record { depth = omega (arith, f.depth); within = f.within })
    ∙ step_close k us u o ts))

reads_one : (a : Label atom) → Reads atom a → Reads and_level (one a)
unfolding label_tokens label_depth label_within with_atom negations extend
reads_one a h k us o ts f = h k us (fresh_term o) ts (record { depth = omega (arith, f.depth); within = f.within })

fits_left : {i j : Level} {k : ℕ} {d : ℕ} (x : Label i) (y : Label j) → d + max (label_depth x) (label_depth y) ≤ deepest → (label_within k x && label_within k y) ≡ true → Fits k d x
fits_left {k = k} {d = d} x y h w = record { depth = omega (arith, h); within = (and_both (label_within k x) (label_within k y) w).0 }

fits_right : {i j : Level} {k : ℕ} {d : ℕ} (x : Label i) (y : Label j) → d + max (label_depth x) (label_depth y) ≤ deepest → (label_within k x && label_within k y) ≡ true → Fits k d y
fits_right {k = k} {d = d} x y h w = record { depth = omega (arith, h); within = (and_both (label_within k x) (label_within k y) w).1 }

pub step_and : (k : ℕ) (us : List Under) (o : Option (Label or_level)) (c : Label and_level) (ts : List Token) → label_told k (on (stands us o c)) (symbol 38 ∷ ts) ≡ label_told k (on (due us (record { ors = o; ands = some c; nots = 0 }))) ts
unfolding label_told label_step operator_step
step_and k us o c ts = refl

pub step_or : (k : ℕ) (us : List Under) (o : Label or_level) (ts : List Token) → label_told k (on (whole_or us o)) (symbol 124 ∷ ts) ≡ label_told k (on (due us (fresh_term (some o)))) ts
unfolding label_told label_step operator_step close_or
step_or k us (term c) ts = refl
step_or k us (either o c) ts = refl

reads_both : (c : Label and_level) (a : Label atom) → Reads and_level c → Reads atom a → Reads and_level (both c a)
unfolding label_tokens label_depth label_within with_atom negations extend
reads_both c a hc ha k us o ts f =
    ap (λ (r : List Token). label_told k (on (due us (fresh_term o))) r) (append_assoc (label_tokens c) (and_sign ∷ label_tokens a) ts)
    ∙ (hc k us o (and_sign ∷ (label_tokens a ++ ts)) (fits_left c a f.depth f.within)
    ∙ (step_and k us o c (label_tokens a ++ ts)
    ∙ ha k us (record { ors = o; ands = some c; nots = 0 }) ts
    (let g : Fits k (depth_of us) a = fits_right c a f.depth f.within in record { depth = omega (arith, g.depth); within = g.within })))

reads_term : (c : Label and_level) → Reads and_level c → Reads or_level (term c)
unfolding label_tokens label_depth label_within
reads_term c h k us ts f = h k us none ts (record { depth = f.depth; within = f.within })

reads_either : (o : Label or_level) (c : Label and_level) → Reads or_level o → Reads and_level c → Reads or_level (either o c)
unfolding label_tokens label_depth label_within
reads_either o c ho hc k us ts f =
    ap (λ (r : List Token). label_told k (on (due us no_under)) r) (append_assoc (label_tokens o) (or_sign ∷ label_tokens c) ts)
    ∙ (ho k us (or_sign ∷ (label_tokens c ++ ts)) (fits_left o c f.depth f.within)
    ∙ (step_or k us o (label_tokens c ++ ts)
    ∙ hc k us (some o) ts (fits_right o c f.depth f.within)))

pub reads : {j : Level} (x : Label j) → Reads j x
reads always = reads_always
reads never = reads_never
reads (proposition i) = reads_proposition i
reads (negated a) = reads_negated a (reads a)
reads (bracketed o) = reads_bracketed o (reads o)
reads (one a) = reads_one a (reads a)
reads (both c a) = reads_both c a (reads c) (reads a)
reads (term c) = reads_term c (reads c)
reads (either o c) = reads_either o c (reads o) (reads c)

pub step_end : (k : ℕ) (o : Label or_level) (ts : List Token) → label_told k (on (whole_or [] o)) (symbol 93 ∷ ts) ≡ label_told k (label_ends o) ts
unfolding label_told label_step operator_step close_step close_or
step_end k (term c) ts = refl
step_end k (either o c) ts = refl

pub stays : (k : ℕ) (o : Label or_level) (ts : List Token) → label_told k (label_ends o) ts ≡ label_is o ts
unfolding label_told
stays k o [] = refl
stays k o (t ∷ ts) = refl

-- a label of the grammar that fits is read back, and what follows its ] is left
pub label_back : (k : ℕ) (o : Label or_level) (ts : List Token) → Fits k 0 o → label_told k (on (due [] no_under)) (label_tokens o ++ (symbol 93 ∷ ts)) ≡ label_is o ts
unfolding depth_of
label_back k o ts f = reads o k [] (symbol 93 ∷ ts) f ∙ (step_end k o ts ∙ stays k o ts)
