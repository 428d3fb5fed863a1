-- What the three label readers say of the tokens from where they stand, and how the says of one follow from the other's.
-- `Read` stands for the code's enum. Each law is one return, or one turn of a loop.
use mathlib.Core.Path.{◌≡◌, refl, sym, ap, ap₂, ◌∙◌}
use mathlib.Core.Bool.{Bool, true, false, not, ◌&&◌, ◌||◌}
use mathlib.Core.List.{List, [], ◌∷◌}
use mathlib.Core.Option.{Option, none, some}
use Prim.Native.Nat.{ℕ, suc, ◌+◌, ◌<◌}
use native.Mathlib.Omega.{arith}
use Rattle.model.specs.ClaimTokens.{Token, symbol}
use Rattle.claim.specs.LabelSays.{most_values, holds, everything, nothing, TruthOf, complement_of, intersection_of, union_of, Read, Got, No, AtomSays, AndSays, OrSays}
use Rattle.model.specs.ClaimLabels.{Level, or_level, and_level, atom, Label, negated, bracketed, one, both, term, either, truth, deepest, Under, no_under, Reading, due, stands, on, depth_of, negations, extend, with_atom, label_told, label_is, fresh_term}
use Rattle.model.proofs.ClaimLabels.{more_nots, step_not, step_open, step_close, step_and, step_or, step_end, stays}
use Rattle.claim.specs.declared.labels.Values.{Values}
use Rattle.claim.proofs.Bits.{holds_everything, holds_nothing, holds_complement, holds_intersection, holds_union}

-- sets with the same values
same_values : {l : Level} {x : Label l} {w v : Values} → TruthOf x w → ((f : ℕ) → f < most_values → holds w f ≡ holds v f) → TruthOf x v
same_values t e = record { agrees = λ f h. t.agrees f h ∙ e f h }

-- ATOMS
abbrev pub flipped : Read → Read
flipped (Got w r) = Got (complement_of w) r
flipped (No n) = No n

not_truth : (a : Label atom) (w : Values) → TruthOf a w → TruthOf (negated a) (complement_of w)
unfolding truth
not_truth a w t = record { agrees = λ v h. ap not (t.agrees v h) ∙ sym (holds_complement w v h) }

with_not : (us : List Under) (u : Under) (a : Label atom) → with_atom us (more_nots u) a ≡ with_atom us u (negated a)
unfolding with_atom negations
with_not us u a = refl

pub atom_not : (k d : ℕ) (ts : List Token) (r : Read) → d < deepest → AtomSays k (suc d) ts r → AtomSays k d (symbol 33 ∷ ts) (flipped r)
atom_not k d ts (No n) h s = λ us u e. step_not k us u ts (omega (arith, h, e)) ∙ s us (more_nots u) (omega (arith, e))
atom_not k d ts (Got w r) h (a, t, s) =
    (negated a, not_truth a w t, λ us u e. step_not k us u ts (omega (arith, h, e)) ∙ (s us (more_nots u) (omega (arith, e)) ∙ ap (λ (y : Reading). label_told k (on y) r) (with_not us u a)))

-- negated twice
twice : (b : Bool) → not (not b) ≡ b
twice true = refl
twice false = refl

pub atom_twice : (k d : ℕ) (ts : List Token) (r : Read) → AtomSays k d ts (flipped (flipped r)) → AtomSays k d ts r
atom_twice k d ts (No n) s = s
atom_twice k d ts (Got w r) (a, t, s) = (a, same_values t (λ v h. holds_complement (complement_of w) v h ∙ (ap not (holds_complement w v h) ∙ twice (holds w v))), s)

pub one_deeper : (us : List Under) (u : Under) (d : ℕ) → u.nots + depth_of us ≡ d → depth_of (u ∷ us) ≡ suc d
unfolding depth_of
one_deeper us u d e = omega (arith, e)

bracket_truth : (o : Label or_level) (w : Values) → TruthOf o w → TruthOf (bracketed o) w
unfolding truth
bracket_truth o w t = record { agrees = t.agrees }

-- the inside of a bracket, and the bracket that closes it
pub atom_bracket : (k d : ℕ) (ts r : List Token) (w : Values) → d < deepest → OrSays k (suc d) ts (Got w (symbol 41 ∷ r)) → AtomSays k d (symbol 40 ∷ ts) (Got w r)
atom_bracket k d ts r w h (o, t, s) =
    (bracketed o, bracket_truth o w t, λ us u e. step_open k us u ts (omega (arith, h, e)) ∙ (s (u ∷ us) (one_deeper us u d e) ∙ step_close k us u o r))

pub atom_bracket_fault : (k d : ℕ) (ts : List Token) (n : ℕ) → d < deepest → OrSays k (suc d) ts (No n) → AtomSays k d (symbol 40 ∷ ts) (No n)
atom_bracket_fault k d ts n h s us u e = step_open k us u ts (omega (arith, h, e)) ∙ s (u ∷ us) (one_deeper us u d e)

-- TERMS: an atom, and while & follows another
first_truth : (a : Label atom) (w : Values) → TruthOf a w → TruthOf (one a) w
unfolding truth
first_truth a w t = record { agrees = t.agrees }

first_with : (us : List Under) (o : Option (Label or_level)) (a : Label atom) → with_atom us (fresh_term o) a ≡ stands us o (one a)
unfolding with_atom negations extend
first_with us o a = refl

pub and_first : (k d : ℕ) (ts : List Token) (r : Read) → AtomSays k d ts r → AndSays k d ts r
and_first k d ts (No n) s = λ us o e. s us (fresh_term o) (omega (arith, e))
and_first k d ts (Got w r) (a, t, s) =
    (one a, first_truth a w t, λ us o e. s us (fresh_term o) (omega (arith, e)) ∙ ap (λ (y : Reading). label_told k (on y) r) (first_with us o a))

-- joined to everything it is what it was
pub and_everything : (k d : ℕ) (ts : List Token) (w : Values) (r : List Token) → AndSays k d ts (Got w r) → AndSays k d ts (Got (intersection_of everything w) r)
and_everything k d ts w r (c, t, s) = (c, same_values t (λ v h. sym (holds_intersection everything w v ∙ ap (λ (b : Bool). b && holds w v) (holds_everything v h))), s)

both_truth : (c : Label and_level) (a : Label atom) (v w : Values) → TruthOf c v → TruthOf a w → TruthOf (both c a) (intersection_of v w)
unfolding truth
both_truth c a v w s t = record { agrees = λ x h. ap₂ ◌&&◌ (s.agrees x h) (t.agrees x h) ∙ sym (holds_intersection v w x) }

more_with : (us : List Under) (o : Option (Label or_level)) (c : Label and_level) (a : Label atom) → with_atom us (record { ors = o; ands = some c; nots = 0 }) a ≡ stands us o (both c a)
unfolding with_atom negations extend
more_with us o c a = refl

pub and_more : (k d : ℕ) (ts r : List Token) (v w : Values) (q : List Token) → AndSays k d ts (Got v (symbol 38 ∷ r)) → AtomSays k d r (Got w q) → AndSays k d ts (Got (intersection_of v w) q)
and_more k d ts r v w q (c, t, s) (a, t', s') = (
  both c a,
  both_truth c a v w t t',
  λ us o e. s us o e ∙ (step_and k us o c r ∙ (s' us (record { ors = o; ands = some c; nots = 0 }) (omega (arith, e)) ∙ ap (λ (y : Reading). label_told k (on y) q) (more_with us o c a))),
)

pub and_fault : (k d : ℕ) (ts r : List Token) (w : Values) (n : ℕ) → AndSays k d ts (Got w (symbol 38 ∷ r)) → AtomSays k d r (No n) → AndSays k d ts (No n)
and_fault k d ts r w n (c, t, s) s' us o e = s us o e ∙ (step_and k us o c r ∙ s' us (record { ors = o; ands = some c; nots = 0 }) (omega (arith, e)))

-- EXPRESSIONS: a term, and while | follows another
term_truth : (c : Label and_level) (w : Values) → TruthOf c w → TruthOf (term c) w
unfolding truth
term_truth c w t = record { agrees = t.agrees }

pub or_nothing : (k d : ℕ) (ts : List Token) (w : Values) (r : List Token) → OrSays k d ts (Got w r) → OrSays k d ts (Got (union_of nothing w) r)
or_nothing k d ts w r (o, t, s) = (o, same_values t (λ v h. sym (holds_union nothing w v ∙ ap (λ (b : Bool). b || holds w v) (holds_nothing v h))), s)

either_truth : (o : Label or_level) (c : Label and_level) (v w : Values) → TruthOf o v → TruthOf c w → TruthOf (either o c) (union_of v w)
unfolding truth
either_truth o c v w s t = record { agrees = λ x h. ap₂ ◌||◌ (s.agrees x h) (t.agrees x h) ∙ sym (holds_union v w x) }

pub or_first : (k d : ℕ) (ts : List Token) (r : Read) → AndSays k d ts r → OrSays k d ts r
or_first k d ts (No n) s = λ us e. s us none e
or_first k d ts (Got w r) (c, t, s) = (term c, term_truth c w t, λ us e. s us none e)

pub or_more : (k d : ℕ) (ts r : List Token) (v w : Values) (q : List Token) → OrSays k d ts (Got v (symbol 124 ∷ r)) → AndSays k d r (Got w q) → OrSays k d ts (Got (union_of v w) q)
or_more k d ts r v w q (o, t, s) (c, t', s') = (either o c, either_truth o c v w t t', λ us e. s us e ∙ (step_or k us o r ∙ s' us (some o) e))

pub or_fault : (k d : ℕ) (ts r : List Token) (w : Values) (n : ℕ) → OrSays k d ts (Got w (symbol 124 ∷ r)) → AndSays k d r (No n) → OrSays k d ts (No n)
or_fault k d ts r w n (o, t, s) s' us e = s us e ∙ (step_or k us o r ∙ s' us (some o) e)

-- THE WHOLE LABEL: up to its ]
pub label_whole : (k : ℕ) (ts r : List Token) (w : Values) → OrSays k 0 ts (Got w (symbol 93 ∷ r)) → (o : Label or_level) × TruthOf o w × (label_told k (on (due [] no_under)) ts ≡ label_is o r)
unfolding depth_of
label_whole k ts r w (o, t, s) = (o, t, s [] refl ∙ (step_end k o r ∙ stays k o r))
