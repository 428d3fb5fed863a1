-- Labels of edges: their grammar, depth and truth on flag values; then, token by token, what may come where in one.
-- Assumes nothing: these are definitions.
use Rattle.std.specs.Prelude.{Bool, true, false, ◌&&◌, ◌||◌, not, cond, List, [], ◌∷◌, ◌++◌, ℕ, zero, suc, ◌+◌, ◌^◌, ◌/◌, ◌%◌, max, ltb, eqb}
use Rattle.std.proofs.Math.Option.{Option, none, some}
use Rattle.text.specs.Ascii.{ascii}
use Rattle.text.specs.Lines.{equal}
use Rattle.model.specs.ClaimTokens.{Token, name, header, number, string, symbol, body_mark, end_mark, alias, comment, stray}

-- SYMBOLS, by their bytes
abbrev pub not_byte : ℕ
not_byte = 33

abbrev pub and_byte : ℕ
and_byte = 38

abbrev pub open_byte : ℕ
open_byte = 40

abbrev pub close_byte : ℕ
close_byte = 41

abbrev pub label_byte : ℕ
label_byte = 91

abbrev pub end_label_byte : ℕ
end_label_byte = 93

abbrev pub mark_byte : ℕ
mark_byte = 123

abbrev pub or_byte : ℕ
or_byte = 124

abbrev pub end_mark_byte : ℕ
end_mark_byte = 125

abbrev pub not_sign : Token
not_sign = symbol not_byte

abbrev pub and_sign : Token
and_sign = symbol and_byte

abbrev pub or_sign : Token
or_sign = symbol or_byte

abbrev pub open_bracket : Token
open_bracket = symbol open_byte

abbrev pub close_bracket : Token
close_bracket = symbol close_byte

abbrev pub open_label : Token
open_label = symbol label_byte

abbrev pub close_label : Token
close_label = symbol end_label_byte

abbrev pub open_mark : Token
open_mark = symbol mark_byte

abbrev pub close_mark : Token
close_mark = symbol end_mark_byte

-- LABELS: "! binds before &, and & before |". An or_level is and-levels parted by |, an and_level atoms parted by &, and
-- an atom `t`, `f`, a proposition's number, ! and an atom, or an or_level in brackets
pub data Level : Type 0 where
  or_level and_level atom : Level

pub data Label : Level → Type 0 where
  always never : Label atom
  proposition : (i : ℕ) → Label atom
  negated : Label atom → Label atom
  bracketed : Label or_level → Label atom
  one : Label atom → Label and_level
  both : Label and_level → Label atom → Label and_level
  term : Label and_level → Label or_level
  either : Label or_level → Label and_level → Label or_level

-- what a label spells
unfoldable pub label_tokens : {l : Level} → Label l → List Token
label_tokens always = name (ascii "t") ∷ []
label_tokens never = name (ascii "f") ∷ []
label_tokens (proposition i) = number i ∷ []
label_tokens (negated a) = not_sign ∷ label_tokens a
label_tokens (bracketed o) = open_bracket ∷ label_tokens o ++ (close_bracket ∷ [])
label_tokens (one a) = label_tokens a
label_tokens (both c a) = label_tokens c ++ (and_sign ∷ label_tokens a)
label_tokens (term c) = label_tokens c
label_tokens (either o c) = label_tokens o ++ (or_sign ∷ label_tokens c)

-- "A label may nest brackets and negations up to 16 deep": each around a place adds one
abbrev pub deepest : ℕ
deepest = 16

unfoldable pub label_depth : {l : Level} → Label l → ℕ
label_depth always = 0
label_depth never = 0
label_depth (proposition i) = 0
label_depth (negated a) = suc (label_depth a)
label_depth (bracketed o) = suc (label_depth o)
label_depth (one a) = label_depth a
label_depth (both c a) = max (label_depth c) (label_depth a)
label_depth (term c) = label_depth c
label_depth (either o c) = max (label_depth o) (label_depth c)

-- its propositions are below a count
unfoldable pub label_within : (count : ℕ) → {l : Level} → Label l → Bool
label_within k always = true
label_within k never = true
label_within k (proposition i) = ltb i k
label_within k (negated a) = label_within k a
label_within k (bracketed o) = label_within k o
label_within k (one a) = label_within k a
label_within k (both c a) = label_within k c && label_within k a
label_within k (term c) = label_within k c
label_within k (either o c) = label_within k o && label_within k c

-- "each label's truth is defined on flag values": proposition i is true where the bit worth 2 to the power i is set
unfoldable pub bit : (number i : ℕ) → Bool
bit x i = eqb (x / 2 ^ i % 2) 1

unfoldable pub truth : {l : Level} → Label l → (values : ℕ) → Bool
truth always x = true
truth never x = false
truth (proposition i) x = bit x i
truth (negated a) x = not (truth a x)
truth (bracketed o) x = truth o x
truth (one a) x = truth a x
truth (both c a) x = truth c x && truth a x
truth (term c) x = truth c x
truth (either o c) x = truth o x || truth c x

-- WHAT MAY COME WHERE. A bracket under way: what stands before | and before & in it, and the negations before the atom
-- that is due
pub record Under : Type 0 where
  pub ors : Option (Label or_level)
  pub ands : Option (Label and_level)
  pub nots : ℕ

abbrev pub no_under : Under
no_under = record { ors = none; ands = none; nots = 0 }

-- a label under way, with the brackets around the place: an atom is due; or one stands, as the last of an and_level after
-- what stands before |
pub data Reading : Type 0 where
  due : (outer : List Under) → Under → Reading
  stands : (outer : List Under) → Option (Label or_level) → Label and_level → Reading

abbrev pub label_start : Reading
label_start = due [] no_under

-- after one more token: a label still under way, its end, or the refusal
pub data LabelNext : Type 0 where
  on : Reading → LabelNext
  label_ends : Label or_level → LabelNext
  broken : ℕ → LabelNext

-- how deep the brackets stand
unfoldable pub depth_of : (outer : List Under) → ℕ
depth_of [] = 0
depth_of (u ∷ us) = suc u.nots + depth_of us

unfoldable pub negations : ℕ → Label atom → Label atom
negations zero a = a
negations (suc n) a = negations n (negated a)

unfoldable pub extend : Option (Label and_level) → Label atom → Label and_level
extend none a = one a
extend (some c) a = both c a

unfoldable pub close_or : Option (Label or_level) → Label and_level → Label or_level
close_or none c = term c
close_or (some o) c = either o c

-- an atom stands whole
unfoldable pub with_atom : (outer : List Under) → Under → Label atom → Reading
with_atom us u a = stands us u.ors (extend u.ands (negations u.nots a))

-- one deeper, if that is not too deep
unfoldable pub deeper : (outer : List Under) → Under → Reading → LabelNext
deeper us u r = cond (ltb (u.nots + depth_of us) deepest) (on r) (broken 15)

unfoldable pub on_name : (outer : List Under) → Under → List ℕ → LabelNext
on_name us u w =
    cond (equal w (ascii "t")) (on (with_atom us u always))
    (cond (equal w (ascii "f")) (on (with_atom us u never)) (broken 15))

-- where an atom is due; "16, a comment, alias": an alias only here
unfoldable pub atom_step : (count : ℕ) → (outer : List Under) → Under → Token → LabelNext
atom_step k us u (symbol b) =
    cond (eqb b not_byte) (deeper us u (due us (record { ors = u.ors; ands = u.ands; nots = suc u.nots })))
    (cond (eqb b open_byte) (deeper us u (due (u ∷ us) no_under)) (broken 15))
atom_step k us u (name w) = on_name us u w
atom_step k us u (number i) = cond (ltb i k) (on (with_atom us u (proposition i))) (broken 15)
atom_step k us u (header w) = broken 15
atom_step k us u (string w) = broken 15
atom_step k us u body_mark = broken 15
atom_step k us u end_mark = broken 15
atom_step k us u alias = broken 16
atom_step k us u comment = broken 16
atom_step k us u stray = broken 15

-- the end of the innermost bracket, or of the label
unfoldable pub close_step : (outer : List Under) → Option (Label or_level) → Label and_level → ℕ → LabelNext
close_step [] o c b = cond (eqb b end_label_byte) (label_ends (close_or o c)) (broken 15)
close_step (u ∷ us) o c b = cond (eqb b close_byte) (on (with_atom us u (bracketed (close_or o c)))) (broken 15)

-- where an atom stands
unfoldable pub operator_step : (outer : List Under) → Option (Label or_level) → Label and_level → Token → LabelNext
operator_step us o c (symbol b) =
    cond (eqb b and_byte) (on (due us (record { ors = o; ands = some c; nots = 0 })))
    (cond (eqb b or_byte) (on (due us (record { ors = some (close_or o c); ands = none; nots = 0 })))
    (close_step us o c b))
operator_step us o c (name w) = broken 15
operator_step us o c (number i) = broken 15
operator_step us o c (header w) = broken 15
operator_step us o c (string w) = broken 15
operator_step us o c body_mark = broken 15
operator_step us o c end_mark = broken 15
operator_step us o c alias = broken 15
operator_step us o c comment = broken 16
operator_step us o c stray = broken 15

unfoldable pub label_step : (count : ℕ) → Reading → Token → LabelNext
label_step k (due us u) t = atom_step k us u t
label_step k (stands us o c) t = operator_step us o c t

-- where an and_level is due after what stands before |; where an or_level stands whole
abbrev pub fresh_term : Option (Label or_level) → Under
fresh_term o = record { ors = o; ands = none; nots = 0 }

abbrev pub whole_or : (outer : List Under) → Label or_level → Reading
whole_or us (term c) = stands us none c
whole_or us (either o c) = stands us (some o) c

-- what the tokens from a place in a label on come to: the label and the tokens past its ], or the refusal
pub data LabelRead : Type 0 where
  label_is : Label or_level → (rest : List Token) → LabelRead
  no_label : ℕ → LabelRead

unfoldable pub label_told : (count : ℕ) → LabelNext → List Token → LabelRead
label_told k (label_ends o) [] = label_is o []
label_told k (label_ends o) (t ∷ ts) = label_is o (t ∷ ts)
label_told k (broken n) [] = no_label n
label_told k (broken n) (t ∷ ts) = no_label n
label_told k (on r) [] = no_label 15
label_told k (on r) (t ∷ ts) = label_told k (label_step k r t) ts
