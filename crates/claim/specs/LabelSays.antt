-- What is said of the tokens from where an atom, a term or an expression of a label is due. Assumes nothing: these are definitions.
use Rattle.std.specs.Prelude.{◌≡◌, Bool, cond, List, [], ◌∷◌, ℕ, ◌+◌, ◌-◌, ◌^◌, ◌<◌, ltb, get_or, replicate}
use Rattle.std.proofs.Math.Option.{Option}
use Rattle.std.specs.Int.Bits.{bit_and, bit_or, bit_xor}
use Rattle.model.specs.ClaimTokens.{Token}
use Rattle.model.specs.ClaimLabels.{Level, or_level, and_level, atom, Label, bit, truth, Under, no_under, due, stands, on, depth_of, with_atom, label_told, no_label, fresh_term, whole_or}
use Rattle.claim.specs.declared.labels.Values.{Values}

-- SETS OF FLAG VALUES
abbrev pub most_values : ℕ
most_values = 256

-- word k of a set
abbrev pub word_of : Values → (k : ℕ) → ℕ
word_of w k = get_or w.words k 0

-- whether a flag value is in a set
unfoldable pub holds : Values → (v : ℕ) → Bool
holds w v = cond (ltb v 64) (bit (word_of w 0) v) (cond (ltb v 128) (bit (word_of w 1) (v - 64)) (cond (ltb v 192) (bit (word_of w 2) (v - 128)) (bit (word_of w 3) (v - 192))))

-- the set is where a label of any level is true
pub record TruthOf {l : Level} (x : Label l) (w : Values) : Type 0 where
  pub agrees : (v : ℕ) → v < most_values → truth x v ≡ holds w v

abbrev pub repeated_of : (bits : ℕ) → Values
repeated_of x = record { words = replicate 4 x }

abbrev pub all_bits : ℕ
all_bits = 2 ^ 64 - 1

abbrev pub everything : Values
everything = repeated_of all_bits

abbrev pub nothing : Values
nothing = repeated_of 0

abbrev pub word_by_word : (ℕ → ℕ → ℕ) → Values → Values → Values
word_by_word f v w = record { words = f (word_of v 0) (word_of w 0) ∷ f (word_of v 1) (word_of w 1) ∷ f (word_of v 2) (word_of w 2) ∷ f (word_of v 3) (word_of w 3) ∷ [] }

abbrev pub complement_of : Values → Values
complement_of w = word_by_word bit_xor w everything

abbrev pub intersection_of : Values → Values → Values
intersection_of v w = word_by_word bit_and v w

abbrev pub union_of : Values → Values → Values
union_of v w = word_by_word bit_or v w

-- PIECES OF A LABEL: the values on which one holds and the tokens past it, or the refusal
pub data Read : Type 0 where
  Got : Values → (rest : List Token) → Read
  No : (number : ℕ) → Read

-- from where an atom is due, deep brackets and negations down: for every label around it
abbrev pub AtomSays : (k deep : ℕ) → List Token → Read → Type 0
AtomSays k d ts (No n) = (us : List Under) (u : Under) → u.nots + depth_of us ≡ d → label_told k (on (due us u)) ts ≡ no_label n
AtomSays k d ts (Got w r) = (a : Label atom) × TruthOf a w × ((us : List Under) (u : Under) → u.nots + depth_of us ≡ d → label_told k (on (due us u)) ts ≡ label_told k (on (with_atom us u a)) r)

-- from where a term is due; what follows it is no &
abbrev pub AndSays : (k deep : ℕ) → List Token → Read → Type 0
AndSays k d ts (No n) = (us : List Under) (o : Option (Label or_level)) → depth_of us ≡ d → label_told k (on (due us (fresh_term o))) ts ≡ no_label n
AndSays k d ts (Got w r) = (c : Label and_level) × TruthOf c w × ((us : List Under) (o : Option (Label or_level)) → depth_of us ≡ d → label_told k (on (due us (fresh_term o))) ts ≡ label_told k (on (stands us o c)) r)

abbrev pub OrSays : (k deep : ℕ) → List Token → Read → Type 0
OrSays k d ts (No n) = (us : List Under) → depth_of us ≡ d → label_told k (on (due us no_under)) ts ≡ no_label n
OrSays k d ts (Got w r) = (o : Label or_level) × TruthOf o w × ((us : List Under) → depth_of us ≡ d → label_told k (on (due us no_under)) ts ≡ label_told k (on (whole_or us o)) r)
