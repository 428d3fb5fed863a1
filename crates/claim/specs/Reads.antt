-- What the reader's functions say of the text from where they stand. Assumes nothing: these are definitions.
use Rattle.std.specs.Prelude.{◌≡◌, Bool, true, false, cond, List, [], ◌∷◌, ℕ, ◌+◌, ◌-◌, ◌<◌, ◌≤◌, min, ltb, eqb, length, get_or, take, drop, Option, Some, None, Result, Ok, Err}
use Rattle.model.specs.ClaimTokens as T
use Rattle.model.specs.ClaimLabels.{and_byte, or_byte, Label, or_level, proposition, on, label_start, label_told, label_is, no_label}
use Rattle.model.specs.ClaimTokens.{Mode, between, lex, is_blank, is_name_byte, is_symbol}
use Rattle.claim.specs.declared.tokens.Token.{Token}
use Rattle.claim.specs.declared.tokens.Token.TheVariants.{Name, Header, Number, Text, Symbol, Body, End, Alias, Comment, Stray, Done}
use Rattle.claim.specs.declared.tokens.Seen.{Seen}
use Rattle.claim.specs.declared.labels.Values.{Values}
use Rattle.model.specs.Refusals.{number}
use Rattle.model.specs.declared.refusal.Refusal.{Refusal}
use Rattle.model.specs.declared.refusal.Refusal.TheVariants.{ClaimGrammar, NotTaken}
use Rattle.model.specs.ClaimTable.{is_sign}
use Rattle.claim.specs.LabelSays.{TruthOf, everything, nothing, complement_of, Got, No, AtomSays, AndSays, OrSays}

-- TOKENS: the bytes from a place up to another
abbrev pub part : (text : List ℕ) → (from to : ℕ) → List ℕ
part s a e = take (e - a) (drop a s)

-- the tokens from a place on, in a mode, where the first `limit` bytes of the text are looked at
abbrev pub lexed : (text : List ℕ) → (limit : ℕ) → Mode → (at : ℕ) → List T.Token
lexed s l m at = lex (l - at) m (drop at s)

abbrev pub tokens_at : (text : List ℕ) → (limit at : ℕ) → List T.Token
tokens_at s l at = lexed s l between at

abbrev pub claim_tokens : (text : List ℕ) → (at : ℕ) → List T.Token
claim_tokens s at = tokens_at s T.longest_claim at

-- blanks stand from a place up to another, and no more
pub record BlanksEnd (s : List ℕ) (limit at e : ℕ) : Type 0 where
  pub same : tokens_at s limit at ≡ tokens_at s limit e
  pub ahead : at ≤ e
  pub inside : at ≤ length s → e ≤ length s
  pub stops : e < length s → e < limit → is_blank (get_or s e 0) ≡ false

-- no blank stands at a place of a claim
abbrev pub PastBlanks : (text : List ℕ) → (at : ℕ) → Type 0
PastBlanks s e = e < length s → e < T.longest_claim → is_blank (get_or s e 0) ≡ false

-- the byte at a place of a claim, where one is looked at
unfoldable pub byte_of : (text : List ℕ) → (at : ℕ) → Option ℕ
byte_of s at = cond (ltb at (min T.longest_claim (length s))) (Some (get_or s at 0)) None

-- a byte that is a token by itself
abbrev pub Sign : (byte : ℕ) → Type 0
Sign b = is_symbol b ≡ true

-- a name that begins at a place ends at another
pub record NameEnd (s : List ℕ) (limit at e : ℕ) : Type 0 where
  pub same : lexed s limit (T.in_name (part s at (at + 1))) (at + 1) ≡ lexed s limit (T.in_name (part s at e)) e
  pub ahead : at < e
  pub inside : e ≤ length s
  pub stops : e < length s → e < limit → is_name_byte (get_or s e 0) ≡ false

-- a place goes ahead to another, and stays in the text
pub record Ahead (s : List ℕ) (at next : ℕ) : Type 0 where
  pub more : at < next
  pub inside : next ≤ length s

-- or stays
pub record Onward (s : List ℕ) (at next : ℕ) : Type 0 where
  pub more : at ≤ next
  pub inside : at ≤ length s → next ≤ length s

-- a token stands at a place, and ends at another
abbrev pub Stands : (text : List ℕ) → (at : ℕ) → T.Token → (next : ℕ) → Type 0
Stands s at t n = (claim_tokens s at ≡ t ∷ claim_tokens s n) × Ahead s at n

-- a number of one digit stands at a place, told by the byte after it; `None` says nothing
abbrev pub LoneDigit : (text : List ℕ) → (at : ℕ) → Option ℕ → Type 0
LoneDigit s at (Some v) = Stands s at (T.number v) (at + 1)
LoneDigit s at None = Unit {0}

-- a name of one letter
abbrev pub LoneLetter : (text : List ℕ) → (at : ℕ) → Option ℕ → Type 0
LoneLetter s at (Some b) = Stands s at (T.name (b ∷ [])) (at + 1)
LoneLetter s at None = Unit {0}

-- what was read and the place past it; or the refusal
abbrev pub Parsed : Type 0 → Type 0
Parsed A = Result (A × ℕ) Refusal

-- a token of the code and what follows it
abbrev pub spelt : (text : List ℕ) → Token → (rest : List T.Token) → List T.Token
spelt s (Name a e) ts = T.name (part s a e) ∷ ts
spelt s (Header a e) ts = T.header (part s a e) ∷ ts
spelt s (Number v) ts = T.number v ∷ ts
spelt s (Text a e) ts = T.string (part s a e) ∷ ts
spelt s (Symbol b) ts = T.symbol b ∷ ts
spelt s Body ts = T.body_mark ∷ ts
spelt s End ts = T.end_mark ∷ ts
spelt s Alias ts = T.alias ∷ ts
spelt s Comment ts = T.comment ∷ ts
spelt s Stray ts = T.stray ∷ ts
spelt s Done ts = []

-- whether more is read after it: a claim ends with an alias, a comment, a stray byte or the text's end, whatever follows
abbrev pub reads_on : Token → Bool
reads_on (Name a e) = true
reads_on (Header a e) = true
reads_on (Number v) = true
reads_on (Text a e) = true
reads_on (Symbol b) = true
reads_on Body = true
reads_on End = true
reads_on Alias = false
reads_on Comment = false
reads_on Stray = false
reads_on Done = false

-- where a string's bytes stand: past its first quote, in the part of the text that is looked at
pub record Quoted (s : List ℕ) (limit from to : ℕ) : Type 0 where
  pub past_quote : 1 ≤ from
  pub ahead : from ≤ to
  pub inside : to ≤ length s
  pub looked_at : to < limit

abbrev pub Bounds : (text : List ℕ) → (limit : ℕ) → Token → Type 0
Bounds s l (Text a e) = Quoted s l a e
Bounds s l (Name a e) = Unit {0}
Bounds s l (Header a e) = Unit {0}
Bounds s l (Number v) = Unit {0}
Bounds s l (Symbol b) = Unit {0}
Bounds s l Body = Unit {0}
Bounds s l End = Unit {0}
Bounds s l Alias = Unit {0}
Bounds s l Comment = Unit {0}
Bounds s l Stray = Unit {0}
Bounds s l Done = Unit {0}

-- the tokens ts, of the text from `at` on, begin with this one, and go on at the place past it
pub record Sees (s : List ℕ) (limit at : ℕ) (ts : List T.Token) (seen : Seen) : Type 0 where
  pub rest : List T.Token
  pub reads : ts ≡ spelt s seen.token rest
  pub goes : reads_on seen.token ≡ true → rest ≡ tokens_at s limit seen.next
  pub past : reads_on seen.token ≡ true → Ahead s at seen.next
  pub bounds : Bounds s limit seen.token

-- a sign and the byte after it: the token, if that byte fits
abbrev pub pair_of : (next : ℕ) → (fits : Bool) → Token → Seen
pair_of n fits t = record { token = cond fits t Stray; next = n }

-- whether a token is this symbol
abbrev pub is_symbol_of : Token → (byte : ℕ) → Bool
is_symbol_of (Symbol c) b = eqb c b
is_symbol_of (Name a e) b = false
is_symbol_of (Header a e) b = false
is_symbol_of (Number v) b = false
is_symbol_of (Text a e) b = false
is_symbol_of Body b = false
is_symbol_of End b = false
is_symbol_of Alias b = false
is_symbol_of Comment b = false
is_symbol_of Stray b = false
is_symbol_of Done b = false

-- the refusal for a token that is not taken
abbrev pub fault_of : Token → Refusal
fault_of Comment = NotTaken
fault_of (Name a e) = ClaimGrammar
fault_of (Header a e) = ClaimGrammar
fault_of (Number v) = ClaimGrammar
fault_of (Text a e) = ClaimGrammar
fault_of (Symbol c) = ClaimGrammar
fault_of Body = ClaimGrammar
fault_of End = ClaimGrammar
fault_of Alias = ClaimGrammar
fault_of Stray = ClaimGrammar
fault_of Done = ClaimGrammar

-- the same of the tokens that it stands before: whether they begin with this sign
unfoldable pub starts : (byte : ℕ) → List T.Token → Bool
starts b [] = false
starts b (t ∷ ts) = is_sign (T.symbol b) t

-- the refusal for them where their first is not taken
unfoldable pub first_fault : List T.Token → ℕ
first_fault [] = 15
first_fault (T.comment ∷ ts) = 16
first_fault (T.name w ∷ ts) = 15
first_fault (T.header w ∷ ts) = 15
first_fault (T.number w ∷ ts) = 15
first_fault (T.string w ∷ ts) = 15
first_fault (T.symbol w ∷ ts) = 15
first_fault (T.body_mark ∷ ts) = 15
first_fault (T.end_mark ∷ ts) = 15
first_fault (T.alias ∷ ts) = 15
first_fault (T.stray ∷ ts) = 15

-- LABELS: what the reader of each level answers at a place, so many brackets and negations deep; it goes past the blanks too
abbrev pub AtomRead : (text : List ℕ) → (k deep at : ℕ) → Parsed Values → Type 0
AtomRead s k d at (Ok (w, n)) = AtomSays k d (claim_tokens s at) (Got w (claim_tokens s n)) × Ahead s at n × PastBlanks s n
AtomRead s k d at (Err j) = AtomSays k d (claim_tokens s at) (No (number j))

abbrev pub AndRead : (text : List ℕ) → (k deep at : ℕ) → Parsed Values → Type 0
AndRead s k d at (Ok (w, n)) = AndSays k d (claim_tokens s at) (Got w (claim_tokens s n)) × Ahead s at n × PastBlanks s n × (starts and_byte (claim_tokens s n) ≡ false)
AndRead s k d at (Err j) = AndSays k d (claim_tokens s at) (No (number j))

abbrev pub OrRead : (text : List ℕ) → (k deep at : ℕ) → Parsed Values → Type 0
OrRead s k d at (Ok (w, n)) =
    OrSays k d (claim_tokens s at) (Got w (claim_tokens s n)) × Ahead s at n × PastBlanks s n × (starts and_byte (claim_tokens s n) ≡ false) × (starts or_byte (claim_tokens s n) ≡ false)
OrRead s k d at (Err j) = OrSays k d (claim_tokens s at) (No (number j))

-- after negations, whether they are odd in number
abbrev pub negated_of : (odd : Bool) → Parsed Values → Parsed Values
negated_of true (Ok (w, n)) = Ok (complement_of w, n)
negated_of false (Ok (w, n)) = Ok (w, n)
negated_of odd (Err k) = Err k

-- the inside of a bracket or a label, once its end is looked at
abbrev pub Closed : (text : List ℕ) → (byte : ℕ) → (inside whole : Parsed Values) → Type 0
Closed s b (Err j) r = r ≡ Err j
Closed s b (Ok (v, e)) (Ok (w, n)) = (w ≡ v) × (claim_tokens s e ≡ T.symbol b ∷ claim_tokens s n) × Ahead s e n × PastBlanks s n
Closed s b (Ok (v, e)) (Err j) = PastBlanks s e → (starts b (claim_tokens s e) ≡ false) × (number j ≡ first_fault (claim_tokens s e))

-- a label and its ], and the blanks past it
abbrev pub LabelSays : (text : List ℕ) → (k at : ℕ) → Parsed Values → Type 0
LabelSays s k at (Ok (w, n)) = (o : Label or_level) × TruthOf o w × (label_told k (on label_start) (claim_tokens s at) ≡ label_is o (claim_tokens s n)) × Ahead s at n × PastBlanks s n
LabelSays s k at (Err j) = label_told k (on label_start) (claim_tokens s at) ≡ no_label (number j)

-- leaves of a label
abbrev pub constant_if : (always never : Bool) → (next : ℕ) → Parsed Values
constant_if t f n = cond t (Ok (everything, n)) (cond f (Ok (nothing, n)) (Err ClaimGrammar))

abbrev pub PropositionRead : (i count next : ℕ) → Parsed Values → Type 0
PropositionRead i k n (Ok (w, m)) = (ltb i k ≡ true) × TruthOf (proposition i) w × (m ≡ n)
PropositionRead i k n (Err j) = (ltb i k ≡ false) × (j ≡ ClaimGrammar)

abbrev pub no_atom_of : Token → Refusal
no_atom_of Alias = NotTaken
no_atom_of Comment = NotTaken
no_atom_of (Name a e) = ClaimGrammar
no_atom_of (Header a e) = ClaimGrammar
no_atom_of (Number v) = ClaimGrammar
no_atom_of (Text a e) = ClaimGrammar
no_atom_of (Symbol c) = ClaimGrammar
no_atom_of Body = ClaimGrammar
no_atom_of End = ClaimGrammar
no_atom_of Stray = ClaimGrammar
no_atom_of Done = ClaimGrammar
