-- What the reader of a claim answers: 02's number for a refusal, or the claim's counts; and what the cells then hold.
-- Assumes nothing: these are definitions.
use Rattle.std.specs.Prelude.{◌≡◌, false, cond, List, [], ◌∷◌, ℕ, ◌<◌, ◌≤◌, eqb, length, get_or, replicate, Result, Ok, Err}
use Rattle.text.specs.Ascii.{ascii}
use Rattle.model.specs.ClaimTokens as T
use Rattle.model.specs.ClaimTokens.{opens_so}
use Rattle.model.specs.ClaimGrammar.{Item, State}
use Rattle.model.specs.ClaimTable.{go, opening, version, told, taken_as, refused, claim_told, claim_refusal}
use Rattle.model.specs.Claim.{Claim, claim_in}
use Rattle.claim.specs.Reads.{tokens_at, Ahead}
use Rattle.claim.specs.HeaderSays.{HasCounts}
use Rattle.claim.specs.Cells.{claim_cells, LinesHeld, ClaimHeld}
use Rattle.claim.specs.declared.Counts.{Counts}
use Rattle.model.specs.Refusals.{number, refusal_of}
use Rattle.model.specs.declared.refusal.Refusal.{Refusal}

-- the version, at a place of a text of which so many bytes are looked at
abbrev pub VersionSays : (text : List ℕ) → (limit at : ℕ) → Result ℕ Refusal → Type 0
VersionSays s l at (Ok n) = (tokens_at s l at ≡ T.name (ascii "v1") ∷ tokens_at s l n) × Ahead s at n
VersionSays s l at (Err j) = ((t : T.Token) → opens_so (t ∷ tokens_at s l at) ≡ false) × (told (go version) (tokens_at s l at) ≡ refused (number j))

-- THE OPENING of a text of which so many bytes are looked at
abbrev pub OpeningSays : (text : List ℕ) → (limit : ℕ) → Result ℕ Refusal → Type 0
OpeningSays s l (Ok n) = (tokens_at s l 0 ≡ T.header (ascii "HOA") ∷ T.name (ascii "v1") ∷ tokens_at s l n) × Ahead s 0 n
OpeningSays s l (Err j) = (opens_so (tokens_at s l 0) ≡ false) × (told (go opening) (tokens_at s l 0) ≡ refused (number j))

-- THE WHOLE TEXT into cells: the tree that it spells, what its header gives, and its lines in the cells
pub record TreeRead (s : List ℕ) (c : Counts) (cells cells_now : List ℕ) : Type 0 where
  pub items : List Item
  pub states : List State
  pub taken_so : claim_told s ≡ taken_as (record { items = items; states = states })
  pub counts : HasCounts items c
  pub held : LinesHeld s [] cells → LinesHeld s states cells_now

abbrev pub TextRead : (text : List ℕ) → Result Counts Refusal → (cells cells_now : List ℕ) → Type 0
TextRead s (Err k) w v = claim_told s ≡ refused (number k)
TextRead s (Ok c) w v = TreeRead s c w v

-- THE JUDGE
unfoldable pub counts_of : Claim → Counts
counts_of k = record { states = length k.states; start = k.start; propositions = k.propositions }

unfoldable pub judged_claim : (text : List ℕ) → Result Counts Refusal
judged_claim bs = cond (eqb (claim_refusal bs) 0) (Ok (counts_of (claim_in bs))) (Err (refusal_of (claim_refusal bs)))

-- in cells that have room
pub record IntoSays (bs : List ℕ) (r : Result Counts Refusal) (cells_now : List ℕ) : Type 0 where
  pub answer : r ≡ judged_claim bs
  pub held : ClaimHeld bs (claim_in bs) cells_now

-- the claim stands in the first cells, if they have room for it, and all others are 0; of a refused text no cell holds
-- anything
pub record ClaimRead (bs : List ℕ) (r : Result Counts Refusal) (cells cells_now : List ℕ) : Type 0 where
  pub answer : r ≡ judged_claim bs
  pub held : claim_cells ≤ length cells → ClaimHeld bs (claim_in bs) cells_now
  pub rest : (i : ℕ) → claim_cells ≤ i → get_or cells_now i 0 ≡ 0
  pub short : length cells < claim_cells → cells_now ≡ replicate (length cells) 0
