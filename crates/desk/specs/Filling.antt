-- What filling a buffer answers, and an argument that is to be a number. Assumes nothing: these are definitions.
use Rattle.std.specs.Prelude.{◌≡◌, List, ℕ, ◌≤◌, ◌<◌, length, take, drop, Option, Result, IfOk}
use Rattle.std.specs.Borrow.{Bor}
use Rattle.std.specs.Io.KnownBytes.{Consumes, IsAtEnd}
use Rattle.text.specs.Reading.{number_in}

-- the bytes said to be there are within the room. That they are those of a file of the system, no contract can say
abbrev pub Fills : {E : Type 0} → Result ℕ E → (room : ℕ) → Type 0
Fills r room = IfOk r (λ n. n ≤ room)

-- of a reader whose bytes are known: those in front are its next, and they leave room only where it is at its end
abbrev pub Takes : {E : Type 0} → Result ℕ E → (known left : Option (List ℕ)) → (buffer : List ℕ) → Type 0
Takes r b a z = IfOk r (λ n. Consumes b a (take n z) × (n < length z → IsAtEnd a))

-- the same of one read behind the k bytes that are there, which stay
abbrev pub TakesMore : {E : Type 0} → Result ℕ E → (known left : Option (List ℕ)) → (k : ℕ) → (before after : List ℕ) → Type 0
TakesMore r b a k y z = IfOk r (λ n. (take k z ≡ take k y) × Consumes b a (take n (drop k z)) × (n ≡ 0 → k < length z → IsAtEnd a))

-- the same of that part of a buffer with so much room
abbrev pub FillsPart : {E : Type 0} → Result (Bor (List ℕ)) E → (room : ℕ) → Type 0
FillsPart r room = IfOk r (λ part. length part.now ≤ room)

abbrev pub TakesPart : {E : Type 0} → Result (Bor (List ℕ)) E → (known left : Option (List ℕ)) → (room : ℕ) → Type 0
TakesPart r b a room = IfOk r (λ part. Consumes b a part.now × (length part.now < room → IsAtEnd a))

-- what is said of a number is what some word says. That this word is the argument, no contract can say
pub record SaidByWord (r : Option ℕ) : Type 0 where
  pub word : List ℕ
  pub says : r ≡ number_in word
