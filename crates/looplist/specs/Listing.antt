-- A list of acts as text, "one act number per line" in the number form of 01. Assumes nothing: these are definitions.
use Rattle.std.specs.Prelude.{◌≡◌, cond, List, [], ◌∷◌, ℕ, zero, suc, ◌*◌, ◌^◌, ◌≤◌, ◌<◌, length, take, Result, Ok, Err, IfOk}
use Rattle.text.specs.Lines.{Line, lines}
use Rattle.text.specs.Numbers.{numbers_line, number_at}
use Rattle.looplist.specs.declared.acts.BadList.{BadList}
use Rattle.looplist.specs.declared.acts.BadList.TheVariants.{NoAct, TooMany}

-- the lines from one on, with room for so many acts after the k before it: all are acts; or the first that is none,
-- counted from 1; or one more than there is room for
unfoldable pub listed : (room k : ℕ) → List Line → Result ℕ BadList
listed room k [] = Ok k
listed zero k (l ∷ ls) = Err TooMany
listed (suc room) k (l ∷ ls) = cond (numbers_line 1 l) (listed room (suc k) ls) (Err (NoAct (suc k)))

-- the number on each line
unfoldable pub numbers_of : List Line → List ℕ
numbers_of [] = []
numbers_of (l ∷ ls) = number_at l 0 ∷ numbers_of ls

-- what is read of a text into a buffer, xs before and ys after
pub record Lists (text : List ℕ) (r : Result ℕ BadList) (xs ys : List ℕ) : Type 0 where
  pub says : r ≡ listed (length xs) 0 (lines text)
  pub holds : IfOk r (λ n. (n ≤ length ys) × (take n ys ≡ numbers_of (lines text)))

-- a longer file is not taken for its front: more than 10 bytes for each act that there is room for, and the bytes read
-- decide as the whole would
unfoldable pub FrontDecides : Type 0
FrontDecides = (room n : ℕ) (text : List ℕ) → 10 * room < n → listed room 0 (lines (take n text)) ≡ listed room 0 (lines text)

-- a line that is no act can be named in 32 bits
abbrev pub Near : BadList → Type 0
Near (NoAct n) = n < 2 ^ 32
Near TooMany = Unit {0}
