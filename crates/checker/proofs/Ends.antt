-- The end of an answer's lines: bytes after the last line are one line more. Assumes nothing.
use mathlib.Core.Path.{◌≡◌, ap, ◌∙◌}
use mathlib.Core.Bool.{true, false}
use mathlib.Core.List.{List}
use Prim.Native.Nat.{ℕ, ◌-◌, ◌≤◌, ◌<◌}
use native.Mathlib.Omega.{arith}
use lib.Dec.{ltb}
use lib.ListN.{length, drop, length-drop}
use borrow.Author.Tests.{lt-ltb, le-ltb}
use Rattle.text.specs.Lines.{lines}
use Rattle.text.specs.Reading.{skip}
use Rattle.text.proofs.Reading.{no_lines, some_lines}
use Rattle.text.proofs.Places.{skip_lines}

module _ (k : ℕ) (s : List ℕ) (at z : ℕ) (place : skip k s at ≡ z) where
  pub rest_lines : lines (drop z s) ≡ drop k (lines (drop at s))
  rest_lines = rw place at (skip_lines k s at)

  left_over : length (lines (drop z s)) ≡ length (lines (drop at s)) - k
  left_over = ap length rest_lines ∙ length-drop k (lines (drop at s))

  pub more_lines : z < length s → ltb k (length (lines (drop at s))) ≡ true
  more_lines h = lt-ltb k _ (omega (arith, left_over, some_lines s z h))

  pub no_more_lines : length s ≤ z → ltb k (length (lines (drop at s))) ≡ false
  no_more_lines h = le-ltb k _ (omega (arith, left_over, ap length (no_lines s z h)))
