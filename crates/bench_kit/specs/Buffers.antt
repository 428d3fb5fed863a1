-- What the buffers that are lent to a run hold before it, and their fronts. Assumes nothing: these are definitions.
use Rattle.std.specs.Prelude.{◌≡◌, List, ℕ, take}
use Rattle.std.specs.Borrow.{Bor}

-- the byte `#`, which an output holds before a run
abbrev pub mark : ℕ
mark = 35

-- the first so many elements of a lent list, all of them where it has fewer: that very part, never a copy
pub record Front {A : Type 0} (whole : Bor (List A)) (size : ℕ) (part : Bor (List A)) : Type 0 where
  pub elements : part.now ≡ take size whole.now
  pub block : part.ref_ptr.0 ≡ whole.ref_ptr.0
  pub offset : part.ref_ptr.1 ≡ whole.ref_ptr.1
