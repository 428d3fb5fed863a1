-- `read::field` meets its contract: the part has the field's bytes and stands in the text. Assumes nothing.
use mathlib.Core.Path.{refl, sym}
use native.Mathlib.Omega.{arith}
use native.Mathlib.Nat.{sub_self}
use lib.ListN.{length}
use Rattle.text.proofs.ReadingSteps.{field_within, field_part, field_past}
use Rattle.text.proofs.read.field.Goals as goal

pub returns-then-text-at : goal.returns-then-text-at
returns-then-text-at c =
    let s = c.args.text.now in
    let at = c.args.at in
    record { bytes = rw (sub_self (length s)) (sym (field_past s at (omega arith))); block = refl; offset = omega arith }

pub slice_bounds-result-end-2 : goal.slice_bounds-result-end-2
slice_bounds-result-end-2 c =
    let s = c.args.text.now in
    let at = c.args.at in
    omega (arith, field_within s at (omega arith))

pub returns : goal.returns
returns c =
    let s = c.args.text.now in
    let at = c.args.at in
    record { bytes = rw c.field_end-e.ensures (field_part s at); block = refl; offset = omega arith }
