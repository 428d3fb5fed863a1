use mathlib.Core.Path.{◌≡◌, ap, ◌∙◌}
use mathlib.Core.Bool.{not}
use mathlib.Core.Option.{Option, some}
use Prim.Native.Nat.{ℕ, ◌+◌}
use lib.ListN.{get_or}
use lib.IntN.{pos, neg_ℤ}
use mir.Syntax.{w32}
use mir.Val.{SFits}
use mir.Facts.{to_z-of_z}
use Rattle.model.specs.Run.{lower}
use Rattle.search.specs.Asks.{PutSays}
use Rattle.search.specs.Cells.{message_at, far}
use Rattle.search.proofs.Numbers.{least_is, some_is, none_test}
use Rattle.search.proofs.run.put_offer.Goals as goal

pub returns : goal.returns
unfolding PutSays
returns c =
    let stored : (o : Option ℕ) (n : ℕ) → let a = c.args in
    get_or a.work.now (message_at + a.e) (pos 0) ≡ far o → a.d ≡ neg_ℤ (pos n) → c.min.result ≡ far (some (lower o n)) = λ o n w d. let f : SFits w32 c.load-waiting.result = record { sfits = c.load-waiting.type_inv } in
    c.min.ensures.value ∙ (rw (to_z-of_z c.ranges.d, to_z-of_z f, c.load-waiting.ensures ∙ w, d) (least_is o n)) in
    λ o n w d.
    let f : SFits w32 c.min.result = record { sfits = c.min.type_inv } in (
      ap not (none_test _ c.load-waiting.result o (record { sfits = c.load-waiting.type_inv }) c.missing.ensures (c.load-waiting.ensures ∙ w)) ∙ some_is o,
      c.store.ensures ∙ (rw (to_z-of_z f, stored o n w d)),
    )
