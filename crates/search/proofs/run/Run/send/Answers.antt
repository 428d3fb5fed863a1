use mathlib.Core.Path.{◌≡◌, sym, ◌∙◌}
use mathlib.Core.Bool.{Bool, true, false}
use mathlib.Core.Option.{none, some}
use Prim.Native.Nat.{ℕ, ◌+◌, ◌<◌}
use lib.ListN.{get_or, set}
use lib.IntN.{pos, neg_ℤ}
use mir.Facts.{to_z-of_z}
use Rattle.model.specs.Case.{Case}
use Rattle.model.specs.Run.{State, is_some, lower, send}
use Rattle.search.specs.Asks.{PutSays, SendSays}
use Rattle.search.specs.Cells.{message_at, far}
use Rattle.search.specs.Rep.{Rep}
use Rattle.search.proofs.Stores.{there}
use Rattle.search.proofs.Steps.{sent_run, sent_rep}
use Rattle.search.proofs.run.Run.send.Goals as goal

pub returns-then-joined : goal.returns-then-joined
unfolding SendSays PutSays
returns-then-joined c =
    let put : (q : Case) (x : State) (o : ℕ) → let a = c.args in
    Rep q x a.self.now a.work.now → a.e < q.file_edges → a.d ≡ neg_ℤ (pos o)
    → let waiting = get_or x.cells a.e none in (c.put_offer-joined.result ≡ is_some waiting) × (c.put_offer-joined.new.work ≡ set a.work.now (message_at + a.e) (far (some (lower waiting o)))) = λ q x o rep h d. let e = c.args.e in
    c.put_offer-joined.ensures (get_or x.cells e none) o (there rep.held.cells e h) (to_z-of_z c.ranges.d ∙ d) in
    let counted : (b : Bool) → c.put_offer-joined.result ≡ b → (q : Case) (x : State) (o : ℕ) → let a = c.args in
    Rep q x a.self.now a.work.now → a.e < q.file_edges → a.d ≡ neg_ℤ (pos o)
    → Rep q (send a.e o x) (sent_run b a.self.now) c.put_offer-joined.new.work = λ b j q x o rep h d. let p = put q x o rep h d in
    rw p.1 (sent_rep q x _ _ c.args.e o b rep h (sym p.0 ∙ j)) in
    λ q x o rep h d. counted true c.if-joined.true q x o rep h d

pub returns-else-joined : goal.returns-else-joined
unfolding SendSays PutSays
returns-else-joined c =
    let put : (q : Case) (x : State) (o : ℕ) → let a = c.args in
    Rep q x a.self.now a.work.now → a.e < q.file_edges → a.d ≡ neg_ℤ (pos o)
    → let waiting = get_or x.cells a.e none in (c.put_offer-joined.result ≡ is_some waiting) × (c.put_offer-joined.new.work ≡ set a.work.now (message_at + a.e) (far (some (lower waiting o)))) = λ q x o rep h d. let e = c.args.e in
    c.put_offer-joined.ensures (get_or x.cells e none) o (there rep.held.cells e h) (to_z-of_z c.ranges.d ∙ d) in
    let counted : (b : Bool) → c.put_offer-joined.result ≡ b → (q : Case) (x : State) (o : ℕ) → let a = c.args in
    Rep q x a.self.now a.work.now → a.e < q.file_edges → a.d ≡ neg_ℤ (pos o)
    → Rep q (send a.e o x) (sent_run b a.self.now) c.put_offer-joined.new.work = λ b j q x o rep h d. let p = put q x o rep h d in
    rw p.1 (sent_rep q x _ _ c.args.e o b rep h (sym p.0 ∙ j)) in
    λ q x o rep h d. counted false c.if-joined.false q x o rep h d
