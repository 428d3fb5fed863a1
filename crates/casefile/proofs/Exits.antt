-- Exits: what a function returns where a `?` meets a refusal, and where `o.ok_or(e)?` meets none. Assumes nothing.
use Rattle.std.proofs.Common.{◌≡◌, refl, ap, ◌∙◌}
use Rattle.std.specs.Prelude.{Option, Some, None, Result, Err}
use Rattle.std.specs.Option.{ok_or}
use Rattle.std.specs.Result.{IsErrAnd}
use Rattle.std.proofs.lemmas.Result.{err_from_is_err_and}

pub passed_on : {A E : Type 0} {r : Result A E} {x : E} → IsErrAnd r (λ y. y ≡ x) → r ≡ Err x
passed_on {r = r} h = let p = err_from_is_err_and r h in p.1 ∙ ap Err p.2

none_of : {A E : Type 0} (o : Option A) {e x : E} → ◌≡◌ {A = Result A E} (Err x) (ok_or o e) → (o ≡ None) × (x ≡ e)
none_of None h = (refl, cc)
none_of (Some a) h = (cc, cc)

pub none_there : {A B E : Type 0} {o : Option A} {r : Result B E} {e x : E} → IsErrAnd r (λ y. y ≡ x) → ◌≡◌ {A = Result A E} (Err x) (ok_or o e) → (o ≡ None) × (r ≡ Err e)
none_there {o = o} h k = let n = none_of o k in (n.0, passed_on h ∙ ap Err n.1)
