-- `casefile::rising`: the order of pairs, and none before any.
use Rattle.std.proofs.Common.{◌≡◌, ℕ, refl, ◌∙◌, arith}
use Rattle.std.proofs.lemmas.Bool.Decides.{nat_tests}
use Rattle.std.specs.Prelude.{Option, Some, None}
use Rattle.std.specs.Ordering.{nat_cmp, partial_lt, partial_ordering_then}
use Rattle.std.specs.Option.{option_partial_cmp}
use Rattle.model.specs.CaseFile.{rises}
use Rattle.casefile.specs.Judging.{edge_before}
use Rattle.casefile.proofs.rising.Goals as goal

go : (o : Option (ℕ × ℕ)) (a b : ℕ) →
    partial_lt (option_partial_cmp {T = ℕ × ℕ} (λ x y. partial_ordering_then (Some (nat_cmp x.0 y.0)) (Some (nat_cmp x.1 y.1)))) o (Some (a, b)) ≡ rises (edge_before o) (record { from = a; to = b })
unfolding rises edge_before
go None a b = refl
go (Some (f, t)) a b = grind (arith, nat_tests)

pub returns : goal.returns
returns c = c.lt.ensures ∙ go c.args.before c.args.from c.args.to
