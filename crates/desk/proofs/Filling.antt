-- What a reader gave in two reads, one behind the other. Assumes nothing.
use Rattle.std.proofs.Common.{◌≡◌, ◌∙◌, sym, ap, ℕ, ◌+◌, List, ◌++◌, take, drop, append_assoc}
use Rattle.std.proofs.Math.Seq.{take-add}
use Rattle.std.specs.declared.option.Option.{Option}
use Rattle.std.specs.declared.option.Option.TheVariants.{None, Some}
use Rattle.std.specs.Io.KnownBytes.{Consumes}

both : (b m a : Option (List ℕ)) (xs ys : List ℕ) → Consumes b m xs → Consumes m a ys → Consumes b a (xs ++ ys)
both None m a xs ys p q = tt
both (Some us) None a xs ys p q = absurd p
both (Some us) (Some vs) None xs ys p q = absurd q
both (Some us) (Some vs) (Some ws) xs ys p q = p ∙ ap (λ l. xs ++ l) q ∙ sym (append_assoc xs ys ws)

pub takes_on : (b m a : Option (List ℕ)) (k n : ℕ) (y z : List ℕ) → Consumes b m (take k y) → take k z ≡ take k y → Consumes m a (take n (drop k z)) → Consumes b a (take (k + n) z)
takes_on b m a k n y z p e q =
    let front : Consumes b m (take k z) = rw e p in
    rw (take-add k n z) (both b m a (take k z) (take n (drop k z)) front q)
