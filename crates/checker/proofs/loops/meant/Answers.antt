-- `checker::loops::meant`: the case as it is, or with its rest loops.
use mathlib.Core.Path.{refl}
use Rattle.checker.proofs.RestLoops.{stands_rested, meant_rested, meant_file}
use Rattle.checker.proofs.loops.meant.Goals as goal

pub returns-then-version-ne-ANSWER_VERSION : goal.returns-then-version-ne-ANSWER_VERSION
returns-then-version-ne-ANSWER_VERSION c = record { vertices = refl; stands = λ g marks s. rw (meant_file g c.if-version-ne-ANSWER_VERSION.true) s }

pub returns : goal.returns
returns c = record { vertices = refl; stands = λ g marks s. rw (meant_rested g c.if-version-ne-ANSWER_VERSION.false) (stands_rested s (c.rest_loops.ensures g s.vertices s.ends)) }
