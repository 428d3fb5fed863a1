-- `output::write_refused`: the refusal's line, alone or with the pair's two behind it.
use mathlib.Core.Path.{refl, sym, ◌∙◌}
use Rattle.text.proofs.Tests.{refuted, upheld}
use Rattle.desk.proofs.Writing.{chain_alone, chain_pair}
use Rattle.std.proofs.lemmas.Bool.{not_from_false, not_from_true}
use Rattle.desk.proofs.output.write_refused.Goals as goal

pub returns-then-not-names_pair-clause-chain : goal.returns-then-not-names_pair-clause-chain
returns-then-not-names_pair-clause-chain c = chain_alone _ _ _ (sym c.names_pair.ensures ∙ refuted _ _ (not_from_false _ c.if-not-names_pair.true) refl) c.write_refusal.ensures.chain

pub returns-clause-chain : goal.returns-clause-chain
returns-clause-chain c = chain_pair _ _ _ (sym c.names_pair.ensures ∙ upheld _ _ (not_from_true _ c.if-not-names_pair.false) refl) c.write_refusal.ensures.chain c.write_between.ensures.chain c.write_between-2.ensures.chain
