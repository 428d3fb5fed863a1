-- `header::kind_of` meets its contract. Assumes nothing.
use mathlib.Core.Path.{refl, sym, ap, ◌∙◌}
use Rattle.model.specs.ClaimTokens.{is_small}
use Rattle.claim.proofs.HeaderLoop.{small_skipped}
use Rattle.std.specs.Prelude.{Err}
use Rattle.claim.proofs.header.kind_of.Goals as goal

pub returns-then-is_ascii_lowercase : goal.returns-then-is_ascii_lowercase
returns-then-is_ascii_lowercase c = small_skipped _ _ c.first_byte-b.ensures (sym c.is_ascii_lowercase.ensures.value ∙ c.if-is_ascii_lowercase.true)

pub returns-then-word : goal.returns-then-word
returns-then-word c = sym (rw (sym c.word.ensures ∙ c.if-word.true))

pub returns-then-word-2 : goal.returns-then-word-2
returns-then-word-2 c = sym (rw (sym c.word.ensures ∙ c.if-word.false, sym c.word-2.ensures ∙ c.if-word-2.true))

pub returns-then-word-3 : goal.returns-then-word-3
returns-then-word-3 c = sym (rw (sym c.word.ensures ∙ c.if-word.false, sym c.word-2.ensures ∙ c.if-word-2.false, sym c.word-3.ensures ∙ c.if-word-3.true))

pub returns-then-word-4 : goal.returns-then-word-4
returns-then-word-4 c = sym (rw (sym c.word.ensures ∙ c.if-word.false, sym c.word-2.ensures ∙ c.if-word-2.false, sym c.word-3.ensures ∙ c.if-word-3.false, sym c.word-4.ensures ∙ c.if-word-4.true))

pub returns-then-word-5 : goal.returns-then-word-5
returns-then-word-5 c = sym (rw (sym c.word.ensures ∙ c.if-word.false, sym c.word-2.ensures ∙ c.if-word-2.false, sym c.word-3.ensures ∙ c.if-word-3.false, sym c.word-4.ensures ∙ c.if-word-4.false, sym c.word-5.ensures ∙ c.if-word-5.true))

pub returns : goal.returns
unfolding is_small
returns c = ap Err c.no_kind.ensures ∙ sym (rw (sym c.word.ensures ∙ c.if-word.false, sym c.word-2.ensures ∙ c.if-word-2.false, sym c.word-3.ensures ∙ c.if-word-3.false, sym c.word-4.ensures ∙ c.if-word-4.false, sym c.word-5.ensures ∙ c.if-word-5.false, sym c.first_byte-b.ensures, sym c.is_ascii_lowercase.ensures.value ∙ c.if-is_ascii_lowercase.false) refl)
