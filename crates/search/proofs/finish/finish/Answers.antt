-- `finish::finish`: cut short, or with a result; the cells are cleared either way.
use mathlib.Core.Path.{refl, ap, ◌∙◌}
use Rattle.model.specs.Refusals.{verdict_number}
use native.Mathlib.Omega.{arith}
use Rattle.text.proofs.Tests.{refuted, upheld}
use Rattle.search.proofs.Ends.{acts_small, done_written, finish_cut, finish_done}
use Rattle.std.proofs.lemmas.Bool.{not_from_false, not_from_true}
use Rattle.std.proofs.Common.{rules}
use Rattle.search.proofs.finish.finish.Goals as goal

pub acts_done-acts-requires : goal.acts_done-acts-requires
acts_done-acts-requires c = acts_small c.requires.answer.gone

pub is_over-requires : goal.is_over-requires
is_over-requires c =
    let s = c.requires in
    record { case = s.answer.case; state = s.answer.state; rep = s.answer.gone.rep; workers = s.workers }

pub returns-then-not-is_over : goal.returns-then-not-is_over
returns-then-not-is_over c = rw c.number.ensures (finish_cut c.is_over.ensures (refuted _ _ (not_from_false _ c.if-not-is_over.true) refl) c.clear.ensures c.acts_done-acts.ensures)

pub write_answer-requires : goal.write_answer-requires
write_answer-requires c = c.requires.answer

pub overflow_cast-result : goal.overflow_cast-result
overflow_cast-result c =
    let s = c.requires in
    record { fits = omega (arith, c.unwrap_or-written.ensures, done_written c.is_over.ensures s.room c.new-page.ensures.bytes c.new-page.ensures.front (upheld _ _ (not_from_true _ c.if-not-is_over.false) refl) c.write_answer.ensures.answer s.answer.gone s.workers) }

pub returns : goal.returns
returns c = rw c.unwrap_or-written.ensures (finish_done c.is_over.ensures c.requires.room c.new-page.ensures.bytes c.new-page.ensures.front (upheld _ _ (not_from_true _ c.if-not-is_over.false) refl) c.write_answer.ensures.answer _ (search rules) c.clear-2.ensures c.write_answer.auto.work (c.number-2.ensures ∙ ap verdict_number c.verdict.ensures) c.acts_done-acts.ensures)
