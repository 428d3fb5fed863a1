-- `finish::lasso_answer`: the lasso is shown in the cells and then written.
use native.Mathlib.Omega.{arith}
use Rattle.search.proofs.Ends.{showable, there, asked_written, lasso_shown}
use Rattle.search.proofs.finish.lasso_answer.Goals as goal

pub show_lasso-shown-requires : goal.show_lasso-shown-requires
show_lasso-shown-requires c = let s = c.requires in showable s.gone _ s.broke

pub overflow_sub-stem : goal.overflow_sub-stem
overflow_sub-stem c =
    let s = c.requires in
    omega (arith, (there s.gone s.broke c.show_lasso-shown.ensures).stem.ends)

pub overflow_sub-end : goal.overflow_sub-end
overflow_sub-end c =
    let s = c.requires in
    omega (arith, (there s.gone s.broke c.show_lasso-shown.ensures).cycle.ends)

pub write_lasso-requires : goal.write_lasso-requires
write_lasso-requires c =
    let s = c.requires in
    asked_written s.gone s.broke c.show_lasso-shown.ensures

pub returns-clause-lasso : goal.returns-clause-lasso
returns-clause-lasso c = lasso_shown c.show_lasso-shown.ensures c.write_lasso.ensures.lasso
