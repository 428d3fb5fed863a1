-- `out_of_range` meets its contract. Assumes nothing.
use Rattle.std.proofs.Common.{rules, sym, ◌∙◌}
use lib.Dec.{leb}
use borrow.Author.Tests.{tests}
use Rattle.std.proofs.lemmas.Iterator.{YieldsList-from_slice}
use Rattle.std.proofs.lemmas.Iterator.Search.{any_from_yields_List}
use Rattle.search.proofs.Entries.{any_listed}
use Rattle.search.proofs.out_of_range.Goals as goal

pub returns : goal.returns
returns c =
    any_from_yields_List (leb c.args.limit) _ _ _ c.any.ensures.ran (YieldsList-from_slice c.args.acts.now cc) (λ x b q k. search (rules, tests))
    ∙ sym (any_listed c.args.limit c.args.acts.now)
