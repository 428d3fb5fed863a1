-- `list_read` meets its contract: 21, or the case file is written and the answer checked.
use Rattle.std.proofs.lemmas.Result.{err_from_is_err_and}
use Rattle.product.proofs.Judged.{list_many, check_asked}
use Rattle.product.proofs.list_read.Goals as goal

pub returns-in_err-find_edges : goal.returns-in_err-find_edges
returns-in_err-find_edges c =
    let p = err_from_is_err_and c.from_residual.result c.from_residual.ensures.1 in
    rw (p.1, p.2) (list_many c.requires _ (c.in_err-find_edges.ensures {u = tt}))

pub list_checked-requires : goal.list_checked-requires
list_checked-requires c = check_asked c.requires (c.in_ok-find_edges.ensures {u = tt}) c.write.ensures.few c.new-page.ensures.front c.new-page.ensures.bytes c.write.ensures.file c.written-case.ensures
