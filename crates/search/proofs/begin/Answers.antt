-- `search::begin`: the buffers, the case, then its fresh run.
use mathlib.Core.Path.{sym, ◌∙◌}
use native.Mathlib.Omega.{arith}
use Rattle.casefile.proofs.Exits.{passed_on}
use Rattle.search.proofs.Entries.{short, turned_away, fresh_asks}
use Rattle.search.proofs.begin.Goals as goal

pub returns-then-too_short : goal.returns-then-too_short
returns-then-too_short c = short _ _ _ _ (sym c.too_short.ensures ∙ c.if-too_short.true)

pub returns-in_err-loaded : goal.returns-in_err-loaded
returns-in_err-loaded c =
    rw (passed_on c.from_residual.ensures.1) (turned_away _ _ _ _ (sym c.too_short.ensures ∙ c.if-too_short.false) _ _ c.in_err-loaded.ensures)

pub fresh-run-requires : goal.fresh-run-requires
fresh-run-requires c = fresh_asks _ _ _ _ _ _ _ c.in_ok-loaded.ensures

pub returns : goal.returns
returns c =
    record {
      enough = sym c.too_short.ensures ∙ c.if-too_short.false;
      marks = _;
      loaded = _;
      laid = c.in_ok-loaded.ensures;
      fresh = c.fresh-run.ensures;
      long = omega (arith, c.fresh-run.auto.work, c.load_text.auto.work);
    }
