-- `chart::bad_pair`: the pairs before i are good, so that what is left decides as the whole does.
use mathlib.Core.Path.{refl}
use Rattle.chart.proofs.BadPairs.{refused_number, not_refused, good_start, good_more, good_not, good_end, bad_some, bad_none}
use Rattle.chart.proofs.bad_pair.Goals as goal

pub loop-i-init : goal.loop-i-init
loop-i-init c = good_start _ c.good_modes-i.ensures

pub returns-in-Some : goal.returns-in-Some
returns-in-Some c =
    let r = refused_number _ c.entry_refusal.ensures c.in-Some.is c.number.ensures in
    bad_some (good_not c.loop-i.invariant c.loop-i-test.true r.0 r.1) r.1

pub loop-i-preserved : goal.loop-i-preserved
loop-i-preserved c = good_more c.loop-i.invariant c.loop-i-test.true refl (not_refused _ c.entry_refusal.ensures c.in_default.is)

pub returns : goal.returns
returns c = bad_none (good_end c.loop-i.invariant c.loop-i-test.false)
