-- `search::run_rounds`: the case's fresh run, then the rounds.
use native.Mathlib.Omega.{arith}
use Rattle.search.proofs.Entries.{rounds_turned, rounds_asks, rounds_finish, rounds_say}
use Rattle.search.proofs.run_rounds.Goals as goal

pub run_by_rounds-requires : goal.run_by_rounds-requires
run_by_rounds-requires c = let b = c.in-Ok.ensures in rounds_asks _ _ _ _ _ _ _ b.laid _ _ b.fresh

pub finish-requires : goal.finish-requires
finish-requires c = let b = c.in-Ok.ensures in rounds_finish _ _ _ _ _ _ _ b.laid _ _ b.fresh _ _ _ b.enough c.run_by_rounds.ensures

pub returns-in-Err : goal.returns-in-Err
returns-in-Err c = rw c.refused.ensures (rounds_turned _ _ _ _ _ c.in-Err.ensures)

pub returns-in-Ok : goal.returns-in-Ok
returns-in-Ok c = let b = c.in-Ok.ensures in rounds_say _ _ _ _ _ _ _ b.laid _ _ b.fresh _ _ _ b.enough c.run_by_rounds.ensures c.finish.ensures (omega (arith, c.run_by_rounds.auto.work, b.long))
