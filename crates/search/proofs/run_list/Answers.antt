-- `search::run_list`: the case's fresh run, then the acts.
use native.Mathlib.Omega.{arith}
use Rattle.search.proofs.Entries.{list_turned, list_asks, list_finish, list_says}
use Rattle.search.proofs.run_list.Goals as goal

pub act_list-requires : goal.act_list-requires
act_list-requires c = let b = c.in-Ok.ensures in list_asks _ _ _ _ _ _ _ b.laid _ _ b.fresh

pub finish-requires : goal.finish-requires
finish-requires c = let b = c.in-Ok.ensures in list_finish _ _ _ _ _ _ _ b.laid _ _ b.fresh _ _ _ b.enough c.act_list.ensures

pub returns-in-Err : goal.returns-in-Err
returns-in-Err c = rw c.refused.ensures (list_turned _ _ _ _ _ _ c.in-Err.ensures)

pub returns-in-Ok : goal.returns-in-Ok
returns-in-Ok c = let b = c.in-Ok.ensures in list_says _ _ _ _ _ _ _ b.laid _ _ b.fresh _ _ _ b.enough c.act_list.ensures c.finish.ensures (omega (arith, c.act_list.auto.work, b.long))
