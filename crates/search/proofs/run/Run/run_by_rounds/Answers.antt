use Rattle.model.proofs.ActRules.{moment_fresh}
use Rattle.model.specs.Run.{fresh}
use Rattle.search.specs.Asks.{RoundsDone, ByRoundsSays}
use Rattle.search.proofs.Sweeps.{fresh_empty, by_rounds_rep, many_is}
use Rattle.search.proofs.run.Run.run_by_rounds.Goals as goal

pub rounds-requires : goal.rounds-requires
rounds-requires c =
    let s = c.requires in
    record {
      case = s.case;
      state = fresh s.case;
      rep = s.rep;
      moment = moment_fresh s.case;
      workers = s.workers;
      empty = fresh_empty s.case;
    }

pub returns : goal.returns
unfolding ByRoundsSays RoundsDone
returns c =
    λ q rep w v e.
    let a = c.args in
    by_rounds_rep q _ _ _ (many_is q a.n a.m a.self.now.marks v e rep.counted.marks)
    (c.rounds.ensures q (fresh q) rep (moment_fresh q) w (fresh_empty q))
