-- `page::write_states`: after c turns the lines of the first c states are written.
use native.Mathlib.Omega.{arith}
use Rattle.claimcheck.proofs.Printing.{few_states, listed_start, listed_step, listed_end}
use Rattle.claimcheck.proofs.page.write_states.Goals as goal

pub loop-c-init : goal.loop-c-init
loop-c-init c = listed_start _ _

pub write_state-requires : goal.write_state-requires
write_state-requires c = record { c_lt_most_states = omega (arith, few_states _ _ c.requires.claim_there, c.requires.states_value, c.loop-c-test.true); claim_there = c.requires.claim_there }

pub loop-c-preserved : goal.loop-c-preserved
loop-c-preserved c = listed_step c.loop-c.invariant (omega (arith, c.requires.states_value, c.loop-c-test.true)) c.write_state.ensures.same c.write_state.ensures.puts

pub returns-clause-same : goal.returns-clause-same
returns-clause-same c = c.loop-c.invariant.same

pub returns-clause-puts : goal.returns-clause-puts
returns-clause-puts c = listed_end c.loop-c.invariant (omega (arith, c.requires.states_value, c.loop-c-test.false))
