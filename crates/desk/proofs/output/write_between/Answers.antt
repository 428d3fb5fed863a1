-- `output::write_between`: three writes, one after the other.
use Rattle.text.proofs.Chains.{chain_more, chain_last}
use Rattle.desk.proofs.output.write_between.Goals as goal

pub returns-clause-chain : goal.returns-clause-chain
returns-clause-chain c = chain_more c.bytes.ensures.writes (chain_more c.number.ensures.writes (chain_last c.bytes-2.ensures.writes))
