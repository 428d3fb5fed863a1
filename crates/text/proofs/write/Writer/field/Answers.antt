-- `Writer::field` meets its contract: one write after the other.
use Rattle.text.proofs.Chains.{chain_more, chain_last}
use Rattle.text.proofs.write.Writer.field.Goals as goal

pub returns-clause-chain : goal.returns-clause-chain
returns-clause-chain c = chain_more c.number.ensures.writes (chain_last c.byte.ensures.writes)
