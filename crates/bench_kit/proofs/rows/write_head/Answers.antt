-- `rows::write_head`: the names and the version, a row of four, and the names again.
use Rattle.text.proofs.Chains.{chain_more, chain_last, chain_then}
use Rattle.bench_kit.proofs.rows.write_head.Goals as goal

pub returns-clause-chain : goal.returns-clause-chain
returns-clause-chain c = chain_more c.bytes.ensures.writes (chain_then c.field.ensures.chain (chain_then c.write_row3.ensures.chain (chain_last c.bytes-2.ensures.writes)))
