-- `rows::write_row2`: a number and a space in front of a row of one.
use Rattle.text.proofs.Chains.{chain_then}
use Rattle.bench_kit.proofs.rows.write_row2.Goals as goal

pub returns-clause-chain : goal.returns-clause-chain
returns-clause-chain c = chain_then c.field.ensures.chain c.write_row1.ensures.chain
