-- `rows::write_row3`: a number and a space in front of a row of two.
use Rattle.text.proofs.Chains.{chain_then}
use Rattle.bench_kit.proofs.rows.write_row3.Goals as goal

pub returns-clause-chain : goal.returns-clause-chain
returns-clause-chain c = chain_then c.field.ensures.chain c.write_row2.ensures.chain
