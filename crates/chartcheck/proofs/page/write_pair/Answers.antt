-- `page::write_pair`: five writes, one after the other.
use Rattle.text.proofs.Chains.{puts, puts_then}
use Rattle.chartcheck.specs.Printing.{pair_words}
use Rattle.chartcheck.proofs.page.write_pair.Goals as goal

pub returns-clause-puts : goal.returns-clause-puts
unfolding pair_words
returns-clause-puts c = puts_then (puts_then (puts_then (puts_then (puts c.bytes.ensures.writes) (puts c.bytes-2.ensures.writes)) (puts c.bytes-3.ensures.writes)) c.write_bits.ensures.puts) c.write_fault.ensures.puts
