-- `input::fill`: what the reads gave stands at the front, one behind the other.
use Rattle.std.proofs.Common.{arith}
use Rattle.desk.proofs.Filling.{takes_on}
use Rattle.desk.proofs.input.fill.Goals as goal

pub loop-done-preserved : goal.loop-done-preserved
loop-done-preserved g c =
    let more = c.in_ok-n.ensures.more in
    (omega (arith, c.in_ok-n.ensures.within, c.read_more.auto.buffer), omega (arith, c.read_more.auto.buffer, c.loop-done.invariant.1), takes_on (g.R.Read.remaining c.args.reader.now) (g.R.Read.remaining c.loop-done.reader) (g.R.Read.remaining c.read_more.new.reader) _ _ _ _ c.loop-done.invariant.2 more.0 more.1)
