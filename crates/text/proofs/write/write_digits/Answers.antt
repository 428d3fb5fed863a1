-- `write_digits` meets its contract: at each turn the digits from place i on are written, and w holds those before them.
use Rattle.text.proofs.Decimals.{written_start, written_step, written_end}
use Rattle.text.proofs.write.write_digits.Goals as goal

pub loop-i-init : goal.loop-i-init
loop-i-init c = written_start _ _ _ _ c.requires.width c.requires.size_in_bounds

pub loop-i-preserved : goal.loop-i-preserved
loop-i-preserved c = written_step _ _ _ _ _ _ c.loop-i.invariant c.loop-i-test.true

pub returns : goal.returns
returns c = written_end _ _ _ _ _ _ _ c.requires.width c.loop-i.invariant c.loop-i-test.false
