-- `page::write_name`: the line's end alone where the name's place is 0, else that part of the text before it.
use mathlib.Core.Path.{refl}
use Rattle.claimcheck.proofs.Printing.{writes_unnamed, name_inside, writes_named}
use Rattle.claimcheck.proofs.page.write_name.Goals as goal

pub returns-then-from-eq0-clause-puts : goal.returns-then-from-eq0-clause-puts
returns-then-from-eq0-clause-puts c = writes_unnamed _ _ _ c.requires.claim_there c.requires.c_lt_most_states _ refl c.if-from-eq0.true c.byte.ensures.writes

pub slice_bounds-bytes-end : goal.slice_bounds-bytes-end
slice_bounds-bytes-end c = name_inside _ _ _ c.requires.claim_there c.requires.c_lt_most_states _ refl c.if-from-eq0.false _ refl

pub returns-clause-puts : goal.returns-clause-puts
returns-clause-puts c = writes_named _ _ _ c.requires.claim_there c.requires.c_lt_most_states _ refl c.if-from-eq0.false _ refl c.byte-2.ensures.writes c.bytes.ensures.writes c.byte-3.ensures.writes
