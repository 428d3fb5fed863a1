-- `replay`: the head, and behind it the answer out of the output.
use mathlib.Core.Path.{sym, ◌∙◌}
use lib.Seq.{length-take-le}
use native.Mathlib.Omega.{arith}
use Rattle.looplist.proofs.Printing.{list_leaves, page_shows}
use Rattle.looplist.proofs.replay.Goals as goal

pub write_head-requires : goal.write_head-requires
write_head-requires c =
    let s = c.requires in
    omega (arith, (list_leaves _ _ _ _ _ s.0 s.1 c.run_list-outcome.ensures).few, s.4)

pub slice_bounds-bytes-end : goal.slice_bounds-bytes-end
slice_bounds-bytes-end c =
    let s = c.requires in
    (list_leaves _ _ _ _ _ s.0 s.1 c.run_list-outcome.ensures).within

pub slice_bounds-bytes-end-2 : goal.slice_bounds-bytes-end-2
slice_bounds-bytes-end-2 c =
    let s = c.requires in
    sym (length-take-le _ _ (list_leaves _ _ _ _ _ s.0 s.1 c.run_list-outcome.ensures).within)

pub returns : goal.returns
returns c =
    let s = c.requires in
    c.written.ensures
    ∙ page_shows (list_leaves _ _ _ _ _ s.0 s.1 c.run_list-outcome.ensures) s.2 (omega (arith, s.3, c.run_list-outcome.auto.output)) c.write_head.ensures.puts c.bytes.ensures.writes
