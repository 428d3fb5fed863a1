use lib.ListN.{get_or}
use lib.IntN.{pos}
use mir.Syntax.{w32}
use mir.Val.{SFits}
use mir.Facts.{to_z-of_z}
use Rattle.search.proofs.cells.load_below.Goals as goal

pub returns : goal.returns
returns c =
    let w = c.args.work.now in
    let i = c.args.i in
    let fit : SFits w32 (get_or w i (pos 0)) = record { sfits = c.result-1.given } in
    let b = c.requires.1 in
    rw (to_z-of_z fit) (rw b.is, rw b.is b.less)
