-- `read_text` meets its contract. Assumes nothing.
use mathlib.Core.List.{[]}
use Rattle.claim.proofs.JudgeCode.{text_opens, text_unopened}
use Rattle.claim.proofs.read_text.Goals as goal

pub read_opened-requires : goal.read_opened-requires
read_opened-requires c = record { text_value = text_opens c.args.text.now _ c.in-Ok.ensures; claim_cells_in_bounds = c.requires }

pub returns-in-Err : goal.returns-in-Err
returns-in-Err c = text_unopened c.args.text.now _ c.in-Err.ensures [] []
