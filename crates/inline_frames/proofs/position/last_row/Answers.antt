use Rattle.inline_frames.proofs.RowPositions.{last_is}
use Rattle.std.proofs.Common.{◌∙◌}
use Rattle.inline_frames.proofs.position.last_row.Goals as goal

pub returns : goal.returns
returns c = c.last.ensures.value ∙ last_is c.args.rows.now
