use Rattle.std.proofs.Common.{◌≡◌, ap, length, rules}
use Rattle.cfi_rows.specs.KeptTables.{SaidFrames}
use Rattle.cfi_rows.specs.ReadFrames.{read_as}
use Rattle.frame_rewrite.specs.FrameAnswers.{answer_at, is_marked_by}
use Rattle.frame_rewrite.proofs.ToldEntries.{nothing-read}
use Rattle.frame_rewrite.proofs.eh_table.EhFramesByAddress.is_silent.Goals as goal

pub returns : goal.returns
returns c = λ t a.
    let self = c.args.self.now in
    let empty : length self.frames.list.items ≡ 0 = search rules in
    ap (λ list. answer_at (is_marked_by self.cuts.items) list a)
    (nothing-read (read_as self.frames).list self.frames.list.items (ap (λ (x : SaidFrames). x.list) self.frames.read) empty)
