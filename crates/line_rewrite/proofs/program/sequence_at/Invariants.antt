use Rattle.std.proofs.Common.{◌≡◌, ◌&&◌, length}
use Rattle.line_rewrite.specs.LineMachine.{sound_from, start}
use Rattle.line_rewrite.specs.Keeping.{rows_at_place}
use Rattle.line_rewrite.specs.Operations.{operations, is_whole}
use Rattle.line_rewrite.specs.SoundPrograms.{is_sound_at}
use Rattle.line_rewrite.proofs.Keeps.{OnWay}
use Rattle.line_rewrite.proofs.program.sequence_at.Given as goal

abbrev pub invariant-ops : goal.invariant-ops
invariant-ops l = record {
  way : OnWay l.program.coding.now l.program.lengths.now l.program.bytes.now l.place
      (rows_at_place l.program.coding.now l.program.lengths.now l.program.bytes.now (start l.program.coding.now) l.place)
      l.cursor.left l.present l.count l.last l.due l.kept.items;
  sound : (sound_from l.program.coding.now l.files l.last l.present
      (operations l.program.coding.now.opcode_base l.program.lengths.now l.cursor.left)
      && is_whole l.program.coding.now.opcode_base l.program.lengths.now l.cursor.left)
      ≡ is_sound_at l.program l.files l.place;
}

abbrev pub decreases-ops : goal.decreases-ops
decreases-ops l = length l.cursor.left
