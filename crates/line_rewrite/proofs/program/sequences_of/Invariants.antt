use Rattle.std.specs.Prelude.{All}
use Rattle.std.proofs.Common.{◌≡◌, ◌≤◌, ◌-◌, ◌++◌, length, map}
use Rattle.line_rewrite.specs.Operations.{operations}
use Rattle.line_rewrite.specs.LineMachine.{sequences}
use Rattle.line_rewrite.specs.KeptSequences.{told_sequence, sequences_at, IsKept}
use Rattle.line_rewrite.specs.SoundPrograms.{is_sound, is_sound_at}
use Rattle.line_rewrite.proofs.program.sequences_of.Given as goal

abbrev pub invariant-sequences : goal.invariant-sequences
invariant-sequences l = record {
  same : map (told_sequence l.program.coding.now l.program.lengths.now l.program.bytes.now) l.list.items
      ++ sequences_at l.program l.place
      ≡ sequences l.program.coding.now (operations l.program.coding.now.opcode_base l.program.lengths.now l.program.bytes.now);
  kept : All (IsKept l.program.coding.now l.program.lengths.now l.program.bytes.now) l.list.items;
  sound : is_sound_at l.program l.files l.place
      ≡ is_sound l.program.coding.now l.files l.program.lengths.now l.program.bytes.now;
  within : l.place ≤ length l.program.bytes.now;
}

abbrev pub decreases-sequences : goal.decreases-sequences
decreases-sequences l = length l.program.bytes.now - l.place
