-- Programs that are sound.
use Rattle.std.specs.Prelude.{◌&&◌, ℕ, Bool, List, None, drop}
use Rattle.line_rewrite.specs.declared.coding.Coding.{Coding}
use Rattle.line_rewrite.specs.declared.line_program.LineProgram.{LineProgram}
use Rattle.line_rewrite.specs.Operations.{operations, is_whole}
use Rattle.line_rewrite.specs.LineMachine.{sound_from, start}

-- Whether the program of a unit with `files` files is sound.
abbrev pub is_sound : Coding → ℕ → List ℕ → List ℕ → Bool
is_sound coding files lengths program =
    is_whole coding.opcode_base lengths program
    && sound_from coding files None (start coding) (operations coding.opcode_base lengths program)

-- Whether it is, from the sequence on that begins at an offset.
abbrev pub is_sound_at : LineProgram → ℕ → ℕ → Bool
is_sound_at p files place = is_sound p.coding.now files p.lengths.now (drop place p.bytes.now)
