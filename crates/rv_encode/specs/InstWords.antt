-- Encodings of an instruction.
use Rattle.std.specs.Prelude.{ℕ, ◌/◌, ◌%◌, ◌^◌, Option, Some}
use Rattle.rv_code.specs.isa.InstBytes.{Decodes}
use Rattle.rv_code.specs.declared.inst.Inst.{Inst}
use Rattle.rv_code.specs.declared.placed.Width.{Width}
use Rattle.rv_code.specs.declared.placed.Width.TheVariants as width
use Rattle.rv_encode.specs.declared.word.Word.{Word}
use Rattle.rv_encode.specs.declared.word.Word.TheVariants as word

-- The word encodes the instruction, whatever bytes follow.
abbrev pub Encodes : Word → Inst → Type 0
Encodes (word.Half half) inst = (next : Option ℕ) → Decodes half next inst 2
Encodes (word.Full full) inst = Decodes (full % 2 ^ 16) (Some (full / 2 ^ 16)) inst 4

abbrev pub width_of : Word → Width
width_of (word.Half half) = width.Half
width_of (word.Full full) = width.Full

-- The length in bytes.
abbrev pub bytes : Width → ℕ
bytes width.Half = 2
bytes width.Full = 4
