-- The greatest size in bytes of the new area.
use Rattle.std.specs.Prelude.{◌≡◌, ℕ, ◌+◌, List, sum_by}
use Rattle.rv_code.specs.declared.placed.Func.{Func}
use Rattle.rv_code.specs.declared.placed.Block.{Block}
use Rattle.rv_code.specs.layout.Blocks.{AreBlocks}
use Rattle.rv_code.specs.layout.ProgramCode.{ProgramCode}
use Rattle.rv_code.specs.layout.WorstSizes.{worst_size_of_block}
use Rattle.elf_image.specs.declared.elf.Elf.{Elf}
use Rattle.file_room.specs.Numbers.{capped}
use Rattle.cfi_rows.specs.FrameNeed.{frame_need}

-- The sum of all worst sizes.
abbrev pub code_need : List Func → List Block → ℕ
code_need funcs blocks = sum_by (worst_size_of_block funcs) blocks

-- The code, and after it the unwind table that the file loads, if there is one, and its index.
abbrev pub need : Elf → List Func → List Block → ℕ
need elf funcs blocks = capped (code_need funcs blocks + frame_need elf funcs blocks)

-- all blocks of a program with these functions
abbrev pub AreBlocksOf : List Func → List Block → Type 0
AreBlocksOf funcs blocks = (code : ProgramCode) × (code.funcs ≡ funcs) × AreBlocks code blocks
