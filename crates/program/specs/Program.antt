-- A file that was read, with its code and its blocks.
use Rattle.std.specs.Prelude.{◌≤◌, ℕ, List, length}
use Rattle.rv_code.specs.declared.placed.Block.{Block}
use Rattle.rv_code.specs.declared.placed.Func.{Func}
use Rattle.rv_code.specs.layout.Blocks.{AreBlocks}
use Rattle.rv_code.specs.layout.ProgramCode.{ProgramCode}
use Rattle.elf_image.specs.declared.elf.Elf.{Elf}
use Rattle.elf_image.specs.faults.FileFaults.{IsSound}
use Rattle.elf_image.specs.file.ParsedFile.{IsElfOf}
use Rattle.elf_code.specs.CodeFaults.{HasCodeFault}
use Rattle.elf_code.specs.FileCode.{IsCodeOf}
use Rattle.rb_bytes.specs.FirstFault.{IsFree}
use Rattle.cfi_rows.specs.Frames.{tabled}
use Rattle.rv_reloc.specs.declared.refs.Refs.{Refs}
use Rattle.cfg_build.specs.NamedAddresses.{code_of}
use Rattle.program.specs.Limits.{file_limit}
use Rattle.program.specs.declared.program.Program.{Program as ReadProgram}

pub record Program : Type 0 where
  -- the file, as its reader represents it
  pub elf : Elf
  pub code : ProgramCode
  pub blocks : List Block

-- a program, in the terms of the code
abbrev pub program_of : Elf → List Func → Refs → List Block → Program
program_of elf funcs refs blocks = record { elf = elf; code = code_of funcs refs elf.entry; blocks = blocks }

abbrev pub program_seen : ReadProgram → Program
program_seen read = program_of read.elf read.funcs.items read.refs read.blocks.items

-- a file within the size limit in which the reader finds no fault
pub record IsPlain (file : List ℕ) : Type 0 where
  pub fits : length file ≤ file_limit
  pub sound : IsSound file

-- a file within the size limit, without a fault of the file or of its code; `elf` is its reader's representation
pub record IsFaultless (file : List ℕ) (elf : Elf) : Type 0 where
  pub plain : IsPlain file
  pub read : IsElfOf file elf
  pub no_fault : IsFree (HasCodeFault elf (tabled elf))

-- x is the program of a file without faults
pub record IsProgramOf (file : List ℕ) (x : Program) : Type 0 where
  pub faultless : IsFaultless file x.elf
  pub code_is : IsCodeOf x.elf (tabled x.elf) x.code
  pub blocks_are : AreBlocks x.code x.blocks
