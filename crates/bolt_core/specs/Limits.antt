-- Limits on files that are rewritten, other than their lengths.
use Rattle.std.specs.Prelude.{◌≡◌, ◌<◌, ℕ, List}
use Rattle.rv_code.specs.declared.placed.Func.{Func}
use Rattle.elf_image.specs.declared.elf.Elf.{Elf}
use Rattle.elf_image.specs.file.Header.{e_phnum, e_shnum}
use Rattle.answer_runs.specs.Weights.{weight_limit}
use Rattle.elf_write.specs.NameWeight.{name_weight}
use Rattle.rb_bytes.specs.declared.limit.TheConstants.{HEADERS, WEIGHTS}
use Rattle.program.specs.Limits.{IsCodeTooLarge}

-- the limit on section headers, and on program headers
abbrev pub header_limit : ℕ
header_limit = 65000

-- The places at which a file with these functions exceeds a limit: on its code, its functions, its headers, or the
-- names that are written. `cold` has the addresses of the cold parts that get a name.
pub data IsTooLarge (elf : Elf) (funcs : List Func) (cold : List ℕ) (place : ℕ) : Type 0 where
  large_code : IsCodeTooLarge elf.file.now funcs place → IsTooLarge elf funcs cold place
  many_sections : place ≡ HEADERS → header_limit < e_shnum elf.file.now → IsTooLarge elf funcs cold place
  many_segments : place ≡ HEADERS → header_limit < e_phnum elf.file.now → IsTooLarge elf funcs cold place
  long_names : place ≡ WEIGHTS → weight_limit < name_weight elf funcs cold → IsTooLarge elf funcs cold place
