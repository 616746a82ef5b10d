-- The bytes at the start that aren't numbers.
use Rattle.std.specs.Prelude.{ℕ, ◌-◌, ◌+◌, ◌*◌, ◌&&◌, ◌||◌, nat_le, nat_lt, min, length, if◌then◌else◌, Bool}
use Rattle.std.specs.Prelude.{Option, Some, option_map}
use Rattle.elf_image.specs.declared.elf.Elf.{Elf}
use Rattle.elf_image.specs.declared.segment.Segment.{Segment}
use Rattle.elf_image.specs.declared.segment.TheConstants.{PHDR_SIZE}
use Rattle.elf_image.specs.file.Header.{header_size}
use Rattle.elf_image.specs.memory.Image.{is_load}
use Rattle.elf_image.specs.memory.LoadedBytes.{Range, is_in_range}
use Rattle.sym_machine.specs.declared.value.CodeSymbol.{CodeSymbol}
use Rattle.sym_machine.specs.declared.value.MemoryByte.{MemoryByte}
use Rattle.sym_machine.specs.declared.value.MemoryByte.TheVariants.{SymbolByte, Hidden}
use Rattle.sym_machine.specs.declared.other_bytes.OtherBytes.{OtherBytes}
use Rattle.sym_machine.specs.internal.OtherBytes.{other_byte}
use Rattle.sym_machine.specs.internal.Memory.{as_byte}

abbrev pub special : OtherBytes → ℕ → Option MemoryByte
special others a = option_map as_byte (other_byte others a)

-- the byte at address q after a symbol was put over a range, or a range was hidden
abbrev pub symbol_over : CodeSymbol → ℕ → Range → OtherBytes → ℕ → Option MemoryByte
symbol_over y w range old q = if is_in_range q range then Some (SymbolByte y w (q - range.start)) else special old q

abbrev pub hidden_over : Range → OtherBytes → ℕ → Option MemoryByte
hidden_over range old q = if is_in_range q range then Some Hidden else special old q

-- a segment loads a byte of the file to an address
abbrev pub covers : ℕ → Segment → Bool
covers q p = is_load p && (nat_le p.vaddr q && nat_lt q (p.vaddr + min p.filesz p.memsz))

-- a segment loads to address q a byte of the file whose offset is from `from` to before `to`
abbrev pub covers_between : ℕ → ℕ → ℕ → Segment → Bool
covers_between from to q p =
    covers q p && (nat_le from (p.offset + (q - p.vaddr)) && nat_lt (p.offset + (q - p.vaddr)) to)

-- a segment loads to address q a byte of the file's header, or of the program header table
unfoldable pub covers_header : Elf → ℕ → Segment → Bool
covers_header elf q p =
    covers_between 0 header_size q p || covers_between elf.phoff (elf.phoff + PHDR_SIZE * length elf.segments.items) q p
