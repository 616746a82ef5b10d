-- The parts of executable sections that can be functions, and their instructions. A part is the range from one cut to
-- the next.
use Rattle.std.specs.Prelude.{◌≡◌, ◌≢◌, ℕ, ◌+◌, ◌*◌, ◌%◌, ◌<◌, ◌≤◌, ◌==◌, if◌then◌else◌, List, Option, Some, IsTrue}
use Rattle.std.specs.Prelude.{Any, unwrap_or}
use Rattle.rv_code.specs.declared.inst.Inst.{Inst}
use Rattle.rv_code.specs.isa.InstBytes.{Decodes}
use Rattle.elf_image.specs.declared.elf.Elf.{Elf}
use Rattle.elf_image.specs.file.Cuts.{IsCutAddress, names_function}
use Rattle.elf_image.specs.file.Sections.{holds_code}
use Rattle.elf_image.specs.memory.LoadedBytes.{byte_at}

abbrev pub IsCut : Elf → ℕ → Type 0
IsCut elf a = IsCutAddress elf.symbols.items elf.sections.items a

-- Parts.

-- The address is in an executable section.
abbrev pub IsInCode : Elf → ℕ → Type 0
IsInCode elf a = Any (λ s. IsTrue (holds_code s.flags) × (s.addr ≤ a) × (a < s.addr + s.size)) elf.sections.items

-- The range of an executable section between two neighbouring cuts.
pub record IsPart (elf : Elf) (start end : ℕ) : Type 0 where
  pub starts : IsCut elf start
  pub ends : IsCut elf end
  pub has_bytes : start < end
  pub neighbours : (a : ℕ) → start < a → a < end → IsCut elf a → ⊥
  pub in_code : IsInCode elf start

-- A range of addresses is in the range of a function symbol.
abbrev pub IsCovered : Elf → ℕ → ℕ → Type 0
IsCovered elf start end = Any (λ s. IsTrue (names_function s) × (s.value ≤ start) × (end ≤ s.value + s.size))
    elf.symbols.items

-- An uncovered part whose bytes are all zero is padding and has no code.
pub record IsZeroPart (elf : Elf) (start end : ℕ) : Type 0 where
  pub part : IsPart elf start end
  pub uncovered : IsCovered elf start end → ⊥
  pub zeros : (a : ℕ) → start ≤ a → a < end → byte_at elf a ≡ Some 0

pub record IsCodePart (elf : Elf) (start end : ℕ) : Type 0 where
  pub part : IsPart elf start end
  pub no_padding : IsZeroPart elf start end → ⊥

-- Instructions by their lengths.

-- The halfword at an address of a memory.
abbrev pub halfword_in : (ℕ → Option ℕ) → ℕ → ℕ
halfword_in memory a = unwrap_or (memory a) 0 + 256 * unwrap_or (memory (a + 1)) 0

-- An instruction has two bytes if its low two bits aren't 11, and otherwise four. ISA manual, section 1.5.
abbrev pub length_in : (ℕ → Option ℕ) → ℕ → ℕ
length_in memory a = if halfword_in memory a % 4 == 3 then 4 else 2

-- The bytes at an address encode an instruction with this number of bytes.
abbrev pub IsInstIn : (ℕ → Option ℕ) → ℕ → Inst → ℕ → Type 0
IsInstIn memory a inst bytes = Decodes (halfword_in memory a) (Some (halfword_in memory (a + 2))) inst bytes

-- Instructions in the memory of a file.

abbrev pub halfword_at : Elf → ℕ → ℕ
halfword_at elf a = halfword_in (byte_at elf) a

abbrev pub length_at : Elf → ℕ → ℕ
length_at elf a = length_in (byte_at elf) a

abbrev pub IsInstAt : Elf → ℕ → Inst → ℕ → Type 0
IsInstAt elf a inst bytes = IsInstIn (byte_at elf) a inst bytes

-- An instruction starts at an address of the code from `start` to `end`.
pub data StartsIn (elf : Elf) (start end : ℕ) : ℕ → Type 0 where
  at_start : start < end → StartsIn elf start end start
  after : (a : ℕ) → StartsIn elf start end a → a + length_at elf a < end → StartsIn elf start end (a + length_at elf a)

-- An instruction of a code part starts at an address.
pub record IsStartIn (elf : Elf) (start end a : ℕ) : Type 0 where
  pub part : IsCodePart elf start end
  pub starts : StartsIn elf start end a

-- The starts of instructions of all code parts. References are examined before it is known which parts are functions,
-- so they treat each of these as a code address.
pub record IsStart (elf : Elf) (a : ℕ) : Type 0 where
  pub start : ℕ
  pub end : ℕ
  pub is_start : IsStartIn elf start end a

-- A part has a complete instruction at an address.
pub record HasInst (elf : Elf) (start end a : ℕ) (inst : Inst) (bytes : ℕ) : Type 0 where
  pub starts : IsStartIn elf start end a
  pub is_inst : IsInstAt elf a inst bytes
  pub inside : a + bytes ≤ end

-- A valid instruction: it is at an even address, and it only has two bytes if the flags in the file header say that the
-- file has such instructions. A jump or branch that isn't valid has no target.
pub record HasValidInst (elf : Elf) (start end a : ℕ) (inst : Inst) (bytes : ℕ) : Type 0 where
  pub has : HasInst elf start end a inst bytes
  pub even : a % 2 ≡ 0
  pub allowed : bytes ≡ 2 → elf.flags ≢ 0

-- Parts that are moved as one piece.

-- A range, given by its start and its end, contains the address.
abbrev pub IsInTabled : ℕ → ℕ × ℕ → Type 0
IsInTabled a range = (range.0 ≤ a) × (a < range.1)

-- A part is whole if one of its instructions starts in a range that has an exception table.
pub record IsWholePart (elf : Elf) (tabled : List (ℕ × ℕ)) (start end : ℕ) : Type 0 where
  pub place : ℕ
  pub starts : IsStartIn elf start end place
  pub tabled_there : Any (IsInTabled place) tabled
