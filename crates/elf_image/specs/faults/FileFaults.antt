-- The faults that the reader of a file looks for, with their places, and the result of the reader.
use Rattle.std.specs.Prelude.{◌≡◌, ◌≢◌, ◌≤◌, ◌<◌, ◌⊎◌, ◌||◌, ℕ, Bool, List, [], ◌∷◌, take, length, IsTrue, nat_eq}
use Rattle.std.specs.Prelude.{codes}
use Rattle.std.specs.List.{starts_with}
use Rattle.rb_bytes.specs.declared.fault.Fault.{Fault}
use Rattle.rb_bytes.specs.declared.fault.Refusal.{Refusal}
use Rattle.rb_bytes.specs.declared.fault.FaultKind.{FaultKind}
use Rattle.rb_bytes.specs.declared.fault.FaultKind.TheVariants.{NotElf, Truncated, Flags, NotStatic, ExecSegments}
use Rattle.rb_bytes.specs.declared.fault.FaultKind.TheVariants.{WritableCode, HighAddress, CompressedSection}
use Rattle.elf_image.specs.declared.section.TheConstants.{SHF_COMPRESSED}
use Rattle.elf_image.specs.declared.segment.TheConstants.{PT_DYNAMIC, PT_INTERP}
use Rattle.elf_image.specs.faults.Truncation.{IsTruncated}
use Rattle.rb_bytes.specs.FirstFault.{IsAnswered, IsFree, IsRefusalBy}
use Rattle.elf_image.specs.file.Header.{e_type, e_machine, e_flags, e_phnum, e_shnum, is_set, segment, segment_place}
use Rattle.elf_image.specs.faults.SegmentLayout.{IsBadLoading, IsWritableCode, IsHigh}
use Rattle.elf_image.specs.faults.LowestPlace.{SomeBelow}
use Rattle.elf_image.specs.file.Sections.{section_header, section_name}

-- The magic number, 64 bits, little-endian, version 1. gABI, "ELF Identification".
abbrev pub identification : List ℕ
identification = 0x7f ∷ 0x45 ∷ 0x4c ∷ 0x46 ∷ 2 ∷ 1 ∷ 1 ∷ []

-- RISC-V. psABI, "File Header".
abbrev pub EM_RISCV : ℕ
EM_RISCV = 0xf3

-- An executable that is loaded at the addresses in its headers. gABI, "ELF Header".
abbrev pub ET_EXEC : ℕ
ET_EXEC = 2

-- The file has the identification and, if it is long enough for the field e_machine, the machine.
pub record IsElf (file : List ℕ) : Type 0 where
  pub identification_is : take 7 file ≡ identification
  pub machine_is : 20 ≤ length file → e_machine file ≡ EM_RISCV

abbrev pub IsNotElf : List ℕ → ℕ → Type 0
IsNotElf file place = (IsElf file → ⊥) × (place ≡ 0)

-- Flags other than the one of the compressed extension. psABI, "File Header".
abbrev pub HasOtherFlags : List ℕ → ℕ → Type 0
HasOtherFlags file place = (1 < e_flags file) × (place ≡ 0x30)

-- Another type of file.
abbrev pub HasOtherType : List ℕ → ℕ → Type 0
HasOtherType file place = (e_type file ≢ ET_EXEC) × (place ≡ 0x10)

-- A program header for dynamic linking: PT_DYNAMIC or PT_INTERP.
abbrev pub IsDynamic : List ℕ → ℕ → ℕ → Type 0
IsDynamic file i place =
    (((segment file i).kind ≡ PT_DYNAMIC) ⊎ ((segment file i).kind ≡ PT_INTERP)) × (place ≡ segment_place file i)

-- A section with these flags and this name is compressed.
abbrev pub is_compressed : ℕ → List ℕ → Bool
is_compressed flags name = is_set SHF_COMPRESSED flags || starts_with nat_eq name (codes ".zdebug")

-- The section with index `i` is compressed. The place is the index.
abbrev pub HasCompressed : List ℕ → ℕ → Type 0
HasCompressed file i = IsTrue (is_compressed (section_header file i).flags (section_name file i))

abbrev pub IsCompressed : List ℕ → ℕ → ℕ → Type 0
IsCompressed file i place = HasCompressed file i × (place ≡ i)

-- The file has the fault at this place. Other kinds belong to other crates.
abbrev pub HasFault : List ℕ → FaultKind → ℕ → Type 0
HasFault file NotElf place = IsNotElf file place
HasFault file Truncated place = IsTruncated file place
HasFault file Flags place = HasOtherFlags file place
HasFault file NotStatic place = HasOtherType file place ⊎ SomeBelow (e_phnum file) (IsDynamic file) place
HasFault file ExecSegments place = IsBadLoading file place
HasFault file WritableCode place = SomeBelow (e_phnum file) (IsWritableCode file) place
HasFault file HighAddress place = SomeBelow (e_phnum file) (IsHigh file) place
HasFault file CompressedSection place = SomeBelow (e_shnum file) (IsCompressed file) place
HasFault file _ place = ⊥

-- The fault that is reported.
abbrev pub IsFirstFault : List ℕ → Fault → Type 0
IsFirstFault file fault = IsAnswered (HasFault file) fault

-- The file has none of these faults.
abbrev pub IsSound : List ℕ → Type 0
IsSound file = IsFree (HasFault file)

-- The result of the reader for a file that it refuses.
abbrev pub IsRefusal : List ℕ → Refusal → Type 0
IsRefusal file refusal = IsRefusalBy (HasFault file) refusal
