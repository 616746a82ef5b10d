-- Faults of a file's references, and their places: of relocations, of the code that they apply to, and of files that
-- select routines when they start or were rewritten before.
use Rattle.std.specs.Prelude.{◌≡◌, ◌≢◌, ◌⊎◌, ℕ, ◌%◌, ◌≤◌, ℤ, pos, ◌≤ℤ◌, IsTrue, IsFalse, IsSome, IsSomeAnd, true}
use Rattle.std.specs.Prelude.{nat_eq, codes, List, Some, Any, length, slice_get}
use Rattle.std.specs.List.{starts_with}
use Rattle.rb_bytes.specs.declared.fault.FaultKind.{FaultKind}
use Rattle.rb_bytes.specs.declared.fault.FaultKind.TheVariants.{RelocType, RelocMismatch, LoMismatch, NarrowDiff}
use Rattle.rb_bytes.specs.declared.fault.FaultKind.TheVariants.{IfuncOrPlt, AlreadyMoved}
use Rattle.rv_code.specs.isa.HiLo.{hi20, lo12}
use Rattle.rv_code.specs.declared.inst.Inst.{Inst}
use Rattle.rv_code.specs.declared.inst.Inst.TheVariants.{Auipc, Lui}
use Rattle.elf_image.specs.declared.elf.Elf.{Elf}
use Rattle.elf_image.specs.declared.section.Section.{Section}
use Rattle.elf_image.specs.declared.relocation.TheConstants.{R_RISCV_GOT_HI20, R_RISCV_HI20, R_RISCV_IRELATIVE}
use Rattle.elf_image.specs.declared.symbol.TheConstants.{STT_GNU_IFUNC}
use Rattle.elf_code.specs.LoadedNumbers.{loaded_number}
use Rattle.rv_code.specs.layout.FunctionLists.{address_end}
use Rattle.elf_code.specs.Relocations.{Relocation, relocations, symbol_value, label, is_named, is_supported}
use Rattle.elf_code.specs.Relocations.{is_call_pair}
use Rattle.elf_code.specs.Relocations.{is_pcrel_hi, is_pcrel_lo, Width, plus_width, minus_width, HasRelocation}
use Rattle.elf_code.specs.Roles.{IsFullAt, lower_immediate, CallPair, CallTo, PcrelLo, PcrelHiTo, AbsoluteTo}
use Rattle.elf_code.specs.Roles.{IsAbsoluteLow}
use Rattle.elf_code.specs.Cells.{IsOnly, is_plus, is_minus, IsDifference, can_be_cell, IsCodeLabel, HasCodeLabel}
use Rattle.elf_code.specs.Cells.{IsInOneWhole, Counts, Difference}
use Rattle.elf_code.specs.Fields.{HasField, HoldsDifference}

-- A relocation with a type that isn't supported.
abbrev pub IsRelocType : Elf → ℕ → Type 0
IsRelocType elf = HasRelocation elf (λ r. IsFalse (is_supported r.kind))

-- Conditions for relocations to fit.

-- An address that a label can have: below the end of all addresses that can be loaded, or that end.
abbrev pub IsAddress : ℤ → Type 0
IsAddress z = (pos 0 ≤ℤ z) × (z ≤ℤ pos address_end)

-- A call has two instructions, and the second jumps through the register of the first. A jump through x0 is a call of
-- an undefined weak symbol: its upper immediate is 0, and its lower immediate is 0 if the AUIPC writes another
-- register.
abbrev pub IsCall : Elf → Relocation → Type 0
IsCall elf r =
    (pair : CallPair elf r)
    × (((pair.base ≡ pair.rd) × (pair.base ≢ 0))
    ⊎ ((pair.base ≡ 0) × (pair.upper ≡ pos 0) × ((pair.rd ≡ 0) ⊎ (pair.lower ≡ pos 0))))

abbrev pub HasAuipc : Elf → ℕ → Type 0
HasAuipc elf a = (rd : ℕ) × (imm : ℤ) × IsFullAt elf a (Auipc rd imm)

-- A relocation for a lower part refers to an AUIPC at `hi`, whatever instruction the relocation applies to.
abbrev pub IsNamedByLow : Elf → ℕ → Type 0
IsNamedByLow elf hi = Any (λ r. IsTrue (is_pcrel_lo r.kind) × (symbol_value elf r ≡ hi)) (relocations elf)

-- An AUIPC with an upper part that isn't part of a call.
pub record IsUpper (elf : Elf) (a : ℕ) : Type 0 where
  pub auipc : HasAuipc elf a
  pub upper : HasRelocation elf (λ r. IsTrue (is_pcrel_hi r.kind)) a
  pub no_call : HasRelocation elf (λ r. IsTrue (is_call_pair r.kind)) a → ⊥

-- A relocation applies to an instruction that can have the lower part of its type.
abbrev pub HasLower : Elf → Relocation → Type 0
HasLower elf r = (inst : Inst) × IsFullAt elf r.place inst × IsSome (lower_immediate r.kind inst)

-- A relocation applies to an instruction with the correct part of an absolute address.
pub data HasAbsolute (elf : Elf) (r : Relocation) (target : ℕ) : Type 0 where
  upper : r.kind ≡ R_RISCV_HI20 → (rd : ℕ) → IsFullAt elf r.place (Lui rd (hi20 (pos target))) →
      HasAbsolute elf r target
  lower : IsAbsoluteLow r.kind → (inst : Inst) → IsFullAt elf r.place inst →
      lower_immediate r.kind inst ≡ Some (lo12 (pos target)) → HasAbsolute elf r target

abbrev pub IsAbsoluteKind : ℕ → Type 0
IsAbsoluteKind kind = (kind ≡ R_RISCV_HI20) ⊎ IsAbsoluteLow kind

-- Exactly one label is added or set at an address, and exactly one is subtracted.
abbrev pub IsPaired : Elf → ℕ → Width → Type 0
IsPaired elf place width =
    (plus : Relocation) × (minus : Relocation) × IsOnly (is_plus place width) (relocations elf) plus
    × IsOnly (is_minus place width) (relocations elf) minus

-- Relocations that don't fit the instructions or fields that they apply to.

-- The symbol doesn't exist, or the field isn't in the section.
pub data IsBadField (elf : Elf) (r : Relocation) : Type 0 where
  symbol : r.symbol ≢ 0 → length elf.symbols.items ≤ r.symbol → IsBadField elf r
  field : (HasField elf r → ⊥) → IsBadField elf r

-- The instructions aren't a call, or its target isn't an address.
pub data IsBadCall (elf : Elf) (r : Relocation) : Type 0 where
  pair : IsTrue (is_call_pair r.kind) → (IsCall elf r → ⊥) → IsBadCall elf r
  address : (target : ℤ) → CallTo elf r target → (IsAddress target → ⊥) → IsBadCall elf r

-- The upper part of a distance isn't on an AUIPC, or no lower part refers to it.
pub data IsBadUpper (elf : Elf) (r : Relocation) : Type 0 where
  no_auipc : IsTrue (is_pcrel_hi r.kind) → (HasAuipc elf r.place → ⊥) → IsBadUpper elf r
  alone : IsTrue (is_pcrel_hi r.kind) → (IsNamedByLow elf r.place → ⊥) → IsBadUpper elf r

-- The target of an AUIPC and a lower part isn't an address, or is an entry of the global offset table that isn't loaded
-- or has another number. The place of both faults is the address of the AUIPC.
pub data IsBadPair (elf : Elf) (r : Relocation) : Type 0 where
  address : (target : ℤ) → PcrelHiTo elf r target → (IsAddress target → ⊥) → IsBadPair elf r
  slot : r.kind ≡ R_RISCV_GOT_HI20 → (slot : ℕ) → PcrelHiTo elf r (pos slot) →
      (IsSomeAnd (loaded_number elf slot 8) (λ v. label elf r ≡ pos v) → ⊥) → IsBadPair elf r

-- A lower part isn't on an instruction that can have one, or refers to no upper part.
pub data IsBadLower (elf : Elf) (r : Relocation) : Type 0 where
  no_lower : IsTrue (is_pcrel_lo r.kind) → (HasLower elf r → ⊥) → IsBadLower elf r
  no_upper : IsTrue (is_pcrel_lo r.kind) → (IsUpper elf (symbol_value elf r) → ⊥) → IsBadLower elf r

-- A part of an absolute code address isn't on its instruction, or the instruction has another number.
pub record IsBadAbsolute (elf : Elf) (r : Relocation) : Type 0 where
  pub target : ℕ
  pub part : AbsoluteTo elf r target
  pub absolute : IsAbsoluteKind r.kind
  pub unfit : HasAbsolute elf r target → ⊥

-- The field of a difference contains another number, or a code address that is added, set or subtracted isn't part of a
-- difference of two labels.
pub data IsBadDifference (elf : Elf) (r : Relocation) : Type 0 where
  number : (width : Width) (to from : ℤ) → IsDifference elf r width to from →
      (HoldsDifference elf r width to from → ⊥) →
      IsBadDifference elf r
  unpaired : (width : Width) → (plus_width r.kind ≡ Some width) ⊎ (minus_width r.kind ≡ Some width) →
      IsCodeLabel elf (label elf r) → (IsPaired elf r.place width → ⊥) → IsBadDifference elf r

-- A difference that is a code cell has a label that isn't an address.
pub record HasBadLabel (elf : Elf) (tabled : List (ℕ × ℕ)) (place : ℕ) : Type 0 where
  pub width : ℕ
  pub to : ℤ
  pub from : ℤ
  pub counted : Counts elf tabled (record { place = place; width = width; content = Difference to from }) true
  pub unfit : IsAddress to × IsAddress from → ⊥

-- The relocation doesn't fit the instructions or the field that it applies to.
pub data IsMisfit (elf : Elf) (r : Relocation) : Type 0 where
  field : IsBadField elf r → IsMisfit elf r
  call : IsBadCall elf r → IsMisfit elf r
  upper : IsBadUpper elf r → IsMisfit elf r
  pair : IsBadPair elf r → IsMisfit elf r
  lower : IsBadLower elf r → IsMisfit elf r
  absolute : IsBadAbsolute elf r → IsMisfit elf r
  difference : IsBadDifference elf r → IsMisfit elf r

abbrev pub IsRelocMismatch : Elf → List (ℕ × ℕ) → ℕ → Type 0
IsRelocMismatch elf tabled place = HasRelocation elf (IsMisfit elf) place ⊎ HasBadLabel elf tabled place

-- Two lower parts of one AUIPC differ.
pub record IsLoMismatch (elf : Elf) (place : ℕ) : Type 0 where
  pub low : Relocation
  pub imm : ℤ
  pub part : PcrelLo elf low place imm
  pub low' : Relocation
  pub imm' : ℤ
  pub part' : PcrelLo elf low' place imm'
  pub differ : imm ≢ imm'

-- A difference with a code address can't be a cell, and its labels aren't both in one whole function.
pub record IsNarrow (elf : Elf) (tabled : List (ℕ × ℕ)) (r : Relocation) : Type 0 where
  pub width : Width
  pub to : ℤ
  pub from : ℤ
  pub difference : IsDifference elf r width to from
  pub no_cell : IsFalse (can_be_cell r)
  pub has_code : HasCodeLabel elf to from
  pub across : IsInOneWhole elf tabled to from → ⊥

abbrev pub IsNarrowDiff : Elf → List (ℕ × ℕ) → ℕ → Type 0
IsNarrowDiff elf tabled = HasRelocation elf (IsNarrow elf tabled)

-- A section of stubs, by its name.
abbrev pub IsStubs : Section → Type 0
IsStubs section = IsTrue (is_named section (codes ".plt")) ⊎ IsTrue (is_named section (codes ".iplt"))

-- Routines are selected when the program starts: by symbols, by sections of stubs that aren't empty, or by relocations.
pub data IsIfuncOrPlt (elf : Elf) (place : ℕ) : Type 0 where
  symbol : Any (λ s. (s.info % 16 ≡ STT_GNU_IFUNC) × (s.value ≡ place)) elf.symbols.items → IsIfuncOrPlt elf place
  section : Any (λ s. IsStubs s × (s.size ≢ 0) × (s.addr ≡ place)) elf.sections.items → IsIfuncOrPlt elf place
  relocation : HasRelocation elf (λ r. r.kind ≡ R_RISCV_IRELATIVE) place → IsIfuncOrPlt elf place

-- A section of a file that was rewritten before. The place is its index.
abbrev pub IsAlreadyMoved : Elf → ℕ → Type 0
IsAlreadyMoved elf index =
    IsSomeAnd (slice_get elf.sections.items index) (λ s. IsTrue (starts_with nat_eq s.name.now (codes ".old.")))

-- The file has the fault at this place. Other kinds belong to other crates.
abbrev pub HasReferenceFault : Elf → List (ℕ × ℕ) → FaultKind → ℕ → Type 0
HasReferenceFault elf tabled RelocType place = IsRelocType elf place
HasReferenceFault elf tabled RelocMismatch place = IsRelocMismatch elf tabled place
HasReferenceFault elf tabled LoMismatch place = IsLoMismatch elf place
HasReferenceFault elf tabled NarrowDiff place = IsNarrowDiff elf tabled place
HasReferenceFault elf tabled IfuncOrPlt place = IsIfuncOrPlt elf place
HasReferenceFault elf tabled AlreadyMoved place = IsAlreadyMoved elf place
HasReferenceFault elf tabled _ place = ⊥
