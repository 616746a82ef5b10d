-- The relocations that count: those of loaded sections other than .eh_frame. gABI, "Relocation"; psABI, "Relocations".
use Rattle.std.specs.Prelude.{◌≡◌, ℕ, zero, suc, ℤ, pos, ◌+ℤ◌, ◌+◌, ◌/◌, ◌==◌, ◌&&◌, ◌||◌, not, nat_le, if◌then◌else◌}
use Rattle.std.specs.Prelude.{Bool, List, [], ◌∷◌, Option, Some, None, slice_get, flat_map, codes, Contains}
use Rattle.std.specs.Option.{option_map_or}
use Rattle.std.specs.Str.{bytes_eq}
use Rattle.rv_code.specs.isa.TwosComplement.{signed64}
use Rattle.elf_image.specs.declared.elf.Elf.{Elf}
use Rattle.elf_image.specs.declared.section.Section.{Section}
use Rattle.elf_image.specs.declared.relocation.TheConstants.{SHT_RELA, RELA_SIZE}
use Rattle.elf_image.specs.declared.relocation.TheConstants as r
use Rattle.elf_image.specs.file.Header.{number_at}
use Rattle.elf_image.specs.file.SectionNames.{is_loaded}

-- A relocation with the section that it applies to.
pub record Relocation : Type 0 where
  -- r_offset: the address of the field.
  pub place : ℕ
  -- The type and the index of the symbol, both from r_info.
  pub kind : ℕ
  pub symbol : ℕ
  -- r_addend
  pub addend : ℤ
  pub section : Section

-- The relocation entry at a file offset.
abbrev pub relocation_at : List ℕ → Section → ℕ → Relocation
relocation_at file section offset = record {
  place = number_at file offset 8;
  kind = number_at file (offset + 8) 4;
  symbol = number_at file (offset + 12) 4;
  addend = signed64 (number_at file (offset + 16) 8);
  section = section;
}

-- The n entries from a file offset on.
unfoldable pub entries_from : List ℕ → Section → ℕ → ℕ → List Relocation
entries_from file section offset zero = []
entries_from file section offset (suc n) = relocation_at file section offset
    ∷ entries_from file section (offset + RELA_SIZE) n

abbrev pub is_named : Section → List ℕ → Bool
is_named section name = bytes_eq section.name.now name

-- The relocations in a table that apply to a section, if they count.
abbrev pub entries_for : Elf → Section → Section → List Relocation
entries_for elf table section =
    if is_loaded section && not (is_named section (codes ".eh_frame"))
    then entries_from elf.file.now section table.offset (table.size / RELA_SIZE)
    else []

-- The relocations of a section that count. The section is a relocation table if its type says so, and sh_info is the
-- index of the section that the relocations apply to.
abbrev pub entries_of : Elf → Section → List Relocation
entries_of elf table =
    if table.kind == SHT_RELA
    then option_map_or (entries_for elf table) (slice_get elf.sections.items table.info) []
    else []

-- All relocations that count, in the order of the tables.
abbrev pub relocations : Elf → List Relocation
relocations elf = flat_map (entries_of elf) elf.sections.items

-- S, the value of the symbol, and S + A. Index 0 means no symbol, and S is 0.
abbrev pub symbol_value : Elf → Relocation → ℕ
symbol_value elf r = if r.symbol == 0 then 0 else option_map_or (λ s. s.value) (slice_get elf.symbols.items r.symbol) 0

abbrev pub label : Elf → Relocation → ℤ
label elf r = pos (symbol_value elf r) +ℤ r.addend

-- Types of relocations, by use.

-- Ignored: hints for the linker, branches and jumps (their targets are read from the instructions), and offsets of
-- thread-local variables.
abbrev pub is_ignored : ℕ → Bool
is_ignored kind =
    kind == r.R_RISCV_NONE || kind == r.R_RISCV_BRANCH || kind == r.R_RISCV_JAL || kind == r.R_RISCV_ALIGN
    || kind == r.R_RISCV_RVC_BRANCH || kind == r.R_RISCV_RVC_JUMP || kind == r.R_RISCV_RELAX
    || (nat_le r.R_RISCV_TPREL_HI20 kind && nat_le kind r.R_RISCV_TPREL_ADD)

-- An address of 32 or 64 bits.
abbrev pub is_address : ℕ → Bool
is_address kind = kind == r.R_RISCV_32 || kind == r.R_RISCV_64

-- A call: an AUIPC followed by a JALR.
abbrev pub is_call_pair : ℕ → Bool
is_call_pair kind = kind == r.R_RISCV_CALL || kind == r.R_RISCV_CALL_PLT

-- The upper part of a distance from an AUIPC.
abbrev pub is_pcrel_hi : ℕ → Bool
is_pcrel_hi kind =
    kind == r.R_RISCV_GOT_HI20 || kind == r.R_RISCV_TLS_GOT_HI20 || kind == r.R_RISCV_TLS_GD_HI20
    || kind == r.R_RISCV_PCREL_HI20

-- The lower part for the AUIPC that the symbol refers to.
abbrev pub is_pcrel_lo : ℕ → Bool
is_pcrel_lo kind = kind == r.R_RISCV_PCREL_LO12_I || kind == r.R_RISCV_PCREL_LO12_S

-- A part of an absolute address.
abbrev pub is_absolute : ℕ → Bool
is_absolute kind = kind == r.R_RISCV_HI20 || kind == r.R_RISCV_LO12_I || kind == r.R_RISCV_LO12_S

-- The 32-bit distance from the field to a label.
abbrev pub is_pc_difference : ℕ → Bool
is_pc_difference kind = kind == r.R_RISCV_32_PCREL || kind == r.R_RISCV_PLT32

-- Differences of two labels: one relocation adds or sets the first, and another subtracts the second. Both give the
-- width of the field: a number of bits, or an unsigned LEB128 number.
pub data Width : Type 0 where
  Bits : ℕ → Width
  Uleb128 : Width

-- The width of a relocation that adds a label or sets the field to it.
abbrev pub plus_width : ℕ → Option Width
plus_width kind =
    if kind == r.R_RISCV_SET6 then Some (Bits 6)
    else if kind == r.R_RISCV_ADD8 || kind == r.R_RISCV_SET8 then Some (Bits 8)
    else if kind == r.R_RISCV_ADD16 || kind == r.R_RISCV_SET16 then Some (Bits 16)
    else if kind == r.R_RISCV_ADD32 || kind == r.R_RISCV_SET32 then Some (Bits 32)
    else if kind == r.R_RISCV_ADD64 then Some (Bits 64)
    else if kind == r.R_RISCV_SET_ULEB128 then Some Uleb128
    else None

-- The width of a relocation that subtracts a label.
abbrev pub minus_width : ℕ → Option Width
minus_width kind =
    if kind == r.R_RISCV_SUB6 then Some (Bits 6)
    else if kind == r.R_RISCV_SUB8 then Some (Bits 8)
    else if kind == r.R_RISCV_SUB16 then Some (Bits 16)
    else if kind == r.R_RISCV_SUB32 then Some (Bits 32)
    else if kind == r.R_RISCV_SUB64 then Some (Bits 64)
    else if kind == r.R_RISCV_SUB_ULEB128 then Some Uleb128
    else None

-- A label is added to a field of 32 or 64 bits.
abbrev pub is_add : ℕ → Bool
is_add kind = kind == r.R_RISCV_ADD32 || kind == r.R_RISCV_ADD64

-- The supported types, from 0 to 61.
abbrev pub is_supported : ℕ → Bool
is_supported kind =
    is_ignored kind || is_address kind || is_call_pair kind || is_pcrel_hi kind || is_pcrel_lo kind || is_absolute kind
    || is_pc_difference kind || kind == r.R_RISCV_IRELATIVE
    || (nat_le r.R_RISCV_ADD8 kind && nat_le kind r.R_RISCV_SUB64)
    || (nat_le r.R_RISCV_SUB6 kind && nat_le kind r.R_RISCV_SET32) || kind == r.R_RISCV_SET_ULEB128
    || kind == r.R_RISCV_SUB_ULEB128

-- A relocation that counts has the property `Is` and applies to the address `place`.
pub record HasRelocation (elf : Elf) (Is : Relocation → Type 0) (place : ℕ) : Type 0 where
  pub relocation : Relocation
  pub counts : Contains (relocations elf) relocation
  pub is : Is relocation
  pub place_is : relocation.place ≡ place
