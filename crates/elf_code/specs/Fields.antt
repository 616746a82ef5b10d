-- The fields that relocations apply to: their sizes and contents. psABI, "Relocations", "Field Symbols"; DWARF 5,
-- section 7.6, for LEB128 numbers.
use Rattle.std.specs.Prelude.{◌≡◌, ◌⊎◌, ℕ, zero, suc, ◌+◌, ◌-◌, ◌/◌, ◌%◌, ◌^◌, ◌≤◌, ℤ, pos, ◌-ℤ◌, ◌==◌, ◌||◌}
use Rattle.std.specs.Prelude.{if◌then◌else◌, IsTrue, IsSomeAnd, List, [], ◌∷◌, Option, Some, None, length, option_map}
use Rattle.std.specs.Int.{int_rem_euclid}
use Rattle.rb_bytes.specs.Leb.{is_last, low_bits, high_bits}
use Rattle.elf_image.specs.declared.elf.Elf.{Elf}
use Rattle.elf_image.specs.declared.relocation.TheConstants.{R_RISCV_64, R_RISCV_IRELATIVE}
use Rattle.elf_image.specs.memory.LoadedBytes.{byte_at}
use Rattle.elf_code.specs.LoadedNumbers.{loaded_number}
use Rattle.elf_code.specs.Relocations.{Relocation, is_ignored, is_call_pair, Width, Bits, Uleb128, plus_width}
use Rattle.elf_code.specs.Relocations.{minus_width}

-- LEB128 numbers.

abbrev pub leb_from : Option ℕ → Option (List ℕ) → Option (List ℕ)
leb_from None rest = None
leb_from (Some b) rest = if is_last b then Some (b ∷ []) else option_map (λ bs. b ∷ bs) rest

-- The bytes of the number at address `a`, if it ends within n bytes.
unfoldable pub leb_at : Elf → ℕ → ℕ → Option (List ℕ)
leb_at elf a zero = None
leb_at elf a (suc n) = leb_from (byte_at elf a) (leb_at elf (a + 1) n)

-- The bytes of the number in a relocation's field, if it ends in the relocation's section.
abbrev pub leb_field : Elf → Relocation → Option (List ℕ)
leb_field elf r = leb_at elf r.place (r.section.addr + r.section.size - r.place)

-- Sizes.

-- A field of fewer than eight bits takes one byte.
abbrev pub bytes_of_bits : ℕ → ℕ
bytes_of_bits n = (n + 7) / 8

abbrev pub width_size : Elf → Relocation → Width → Option ℕ
width_size elf r (Bits n) = Some (bytes_of_bits n)
width_size elf r Uleb128 = option_map length (leb_field elf r)

-- A call is a pair of four-byte instructions. Other instructions and 32-bit addresses have four bytes.
abbrev pub fixed_size : ℕ → ℕ
fixed_size kind = if is_call_pair kind || kind == R_RISCV_64 || kind == R_RISCV_IRELATIVE then 8 else 4

abbrev pub size_by : Elf → Relocation → Option Width → Option Width → Option ℕ
size_by elf r (Some width) minus = width_size elf r width
size_by elf r None (Some width) = width_size elf r width
size_by elf r None None = Some (fixed_size r.kind)

-- The size of a relocation's field in bytes, or None if a LEB128 number doesn't end in the section.
abbrev pub field_size : Elf → Relocation → Option ℕ
field_size elf r = size_by elf r (plus_width r.kind) (minus_width r.kind)

-- A field is in the section of its relocation. Relocations that are ignored need no field.
abbrev pub HasField : Elf → Relocation → Type 0
HasField elf r =
    IsTrue (is_ignored r.kind)
    ⊎ IsSomeAnd (field_size elf r) (λ size. (r.section.addr ≤ r.place)
    × (r.place + size ≤ r.section.addr + r.section.size))

-- Contents.

-- The bytes of a LEB128 number have the lowest bits of a number in two's complement, seven bits in each byte. The
-- number may have any number of bytes.
abbrev pub HoldBits : List ℕ → ℤ → Type 0
HoldBits [] z = Unit {0}
HoldBits (b ∷ bs) z = (b % 128 ≡ low_bits z) × HoldBits bs (high_bits z)

-- The field contains the difference of two labels modulo its width.
abbrev pub HoldsDifference : Elf → Relocation → Width → ℤ → ℤ → Type 0
HoldsDifference elf r (Bits n) to from =
    IsSomeAnd (loaded_number elf r.place (bytes_of_bits n))
    (λ x. int_rem_euclid (to -ℤ from) (pos (2 ^ n)) ≡ pos (x % 2 ^ n))
HoldsDifference elf r Uleb128 to from = IsSomeAnd (leb_field elf r) (λ bs. HoldBits bs (to -ℤ from))
