-- LEB128 numbers in the memory that a file describes, from one of their bytes on.
use Rattle.std.specs.Prelude.{◌≡◌, ◌<◌, ◌≤◌, ◌+◌, ◌^◌, ◌↔◌, ℕ, ℤ, pos, negsuc, Bool, true, IsTrue, IsSomeAnd, ◌%◌, List}
use Rattle.std.specs.Prelude.{Option, Some, None, length}
use Rattle.std.specs.Int.{int_rem_euclid}
use Rattle.rb_bytes.specs.Leb.{is_last}
use Rattle.elf_image.specs.declared.elf.Elf.{Elf}
use Rattle.elf_code.specs.Fields.{leb_at, HoldBits, bytes_of_bits}
use Rattle.elf_code.specs.LoadedNumbers.{loaded_number}
use Rattle.rv_reloc.specs.declared.tails.LebRest.{LebRest}
use Rattle.rv_reloc.specs.declared.tails.Known.{Known}

-- The bytes of the number at address `a`, however many there are.
pub record AreLebBytes (elf : Elf) (a : ℕ) (bytes : List ℕ) : Type 0 where
  pub within : (n : ℕ) → length bytes ≤ n → leb_at elf a n ≡ Some bytes
  pub beyond : (n : ℕ) → n < length bytes → leb_at elf a n ≡ None

-- Facts on the bytes from address `a` on.
pub record IsTail (elf : Elf) (a : ℕ) (t : LebRest) : Type 0 where
  pub bytes : List ℕ
  pub are : AreLebBytes elf a bytes
  pub end : t.end ≡ a + length bytes
  pub zeros : IsTrue t.is_zeros ↔ HoldBits bytes (pos 0)
  pub ones : IsTrue t.is_ones ↔ HoldBits bytes (negsuc 0)

-- No number ends there, or `t` is its tail.
pub data TailAt (elf : Elf) (a : ℕ) : Option LebRest → Type 0 where
  no_tail : ((n : ℕ) → leb_at elf a n ≡ None) → TailAt elf a None
  is_tail : (t : LebRest) → IsTail elf a t → TailAt elf a (Some t)

abbrev pub IsKnown : Elf → Known → Type 0
IsKnown elf k = TailAt elf k.place k.tail

-- A number ends at this byte, or the byte isn't loaded.
abbrev pub ends_with : Option ℕ → Bool
ends_with None = true
ends_with (Some byte) = is_last byte

-- A measure for the bits of a number that are left: n for n and for -n - 1.
abbrev pub magnitude : ℤ → ℕ
magnitude (pos n) = n
magnitude (negsuc n) = n

-- The n-bit number in a field is congruent to z modulo 2^n.
abbrev pub HoldsModulo : Elf → ℕ → ℕ → ℤ → Type 0
HoldsModulo elf place n z =
    IsSomeAnd (loaded_number elf place (bytes_of_bits n)) (λ x. int_rem_euclid z (pos (2 ^ n)) ≡ pos (x % 2 ^ n))
