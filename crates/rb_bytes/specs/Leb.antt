-- LEB128 numbers. DWARF 5, section 7.6. Each byte holds seven bits of the number, lowest bits first. The top bit is set
-- in every byte except the last.
use Rattle.std.specs.Prelude.{◌≡◌, ◌≤◌, ◌++◌, ◌+◌, ◌-◌, ◌*◌, ◌/◌, ◌%◌, ◌^◌, ◌+ℤ◌, ◌-ℤ◌, ◌*ℤ◌, ℕ, zero, suc, ℤ, pos}
use Rattle.std.specs.Prelude.{negsuc, Bool, List, [], ◌∷◌, nat_lt, if◌then◌else◌, length, take, drop, Result, Ok, Err}
use Rattle.std.specs.List.{position_or_len}
use Rattle.rb_bytes.specs.declared.gap.Gap.{Gap}
use Rattle.rb_bytes.specs.declared.gap.Gap.TheVariants.{Short, Wide}

-- Reading

abbrev pub is_last : ℕ → Bool
is_last byte = nat_lt byte 128

-- The number of bytes of the number at the front: up to and including the first byte with a clear top bit.
abbrev pub leb_length : List ℕ → ℕ
leb_length left = position_or_len is_last left + 1

-- The value of the bytes of an unsigned number.
abbrev pub uleb_value : List ℕ → ℕ
uleb_value [] = 0
uleb_value (byte ∷ bytes) = byte % 128 + 128 * uleb_value bytes

-- The low seven bits of a byte as a two's complement number.
abbrev pub signed_bits : ℕ → ℤ
signed_bits byte = if nat_lt (byte % 128) 64 then pos (byte % 128) else pos (byte % 128) -ℤ pos 128

-- The value of the bytes of a signed number, with the first byte as a separate argument. The last byte has the sign.
abbrev pub sleb_from : ℕ → List ℕ → ℤ
sleb_from byte [] = signed_bits byte
sleb_from byte (next ∷ bytes) = pos (byte % 128) +ℤ pos 128 *ℤ sleb_from next bytes

abbrev pub sleb_value : List ℕ → ℤ
sleb_value [] = pos 0
sleb_value (byte ∷ bytes) = sleb_from byte bytes

abbrev pub fits_i64 : ℤ → Bool
fits_i64 (pos n) = nat_lt n (2 ^ 63)
fits_i64 (negsuc n) = nat_lt n (2 ^ 63)

-- The unsigned number at the front, and the bytes after it.
abbrev pub uleb_at : List ℕ → Result (ℕ × List ℕ) Gap
uleb_at left = let n = leb_length left in let value = uleb_value (take n left) in
    if nat_lt (length left) n then Err Short
    else (if nat_lt value (2 ^ 64) then Ok (value, drop n left) else Err Wide)

-- The signed number at the front, and the bytes after it.
abbrev pub sleb_at : List ℕ → Result (ℤ × List ℕ) Gap
sleb_at left = let n = leb_length left in let value = sleb_value (take n left) in
    if nat_lt (length left) n then Err Short
    else (if fits_i64 value then Ok (value, drop n left) else Err Wide)

-- Writing

-- The shortest encoding of `n`, if it has at most k + 1 bytes. The first argument is k.
abbrev pub uleb_within : ℕ → ℕ → List ℕ
uleb_within zero n = n ∷ []
uleb_within (suc k) n = if nat_lt n 128 then n ∷ [] else (n % 128 + 128) ∷ uleb_within k (n / 128)

-- The shortest encoding of an unsigned 64-bit number.
unfoldable pub uleb : ℕ → List ℕ
uleb n = uleb_within 9 n

-- `spelling` is read as `n` whatever bytes follow, and no shorter list of bytes is read as `n`.
pub record IsShortestUleb (n : ℕ) (spelling : List ℕ) : Type 0 where
  pub reads_back : (rest : List ℕ) → uleb_at (spelling ++ rest) ≡ Ok (n, rest)
  pub shortest : (bytes rest : List ℕ) → uleb_at bytes ≡ Ok (n, rest) → length spelling + length rest ≤ length bytes

-- The seven lowest bits of a number in two's complement, and the bits above them.
abbrev pub low_bits : ℤ → ℕ
low_bits (pos n) = n % 128
low_bits (negsuc n) = 127 - n % 128

abbrev pub high_bits : ℤ → ℤ
high_bits (pos n) = pos (n / 128)
high_bits (negsuc n) = negsuc (n / 128)

-- Seven bits can hold the number including its sign.
abbrev pub fits_seven_bits : ℤ → Bool
fits_seven_bits (pos n) = nat_lt n 64
fits_seven_bits (negsuc n) = nat_lt n 64

abbrev pub sleb_within : ℕ → ℤ → List ℕ
sleb_within zero z = low_bits z ∷ []
sleb_within (suc k) z = if fits_seven_bits z then low_bits z ∷ [] else (low_bits z + 128) ∷ sleb_within k (high_bits z)

-- The shortest encoding of a signed 64-bit number.
unfoldable pub sleb : ℤ → List ℕ
sleb z = sleb_within 9 z

-- `spelling` is read as `z` whatever bytes follow, and no shorter list of bytes is read as `z`.
pub record IsShortestSleb (z : ℤ) (spelling : List ℕ) : Type 0 where
  pub reads_back : (rest : List ℕ) → sleb_at (spelling ++ rest) ≡ Ok (z, rest)
  pub shortest : (bytes rest : List ℕ) → sleb_at bytes ≡ Ok (z, rest) → length spelling + length rest ≤ length bytes
