-- What a contract sees of a cursor, and the values at the front of a list of bytes.
use Rattle.std.specs.Prelude.{◌≡◌, ◌+◌, ◌==◌, ℕ, List, nat_lt, if◌then◌else◌, length, take, drop, Result, Ok, Err}
use Rattle.std.specs.List.{position_or_len}
use Rattle.byteorder.specs.Endian.{little_number}
use Rattle.rb_bytes.specs.declared.gap.Gap.{Gap}
use Rattle.rb_bytes.specs.declared.gap.Gap.TheVariants.{Short}

-- The number of bytes read, and the bytes left.
pub record Reading : Type 0 where
  pub place : ℕ
  pub left : List ℕ

-- A reading of `bytes` before its first byte is read.
abbrev pub whole_reading : List ℕ → Reading
whole_reading bytes = record { place = 0; left = bytes }

-- `new` is `old` after n more bytes are read.
pub record Passes (n : ℕ) (old new : Reading) : Type 0 where
  pub place : new.place ≡ old.place + n
  pub left : new.left ≡ drop n old.left
  pub count : length new.left + n ≡ length old.left

-- The next n bytes, and the bytes after them.
abbrev pub bytes_at : ℕ → List ℕ → Result (List ℕ × List ℕ) Gap
bytes_at n left = if nat_lt (length left) n then Err Short else Ok (take n left, drop n left)

-- The little-endian number in the next n bytes, and the bytes after them.
abbrev pub number_read : ℕ → List ℕ → Result (ℕ × List ℕ) Gap
number_read n left = if nat_lt (length left) n then Err Short else Ok (little_number n left, drop n left)

-- The bytes before the next zero byte, and the bytes after it.
abbrev pub text_at : List ℕ → Result (List ℕ × List ℕ) Gap
text_at left = let n = position_or_len (λ b. b == 0) left in
    if nat_lt n (length left) then Ok (take n left, drop (n + 1) left) else Err Short

-- The result of `next` on the value and the remaining bytes that `read` has, or the gap of `read`. Formats that are
-- read in several steps are defined by it.
abbrev pub and_then : {X Y E : Type 0} → Result (X × List ℕ) E → (X → List ℕ → Result Y E) → Result Y E
and_then (Ok read) next = next read.0 read.1
and_then (Err gap) next = Err gap
