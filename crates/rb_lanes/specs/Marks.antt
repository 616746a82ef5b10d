-- Bits that mark halfwords, 64 bits in each number.
use Rattle.std.specs.Prelude.{ℕ, Bool, List, map, ◌==◌, ◌/◌, ◌%◌, ◌^◌, slice_index}
use Rattle.std.specs.Simd.Lanes.{mask_l}

-- The two lowest bits of a halfword are set. An instruction that begins with such a halfword has more than two bytes.
abbrev pub ends_in_ones : ℕ → Bool
ends_in_ones half = half % 4 == 3

-- Bit i is set, counted from the lowest bit of the first number. Bits after the last number are clear.
abbrev pub is_marked : List ℕ → ℕ → Bool
is_marked marks i = slice_index marks (i / 64) / 2 ^ (i % 64) % 2 == 1

-- The number with one bit for each halfword. The first halfword has the lowest bit.
abbrev pub marks_of : List ℕ → ℕ
marks_of halves = mask_l (map ends_in_ones halves)
