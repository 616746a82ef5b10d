-- The byte at an address, if it isn't a number.
use Rattle.std.specs.Prelude.{ℕ, ◌+◌, ◌*◌, ◌/◌, ◌%◌, ◌&&◌, nat_le, nat_lt, if◌then◌else◌, Bool, List}
use Rattle.std.specs.Prelude.{Option, None, is_some, slice_index_or, option_and_then}
use Rattle.rv_memory.specs.PageIndex.{place_of}
use Rattle.rv_memory.specs.declared.page_index.PageIndex.{PageIndex}
use Rattle.sym_machine.specs.declared.other_bytes.OtherByte.{OtherByte}
use Rattle.sym_machine.specs.declared.other_bytes.OtherBytes.{OtherBytes}

-- a group's number is its addresses divided by 8; all groups are one after another, and the index has the position of
-- each
unfoldable pub byte_in : PageIndex → List (Option OtherByte) → ℕ → Option OtherByte
byte_in index slots a = option_and_then (λ place. slice_index_or slots (place * 8 + a % 8) None)
    (place_of index (a / 8))

abbrev pub other_byte : OtherBytes → ℕ → Option OtherByte
other_byte others a = byte_in others.index others.slots.items a

abbrev pub has_group : OtherBytes → ℕ → Bool
has_group others a = is_some (place_of others.index (a / 8))

-- the byte at address q after the bytes from `from` to before `to` were removed
abbrev pub cleared_between : OtherBytes → ℕ → ℕ → ℕ → Option OtherByte
cleared_between others from to q = if nat_le from q && nat_lt q to then None else other_byte others q
