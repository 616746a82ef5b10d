-- The fault of a file that has no room for the new area in either place.
use Rattle.std.specs.Prelude.{ℕ, ◌-◌, ◌^◌, ◌&&◌, nat_lt, if◌then◌else◌, Bool, List, Option, Some, None, min}
use Rattle.rb_bytes.specs.declared.fault.Fault.{Fault}
use Rattle.rb_bytes.specs.declared.fault.FaultKind.TheVariants as fault
use Rattle.elf_image.specs.declared.segment.Segment.{Segment}
use Rattle.file_room.specs.Room.{is_tight, area_above, room_above}

-- The area needs more bytes than either place has.
abbrev pub has_no_room : List Segment → ℕ → Bool
has_no_room segments need = is_tight segments need && nat_lt (room_above segments) need

-- The fault reports the address and the room of the new segment. The address is saturated at 2^64 - 1.
abbrev pub no_room_place : List Segment → ℕ
no_room_place segments = min (area_above segments) (2 ^ 64 - 1)

abbrev pub no_room_fault : List Segment → ℕ → Fault
no_room_fault segments need =
    record { kind = fault.NoRoom; place = no_room_place segments; need = need; room = room_above segments }

abbrev pub no_room : List Segment → ℕ → Option Fault
no_room segments need = if has_no_room segments need then Some (no_room_fault segments need) else None
