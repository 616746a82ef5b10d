-- The in-memory file of one name.
use Rattle.std.specs.Prelude.{ℕ, List, Option, Some, None, if◌then◌else◌}
use Rattle.rb_io.specs.declared.slot.Slot.{Slot}

-- The bytes of the file, if it was written.
abbrev pub content_of : Slot → Option (List ℕ)
content_of slot = if slot.is_written then Some slot.bytes.items else None

-- The number of bytes that can be written.
abbrev pub room_of : Slot → ℕ
room_of slot = slot.room
