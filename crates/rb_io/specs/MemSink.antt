-- Taken bytes, room and results of an in-memory sink.
use Rattle.std.specs.Prelude.{ℕ, Bool, List, length, ◌-◌, ◌==◌, ◌&&◌, ◌||◌, not, min, if◌then◌else◌}
use Rattle.rb_io.specs.Calls.{fails_next}
use Rattle.rb_io.specs.declared.calls.Calls.{Calls}
use Rattle.rb_io.specs.declared.mem_sink.MemSink.{MemSink}
use Rattle.rb_io.specs.declared.sink.Put.{Put}
use Rattle.rb_io.specs.declared.sink.Put.TheVariants.{Took, Failed}

-- The bytes taken so far.
abbrev pub bytes_taken : MemSink → List ℕ
bytes_taken sink = sink.bytes.items

-- The number of bytes for which there still is room.
abbrev pub room_left : MemSink → ℕ
room_left sink = sink.room - length sink.bytes.items

-- The counts of writes.
abbrev pub calls_of : MemSink → Calls
calls_of sink = sink.calls

-- The write of a piece fails if its number is to fail, or if no room is left for a piece that isn't empty.
abbrev pub write_fails : MemSink → ℕ → Bool
write_fails sink length_of_piece = fails_next sink.calls || (room_left sink == 0) && not (length_of_piece == 0)

-- The result of writing a piece of this length.
abbrev pub write_answer : MemSink → ℕ → Put
write_answer sink length_of_piece =
    if write_fails sink length_of_piece then Failed else Took (min length_of_piece (room_left sink))

-- The room that is left after a write with this result.
abbrev pub room_after : ℕ → Put → ℕ
room_after room (Took n) = room - n
room_after room Failed = room
