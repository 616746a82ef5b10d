-- Contents, room and results of in-memory files.
use Rattle.std.specs.Prelude.{ℕ, List, Option, Some, None, Bool, true, false, nat_le, ◌||◌, not, is_none}
use Rattle.rb_io.specs.Calls.{fails_next}
use Rattle.rb_io.specs.Views.{FilesSeen}
use Rattle.rb_io.specs.Slots.{content_at, room_at}
use Rattle.rb_io.specs.declared.calls.Calls.{Calls}
use Rattle.rb_io.specs.declared.mem_files.MemFiles.{MemFiles}

-- The bytes of the file with a name, if the file exists.
abbrev pub content : MemFiles → List ℕ → Option (List ℕ)
content files = content_at files.slots

-- The number of bytes that can be written under a name; `None` if no room was made for it.
abbrev pub room_for : MemFiles → List ℕ → Option ℕ
room_for files = room_at files.slots

-- The counts of reads and writes.
abbrev pub calls_of : MemFiles → Calls
calls_of files = files.calls

-- What contracts see of in-memory files. All names share one count of faults.
abbrev pub files_seen : MemFiles → FilesSeen
files_seen files = record {
  told = true;
  content = content files;
  read_faults = λ name. files.calls.faults;
  write_faults = λ name. files.calls.faults;
}

-- There is room for `count` bytes.
abbrev pub has_room : Option ℕ → ℕ → Bool
has_room None count = false
has_room (Some room) count = nat_le count room

-- A read fails if its number is to fail or the file doesn't exist.
abbrev pub read_fails : MemFiles → List ℕ → Bool
read_fails files name = fails_next files.calls || is_none (content files name)

-- A write of `count` bytes fails if its number is to fail or the name has no room for the bytes.
abbrev pub write_fails : MemFiles → List ℕ → ℕ → Bool
write_fails files name count = fails_next files.calls || not (has_room (room_for files name) count)
