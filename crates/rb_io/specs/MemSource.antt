-- Remaining bytes and results of an in-memory source.
use Rattle.std.specs.Prelude.{ℕ, List, length, drop, min, if◌then◌else◌}
use Rattle.rb_io.specs.Calls.{fails_next}
use Rattle.rb_io.specs.declared.calls.Calls.{Calls}
use Rattle.rb_io.specs.declared.mem_source.MemSource.{MemSource}
use Rattle.rb_io.specs.declared.source.Got.{Got}
use Rattle.rb_io.specs.declared.source.Got.TheVariants.{Bytes, Failed}

-- The bytes not read yet.
abbrev pub bytes_left : MemSource → List ℕ
bytes_left source = drop source.place source.bytes.items

-- The counts of reads.
abbrev pub calls_of : MemSource → Calls
calls_of source = source.calls

-- The result of reading into a buffer of length `room`.
abbrev pub read_answer : MemSource → ℕ → Got
read_answer source room = if fails_next source.calls then Failed else Bytes (min room (length (bytes_left source)))
