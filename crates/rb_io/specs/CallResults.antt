-- Results of reads and writes.
use Rattle.std.specs.Prelude.{ℕ, Bool, true, false}
use Rattle.rb_io.specs.declared.files.ReadAll.{ReadAll}
use Rattle.rb_io.specs.declared.files.ReadAll.TheVariants as read
use Rattle.rb_io.specs.declared.files.Wrote.{Wrote}
use Rattle.rb_io.specs.declared.files.Wrote.TheVariants as wrote
use Rattle.rb_io.specs.declared.source.Got.{Got}
use Rattle.rb_io.specs.declared.source.Got.TheVariants.{Bytes}
use Rattle.rb_io.specs.declared.source.Got.TheVariants as got
use Rattle.rb_io.specs.declared.sink.Put.{Put}
use Rattle.rb_io.specs.declared.sink.Put.TheVariants.{Took}
use Rattle.rb_io.specs.declared.sink.Put.TheVariants as put

-- If the read gave n bytes, P n holds.
abbrev pub IfBytes : Got → (ℕ → Type 0) → Type 0
IfBytes (Bytes n) P = P n
IfBytes got.Failed P = Unit {0}

-- If the write took n bytes, P n holds.
abbrev pub IfTook : Put → (ℕ → Type 0) → Type 0
IfTook (Took n) P = P n
IfTook put.Failed P = Unit {0}

-- The read failed.
abbrev pub got_failed : Got → Bool
got_failed (Bytes n) = false
got_failed got.Failed = true

-- The write failed.
abbrev pub put_failed : Put → Bool
put_failed (Took n) = false
put_failed put.Failed = true

-- The file could not be read.
abbrev pub read_failed : ReadAll → Bool
read_failed read.Done = false
read_failed read.TooLong = false
read_failed read.Failed = true
read_failed read.Memory = false

-- The file could not be written.
abbrev pub write_failed : Wrote → Bool
write_failed wrote.Done = false
write_failed wrote.Failed = true
