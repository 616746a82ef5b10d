-- What contracts see of files, sources and sinks.
use Rattle.std.specs.Prelude.{◌≡◌, ℕ, List, Option, Bool}
use Rattle.rb_io.specs.Names.{NeverFalls}

-- Files. `told` says that they are transparent: contracts see their contents. `content` gives the bytes of each
-- existing file, and means nothing if the files are opaque. Each name has a count of read faults and one of write
-- faults.
pub record FilesSeen : Type 0 where
  pub told : Bool
  pub content : List ℕ → Option (List ℕ)
  pub read_faults : List ℕ → ℕ
  pub write_faults : List ℕ → ℕ

-- A source: its remaining bytes, or None if it is opaque, and its count of faults.
pub record SourceSeen : Type 0 where
  pub left : Option (List ℕ)
  pub faults : ℕ

-- A sink: the bytes taken so far, or None if it is opaque, and its count of faults.
pub record SinkSeen : Type 0 where
  pub taken : Option (List ℕ)
  pub faults : ℕ

-- Files stay transparent or opaque, and no count falls.
pub record FilesGoOn (old new : FilesSeen) : Type 0 where
  pub told_kept : new.told ≡ old.told
  pub reads : NeverFalls old.read_faults new.read_faults
  pub writes : NeverFalls old.write_faults new.write_faults
