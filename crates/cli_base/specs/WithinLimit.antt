-- The result of reading a file within a size limit. None is returned for a longer file.
use Rattle.std.specs.Prelude.{◌≡◌, ◌<◌, ◌≤◌, ℕ, List, Option, Some, None, IfSome, IsSomeAnd, Vec, length}
use Rattle.std.specs.declared.alloc.Global.{Global}
use Rattle.rb_io.specs.FaultCounts.{Rose}
use Rattle.rb_io.specs.Views.{FilesSeen}
use Rattle.cli_base.specs.declared.status.Status.{Status}
use Rattle.cli_base.specs.declared.status.Status.TheVariants as status

-- `bytes` are the bytes that were returned, and within `limit`; or none were returned, since they are more
abbrev pub AreBytesGiven : ℕ → Option (Vec ℕ Global) → List ℕ → Type 0
AreBytesGiven limit None bytes = limit < length bytes
AreBytesGiven limit (Some given) bytes = (bytes ≡ given.items) × (length bytes ≤ limit)

-- the bytes that were returned are within a limit
abbrev pub FitsLimit : ℕ → Option (Vec ℕ Global) → Type 0
FitsLimit limit given = IfSome given (λ bytes. length bytes.items ≤ limit)

-- there is a file with this content, and it was returned
abbrev pub IsGiven : ℕ → Option (List ℕ) → Option (Vec ℕ Global) → Type 0
IsGiven limit content given = IsSomeAnd content (AreBytesGiven limit given)

-- a file can't be read, or memory ran out
pub data IsUnreadable (name : List ℕ) (old new : FilesSeen) (answer : Status) : Type 0 where
  failed : answer ≡ status.ReadFault → Rose (old.read_faults name) (new.read_faults name) → IsUnreadable name old new answer
  no_memory : answer ≡ status.NoMemory → IsUnreadable name old new answer
