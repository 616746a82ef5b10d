-- Why a file isn't read, and what is printed then.
use Rattle.std.specs.Prelude.{◌≡◌, ◌<◌, ℕ, List, length, IsSomeAnd, IsTrue}
use Rattle.rb_bytes.specs.Fault.{fault_at}
use Rattle.rb_bytes.specs.declared.fault.Fault.{Fault}
use Rattle.rb_bytes.specs.declared.fault.FaultKind.TheVariants.{TooLarge}
use Rattle.rb_bytes.specs.declared.limit.TheConstants.{FILE_BYTES}
use Rattle.rb_io.specs.FaultCounts.{Rose}
use Rattle.rb_io.specs.Views.{FilesSeen, SinkSeen}
use Rattle.cli_base.specs.Lines.{refused_line}
use Rattle.cli_base.specs.Printing.{LinePrinted}
use Rattle.cli_base.specs.declared.status.Status.{Status}
use Rattle.cli_base.specs.declared.status.Status.TheVariants as status

-- The file `name` has more than `limit` bytes, and is refused; or it can't be read; or memory ran out.
pub data IsUnread (name : List ℕ) (limit : ℕ) (old new : FilesSeen) (before after : SinkSeen)
    (answer : Status) : Type 0 where
  too_long : (fault : Fault) → fault ≡ fault_at TooLarge FILE_BYTES
      → (IsTrue old.told → IsSomeAnd (old.content name) (λ file. limit < length file))
      → LinePrinted answer (status.Refused fault) (refused_line fault) before after
      → IsUnread name limit old new before after answer
  at_file : answer ≡ status.ReadFault → Rose (old.read_faults name) (new.read_faults name) → after.taken ≡ before.taken
      → IsUnread name limit old new before after answer
  no_memory : answer ≡ status.NoMemory → after.taken ≡ before.taken → IsUnread name limit old new before after answer
