-- The result of a command if its file can't be read.
use Rattle.std.proofs.Common.{◌≡◌, ℕ, List}
use Rattle.rb_io.specs.Views.{FilesSeen, SinkSeen}
use Rattle.cli_base.specs.Reading.{IsUnread, at_file, no_memory}
use Rattle.cli_base.specs.WithinLimit.{IsUnreadable, failed, no_memory as unread_memory}
use Rattle.cli_base.specs.declared.status.Status.{Status}

pub unread : (name : List ℕ) (limit : ℕ) (old new : FilesSeen) (before after : SinkSeen) (answer : Status)
    → IsUnreadable name old new answer → after.taken ≡ before.taken → IsUnread name limit old new before after answer
unread name limit old new before after answer (failed is rose) kept = at_file is rose kept
unread name limit old new before after answer (unread_memory is) kept = no_memory is kept
