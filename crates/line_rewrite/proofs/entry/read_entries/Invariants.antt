use Rattle.std.proofs.Common.{◌≡◌, ◌-◌}
use Rattle.line_rewrite.specs.Entries.{entries_at}
use Rattle.line_rewrite.specs.KeptEntries.{texts_strings, told_entries, told_format}
use Rattle.line_rewrite.specs.EntrySteps.{times, entry_at}
use Rattle.line_rewrite.proofs.EntryLists.{with_front}
use Rattle.line_rewrite.proofs.entry.read_entries.Given as goal

abbrev pub invariant-loop : goal.invariant-loop
invariant-loop l =
    with_front (told_entries (texts_strings l.texts) l.entries.items)
    (times (entry_at (texts_strings l.texts) (told_format l.format)) (l.count - l.counter) l.cursor.left)
    ≡ entries_at (texts_strings l.texts) (told_format l.format) l.count l.fn.cursor.left
