use Rattle.std.proofs.Common.{◌≡◌, ◌-◌}
use Rattle.line_rewrite.specs.Entries.{format_at}
use Rattle.line_rewrite.specs.KeptEntries.{told_format}
use Rattle.line_rewrite.specs.EntrySteps.{times, field_at}
use Rattle.line_rewrite.proofs.EntryLists.{with_front}
use Rattle.line_rewrite.proofs.field.read_format.Given as goal

abbrev pub invariant-loop : goal.invariant-loop
invariant-loop l =
    with_front (told_format l.fields.items) (times field_at (l.count - l.counter) l.cursor.left) ≡ format_at l.count l.fn.cursor.left
