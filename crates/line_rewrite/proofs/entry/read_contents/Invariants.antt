use Rattle.std.proofs.Common.{◌≡◌, drop}
use Rattle.line_rewrite.specs.KeptEntries.{texts_strings, told_format}
use Rattle.line_rewrite.specs.EntrySteps.{told_found, found_at, nothing_found}
use Rattle.line_rewrite.proofs.entry.read_contents.Given as goal

abbrev pub invariant-loop-field : goal.invariant-loop-field
invariant-loop-field l =
    found_at (texts_strings l.texts) (told_format (drop l.field-index l.format)) (told_found (texts_strings l.texts) l.found) l.cursor.left
    ≡ found_at (texts_strings l.texts) (told_format l.format) nothing_found l.fn.cursor.left
