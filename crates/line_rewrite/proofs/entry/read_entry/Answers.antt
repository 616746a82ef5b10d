use Rattle.std.proofs.Common.{◌≡◌, None}
use Rattle.std.proofs.lemmas.Result.{err_from_is_err_and}
use Rattle.line_rewrite.specs.Entries.{Format, Strings}
use Rattle.line_rewrite.specs.KeptEntries.{texts_strings, told_format}
use Rattle.line_rewrite.specs.EntrySteps.{entry_at, found_at, nothing_found}
use Rattle.line_rewrite.proofs.Contents.{no_entry, entry_read, entry_pathless}
use Rattle.line_rewrite.proofs.EntryLists.{tells_map}
use Rattle.line_rewrite.proofs.entry.read_entry.Goals as goal

pub returns-in_err-path-clause-malformed : goal.returns-in_err-path-clause-malformed
returns-in_err-path-clause-malformed c =
    let strings : Strings = texts_strings c.args.texts.now in
    let format : Format = told_format c.args.format.now in
    let p = err_from_is_err_and c.from_residual.result c.from_residual.ensures.1 in
    rw (p.1, p.2) (tells_map c.in_err-path.field-0.0 (found_at strings format nothing_found c.args.cursor.now.left ≡ None)
    (entry_at strings format c.args.cursor.now.left ≡ None)
    (no_entry strings format c.args.cursor.now.left) c.in_err-path.ensures.malformed)

pub returns-in-Some-clause-read : goal.returns-in-Some-clause-read
returns-in-Some-clause-read c =
    entry_read (texts_strings c.args.texts.now) (told_format c.args.format.now) c.args.cursor.now.left c.read_contents.new.cursor.left
    c.in_ok-path.field-0.path c.in-Some.text c.in_ok-path.field-0.directory c.in_ok-path.ensures.read c.in-Some.is

pub returns-in-None-clause-malformed : goal.returns-in-None-clause-malformed
returns-in-None-clause-malformed c =
    entry_pathless (texts_strings c.args.texts.now) (told_format c.args.format.now) c.args.cursor.now.left c.read_contents.new.cursor.left
    c.in_ok-path.field-0.path c.in_ok-path.field-0.directory c.in_ok-path.ensures.read c.in-None.is
