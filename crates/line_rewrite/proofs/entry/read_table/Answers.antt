use Rattle.std.proofs.Common.{◌≡◌, ◌∙◌, sym, ap, subst, ℕ, List, Option, Some, None, IfOk}
use Rattle.std.proofs.lemmas.Result.{err_from_is_err_and}
use Rattle.line_rewrite.specs.declared.field.Field.{Field}
use Rattle.line_rewrite.specs.Entries.{Named, Strings, table_at, entries_at}
use Rattle.line_rewrite.specs.KeptEntries.{texts_strings, told_entries, told_format}
use Rattle.line_rewrite.specs.Troubles.{IfMalformed}
use Rattle.line_rewrite.proofs.EntryLists.{tells_map, table_no_fields, table_no_format, table_no_count, table_from}
use Rattle.line_rewrite.proofs.entry.read_table.Goals as goal

pub returns-in_err-fields-clause-malformed : goal.returns-in_err-fields-clause-malformed
returns-in_err-fields-clause-malformed c =
    let p = err_from_is_err_and c.from_residual.result c.from_residual.ensures.1 in
    rw (p.1, p.2) (table_no_fields (texts_strings c.args.texts.now) c.args.cursor.now.left _ c.in_err-fields.ensures.gap)

pub returns-in_err-format-clause-malformed : goal.returns-in_err-format-clause-malformed
returns-in_err-format-clause-malformed c =
    let p = err_from_is_err_and c.from_residual-in_err-format.result c.from_residual-in_err-format.ensures.1 in
    rw (p.1, p.2) (tells_map c.in_err-format.field-0.0 _ _
    (λ e. table_no_format (texts_strings c.args.texts.now) c.args.cursor.now.left _ _ c.in_ok-fields.ensures.read e)
    c.in_err-format.ensures.malformed)

pub returns-in_err-count-clause-malformed : goal.returns-in_err-count-clause-malformed
returns-in_err-count-clause-malformed c =
    let p = err_from_is_err_and c.from_residual-in_err-count.result c.from_residual-in_err-count.ensures.1 in
    rw (p.1, p.2) (table_no_count (texts_strings c.args.texts.now) c.args.cursor.now.left _ _ c.in_ok-fields.ensures.read _ _
    c.in_ok-format.ensures.read _ c.in_err-count.ensures.gap)

pub returns-clause-read : goal.returns-clause-read
returns-clause-read c =
    let strings : Strings = texts_strings c.args.texts.now in
    let e : table_at strings c.args.cursor.now.left ≡ entries_at strings (told_format c.deref.result.now) c.in_ok-count.count
    c.uleb.new.self.left =
    table_from strings c.args.cursor.now.left _ _ c.in_ok-fields.ensures.read _ _ c.in_ok-format.ensures.read _ _ c.in_ok-count.ensures.read
    ∙ ap (λ (fs : List Field). entries_at strings (told_format fs) c.in_ok-count.count c.uleb.new.self.left) (sym c.deref.ensures.value) in
    subst (λ (o : Option (List Named × List ℕ)). IfOk c.read_entries.result
    (λ es. o ≡ Some (told_entries strings es.items, c.read_entries.new.cursor.left))) (sym e)
    c.read_entries.ensures.read

pub returns-clause-malformed : goal.returns-clause-malformed
returns-clause-malformed c =
    let strings : Strings = texts_strings c.args.texts.now in
    let e : table_at strings c.args.cursor.now.left ≡ entries_at strings (told_format c.deref.result.now) c.in_ok-count.count
    c.uleb.new.self.left =
    table_from strings c.args.cursor.now.left _ _ c.in_ok-fields.ensures.read _ _ c.in_ok-format.ensures.read _ _ c.in_ok-count.ensures.read
    ∙ ap (λ (fs : List Field). entries_at strings (told_format fs) c.in_ok-count.count c.uleb.new.self.left) (sym c.deref.ensures.value) in
    subst (λ (o : Option (List Named × List ℕ)). IfMalformed c.read_entries.result (o ≡ None)) (sym e) c.read_entries.ensures.malformed
