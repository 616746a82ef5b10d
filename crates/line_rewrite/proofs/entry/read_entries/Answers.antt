use Rattle.std.proofs.Common.{◌≡◌, ◌-◌, ◌+◌, ◌∙◌, ◌∷◌, [], ℕ, List, None, sym, ap, arith}
use Rattle.std.proofs.lemmas.List.{map-append}
use Rattle.std.proofs.lemmas.Result.{err_from_is_err_and}
use Rattle.line_rewrite.specs.declared.entry.Entry.{Entry}
use Rattle.line_rewrite.specs.Entries.{Named, Format, Strings, entries_at}
use Rattle.line_rewrite.specs.KeptEntries.{texts_strings, told_entry, told_entries, told_format}
use Rattle.line_rewrite.specs.EntrySteps.{times, entry_at}
use Rattle.line_rewrite.proofs.EntryLists.{with_front, times_more, times_none, entries_times, front_none, tells_map}
use Rattle.line_rewrite.proofs.entry.read_entries.Goals as goal

pub loop-init : goal.loop-init
loop-init c =
    let strings : Strings = texts_strings c.args.texts.now in
    let format : Format = told_format c.args.format.now in
    let left : List ℕ = c.args.cursor.now.left in
    let whole : c.args.count - 0 ≡ c.args.count = omega arith in
    ap (λ (es : List Entry). with_front (told_entries strings es) (times (entry_at strings format) (c.args.count - 0) left))
    c.new-entries.ensures.items
    ∙ front_none (times (entry_at strings format) (c.args.count - 0) left)
    ∙ ap (λ (n : ℕ). times (entry_at strings format) n left) whole ∙ sym (entries_times strings format c.args.count left)

pub returns-in_err-entry-clause-malformed : goal.returns-in_err-entry-clause-malformed
returns-in_err-entry-clause-malformed c =
    let strings : Strings = texts_strings c.args.texts.now in
    let format : Format = told_format c.args.format.now in
    let p = err_from_is_err_and c.from_residual.result c.from_residual.ensures.1 in
    rw (p.1, p.2) (tells_map c.in_err-entry.field-0.0 (entry_at strings format c.loop.cursor.left ≡ None)
    (entries_at strings format c.args.count c.args.cursor.now.left ≡ None)
    (λ e. sym c.loop.invariant ∙ times_none (entry_at strings format) c.args.count c.loop.counter c.loop.cursor.left
    (told_entries strings c.loop.entries.items) (omega arith) e)
    c.in_err-entry.ensures.malformed)

pub loop-preserved : goal.loop-preserved
loop-preserved c =
    let strings : Strings = texts_strings c.args.texts.now in
    let format : Format = told_format c.args.format.now in
    ap (λ (es : List Named). with_front es (times (entry_at strings format) (c.args.count - (c.loop.counter + 1))
    c.read_entry.new.cursor.left))
    (ap (told_entries strings) c.in_ok-push.ensures.items ∙ map-append (told_entry strings) c.loop.entries.items (c.in_ok-entry.entry ∷ []))
    ∙ sym (times_more (entry_at strings format) c.args.count c.loop.counter c.loop.cursor.left c.read_entry.new.cursor.left
    (told_entry strings c.in_ok-entry.entry)
    (told_entries strings c.loop.entries.items) (omega arith) c.in_ok-entry.ensures.read)
    ∙ c.loop.invariant
