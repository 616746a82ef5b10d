use Rattle.std.proofs.Common.{◌∙◌, sym}
use Rattle.std.proofs.lemmas.Result.{err_from_is_err_and}
use Rattle.line_rewrite.specs.Entries.{Strings}
use Rattle.line_rewrite.specs.KeptEntries.{texts_strings}
use Rattle.line_rewrite.specs.EntrySteps.{Found, told_found}
use Rattle.line_rewrite.proofs.EntryLists.{tells_map, found_step, found_no_form, found_no_value, found_no_more, found_end}
use Rattle.line_rewrite.proofs.entry.read_contents.Goals as goal

pub returns-in_err-form-clause-malformed : goal.returns-in_err-form-clause-malformed
returns-in_err-form-clause-malformed c =
    let strings : Strings = texts_strings c.args.texts.now in
    let found : Found = told_found strings c.loop-field.found in
    let p = err_from_is_err_and c.from_residual.result c.from_residual.ensures.1 in
    rw (p.1, p.2) (tells_map c.in_err-form.field-0.0 _ _
    (λ e. sym c.loop-field.invariant ∙ found_no_form strings c.args.format.now c.loop-field.field-index _ c.loop-field-test.true found
    c.loop-field.cursor.left e)
    c.in_err-form.ensures.malformed)

pub returns-in_err-value-clause-malformed : goal.returns-in_err-value-clause-malformed
returns-in_err-value-clause-malformed c =
    let strings : Strings = texts_strings c.args.texts.now in
    let found : Found = told_found strings c.loop-field.found in
    let p = err_from_is_err_and c.from_residual-in_err-value.result c.from_residual-in_err-value.ensures.1 in
    rw (p.1, p.2) (tells_map c.in_err-value.field-0.0 _ _
    (λ e. sym c.loop-field.invariant ∙ found_no_value strings c.args.format.now c.loop-field.field-index _ c.loop-field-test.true found
    c.loop-field.cursor.left
    _ _ c.in_ok-form.ensures.read e)
    c.in_err-value.ensures.malformed)

pub returns-in_err-found-clause-malformed : goal.returns-in_err-found-clause-malformed
returns-in_err-found-clause-malformed c =
    let strings : Strings = texts_strings c.args.texts.now in
    let found : Found = told_found strings c.loop-field.found in
    let p = err_from_is_err_and c.from_residual-in_err-found.result c.from_residual-in_err-found.ensures.1 in
    rw (p.1, p.2) (tells_map c.in_err-found.field-0.0 _ _
    (λ e. sym c.loop-field.invariant ∙ found_no_more strings c.args.format.now c.loop-field.field-index _ c.loop-field-test.true found
    c.loop-field.cursor.left
    _ _ _ _ c.in_ok-form.ensures.read c.in_ok-value.ensures.read e)
    c.in_err-found.ensures.malformed)

pub loop-field-preserved : goal.loop-field-preserved
loop-field-preserved c =
    let strings : Strings = texts_strings c.args.texts.now in
    let found : Found = told_found strings c.loop-field.found in
    sym (found_step strings c.args.format.now c.loop-field.field-index _ c.loop-field-test.true found c.loop-field.cursor.left
    _ _ _ _ _ c.in_ok-form.ensures.read c.in_ok-value.ensures.read c.in_ok-found.ensures.read)
    ∙ c.loop-field.invariant

pub returns-clause-read : goal.returns-clause-read
returns-clause-read c =
    let strings : Strings = texts_strings c.args.texts.now in
    sym c.loop-field.invariant
    ∙ found_end strings c.args.format.now c.loop-field.field-index (told_found strings c.loop-field.found) c.loop-field.cursor.left
    c.loop-field-test.false
