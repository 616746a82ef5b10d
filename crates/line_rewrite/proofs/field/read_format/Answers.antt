use Rattle.std.proofs.Common.{◌≡◌, ◌-◌, ◌+◌, ◌∙◌, ◌∷◌, [], ℕ, List, None, sym, ap, arith}
use Rattle.std.proofs.lemmas.List.{map-append}
use Rattle.std.proofs.lemmas.Result.{err_from_is_err_and}
use Rattle.line_rewrite.specs.declared.field.Field.{Field}
use Rattle.line_rewrite.specs.Entries.{format_at}
use Rattle.line_rewrite.specs.KeptEntries.{told_field, told_format}
use Rattle.line_rewrite.specs.EntrySteps.{times, field_at}
use Rattle.line_rewrite.proofs.EntryLists.{with_front, times_more, times_none, format_times, front_none, tells_map}
use Rattle.line_rewrite.proofs.field.read_format.Goals as goal

pub loop-init : goal.loop-init
loop-init c =
    let left : List ℕ = c.args.cursor.now.left in
    let whole : c.args.count - 0 ≡ c.args.count = omega arith in
    ap (λ (fs : List Field). with_front (told_format fs) (times field_at (c.args.count - 0) left)) c.new-fields.ensures.items
    ∙ front_none (times field_at (c.args.count - 0) left)
    ∙ ap (λ (n : ℕ). times field_at n left) whole ∙ sym (format_times c.args.count left)

pub returns-in_err-field-clause-malformed : goal.returns-in_err-field-clause-malformed
returns-in_err-field-clause-malformed c =
    let p = err_from_is_err_and c.from_residual.result c.from_residual.ensures.1 in
    rw (p.1, p.2) (tells_map c.in_err-field.field-0.0 (field_at c.loop.cursor.left ≡ None)
    (format_at c.args.count c.args.cursor.now.left ≡ None)
    (λ e. sym c.loop.invariant ∙ times_none field_at c.args.count c.loop.counter c.loop.cursor.left (told_format c.loop.fields.items)
    (omega arith) e)
    c.in_err-field.ensures.malformed)

pub loop-preserved : goal.loop-preserved
loop-preserved c =
    ap (λ (fs : List (ℕ × ℕ)). with_front fs (times field_at (c.args.count - (c.loop.counter + 1)) c.read_field.new.cursor.left))
    (ap told_format c.in_ok-push.ensures.items ∙ map-append told_field c.loop.fields.items (c.in_ok-field.field ∷ []))
    ∙ sym (times_more field_at c.args.count c.loop.counter c.loop.cursor.left c.read_field.new.cursor.left (told_field c.in_ok-field.field)
    (told_format c.loop.fields.items)
    (omega arith) c.in_ok-field.ensures.read)
    ∙ c.loop.invariant
