use Rattle.std.proofs.Common.{◌≡◌, ◌∙◌, sym, ap, subst, Some, None}
use Rattle.rb_bytes.specs.FirstFault.{IsAnswered}
use Rattle.table_core.specs.DebugUnits.{Walked, first_place}
use Rattle.line_rewrite.specs.KeptEntries.{strings_held, texts_strings}
use Rattle.line_rewrite.specs.Tables.{LineSections, HasLineFault, line_sections_held, line_version}
use Rattle.line_rewrite.proofs.LineFaults.{version_refusal, units_read}
use Rattle.line_rewrite.proofs.unit_list.read_units.Goals as goal

pub returns-in-Some : goal.returns-in-Some
returns-in-Some c =
    let s : LineSections = line_sections_held c.args.line.now c.args.str.now c.args.line_str.now in
    let e : line_version s ≡ Some c.in-Some.place =
    sym (c.in-Some.ensures ∙ ap (first_place (λ (w : Walked). w.is_other)) (c.deref.ensures.value ∙ c.in_ok-walked.ensures)) in
    subst (IsAnswered (HasLineFault s)) (sym c.at.ensures) (version_refusal s c.in-Some.place e)

pub returns : goal.returns
returns c =
    let s : LineSections = line_sections_held c.args.line.now c.args.str.now c.args.line_str.now in
    let e : line_version s ≡ None =
    sym (c.in_default.ensures ∙ ap (first_place (λ (w : Walked). w.is_other)) (c.deref.ensures.value ∙ c.in_ok-walked.ensures)) in
    units_read s (texts_strings c.new-texts.result) c.deref-2.result.now c.units_in.result (λ us. us.items)
    (λ i. strings_held (c.new-texts.ensures.str i) (c.new-texts.ensures.line_str i)) (c.deref-2.ensures.value ∙ c.in_ok-walked.ensures) e
    c.units_in.ensures
