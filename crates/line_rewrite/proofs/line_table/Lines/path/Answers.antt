use Rattle.std.proofs.Common.{◌≡◌, ◌∙◌, sym, Some}
use Rattle.std.specs.Prelude.{slice_get}
use Rattle.line_rewrite.specs.FilePaths.{file_path}
use Rattle.line_rewrite.specs.KeptEntries.{strings_held}
use Rattle.line_rewrite.specs.KeptUnits.{told_unit}
use Rattle.line_rewrite.specs.Tables.{LineSections, line_sections_held}
use Rattle.line_rewrite.proofs.LineLookups.{item_at, none_at, path_none, path_of_none, path_of_some}
use Rattle.line_rewrite.proofs.line_table.Lines.path.Goals as goal

pub returns-in_default : goal.returns-in_default
returns-in_default c =
    let t = c.self.inside in
    let s : LineSections = line_sections_held t.line.items t.str.items t.line_str.items in
    rw (← c.self.view_is) (sym (path_none s t.units.items t.sequences t.offsets c.self.invariant c.args.unit c.args.file
    c.in_default.ensures))

pub returns-in_default-get : goal.returns-in_default-get
returns-in_default-get c =
    let t = c.self.inside in
    let s : LineSections = line_sections_held t.line.items t.str.items t.line_str.items in
    rw (← c.self.view_is) (sym (path_of_none s t.units.items t.sequences t.offsets c.self.invariant c.args.unit c.args.file c.in-Some.number
    c.in-Some.ensures
    (none_at c.deref.result.now t.units.items c.in-Some.number c.in_default-get.ensures.lookup.3 c.deref.ensures.value)))

pub returns : goal.returns
returns c =
    let t = c.self.inside in
    let s : LineSections = line_sections_held t.line.items t.str.items t.line_str.items in
    let u = c.in-Some-get.unit.now in
    let at : slice_get t.units.items c.in-Some.number ≡ Some u =
    item_at c.deref.result.now t.units.items c.in-Some.number u c.in-Some-get.ensures.lookup.0 c.in-Some-get.ensures.lookup.1
    c.deref.ensures.value in
    rw (← c.self.view_is) (c.in_ok-path.ensures
    ∙ (λ i. file_path (told_unit (strings_held (c.deref-2.ensures.value i) (c.deref-3.ensures.value i)) u) c.args.file)
    ∙ sym (path_of_some s t.units.items t.sequences t.offsets c.self.invariant c.args.unit c.args.file c.in-Some.number u c.in-Some.ensures
    at))
