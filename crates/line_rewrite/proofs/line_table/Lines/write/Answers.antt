use Rattle.std.proofs.Common.{List, sym}
use Rattle.line_rewrite.specs.declared.unit.Unit as kept
use Rattle.line_rewrite.specs.Tables.{LineSections, line_sections_held}
use Rattle.line_rewrite.proofs.TableLaw.{small_units, written_law, written_made}
use Rattle.line_rewrite.proofs.line_table.Lines.write.Goals as goal

pub write_lines-requires-clause-small : goal.write_lines-requires-clause-small
write_lines-requires-clause-small c =
    let s : LineSections = line_sections_held c.self.inside.line.items c.self.inside.str.items c.self.inside.line_str.items in
    let us : List kept.Unit = c.self.inside.units.items in
    small_units c.args.self.now s
    (sym c.self.view_is) us c.deref-2.result.now c.deref-2.ensures.value c.self.inside.sequences c.self.inside.offsets c.self.invariant
    c.args.map.now c.args.runs.now c.requires.within c.requires.answers c.requires.fit c.args.cuts.now c.requires.few

pub returns-clause-law : goal.returns-clause-law
returns-clause-law c = λ i f from stood.
    let s : LineSections = line_sections_held c.self.inside.line.items c.self.inside.str.items c.self.inside.line_str.items in
    let us : List kept.Unit = c.self.inside.units.items in
    written_law c.args.self.now s
    (sym c.self.view_is) us c.deref-2.result.now c.deref-2.ensures.value c.self.inside.sequences c.self.inside.offsets c.self.invariant
    c.args.map.now c.args.runs.now c.requires.within c.requires.answers c.requires.fit c.args.cuts.now c.requires.few
    c.in_ok-written.written c.in_ok-written.ensures.rows c.in_ok-written.ensures.written i f from stood

pub returns-clause-made : goal.returns-clause-made
returns-clause-made c =
    let s : LineSections = line_sections_held c.self.inside.line.items c.self.inside.str.items c.self.inside.line_str.items in
    let us : List kept.Unit = c.self.inside.units.items in
    written_made c.args.self.now s
    (sym c.self.view_is) us c.deref-2.result.now c.deref-2.ensures.value c.self.inside.sequences c.self.inside.offsets c.self.invariant
    c.args.map.now c.args.runs.now c.requires.within c.requires.answers c.requires.fit c.args.cuts.now c.requires.few
    c.in_ok-written.written c.in_ok-written.ensures.rows c.in_ok-written.ensures.written c.deref.result.now c.deref.ensures.value
    c.in_ok-written.ensures.lists
