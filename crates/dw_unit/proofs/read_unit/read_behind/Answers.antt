use Rattle.std.proofs.Common.{rules, ◌∙◌, List, sym, ap, refl}
use Rattle.dw_unit.specs.CompUnits.{unit_by}
use Rattle.dw_unit.specs.Faults.{is_sound_unit}
use Rattle.dw_unit.specs.ListedEntries.{ListedEntry}
use Rattle.dw_unit.specs.ListedUnits.{plain_unit}
use Rattle.dw_unit.specs.TablesAt.{told_at}
use Rattle.dw_unit.proofs.UnitReadings.{sound_unit, unsound_unit}
use Rattle.dw_unit.proofs.read_unit.read_behind.Goals as goal

pub returns-then-is_sound_unit-clause-behind : goal.returns-then-is_sound_unit-clause-behind
returns-then-is_sound_unit-clause-behind c = λ offset.
    let u = unit_by c.args.place c.args.end offset (told_at c.args.table.at) c.args.cursor.now.left in
    let sound = sym (ap (λ (l : List ListedEntry). is_sound_unit c.args.addr.now (plain_unit l)) c.deref.ensures.value)
    ∙ sym c.is_sound_unit.ensures ∙ c.if-is_sound_unit.true in
    sound_unit c.args.addr.now u _ c.in-Ok.entries (c.in-Ok.ensures.read offset) sound refl refl

pub returns-else-is_sound_unit-clause-behind : goal.returns-else-is_sound_unit-clause-behind
returns-else-is_sound_unit-clause-behind c = λ offset.
    let u = unit_by c.args.place c.args.end offset (told_at c.args.table.at) c.args.cursor.now.left in
    let unsound = sym (ap (λ (l : List ListedEntry). is_sound_unit c.args.addr.now (plain_unit l)) c.deref.ensures.value)
    ∙ sym c.is_sound_unit.ensures ∙ c.if-is_sound_unit.false in
    unsound_unit c.args.addr.now u c.in-Ok.entries.items _ (c.in-Ok.ensures.read offset) unsound (search rules) (search rules)
