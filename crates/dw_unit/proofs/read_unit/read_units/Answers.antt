use Rattle.std.proofs.Common.{◌≡◌, ◌∙◌, ◌<◌, ◌^◌, ◌+◌, ◌++◌, ◌∷◌, [], List, sym, ap, subst, take}
use Rattle.std.proofs.lemmas.List.{take_more}
use Rattle.table_core.specs.DebugUnits.{Walked}
use Rattle.dw_unit.specs.UnitReadings.{AreReadings}
use Rattle.dw_unit.specs.CompUnits.{end_of, size_of}
use Rattle.dw_unit.proofs.MapKeys.{offset_key}
use Rattle.dw_unit.proofs.read_unit.read_units.Goals as goal

pub loop-unit-preserved : goal.loop-unit-preserved
loop-unit-preserved c =
    let units : List Walked = c.args.units.now in
    let w : Walked = c.unit-item.result in
    let more : take (c.loop-unit.unit-index + 1) units ≡ take c.loop-unit.unit-index units ++ w ∷ [] =
    take_more units c.loop-unit.unit-index w c.loop-unit-test.true
    ∙ ap (λ (x : Walked). take c.loop-unit.unit-index units ++ x ∷ []) (sym c.unit-item.is) in
    subst (λ (ws : List Walked). AreReadings c.args.tables.now.section.now c.args.addr.now ws c.in_ok-readings.readings) (sym more)
    (c.in_ok-readings.ensures c.args.tables.now.section.now c.args.addr.now (take c.loop-unit.unit-index units) w
    (sym (ap (λ (w : Walked). w.place) c.unit.view_is)) c.loop-unit.invariant c.in_ok-reading.ensures)

pub read_unit-requires-clause-named : goal.read_unit-requires-clause-named
read_unit-requires-clause-named c =
    offset_key c.args.tables.now.starts c.args.units.now c.loop-unit.unit-index c.unit-item.result c.unit-item.result c.requires.named
    c.loop-unit-test.true c.unit-item.is

pub read_unit-requires-clause-within : goal.read_unit-requires-clause-within
read_unit-requires-clause-within c =
    subst (λ (w : Walked). end_of w < 2 ^ 64) (sym c.unit-item.is)
    (c.requires.within c.loop-unit.unit-index c.unit-item.result c.loop-unit-test.true)

pub read_unit-requires-clause-short : goal.read_unit-requires-clause-short
read_unit-requires-clause-short c =
    subst (λ (w : Walked). size_of w < 2 ^ 32) (sym c.unit-item.is)
    (c.requires.short c.loop-unit.unit-index c.unit-item.result c.loop-unit-test.true)
