use Rattle.std.proofs.Common.{◌∙◌, ap}
use Rattle.std.specs.Option.{option_or}
use Rattle.table_core.specs.DebugUnits.{Walked, first_place, walked}
use Rattle.table_set.proofs.reading.unit_version.Goals as goal

pub returns : goal.returns
returns c =
    let unit = c.other_version-unit.ensures
    ∙ ap (first_place (λ (w : Walked). w.is_other)) (c.deref.ensures.value ∙ c.in_ok-units.ensures
    ∙ ap (walked 5) c.contents_of-info.ensures) in
    let table = c.other_version-table.ensures
    ∙ ap (first_place (λ (w : Walked). w.is_other)) (c.deref-2.ensures.value ∙ c.in_ok-tables.ensures
    ∙ ap (walked 5) c.contents_of-addr.ensures) in
    c.or.ensures ∙ (λ i. option_or (unit i) (table i))
