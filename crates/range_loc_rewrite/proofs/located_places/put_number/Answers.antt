use Rattle.std.proofs.Common.{◌∙◌, ◌++◌, [], Option, ap, sym, append-nil}
use Rattle.std.specs.Option.{option_map_or}
use Rattle.list_units.specs.declared.located_attr.LocatedAttr.{LocatedAttr}
use Rattle.dw_lists.specs.Locations.{all_said}
use Rattle.list_units.specs.UnitLocations.{located_says}
use Rattle.range_loc_rewrite.proofs.located_places.put_number.Goals as goal

pub returns-in-None : goal.returns-in-None
returns-in-None c =
    sym (append-nil (all_said c.args.places.now))
    ∙ ap (λ (o : Option LocatedAttr). all_said c.args.places.now
    ++ option_map_or (located_says c.args.kept.now.lists.items c.args.a) o []) c.in-None.ensures
