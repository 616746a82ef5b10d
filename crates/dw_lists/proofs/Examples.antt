-- A unit covers 10078 to 10090 and a block in it 10080 to 10088, with a variable whose location is a list: one expression from 10078 to
-- 10084, and another one by default.
use Rattle.std.proofs.Common.{◌≡◌, ℕ, List, [], ◌∷◌, None, false, refl}
use Rattle.table_core.specs.DebugUnits.{units_from}
use Rattle.dw_unit.specs.Declarations.{specs_within, table_within}
use Rattle.dw_unit.specs.CompUnits.{entries_within}
use Rattle.dw_lists.specs.Faults.{ListSections, location_places}
use Rattle.dw_lists.specs.ListEntries.{items_within}
use Rattle.dw_lists.specs.Locations.{places_said, PlaceSaid}
use Rattle.dw_lists.specs.Ranges.{covering, covers}

abbrevs : List ℕ
abbrevs =
    1 ∷ 0x11 ∷ 1 ∷ 0x11 ∷ 1 ∷ 0x12 ∷ 6 ∷ 0 ∷ 0
    ∷ 2 ∷ 0x0b ∷ 1 ∷ 0x11 ∷ 1 ∷ 0x12 ∷ 6 ∷ 0 ∷ 0
    ∷ 3 ∷ 0x34 ∷ 0 ∷ 2 ∷ 0x17 ∷ 0 ∷ 0
    ∷ 0 ∷ []

info : List ℕ
info =
    41 ∷ 0 ∷ 0 ∷ 0 ∷ 5 ∷ 0 ∷ 1 ∷ 8 ∷ 0 ∷ 0 ∷ 0 ∷ 0
    ∷ 1 ∷ 0x78 ∷ 0 ∷ 1 ∷ 0 ∷ 0 ∷ 0 ∷ 0 ∷ 0 ∷ 0x18 ∷ 0 ∷ 0 ∷ 0
    ∷ 2 ∷ 0x80 ∷ 0 ∷ 1 ∷ 0 ∷ 0 ∷ 0 ∷ 0 ∷ 0 ∷ 8 ∷ 0 ∷ 0 ∷ 0
    ∷ 3 ∷ 12 ∷ 0 ∷ 0 ∷ 0
    ∷ 0 ∷ 0 ∷ []

lists : List ℕ
lists = 17 ∷ 0 ∷ 0 ∷ 0 ∷ 5 ∷ 0 ∷ 8 ∷ 0 ∷ 0 ∷ 0 ∷ 0 ∷ 0 ∷ 4 ∷ 0 ∷ 0x0c ∷ 1 ∷ 0x50 ∷ 5 ∷ 1 ∷ 0x51 ∷ 0 ∷ []

abbrev sections : ListSections
sections = record { units = record { info = info; abbrevs = abbrevs; addr = [] }; ranges = []; locations = lists }

abbrev of_variable : ℕ → List PlaceSaid
of_variable register = record { entry = 38; attr = 2; expressions = (register ∷ []) ∷ [] } ∷ []

no_fault : (location_places sections).bad ≡ None
unfolding abbrevs info lists units_from specs_within table_within entries_within items_within
no_fault = refl

unit_alone : covering sections 0x10078 ≡ 12 ∷ []
unfolding abbrevs info lists units_from specs_within table_within entries_within items_within
unit_alone = refl

both : covering sections 0x10084 ≡ 12 ∷ 25 ∷ []
unfolding abbrevs info lists units_from specs_within table_within entries_within items_within
both = refl

past_block : covers sections 25 0x10088 ≡ false
unfolding abbrevs info lists units_from specs_within table_within entries_within items_within
past_block = refl

-- The variable has a location only in the block, which is its nearest entry with ranges.
outside : places_said sections 0x10078 ≡ []
unfolding abbrevs info lists units_from specs_within table_within entries_within items_within
outside = refl

in_bounds : places_said sections 0x10080 ≡ of_variable 0x50
unfolding abbrevs info lists units_from specs_within table_within entries_within items_within
in_bounds = refl

by_default : places_said sections 0x10084 ≡ of_variable 0x51
unfolding abbrevs info lists units_from specs_within table_within entries_within items_within
by_default = refl
