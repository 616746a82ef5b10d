-- The ranges of an entry, by its high address or its list.
use Rattle.std.proofs.Common.{◌≡◌, ◌∷◌, [], ℕ, List, Option, Some, None, refl, ap}
use Rattle.std.specs.Prelude.{option_map, option_and_then}
use Rattle.std.specs.Option.{option_or}
use Rattle.answer_runs.specs.declared.range.Range.{Range}
use Rattle.dw_unit.specs.declared.attribute.TheConstants.{DW_AT_high_pc, DW_AT_ranges}
use Rattle.dw_unit.specs.declared.entry.Attr.{Attr}
use Rattle.dw_unit.specs.CompUnits.{Entry, Unit, attr, low_pc}
use Rattle.dw_lists.specs.Faults.{ListSections}
use Rattle.cover_lists.specs.Located.{ranges_in}
use Rattle.dw_lists.specs.KnownLists.{range_list}
use Rattle.dw_lists.specs.Lists.{ranges_kind, list_of, list_offset}
use Rattle.dw_lists.specs.Ranges.{ranges_of, up_to}

abbrev pub bounds_of : List ℕ → Unit → Entry → Option Range
bounds_of addr u e = option_and_then (λ high. option_map (λ low. up_to low high) (low_pc addr u e)) (attr DW_AT_high_pc e)

abbrev pub listed_ranges : ListSections → Unit → Option Attr → Option (List Range)
listed_ranges s u o = option_and_then (λ a. option_map ranges_in (list_of ranges_kind s.ranges s.units.addr u a)) o

bounded : (o : Option Attr) (low : Option ℕ) (rest : Option (List Range)) (r : Range) →
    option_and_then (λ high. option_map (λ low. up_to low high) low) o ≡ Some r →
    option_or (option_and_then (λ high. option_map (λ low. up_to low high ∷ []) low) o) rest ≡ Some (r ∷ [])
bounded None low rest r e = absurd (cc)
bounded (Some high) None rest r e = absurd (cc)
bounded (Some high) (Some low) rest r e = ap (option_map (λ (r : Range). r ∷ [])) e

unbounded : (o : Option Attr) (low : Option ℕ) (rest : Option (List Range)) →
    option_and_then (λ high. option_map (λ low. up_to low high) low) o ≡ None →
    option_or (option_and_then (λ high. option_map (λ low. up_to low high ∷ []) low) o) rest ≡ rest
unbounded None low rest e = refl
unbounded (Some high) None rest e = refl
unbounded (Some high) (Some low) rest e = absurd (cc)

pub own_bounds : (s : ListSections) (u : Unit) (e : Entry) (r : Range) → bounds_of s.units.addr u e ≡ Some r →
    ranges_of s u e ≡ Some (r ∷ [])
own_bounds s u e r is =
    bounded (attr DW_AT_high_pc e) (low_pc s.units.addr u e) (listed_ranges s u (attr DW_AT_ranges e)) r is

pub own_list : (s : ListSections) (u : Unit) (e : Entry) → bounds_of s.units.addr u e ≡ None →
    ranges_of s u e ≡ listed_ranges s u (attr DW_AT_ranges e)
own_list s u e is = unbounded (attr DW_AT_high_pc e) (low_pc s.units.addr u e) (listed_ranges s u (attr DW_AT_ranges e)) is

pub of_offset : (s : ListSections) (u : Unit) (a : Attr) (o : Option ℕ) → list_offset ranges_kind s.ranges u a ≡ o →
    listed_ranges s u (Some a) ≡ option_map ranges_in (option_and_then (range_list s u) o)
of_offset s u a o e = ap (λ (o : Option ℕ). option_map ranges_in (option_and_then (range_list s u) o)) e
