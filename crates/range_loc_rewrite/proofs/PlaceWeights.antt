-- The weight of locations is that of the lists to which units refer.
use Rattle.std.proofs.Common.{◌≡◌, ◌||◌, ◌+◌, ◌++◌, ◌∷◌, [], ℕ, List, Option, Some, None, refl, sym, subst, map, filter, not}
use Rattle.std.specs.Prelude.{flat_map}
use Rattle.std.specs.Option.{option_or, option_map_or}
use Rattle.rb_bytes.specs.FirstFault.{IsFree}
use Rattle.rb_bytes.proofs.Options.{both_none}
use Rattle.addr_map.specs.declared.span.Span.{Span}
use Rattle.answer_runs.specs.AnswerRuns.{carried}
use Rattle.answer_runs.specs.Choices.{unless_empty}
use Rattle.answer_runs.specs.Weights.{IsWeightOf}
use Rattle.table_core.specs.DebugUnits.{walked, first_place}
use Rattle.dw_unit.specs.CompUnits.{Unit, units}
use Rattle.dw_unit.specs.Faults.{HasDwarfFault, is_bad, bad_address_table}
use Rattle.dw_unit.proofs.NoFaults.{absent, none_least, both_nil}
use Rattle.dw_lists.specs.Faults.{ListSections, location_places, has_bad_offsets, list_offsets, table_place, bad_list_tables, bad_table}
use Rattle.dw_lists.specs.KnownLists.{location_list}
use Rattle.dw_lists.specs.Lists.{ranges_kind, locations_kind}
use Rattle.cover_lists.specs.Located.{Located, in_force}
use Rattle.cover_lists.specs.ListWeights.{IsSaidWeight, IsSumOf, expressions_weight}
use Rattle.list_units.specs.ReadLists.{firsts, said_at, can_read, unit_lists}
use Rattle.dw_lists.specs.Weights.{IsListWeight, IsUnitWeight, IsPlacesWeight, expressions_at, index_weights}
use Rattle.cover_lists.specs.ListWeights.IsSumOf.{none, more}
use Rattle.list_units.proofs.FirstOffsets.{all_pass}
use Rattle.list_units.proofs.PlaceFaults.{of_tables}
use Rattle.range_loc_rewrite.proofs.WeightSums.{of_two, sum_map, by_firsts}

-- Sections without a fault have lists that can be read.

abbrev bad_lists : ListSections → Unit → List ℕ
bad_lists s u = bad_list_tables locations_kind s.locations s.units.addr u

none_bad : (s : ListSections) → IsFree (HasDwarfFault (location_places s)) → flat_map (bad_lists s) (units s.units) ≡ []
none_bad s free =
    let ranges : Option ℕ = bad_table ranges_kind s.ranges s.units in
    let locations : Option ℕ = bad_table locations_kind s.locations s.units in
    let of_units = both_none (first_place (λ w. is_bad s.units w || has_bad_offsets s w) (walked 5 s.units.info))
    (option_or (bad_address_table s.units.addr) (option_or ranges locations)) (absent (location_places s) free).bad in
    let lists = both_none (bad_address_table s.units.addr) (option_or ranges locations) of_units.1 in
    (both_nil (of_tables s.locations) (flat_map (bad_lists s) (units s.units))
    (none_least (of_tables s.locations ++ flat_map (bad_lists s) (units s.units)) (both_none ranges locations lists.1).1)).1

map_nil : (f : ℕ → ℕ) (ns : List ℕ) → map f ns ≡ [] → ns ≡ []
map_nil f [] e = refl
map_nil f (n ∷ ns) e = absurd (cc)

module _ (s : ListSections) (spans : List Span) where
  same_answer : (o : Option (List Located)) (a : ℕ) →
      unless_empty (option_map_or (λ ls. in_force ls a) o []) ≡ option_map_or (λ ls. expressions_at ls a) o None
  same_answer None a = refl
  same_answer (Some ls) a = refl

  list_weight : (u : Unit) (at n : ℕ) → IsSaidWeight spans (said_at s u at) n → IsListWeight s spans u at n
  list_weight u at n w =
      subst (λ (says : ℕ → Option (List (List ℕ))). IsWeightOf expressions_weight (carried says spans) n)
      (λ i a. same_answer (location_list s u at) a i) w

  unit_weight : (u : Unit) (n : ℕ) → bad_lists s u ≡ [] → IsSumOf (IsSaidWeight spans) (unit_lists s u) n → IsUnitWeight s spans u n
  unit_weight u n good w =
      let offsets : List ℕ = list_offsets locations_kind s.locations u in
      let all : filter (can_read s u) (firsts offsets) ≡ firsts offsets =
      all_pass (can_read s u) offsets (map_nil (table_place s.locations) (filter (λ at. not (can_read s u at)) offsets) good) in
      by_firsts (IsListWeight s spans u) offsets n
      (sum_map (IsSaidWeight spans) (IsListWeight s spans u) (said_at s u) (list_weight u) (firsts offsets) n
      (subst (λ (l : List ℕ). IsSumOf (IsSaidWeight spans) (map (said_at s u) l) n) all w))

  units_weight : (us : List Unit) (n : ℕ) → flat_map (bad_lists s) us ≡ [] → IsSumOf (IsSaidWeight spans) (flat_map (unit_lists s) us) n →
      IsSumOf (IsUnitWeight s spans) us n
  units_weight [] _ good none = none
  units_weight (u ∷ us) n good w =
      let both = both_nil (bad_lists s u) (flat_map (bad_lists s) us) good in
      let two = of_two (IsSaidWeight spans) (unit_lists s u) (flat_map (unit_lists s) us) n w in
      subst (IsSumOf (IsUnitWeight s spans) (u ∷ us)) (sym two.sum)
      (more u us two.first two.second (unit_weight u two.first both.0 two.of_first) (units_weight us two.second both.1 two.of_second))

  pub places_weight : (n : ℕ) → IsFree (HasDwarfFault (location_places s)) →
      IsSumOf (IsSaidWeight spans) (flat_map (unit_lists s) (units s.units)) n →
      IsPlacesWeight s spans (index_weights locations_kind.index_form s + n)
  places_weight n free w = record { runs = n; of_runs = units_weight (units s.units) n (none_bad s free) w; sum = refl }
