-- The first table with a range that contains an address, among the ranges of all tables.
use Rattle.std.proofs.Common.{◌≡◌, ◌∙◌, ◌++◌, ℕ, List, [], ◌∷◌, Bool, true, false, Option, Some, refl, map, option_map}
use Rattle.std.specs.Prelude.{◌||◌, if◌then◌else◌, find}
use Rattle.std.specs.List.{list_any}
use Rattle.answer_runs.specs.AddressRanges.{holds_address}
use Rattle.answer_runs.specs.declared.range.Range.{Range}
use Rattle.addr_rewrite.specs.Aranges.{AddressTable}
use Rattle.addr_rewrite.specs.ArangesReading.{all_entries}
use Rattle.addr_rewrite.specs.declared.unit_range.UnitRange.{UnitRange}

module _ (a : ℕ) where
  abbrev pub holds : UnitRange → Bool
  holds e = holds_address a e.range

  abbrev pub unit_of : Option UnitRange → Option ℕ
  unit_of o = option_map (λ (e : UnitRange). e.unit) o

  among : (unit : ℕ) (rs : List Range) (more : List UnitRange) →
      unit_of (find holds (map (λ (r : Range). record { range = r; unit = unit }) rs ++ more))
      ≡ (if list_any (holds_address a) rs then Some unit else unit_of (find holds more))
  among unit [] more = refl
  among unit (r ∷ rs) more = by_test (holds_address a r) (among unit rs more) where
    by_test : (b : Bool) → unit_of (find holds (map (λ (r : Range). record { range = r; unit = unit }) rs ++ more))
        ≡ (if list_any (holds_address a) rs then Some unit else unit_of (find holds more)) →
        unit_of (if b then Some (record { range = r; unit = unit }) else find holds
        (map (λ (r : Range). record { range = r; unit = unit }) rs ++ more))
        ≡ (if b || list_any (holds_address a) rs then Some unit else unit_of (find holds more))
    by_test true ih = refl
    by_test false ih = ih

  pub unit_found : (ts : List AddressTable) →
      unit_of (find holds (all_entries ts)) ≡ option_map (λ (t : AddressTable). t.unit)
      (find (λ (t : AddressTable). list_any (holds_address a) t.ranges) ts)
  unit_found [] = refl
  unit_found (t ∷ ts) = among t.unit t.ranges (all_entries ts) ∙ by_test (list_any (holds_address a) t.ranges) (unit_found ts) where
    by_test : (b : Bool) → unit_of (find holds (all_entries ts)) ≡ option_map (λ (t : AddressTable). t.unit)
        (find (λ (t : AddressTable). list_any (holds_address a) t.ranges) ts) →
        (if b then Some t.unit else unit_of (find holds (all_entries ts)))
        ≡ option_map (λ (t : AddressTable). t.unit) (if b then Some t else find (λ (t : AddressTable). list_any (holds_address a) t.ranges)
        ts)
    by_test true ih = refl
    by_test false ih = ih
