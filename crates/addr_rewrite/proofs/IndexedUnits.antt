-- The unit that an index of ranges gives.
use Rattle.std.proofs.Common.{◌≡◌, ◌∙◌, ℕ, List, Option, Some, None, refl, sym, ap, map, option_map}
use Rattle.std.specs.Prelude.{find, option_and_then, position, slice_get}
use Rattle.std.proofs.lemmas.Option.{slice_get-map}
use Rattle.answer_runs.proofs.FoundFirst.{found_first}
use Rattle.answer_runs.specs.AddressRanges.{holds_address}
use Rattle.answer_runs.specs.FirstRanges.{first_range}
use Rattle.answer_runs.specs.declared.first_range.FirstRange.{FirstRange}
use Rattle.addr_rewrite.specs.declared.unit_range.UnitRange.{UnitRange}

abbrev unit_in : UnitRange → ℕ
unit_in r = r.unit

of_number : (rs : List UnitRange) (o : Option ℕ) →
    option_and_then (slice_get (map unit_in rs)) o ≡ option_map unit_in (option_and_then (slice_get rs) o)
of_number rs None = refl
of_number rs (Some n) = slice_get-map unit_in rs n

pub indexed : (rs : List UnitRange) (units : List ℕ) (index : FirstRange) (a : ℕ) → units ≡ map unit_in rs →
    first_range index a ≡ position (holds_address a) (map (λ (r : UnitRange). r.range) rs) →
    option_and_then (slice_get units) (first_range index a) ≡ option_map unit_in (find (λ (r : UnitRange). holds_address a r.range) rs)
indexed rs units index a are is =
    ap (λ (us : List ℕ). option_and_then (slice_get us) (first_range index a)) are
    ∙ of_number rs (first_range index a)
    ∙ sym (ap (option_map unit_in) (found_first index (λ (r : UnitRange). r.range) rs a is))
