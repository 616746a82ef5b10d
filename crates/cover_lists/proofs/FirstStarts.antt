-- Where the first range of a list starts, range by range.
use Rattle.std.proofs.Common.{◌≡◌, ◌∙◌, ◌+◌, ◌<◌, ◌++◌, ◌∷◌, [], ℕ, List, Option, Some, None, refl, sym, ap, map, take, get_or, length}
use Rattle.std.proofs.lemmas.List.{map_more}
use Rattle.std.specs.Prelude.{find, option_map}
use Rattle.std.specs.Option.{option_or}
use Rattle.std.proofs.lemmas.List.Elements.{filter_map-append}
use Rattle.std.proofs.lemmas.List.Folds.{find-append}
use Rattle.answer_runs.specs.declared.range.Range.{Range}
use Rattle.cover_lists.specs.declared.list_place.Place.{Place}
use Rattle.cover_lists.specs.EntryAddresses.{first_start, has_bytes}
use Rattle.cover_lists.specs.ListPlaces.{located_of}
use Rattle.cover_lists.specs.Located.{Located, ranges_in}

low_or : (x y : Option Range) → option_map (λ (r : Range). r.low) (option_or x y)
    ≡ option_or (option_map (λ (r : Range). r.low) x) (option_map (λ (r : Range). r.low) y)
low_or None y = refl
low_or (Some r) y = refl

pub first_more : (xs ys : List Located) → first_start (ranges_in (xs ++ ys))
    ≡ option_or (first_start (ranges_in xs)) (first_start (ranges_in ys))
first_more xs ys =
    ap first_start (filter_map-append (λ (l : Located). l.range) xs ys)
    ∙ ap (option_map (λ (r : Range). r.low)) (find-append has_bytes (ranges_in xs) (ranges_in ys))
    ∙ low_or (find has_bytes (ranges_in xs)) (find has_bytes (ranges_in ys))

-- One item more.
pub first_step : (xs : List Place) (i : ℕ) (d : Place) (old one new : Option ℕ) → i < length xs →
    old ≡ first_start (ranges_in (map located_of (take i xs))) → one ≡ first_start (ranges_in (located_of (get_or xs i d) ∷ [])) →
    new ≡ option_or old one → new ≡ first_start (ranges_in (map located_of (take (i + 1) xs)))
first_step xs i d old one new h was is made =
    made ∙ (λ j. option_or (was j) (is j))
    ∙ sym (first_more (map located_of (take i xs)) (located_of (get_or xs i d) ∷ []))
    ∙ ap (λ (l : List Located). first_start (ranges_in l)) (sym (map_more located_of xs i d h))
