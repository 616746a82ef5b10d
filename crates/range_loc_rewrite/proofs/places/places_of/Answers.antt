use Rattle.std.proofs.Common.{◌≡◌, ◌∙◌, ◌++◌, [], refl, ℕ, List, Option, Some, None, ap}
use Rattle.std.specs.List.{cons_option}
use Rattle.std.specs.Option.{option_to_list}
use Rattle.cover_lists.specs.CoverIndex.{place_at}
use Rattle.cover_lists.proofs.ByNumbers.{picked_more}
use Rattle.range_loc_rewrite.proofs.places.places_of.Goals as goal

one : (o : Option ℕ) → option_to_list o ≡ cons_option o []
one (Some place) = refl
one None = refl

pub loop-number-preserved : goal.loop-number-preserved
loop-number-preserved c =
    picked_more (place_at c.args.ranged.now) c.args.numbers.now c.loop-number.number-index _ c.loop-number.places.items
    c.push_some.new.list.items
    c.loop-number-test.true c.loop-number.invariant
    (c.in_ok-push_some.ensures.is ∙ ap (λ (ps : List ℕ). c.loop-number.places.items ++ ps) (one c.place_at.result)
    ∙ ap (λ (o : Option ℕ). c.loop-number.places.items ++ cons_option o []) c.place_at.ensures)
