-- A written table has only one weight, so if a weight is within the limit, no other is above it.
use Rattle.std.proofs.Common.{◌≡◌, ℕ, ◌+◌, ◌-◌, ◌*◌, ◌^◌, ◌<◌, List, [], ◌∷◌, length, refl, subst, min, arith}
use Rattle.addr_map.specs.declared.span.Span.{Span}
use Rattle.answer_runs.specs.AnswerRuns.{carried}
use Rattle.answer_runs.specs.Weights.{weight_limit}
use Rattle.answer_runs.proofs.OnlyWeights.{only_weight}
use Rattle.dw_unit.specs.CompUnits.{Unit, units}
use Rattle.line_rewrite.specs.LineAnswers.{LineSaid}
use Rattle.line_rewrite.specs.Tables.{IsLineWeight, LineSections, line_at, row_weight}
use Rattle.range_loc_rewrite.specs.Faults.{ListSections}
use Rattle.range_loc_rewrite.specs.Lists.{locations_kind, ranges_kind}
use Rattle.range_loc_rewrite.specs.Ranges.{Ranged, ranged}
use Rattle.range_loc_rewrite.specs.Weights.{IsListWeight, IsPlacesWeight, IsRangesWeight, IsUnitWeight, covered_by}
use Rattle.range_loc_rewrite.specs.ListWeights.{IsSumOf}
use Rattle.range_loc_rewrite.specs.Weights.{index_weights}
use Rattle.range_loc_rewrite.specs.ListWeights.{expressions_weight, none, more}
use Rattle.addr_rewrite.specs.Aranges.{unit_at}
use Rattle.addr_rewrite.specs.Tables.{IsArangesWeight}

-- There is only one sum, if there is only one weight of each element.
only_sum : {X : Type 0} (Weighs : X → ℕ → Type 0) → ((x : X) (n m : ℕ) → Weighs x n → Weighs x m → n ≡ m) → (xs : List X) (n m : ℕ) →
    IsSumOf Weighs xs n → IsSumOf Weighs xs m → n ≡ m
only_sum Weighs only [] n m none none = refl
only_sum Weighs only (x ∷ xs) n m (more _ _ a b w rest) (more _ _ c d v others) =
    both a b c d (only x a c w v) (only_sum Weighs only xs b d rest others)
  where
    both : (a b c d : ℕ) → a ≡ c → b ≡ d → a + b ≡ c + d
    both a b c d e f = omega (arith, e, f)

total : (n m base a b : ℕ) → n ≡ base + a → m ≡ base + b → a ≡ b → n ≡ m
total n m base a b e f g = omega (arith, e, f, g)

only_ranges : (s : ListSections) (spans : List Span) (n m : ℕ) → IsRangesWeight s spans n → IsRangesWeight s spans m → n ≡ m
only_ranges s spans n m x y =
    total n m (index_weights ranges_kind.index_form s) x.runs y.runs x.sum y.sum
    (only_sum _ (λ (r : Ranged). only_weight (λ _. 0) (carried (covered_by r) spans)) (ranged s) x.runs y.runs x.of_runs y.of_runs)

only_unit : (s : ListSections) (spans : List Span) (u : Unit) (n m : ℕ) → IsUnitWeight s spans u n → IsUnitWeight s spans u m → n ≡ m
only_unit s spans u n m x y =
    only_sum (IsListWeight s spans u) (λ at a b w v. only_weight expressions_weight _ a b w v) _ n m x y

only_places : (s : ListSections) (spans : List Span) (n m : ℕ) → IsPlacesWeight s spans n → IsPlacesWeight s spans m → n ≡ m
only_places s spans n m x y =
    total n m (index_weights locations_kind.index_form s) x.runs y.runs x.sum y.sum
    (only_sum (IsUnitWeight s spans) (only_unit s spans) (units s.units) x.runs y.runs x.of_runs y.of_runs)

only_lines : (t : LineSections) (spans : List Span) (n m : ℕ) → IsLineWeight t spans n → IsLineWeight t spans m → n ≡ m
only_lines t spans n m x y =
    only_weight (λ (said : LineSaid). row_weight * length said.rows) (carried (line_at t) spans) n m x y

only_aranges : (section : List ℕ) (spans : List Span) (n m : ℕ) → IsArangesWeight section spans n → IsArangesWeight section spans m →
    n ≡ m
only_aranges section spans n m x y = only_weight (λ _. 0) (carried (unit_at section) spans) n m x y

-- A weight that was found, saturated at 64 bits.
abbrev pub IsFound : (ℕ → Type 0) → ℕ → Type 0
IsFound Weighs found = (weight : ℕ) × Weighs weight × (found ≡ min weight (2 ^ 64 - 1))

pub found_over : (weight found : ℕ) → found ≡ min weight (2 ^ 64 - 1) → weight_limit < found → weight_limit < weight
found_over weight found e over = omega (arith, e, over)

pub found_within : (weight found : ℕ) → found ≡ min weight (2 ^ 64 - 1) → (weight_limit < found → ⊥) → weight_limit < weight → ⊥
found_within weight found e within over = within (omega (arith, e, over))

-- A weight above the limit.
pub heavy : (Weighs : ℕ → Type 0) (found : ℕ) → IsFound Weighs found → weight_limit < found →
    (n : ℕ) × Weighs n × (weight_limit < n)
heavy Weighs found is over = (is.0, is.1, found_over is.0 found is.2 over)

light : (Weighs : ℕ → Type 0) → ((n m : ℕ) → Weighs n → Weighs m → n ≡ m) → (found : ℕ) → IsFound Weighs found →
    (weight_limit < found → ⊥) → (n : ℕ) → Weighs n → weight_limit < n → ⊥
light Weighs only found is within n w over =
    found_within is.0 found is.2 within (subst (λ (m : ℕ). weight_limit < m) (only n is.0 w is.1) over)

pub lines_light : (t : LineSections) (spans : List Span) (found : ℕ) → IsFound (IsLineWeight t spans) found →
    (weight_limit < found → ⊥) → (n : ℕ) → IsLineWeight t spans n → weight_limit < n → ⊥
lines_light t spans = light (IsLineWeight t spans) (only_lines t spans)

pub ranges_light : (t : ListSections) (spans : List Span) (found : ℕ) → IsFound (IsRangesWeight t spans) found →
    (weight_limit < found → ⊥) → (n : ℕ) → IsRangesWeight t spans n → weight_limit < n → ⊥
ranges_light t spans = light (IsRangesWeight t spans) (only_ranges t spans)

pub places_light : (t : ListSections) (spans : List Span) (found : ℕ) → IsFound (IsPlacesWeight t spans) found →
    (weight_limit < found → ⊥) → (n : ℕ) → IsPlacesWeight t spans n → weight_limit < n → ⊥
places_light t spans = light (IsPlacesWeight t spans) (only_places t spans)

pub aranges_light : (section : List ℕ) (spans : List Span) (found : ℕ) → IsFound (IsArangesWeight section spans) found →
    (weight_limit < found → ⊥) → (n : ℕ) → IsArangesWeight section spans n → weight_limit < n → ⊥
aranges_light section spans = light (IsArangesWeight section spans) (only_aranges section spans)
