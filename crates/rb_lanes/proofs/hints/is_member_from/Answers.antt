use Rattle.std.proofs.Common.{◌≡◌, true, false, ◌∙◌, ℕ, ◌<◌, ◌≤◌, ⊎_elim, List, length, slice_index_or, AllPairs, arith, ap, sym}
use Rattle.std.specs.List.{Contains}
use Rattle.std.proofs.lemmas.Bool.{cases_lt, eqb-true, eq-eqb}
use Rattle.std.proofs.lemmas.List.{get_or_default}
use Rattle.rb_lanes.proofs.hints.is_member_from.Goals as goal

module _ (xs : List ℕ) (n a : ℕ) (up : AllPairs (λ a b. a < b) xs)
    (below : (k d : ℕ) → k < n → slice_index_or xs k d < a)
    (above : (k d : ℕ) → n ≤ k → k < length xs → a ≤ slice_index_or xs k d) where
  late : (k : ℕ) → slice_index_or xs k a ≡ a → n ≤ k
  late k there =
      ⊎_elim (λ (less : k < n). let low = below k a less in absurd (omega arith)) (λ (more : n ≤ k). more) (cases_lt k n)

  none : n ≡ length xs → Contains xs a → ⊥
  none all (k, within, there) = let from = late k there in omega arith

  first : (k : ℕ) → k < length xs → slice_index_or xs k a ≡ a → slice_index_or xs n a ≡ a
  first k within there =
      let from = late k there in
      ⊎_elim
      (λ (after : n < k).
      let less : slice_index_or xs n a < slice_index_or xs k a = up n k a after within in
      let high : a ≤ slice_index_or xs n a = above n a (omega arith) (omega arith) in
      absurd (omega arith))
      (λ (same : k ≤ n). let is : k ≡ n = omega arith in ap (λ (i : ℕ). slice_index_or xs i a) (sym is) ∙ there)
      (cases_lt n k)

pub returns-then-below-members : goal.returns-then-below-members
returns-then-below-members c = (
  λ wrong. let no : false ≡ true = wrong in absurd (cc),
  λ has. absurd (none c.args.members.now c.count_below-below.result c.args.x c.requires c.count_below-below.ensures.below
      c.count_below-below.ensures.above c.if-below-members.true has),
)

pub returns : goal.returns
returns c =
    let xs = c.args.members.now in
    let n = c.count_below-below.result in
    let within : n < length xs = omega (arith, c.count_below-below.ensures.bound, c.if-below-members.false) in (
      λ is. (n, within, get_or_default xs n c.args.x 0 within ∙ eqb-true _ _ is),
      λ (k, inside, there).
          let here = first xs n c.args.x c.requires c.count_below-below.ensures.below c.count_below-below.ensures.above k
          inside there in
          eq-eqb _ _ (get_or_default xs n 0 c.args.x within ∙ here),
    )
