use Rattle.std.proofs.Common.{◌≡◌, ◌∙◌, sym, ap, ℕ, ◌<◌, ◌≤◌, ℤ, pos, subst, List, false, true, FitsSigned, to_z, of_z, rules}
use Rattle.std.proofs.Common.{arith, length, slice_index_or, eq-eqb}
use Rattle.std.specs.Int.{w128}
use Rattle.std.specs.List.{Contains, AllPairs}
use Rattle.std.proofs.lemmas.Bool.{eqb-true}
use Rattle.std.proofs.lemmas.Int.{to_z-of_z}
use Rattle.std.proofs.lemmas.List.{get_or_default}
use Rattle.rv_reloc.specs.declared.slots.SlotLabel.{SlotLabel}
use Rattle.rv_reloc.specs.Slots.{IsLabelBelow, IsLabelFrom}
use Rattle.rv_reloc.proofs.LabelOrder.{listed-first}
use Rattle.rv_reloc.proofs.slots.has_label.Goals as goal
use Rattle.rb_bytes.proofs.Tests.{antisym}

-- A default for indices past the end.
abbrev no_label : SlotLabel
no_label = record { place = 0; label = pos 0 }

-- The index of a listed label, from the result of a search for its number.
found : (items : List SlotLabel) (place : ℕ) (label z : ℤ) (n : ℕ) → z ≡ label →
    AllPairs (λ s t. IsLabelFrom s.place s.label t) items →
    n ≤ length items → ((k : ℕ) (d : SlotLabel) → k < n → IsLabelBelow place z (slice_index_or items k d)) →
    ((k : ℕ) (d : SlotLabel) → n ≤ k → k < length items → IsLabelFrom place z (slice_index_or items k d)) →
    Contains items (record { place = place; label = label }) →
    (n < length items) × ((slice_index_or items n no_label).place ≡ place)
    × ((slice_index_or items n no_label).label ≡ label)
found items place label z n same ordered bound below above listed =
    let target : SlotLabel = record { place = place; label = label } in
    let (inside, at, low, high) = listed-first items place label n ordered bound
    (subst (λ (y : ℤ). (k : ℕ) (d : SlotLabel) → k < n → IsLabelBelow place y (slice_index_or items k d)) same below)
    (subst
    (λ (y : ℤ). (k : ℕ) (d : SlotLabel) → n ≤ k → k < length items → IsLabelFrom place y (slice_index_or items k d)) same above)
    listed in
    let default = get_or_default items n no_label target inside in
    (inside, ap (λ (s : SlotLabel). s.place) default ∙ at, ap (λ (s : SlotLabel). s.label) default ∙ antisym _ _ low high)

pub returns : goal.returns
returns c =
    let items = c.args.labels.now in
    let n = c.count_below-index.result in
    let target : SlotLabel = record { place = c.args.place; label = c.args.label } in
    let bound = c.count_below-index.ensures.bound in
    let other = c.if-index-labels.false in
    let inside : n < length items = omega arith in
    let wanted : FitsSigned w128 c.args.label = search rules in
    let read : FitsSigned w128 (slice_index_or items n no_label).label = search rules in (
      λ is.
          let same = sym (to_z-of_z w128 _ read) ∙ ap (to_z w128) (eqb-true _ _ is) ∙ to_z-of_z w128 _ wanted in
          let place = c.if-found-place.false in
          (n, inside, get_or_default items n target no_label inside ∙ (λ i. record { place = place i; label = same i })),
      λ listed.
          let (_, place, same) =
          found items c.args.place c.args.label _ n
          (to_z-of_z w128 _ wanted) c.requires bound c.count_below-index.ensures.below c.count_below-index.ensures.above listed in
          eq-eqb _ _ (ap (of_z w128) same),
    )

pub returns-then-found-place : goal.returns-then-found-place
returns-then-found-place c = (
  λ is. let e : false ≡ true = is in absurd (cc),
  λ listed.
      let items = c.args.labels.now in
      let n = c.count_below-index.result in
      let target : SlotLabel = record { place = c.args.place; label = c.args.label } in
      let wanted : FitsSigned w128 c.args.label = search rules in
      let (inside, place, same) =
      found items c.args.place c.args.label _ n
      (to_z-of_z w128 _ wanted) c.requires c.count_below-index.ensures.bound c.count_below-index.ensures.below
      c.count_below-index.ensures.above listed in
      absurd (c.if-found-place.true place),
)
