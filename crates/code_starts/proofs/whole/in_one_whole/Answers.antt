use Rattle.std.proofs.Common.{◌≡◌, ◌-◌, refl, false, true, slice_index_or, FitsSigned, arith, rules}
use Rattle.std.specs.Int.{w128}
use Rattle.std.proofs.lemmas.Int.{to_z-of_z}
use Rattle.std.proofs.lemmas.List.Elements.{Contains-get_or}
use Rattle.code_starts.specs.declared.parts.Part.{Part}
use Rattle.code_starts.proofs.WholeLookup.{IsLower, IsInOneWhole-from, IsInOneWhole-part, last_holds_both, none_holds_both}
use Rattle.code_starts.proofs.whole.in_one_whole.Goals as goal

pub returns-then-above-eq0 : goal.returns-then-above-eq0
returns-then-above-eq0 c = λ elf tabled are. (
  (λ wrong. let no : false ≡ true = wrong in absurd (cc)),
  (λ is.
      let fits_to = c.ranges.to in
      let fits_from = c.ranges.from in
      let fits_low : FitsSigned w128 c.lower.result = search rules in
      let lower : IsLower c.lower.result c.args.to c.args.from = simp to_z-of_z at c.lower.ensures.is in
      let (p, listed, holds) = IsInOneWhole-part elf tabled c.args.wholes.now c.args.to c.args.from are is in
      let none = c.if-above-eq0.true in
      absurd (none_holds_both c.args.wholes.now p c.lower.result c.args.to c.args.from lower
      (λ k d within. simp to_z-of_z at (c.count_up_to-above.ensures.above k d (omega arith) within)) listed holds)),
)

pub returns : goal.returns
returns c = λ elf tabled are.
    let wholes = c.args.wholes.now in
    let to = c.args.to in
    let from = c.args.from in
    let count = c.count_up_to-above.result in
    let d : Part = record { start = 0; end = 0 } in
    let x = slice_index_or wholes (count - 1) d in
    let fits_to = c.ranges.to in
    let fits_from = c.ranges.from in
    let fits_low : FitsSigned w128 c.lower.result = search rules in
    let some = c.if-above-eq0.false in
    let bound = c.count_up_to-above.ensures.bound in
    let (says, told) = simp to_z-of_z at c.holds_both.ensures in (
      (λ is. IsInOneWhole-from elf tabled wholes x to from are (Contains-get_or wholes (count - 1) d (omega arith)) (says is)),
      (λ is.
          let (p, listed, holds) = IsInOneWhole-part elf tabled wholes to from are is in
          told (last_holds_both wholes count x p d c.lower.result to from c.requires (simp to_z-of_z at c.lower.ensures.to)
          (simp to_z-of_z at c.lower.ensures.from)
          (simp to_z-of_z at c.lower.ensures.is) (omega arith) bound refl
          (simp to_z-of_z at (c.count_up_to-above.ensures.below (count - 1) d (omega arith)))
          (λ k e late within. simp to_z-of_z at (c.count_up_to-above.ensures.above k e late within)) listed holds)),
    )
