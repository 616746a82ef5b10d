use Rattle.std.proofs.Common.{ap, subst, ◌<◌, Contains, arith}
use Rattle.std.proofs.lemmas.List.Elements.{All-contains}
use Rattle.std.proofs.lemmas.Option.{same_Some}
use Rattle.code_starts.specs.declared.parts.Part.{Part}
use Rattle.code_starts.specs.Parts.{HoldsAddress}
use Rattle.func_find.proofs.inst_lists.is_whole.Goals as goal

pub returns-in-Some : goal.returns-in-Some
returns-in-Some c =
    let part = c.args.part.now in
    let whole = c.in-Some.whole in (
      (λ is.
          let (starts, ends) = c.is_same.ensures.0 is in
          subst (Contains c.args.wholes.now) (λ i. record { start = starts i; end = ends i }) c.in-Some.ensures.holds.listed),
      (λ listed.
          let bytes : part.start < part.end =
          All-contains (λ (p : Part). p.start < p.end) c.args.wholes.now part c.requires.has_bytes listed in
          let holds : HoldsAddress c.args.wholes.now part.start part =
          record { listed = listed; above = omega arith; below = bytes } in
          let same = same_Some whole part (c.in-Some.ensures.only part holds) in
          c.is_same.ensures.1 (ap (λ (p : Part). p.start) same, ap (λ (p : Part). p.end) same)),
    )
