use Rattle.std.proofs.Common.{◌≡◌, ◌≤◌, ◌<◌, ℕ, false, arith, nat_cmp}
use Rattle.std.specs.Ordering.{is_gt}
use Rattle.std.specs.declared.cmp.Ordering.TheVariants.{Less}
use Rattle.std.proofs.lemmas.Grind.{common_steps}
use Rattle.inline_frames.proofs.holding.has_place.Goals as goal

not_greater : (a b : ℕ) → a ≤ b → is_gt (nat_cmp a b) ≡ false
not_greater a b h = grind (arith, common_steps)

less : (a b : ℕ) → a < b → nat_cmp a b ≡ Less
less a b h = grind (arith, common_steps)

pub range-requires : goal.range-requires
range-requires c =
    let start = c.start_of-start.ensures in
    let end = c.end_of-end.ensures in
    not_greater c.start_of-start.result c.end_of-end.result (omega arith)

pub returns-in-None : goal.returns-in-None
returns-in-None c = λ e q low high.
    let start = c.start_of-start.ensures in
    let end = c.end_of-end.ensures in
    (c.range.ensures.in_range tt).5 c.in-None.ensures.steps.0 q (
      not_greater c.start_of-start.result q (omega arith),
      less q c.end_of-end.result (omega arith),
    )
