use Rattle.std.proofs.Common.{◌≡◌, ◌+◌, subst, ℕ, arith}
use Rattle.flow_infer.specs.Sources.{AreLinksUpto}
use Rattle.flow_infer.proofs.LinkLists.{all_upto, ways_in_done}
use Rattle.flow_infer.proofs.links.function_links.Goals as goal

pub loop-block-init : goal.loop-block-init
loop-block-init c = (
  omega arith,
  let some = c.requires.function.some in omega arith,
  c.in_ok-links.ensures.among,
  c.in_ok-links.ensures.counted,
  ways_in_done c.args.source.now c.args.first c.args.end c.requires.function _ c.in_ok-links.ensures.links,
)

pub loop-block-preserved : goal.loop-block-preserved
loop-block-preserved c =
    let first = c.args.first in
    let end = c.args.end in
    let (from, to, among, counted, upto) = c.loop-block.invariant in
    let within = c.loop-block-test.true in
    let ensures = c.in_ok-push_ways_from.ensures in (
      omega arith,
      omega arith,
      ensures.among first end c.requires.function from within among,
      ensures.counted counted,
      ensures.links first end c.requires.function from within upto,
    )

pub returns-clause-links : goal.returns-clause-links
returns-clause-links c =
    let (from, to, among, counted, upto) = c.loop-block.invariant in
    let done = c.loop-block-test.false in
    let last : c.loop-block.block ≡ c.args.end = omega arith in
    all_upto c.args.source.now c.args.first c.args.end c.requires.function _
    (subst (λ (b : ℕ). AreLinksUpto c.args.source.now c.args.first c.args.end (b + 1) 0 c.loop-block.links.items) last upto)
