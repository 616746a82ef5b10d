use Rattle.std.proofs.Common.{◌≡◌, ◌+◌, length, arith, refl, rules}
use Rattle.elf_image.proofs.ExtentLemmas.{IsReach-more, no_extent}
use Rattle.elf_image.specs.internal.Extents.{IsReach}
use Rattle.elf_image.proofs.ReachLemmas.{AreReaches-more, AreReaches-growing, IsCovered-from_reaches, IsCovered-to_reaches}
use Rattle.elf_image.proofs.extent.reaches_of.Goals as goal

pub loop-extent-preserved : goal.loop-extent-preserved
loop-extent-preserved c =
    let reach : IsReach c.args.extents.now (c.loop-extent.extent-index + 1) c.max-reach.result =
    IsReach-more c.args.extents.now c.loop-extent.extent-index c.loop-extent.reach _ no_extent c.loop-extent-test.true
    (search rules) c.loop-extent.invariant.reach in
    record {
      reach = reach;
      reaches = AreReaches-more c.args.extents.now _ _ c.loop-extent.extent-index _ _ c.loop-extent-test.true refl reach
          c.in_ok-push.ensures.items c.loop-extent.invariant.reaches;
    }

pub returns-clause-growing : goal.returns-clause-growing
returns-clause-growing c = AreReaches-growing c.args.extents.now _ _ c.loop-extent.invariant.reaches

pub returns-clause-covered : goal.returns-clause-covered
returns-clause-covered c =
    let all : c.loop-extent.extent-index ≡ length c.args.extents.now = omega arith in
    λ a e some. (
      IsCovered-from_reaches c.args.extents.now _ _ a e all c.requires c.loop-extent.invariant.reaches some,
      IsCovered-to_reaches c.args.extents.now _ _ a e all c.loop-extent.invariant.reaches,
    )
