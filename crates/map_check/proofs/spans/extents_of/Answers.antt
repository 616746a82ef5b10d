use Rattle.std.proofs.Common.{refl, sym, ap, subst, List, ◌+◌}
use Rattle.elf_image.specs.declared.extent.Extent.{Extent}
use Rattle.map_check.specs.internal.SpanLists.{AreExtentsOf}
use Rattle.map_check.proofs.Extents.{extents_skip, extents_push}
use Rattle.map_check.proofs.spans.extents_of.Goals as goal
use Rattle.map_check.proofs.spans.extents_of.Goals.{then-span-gt0+in_ok-push, else-span-gt0}

pub loop-k-preserved : goal.loop-k-preserved
loop-k-preserved c =
    elim c.if-span-gt0.branch [
      | then-span-gt0+in_ok-push w ↦ subst (λ (v : List Extent). AreExtentsOf c.args.spans.now (c.loop-k.k + 1) v)
          (sym (ap (λ v. v.items) w.extents-is))
          (extents_push c.args.spans.now c.loop-k.k c.loop-k.extents.items _ _ w.if-span-gt0.true refl w.in_ok-push.ensures.items
          c.loop-k.invariant)
      | else-span-gt0 w ↦ subst (λ (v : List Extent). AreExtentsOf c.args.spans.now (c.loop-k.k + 1) v)
          (sym (ap (λ v. v.items) w.extents-is))
          (extents_skip c.args.spans.now c.loop-k.k c.loop-k.extents.items w.if-span-gt0.false c.loop-k.invariant)
    ]
