use Rattle.std.proofs.Common.{◌∙◌, subst, sym, List}
use Rattle.std.proofs.lemmas.Result.{IfOk-weaker}
use Rattle.elf_image.specs.declared.extent.Extent.{Extent}
use Rattle.elf_plan.specs.Homes.{AreExtents}
use Rattle.elf_plan.proofs.FirstHomes.{homes-are}
use Rattle.elf_plan.proofs.homes.homes_of.Goals as goal

pub returns : goal.returns
returns c = IfOk-weaker c.all_first.result _ _ (λ homes are.
    homes-are c.args.segments.now c.args.sections.now c.args.contents.now _ _
    (subst (λ (es : List Extent). AreExtents c.args.sections.now c.args.contents.now es)
    (sym (c.in_ok-tree.ensures ∙ c.deref.ensures.value)) c.in_ok-extents.ensures)
    c.in_ok-loaded.ensures.bytes _ are) c.all_first.ensures
