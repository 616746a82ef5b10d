use Rattle.std.proofs.Common.{◌∙◌, ap, sym, subst, List}
use Rattle.std.specs.Prelude.{find}
use Rattle.elf_image.specs.declared.extent.Extent.{Extent}
use Rattle.elf_image.specs.internal.Extents.{IsInOneExtent}
use Rattle.elf_plan.specs.RangeTree.{HasReaches, IsReachOf, covers, ranges_of}
use Rattle.elf_plan.proofs.FirstRange.{first-before, first-here, first-behind, not-covered}
use Rattle.elf_plan.proofs.range_tree.RangeTree.+first.Goals as goal

pub returns-then-is_covered : goal.returns-then-is_covered
returns-then-is_covered t c =
    let test = covers c.args.start c.args.end in
    let are : IsReachOf c.in-Fork.reaches.items c.in-Fork.before.value = subst HasReaches c.in-Fork.is c.self.invariant in
    c.first.ensures ∙ ap (find test) c.deref-then-is_covered.ensures
    ∙ sym (first-before c.args.start c.args.end _ _ c.in-Fork.range c.in-Fork.behind.value are c.requires
    (subst (λ (xs : List Extent). IsInOneExtent xs c.args.start c.args.end) c.deref.ensures.value
    (c.is_covered.ensures.0 c.if-is_covered.true)))
    ∙ ap (find test) (sym (ap ranges_of c.in-Fork.is)) ∙ ap (find test) c.self.view_is

pub returns-then-covers : goal.returns-then-covers
returns-then-covers t c =
    let test = covers c.args.start c.args.end in
    let are : IsReachOf c.in-Fork.reaches.items c.in-Fork.before.value = subst HasReaches c.in-Fork.is c.self.invariant in
    sym (first-here c.args.start c.args.end _ _ c.in-Fork.range c.in-Fork.behind.value are c.requires
    (not-covered _ _ c.args.start c.args.end _ c.deref.ensures.value c.is_covered.ensures.1 c.if-is_covered.false)
    (sym c.covers.ensures ∙ c.if-covers.true))
    ∙ ap (find test) (sym (ap ranges_of c.in-Fork.is)) ∙ ap (find test) c.self.view_is

pub returns-else-covers : goal.returns-else-covers
returns-else-covers t c =
    let test = covers c.args.start c.args.end in
    let are : IsReachOf c.in-Fork.reaches.items c.in-Fork.before.value = subst HasReaches c.in-Fork.is c.self.invariant in
    c.first-else-covers.ensures ∙ ap (find test) c.deref-else-covers.ensures
    ∙ sym (first-behind c.args.start c.args.end _ _ c.in-Fork.range c.in-Fork.behind.value are c.requires
    (not-covered _ _ c.args.start c.args.end _ c.deref.ensures.value c.is_covered.ensures.1 c.if-is_covered.false)
    (sym c.covers.ensures ∙ c.if-covers.false))
    ∙ ap (find test) (sym (ap ranges_of c.in-Fork.is)) ∙ ap (find test) c.self.view_is
