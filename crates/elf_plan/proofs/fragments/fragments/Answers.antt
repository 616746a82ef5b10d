use Rattle.std.proofs.Common.{◌≡◌, subst, sym, rules, Some, List, take, arith}
use Rattle.std.proofs.lemmas.Grind.{common_steps}
use Rattle.std.specs.Prelude.{slice_get}
use Rattle.addr_map.specs.declared.span.Span.{Span}
use Rattle.elf_plan.specs.FragmentLists.{AreFragments}
use Rattle.elf_plan.proofs.FragmentLists.{taken}
use Rattle.elf_plan.proofs.fragments.fragments.Goals as goal

pub loop-i-preserved : goal.loop-i-preserved
loop-i-preserved c =
    let spans = c.args.map.now in
    let i = c.loop-i.i in
    let is : slice_get spans i ≡ Some c.in_ok-span.span = search rules in
    subst (λ (xs : List Span). AreFragments c.args.funcs.now xs c.add_span.new.fragments.items)
    (sym (taken spans i c.in_ok-span.span is))
    (c.in_ok-add_span.ensures (take i spans) c.loop-i.invariant)

pub returns : goal.returns
returns c = grind (arith, common_steps)
