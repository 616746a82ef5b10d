use Rattle.std.proofs.Common.{◌≡◌, refl, rules, Some}
use Rattle.rv_code.specs.layout.FunctionMembers.{function_at}
use Rattle.elf_plan.proofs.FragmentLists.{fragments-more, fragments-skipped}
use Rattle.elf_plan.proofs.fragments.add_span.Goals as goal

pub returns-then-span-eq0 : goal.returns-then-span-eq0
returns-then-span-eq0 c = λ spans are.
    fragments-skipped c.args.funcs.now spans c.args.span.now c.args.fragments.now.items c.if-span-eq0.true are

pub returns : goal.returns
returns c = λ spans are.
    let is : function_at c.args.funcs.now c.args.span.now.input ≡ Some c.in_ok-func.func = search rules in
    fragments-more c.args.funcs.now spans c.args.span.now c.args.fragments.now.items c.add_fragment.new.fragments.items
    (record { start = c.args.span.now.out; end = c.in_ok-end.end; func = c.in_ok-func.func }) is refl c.in_ok-end.ensures
    c.in_ok-add_fragment.ensures are
