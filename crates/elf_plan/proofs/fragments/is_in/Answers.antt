use Rattle.std.proofs.Common.{◌≡◌, ◌∙◌, sym, subst, true, arith}
use Rattle.rv_code.specs.declared.placed.Func.{Func}
use Rattle.rv_code.specs.layout.FunctionMembers.{func_holds}
use Rattle.elf_plan.proofs.FragmentLists.{function_held}
use Rattle.elf_plan.proofs.fragments.is_in.Goals as goal

pub returns : goal.returns
returns c = λ holds.
    let func = c.index-funcs-index.result in
    function_held c.args.funcs.now c.args.address c.args.index func c.requires (omega (arith, c.if-funcs-index.false))
    (subst (λ (f : Func). func_holds c.args.address f ≡ true) c.index-funcs-index.is (sym c.func_holds.ensures ∙ holds))
