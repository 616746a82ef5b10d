use Rattle.std.proofs.Common.{sym, ap, ◌∙◌}
use Rattle.std.specs.Prelude.{option_map}
use Rattle.rv_code.specs.declared.placed.Func.{Func}
use Rattle.rv_code.specs.layout.FunctionMembers.{func_holds}
use Rattle.elf_plan.proofs.Positions.{find-from_position, find-no_position}
use Rattle.elf_plan.proofs.fragments.start_around.Goals as goal

pub returns : goal.returns
returns c =
    c.function_start.ensures
    ∙ ap (option_map (λ (f : Func). f.start)) (sym (find-from_position
    (func_holds c.args.address) c.args.funcs.now c.in_ok-func.func (sym c.function_at.ensures ∙ c.in_ok-func.was)))

pub returns-in_err-func : goal.returns-in_err-func
returns-in_err-func c =
    rw c.from_residual.ensures (ap (option_map (λ (f : Func). f.start)) (sym (find-no_position (func_holds c.args.address) c.args.funcs.now
    (sym c.function_at.ensures ∙ c.in_err-func.was))))
