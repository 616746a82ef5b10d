use Rattle.std.proofs.Common.{rules, FitsSigned}
use Rattle.std.specs.Int.{w128}
use Rattle.std.proofs.lemmas.Int.{to_z-of_z}
use Rattle.rv_reloc.proofs.CodeLabels.{code-found, code-missing}
use Rattle.rv_reloc.proofs.labels.is_code_label.Goals as goal

pub returns-in-Ok : goal.returns-in-Ok
returns-in-Ok c =
    let fits : FitsSigned w128 c.args.label = search rules in
    code-found c.args.elf.now c.args.starts.now c.args.label _ c.in-Ok.address c.has.result c.requires
    (to_z-of_z w128 c.args.label fits) c.in-Ok.ensures.0.0 c.in-Ok.ensures.1 c.has.ensures

pub returns-in-Err : goal.returns-in-Err
returns-in-Err c =
    let fits : FitsSigned w128 c.args.label = search rules in
    code-missing c.args.elf.now c.args.starts.now c.args.label _ c.requires
    (to_z-of_z w128 c.args.label fits) c.list-list.ensures.low c.in-Err.ensures
