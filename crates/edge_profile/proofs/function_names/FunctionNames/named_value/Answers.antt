use Rattle.std.proofs.Common.{sym}
use Rattle.edge_profile.proofs.function_names.FunctionNames.named_value.Goals as goal

pub returns-in-Some : goal.returns-in-Some
returns-in-Some c = λ symbols are. are.values_are c.args.name.now c.in-Some.value.now (sym c.in-Some.ensures.value)
