use Rattle.sym_machine.proofs.Functions.{searchable}
use Rattle.sym_machine.proofs.inst_index.InstIndex.new.Goals as goal

pub invariant_of-result : goal.invariant_of-result
invariant_of-result c = record { searchable = searchable c.args.funcs.now c.requires }
