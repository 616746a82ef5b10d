use Rattle.std.proofs.Common.{◌∙◌}
use Rattle.sym_machine.proofs.Functions.{code_address_is}
use Rattle.sym_machine.proofs.inst_index.InstIndex.is_code_address.Goals as goal

pub returns : goal.returns
returns c = c.is_some.ensures ∙ code_address_is c.args.self.now.funcs.now c.args.self.now.searchable c.args.address c.place.result
    c.place.ensures.found c.place.ensures.none
