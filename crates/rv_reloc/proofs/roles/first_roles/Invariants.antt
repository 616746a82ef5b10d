use Rattle.rv_code.specs.layout.Lists.{ListsAll}
use Rattle.rv_reloc.proofs.FirstRoles.{IsFirstBelow, IsBefore}
use Rattle.rv_reloc.proofs.roles.first_roles.Given as goal

abbrev pub invariant-loop-index : goal.invariant-loop-index
invariant-loop-index l = ListsAll (IsFirstBelow l.claims l.index) IsBefore l.roles.items
