use Rattle.func_find.specs.InstLists.{invalid}
use Rattle.func_find.proofs.PlacedAt.{placed_role, placed_plain, fault_bare}
use Rattle.func_find.proofs.inst_lists.placed_at.Goals as goal

pub returns-then-is_full_auipc-clause-fault : goal.returns-then-is_full_auipc-clause-fault
returns-then-is_full_auipc-clause-fault c =
    fault_bare c.args.elf.now c.args.end c.args.address c.args.roles.now c.in-Some.found c.at.result c.requires.roles
    c.in-Some.ensures.there c.in-None-role_at.ensures.none (c.is_full_auipc.ensures.0 c.if-is_full_auipc.true) c.at.ensures

pub returns-in-Some-role_at-clause-placed : goal.returns-in-Some-role_at-clause-placed
returns-in-Some-role_at-clause-placed c =
    placed_role c.args.elf.now c.args.end c.args.address c.args.roles.now c.in-Some.found c.in-Some-role_at.role c.requires.roles
    c.in-Some.ensures.there c.in-Some.ensures.only c.in-Some-role_at.ensures.some

pub returns-else-is_full_auipc-clause-placed : goal.returns-else-is_full_auipc-clause-placed
returns-else-is_full_auipc-clause-placed c =
    placed_plain c.args.elf.now c.args.end c.args.address c.args.roles.now c.in-Some.found c.is_full_auipc.result c.requires.roles
    c.in-Some.ensures.there c.in-Some.ensures.only c.in-None-role_at.ensures.none c.is_full_auipc.ensures c.if-is_full_auipc.false

pub returns-in-None-clause-fault : goal.returns-in-None-clause-fault
returns-in-None-clause-fault c =
    invalid c.at-in-None.ensures (λ inst bytes valid. let none = c.in-None.ensures.only inst bytes valid in absurd (cc))
