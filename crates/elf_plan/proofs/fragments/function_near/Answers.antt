use Rattle.std.proofs.Common.{sym}
use Rattle.elf_plan.proofs.fragments.function_near.Goals as goal

pub returns-then-is_in : goal.returns-then-is_in
returns-then-is_in c = sym (c.is_in.ensures c.if-is_in.true)
