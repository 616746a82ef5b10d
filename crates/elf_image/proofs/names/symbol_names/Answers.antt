use Rattle.std.proofs.Common.{arith}
use Rattle.elf_image.proofs.names.symbol_names.Goals as goal

pub returns-then-not-has_contents-2-clause-none : goal.returns-then-not-has_contents-2-clause-none
returns-then-not-has_contents-2-clause-none c = grind arith

pub returns-clause-found : goal.returns-clause-found
returns-clause-found c = grind arith
