use Rattle.std.proofs.Common.{take}
use Rattle.func_find.specs.InstLists.{AreFunctionsOf}
use Rattle.func_find.proofs.inst_lists.functions_of.Given as goal

abbrev pub invariant-loop-part : goal.invariant-loop-part
invariant-loop-part l = AreFunctionsOf l.elf l.wholes (take l.part-index l.parts) l.funcs.items
