use Rattle.std.proofs.Common.{take}
use Rattle.elf_plan.specs.FragmentLists.{AreFragments}
use Rattle.elf_plan.proofs.fragments.fragments.Given as goal

abbrev pub invariant-loop-i : goal.invariant-loop-i
invariant-loop-i l = AreFragments l.funcs (take l.i l.map) l.fragments.items
