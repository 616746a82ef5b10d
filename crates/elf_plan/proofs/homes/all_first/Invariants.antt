use Rattle.std.proofs.Common.{◌≡◌, take}
use Rattle.std.specs.Prelude.{map}
use Rattle.elf_plan.specs.Homes.{first_for}
use Rattle.elf_plan.proofs.homes.all_first.Given as goal

abbrev pub invariant-loop-p : goal.invariant-loop-p
invariant-loop-p l = l.homes.items ≡ map (first_for l.loaded.sorted.items l.extents) (take l.p-index l.segments)
