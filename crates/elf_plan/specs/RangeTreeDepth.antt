-- Each side of a fork has fewer ranges than the fork.
use Rattle.std.specs.Prelude.{◌≤◌, max, ◌∷◌, length}
use Rattle.std.proofs.Common.{arith, length-append}
use Rattle.elf_plan.specs.declared.range_tree.Node.{Node}
use Rattle.elf_plan.specs.declared.range_tree.Node.TheVariants.{Leaf, Fork}
use Rattle.elf_plan.specs.declared.range_tree.RangeTree.TheDeep.{deep-Node}
use Rattle.elf_plan.specs.RangeTree.{ranges_of}

-- The depth of a node is at most its number of ranges.
pub depth_le-length : (n : Node) → max (deep-Node n) 0 ≤ length (ranges_of n)
depth_le-length Leaf = omega arith
depth_le-length (Fork before range behind reaches) = omega (arith, length-append before.value (range ∷ behind.value))
