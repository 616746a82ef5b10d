use Rattle.branch_fixup.specs.Ends.{AreEnds}
use Rattle.branch_fixup.specs.Strips.{strips_of}
use Rattle.branch_fixup.proofs.ends.ends.Given as goal

abbrev pub invariant-loop-k : goal.invariant-loop-k
invariant-loop-k l = AreEnds (strips_of l.funcs l.blocks l.order) l.k l.block_ends.items l.forms.items
