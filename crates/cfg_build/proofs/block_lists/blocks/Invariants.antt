use Rattle.cfg_build.specs.NamedAddresses.{code_of}
use Rattle.cfg_build.specs.BlockLists.{AreBlocksBefore}
use Rattle.cfg_build.proofs.block_lists.blocks.Given as goal

abbrev pub invariant-loop-place : goal.invariant-loop-place
invariant-loop-place l = AreBlocksBefore (code_of l.funcs l.refs l.entry) l.place 0 l.blocks.items
