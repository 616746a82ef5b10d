use Rattle.std.proofs.Common.{◌≡◌, Some}
use Rattle.std.specs.Prelude.{slice_get}
use Rattle.rv_code.specs.layout.ProgramCode.{ProgramCode}
use Rattle.cfg_build.specs.NamedAddresses.{AreEntered}
use Rattle.cfg_build.specs.BlockLists.{AreBlocksBefore}
use Rattle.cfg_build.proofs.PushedBlocks.{Open}
use Rattle.cfg_build.proofs.block_lists.push_blocks.Given as goal

abbrev pub invariant-loop-last : goal.invariant-loop-last
invariant-loop-last l =
    (code : ProgramCode) → slice_get code.funcs l.place ≡ Some l.func → AreEntered code l.entered →
    AreBlocksBefore code l.place 0 l.initial.blocks.items → Open code l.func l.place l.first l.last l.blocks.items
