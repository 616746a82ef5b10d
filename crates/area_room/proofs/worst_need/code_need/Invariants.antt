use Rattle.std.proofs.Common.{◌≡◌, take}
use Rattle.std.specs.Prelude.{sum_by}
use Rattle.rv_code.specs.layout.WorstSizes.{worst_size_of_block}
use Rattle.file_room.specs.Numbers.{capped}
use Rattle.area_room.proofs.worst_need.code_need.Given as goal

abbrev pub invariant-loop-block : goal.invariant-loop-block
invariant-loop-block l = l.sum ≡ capped (sum_by (worst_size_of_block l.funcs) (take l.block-index l.blocks))
