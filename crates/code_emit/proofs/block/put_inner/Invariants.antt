use Rattle.std.proofs.Common.{◌≡◌, take}
use Rattle.std.specs.Prelude.{map}
use Rattle.addr_map.specs.Spans.{new}
use Rattle.branch_fixup.specs.Pieces.{as_it_is, end_from}
use Rattle.code_emit.specs.NewInsts.{made_from}
use Rattle.code_emit.specs.Bytes.{Adds}
use Rattle.code_emit.proofs.block.put_inner.Given as goal

abbrev pub invariant-loop-inst : goal.invariant-loop-inst
invariant-loop-inst l =
    Adds l.initial.code.items l.code.items (made_from (new l.moved) l.fn.at (map as_it_is (take l.inst-index l.insts)))
    × (l.at ≡ end_from l.fn.at (map as_it_is (take l.inst-index l.insts)))
