use Rattle.std.proofs.Common.{◌≡◌, ◌++◌, map, take}
use Rattle.branch_fixup.specs.Pieces.{as_it_is, laid_from, end_from}
use Rattle.branch_fixup.proofs.spans.put_inner.Given as goal

abbrev pub invariant-loop-inst : goal.invariant-loop-inst
invariant-loop-inst l = (l.spans.items ≡ l.initial.spans.items ++ laid_from l.fn.at (map as_it_is (take l.inst-index l.insts)))
    × (l.at ≡ end_from l.fn.at (map as_it_is (take l.inst-index l.insts)))
