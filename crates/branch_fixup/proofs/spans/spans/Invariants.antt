use Rattle.std.proofs.Common.{◌≡◌, take}
use Rattle.branch_fixup.specs.Pieces.{laid_from, end_from}
use Rattle.branch_fixup.specs.Strips.{strips_of, pieces_of}
use Rattle.branch_fixup.proofs.spans.spans.Given as goal

abbrev pub invariant-loop-k : goal.invariant-loop-k
invariant-loop-k l =
    (l.spans.items ≡ laid_from l.base (pieces_of (take l.k (strips_of l.funcs l.blocks l.order)) (take l.k l.forms)))
    × (l.at ≡ end_from l.base (pieces_of (take l.k (strips_of l.funcs l.blocks l.order)) (take l.k l.forms)))
