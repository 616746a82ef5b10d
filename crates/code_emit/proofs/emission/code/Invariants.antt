use Rattle.std.proofs.Common.{ℕ, [], take}
use Rattle.addr_map.specs.Spans.{new}
use Rattle.branch_fixup.specs.Strips.{pieces_of, strips_of}
use Rattle.code_emit.specs.Bytes.{Adds}
use Rattle.code_emit.specs.Inputs.{AreMapped}
use Rattle.code_emit.specs.NewInsts.{made_from}
use Rattle.code_emit.proofs.emission.code.Given as goal

abbrev pub invariant-loop-k : goal.invariant-loop-k
invariant-loop-k l = (base : ℕ) → AreMapped (strips_of l.funcs l.blocks l.order) l.forms base l.moved →
    Adds [] l.code.items
    (made_from (new l.moved) base (pieces_of (take l.k (strips_of l.funcs l.blocks l.order)) (take l.k l.forms)))
