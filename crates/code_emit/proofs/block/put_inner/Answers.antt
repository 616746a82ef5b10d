use Rattle.std.proofs.Common.{◌+◌, ◌∙◌, ℕ, get_or, arith, sym, subst}
use Rattle.rv_code.specs.declared.layout.Form.TheVariants as form
use Rattle.addr_map.specs.Spans.{new}
use Rattle.branch_fixup.proofs.Appended.{no_inst, end_more, end_part}
use Rattle.code_emit.specs.NewInsts.{made}
use Rattle.code_emit.specs.Bytes.{AllCanBeEncoded}
use Rattle.code_emit.proofs.Parts.{inner_at, inner_can, inner_more}
use Rattle.code_emit.proofs.block.put_inner.Goals as goal

pub put_piece-requires-clause-here : goal.put_piece-requires-clause-here
put_piece-requires-clause-here c =
    c.loop-inst.invariant.1
    ∙ sym (inner_at (new c.args.moved.now) c.args.at c.args.insts.now c.loop-inst.inst-index no_inst (omega arith)
    c.requires.placed)

pub put_piece-requires-clause-can : goal.put_piece-requires-clause-can
put_piece-requires-clause-can c =
    subst (λ (n : ℕ). AllCanBeEncoded
    (made (new c.args.moved.now) n (get_or c.args.insts.now c.loop-inst.inst-index no_inst) form.Plain))
    (sym c.loop-inst.invariant.1)
    (inner_can (new c.args.moved.now) c.args.at c.args.insts.now c.loop-inst.inst-index no_inst (omega arith) c.requires.can)

pub put_piece-requires-clause-low : goal.put_piece-requires-clause-low
put_piece-requires-clause-low c =
    let here = c.loop-inst.invariant.1 in
    let part = end_part c.args.at c.args.insts.now c.loop-inst.inst-index in
    let low = c.requires.low in
    omega (arith, here, part, low)

pub overflow_add-at : goal.overflow_add-at
overflow_add-at c =
    let within = c.loop-inst-test.true in
    let more = end_more c.args.at c.loop-inst.at c.args.insts.now c.loop-inst.inst-index no_inst
    (omega arith) c.loop-inst.invariant.1 in
    let part = end_part c.args.at c.args.insts.now (c.loop-inst.inst-index + 1) in
    let low = c.requires.low in
    omega (arith, more, part, low)

pub loop-inst-preserved : goal.loop-inst-preserved
loop-inst-preserved c = (
  inner_more (new c.args.moved.now) c.args.at c.loop-inst.at c.args.code.now.items c.loop-inst.code.items
      c.put_piece.new.code.items c.args.insts.now c.loop-inst.inst-index no_inst
      (omega arith) c.loop-inst.invariant.1 c.loop-inst.invariant.0 c.in_ok-put_piece.ensures.ok,
  end_more c.args.at c.loop-inst.at c.args.insts.now c.loop-inst.inst-index no_inst (omega arith) c.loop-inst.invariant.1,
)
