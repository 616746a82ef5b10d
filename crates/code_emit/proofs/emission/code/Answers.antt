use Rattle.std.proofs.Common.{◌≡◌, ◌+◌, ℕ, List, [], arith, get_or, length, rules, sym, subst}
use Rattle.rv_code.specs.declared.layout.Form.TheVariants as form
use Rattle.branch_fixup.specs.BlockInsts.{seen}
use Rattle.branch_fixup.specs.Strips.{pieces_of_strip}
use Rattle.branch_fixup.proofs.Laid.{end_above}
use Rattle.code_emit.specs.Bytes.{Adds}
use Rattle.code_emit.proofs.Coded.{adds_none}
use Rattle.code_emit.proofs.AllBlocks.{IsGiven, lows, one_more, put_after, targets, whole}
use Rattle.code_emit.proofs.emission.code.Goals as goal

pub overflow_add-at : goal.overflow_add-at
overflow_add-at c =
    let q = c.requires in
    let g : IsGiven c.args.funcs.now c.args.blocks.now c.args.order.now c.args.forms.now c.args.moved.now =
    record { laid = q.laid; direct = q.direct; blocks_of = q.blocks; perm = q.order; insts = q.insts; mapped = q.mapped } in
    let size : c.len.result ≡ length c.loop-k.code.items = search rules in
    let put = put_after c.args.funcs.now c.args.blocks.now c.args.order.now c.args.forms.now c.args.moved.now g
    q.mapped.base q.mapped.mapped c.loop-k.k (seen c.planned-block.result) c.planned-block.ensures (omega arith)
    c.code_start-start.result c.len.result c.loop-k.code.items c.code_start-start.ensures size
    (c.loop-k.invariant q.mapped.base q.mapped.mapped) in
    let above = end_above (c.code_start-start.result + c.len.result)
    (pieces_of_strip (seen c.planned-block.result) (get_or c.args.forms.now c.loop-k.k form.Plain)) in
    let low = put.fits.low in
    omega (arith, above, low)

pub put_block-requires-clause-fits : goal.put_block-requires-clause-fits
put_block-requires-clause-fits c =
    let q = c.requires in
    let g : IsGiven c.args.funcs.now c.args.blocks.now c.args.order.now c.args.forms.now c.args.moved.now =
    record { laid = q.laid; direct = q.direct; blocks_of = q.blocks; perm = q.order; insts = q.insts; mapped = q.mapped } in
    let size : c.len.result ≡ length c.loop-k.code.items = search rules in
    let put = put_after c.args.funcs.now c.args.blocks.now c.args.order.now c.args.forms.now c.args.moved.now g
    q.mapped.base q.mapped.mapped c.loop-k.k (seen c.planned-block.result) c.planned-block.ensures (omega arith)
    c.code_start-start.result c.len.result c.loop-k.code.items c.code_start-start.ensures size
    (c.loop-k.invariant q.mapped.base q.mapped.mapped) in
    put.fits

pub put_block-requires-clause-lows : goal.put_block-requires-clause-lows
put_block-requires-clause-lows c =
    let q = c.requires in
    let g : IsGiven c.args.funcs.now c.args.blocks.now c.args.order.now c.args.forms.now c.args.moved.now =
    record { laid = q.laid; direct = q.direct; blocks_of = q.blocks; perm = q.order; insts = q.insts; mapped = q.mapped } in
    lows c.args.funcs.now c.args.blocks.now c.args.order.now c.args.forms.now c.args.moved.now g

pub put_block-requires-clause-targets : goal.put_block-requires-clause-targets
put_block-requires-clause-targets c =
    let q = c.requires in
    let g : IsGiven c.args.funcs.now c.args.blocks.now c.args.order.now c.args.forms.now c.args.moved.now =
    record { laid = q.laid; direct = q.direct; blocks_of = q.blocks; perm = q.order; insts = q.insts; mapped = q.mapped } in
    targets c.args.funcs.now c.args.blocks.now c.args.order.now c.args.forms.now c.args.moved.now g c.loop-k.k
    (seen c.planned-block.result) c.planned-block.ensures

pub loop-k-init : goal.loop-k-init
loop-k-init c = λ base m. subst (λ (x : List ℕ). Adds [] x []) (sym c.new-code.ensures.items) (adds_none [])

pub loop-k-preserved : goal.loop-k-preserved
loop-k-preserved c =
    let q = c.requires in
    let g : IsGiven c.args.funcs.now c.args.blocks.now c.args.order.now c.args.forms.now c.args.moved.now =
    record { laid = q.laid; direct = q.direct; blocks_of = q.blocks; perm = q.order; insts = q.insts; mapped = q.mapped } in
    λ base m.
    let size : c.len.result ≡ length c.loop-k.code.items = search rules in
    let put = put_after c.args.funcs.now c.args.blocks.now c.args.order.now c.args.forms.now c.args.moved.now g
    base m c.loop-k.k (seen c.planned-block.result) c.planned-block.ensures (omega arith)
    c.code_start-start.result c.len.result c.loop-k.code.items c.code_start-start.ensures size
    (c.loop-k.invariant base m) in
    one_more c.args.funcs.now c.args.blocks.now c.args.order.now c.args.forms.now c.args.moved.now g base m
    c.loop-k.k (seen c.planned-block.result) c.planned-block.ensures (omega arith)
    c.loop-k.code.items c.put_block.new.code.items (c.code_start-start.result + c.len.result) put.here_is
    (c.loop-k.invariant base m) c.in_ok-put_block.ensures.adds

pub returns : goal.returns
returns c =
    let q = c.requires in
    let g : IsGiven c.args.funcs.now c.args.blocks.now c.args.order.now c.args.forms.now c.args.moved.now =
    record { laid = q.laid; direct = q.direct; blocks_of = q.blocks; perm = q.order; insts = q.insts; mapped = q.mapped } in
    λ base m. whole c.args.funcs.now c.args.blocks.now c.args.order.now c.args.forms.now c.args.moved.now g base m c.loop-k.k
    c.loop-k.code.items (omega arith) (c.loop-k.invariant base m)
