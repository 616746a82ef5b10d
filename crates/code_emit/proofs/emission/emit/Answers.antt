use Rattle.code_emit.proofs.AllBlocks.{IsGiven, adds_along, count, given_along, goes_on, keeps, length_is, lows}
use Rattle.code_emit.proofs.emission.emit.Goals as goal

pub code-requires-clause-order : goal.code-requires-clause-order
code-requires-clause-order c =
    let q = c.requires in
    let order = c.args.plan.now.order.items in
    let g : IsGiven c.args.funcs.now c.args.blocks.now order c.args.forms.now c.args.moved.now =
    record { laid = q.laid; direct = q.direct; blocks_of = q.blocks; perm = q.order; insts = q.insts; mapped = q.mapped } in
    (given_along c.args.funcs.now c.args.blocks.now c.as_slice-order.result.now order c.args.forms.now c.args.moved.now
    c.as_slice-order.ensures.value g).perm

pub code-requires-clause-mapped : goal.code-requires-clause-mapped
code-requires-clause-mapped c =
    let q = c.requires in
    let order = c.args.plan.now.order.items in
    let g : IsGiven c.args.funcs.now c.args.blocks.now order c.args.forms.now c.args.moved.now =
    record { laid = q.laid; direct = q.direct; blocks_of = q.blocks; perm = q.order; insts = q.insts; mapped = q.mapped } in
    (given_along c.args.funcs.now c.args.blocks.now c.as_slice-order.result.now order c.args.forms.now c.args.moved.now
    c.as_slice-order.ensures.value g).mapped

pub code-requires-clause-one_each : goal.code-requires-clause-one_each
code-requires-clause-one_each c =
    let q = c.requires in
    let order = c.args.plan.now.order.items in
    let g : IsGiven c.args.funcs.now c.args.blocks.now order c.args.forms.now c.args.moved.now =
    record { laid = q.laid; direct = q.direct; blocks_of = q.blocks; perm = q.order; insts = q.insts; mapped = q.mapped } in
    count c.args.funcs.now c.args.blocks.now c.as_slice-order.result.now c.args.forms.now c.args.moved.now
    (given_along c.args.funcs.now c.args.blocks.now c.as_slice-order.result.now order c.args.forms.now c.args.moved.now
    c.as_slice-order.ensures.value g)

pub contents-requires-clause-lows : goal.contents-requires-clause-lows
contents-requires-clause-lows c =
    let q = c.requires in
    let order = c.args.plan.now.order.items in
    let g : IsGiven c.args.funcs.now c.args.blocks.now order c.args.forms.now c.args.moved.now =
    record { laid = q.laid; direct = q.direct; blocks_of = q.blocks; perm = q.order; insts = q.insts; mapped = q.mapped } in
    lows c.args.funcs.now c.args.blocks.now order c.args.forms.now c.args.moved.now g

pub returns-clause-length : goal.returns-clause-length
returns-clause-length c =
    let q = c.requires in
    let order = c.args.plan.now.order.items in
    let g : IsGiven c.args.funcs.now c.args.blocks.now order c.args.forms.now c.args.moved.now =
    record { laid = q.laid; direct = q.direct; blocks_of = q.blocks; perm = q.order; insts = q.insts; mapped = q.mapped } in
    λ base m.
    length_is c.args.funcs.now c.args.blocks.now order c.args.forms.now c.args.moved.now g base m c.in_ok-bytes.bytes.items
    (adds_along c.args.funcs.now c.args.blocks.now c.as_slice-order.result.now order c.args.forms.now c.args.moved.now
    c.in_ok-bytes.bytes.items c.as_slice-order.ensures.value c.in_ok-bytes.ensures base m)

pub returns-clause-made : goal.returns-clause-made
returns-clause-made c =
    λ base m.
    adds_along c.args.funcs.now c.args.blocks.now c.as_slice-order.result.now c.args.plan.now.order.items c.args.forms.now
    c.args.moved.now c.in_ok-bytes.bytes.items c.as_slice-order.ensures.value c.in_ok-bytes.ensures base m

pub returns-clause-insts : goal.returns-clause-insts
returns-clause-insts c =
    let q = c.requires in
    let order = c.args.plan.now.order.items in
    let g : IsGiven c.args.funcs.now c.args.blocks.now order c.args.forms.now c.args.moved.now =
    record { laid = q.laid; direct = q.direct; blocks_of = q.blocks; perm = q.order; insts = q.insts; mapped = q.mapped } in
    λ base m. keeps c.args.funcs.now c.args.blocks.now order c.args.forms.now c.args.moved.now g base m c.in_ok-bytes.bytes.items
    (adds_along c.args.funcs.now c.args.blocks.now c.as_slice-order.result.now order c.args.forms.now c.args.moved.now
    c.in_ok-bytes.bytes.items c.as_slice-order.ensures.value c.in_ok-bytes.ensures base m)

pub returns-clause-goes_on : goal.returns-clause-goes_on
returns-clause-goes_on c =
    let q = c.requires in
    let order = c.args.plan.now.order.items in
    let g : IsGiven c.args.funcs.now c.args.blocks.now order c.args.forms.now c.args.moved.now =
    record { laid = q.laid; direct = q.direct; blocks_of = q.blocks; perm = q.order; insts = q.insts; mapped = q.mapped } in
    λ base m.
    goes_on c.args.funcs.now c.args.blocks.now order c.args.forms.now c.args.moved.now g base m c.in_ok-bytes.bytes.items
    (adds_along c.args.funcs.now c.args.blocks.now c.as_slice-order.result.now order c.args.forms.now c.args.moved.now
    c.in_ok-bytes.bytes.items c.as_slice-order.ensures.value c.in_ok-bytes.ensures base m)
