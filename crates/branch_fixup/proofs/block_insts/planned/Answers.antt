use Rattle.std.proofs.Common.{◌∙◌, arith}
use Rattle.rv_code.specs.layout.ProgramCode.{program_code}
use Rattle.rv_code.proofs.lists.Blocks.{blocks_of_functions}
use Rattle.branch_fixup.proofs.Holders.{planned_read, place_within}
use Rattle.branch_fixup.proofs.block_insts.planned.Goals as goal

pub offset_bounds-blocks-order : goal.offset_bounds-blocks-order
offset_bounds-blocks-order c =
    let within = place_within c.args.blocks.now c.args.order.now c.requires.order c.args.k c.requires.inside in
    omega (arith, within)

pub bounds-blocks-order : goal.bounds-blocks-order
bounds-blocks-order c = place_within c.args.blocks.now c.args.order.now c.requires.order c.args.k c.requires.inside

pub insts_of-requires-clause-is : goal.insts_of-requires-clause-is
insts_of-requires-clause-is c =
    let are = c.requires.blocks in
    blocks_of_functions (program_code c.args.funcs.now are.roles are.cells are.entry) c.args.blocks.now are.are _ _
    (place_within c.args.blocks.now c.args.order.now c.requires.order c.args.k c.requires.inside)

pub returns : goal.returns
returns c = planned_read c.args.funcs.now c.args.blocks.now c.args.order.now c.requires.blocks c.requires.order
    c.args.k _ c.requires.inside ∙ c.insts_of.ensures
