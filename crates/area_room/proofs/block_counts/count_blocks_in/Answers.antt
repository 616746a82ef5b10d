use Rattle.std.proofs.Common.{sym, refl, ◌∙◌, ◌≡◌, ◌<◌, ◌+◌, ◌-◌, add-zero, length, filter, arith, false, true, get_or}
use Rattle.rv_code.specs.declared.placed.Block.{Block}
use Rattle.area_room.specs.EntryNeeds.{has_inst_in}
use Rattle.rb_bytes.proofs.RangeCounts.{count-none}
use Rattle.area_room.proofs.BlockStretches.{are_of_functions, count_by_starts, none_in_empty, place_within, starts_ascend}
use Rattle.area_room.proofs.block_counts.count_blocks_in.Goals as goal
use Rattle.area_room.proofs.block_counts.count_blocks_in.Goals.{else-before-gt0-via-then-before-gt0+else-has_inst_in}
use Rattle.area_room.proofs.block_counts.count_blocks_in.Goals.{else-before-gt0-via-else-before-gt0}

abbrev first_block : Block
first_block = record { func = 0; first = 0; last = 0 }

pub returns-then-high-low : goal.returns-then-high-low
returns-then-high-low c =
    sym (count-none (has_inst_in c.args.funcs.now c.args.low c.args.high) c.args.blocks.now
    (none_in_empty c.args.funcs.now c.args.low c.args.high c.if-high-low.true))

pub count_below-before-requires : goal.count_below-before-requires
count_below-before-requires c =
    starts_ascend c.args.funcs.now c.args.blocks.now c.requires.laid c.requires.blocks c.args.starts.now c.requires.starts

pub count_below-requires : goal.count_below-requires
count_below-requires c =
    starts_ascend c.args.funcs.now c.args.blocks.now c.requires.laid c.requires.blocks c.args.starts.now c.requires.starts

pub offset_bounds-blocks-before : goal.offset_bounds-blocks-before
offset_bounds-blocks-before c =
    let within = place_within c.args.funcs.now c.args.blocks.now c.requires.laid c.requires.blocks c.args.starts.now
    c.requires.starts c.args.low c.count_below-before.result c.count_below-before.ensures in
    omega (arith, within)

pub bounds-blocks-before : goal.bounds-blocks-before
bounds-blocks-before c =
    let within = place_within c.args.funcs.now c.args.blocks.now c.requires.laid c.requires.blocks c.args.starts.now
    c.requires.starts c.args.low c.count_below-before.result c.count_below-before.ensures in
    omega (arith, within, c.if-before-gt0.true)

pub has_inst_in-requires-clause-block : goal.has_inst_in-requires-clause-block
has_inst_in-requires-clause-block c =
    let within = place_within c.args.funcs.now c.args.blocks.now c.requires.laid c.requires.blocks c.args.starts.now
    c.requires.starts c.args.low c.count_below-before.result c.count_below-before.ensures in
    are_of_functions c.args.funcs.now c.args.blocks.now c.requires.laid c.requires.blocks (c.count_below-before.result - 1)
    first_block (omega (arith, within, c.if-before-gt0.true))

pub returns-then-has_inst_in : goal.returns-then-has_inst_in
returns-then-has_inst_in c =
    count_by_starts c.args.funcs.now c.args.blocks.now c.requires.laid c.requires.blocks c.args.starts.now c.requires.starts
    c.args.low c.args.high c.if-high-low.false c.count_below-before.result c.count_below.result c.saturating_sub-inside.result
    c.count_below-before.ensures c.count_below.ensures c.saturating_sub-inside.ensures true first_block
    (λ some. sym c.has_inst_in.ensures ∙ c.if-has_inst_in.true)
    (λ none. absurd (omega (arith, none, c.if-before-gt0.true)))

pub returns-else-before-gt0 : goal.returns-else-before-gt0
returns-else-before-gt0 c =
    let no_more : (0 < c.count_below-before.result →
    has_inst_in c.args.funcs.now c.args.low c.args.high
    (get_or c.args.blocks.now (c.count_below-before.result - 1) first_block) ≡ false) →
    c.saturating_sub-inside.result + 0 ≡ length (filter (has_inst_in c.args.funcs.now c.args.low c.args.high) c.args.blocks.now) =
    λ last. count_by_starts c.args.funcs.now c.args.blocks.now c.requires.laid c.requires.blocks c.args.starts.now
    c.requires.starts c.args.low c.args.high c.if-high-low.false c.count_below-before.result c.count_below.result
    c.saturating_sub-inside.result c.count_below-before.ensures c.count_below.ensures c.saturating_sub-inside.ensures false
    first_block last (λ none. refl) in
    sym (add-zero c.saturating_sub-inside.result) ∙ elim c.else-before-gt0.branch [
      | else-before-gt0-via-then-before-gt0+else-has_inst_in w ↦ no_more (λ some. sym w.has_inst_in.ensures ∙ w.if-has_inst_in.false)
      | else-before-gt0-via-else-before-gt0 w ↦ no_more (λ some. absurd (omega (arith, some, w.if-before-gt0.false)))
    ]
