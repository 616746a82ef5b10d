use Rattle.std.proofs.Common.{ℕ, ◌≡◌, ◌<◌, ◌+◌, length, get_or, arith, refl, ap}
use Rattle.std.specs.Prelude.{slice_index}
use Rattle.std.proofs.lemmas.List.{get_or_read}
use Rattle.std.proofs.lemmas.Grind.{common_steps}
use Rattle.func_place.proofs.UnitSums.{no_block, sums_next, sum_fits, sums_are, sums_within}
use Rattle.func_place.proofs.sums.sums_of.Goals as goal

pub overflow_add-index_mut : goal.overflow_add-index_mut
overflow_add-index_mut c =
    let units = c.args.units.now in
    let b = get_or c.args.blocks.now c.loop-place.place no_block in
    let unit = slice_index units b.func in
    let a = c.loop-place.invariant in
    let unit_in : unit < length c.loop-place.sums.items =
    rw a.len (c.requires.inside b.func 0 (c.requires.blocks_in c.loop-place.place no_block c.loop-place-test.true)) in
    let was : c.index_mut.result.now ≡ slice_index c.loop-place.sums.items unit =
    get_or_read c.loop-place.sums.items unit _ unit_in c.index_mut.ensures.value 0 in
    let len = c.requires.numbers_len in
    let lt = c.loop-place-test.true in
    let le =
    sum_fits units c.args.blocks.now c.args.numbers.now c.loop-place.place c.loop-place.sums.items unit (omega arith) a in
    let room = c.requires.room in
    omega arith

pub loop-place-preserved : goal.loop-place-preserved
loop-place-preserved c =
    let units = c.args.units.now in
    let b = get_or c.args.blocks.now c.loop-place.place no_block in
    let unit = slice_index units b.func in
    let a = c.loop-place.invariant in
    let unit_in : unit < length c.loop-place.sums.items =
    rw a.len (c.requires.inside b.func 0 (c.requires.blocks_in c.loop-place.place no_block c.loop-place-test.true)) in
    let was : c.index_mut.result.now ≡ slice_index c.loop-place.sums.items unit =
    get_or_read c.loop-place.sums.items unit _ unit_in c.index_mut.ensures.value 0 in
    sums_next units c.args.blocks.now c.args.numbers.now c.loop-place.place c.loop-place.sums.items no_block unit
    (c.index_mut.result.now + slice_index c.args.numbers.now c.loop-place.place) c.loop-place-test.true c.requires.numbers_len
    refl unit_in (ap (λ (n : ℕ). n + slice_index c.args.numbers.now c.loop-place.place) was) a

pub returns-clause-within : goal.returns-clause-within
returns-clause-within c =
    sums_within c.args.units.now c.args.blocks.now c.args.numbers.now c.loop-place.place c.loop-place.sums.items
    (omega arith) c.requires.numbers_len c.loop-place.invariant

pub returns-clause-sums : goal.returns-clause-sums
returns-clause-sums c = sums_are c.args.units.now c.args.blocks.now c.args.numbers.now c.loop-place.place c.loop-place.sums.items
    (omega arith) c.loop-place.invariant

pub loop-place-init : goal.loop-place-init
loop-place-init c = grind (arith, common_steps)
