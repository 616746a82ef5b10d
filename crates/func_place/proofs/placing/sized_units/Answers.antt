use Rattle.std.proofs.Common.{ℕ, ◌≡◌, ◌≤◌, ◌*◌, List, length, sym, ap, subst, ◌∙◌, arith}
use Rattle.std.specs.Prelude.{All, sum, ◌^◌}
use Rattle.std.proofs.lemmas.List.Sums.{sum_by-le}
use Rattle.std.proofs.lemmas.Grind.{common_steps}
use Rattle.rb_bytes.specs.FirstFault.{IsAnswered}
use Rattle.rv_code.specs.layout.WorstSizes.{worst_size_of_block}
use Rattle.func_place.specs.Faults.{HasPlacementFault}
use Rattle.func_place.specs.Units.{unit_size, by_unit}
use Rattle.func_place.proofs.PlacementFaults.{answered_long, answered_kept, no_long, no_kept, no_fault}
use Rattle.func_place.proofs.placing.sized_units.Goals as goal

pub sums_of-requires-clause-room : goal.sums_of-requires-clause-room
sums_of-requires-clause-room c =
    let xs = c.deref-2.result.now in
    let all : All (λ size. size ≤ 2 ^ 67) xs = rw c.deref-2.ensures.value c.in_ok-own_sizes.ensures.small in
    let le : sum xs ≤ length xs * 2 ^ 67 = sum_by-le (λ (x : ℕ). x) (2 ^ 67) xs all in
    let short = c.deref-2.type_inv.1 in
    omega arith

pub first_long-requires : goal.first_long-requires
first_long-requires c = ap length c.deref-3.ensures.value ∙ c.in_ok-sizes.ensures.len ∙ ap length c.deref.ensures.value
    ∙ c.in_ok-units.ensures.units.len

pub returns-clause-sizes : goal.returns-clause-sizes
returns-clause-sizes c = subst (λ (us : List ℕ). c.in_ok-sizes.sizes.items
    ≡ by_unit (unit_size c.args.funcs.now us c.args.blocks.now) us) c.deref.ensures.value
    (c.in_ok-sizes.ensures.sums (worst_size_of_block c.args.funcs.now)
    (c.deref-2.ensures.value ∙ c.in_ok-own_sizes.ensures.sizes))

pub returns-in-Some-clause-fault : goal.returns-in-Some-clause-fault
returns-in-Some-clause-fault c =
    let sizes_is = subst (λ (us : List ℕ). c.in_ok-sizes.sizes.items
    ≡ by_unit (unit_size c.args.funcs.now us c.args.blocks.now) us) c.deref.ensures.value
    (c.in_ok-sizes.ensures.sums (worst_size_of_block c.args.funcs.now)
    (c.deref-2.ensures.value ∙ c.in_ok-own_sizes.ensures.sizes)) in
    subst (IsAnswered (HasPlacementFault c.args.funcs.now c.args.blocks.now)) (sym c.at.ensures)
    (answered_long c.args.funcs.now c.args.blocks.now c.in_ok-units.units.items c.deref-3.result.now c.in-Some.place
    c.requires.funcs c.in_ok-units.ensures.units (c.deref-3.ensures.value ∙ sizes_is) c.in-Some.ensures)

pub returns-in-Some-first_kept-clause-fault : goal.returns-in-Some-first_kept-clause-fault
returns-in-Some-first_kept-clause-fault c =
    let sizes_is = subst (λ (us : List ℕ). c.in_ok-sizes.sizes.items
    ≡ by_unit (unit_size c.args.funcs.now us c.args.blocks.now) us) c.deref.ensures.value
    (c.in_ok-sizes.ensures.sums (worst_size_of_block c.args.funcs.now)
    (c.deref-2.ensures.value ∙ c.in_ok-own_sizes.ensures.sizes)) in
    subst (IsAnswered (HasPlacementFault c.args.funcs.now c.args.blocks.now)) (sym c.at-in-Some-first_kept.ensures)
    (answered_kept c.args.funcs.now c.args.blocks.now c.in-Some-first_kept.place c.requires.funcs
    (no_long c.args.funcs.now c.args.blocks.now c.in_ok-units.units.items c.deref-3.result.now c.in_ok-units.ensures.units
    (c.deref-3.ensures.value ∙ sizes_is) c.in_default.ensures)
    c.in-Some-first_kept.ensures)

pub returns-clause-free : goal.returns-clause-free
returns-clause-free c =
    let sizes_is = subst (λ (us : List ℕ). c.in_ok-sizes.sizes.items
    ≡ by_unit (unit_size c.args.funcs.now us c.args.blocks.now) us) c.deref.ensures.value
    (c.in_ok-sizes.ensures.sums (worst_size_of_block c.args.funcs.now)
    (c.deref-2.ensures.value ∙ c.in_ok-own_sizes.ensures.sizes)) in
    no_fault c.args.funcs.now c.args.blocks.now
    (no_long c.args.funcs.now c.args.blocks.now c.in_ok-units.units.items c.deref-3.result.now c.in_ok-units.ensures.units
    (c.deref-3.ensures.value ∙ sizes_is) c.in_default.ensures)
    (no_kept c.args.funcs.now c.in_default-first_kept.ensures)

pub sums_of-requires-clause-numbers_len : goal.sums_of-requires-clause-numbers_len
sums_of-requires-clause-numbers_len c = grind (arith, common_steps)
