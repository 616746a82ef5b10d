use Rattle.std.proofs.Common.{ℕ, ◌≡◌, ◌<◌, List, length, get_or, sym, ap, subst, ◌∙◌, arith, map, Vec, Global}
use Rattle.std.specs.Prelude.{All, sum_by, slice_index}
use Rattle.std.proofs.lemmas.List.FromFn.{get_or-map-range_with_len, length-map-range_with_len}
use Rattle.std.proofs.lemmas.Grind.{common_steps}
use Rattle.rv_code.specs.declared.placed.Block.{Block}
use Rattle.rv_code.specs.layout.WorstSizes.{worst_size_of_block}
use Rattle.func_place.specs.declared.calls.UnitCall.{UnitCall}
use Rattle.rv_code.specs.layout.BlockOrders.{hot_of, cold_of}
use Rattle.func_place.specs.Placement.{IsPlacement, unit_calls}
use Rattle.func_place.specs.UnitOrder.{IsUnitOrder}
use Rattle.func_place.specs.Units.{unit_sum, unit_size, unit_part, by_unit}
use Rattle.func_place.specs.internal.Groups.{list_at}
use Rattle.func_place.proofs.CallBounds.{calls_inside, calls_count}
use Rattle.rv_code.proofs.lists.FunctionAt.{function_at-inside}
use Rattle.func_place.proofs.OrderFacts.{has_all, tied_near}
use Rattle.func_place.proofs.PlacementFaults.{one_list}
use Rattle.func_place.proofs.UnitClasses.{units_inside}
use Rattle.func_place.proofs.WorstPositive.{worst_some, unit_some}
use Rattle.func_place.proofs.placing.order_blocks.Goals as goal
use Rattle.func_place.specs.Clusters.{AreWithinLimit}

pub parts_of-requires-clause-inside : goal.parts_of-requires-clause-inside
parts_of-requires-clause-inside c = λ k d lt. let h = units_inside c.args.funcs.now c.args.units.now c.requires.units k d lt in
    let len = c.requires.units.len in omega arith

pub parts_of-requires-2-clause-inside : goal.parts_of-requires-2-clause-inside
parts_of-requires-2-clause-inside c = λ k d lt. let h = units_inside c.args.funcs.now c.args.units.now c.requires.units k d lt in
    let len = c.requires.units.len in omega arith

pub place_units-requires-clause-sizes_some : goal.place_units-requires-clause-sizes_some
place_units-requires-clause-sizes_some c = λ u lt hot.
    let funcs = c.args.funcs.now in
    let blocks = c.args.blocks.now in
    let units = c.args.units.now in
    let weight = c.requires.weights.0 in
    let size = worst_size_of_block funcs in
    let count : length c.args.sizes.now ≡ length units =
    ap length c.requires.sizes ∙ length-map-range_with_len (unit_size funcs units blocks) 0 (length units) in
    let u_in : u < length units = omega arith in
    let heats_is : c.deref-3.result.now ≡ by_unit (unit_sum units weight blocks) units =
    c.deref-3.ensures.value ∙ c.in_ok-heats.ensures.sums weight c.requires.weights.1 in
    let heat_is : slice_index c.deref-3.result.now u ≡ unit_sum units weight blocks u =
    ap (λ (xs : List ℕ). slice_index xs u) heats_is
    ∙ get_or-map-range_with_len (unit_sum units weight blocks) 0 (length units) u u 0 u_in (omega arith) in
    let size_is : slice_index c.args.sizes.now u ≡ unit_size funcs units blocks u =
    ap (λ (xs : List ℕ). slice_index xs u) c.requires.sizes
    ∙ get_or-map-range_with_len (unit_size funcs units blocks) 0 (length units) u u 0 u_in (omega arith) in
    let some = unit_some units weight size blocks u (λ k d k_lt. worst_some funcs (get_or blocks k d) c.requires.funcs
    (c.requires.blocks k d k_lt)) (subst (λ (n : ℕ). 0 < n) heat_is hot) in
    subst (λ (n : ℕ). 0 < n) (sym size_is) some

pub place_units-requires-clause-calls_in : goal.place_units-requires-clause-calls_in
place_units-requires-clause-calls_in c =
    let funcs = c.args.funcs.now in
    let units = c.args.units.now in
    let count : length c.args.sizes.now ≡ length units =
    ap length c.requires.sizes ∙ length-map-range_with_len (unit_size funcs units c.args.blocks.now) 0 (length units) in
    let len = c.requires.units.len in
    subst (All (λ (k : UnitCall). (k.from < length c.args.sizes.now) × (k.to < length c.args.sizes.now)))
    (sym (c.deref-4.ensures.value ∙ c.in_ok-calls.ensures))
    (calls_inside funcs units (length c.args.sizes.now) c.args.pairs.now (λ a f found.
    let f_in = function_at-inside funcs a f found in
    let h : slice_index units f < length funcs = units_inside funcs units c.requires.units f 0 (omega arith) in
    omega arith))

pub place_units-requires-clause-calls_room : goal.place_units-requires-clause-calls_room
place_units-requires-clause-calls_room c =
    let le = calls_count c.args.funcs.now c.args.units.now c.args.pairs.now in
    let counts = c.requires.counts in
    subst (λ (ks : List UnitCall). sum_by (λ k. k.count) ks < 340282366920938463463374607431768211456)
    (sym (c.deref-4.ensures.value ∙ c.in_ok-calls.ensures)) (omega arith)

-- the order is a placement, for a weight function with these weights
placed : (c : goal.After-drop-heats-2) → (weight : Block → ℕ) → c.args.weights.now ≡ map weight c.args.blocks.now →
    IsPlacement c.args.funcs.now c.args.blocks.now c.args.chains.now c.args.pairs.now weight c.in_ok-order.order.items
placed c weight is =
    let funcs = c.args.funcs.now in
    let blocks = c.args.blocks.now in
    let units = c.args.units.now in
    let chains = c.args.chains.now in
    let order = c.in_ok-order.order.items in
    let items : Vec ℕ Global → List ℕ = λ (v : Vec ℕ Global). v.items in
    let heats_is : c.deref-3.result.now ≡ by_unit (unit_sum units weight blocks) units =
    c.deref-3.ensures.value ∙ c.in_ok-heats.ensures.sums weight is in
    let calls_is : c.deref-4.result.now ≡ unit_calls funcs units c.args.pairs.now =
    c.deref-4.ensures.value ∙ c.in_ok-calls.ensures in
    let hot_is : list_at (map items c.deref-5.result.now) ≡ unit_part (hot_of chains) units = λ i u.
    (ap (λ (vs : List (Vec ℕ Global)). list_at (map items vs) u) c.deref-5.ensures.value ∙ c.in_ok-hot.ensures.parts u
    ∙ ap (λ (vs : List (Vec ℕ Global)). unit_part (list_at (map items vs)) units u) c.deref.ensures.value) i in
    let cold_is : list_at (map items c.deref-6.result.now) ≡ unit_part (cold_of chains) units = λ i u.
    (ap (λ (vs : List (Vec ℕ Global)). list_at (map items vs) u) c.deref-6.ensures.value ∙ c.in_ok-cold.ensures.parts u
    ∙ ap (λ (vs : List (Vec ℕ Global)). unit_part (list_at (map items vs)) units u) c.deref-2.ensures.value) i in
    let sizes_new = by_unit (unit_size funcs units blocks) units in
    let heats_new = by_unit (unit_sum units weight blocks) units in
    let calls_new = unit_calls funcs units c.args.pairs.now in
    record {
      units = units;
      are_units = c.requires.units;
      ordered =
          subst (λ (f : ℕ → List ℕ). IsUnitOrder sizes_new heats_new calls_new (unit_part (hot_of chains) units) f order) cold_is
          (subst (λ (f : ℕ → List ℕ). IsUnitOrder sizes_new heats_new calls_new f
          (list_at (map items c.deref-6.result.now)) order) hot_is
          (subst (λ (cs : List UnitCall). IsUnitOrder sizes_new heats_new cs (list_at (map items c.deref-5.result.now))
          (list_at (map items c.deref-6.result.now)) order) calls_is
          (subst (λ (hs : List ℕ). IsUnitOrder sizes_new hs c.deref-4.result.now (list_at (map items c.deref-5.result.now))
          (list_at (map items c.deref-6.result.now)) order) heats_is
          (subst (λ (ss : List ℕ). IsUnitOrder ss c.deref-3.result.now c.deref-4.result.now
          (list_at (map items c.deref-5.result.now)) (list_at (map items c.deref-6.result.now)) order) c.requires.sizes
          c.in_ok-order.ensures))));
    }

-- the order is a placement, for the given weights
own : (c : goal.After-drop-heats-2) → IsPlacement c.args.funcs.now c.args.blocks.now c.args.chains.now c.args.pairs.now
    c.requires.weights.0 c.in_ok-order.order.items
own c = placed c c.requires.weights.0 c.requires.weights.1

low : (c : goal.After-drop-heats-2) →
    AreWithinLimit (by_unit (unit_size c.args.funcs.now (own c).units c.args.blocks.now) (own c).units)
low c =
    let funcs = c.args.funcs.now in
    let blocks = c.args.blocks.now in
    let small : AreWithinLimit (by_unit (unit_size funcs c.args.units.now blocks) c.args.units.now) =
    subst AreWithinLimit c.requires.sizes c.requires.small in
    subst (λ (us : List ℕ). AreWithinLimit (by_unit (unit_size funcs us blocks) us))
    (sym (one_list funcs (own c).units c.args.units.now (own c).are_units c.requires.units)) small

pub returns-clause-order : goal.returns-clause-order
returns-clause-order c = placed c

pub returns-clause-all : goal.returns-clause-all
returns-clause-all c = has_all c.args.funcs.now c.args.blocks.now c.args.chains.now c.args.pairs.now c.requires.weights.0
    c.in_ok-order.order.items c.requires.blocks (own c) (low c)

pub returns-clause-near : goal.returns-clause-near
returns-clause-near c = tied_near c.args.funcs.now c.args.blocks.now c.args.chains.now c.args.pairs.now c.requires.weights.0
    c.in_ok-order.order.items c.requires.blocks (own c) (low c)

pub sums_of-requires-clause-numbers_len : goal.sums_of-requires-clause-numbers_len
sums_of-requires-clause-numbers_len c = grind (arith, common_steps)

pub place_units-requires-clause-heats_len : goal.place_units-requires-clause-heats_len
place_units-requires-clause-heats_len c = grind (arith, common_steps)

pub place_units-requires-clause-hot_in : goal.place_units-requires-clause-hot_in
place_units-requires-clause-hot_in c = grind (arith, common_steps)

pub place_units-requires-clause-cold_in : goal.place_units-requires-clause-cold_in
place_units-requires-clause-cold_in c = grind (arith, common_steps)
