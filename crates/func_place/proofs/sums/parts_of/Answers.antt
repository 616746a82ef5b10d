use Rattle.std.proofs.Common.{ℕ, ◌≡◌, ◌<◌, ◌++◌, List, length, map, Vec, Global, arith, refl, ap, ◌∙◌}
use Rattle.std.specs.Prelude.{slice_index}
use Rattle.std.proofs.lemmas.List.{map-set, length-map}
use Rattle.std.proofs.lemmas.Grind.{common_steps}
use Rattle.func_place.specs.internal.Groups.{list_at}
use Rattle.func_place.proofs.UnitSums.{list_of, parts_next}
use Rattle.func_place.proofs.sums.parts_of.Goals as goal

pub loop-function-preserved : goal.loop-function-preserved
loop-function-preserved c =
    let units = c.args.units.now in
    let i = c.loop-function.function in
    let unit = slice_index units i in
    let own = c.loop-function.own.items in
    let parts = c.args.parts.now in
    let a = c.loop-function.invariant in
    let items : Vec ℕ Global → List ℕ = λ (v : Vec ℕ Global). v.items in
    let lists = map items own in
    let count = length-map own items in
    let same_len = c.requires.parts_len in
    let lt = c.loop-function-test.true in
    let inside = c.requires.inside i 0 lt in
    let len = a.len in
    let unit_in : unit < length lists = omega arith in
    let was = list_of items own unit c.index_mut.result.now (omega arith) c.index_mut.ensures.value in
    let more = list_of items parts i c.index-parts-function.result (omega arith) c.index-parts-function.is in
    let is : c.extend_from_slice.new.self.items ≡ list_at lists unit ++ list_at (map items parts) i =
    c.in_ok-extend_from_slice.ensures.items ∙ ap (λ (xs : List ℕ). xs ++ c.deref.result.now) was
    ∙ ap (λ (xs : List ℕ). list_at lists unit ++ xs) (c.deref.ensures.value ∙ more) in
    rw (map-set items own unit c.extend_from_slice.new.self)
    (parts_next units (list_at (map items parts)) i unit lists c.extend_from_slice.new.self.items refl unit_in is a)

pub loop-unit-preserved : goal.loop-unit-preserved
loop-unit-preserved c = grind (arith, common_steps)

pub index_mut-requires : goal.index_mut-requires
index_mut-requires c = grind (arith, common_steps)

pub returns-clause-len : goal.returns-clause-len
returns-clause-len c = grind (arith, common_steps)
