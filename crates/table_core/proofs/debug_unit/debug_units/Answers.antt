use Rattle.std.proofs.Common.{rules, ◌≡◌, ◌∙◌, ◌<◌, ◌≤◌, ◌+◌, ◌-◌, ◌++◌, [], ◌∷◌, ℕ, List, arith, length, ap, sym}
use Rattle.table_core.specs.DebugUnits.{Walked, units_from, unit_length}
use Rattle.table_core.proofs.UnitsWalk.{next_unit, last_unit, no_unit, units_end}
use Rattle.table_core.proofs.debug_unit.debug_units.Goals as goal

pub returns-then-is_empty : goal.returns-then-is_empty
returns-then-is_empty c =
    let z : length c.loop-count.left.now ≡ 0 = search rules in
    sym (no_unit _ _ _ _ c.loop-count.units.items z) ∙ c.loop-count.invariant.0

pub loop-count-preserved : goal.loop-count-preserved
loop-count-preserved c =
    let some : 0 < length c.loop-count.left.now = search rules in
    let left : List ℕ = c.loop-count.left.now in
    let rest : List ℕ = c.in-Some.rest.now in
    let n : ℕ = length c.args.section.now in
    let size : length rest + (unit_length left + 4) ≡ length left = c.in-Some.ensures.size in
    let to : ℕ = c.loop-count.place + (length left - length rest) in
    let to_is : to ≡ c.loop-count.place + (unit_length left + 4) = omega arith in
    let inside : c.loop-count.place + length left ≡ n = c.loop-count.invariant.1 in (
      ap (λ (us : List Walked). us ++ units_from (n - (c.loop-count.count + 1)) c.args.version to rest)
          (c.in_ok-push.ensures.items ∙ ap (λ (u : Walked). c.loop-count.units.items ++ u ∷ []) c.unit_at.ensures)
          ∙ sym (next_unit n c.loop-count.count c.args.version c.loop-count.place to left rest c.loop-count.units.items
          c.loop-count-test.true some
          c.in-Some.ensures.is.0 c.in-Some.ensures.is.1 to_is)
          ∙ c.loop-count.invariant.0,
      omega arith,
    )

pub returns-in_default : goal.returns-in_default
returns-in_default c =
    let some : 0 < length c.loop-count.left.now = search rules in
    c.in_ok-push.ensures.items ∙ ap (λ (u : Walked). c.loop-count.units.items ++ u ∷ []) c.unit_at.ensures
    ∙ sym (last_unit (length c.args.section.now) c.loop-count.count c.args.version c.loop-count.place c.loop-count.left.now
    c.loop-count.units.items
    c.loop-count-test.true some c.in_default.ensures.is)
    ∙ c.loop-count.invariant.0

pub returns : goal.returns
returns c =
    let h : length c.args.section.now ≤ c.loop-count.count = search rules in
    sym (units_end _ c.loop-count.count _ _ _ c.loop-count.units.items h) ∙ c.loop-count.invariant.0
