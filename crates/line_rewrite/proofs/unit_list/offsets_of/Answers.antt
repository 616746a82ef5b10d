use Rattle.std.proofs.Common.{◌≡◌, ◌∙◌, ap, subst, map, ℕ, List, IfOk}
use Rattle.std.specs.Prelude.{position}
use Rattle.std.proofs.lemmas.List.{take_all}
use Rattle.answer_runs.specs.declared.range.Range.{Range}
use Rattle.answer_runs.specs.AddressRanges.{holds_address}
use Rattle.answer_runs.specs.FirstRanges.{first_range}
use Rattle.table_core.specs.DebugUnits.{walked}
use Rattle.line_rewrite.specs.UnitLists.{place_range}
use Rattle.line_rewrite.proofs.Indexing.{ranges_more}
use Rattle.line_rewrite.proofs.unit_list.offsets_of.Goals as goal

pub loop-unit-init : goal.loop-unit-init
loop-unit-init c = c.new-ranges.ensures.items

pub loop-unit-preserved : goal.loop-unit-preserved
loop-unit-preserved c =
    ranges_more c.deref-unit-items.result.now c.loop-unit.unit-index c.unit-item.result _ c.loop-unit.ranges.items c.push.new.self.items
    c.loop-unit-test.true
    c.loop-unit.invariant c.unit.view_is c.unit-item.is c.in_ok-push.ensures.items

pub returns : goal.returns
returns c =
    let all : c.deref.result.now ≡ map place_range (walked 5 c.args.line.now) =
    c.deref.ensures.value ∙ c.loop-unit.invariant
    ∙ ap (map place_range) (take_all c.loop-unit.unit-index c.deref-unit-items.result.now c.loop-unit-test.false
    ∙ c.deref-unit-items.ensures.value ∙ c.in_ok-walked.ensures) in
    subst (λ (rs : List Range). IfOk c.new.result (λ index. (a : ℕ) → first_range index a ≡ position (holds_address a) rs)) all
    c.new.ensures
