use Rattle.std.proofs.Common.{◌<◌, ◌≤◌, ℕ, List, sym, subst, arith}
use Rattle.answer_runs.specs.declared.run.Run.{Run}
use Rattle.answer_runs.specs.AnswerRuns.{carried, AreRunsOf}
use Rattle.answer_runs.specs.Weights.{weight_limit}
use Rattle.dw_unit.specs.AbbrevWeight.{abbrev_weight}
use Rattle.dw_unit.specs.Tables.{sections_of}
use Rattle.line_rewrite.specs.LineAnswers.{LineSaid}
use Rattle.line_rewrite.specs.Tables.{IsLineWeight, LineSections, line_at}
use Rattle.range_loc_rewrite.specs.Faults.{ListSections}
use Rattle.range_loc_rewrite.specs.PlaceRuns.{ArePlaceRuns}
use Rattle.range_loc_rewrite.specs.Weights.{IsPlacesWeight, IsRangesWeight}
use Rattle.addr_rewrite.specs.Tables.{IsArangesWeight}
use Rattle.table_set.specs.TableLimits.{IsTooHeavy, lines, ranges, places, aranges, abbreviations}
use Rattle.table_set.proofs.TableWeights.{found_over, found_within, heavy, lines_light, ranges_light, places_light, aranges_light}
use Rattle.table_set.proofs.weights.weigh_all.Goals as goal

pub returns-then-ranges-gt-WEIGHT_LIMIT-clause-heavy : goal.returns-then-ranges-gt-WEIGHT_LIMIT-clause-heavy
returns-then-ranges-gt-WEIGHT_LIMIT-clause-heavy c =
    let h = heavy _ c.in_ok-ranges.ranges c.in_ok-ranges.ensures c.if-ranges-gt-WEIGHT_LIMIT.true in
    ranges h.0 (subst (λ (t : ListSections). IsRangesWeight t c.args.map.now h.0) c.requires.comes.ranges h.1) h.2

pub returns-then-expressions-gt-WEIGHT_LIMIT-clause-heavy : goal.returns-then-expressions-gt-WEIGHT_LIMIT-clause-heavy
returns-then-expressions-gt-WEIGHT_LIMIT-clause-heavy c =
    let are : ArePlaceRuns c.args.tables.now.places c.args.map.now c.deref.result.now =
    subst (ArePlaceRuns c.args.tables.now.places c.args.map.now) (sym c.deref.ensures.value) c.in_ok-places.ensures in
    let h = heavy _ c.weight_of-expressions.result (c.weight_of-expressions.ensures c.args.map.now are)
    c.if-expressions-gt-WEIGHT_LIMIT.true in
    places h.0 (subst (λ (t : ListSections). IsPlacesWeight t c.args.map.now h.0) c.requires.comes.places h.1) h.2

pub returns-then-aranges-gt-WEIGHT_LIMIT-clause-heavy : goal.returns-then-aranges-gt-WEIGHT_LIMIT-clause-heavy
returns-then-aranges-gt-WEIGHT_LIMIT-clause-heavy c =
    let h = heavy _ c.in_ok-aranges.aranges c.in_ok-aranges.ensures c.if-aranges-gt-WEIGHT_LIMIT.true in
    aranges h.0 (subst (λ (s : List ℕ). IsArangesWeight s c.args.map.now h.0) c.requires.comes.aranges h.1) h.2

pub returns-then-abbrevs-gt-WEIGHT_LIMIT-clause-heavy : goal.returns-then-abbrevs-gt-WEIGHT_LIMIT-clause-heavy
returns-then-abbrevs-gt-WEIGHT_LIMIT-clause-heavy c =
    abbreviations (found_over (abbrev_weight (sections_of c.args.elf.now)) c.in_ok-abbrevs.abbrevs c.in_ok-abbrevs.ensures
    c.if-abbrevs-gt-WEIGHT_LIMIT.true)

pub returns-then-rows-gt-WEIGHT_LIMIT-clause-heavy : goal.returns-then-rows-gt-WEIGHT_LIMIT-clause-heavy
returns-then-rows-gt-WEIGHT_LIMIT-clause-heavy c =
    let are : AreRunsOf (carried (line_at c.args.tables.now.lines) c.args.map.now) c.deref-2.result.now =
    subst (λ (rs : List (Run LineSaid)). AreRunsOf (carried (line_at c.args.tables.now.lines) c.args.map.now) rs)
    (sym c.deref-2.ensures.value) c.in_ok-lines.ensures.runs in
    let h = heavy _ c.weight_of-rows.result (c.weight_of-rows.ensures c.args.map.now are) c.if-rows-gt-WEIGHT_LIMIT.true in
    lines h.0 (subst (λ (t : LineSections). IsLineWeight t c.args.map.now h.0) c.requires.comes.lines h.1) h.2

pub returns-clause-light : goal.returns-clause-light
returns-clause-light c = λ heavy. by heavy
  where
    over : (n m : ℕ) → m ≤ n → n < m → ⊥
    over n m a b = omega (arith, a, b)

    are : AreRunsOf (carried (line_at c.args.tables.now.lines) c.args.map.now) c.deref-2.result.now
    are = subst (λ (rs : List (Run LineSaid)). AreRunsOf (carried (line_at c.args.tables.now.lines) c.args.map.now) rs)
        (sym c.deref-2.ensures.value) c.in_ok-lines.ensures.runs

    said : ArePlaceRuns c.args.tables.now.places c.args.map.now c.deref.result.now
    said = subst (ArePlaceRuns c.args.tables.now.places c.args.map.now) (sym c.deref.ensures.value) c.in_ok-places.ensures

    by : IsTooHeavy c.args.elf.now c.args.map.now → ⊥
    by (lines n is h) =
        lines_light c.args.tables.now.lines c.args.map.now c.weight_of-rows.result (c.weight_of-rows.ensures c.args.map.now are)
        (over weight_limit c.weight_of-rows.result c.if-rows-gt-WEIGHT_LIMIT.false) n
        (subst (λ (t : LineSections). IsLineWeight t c.args.map.now n) (sym c.requires.comes.lines) is) h
    by (ranges n is h) =
        ranges_light c.args.tables.now.ranges c.args.map.now c.in_ok-ranges.ranges c.in_ok-ranges.ensures
        (over weight_limit c.in_ok-ranges.ranges c.if-ranges-gt-WEIGHT_LIMIT.false) n
        (subst (λ (t : ListSections). IsRangesWeight t c.args.map.now n) (sym c.requires.comes.ranges) is) h
    by (places n is h) =
        places_light c.args.tables.now.places c.args.map.now c.weight_of-expressions.result
        (c.weight_of-expressions.ensures c.args.map.now said)
        (over weight_limit c.weight_of-expressions.result c.if-expressions-gt-WEIGHT_LIMIT.false) n
        (subst (λ (t : ListSections). IsPlacesWeight t c.args.map.now n) (sym c.requires.comes.places) is) h
    by (aranges n is h) =
        aranges_light c.args.tables.now.aranges c.args.map.now c.in_ok-aranges.aranges c.in_ok-aranges.ensures
        (over weight_limit c.in_ok-aranges.aranges c.if-aranges-gt-WEIGHT_LIMIT.false) n
        (subst (λ (s : List ℕ). IsArangesWeight s c.args.map.now n) (sym c.requires.comes.aranges) is) h
    by (abbreviations h) =
        found_within (abbrev_weight (sections_of c.args.elf.now)) c.in_ok-abbrevs.abbrevs c.in_ok-abbrevs.ensures
        (over weight_limit c.in_ok-abbrevs.abbrevs c.if-abbrevs-gt-WEIGHT_LIMIT.false) h
