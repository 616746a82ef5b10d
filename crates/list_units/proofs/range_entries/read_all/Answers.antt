use Rattle.std.proofs.Common.{◌≡◌, ◌∙◌, ◌<◌, ◌≤◌, ℕ, List, Some, None, false, ap, sym, subst, take, get_or, length}
use Rattle.std.specs.Prelude.{slice_get}
use Rattle.std.proofs.lemmas.List.{take_more, take_all}
use Rattle.std.proofs.lemmas.Option.{slice_get-get_or}
use Rattle.table_core.specs.DebugUnits.{Walked, walked}
use Rattle.dw_unit.specs.ReaderSections.{ReaderSections}
use Rattle.dw_unit.specs.UnitReadings.{IsReading}
use Rattle.list_units.specs.RangeReading.{IsProgress}
use Rattle.list_units.proofs.range_entries.read_all.Goals as goal

abbrev no_unit : Walked
no_unit = record { place = 0; bytes = None; is_other = false }

pub loop-number-preserved : goal.loop-number-preserved
loop-number-preserved c = λ s b a same.
    let ws : List Walked = walked 5 s.units.info in
    let n : ℕ = c.loop-number.number in
    let w : Walked = get_or ws n no_unit in
    let units : c.units-units.result.now ≡ ws = c.units-units.ensures ∙ ap (λ (r : ReaderSections). r.units) same in
    let below : n < length ws = subst (λ (l : List Walked). n < length l) units c.loop-number-test.true in
    let there : slice_get ws n ≡ Some w = slice_get-get_or ws n no_unit below in
    let reads : IsReading s.units.abbrevs s.units.addr w c.in_ok-reading.reading =
    subst (λ (r : ReaderSections). IsReading r.abbrevs r.addr w c.in_ok-reading.reading) same
    (c.in_ok-reading.ensures w (ap (λ (r : ReaderSections). slice_get r.units n) same ∙ there)) in
    let place : w.place ≡ c.place_of-place.result =
    sym (c.place_of-place.ensures w (ap (λ (l : List Walked). slice_get l n) units ∙ there)) in
    subst (λ (l : List Walked). IsProgress s l c.add_reading.new.progress) (sym (take_more ws n no_unit below))
    (c.in_ok-add_reading.ensures s (take n ws) w place b a (c.loop-number.invariant s b a same) reads)

pub returns : goal.returns
returns c = λ s b a same.
    let ws : List Walked = walked 5 s.units.info in
    let n : ℕ = c.loop-number.number in
    let units : c.units-units.result.now ≡ ws = c.units-units.ensures ∙ ap (λ (r : ReaderSections). r.units) same in
    subst (λ (l : List Walked). IsProgress s l c.loop-number.progress)
    (take_all n ws (subst (λ (l : List Walked). length l ≤ n) units c.loop-number-test.false)) (c.loop-number.invariant s b a same)

pub loop-number-init : goal.loop-number-init
loop-number-init c = λ s b a same. c.nothing-progress.ensures s
