use Rattle.std.proofs.Common.{◌≡◌, ◌∙◌, ◌<◌, ◌≤◌, ℕ, List, Some, None, false, ap, refl, sym, subst, take, get_or, length}
use Rattle.std.specs.Prelude.{slice_get}
use Rattle.std.proofs.lemmas.List.{take_more, take_all}
use Rattle.std.proofs.lemmas.Option.{slice_get-get_or}
use Rattle.table_core.specs.DebugUnits.{Walked}
use Rattle.dw_unit.specs.UnitFaults.{AreNoted}
use Rattle.addr_rewrite.proofs.unit_faults.noted.Goals as goal

abbrev no_unit : Walked
no_unit = record { place = 0; bytes = None; is_other = false }

pub loop-number-init : goal.loop-number-init
loop-number-init c = record { form = refl; high = refl; unformed_are = refl; bad = refl }

pub loop-number-preserved : goal.loop-number-preserved
loop-number-preserved c =
    let r = c.args.reader.now in
    let ws : List Walked = r.units in
    let n : ℕ = c.loop-number.number in
    let w : Walked = get_or ws n no_unit in
    let below : n < length ws = subst (λ (l : List Walked). n < length l) c.units-units.ensures c.loop-number-test.true in
    let there : slice_get ws n ≡ Some w = slice_get-get_or ws n no_unit below in
    let place : w.place ≡ c.place_of-place.result =
    sym (c.place_of-place.ensures w (ap (λ (l : List Walked). slice_get l n) c.units-units.ensures ∙ there)) in
    subst (λ (l : List Walked). AreNoted r.abbrevs r.addr l c.with_unit-faults.result) (sym (take_more ws n no_unit below))
    (c.with_unit-faults.ensures r.abbrevs r.addr (take n ws) w place c.loop-number.invariant (c.in_ok-reading.ensures w there))

pub returns : goal.returns
returns c =
    let r = c.args.reader.now in
    subst (λ (l : List Walked). AreNoted r.abbrevs r.addr l c.loop-number.faults)
    (take_all c.loop-number.number r.units (subst (λ (l : List Walked). length l ≤ c.loop-number.number) c.units-units.ensures
    c.loop-number-test.false))
    c.loop-number.invariant
