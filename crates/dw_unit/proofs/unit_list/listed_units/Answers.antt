use Rattle.std.proofs.Common.{◌≡◌, ◌∙◌, ◌<◌, ◌^◌, All, List, ℕ, arith, sym, subst}
use Rattle.std.proofs.lemmas.Result.{err_from_is_err_and}
use Rattle.table_core.specs.DebugUnits.{Walked, walked}
use Rattle.rb_bytes.specs.FirstFault.{IsFree, IsAnswered}
use Rattle.dw_unit.specs.CompUnits.{Sections, end_of, size_of}
use Rattle.dw_unit.specs.Faults.{FaultPlaces, HasDwarfFault, unit_fault_places}
use Rattle.dw_unit.specs.ListedUnits.{sections}
use Rattle.dw_unit.specs.UnitFaults.{AreNoted}
use Rattle.dw_unit.specs.declared.unit_faults.UnitFaults.{UnitFaults}
use Rattle.dw_unit.specs.UnitReadings.{AreReadings}
use Rattle.dw_unit.proofs.MapKeys.{named_keys}
use Rattle.dw_unit.proofs.UnitEnds.{walked_ends, walked_short}
use Rattle.dw_unit.proofs.UnitReadings.{all_listed}
use Rattle.dw_unit.proofs.unit_list.listed_units.Goals.{After-fault_places-places}
use Rattle.dw_unit.proofs.unit_list.listed_units.Goals as goal

-- After the places of faults were found.
module _ (c : After-fault_places-places) where
  abbrev given : Sections
  given = sections c.args.info.now c.args.abbrevs.now c.args.addr.now

  abbrev answered : FaultPlaces
  answered = record {
    version = c.fault_places-places.result.version;
    form = c.fault_places-places.result.form;
    high = c.fault_places-places.result.high;
    bad = c.fault_places-places.result.bad;
  }

  units : c.deref-4.result.now ≡ walked 5 c.args.info.now
  units = c.deref-4.ensures.value ∙ c.in_ok-units.ensures

  read : AreReadings c.args.abbrevs.now c.args.addr.now (walked 5 c.args.info.now) c.in_ok-readings.readings
  read =
      subst (λ (us : List Walked). AreReadings c.args.abbrevs.now c.args.addr.now us c.in_ok-readings.readings)
      (c.deref-3.ensures.value ∙ c.in_ok-units.ensures)
      (subst (λ (a : List ℕ). AreReadings a c.args.addr.now c.deref-3.result.now c.in_ok-readings.readings) c.in_ok-tables.ensures.section
      c.in_ok-readings.ensures)

  abbrev faults : UnitFaults
  faults = record {
    bad_form = c.in_ok-readings.readings.bad_form;
    bad_high = c.in_ok-readings.readings.bad_high;
    unformed = c.in_ok-readings.readings.unformed;
    bad = c.in_ok-readings.readings.bad;
  }

  noted : AreNoted c.args.abbrevs.now c.args.addr.now (walked 5 c.args.info.now) faults
  noted = record { form = read.form; high = read.high; unformed_are = read.unformed; bad = read.bad }

  same : answered ≡ unit_fault_places given
  same =
      c.fault_places-places.ensures given units (c.deref-5.ensures.value ∙ c.in_ok-address_tables.ensures)
      (subst (λ (us : List Walked). AreNoted c.args.abbrevs.now c.args.addr.now us faults) (sym units) noted)

pub returns-in_err-refused-clause-fault : goal.returns-in_err-refused-clause-fault
returns-in_err-refused-clause-fault c =
    let p = err_from_is_err_and c.from_residual-in_err-refused.result c.from_residual-in_err-refused.ensures.1 in
    rw (p.1, p.2) (subst (λ (p : FaultPlaces). IsAnswered (HasDwarfFault p) c.in_err-refused.field-0.0)
    (same (goal.at.returns-in_err-refused-clause-fault c).After-fault_places-places) c.in_err-refused.ensures.fault)

pub returns-clause-entries : goal.returns-clause-entries
returns-clause-entries c =
    let at = (goal.at.returns-clause-entries c).After-fault_places-places in
    all_listed (given at) c.in_ok-readings.readings (read at)
    (subst (λ (p : FaultPlaces). IsFree (HasDwarfFault p)) (same at) c.in_ok-refused.ensures.free)

pub returns-clause-sound : goal.returns-clause-sound
returns-clause-sound c =
    subst (λ (p : FaultPlaces). IsFree (HasDwarfFault p)) (same (goal.at.returns-clause-sound c).After-fault_places-places)
    c.in_ok-refused.ensures.free

pub read_units-requires-clause-named : goal.read_units-requires-clause-named
read_units-requires-clause-named c =
    named_keys c.in_ok-tables.tables.starts c.deref-2.result.now c.in_ok-offsets.offsets.items c.deref.result.now c.deref-3.result.now
    c.in_ok-units.units.items
    c.deref-2.ensures.value c.deref.ensures.value c.deref-3.ensures.value c.in_ok-tables.ensures.found c.in_ok-offsets.ensures.named

pub read_units-requires-clause-within : goal.read_units-requires-clause-within
read_units-requires-clause-within c =
    subst (λ (ws : List Walked). All (λ w. end_of w < 2 ^ 64) ws) (sym (c.deref-3.ensures.value ∙ c.in_ok-units.ensures))
    (walked_ends 5 c.args.info.now (omega arith))

pub read_units-requires-clause-short : goal.read_units-requires-clause-short
read_units-requires-clause-short c =
    subst (λ (ws : List Walked). All (λ w. size_of w < 2 ^ 32) ws) (sym (c.deref-3.ensures.value ∙ c.in_ok-units.ensures))
    (walked_short 5 c.args.info.now (λ k. omega (arith, c.type_inv.info k)))
