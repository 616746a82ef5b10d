use Rattle.std.proofs.Common.{◌∙◌, ℕ, List, ap, arith, subst}
use Rattle.std.specs.Prelude.{find}
use Rattle.std.proofs.lemmas.Result.{err_from_is_err_and}
use Rattle.rb_bytes.specs.FirstFault.{IsAnswered, IsFree}
use Rattle.table_core.specs.DebugUnits.{Walked, first_place, walked}
use Rattle.dw_unit.specs.Faults.{FaultPlaces, HasDwarfFault}
use Rattle.addr_rewrite.specs.Aranges.{address_tables}
use Rattle.addr_rewrite.specs.ArangesReading.{AreTables}
use Rattle.addr_rewrite.specs.declared.unit_range.UnitRange.{UnitRange}
use Rattle.addr_rewrite.proofs.FreePlaces.{places_joined}
use Rattle.addr_rewrite.proofs.FlatTables.{holds, unit_of, unit_found}
use Rattle.addr_rewrite.proofs.SmallUnits.{units_small}
use Rattle.addr_rewrite.proofs.index_reader.read_index.Goals as goal

pub returns-in_err-refused-clause-fault : goal.returns-in_err-refused-clause-fault
returns-in_err-refused-clause-fault c =
    let section : List ℕ = c.args.section.now in
    let tables : AreTables (walked 2 section) c.in_ok-read.read =
    subst (λ (ws : List Walked). AreTables ws c.in_ok-read.read) (c.deref.ensures.value ∙ c.in_ok-tables.ensures) c.in_ok-read.ensures in
    let p = err_from_is_err_and c.from_residual-in_err-refused.result c.from_residual-in_err-refused.ensures.1 in
    rw (p.1, p.2) (λ units are.
    let same =
    places_joined units (record {
      version = c.args.units.version;
      form = c.args.units.form;
      high = c.args.units.high;
      bad = c.args.units.bad;
    }) section _ _ _ _ are c.or-version.ensures
    (c.other_version-other.ensures ∙ ap (first_place (λ (w : Walked). w.is_other)) (c.deref-2.ensures.value ∙ c.in_ok-tables.ensures))
    c.or-bad.ensures tables.bad in
    subst (λ (q : FaultPlaces). IsAnswered (HasDwarfFault q) c.in_err-refused.field-0.0) same c.in_err-refused.ensures.fault)

pub returns-clause-free : goal.returns-clause-free
returns-clause-free c = λ units are.
    let section : List ℕ = c.args.section.now in
    let tables : AreTables (walked 2 section) c.in_ok-read.read =
    subst (λ (ws : List Walked). AreTables ws c.in_ok-read.read) (c.deref.ensures.value ∙ c.in_ok-tables.ensures) c.in_ok-read.ensures in
    let same =
    places_joined units (record {
      version = c.args.units.version;
      form = c.args.units.form;
      high = c.args.units.high;
      bad = c.args.units.bad;
    }) section _ _ _ _ are c.or-version.ensures
    (c.other_version-other.ensures ∙ ap (first_place (λ (w : Walked). w.is_other)) (c.deref-2.ensures.value ∙ c.in_ok-tables.ensures))
    c.or-bad.ensures tables.bad in
    subst (λ (q : FaultPlaces). IsFree (HasDwarfFault q)) same c.in_ok-refused.ensures.free

pub returns-clause-kept : goal.returns-clause-kept
returns-clause-kept c =
    let section : List ℕ = c.args.section.now in
    let tables : AreTables (walked 2 section) c.in_ok-read.read =
    subst (λ (ws : List Walked). AreTables ws c.in_ok-read.read) (c.deref.ensures.value ∙ c.in_ok-tables.ensures) c.in_ok-read.ensures in
    record {
      found = λ a. c.in_ok-index.ensures a
          ∙ ap (λ (es : List UnitRange). unit_of a (find (holds a) es)) (c.deref-3.ensures.value ∙ tables.ranges)
          ∙ unit_found a (address_tables section);
      small = units_small section (λ k. omega (arith, c.type_inv.section k));
    }
