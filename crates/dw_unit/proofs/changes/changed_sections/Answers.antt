use Rattle.std.proofs.Common.{◌≡◌, ◌∙◌, ◌<◌, ◌^◌, ℕ, All, List, ap, arith, sym, subst, map, length, nat_lt}
use Rattle.std.specs.Prelude.{filter, flat_map}
use Rattle.std.specs.List.{list_any}
use Rattle.table_core.specs.DebugUnits.{Walked, walked}
use Rattle.table_core.specs.ReadSteps.{oks}
use Rattle.dw_unit.specs.Changes.{patched, table_bytes, table_offsets, unit_patches}
use Rattle.dw_unit.specs.CompUnits.{end_of, unit_of, units}
use Rattle.dw_unit.specs.Declarations.{has_bad_high}
use Rattle.dw_unit.specs.Faults.{declarations_of}
use Rattle.dw_unit.specs.MapKeys.{HasKeys}
use Rattle.dw_unit.specs.NamedOffsets.{is_named_by}
use Rattle.dw_unit.specs.OwnPlaces.{AreOwn}
use Rattle.dw_unit.proofs.MapKeys.{named_keys}
use Rattle.dw_unit.proofs.NamedOffsets.{offsets_are}
use Rattle.dw_unit.proofs.OwnSections.{are_own}
use Rattle.dw_unit.proofs.UnitEnds.{walked_ends}
use Rattle.dw_unit.proofs.changes.changed_sections.Goals as goal

pub returns-clause-info : goal.returns-clause-info
returns-clause-info c = λ s m info abbrevs free moves.
    let os : List ℕ = c.in_ok-offsets.offsets.items in
    let named = λ (q : ℕ). c.in_ok-offsets.ensures.named q ∙ ap (is_named_by q) (c.deref.ensures.value ∙ c.in_ok-units.ensures
    ∙ ap (walked 5) (sym info)) in
    let os_are : table_offsets s ≡ os = offsets_are s os free c.in_ok-offsets.ensures.rising named in
    let section : s.abbrevs ≡ c.in_ok-tables.tables.section.now = abbrevs ∙ sym c.in_ok-tables.ensures.section in
    let own : AreOwn s c.in_ok-own.own = are_own s c.in_ok-own.own c.in_ok-tables.tables.section.now c.deref-3.result.now section
    (c.deref-3.ensures.value ∙ c.in_ok-units.ensures ∙ ap (walked 5) (sym info)) c.in_ok-own.ensures in
    c.in_ok-changed.ensures s m (record {
      moves = moves;
      abbrevs = section;
      own = own;
      offsets = λ q n e. c.in_ok-written.ensures.offsets s section own q n e
          ∙ ap (λ (os : List ℕ). length (flat_map (table_bytes s) (filter (λ o. nat_lt o q) os))) (c.deref-4.ensures.value ∙ sym os_are);
    })
    ∙ ap (λ (ws : List Walked). patched 0 (flat_map (unit_patches s m) (oks (map (unit_of s.abbrevs) ws))) c.args.info.now)
    (c.deref-5.ensures.value ∙ c.in_ok-units.ensures ∙ ap (walked 5) (sym info))
    ∙ ap (λ (l : List ℕ). patched 0 (flat_map (unit_patches s m) (units s)) l) (sym info)

pub returns-clause-abbrevs : goal.returns-clause-abbrevs
returns-clause-abbrevs c = λ s info abbrevs free.
    let os : List ℕ = c.in_ok-offsets.offsets.items in
    let named = λ (q : ℕ). c.in_ok-offsets.ensures.named q ∙ ap (is_named_by q) (c.deref.ensures.value ∙ c.in_ok-units.ensures
    ∙ ap (walked 5) (sym info)) in
    let os_are : table_offsets s ≡ os = offsets_are s os free c.in_ok-offsets.ensures.rising named in
    let section : s.abbrevs ≡ c.in_ok-tables.tables.section.now = abbrevs ∙ sym c.in_ok-tables.ensures.section in
    let own : AreOwn s c.in_ok-own.own = are_own s c.in_ok-own.own c.in_ok-tables.tables.section.now c.deref-3.result.now section
    (c.deref-3.ensures.value ∙ c.in_ok-units.ensures ∙ ap (walked 5) (sym info)) c.in_ok-own.ensures in
    c.in_ok-written.ensures.bytes s section own ∙ ap (flat_map (table_bytes s)) (c.deref-4.ensures.value ∙ sym os_are)

pub own_declarations-requires-clause-named : goal.own_declarations-requires-clause-named
own_declarations-requires-clause-named c =
    named_keys c.in_ok-tables.tables.starts c.deref-2.result.now c.in_ok-offsets.offsets.items c.deref.result.now c.deref-3.result.now
    c.in_ok-units.units.items
    c.deref-2.ensures.value c.deref.ensures.value c.deref-3.ensures.value c.in_ok-tables.ensures.found c.in_ok-offsets.ensures.named

pub own_declarations-requires-clause-within : goal.own_declarations-requires-clause-within
own_declarations-requires-clause-within c =
    subst (λ (ws : List Walked). All (λ w. end_of w < 2 ^ 64) ws) (sym (c.deref-3.ensures.value ∙ c.in_ok-units.ensures))
    (walked_ends 5 c.args.info.now (omega arith))

pub new_tables-requires-clause-read : goal.new_tables-requires-clause-read
new_tables-requires-clause-read c =
    subst (λ (os : List ℕ). HasKeys c.in_ok-tables.tables.starts os) (c.deref-2.ensures.value ∙ sym c.deref-4.ensures.value)
    c.in_ok-tables.ensures.found

pub changed_units-requires-clause-fine : goal.changed_units-requires-clause-fine
changed_units-requires-clause-fine c =
    ap (λ (ws : List Walked). list_any has_bad_high (flat_map (declarations_of c.in_ok-tables.tables.section.now) ws))
    (c.deref-5.ensures.value ∙ c.in_ok-units.ensures)
    ∙ ap (λ (a : List ℕ). list_any has_bad_high (flat_map (declarations_of a) (walked 5 c.args.info.now))) c.in_ok-tables.ensures.section
    ∙ c.requires.fine

pub changed_units-requires-clause-named : goal.changed_units-requires-clause-named
changed_units-requires-clause-named c =
    named_keys c.in_ok-tables.tables.starts c.deref-2.result.now c.in_ok-offsets.offsets.items c.deref.result.now c.deref-5.result.now
    c.in_ok-units.units.items
    c.deref-2.ensures.value c.deref.ensures.value c.deref-5.ensures.value c.in_ok-tables.ensures.found c.in_ok-offsets.ensures.named

pub changed_units-requires-clause-written : goal.changed_units-requires-clause-written
changed_units-requires-clause-written c =
    named_keys c.in_ok-written.written.offsets c.deref-4.result.now c.in_ok-offsets.offsets.items c.deref.result.now c.deref-5.result.now
    c.in_ok-units.units.items
    c.deref-4.ensures.value c.deref.ensures.value c.deref-5.ensures.value c.in_ok-written.ensures.found c.in_ok-offsets.ensures.named
