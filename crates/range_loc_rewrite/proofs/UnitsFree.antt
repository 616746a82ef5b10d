-- If sections of ranges have no fault, their units have none.
use Rattle.std.proofs.Common.{◌≡◌, ◌∙◌, ◌||◌, ℕ, Bool, true, false, List, [], ◌∷◌, Option, Some, None, refl, ap}
use Rattle.std.specs.Prelude.{if◌then◌else◌, option_map}
use Rattle.std.specs.List.{find}
use Rattle.std.specs.Option.{option_or}
use Rattle.rb_bytes.specs.FirstFault.{IsFree}
use Rattle.rb_bytes.proofs.Options.{both_none}
use Rattle.table_core.specs.DebugUnits.{Walked, walked, first_place, other_version}
use Rattle.dw_unit.specs.CompUnits.{unit_of}
use Rattle.dw_unit.specs.Faults.{HasDwarfFault, unit_fault_places, is_bad, bad_address_table}
use Rattle.dw_unit.proofs.NoFaults.{AreAbsent, absent, free_of, no_first}
use Rattle.dw_lists.specs.Faults.{ListSections, range_places, has_bad_offset, bad_table}
use Rattle.dw_lists.specs.Lists.{ranges_kind}

pub none_less : (p q : Walked → Bool) (ws : List Walked) → find (λ w. p w || q w) ws ≡ None → find p ws ≡ None
none_less p q [] e = refl
none_less p q (w ∷ ws) e = step (p w) (q w) e (none_less p q ws)
  where
    step : (a b : Bool) → (if a || b then Some w else find (λ w. p w || q w) ws) ≡ None →
        (find (λ w. p w || q w) ws ≡ None → find p ws ≡ None) →
        (if a then Some w else find p ws) ≡ None
    step true b f ih = absurd (cc)
    step false true f ih = absurd (cc)
    step false false f ih = ih f

pub units_free : (s : ListSections) → IsFree (HasDwarfFault (range_places s)) → IsFree (HasDwarfFault (unit_fault_places s.units))
units_free s free =
    let none : AreAbsent (range_places s) = absent (range_places s) free in
    let units : List Walked = walked 5 s.units.info in
    let bad = both_none (first_place (λ w. is_bad s.units w || has_bad_offset ranges_kind s.ranges (unit_of s.units.abbrevs w)) units)
    (option_or (bad_address_table s.units.addr) (bad_table ranges_kind s.ranges s.units)) none.bad in
    let later = both_none (bad_address_table s.units.addr) (bad_table ranges_kind s.ranges s.units) bad.1 in
    let good : first_place (is_bad s.units) units ≡ None =
    ap (option_map (λ (u : Walked). u.place))
    (none_less (is_bad s.units) (λ w. has_bad_offset ranges_kind s.ranges (unit_of s.units.abbrevs w)) units
    (no_first (λ w. is_bad s.units w || has_bad_offset ranges_kind s.ranges (unit_of s.units.abbrevs w)) units bad.0)) in
    free_of (unit_fault_places s.units) (record {
      version = (both_none (option_or (other_version 5 s.units.info) (other_version 5 s.units.addr))
          (other_version 5 s.ranges) none.version).0;
      form = none.form;
      high = none.high;
      bad = ap (λ (o : Option ℕ). option_or o (bad_address_table s.units.addr)) good ∙ later.0;
    })
