-- The fault of the sections of ranges that is reported, and the result if there is none.
use Rattle.std.proofs.Common.{◌≡◌, ◌∙◌, ℕ, Bool, true, false, cond, List, [], ◌∷◌, Option, Some, None, refl, sym, ap, map, filter}
use Rattle.std.specs.Prelude.{find, flat_map, not, option_map}
use Rattle.std.specs.Option.{option_or, option_map_or}
use Rattle.rb_bytes.specs.FirstFault.{IsFree}
use Rattle.rb_bytes.specs.declared.fault.FaultKind.TheVariants as fault
use Rattle.answer_runs.specs.Choices.{lower, least}
use Rattle.table_core.specs.DebugUnits.{Walked, walked, first_place}
use Rattle.dw_unit.specs.Faults.{HasDwarfFault, bad_address_table}
use Rattle.dw_unit.specs.CompUnits.{units}
use Rattle.dw_unit.proofs.Leasts.{least-append}
use Rattle.list_units.specs.declared.range_reading.Progress.{Progress}
use Rattle.dw_lists.specs.Faults.{ListSections, range_places, is_list_table, bad_list_tables, bad_table}
use Rattle.dw_lists.specs.Lists.{ranges_kind}
use Rattle.list_units.specs.RangeReading.{IsProgress, is_bad_unit, AreRangesOf}
use Rattle.list_units.proofs.CoveringEntries.{held_are}

-- If nothing passes a test, nothing passes a stronger one.
pub place_none : (p q : Walked → Bool) → ((w : Walked) → p w ≡ true → q w ≡ true) → (ws : List Walked) →
    first_place q ws ≡ None → first_place p ws ≡ None
place_none p q weaker [] e = refl
place_none p q weaker (w ∷ ws) e = by (p w) refl (q w) refl e (place_none p q weaker ws)
  where
    by : (b : Bool) → p w ≡ b → (c : Bool) → q w ≡ c →
        option_map (λ (u : Walked). u.place) (cond c (Some w) (find q ws)) ≡ None →
        (first_place q ws ≡ None → first_place p ws ≡ None) →
        option_map (λ (u : Walked). u.place) (cond b (Some w) (find p ws)) ≡ None
    by true e true f none more = absurd (cc)
    by true e false f none more = absurd (let g = weaker w e in let c : true ≡ false = sym g ∙ f in cc)
    by false e true f none more = absurd (cc)
    by false e false f none more = more none

abbrev pub of_tables : ListSections → List ℕ
of_tables s = map (λ (w : Walked). w.place) (filter (λ (w : Walked). not (option_map_or is_list_table w.bytes false)) (walked 5 s.ranges))

abbrev of_units : ListSections → Option ℕ
of_units s = first_place (is_bad_unit s) (walked 5 s.units.info)

-- Units come first, then address tables, then tables of lists.
pub bad_is : (s : ListSections) (p : Progress) (o : Option ℕ) → IsProgress s (walked 5 s.units.info) p → o ≡ least (of_tables s) →
    option_or p.bad (option_or (bad_address_table s.units.addr) (lower o p.bad_table)) ≡ (range_places s).bad
bad_is s p o are tables = by_bad p.bad refl
  where
    by_bad : (x : Option ℕ) → p.bad ≡ x →
        option_or x (option_or (bad_address_table s.units.addr) (lower o p.bad_table)) ≡ (range_places s).bad
    by_bad (Some n) e = ap (λ (x : Option ℕ). option_or x (option_or (bad_address_table s.units.addr)
        (bad_table ranges_kind s.ranges s.units))) (sym e ∙ are.bad)
    by_bad None e =
        ap (option_or (bad_address_table s.units.addr))
        ((λ i. lower (tables i) ((are.gathered e).bad i))
        ∙ sym (least-append (of_tables s) (flat_map (bad_list_tables ranges_kind s.ranges s.units.addr) (units s.units))))
        ∙ ap (λ (x : Option ℕ). option_or x (option_or (bad_address_table s.units.addr) (bad_table ranges_kind s.ranges s.units)))
        (sym e ∙ are.bad)

pub left_none : (a b : Option ℕ) → option_or a b ≡ None → a ≡ None
left_none None b e = refl
left_none (Some n) b e = absurd (cc)

-- Without a fault all entries were read.
pub ranges_read : (s : ListSections) (p : Progress) → IsProgress s (walked 5 s.units.info) p → IsFree (HasDwarfFault (range_places s)) →
    AreRangesOf s p.groups p.ranged.items p.indexed.items
ranges_read s p are free =
    let none : p.bad ≡ None = are.bad ∙ left_none (of_units s) (option_or (bad_address_table s.units.addr)
    (bad_table ranges_kind s.ranges s.units))
    (no_bad (range_places s).bad refl) in
    record {
      free = free;
      numbered = are.numbered;
      within = are.within;
      seen = (are.gathered none).seen;
      held = λ a. held_are s p.groups.covers.items p.ranged.items a ((are.gathered none).seen a);
      indexes = (are.gathered none).indexes;
    }
  where
    no_bad : (o : Option ℕ) → (range_places s).bad ≡ o → o ≡ None
    no_bad None e = refl
    no_bad (Some place) e = absurd (free fault.DwarfFault place e)
