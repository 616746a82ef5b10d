-- The result of reading some tables and the next one.
use Rattle.std.proofs.Common.{◌≡◌, ◌∙◌, ◌++◌, ◌∷◌, [], Bool, List, Some, Result, Ok, Err, sym, ap, map}
use Rattle.std.specs.Prelude.{not}
use Rattle.std.specs.Option.{option_or}
use Rattle.std.proofs.lemmas.List.{append-nil, map-append}
use Rattle.table_core.specs.DebugUnits.{Walked}
use Rattle.table_core.specs.ReadSteps.{is_ok, oks}
use Rattle.dw_unit.specs.declared.trouble.Trouble.{Trouble}
use Rattle.dw_unit.proofs.UnitReadings.{oks-append, flat-more}
use Rattle.addr_rewrite.specs.Aranges.{AddressTable, table_of}
use Rattle.addr_rewrite.specs.ArangesReading.{AreTables, all_entries, entries_of}
use Rattle.addr_rewrite.specs.declared.table_list.ReadTables.{ReadTables}
use Rattle.addr_rewrite.specs.declared.unit_range.UnitRange.{UnitRange}
use Rattle.addr_rewrite.proofs.FirstPlaces.{first_stays, first_found}

abbrev is_bad : Walked → Bool
is_bad w = not (is_ok (table_of w))

oks_more : (ws : List Walked) (w : Walked) →
    oks (map table_of (ws ++ w ∷ [])) ≡ oks (map table_of ws) ++ oks (table_of w ∷ [])
oks_more ws w = ap oks (map-append table_of ws (w ∷ [])) ∙ oks-append (map table_of ws) (table_of w ∷ [])

module _ (ws : List Walked) (w : Walked) (old new : ReadTables) (are : AreTables ws old) where
  pub table_added : (t : AddressTable) → table_of w ≡ Ok t → new.ranges.items ≡ old.ranges.items ++ entries_of t → new.bad ≡ old.bad →
      AreTables (ws ++ w ∷ []) new
  table_added t is ranges bad = record {
    ranges = ranges ∙ ap (λ (es : List UnitRange). es ++ entries_of t) are.ranges
        ∙ sym (flat-more entries_of (oks (map table_of ws)) t)
        ∙ sym (ap all_entries (oks_more ws w
        ∙ ap (λ (r : Result AddressTable Trouble). oks (map table_of ws) ++ oks (r ∷ [])) is));
    bad = bad ∙ first_stays is_bad ws w old.bad are.bad (ap (λ (r : Result AddressTable Trouble). not (is_ok r)) is);
  }

  pub table_failed : (e : Trouble) → table_of w ≡ Err e → new.ranges.items ≡ old.ranges.items → new.bad ≡ option_or old.bad (Some w.place) →
      AreTables (ws ++ w ∷ []) new
  table_failed e is ranges bad = record {
    ranges = ranges ∙ are.ranges
        ∙ sym (ap all_entries (oks_more ws w
        ∙ ap (λ (r : Result AddressTable Trouble). oks (map table_of ws) ++ oks (r ∷ [])) is
        ∙ append-nil (oks (map table_of ws))));
    bad = bad ∙ first_found is_bad ws w old.bad are.bad (ap (λ (r : Result AddressTable Trouble). not (is_ok r)) is);
  }
