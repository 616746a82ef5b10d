-- The result of reading the written tables.
use Rattle.std.proofs.Common.{◌≡◌, ◌∙◌, ◌<◌, ◌≤◌, ◌-◌, ◌+◌, ◌*◌, ◌^◌, ◌==◌, ◌++◌, ℕ, zero, suc, Bool, true, false, cond, List, [], ◌∷◌}
use Rattle.std.proofs.Common.{Some, None, Ok, Err, Result, refl, sym, ap, arith, length, take, drop, map, append_assoc, option_map}
use Rattle.std.specs.Prelude.{All, find, if◌then◌else◌, not}
use Rattle.std.specs.List.{list_any}
use Rattle.std.proofs.lemmas.Bool.Decides.{nat_tests}
use Rattle.std.proofs.lemmas.Grind.{common_steps}
use Rattle.std.proofs.lemmas.List.{map-append, take-append-drop}
use Rattle.byteorder.specs.Endian.{little_bytes}
use Rattle.answer_runs.specs.AddressRanges.{holds_address}
use Rattle.answer_runs.specs.declared.range.Range.{Range}
use Rattle.table_core.specs.WrittenUnits.{units_bytes, walked_units}
use Rattle.table_core.proofs.UnitsBack.{units-back}
use Rattle.table_core.specs.DebugUnits.{Walked, first_place, other_version, walked}
use Rattle.table_core.specs.ReadSteps.{is_ok, oks}
use Rattle.dw_unit.specs.declared.trouble.Trouble.{Trouble}
use Rattle.addr_rewrite.specs.Aranges.{AddressTable, address_tables, bad_table, table_in, table_of, unit_at}
use Rattle.addr_rewrite.specs.ArangesReading.{all_entries}
use Rattle.addr_rewrite.specs.WrittenAranges.{count_of, spelled_tables, tables_of}
use Rattle.addr_rewrite.specs.declared.stretch.Stretch.{Stretch}
use Rattle.addr_rewrite.specs.declared.unit_range.UnitRange.{UnitRange}
use Rattle.addr_rewrite.proofs.FlatTables.{holds, unit_of, unit_found}
use Rattle.addr_rewrite.proofs.RunUnits.{entry_of}
use Rattle.addr_rewrite.proofs.TablesBack.{IsWritten, all_told, all_units, range_of, sound, told_tables}

bytes_same : (bs : List (List ℕ)) → spelled_tables bs ≡ units_bytes bs
unfolding units_bytes
bytes_same [] = refl
bytes_same (b ∷ bs) =
    append_assoc (little_bytes 4 (length b)) b (spelled_tables bs)
    ∙ ap (λ (l : List ℕ). little_bytes 4 (length b) ++ (b ++ l)) (bytes_same bs)

abbrev Tables : Type 0
Tables = List (Result AddressTable Trouble)

walked_tables : (place : ℕ) (bs : List (List ℕ)) → map table_of (walked_units place bs) ≡ map table_in bs
unfolding walked_units
walked_tables place [] = refl
walked_tables place (b ∷ bs) = ap (λ (ts : Tables). table_in b ∷ ts) (walked_tables (place + (length b + 4)) bs)

sound_tables : (ts : List AddressTable) → oks (map sound ts) ≡ ts
sound_tables [] = refl
sound_tables (t ∷ ts) = ap (λ (l : List AddressTable). t ∷ l) (sound_tables ts)

none_other : (place : ℕ) (bs : List (List ℕ)) → first_place (λ (w : Walked). w.is_other) (walked_units place bs) ≡ None
unfolding walked_units
none_other place [] = refl
none_other place (b ∷ bs) = none_other (place + (length b + 4)) bs

none_bad : (ws : List Walked) (ts : List AddressTable) → map table_of ws ≡ map sound ts →
    first_place (λ (w : Walked). not (is_ok (table_of w))) ws ≡ None
none_bad [] ts e = refl
none_bad (w ∷ ws) [] e = absurd (cc)
none_bad (w ∷ ws) (t ∷ ts) e = by (table_of w) (head e) (none_bad ws ts (tail e)) where
  head : map table_of (w ∷ ws) ≡ map sound (t ∷ ts) → table_of w ≡ Ok t
  head e = cc

  tail : map table_of (w ∷ ws) ≡ map sound (t ∷ ts) → map table_of ws ≡ map sound ts
  tail e = cc

  by : (r : Result AddressTable Trouble) → r ≡ Ok t → first_place (λ (w : Walked). not (is_ok (table_of w))) ws ≡ None →
      option_map (λ (u : Walked). u.place) (cond (not (is_ok r)) (Some w) (find (λ (w : Walked). not (is_ok (table_of w))) ws)) ≡ None
  by (Ok x) is more = more
  by (Err e) is more = absurd (cc)

-- The ranges that are read are the stretches

abbrev as_entries : ℕ → List Stretch → List UnitRange
as_entries u l = map (λ (r : Range). record { range = r; unit = u }) (map range_of l)

same_unit : (u : ℕ) (ss : List Stretch) →
    as_entries u (take (count_of u ss) ss) ≡ map entry_of (take (count_of u ss) ss)
same_unit u [] = refl
same_unit u (s ∷ ss) = by (s.unit == u) refl (same_unit u ss) where
  by : (b : Bool) → (s.unit == u) ≡ b → as_entries u (take (count_of u ss) ss) ≡ map entry_of (take (count_of u ss) ss) →
      as_entries u (take (if b then suc (count_of u ss) else 0) (s ∷ ss)) ≡ map entry_of
      (take (if b then suc (count_of u ss) else 0) (s ∷ ss))
  by true e more =
      let same : u ≡ s.unit = grind (arith, nat_tests) in
      λ i. record { range = range_of s; unit = same i } ∷ more i
  by false e more = refl

all_flat : (n : ℕ) (ss : List Stretch) → length ss ≤ n → all_entries (told_tables n ss) ≡ map entry_of ss
unfolding told_tables
all_flat zero [] h = refl
all_flat (suc n) [] h = refl
all_flat zero (s ∷ ss) h = absurd (omega arith)
all_flat (suc n) (s ∷ ss) h =
    let k : ℕ = count_of s.unit ss in
    let less : length (drop k ss) ≤ n = grind (arith, common_steps) in
    ap (λ (l : List UnitRange). entry_of s ∷ l)
    ((λ i. same_unit s.unit ss i ++ all_flat n (drop k ss) less i)
    ∙ sym (map-append entry_of (take k ss) (drop k ss)) ∙ ap (map entry_of) (take-append-drop k ss))

-- Written tables, read back

module _ (n : ℕ) (ss : List Stretch) (few : 28 + 16 * length ss < 2 ^ 32 - 1) (are : All IsWritten ss) where
  abbrev bytes : List ℕ
  bytes = spelled_tables (tables_of n ss)

  are_walked : walked 2 bytes ≡ walked_units 0 (tables_of n ss)
  are_walked =
      ap (walked 2) (bytes_same (tables_of n ss))
      ∙ units-back 2 0 (length (units_bytes (tables_of n ss))) (tables_of n ss) (all_units n ss few) (omega arith)

  are_told : map table_of (walked 2 bytes) ≡ map sound (told_tables n ss)
  are_told = ap (map table_of) are_walked ∙ walked_tables 0 (tables_of n ss) ∙ all_told n ss are

  pub tables_are : address_tables bytes ≡ told_tables n ss
  tables_are = ap oks are_told ∙ sound_tables (told_tables n ss)

  pub version_none : other_version 2 bytes ≡ None
  version_none = ap (first_place (λ (w : Walked). w.is_other)) are_walked ∙ none_other 0 (tables_of n ss)

  pub bad_none : bad_table bytes ≡ None
  bad_none = none_bad (walked 2 bytes) (told_tables n ss) are_told

  pub unit_written : (a : ℕ) → length ss ≤ n → unit_at bytes a ≡ unit_of a (find (holds a) (map entry_of ss))
  unit_written a enough =
      ap (λ (ts : List AddressTable). option_map (λ (t : AddressTable). t.unit)
      (find (λ (t : AddressTable). list_any (holds_address a) t.ranges) ts))
      tables_are
      ∙ sym (unit_found a (told_tables n ss))
      ∙ ap (λ (es : List UnitRange). unit_of a (find (holds a) es)) (all_flat n ss enough)
