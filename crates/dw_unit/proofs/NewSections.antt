-- The written sections: their units can be read, each with its changes, and have no fault.
use Rattle.std.proofs.Common.{◌≡◌, ◌<◌, ◌+◌, ◌^◌, ◌++◌, ◌∙◌, ℕ, List, [], ◌∷◌, Bool, true, false, Option, Some, None, Result, refl, ap}
use Rattle.std.proofs.Common.{sym, subst, arith, length, length-append}
use Rattle.std.specs.Prelude.{◌==◌, ◌||◌, if◌then◌else◌, flat_map, is_some, option_map}
use Rattle.std.specs.List.{find, list_any, AllZip}
use Rattle.std.specs.Option.{option_or, option_map_or}
use Rattle.std.proofs.lemmas.Bool.{eq-eqb}
use Rattle.rb_bytes.specs.FirstFault.{IsFree}
use Rattle.rb_bytes.proofs.Options.{both_none}
use Rattle.answer_runs.specs.Choices.{least}
use Rattle.table_core.specs.ReadSteps.{and_so}
use Rattle.table_core.specs.DebugUnits.{Walked, walked, other_version, first_place}
use Rattle.dw_unit.specs.declared.trouble.Trouble.{Trouble}
use Rattle.dw_unit.specs.Trouble.{sound_if}
use Rattle.dw_unit.specs.Declarations.{table_at, has_bad_form, has_bad_high}
use Rattle.dw_unit.specs.CompUnits.{Sections, Unit, unit_of, units, header_at, end_of}
use Rattle.dw_unit.specs.EntryMoves.{Moves}
use Rattle.dw_unit.specs.Faults.{HasDwarfFault, unit_fault_places, declarations, declarations_of, named_declarations, places_with}
use Rattle.dw_unit.specs.Faults.{unformed, is_bad, is_sound_unit, bad_address_table, is_address_table}
use Rattle.dw_unit.specs.Changes.{changed_abbrevs, changed_addr, changed_info, is_first_of, is_own, new_offset, unit_patches}
use Rattle.dw_unit.specs.ChangedEntries.{IsChangedUnit, AreChangedUnits}
use Rattle.dw_unit.specs.EntryChanges.{AreBehind}
use Rattle.dw_unit.specs.OwnPlaces.{AllRead}
use Rattle.dw_unit.proofs.Changeable.{AreSmall}
use Rattle.dw_unit.proofs.NamedOffsets.{ends_inside}
use Rattle.dw_unit.proofs.NewAddresses.{AreTables, tables_good, good_tables, AreNewTables, addresses_new}
use Rattle.dw_unit.proofs.NewUnits.{IsNewUnit, new_unit, changed_unit}
use Rattle.dw_unit.proofs.NoFaults.{AreAbsent, absent, free_of, none_least, both_nil, none_with, with_none, NoneOf, none_of}
use Rattle.dw_unit.proofs.NoFaults.{of_none, no_first}
use Rattle.dw_unit.proofs.RenewedUnits.{AreNew, IsSection, renewed, all_renewed, section_renewed, section_stays, StayAll}
use Rattle.dw_unit.proofs.SoundChanges.{unit_sound, forms_stay, none_high}
use Rattle.dw_unit.proofs.SpelledSections.{IsSpelledAt, spelled_table}
use Rattle.dw_unit.proofs.UnitsRead.{IsRead, unit_read, IsGoodUnit, all_read, oks_read, none_bad, zip_read}
use Rattle.dw_unit.proofs.WholeUnits.{AreGood, AreWhole, units_whole, units_again, whole_good}

-- The declarations of the table that a unit's header refers to.
pub declarations_are : (abbrevs : List ℕ) (w : Walked) (u : Unit) → IsRead abbrevs w u →
    declarations_of abbrevs w ≡ (table_at abbrevs u.abbrev_offset).list
declarations_are abbrevs w u r =
    ap (λ (o : Option (List ℕ)). named_declarations abbrevs (and_so (sound_if o) header_at)) r.is
    ∙ ap (named_declarations abbrevs) r.header

-- Units that were read, none of another version, are good.
all_good : (abbrevs : List ℕ) (test : Unit → Bool) (ws : List Walked) (us : List Unit) → AllZip (IsGoodUnit abbrevs test) ws us →
    find (λ (w : Walked). w.is_other) ws ≡ None → AreGood ws
all_good abbrevs test [] us z e = tt
all_good abbrevs test (w ∷ ws) [] z e = absurd z
all_good abbrevs test (w ∷ ws) (u ∷ us) z e = by_test w.is_other refl e (all_good abbrevs test ws us z.1) where
  by_test : (b : Bool) → w.is_other ≡ b → (if b then Some w else find (λ (w : Walked). w.is_other) ws) ≡ None →
      (find (λ (w : Walked). w.is_other) ws ≡ None → AreGood ws) → (is_some w.bytes ≡ true) × (w.is_other ≡ false) × AreGood ws
  by_test true is f ih = absurd (cc)
  by_test false is f ih = (ap is_some (unit_read abbrevs w u z.0.0).is, is, ih f)

-- The converse.
good_none : (ws : List Walked) → AreGood ws → find (λ (w : Walked). w.is_other) ws ≡ None
good_none [] g = refl
good_none (w ∷ ws) g = ap (λ (b : Bool). if b then Some w else find (λ (w : Walked). w.is_other) ws) g.1 ∙ good_none ws g.2

no_place : (test : Walked → Bool) (ws : List Walked) → find test ws ≡ None → first_place test ws ≡ None
no_place test ws e = ap (option_map (λ (u : Walked). u.place)) e

table_bytes_good : (ws : List Walked) → AreTables ws → find (λ (w : Walked). w.is_other) ws ≡ None → AreGood ws
table_bytes_good [] t e = tt
table_bytes_good (w ∷ ws) t e = by_test w.is_other refl e (table_bytes_good ws t.1) where
  some_bytes : (o : Option (List ℕ)) → option_map_or is_address_table o false ≡ true → is_some o ≡ true
  some_bytes None f = absurd (cc)
  some_bytes (Some bytes) f = refl

  by_test : (b : Bool) → w.is_other ≡ b → (if b then Some w else find (λ (w : Walked). w.is_other) ws) ≡ None →
      (find (λ (w : Walked). w.is_other) ws ≡ None → AreGood ws) → (is_some w.bytes ≡ true) × (w.is_other ≡ false) × AreGood ws
  by_test true is f ih = absurd (cc)
  by_test false is f ih = (some_bytes w.bytes t.0, is, ih f)

-- What follows if the sections have no fault.

module _ (s : Sections) (free : IsFree (HasDwarfFault (unit_fault_places s))) where
  none : AreAbsent (unit_fault_places s)
  none = absent (unit_fault_places s) free

  pub sound_units : AllZip (IsGoodUnit s.abbrevs (is_sound_unit s.addr)) (walked 5 s.info) (units s)
  sound_units = all_read s.abbrevs (is_sound_unit s.addr) (walked 5 s.info)
      (no_first (is_bad s) (walked 5 s.info) (both_none (first_place (is_bad s) (walked 5 s.info)) (bad_address_table s.addr) none.bad).0)

  pub sections_good : AreGood (walked 5 s.info)
  sections_good = all_good s.abbrevs (is_sound_unit s.addr) (walked 5 s.info) (units s) sound_units
      (no_first (λ (w : Walked). w.is_other) (walked 5 s.info) (both_none (other_version 5 s.info)
      (other_version 5 s.addr) none.version).0)

  pub sections_whole : AreWhole 0 (walked 5 s.info) s.info
  sections_whole = units_whole (length s.info) 0 s.info (omega arith) sections_good

  pub no_bad_high : list_any has_bad_high (declarations s) ≡ false
  no_bad_high = none_with has_bad_high (declarations s) (none_least (places_with has_bad_high (declarations s)) none.high)

  none_bad_high : NoneOf has_bad_high (declarations_of s.abbrevs) (walked 5 s.info)
  none_bad_high = none_of has_bad_high (declarations_of s.abbrevs) (walked 5 s.info) no_bad_high

  none_bad_form : NoneOf has_bad_form (declarations_of s.abbrevs) (walked 5 s.info)
  none_bad_form = none_of has_bad_form (declarations_of s.abbrevs) (walked 5 s.info) (none_with has_bad_form (declarations s)
      (both_nil (places_with has_bad_form (declarations s)) (flat_map (λ w. unformed (unit_of s.abbrevs w)) (walked 5 s.info))
      (none_least (places_with has_bad_form (declarations s) ++ flat_map (λ w. unformed (unit_of s.abbrevs w)) (walked 5 s.info))
      none.form)).0)

  address_tables : AreTables (walked 5 s.addr)
  address_tables = tables_good (walked 5 s.addr) (no_first _ (walked 5 s.addr)
      (both_none (first_place (is_bad s) (walked 5 s.info)) (bad_address_table s.addr) none.bad).1)

  addresses_good : AreGood (walked 5 s.addr)
  addresses_good = table_bytes_good (walked 5 s.addr) address_tables
      (no_first (λ (w : Walked). w.is_other) (walked 5 s.addr) (both_none (other_version 5 s.info)
      (other_version 5 s.addr) none.version).1)

  -- All units can be read.
  pub all_can_read : AllRead s.abbrevs (walked 5 s.info)
  all_can_read = zip_read s.abbrevs (is_sound_unit s.addr) (walked 5 s.info) (units s) sound_units

-- Units follow one another.
behind_all : (place : ℕ) (ws : List Walked) (left : List ℕ) (end : ℕ) → AreWhole place ws left → end ≡ place + length left →
    AreBehind place end ws
behind_all place [] left end whole e = let g = ap length whole in omega arith
behind_all place (w ∷ ws) left end (rest, i, more) e =
    let a = ap length i.is ∙ length-append i.size (i.bytes ++ rest) in
    let b = length-append i.bytes rest in
    let c = i.size_is in
    let d : w.place ≡ place = ap (λ (x : Walked). x.place) i.walked in
    let f : end_of w ≡ place + 4 + length i.bytes = ap end_of i.walked in
    (omega arith, omega arith, behind_all (end_of w) ws rest end more (omega arith))

pub units_behind : (s : Sections) → IsFree (HasDwarfFault (unit_fault_places s)) → AreBehind 0 (length s.info) (walked 5 s.info)
units_behind s free = behind_all 0 (walked 5 s.info) s.info (length s.info) (sections_whole s free) (omega arith)

-- The new units

module _ (s : Sections) (m : Moves) (small : AreSmall m) (free : IsFree (HasDwarfFault (unit_fault_places s)))
    (short : length (changed_abbrevs s) < 2 ^ 32) where
  abbrev has_offset : ℕ → Unit → Bool
  has_offset o u = u.abbrev_offset == o

  low : (offset : ℕ) → IsSpelledAt s offset → new_offset s offset < 2 ^ 32
  low offset sp =
      let a = ap length sp.is ∙ length-append sp.before _ in
      let b = sp.at in
      omega (arith, short)

  right : (a b : Bool) → b ≡ true → (a || b) ≡ true
  right true b e = refl
  right false b e = e

  left : (a b : Bool) → a ≡ true → (a || b) ≡ true
  left true b e = refl
  left false b e = absurd (cc)

  all_new : (ws : List Walked) (us : List Unit) → AllZip (IsGoodUnit s.abbrevs (is_sound_unit s.addr)) ws us →
      NoneOf has_bad_high (declarations_of s.abbrevs) ws →
      ((o : ℕ) → list_any (has_offset o) us ≡ true → list_any (has_offset o) (units s) ≡ true) →
      (ns : List (List ℕ)) × AreNew (unit_patches s m) (IsNewUnit s m) ws us ns
  all_new [] [] z high named = ([], tt)
  all_new [] (u ∷ us) z high named = absurd z
  all_new (w ∷ ws) [] z high named = absurd z
  all_new (w ∷ ws) (u ∷ us) z high named =
      let read : IsRead s.abbrevs w u = unit_read s.abbrevs w u z.0.0 in
      let fine : list_any has_bad_high (table_at s.abbrevs u.abbrev_offset).list ≡ false =
      sym (ap (list_any has_bad_high) (declarations_are s.abbrevs w u read)) ∙ high.0 in
      let here : list_any (has_offset u.abbrev_offset) (units s) ≡ true =
      named u.abbrev_offset (left (u.abbrev_offset == u.abbrev_offset) (list_any (has_offset u.abbrev_offset) us)
      (eq-eqb u.abbrev_offset u.abbrev_offset refl)) in
      let sp : IsSpelledAt s u.abbrev_offset = spelled_table s u.abbrev_offset (ends_inside s.abbrevs u.abbrev_offset read.end read.ends)
      here in
      let x = new_unit s m small w u fine sp (low u.abbrev_offset sp) read in
      let xs = all_new ws us z.1 high.1 (λ o e. named o (right (u.abbrev_offset == o) (list_any (has_offset o) us) e)) in
      (x.0 ∷ xs.0, (x.1, xs.1))

  news : (ns : List (List ℕ)) × AreNew (unit_patches s m) (IsNewUnit s m) (walked 5 s.info) (units s) ns
  news = all_new (walked 5 s.info) (units s) (sound_units s free) (none_bad_high s free) (λ o e. e)

  section : IsSection (unit_patches s m) (IsNewUnit s m) 0 (walked 5 s.info) (units s) news.0 s.info
  section = section_renewed (unit_patches s m) (IsNewUnit s m) 0 (walked 5 s.info) (units s) news.0 s.info (sections_whole s free) news.1

  walked_new : walked 5 (changed_info s m) ≡ all_renewed (walked 5 s.info) news.0
  walked_new = ap (walked 5) section.are ∙ units_again (length section.new) 0 (all_renewed (walked 5 s.info) news.0) section.new
      (omega arith) section.whole

  addr_new : AreNewTables m s.addr
  addr_new = addresses_new m s.addr (addresses_good s free) (address_tables s free)

  abbrev new_addr : List ℕ
  new_addr = changed_addr m s.addr

  abbrev abbrevs : List ℕ
  abbrevs = changed_abbrevs s

  -- The result of reading the new units.
  record AreReadNew (ws : List Walked) (us : List Unit) : Type 0 where
    list : List Unit
    good : AllZip (IsGoodUnit abbrevs (is_sound_unit new_addr)) ws list
    changed : AllZip (IsChangedUnit s (changed_info s m) m) us list
    forms : NoneOf has_bad_form (declarations_of abbrevs) ws
    high : NoneOf has_bad_high (declarations_of abbrevs) ws

  read_new : (ws : List Walked) (us : List Unit) (ns : List (List ℕ)) → AllZip (IsGoodUnit s.abbrevs (is_sound_unit s.addr)) ws us →
      NoneOf has_bad_form (declarations_of s.abbrevs) ws → AreNew (unit_patches s m) (IsNewUnit s m) ws us ns →
      StayAll (unit_patches s m) (IsNewUnit s m) 0 s.info (changed_info s m) ws ns → AreReadNew (all_renewed ws ns) us
  read_new [] [] ns z forms are stay = record { list = []; good = tt; changed = tt; forms = tt; high = tt }
  read_new [] (u ∷ us) ns z forms are stay = absurd z
  read_new (w ∷ ws) [] ns z forms are stay = absurd z
  read_new (w ∷ ws) (u ∷ us) [] z forms are stay = absurd are
  read_new (w ∷ ws) (u ∷ us) (n ∷ ns) z forms are stay =
      let i : IsNewUnit s m w u n = are.0.says in
      let read : IsRead s.abbrevs w u = unit_read s.abbrevs w u z.0.0 in
      let again : IsRead abbrevs (renewed w n) i.unit = unit_read abbrevs (renewed w n) i.unit i.reads in
      let r : AreReadNew (all_renewed ws ns) us = read_new ws us ns z.1 forms.1 are.1 stay.1 in
      let formed : list_any has_bad_form (table_at s.abbrevs u.abbrev_offset).list ≡ false =
      sym (ap (list_any has_bad_form) (declarations_are s.abbrevs w u read)) ∙ forms.0 in
      record {
        list = i.unit ∷ r.list;
        good = ((i.reads, unit_sound m (is_own s) (is_first_of u) s.addr new_addr addr_new.size u i.unit i.changed z.0.1), r.good);
        changed = (changed_unit s m (changed_info s m) u w n i (λ a h. stay.0 a h), r.changed);
        forms = (
          ap (list_any has_bad_form) (declarations_are abbrevs (renewed w n) i.unit again)
              ∙ forms_stay (is_own s) (table_at s.abbrevs u.abbrev_offset).list (table_at abbrevs i.unit.abbrev_offset).list i.table
              formed,
          r.forms,
        );
        high = (
          ap (list_any has_bad_high) (declarations_are abbrevs (renewed w n) i.unit again)
              ∙ none_high (is_own s) (table_at s.abbrevs u.abbrev_offset).list (table_at abbrevs i.unit.abbrev_offset).list i.table,
          r.high,
        );
      }

  whole_new : AreWhole 0 (all_renewed (walked 5 s.info) news.0) (changed_info s m)
  whole_new = subst (λ (l : List ℕ). AreWhole 0 (all_renewed (walked 5 s.info) news.0) l) (sym section.are) section.whole

  reading : AreReadNew (walked 5 (changed_info s m)) (units s)
  reading = subst (λ (ws : List Walked). AreReadNew ws (units s)) (sym walked_new)
      (read_new (walked 5 s.info) (units s) news.0 (sound_units s free) (none_bad_form s free) news.1
      (section_stays (unit_patches s m) (IsNewUnit s m) 0 (walked 5 s.info) (units s) news.0 s.info (changed_info s m)
      (sections_whole s free) news.1 whole_new))

  abbrev pub written : Sections
  written = record { info = changed_info s m; abbrevs = changed_abbrevs s; addr = changed_addr m s.addr }

  pub units_changed : AreChangedUnits s m written
  units_changed =
      subst (λ (us : List Unit). AllZip (IsChangedUnit s (changed_info s m) m) (units s) us)
      (sym (oks_read abbrevs (is_sound_unit new_addr) (walked 5 (changed_info s m)) reading.list reading.good)) reading.changed

  none_unformed : (ws : List Walked) (us : List Unit) → AllZip (IsGoodUnit abbrevs (is_sound_unit new_addr)) ws us →
      flat_map (λ w. unformed (unit_of abbrevs w)) ws ≡ []
  none_unformed [] [] z = refl
  none_unformed [] (u ∷ us) z = absurd z
  none_unformed (w ∷ ws) [] z = absurd z
  none_unformed (w ∷ ws) (u ∷ us) z =
      ap (λ (r : Result Unit Trouble). unformed r ++ flat_map (λ w. unformed (unit_of abbrevs w)) ws) z.0.0 ∙ none_unformed ws us z.1

  good_new : AreGood (walked 5 (changed_info s m))
  good_new = subst AreGood (sym walked_new) (whole_good 0 (all_renewed (walked 5 s.info) news.0) (changed_info s m) whole_new)

  pub written_sound : IsFree (HasDwarfFault (unit_fault_places written))
  written_sound =
      let new_ws : List Walked = walked 5 (changed_info s m) in
      free_of (unit_fault_places written) (record {
        version =
            ap (λ (o : Option ℕ). option_or o (other_version 5 new_addr))
            (no_place (λ (w : Walked). w.is_other) new_ws (good_none new_ws good_new))
            ∙ no_place (λ (w : Walked). w.is_other) (walked 5 new_addr) (good_none (walked 5 new_addr) addr_new.good);
        form =
            ap (λ (l : List ℕ). least (l ++ flat_map (λ w. unformed (unit_of abbrevs w)) new_ws))
            (with_none has_bad_form (declarations written) (of_none has_bad_form (declarations_of abbrevs) new_ws reading.forms))
            ∙ ap least (none_unformed new_ws reading.list reading.good);
        high = ap least (with_none has_bad_high (declarations written)
            (of_none has_bad_high (declarations_of abbrevs) new_ws reading.high));
        bad =
            ap (λ (o : Option ℕ). option_or o (bad_address_table new_addr))
            (no_place (is_bad written) new_ws (none_bad abbrevs (is_sound_unit new_addr) new_ws reading.list reading.good))
            ∙ no_place _ (walked 5 new_addr) (good_tables (walked 5 new_addr) addr_new.tables);
      })
