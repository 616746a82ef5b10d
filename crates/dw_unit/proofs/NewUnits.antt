-- A unit of the written file: its bytes, and the result of reading them.
use Rattle.std.proofs.Common.{◌≡◌, ◌≢◌, ◌<◌, ◌≤◌, ◌+◌, ◌-◌, ◌^◌, ◌++◌, ◌∙◌, ℕ, List, [], ◌∷◌, Bool, false, Option, Some, Ok, refl, ap}
use Rattle.std.proofs.Common.{sym, subst, arith, length, length-append, append_assoc}
use Rattle.std.specs.Prelude.{◌==◌, flat_map, Contains}
use Rattle.std.specs.List.{list_any, AllZip}
use Rattle.std.proofs.lemmas.Bool.Decides.{nat_tests}
use Rattle.std.proofs.lemmas.Option.{same_Some}
use Rattle.byteorder.specs.Endian.{little_bytes, little_number}
use Rattle.byteorder.specs.Numbers.{length-bytes_low_first}
use Rattle.rb_bytes.proofs.Members.{Contains-there}
use Rattle.table_core.specs.DebugUnits.{Walked}
use Rattle.table_core.proofs.UnitsBack.{same-front}
use Rattle.dw_unit.specs.declared.attribute.TheConstants.{DW_AT_high_pc}
use Rattle.dw_unit.specs.declared.entry.Attr.{Attr}
use Rattle.dw_unit.specs.Declarations.{Declaration, Table, table_at, has_bad_high}
use Rattle.dw_unit.specs.CompUnits.{Entry, Sections, Unit, unit_of, end_of, entries_within}
use Rattle.dw_unit.specs.EntryMoves.{Moves}
use Rattle.dw_unit.specs.Changes.{Patch, patched, changed_abbrevs, entry_patches, is_own, is_first_of, new_offset, unit_patches}
use Rattle.dw_unit.specs.ChangedEntries.{IsChangedEntry, IsChangedUnit}
use Rattle.dw_unit.specs.Walking.{unit_bounds}
use Rattle.dw_unit.proofs.Changeable.{AreSmall, not_any, apart_high, can_change_all}
use Rattle.dw_unit.proofs.Headers.{IsHeader, header_front, unit_patched}
use Rattle.dw_unit.proofs.Patched.{From}
use Rattle.dw_unit.proofs.ReadEntries.{read_entries}
use Rattle.dw_unit.proofs.Readers.{attr_less}
use Rattle.dw_unit.proofs.RenewedUnits.{IsRenewed, IsNew, renewed}
use Rattle.dw_unit.proofs.Rewrites.{IsNumber, written_number}
use Rattle.dw_unit.proofs.RewrittenEntries.{AreChanged, AreReadBack, CanAll, StaysIn}
use Rattle.dw_unit.proofs.RewrittenUnits.{AreApart, spelled_at, tables_read, unit_read_back}
use Rattle.dw_unit.proofs.SameBytes.{IsSameAt, same_behind, same_value_bytes}
use Rattle.dw_unit.proofs.SpellableTables.{table_spellable}
use Rattle.dw_unit.proofs.Spelled.{AreChangedDeclarations, bytes_of_table, CanSpellAll, IsTableRead, table_read}
use Rattle.dw_unit.proofs.SpelledSections.{IsSpelledAt}
use Rattle.dw_unit.proofs.UnitsRead.{IsRead, unit_again}

-- The result of reading a unit's new bytes.
pub record IsNewUnit (s : Sections) (m : Moves) (w : Walked) (u : Unit) (new : List ℕ) : Type 0 where
  pub unit : Unit
  pub reads : unit_of (changed_abbrevs s) (renewed w new) ≡ Ok unit
  pub place : unit.place ≡ u.place
  pub offset : unit.abbrev_offset ≡ new_offset s u.abbrev_offset
  pub changed : AreChanged m (is_own s) (is_first_of u) u.entries unit.entries
  pub stay : (e : Entry) (a : Attr) → Contains u.entries e → StaysIn m (is_own s e.declaration) (is_first_of u e) e e.attrs a →
      (bytes : List ℕ) → w.bytes ≡ Some bytes → IsSameAt (w.place + 4) a bytes new
  pub table : AreChangedDeclarations (is_own s) (table_at s.abbrevs u.abbrev_offset).list
      (table_at (changed_abbrevs s) unit.abbrev_offset).list

module _ (s : Sections) (m : Moves) (small : AreSmall m) (w : Walked) (u : Unit)
    (none : list_any has_bad_high (table_at s.abbrevs u.abbrev_offset).list ≡ false)
    (sp : IsSpelledAt s u.abbrev_offset) (low : new_offset s u.abbrev_offset < 2 ^ 32) (read : IsRead s.abbrevs w u) where
  abbrev own : Declaration → Bool
  own = is_own s

  abbrev first : Entry → Bool
  first = is_first_of u

  abbrev table : Table
  table = table_at s.abbrevs u.abbrev_offset

  abbrev section : List ℕ
  section = sp.before ++ (bytes_of_table own table.list ++ (0 ∷ sp.rest))

  apart : AreApart table
  apart = λ code d e f. apart_high d (not_any has_bad_high (λ (d : Declaration). d.code == code) table.list d none e) f

  can : CanSpellAll own table.list
  can = table_spellable own s.abbrevs u.abbrev_offset

  header : IsHeader read.bytes read.left
  header = header_front read.bytes read.left u.abbrev_offset read.header

  bytes_size : length read.bytes ≡ length header.lead + (length header.old + (length header.tail + length read.left))
  bytes_size =
      ap length header.is ∙ length-append header.lead (header.old ++ (header.tail ++ read.left))
      ∙ ap (λ (n : ℕ). length header.lead + n) (length-append header.old (header.tail ++ read.left)
      ∙ ap (λ (n : ℕ). length header.old + n) (length-append header.tail read.left))

  end_is : end_of w ≡ w.place + 4 + length read.bytes
  end_is = ap (λ (o : Option (List ℕ)). end_of (record { place = w.place; bytes = o; is_other = w.is_other })) read.is

  within : length read.left ≤ end_of w
  within = let g = bytes_size in let h = end_is in omega arith

  changeable : CanAll m own first u.entries
  changeable = can_change_all m small own first (unit_bounds w.place (end_of w) table) none u.entries
      (read_entries (unit_bounds w.place (end_of w) table) (length read.left) 0 read.left u.entries read.entries)

  back : AreReadBack m own first w.place (end_of w) table (table_at section (length sp.before))
      (λ d s l1 l2 a. attr_less (end_of w) d s l1 l2 a)
      (tables_read own table sp.before sp.rest can apart) (length read.left) 0 u.entries read.left
  back = unit_read_back m own first w.place (end_of w) table sp.before sp.rest can apart read.left u.entries within read.entries
      changeable

  abbrev offset : ℕ
  offset = new_offset s u.abbrev_offset

  abbrev number : List ℕ
  number = little_bytes 4 offset

  number_is : IsNumber 4 offset number
  number_is = written_number 4 offset (omega (arith, low))

  abbrev new_bytes : List ℕ
  new_bytes = header.lead ++ (number ++ (header.tail ++ back.bytes))

  number_size : length number ≡ 4
  number_size = length-bytes_low_first 0 4 offset

  new_size : length new_bytes ≡ length read.bytes
  new_size =
      let a = length-append header.lead (number ++ (header.tail ++ back.bytes)) in
      let b = length-append number (header.tail ++ back.bytes) in
      let c = length-append header.tail back.bytes in
      let d = bytes_size in
      let e = number_size in
      let f = header.old_size in
      let g = back.size in
      omega arith

  abbrev entry_list : List Patch
  entry_list = flat_map (entry_patches s m u) u.entries

  are_by : (lead after : List ℕ) (qs : List Patch) → length lead ≡ 4 → From (end_of w) qs →
      patched w.place ((record { place = w.place + 8; bytes = number } ∷ entry_list) ++ qs) ((lead ++ read.bytes) ++ after)
      ≡ (lead ++ new_bytes) ++ patched (end_of w) qs after
  are_by lead after qs four from =
      unit_patched w.place (end_of w) lead read.bytes read.left back.bytes number entry_list header four end_is number_size back.starts
      back.are after qs from

  renewal : IsRenewed w (unit_patches s m u) read.bytes new_bytes
  renewal = record {
    size = new_size;
    version = same-front header.lead (number ++ (header.tail ++ back.bytes)) (header.old ++ (header.tail ++ read.left)) header.lead_size
        ∙ sym (ap (little_number 2) header.is);
    starts = λ qs from. let g = read.place in omega arith;
    are = λ lead after qs four from.
        ap (λ (k : ℕ). patched w.place ((record { place = k + 8; bytes = number } ∷ entry_list) ++ qs) ((lead ++ read.bytes) ++ after))
        read.place
        ∙ are_by lead after qs four from;
  }

  spelled : IsTableRead own (length section) table.list (bytes_of_table own table.list ++ (0 ∷ sp.rest)) sp.rest
  spelled = table_read own (length section) table.list sp.rest can

  table_place : table_at (changed_abbrevs s) offset ≡ table_at section (length sp.before)
  table_place = ap (λ (l : List ℕ). table_at l offset) sp.is ∙ ap (table_at section) (sym sp.at)

  table_is : table_at (changed_abbrevs s) offset ≡ record { list = spelled.new; end = Some (length section - length sp.rest) }
  table_is = table_place ∙ spelled_at own table.list sp.before sp.rest (length section - length sp.rest) spelled.new spelled.is

  new_end : end_of (renewed w new_bytes) ≡ end_of w
  new_end = let g = new_size in let h = end_is in omega arith

  entries_read : entries_within (unit_bounds w.place (end_of (renewed w new_bytes)) (table_at (changed_abbrevs s) offset))
      (length back.bytes) 0 back.bytes ≡ Ok back.new
  entries_read =
      ap (λ (k : ℕ). entries_within (unit_bounds w.place k (table_at (changed_abbrevs s) offset)) (length back.bytes) 0 back.bytes)
      new_end
      ∙ ap (λ (t : Table). entries_within (unit_bounds w.place (end_of w) t) (length back.bytes) 0 back.bytes) table_place
      ∙ ap (λ (n : ℕ). entries_within (unit_bounds w.place (end_of w) (table_at section (length sp.before))) n 0 back.bytes) back.size
      ∙ back.reads

  says : IsNewUnit s m w u new_bytes
  says = record {
    unit = record { place = w.place; abbrev_offset = offset; entries = back.new };
    reads = unit_again (changed_abbrevs s) (renewed w new_bytes) new_bytes back.bytes offset (length section - length sp.rest) back.new
        refl
        (header.reads offset number back.bytes number_is back.size) (ap (λ (t : Table). t.end) table_is) entries_read;
    place = sym read.place;
    offset = refl;
    changed = back.changed;
    stay = λ e a there k bytes is.
        let lead : List ℕ = header.lead ++ (header.old ++ header.tail) in
        let new_lead : List ℕ = header.lead ++ (number ++ header.tail) in
        let same_bytes : read.bytes ≡ bytes = same_Some read.bytes bytes (sym read.is ∙ is) in
        let c = length-append header.lead (header.old ++ header.tail) in
        let d = length-append header.old header.tail in
        let f = length-append header.lead (number ++ header.tail) in
        let g = length-append number header.tail in
        let h = number_size in
        let i = header.old_size in
        let j = bytes_size in
        let l = end_is in
        subst (λ (b : List ℕ). IsSameAt (w.place + 4) a b new_bytes) (joined header.lead header.old header.tail read.left ∙ sym header.is
        ∙ same_bytes)
        (subst (λ (b : List ℕ). IsSameAt (w.place + 4) a (lead ++ read.left) b) (joined header.lead number header.tail back.bytes)
        (same_behind (w.place + 4) (end_of w - length read.left) a lead new_lead read.left back.bytes (omega arith) (omega arith)
        (back.stay e a there k)));
    table = subst (λ (ds : List Declaration). AreChangedDeclarations own table.list ds) (sym (ap (λ (t : Table). t.list) table_is))
        spelled.changed;
  } where
    joined : (xs ys zs rest : List ℕ) → (xs ++ (ys ++ zs)) ++ rest ≡ xs ++ (ys ++ (zs ++ rest))
    joined xs ys zs rest = append_assoc xs (ys ++ zs) rest ∙ ap (λ (l : List ℕ). xs ++ l) (append_assoc ys zs rest)

  pub new_unit : (new : List ℕ) × IsNew (unit_patches s m) (IsNewUnit s m) w u new
  new_unit = (
    new_bytes,
    record {
      renewal = λ bytes is. subst (λ (b : List ℕ). IsRenewed w (unit_patches s m u) b new_bytes)
          (same_Some read.bytes bytes (sym read.is ∙ is)) renewal;
      says = says;
    },
  )

-- Entries, with the bytes of the values that don't change

not_high : (n : ℕ) → n ≢ DW_AT_high_pc → (n == DW_AT_high_pc) ≡ false
not_high n ne = grind (arith, nat_tests)

module _ (s : Sections) (m : Moves) (info : List ℕ) (u : Unit) where
  abbrev StayAll : List Entry → Type 0
  StayAll es = (e : Entry) (a : Attr) → Contains es e → StaysIn m (is_own s e.declaration) (is_first_of u e) e e.attrs a →
      IsSameAt 0 a s.info info

  changed_entries : (old new : List Entry) → AreChanged m (is_own s) (is_first_of u) old new → StayAll old →
      AllZip (λ x y. IsChangedEntry s info m (is_first_of u x) x y) old new
  changed_entries [] [] c stay = tt
  changed_entries [] (n ∷ new) c stay = absurd c
  changed_entries (o ∷ old) [] c stay = absurd c
  changed_entries (o ∷ old) (n ∷ new) c stay = (
    record {
      place = c.0.place;
      unit = c.0.unit;
      depth = c.0.depth;
      tag = c.0.tag;
      attrs = c.0.attrs;
      bytes = λ a there k. same_value_bytes a s.info info (stay o a (0, omega arith, refl) (there, (not_high a.name k.0, k.1)));
    },
    changed_entries old new c.1 (λ e a there k. stay e a (Contains-there o old e there) k),
  )

  pub changed_unit : (w : Walked) (new : List ℕ) (i : IsNewUnit s m w u new) →
      ((a : Attr) → ((bytes : List ℕ) → w.bytes ≡ Some bytes → IsSameAt (w.place + 4) a bytes new) → IsSameAt 0 a s.info info) →
      IsChangedUnit s info m u i.unit
  changed_unit w new i whole = record {
    place = i.place;
    abbrev_offset = i.offset;
    entries = changed_entries u.entries i.unit.entries i.changed (λ e a there k. whole a (i.stay e a there k));
  }
