-- A base that is written is a table's of the section, and its offsets are those of lists with full addresses.
use Rattle.std.proofs.Common.{◌≡◌, ◌∙◌, ◌+◌, ◌++◌, ◌∷◌, [], ℕ, List, All, refl, sym, ap, subst, arith, length, length-append, map}
use Rattle.std.specs.Prelude.{Contains, IsTrue}
use Rattle.std.proofs.lemmas.List.Elements.{All-cons, All-nil}
use Rattle.byteorder.specs.Endian.{little_bytes}
use Rattle.rb_bytes.proofs.Members.{Contains-there}
use Rattle.table_core.specs.DebugUnits.{Walked, walked}
use Rattle.table_core.specs.WrittenUnits.{IsUnit, units_bytes, walked_units}
use Rattle.table_core.proofs.UnitsBack.{units-back}
use Rattle.dw_lists.specs.declared.list_kind.ListKind.{ListKind}
use Rattle.dw_lists.specs.ListEntries.{Item}
use Rattle.dw_lists.specs.ListReading.{kind_of}
use Rattle.list_writer.specs.FullLists.{IsFullList, IsTableBase, is_full}
use Rattle.list_writer.specs.ListBytes.{Bounded, IsWritable, list_bytes}
use Rattle.list_writer.specs.WrittenTables.{IsTableAt, StandsAt, list_table}
use Rattle.list_writer.proofs.ListsThere.{list_read, table_of}
use Rattle.list_writer.proofs.SpelledEntries.{item_at, length-little}
use Rattle.list_writer.proofs.UnitTables.{count_is, is_table}

all_full : (bs : List Bounded) → All (λ (i : Item). IsTrue (is_full i.bound)) (map item_at bs)
all_full [] = All-nil (λ (i : Item). IsTrue (is_full i.bound))
all_full (b ∷ bs) = All-cons (λ (i : Item). IsTrue (is_full i.bound)) (item_at b) (map item_at bs) refl (all_full bs)

pub list_full : (k : ListKind) (tables : List (List ℕ)) (at : ℕ) (bs : List Bounded) → StandsAt tables at (list_bytes k bs) →
    All (IsUnit 5) tables → All (IsWritable k) bs → IsFullList (kind_of k) (units_bytes tables) at
list_full k tables at bs s units w = record { items = map item_at bs; are = list_read k tables at bs s units w; full = all_full bs }

walked_has : (place : ℕ) (before : List (List ℕ)) (t : List ℕ) (after : List (List ℕ)) →
    Contains (walked_units place (before ++ t ∷ after)) (table_of (place + length (units_bytes before)) t)
unfolding walked_units units_bytes
walked_has place [] t after = let same : place ≡ place + 0 = omega arith in (0, omega arith, ap (λ (n : ℕ). table_of n t) same)
walked_has place (b ∷ before) t after =
    let four = length-little 4 (length b) in
    let a = length-append (little_bytes 4 (length b)) (b ++ units_bytes before) in
    let c = length-append b (units_bytes before) in
    let same : place + (length b + 4) + length (units_bytes before)
    ≡ place + length (little_bytes 4 (length b) ++ (b ++ units_bytes before)) = omega (arith, four, a, c) in
    Contains-there (table_of place b) (walked_units (place + (length b + 4)) (before ++ t ∷ after)) _
    (subst (λ (n : ℕ). Contains (walked_units (place + (length b + 4)) (before ++ t ∷ after)) (table_of n t)) same
    (walked_has (place + (length b + 4)) before t after))

pub table_base : (tables : List (List ℕ)) (base count : ℕ) → IsTableAt tables base count → All (IsUnit 5) tables →
    IsTableBase (units_bytes tables) base count
table_base tables base count t units =
    let bytes : List ℕ = list_table count t.indexes t.body in
    let walks : walked 5 (units_bytes tables) ≡ walked_units 0 (t.before ++ bytes ∷ t.after) =
    units-back 5 0 (length (units_bytes tables)) tables units (omega arith) ∙ ap (walked_units 0) t.are in
    let at = t.at in
    record {
      table = table_of (0 + length (units_bytes t.before)) bytes;
      there = subst (λ (ws : List Walked). Contains ws (table_of (0 + length (units_bytes t.before)) bytes)) (sym walks)
          (walked_has 0 t.before bytes t.after);
      bytes = bytes;
      whole = refl;
      sound = is_table count t.indexes t.body t.low;
      at = omega (arith, at);
      counted = count_is count t.indexes t.body t.low;
    }
