-- Tables of lists that are written, and how the attributes of units' entries find their lists in them. DWARF 5,
-- sections 7.28 and 7.29.
use Rattle.std.specs.Prelude.{◌≡◌, ◌<◌, ◌≤◌, ◌+◌, ◌-◌, ◌*◌, ◌^◌, ℕ, zero, suc, Bool, true, IsTrue, List, [], ◌∷◌, ◌++◌}
use Rattle.std.specs.Prelude.{All, Contains, length, unwrap_or, slice_get, Option, Some, None, if◌then◌else◌}
use Rattle.std.specs.Prelude.{◌==◌, ◌||◌, ◌⊎◌, filter, is_some, map}
use Rattle.std.specs.List.{list_any}
use Rattle.std.specs.BTreeMap.{BTreeMap, get, is_at}
use Rattle.std.specs.Global.{Vec}
use Rattle.std.specs.Ordering.{nat_cmp}
use Rattle.byteorder.specs.Endian.{little_bytes}
use Rattle.table_core.specs.declared.written.ListAt.{ListAt}
use Rattle.table_core.specs.WrittenUnits.{IsUnit, units_bytes}
use Rattle.dw_unit.specs.EntryMoves.{new_list_offset}
use Rattle.dw_lists.specs.declared.indexed_unit.IndexedUnit.{IndexedUnit}
use Rattle.dw_lists.specs.declared.list_entry.TheConstants.{DW_RLE_end_of_list}
use Rattle.dw_lists.specs.declared.list_kind.ListKind.{ListKind}
use Rattle.dw_lists.specs.declared.list_kind.ListKind.TheVariants.{Ranges, Locations}
use Rattle.dw_lists.specs.declared.named_list.NamedList.{NamedList}
use Rattle.dw_lists.specs.Faults.{is_list_table}
use Rattle.dw_lists.specs.ListReading.{kind_of}
use Rattle.dw_lists.specs.ListTables.{is_of_ranges, is_of_locations}
use Rattle.list_writer.specs.ListBytes.{list_bytes}

abbrev pub bytes_of : Option (Vec ℕ) → List ℕ
bytes_of None = []
bytes_of (Some v) = v.items

-- The bytes of the list with number `n`.
abbrev pub bytes_in : List (Vec ℕ) → ℕ → List ℕ
bytes_in lists n = bytes_of (slice_get lists n)

-- The attribute with the base of indexes.
abbrev pub base_name : ListKind → ℕ
base_name kind = (kind_of kind).base_name

-- The attributes that get offsets.
abbrev pub is_of : ListKind → ℕ → Bool
is_of Ranges = is_of_ranges
is_of Locations = is_of_locations

-- The attribute refers to lists of the kind.
abbrev pub IsNaming : ListKind → ℕ → Type 0
IsNaming kind attr = (kind_of kind).names_list attr ≡ true

-- A key for the order of attributes: first by entry, then by the attribute's number, which is below 128.
abbrev pub key : ℕ → ℕ → ℕ
key place attr = 128 * place + attr

-- Attributes that refer to lists, in order, none twice.
abbrev pub AreInOrder : ListKind → ℕ → List NamedList → Type 0
AreInOrder kind lo [] = Unit {0}
AreInOrder kind lo (r ∷ rs) = (lo ≤ key r.place r.attr) × IsNaming kind r.attr
    × AreInOrder kind (key r.place r.attr + 1) rs

-- The bytes `part` are in `bytes` at an offset.
pub record Begins (bytes : List ℕ) (offset : ℕ) (part : List ℕ) : Type 0 where
  pub before : List ℕ
  pub more : List ℕ
  pub is : bytes ≡ before ++ (part ++ more)
  pub at : offset ≡ length before

-- `known` has the offsets of lists in the body of a table.
abbrev pub AreListed : List (Vec ℕ) → List ℕ → BTreeMap ℕ ℕ → Type 0
AreListed lists body known = (n o : ℕ) → get nat_cmp known n ≡ Some o → Begins body o (bytes_in lists n)

-- Bytes were appended.
pub record IsLonger (old new : List ℕ) : Type 0 where
  pub more : List ℕ
  pub is : new ≡ old ++ more

-- The list with number `n` is at an offset of the body, which had it or got it.
pub record IsListed (lists : List (Vec ℕ)) (n offset : ℕ) (old new : List ℕ) (known : BTreeMap ℕ ℕ) : Type 0 where
  pub longer : IsLonger old new
  pub listed : AreListed lists new known
  pub begins : Begins new offset (bytes_in lists n)

-- Offsets for attributes below a key, and bases for units below an offset, one for each, below 2^32.
pub record AreNames (kind : ListKind) (lo own : ℕ) (names : List ListAt) : Type 0 where
  pub attrs : All (λ l. IsTrue (is_of kind l.attr)) names
  pub once : (l : ListAt) → Contains names l → new_list_offset names l.entry l.attr ≡ Some l.offset
  pub low : All (λ l. l.offset < 2 ^ 32) names
  pub lists : (e attr : ℕ) → IsNaming kind attr → lo ≤ key e attr → new_list_offset names e attr ≡ None
  pub bases : (e : ℕ) → own ≤ e → new_list_offset names e (base_name kind) ≡ None

-- No offset is lost.
abbrev pub Keeps : List ListAt → List ListAt → Type 0
Keeps old new = (e attr o : ℕ) → new_list_offset old e attr ≡ Some o → new_list_offset new e attr ≡ Some o

-- The offset of an attribute's list.
abbrev pub name_at : NamedList → ℕ → ListAt
name_at r offset = record { entry = r.place; attr = r.attr; offset = offset }

-- The base of a unit.
abbrev pub base_at : ListKind → ℕ → ℕ → ListAt
base_at kind own offset = record { entry = own; attr = base_name kind; offset = offset }

-- An attribute got the offset of its list in a body that begins at `start`: an offset of its own, or one for its index.
abbrev pub IsOffsetGiven : ℕ → ℕ → NamedList → List ListAt → List ListAt → BTreeMap ℕ ℕ → BTreeMap ℕ ℕ → Option ℕ →
    Type 0
IsOffsetGiven start o r names more indexes now None =
    (more ≡ names ++ name_at r (start + o) ∷ []) × (start + o < 2 ^ 32) × (now ≡ indexes)
IsOffsetGiven start o r names more indexes now (Some i) =
    (more ≡ names) × ((q : ℕ) → get nat_cmp now q ≡ (if is_at (nat_cmp i) q then Some o else get nat_cmp indexes q))

-- The list of an attribute was added to a body, and the attribute got its offset.
pub record IsEntryPut (lists : List (Vec ℕ)) (start : ℕ) (r : NamedList) (old new : List ℕ) (known : BTreeMap ℕ ℕ)
    (indexes now : BTreeMap ℕ ℕ) (names more : List ListAt) : Type 0 where
  pub offset : ℕ
  pub listed : IsListed lists r.list offset old new known
  pub given : IsOffsetGiven start offset r names more indexes now r.index

-- An attribute whose list is in a body that begins at `start`: the attribute has the list's offset, or its index has
-- the offset of the list of an attribute with the same index.
abbrev pub IsPut : List (Vec ℕ) → ℕ → List ℕ → BTreeMap ℕ ℕ → List ListAt → List NamedList → NamedList →
    Option ℕ → Type 0
IsPut lists start body indexes names all r None =
    (o : ℕ) × (new_list_offset names r.place r.attr ≡ Some (start + o)) × Begins body o (bytes_in lists r.list)
IsPut lists start body indexes names all r (Some i) =
    (o : ℕ) × (like : NamedList) × (get nat_cmp indexes i ≡ Some o) × (like.index ≡ Some i) × Contains all like
    × Begins body o (bytes_in lists like.list)

-- The least key after those of some attributes.
abbrev pub keys_end : ℕ → List NamedList → ℕ
keys_end lo [] = lo
keys_end lo (r ∷ rs) = keys_end (key r.place r.attr + 1) rs

-- The lists of attributes were added to a body, and each attribute got its offset.
pub record ArePut (kind : ListKind) (lists : List (Vec ℕ)) (start lo own : ℕ) (body : List ℕ) (indexes : BTreeMap ℕ ℕ)
    (old names : List ListAt) (entries : List NamedList) : Type 0 where
  pub names_are : AreNames kind (keys_end lo entries) own names
  pub keeps : Keeps old names
  -- No base is added.
  pub bases : (e : ℕ) → new_list_offset names e (base_name kind) ≡ new_list_offset old e (base_name kind)
  pub each : (r : NamedList) → Contains entries r → IsPut lists start body indexes names entries r r.index
  -- An index that has an offset is used by one of them.
  pub used : (i o : ℕ) → get nat_cmp indexes i ≡ Some o →
      (r : NamedList) × Contains entries r × (r.index ≡ Some i) × Begins body o (bytes_in lists r.list)

-- Tables

-- The version, the size of addresses, and the number of offsets.
abbrev pub list_header : ℕ → List ℕ
list_header count = little_bytes 2 5 ++ 8 ∷ 0 ∷ little_bytes 4 count

-- If a table has offsets, its first list has no entries.
abbrev pub first_list : ℕ → List ℕ
first_list zero = []
first_list (suc n) = DW_RLE_end_of_list ∷ []

-- Offsets count from the first of them, and lists follow them. An index that isn't used has the first list.
abbrev pub offset_of : ℕ → BTreeMap ℕ ℕ → ℕ → ℕ
offset_of size indexes i = size + unwrap_or (get nat_cmp indexes i) 0

-- The offsets of the first indexes, of four bytes each.
unfoldable pub list_offsets : (size : ℕ) → BTreeMap ℕ ℕ → ℕ → List ℕ
list_offsets size indexes zero = []
list_offsets size indexes (suc n) = list_offsets size indexes n ++ little_bytes 4 (offset_of size indexes n)

-- A table after its length: header, offsets and lists.
abbrev pub list_table : ℕ → BTreeMap ℕ ℕ → List ℕ → List ℕ
list_table count indexes body = list_header count ++ (list_offsets (4 * count) indexes count ++ body)

-- A table was appended, after its length.
pub record IsTablePut (count : ℕ) (indexes : BTreeMap ℕ ℕ) (body old new : List ℕ) : Type 0 where
  pub bytes : new ≡ old ++ (little_bytes 4 (8 + 4 * count + length body) ++ list_table count indexes body)
  pub small : 8 + 4 * count + length body < 2 ^ 32 - 1
  pub low : (i : ℕ) → i < count → offset_of (4 * count) indexes i < 2 ^ 32

-- The bytes `part` are in one of the tables, at offset `at` of the section.
pub record StandsAt (tables : List (List ℕ)) (at : ℕ) (part : List ℕ) : Type 0 where
  pub before : List (List ℕ)
  pub after : List (List ℕ)
  pub head : List ℕ
  pub more : List ℕ
  pub are : tables ≡ before ++ (head ++ (part ++ more)) ∷ after
  pub at_is : at ≡ length (units_bytes before) + 4 + length head

-- An attribute finds its list by the list's offset; or by its index and the base of its unit, at which the list of an
-- attribute with the same index is found.
abbrev pub IsNamed : ListKind → List (Vec ℕ) → List (List ℕ) → List ListAt → List NamedList → NamedList → Option ℕ →
    Type 0
IsNamed kind lists tables names all r None =
    (at : ℕ) × (new_list_offset names r.place r.attr ≡ Some at) × StandsAt tables at (bytes_in lists r.list)
IsNamed kind lists tables names all r (Some i) =
    (base : ℕ) × (o : ℕ) × (like : NamedList) × (new_list_offset names r.own (base_name kind) ≡ Some base)
    × StandsAt tables (base + 4 * i) (little_bytes 4 o) × (o < 2 ^ 32) × (like.own ≡ r.own) × (like.index ≡ Some i)
    × Contains all like × StandsAt tables (base + o) (bytes_in lists like.list)

-- Bases

-- There is a table whose offsets begin at a base.
pub record IsTableAt (tables : List (List ℕ)) (base count : ℕ) : Type 0 where
  pub before : List (List ℕ)
  pub after : List (List ℕ)
  pub indexes : BTreeMap ℕ ℕ
  pub body : List ℕ
  pub are : tables ≡ before ++ list_table count indexes body ∷ after
  pub at : base ≡ length (units_bytes before) + 12
  pub low : 4 * count < 2 ^ 32

-- The list of an index at a base: that of an attribute with the index in a unit with the base, or the empty list.
abbrev pub IsListOf : ListKind → List (Vec ℕ) → List (List ℕ) → List ListAt → List NamedList → (base i at : ℕ) → Type 0
IsListOf kind lists tables names entries base i at =
    ((r : NamedList) × Contains entries r × (r.index ≡ Some i)
    × (new_list_offset names r.own (base_name kind) ≡ Some base) × StandsAt tables at (bytes_in lists r.list))
    ⊎ StandsAt tables at (list_bytes kind [])

-- An index at a base has the offset of a list.
pub record HasSlot (kind : ListKind) (lists : List (Vec ℕ)) (tables : List (List ℕ)) (names : List ListAt)
    (entries : List NamedList) (base i : ℕ) : Type 0 where
  pub offset : ℕ
  pub stands : StandsAt tables (base + 4 * i) (little_bytes 4 offset)
  pub low : offset < 2 ^ 32
  pub list : IsListOf kind lists tables names entries base i (base + offset)

-- A unit has a base. The table there has an offset for each index up to the unit's greatest one.
pub record HasBase (kind : ListKind) (lists : List (Vec ℕ)) (tables : List (List ℕ)) (names : List ListAt)
    (entries : List NamedList) (x : IndexedUnit) : Type 0 where
  pub base : ℕ
  pub named : new_list_offset names x.own (base_name kind) ≡ Some base
  pub count : ℕ
  pub table : IsTableAt tables base count
  pub above : (i : ℕ) → x.greatest ≡ Some i → i < count
  pub slots : (i : ℕ) → i < count → HasSlot kind lists tables names entries base i

-- The number of offsets that units need: one for each index up to the greatest.
pub record IsCountOf (units : List IndexedUnit) (count : ℕ) : Type 0 where
  pub above : (x : IndexedUnit) (i : ℕ) → Contains units x → x.greatest ≡ Some i → i < count
  pub used : 0 < count → (x : IndexedUnit) × Contains units x × (x.greatest ≡ Some (count - 1))

-- The bases of units that share a table.
abbrev pub bases_at : ListKind → ℕ → List IndexedUnit → List ListAt
bases_at kind base units = map (λ (x : IndexedUnit). base_at kind x.own base) units

-- No unit's own entry is at offset `e`.
abbrev pub IsNoOwn : List IndexedUnit → ℕ → Type 0
IsNoOwn units e = (x : IndexedUnit) → Contains units x → x.own ≡ e → ⊥

-- Units, in the order of their own entries.
abbrev pub UnitsRise : ℕ → List IndexedUnit → Type 0
UnitsRise lo [] = Unit {0}
UnitsRise lo (x ∷ xs) = (lo ≤ x.own) × UnitsRise (x.own + 1) xs

abbrev pub units_end : ℕ → List IndexedUnit → ℕ
units_end lo [] = lo
units_end lo (x ∷ xs) = units_end (x.own + 1) xs

-- The attribute's unit is one of these, and its index isn't above that unit's greatest one.
pub record IsOwned (units : List IndexedUnit) (r : NamedList) : Type 0 where
  pub x : IndexedUnit
  pub there : Contains units x
  pub own : x.own ≡ r.own
  pub index : (i : ℕ) → r.index ≡ Some i → (g : ℕ) × (x.greatest ≡ Some g) × (i ≤ g)

-- No index is used by attributes of two units.
abbrev pub AreApart : List NamedList → Type 0
AreApart entries = (r q : NamedList) (i : ℕ) → Contains entries r → Contains entries q → r.index ≡ Some i →
    q.index ≡ Some i → r.own ≡ q.own

-- One more table, in which the attributes of some units' entries find their lists.
pub record IsGroupWritten (kind : ListKind) (lists : List (Vec ℕ)) (lo own : ℕ) (entries : List NamedList)
    (units : List IndexedUnit) (tables : List (List ℕ)) (bytes : List ℕ) (old names : List ListAt) : Type 0 where
  pub table : List ℕ
  pub bytes_are : bytes ≡ units_bytes (tables ++ table ∷ [])
  pub is_unit : IsUnit 5 table
  pub is_table : is_list_table table ≡ true
  pub names_are : AreNames kind (keys_end lo entries) (units_end own units) names
  pub keeps : Keeps old names
  -- No bases are added except for these units.
  pub bases : (e : ℕ) → IsNoOwn units e →
      new_list_offset names e (base_name kind) ≡ new_list_offset old e (base_name kind)
  pub each : (r : NamedList) → Contains entries r → IsNamed kind lists (tables ++ table ∷ []) names entries r r.index
  pub based : (x : IndexedUnit) → Contains units x → HasBase kind lists (tables ++ table ∷ []) names entries x

-- The offsets of the own entries of attributes' units don't fall.
abbrev pub OwnsRise : ℕ → List NamedList → Type 0
OwnsRise lo [] = Unit {0}
OwnsRise lo (r ∷ rs) = (lo ≤ r.own) × OwnsRise r.own rs

-- Attributes and units for which no table is written yet.
pub record AreLeft (kind : ListKind) (lo own : ℕ) (entries : List NamedList) (units : List IndexedUnit) : Type 0 where
  pub order : AreInOrder kind lo entries
  pub owns : OwnsRise 0 entries
  pub rise : UnitsRise own units
  pub owned : (r : NamedList) → Contains entries r → IsOwned units r

-- The units that may get tables. A section isn't added only for indexes.
abbrev pub indexed_in : (section : List ℕ) → List NamedList → List IndexedUnit → List IndexedUnit
indexed_in [] [] units = []
indexed_in [] (r ∷ rs) units = units
indexed_in (b ∷ bs) named units = units

-- The units that need a table: those that use an index, and those whose attributes refer to lists.
abbrev pub needs_table : List NamedList → IndexedUnit → Bool
needs_table entries x = is_some x.greatest || list_any (λ (r : NamedList). r.own == x.own) entries

-- The units that need a table, in order.
abbrev pub with_tables : List NamedList → List IndexedUnit → List IndexedUnit
with_tables entries units = filter (needs_table entries) units

-- Tables in which attributes find their lists, and the bases of units.
pub record AreWritten (kind : ListKind) (lists : List (Vec ℕ)) (entries : List NamedList) (us : List IndexedUnit)
    (bytes : List ℕ) (names : List ListAt) : Type 0 where
  pub tables : List (List ℕ)
  pub bytes_are : bytes ≡ units_bytes tables
  pub units : All (IsUnit 5) tables
  pub sound : All (λ b. is_list_table b ≡ true) tables
  pub names_are : AreNames kind (keys_end 0 entries) (units_end 0 us) names
  pub each : (r : NamedList) → Contains entries r → IsNamed kind lists tables names entries r r.index
  pub based : (x : IndexedUnit) → Contains us x → HasBase kind lists tables names entries x
  pub unbased : (e : ℕ) → IsNoOwn us e → new_list_offset names e (base_name kind) ≡ None
