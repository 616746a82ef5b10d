-- A list in a table of a section is read there, and so is an offset.
use Rattle.std.proofs.Common.{ℕ, ◌+◌, ◌-◌, ◌*◌, ◌^◌, ◌≤◌, ◌<◌, ◌≡◌, List, [], ◌∷◌, ◌++◌, Option, Some, None, Ok, cond, leb, Bool, true}
use Rattle.std.proofs.Common.{false, refl}
use Rattle.std.proofs.Common.{◌∙◌, ap, subst, arith, length, take, drop, append_assoc, length-append, map}
use Rattle.std.proofs.lemmas.Bool.Decides.{nat_tests}
use Rattle.std.proofs.lemmas.Grind.{common_steps}
use Rattle.std.specs.Prelude.{All, option_and_then, unwrap_or, nat_le, if◌then◌else◌}
use Rattle.std.specs.Option.{option_or}
use Rattle.byteorder.specs.Endian.{little_number, little_bytes}
use Rattle.byteorder.specs.Numbers.{little_number-reads_back}
use Rattle.table_core.specs.DebugUnits.{Walked}
use Rattle.table_core.specs.WrittenUnits.{IsUnit, units_bytes, walked_units}
use Rattle.table_core.proofs.UnitsBack.{units-back}
use Rattle.dw_unit.specs.CompUnits.{Unit, address_at, number_in}
use Rattle.dw_lists.specs.declared.list_kind.ListKind.{ListKind}
use Rattle.dw_lists.specs.declared.list_kind.ListKind.TheVariants as kind
use Rattle.list_writer.specs.ListBytes.{Bounded, IsWritable, list_bytes, located_at}
use Rattle.dw_lists.specs.ListEntries.{items_within}
use Rattle.dw_lists.specs.ListReading.{kind_of, item_of}
use Rattle.dw_lists.specs.Lists.{table_below, end_of_table, list_end, items_at, items_said, list_at, base_address}
use Rattle.list_writer.specs.WrittenTables.{StandsAt}
use Rattle.list_writer.proofs.ListsBack.{list-back, list-said}
use Rattle.list_writer.proofs.SpelledEntries.{item_at, length-little}
use Rattle.list_writer.proofs.UnitTables.{units-append, one_unit_more}

none-below : (at place : ℕ) (bs : List (List ℕ)) → at < place → table_below at (walked_units place bs) ≡ None
unfolding walked_units
none-below at place [] lt = refl
none-below at place (b ∷ bs) lt =
    let past : leb place at ≡ false = grind (arith, nat_tests) in
    rw (none-below at (place + (length b + 4)) bs (omega (arith, lt)), past) refl

abbrev pub table_of : ℕ → List ℕ → Walked
table_of place b = record { place = place; bytes = Some b; is_other = false }

-- The table that contains an offset.
table-below : (at place : ℕ) (bs : List (List ℕ)) (b : List ℕ) (cs : List (List ℕ)) → place + length (units_bytes bs) ≤ at →
    at < place + length (units_bytes bs) + (length b + 4) →
    table_below at (walked_units place (bs ++ b ∷ cs)) ≡ Some (table_of (place + length (units_bytes bs)) b)
unfolding walked_units units_bytes
table-below at place [] b cs le lt =
    let here : leb place at ≡ true = grind (arith, nat_tests) in
    let same : place ≡ place + 0 = omega arith in
    ap (λ (o : Option Walked). option_or o (cond (leb place at) (Some (table_of place b)) None))
    (none-below at (place + (length b + 4)) cs (omega (arith, lt)))
    ∙ ap (λ (t : Bool). cond t (Some (table_of place b)) None) here ∙ ap (λ n. Some (table_of n b)) same
table-below at place (x ∷ bs) b cs le lt =
    let size : length (little_bytes 4 (length x) ++ (x ++ units_bytes bs)) ≡ 4 + (length x + length (units_bytes bs))
    = sized (little_bytes 4 (length x)) x (units_bytes bs) (length-little 4 (length x)) in
    let more = table-below at (place + (length x + 4)) bs b cs (omega (arith, le, size)) (omega (arith, lt, size)) in
    let same : place + (length x + 4) + length (units_bytes bs) ≡ place + length (little_bytes 4 (length x) ++ (x ++ units_bytes bs))
    = omega (arith, size) in
    ap (λ (o : Option Walked). option_or o (cond (leb place at) (Some (table_of place x)) None)) more
    ∙ ap (λ n. Some (table_of n b)) same
  where
    sized : (h y z : List ℕ) → length h ≡ 4 → length (h ++ (y ++ z)) ≡ 4 + (length y + length z)
    sized h y z four = let a = length-append h (y ++ z) in let b = length-append y z in omega (arith, a, b, four)

-- Bytes in the middle of a section.
middle : (front h head left back : List ℕ) (at : ℕ) → at ≡ length front + (length h + length head) →
    drop at (front ++ (h ++ ((head ++ left) ++ back))) ≡ left ++ back
middle front h head left back at e = ap (drop at) (assoc front h head left back) ∙ gone ((front ++ h) ++ head) (left ++ back) at (e ∙ size)
  where
    assoc : (a b c d e : List ℕ) → (a ++ (b ++ ((c ++ d) ++ e))) ≡ ((a ++ b) ++ c) ++ (d ++ e)
    assoc a b c d e = simp append_assoc

    gone : (xs ys : List ℕ) (n : ℕ) → n ≡ length xs → drop n (xs ++ ys) ≡ ys
    gone xs ys n e = grind (arith, common_steps)

    size : length front + (length h + length head) ≡ length ((front ++ h) ++ head)
    size = let a = length-append (front ++ h) head in let b = length-append front h in omega (arith, a, b)

taken : (xs ys : List ℕ) (n : ℕ) → n ≡ length xs → take n (xs ++ ys) ≡ xs
taken xs ys n e = grind (arith, common_steps)

-- Bytes in one of the tables, and the bytes after them.
module _ (tables : List (List ℕ)) (at : ℕ) (part : List ℕ) (s : StandsAt tables at part) (units : All (IsUnit 5) tables) where
  abbrev section : List ℕ
  section = units_bytes tables

  abbrev left : List ℕ
  left = part ++ s.more

  abbrev front : List ℕ
  front = units_bytes s.before

  parts : section ≡ front ++ (little_bytes 4 (length (s.head ++ left)) ++ ((s.head ++ left) ++ units_bytes s.after))
  parts = ap units_bytes s.are ∙ units-append s.before ((s.head ++ left) ∷ s.after)
      ∙ ap (λ (l : List ℕ). front ++ l) (one_unit_more (s.head ++ left) s.after)

  drop_at : drop at section ≡ left ++ units_bytes s.after
  drop_at =
      let four = length-little 4 (length (s.head ++ left)) in
      ap (drop at) parts ∙ middle front (little_bytes 4 (length (s.head ++ left))) s.head left (units_bytes s.after) at (let h = s.at_is in
      omega (arith, h, four))

  section_size : length section ≡ length front + (4 + (length s.head + (length part + length s.more)) + length (units_bytes s.after))
  section_size =
      let a = length-append front (little_bytes 4 (length (s.head ++ left)) ++ ((s.head ++ left) ++ units_bytes s.after)) in
      let b = length-append (little_bytes 4 (length (s.head ++ left))) ((s.head ++ left) ++ units_bytes s.after) in
      let c = length-append (s.head ++ left) (units_bytes s.after) in
      let d = length-append s.head left in
      let e = length-append part s.more in
      let f = length-little 4 (length (s.head ++ left)) in
      let g = ap length parts in
      omega (arith, a, b, c, d, e, f, g)

  pub part_inside : at + length part ≤ length section
  part_inside = let a = section_size in let h = s.at_is in omega (arith, a, h)

  module _ (some : 0 < length part) where
    ends_at : list_end section at ≡ length front + 4 + length (s.head ++ left)
    ends_at =
        let size = length-append s.head left in
        let more = length-append part s.more in
        let h = s.at_is in
        let tables_are = subst (λ (ts : List (List ℕ)). All (IsUnit 5) ts) s.are units in
        ap (λ (ws : List Walked). unwrap_or (option_and_then end_of_table (table_below at ws)) (length section))
        (units-back 5 0 (length section) tables units (omega arith) ∙ ap (walked_units 0) s.are)
        ∙ ap (λ (o : Option Walked). unwrap_or (option_and_then end_of_table o) (length section))
        (table-below at 0 s.before (s.head ++ left) s.after (omega (arith, h, size)) (omega (arith, h, size, more, some)))
        ∙ zero-plus (length front) (length (s.head ++ left))
      where
        zero-plus : (m n : ℕ) → 0 + m + 4 + n ≡ m + 4 + n
        zero-plus m n = omega arith

    left_at : take (list_end section at - at) (drop at section) ≡ left
    left_at =
        let size = length-append s.head left in
        ap (λ (n : ℕ). take (n - at) (drop at section)) ends_at
        ∙ ap (take (length front + 4 + length (s.head ++ left) - at)) drop_at
        ∙ taken left (units_bytes s.after) (length front + 4 + length (s.head ++ left) - at) (let h = s.at_is in omega (arith, h, size))

-- The reading of a unit at the offset of a list.
item_is : (k : ListKind) → (kind_of k).item ≡ item_of k
item_is kind.Ranges = refl
item_is kind.Locations = refl

list_some : (k : ListKind) (bs : List Bounded) → 0 < length (list_bytes k bs)
unfolding list_bytes
list_some k [] = omega arith
list_some kind.Ranges (b ∷ bs) = omega arith
list_some kind.Locations (b ∷ bs) = omega arith

pub list_read : (k : ListKind) (tables : List (List ℕ)) (at : ℕ) (bs : List Bounded) → StandsAt tables at (list_bytes k bs) →
    All (IsUnit 5) tables → All (IsWritable k) bs → items_at (kind_of k) (units_bytes tables) at ≡ Ok (map item_at bs)
list_read k tables at bs s units w =
    ap (λ (l : List ℕ). items_within (kind_of k).item (length l) l) (left_at tables at (list_bytes k bs) s units (list_some k bs))
    ∙ ap (λ (item : ℕ → List ℕ → _). items_within item (length (list_bytes k bs ++ s.more)) (list_bytes k bs ++ s.more)) (item_is k)
    ∙ list-back k bs s.more (length (list_bytes k bs ++ s.more)) w (omega arith)

pub list_there : (k : ListKind) (tables : List (List ℕ)) (at : ℕ) (bs : List Bounded) → StandsAt tables at (list_bytes k bs) →
    All (IsUnit 5) tables →
    All (IsWritable k) bs → (addr : List ℕ) (u : Unit) → list_at (kind_of k) (units_bytes tables) addr u at ≡ Some (map located_at bs)
list_there k tables at bs s units w addr u =
    ap (items_said addr u) (list_read k tables at bs s units w) ∙ list-said (address_at addr u) bs (base_address addr u)

pub list_inside : (k : ListKind) (tables : List (List ℕ)) (at : ℕ) (bs : List Bounded) → StandsAt tables at (list_bytes k bs) →
    All (IsUnit 5) tables →
    at < length (units_bytes tables)
list_inside k tables at bs s units = let a = part_inside tables at (list_bytes k bs) s units in let b = list_some k bs in
    omega (arith, a, b)

-- The base of an index whose offset is in a table.
pub base_inside : (tables : List (List ℕ)) (base i o : ℕ) → StandsAt tables (base + 4 * i) (little_bytes 4 o) → All (IsUnit 5) tables →
    base < length (units_bytes tables)
base_inside tables base i o s units =
    let inside = part_inside tables (base + 4 * i) (little_bytes 4 o) s units in
    let size = length-little 4 o in omega (arith, inside, size)

pub offset_there : (tables : List (List ℕ)) (at o : ℕ) → StandsAt tables at (little_bytes 4 o) → All (IsUnit 5) tables → o < 2 ^ 32 →
    number_in 4 at (units_bytes tables) ≡ Some o
offset_there tables at o s units low =
    let inside = part_inside tables at (little_bytes 4 o) s units in
    let size = length-little 4 o in
    let test : nat_le (at + 4) (length (units_bytes tables)) ≡ true = at_most (at + 4) (length (units_bytes tables))
    (omega (arith, inside, size)) in
    let read : little_number 4 (drop at (units_bytes tables)) ≡ o =
    ap (little_number 4) (drop_at tables at (little_bytes 4 o) s units ∙ append_assoc (little_bytes 4 o) s.more (units_bytes s.after))
    ∙ little_number-reads_back 4 o (s.more ++ units_bytes s.after) (omega (arith, low)) in
    ap (λ (b : Bool). if b then Some (little_number 4 (drop at (units_bytes tables))) else None) test ∙ ap (λ (n : ℕ). Some n) read
  where
    at_most : (a b : ℕ) → a ≤ b → nat_le a b ≡ true
    at_most a b h = grind (arith, nat_tests)
