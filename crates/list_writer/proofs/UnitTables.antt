-- A written table has the lists of its unit.
use Rattle.std.proofs.Common.{◌≡◌, ◌∙◌, ◌+◌, ◌-◌, ◌*◌, ◌^◌, ◌<◌, ◌≤◌, ◌==◌, ◌&&◌, ◌++◌, ◌∷◌, [], ℕ, zero, suc, Bool, true, false, List}
use Rattle.std.proofs.Common.{Option, Some, None, BTreeMap, nat_cmp, inl, inr}
use Rattle.std.specs.BTreeMap.{get}
use Rattle.std.proofs.Common.{refl, sym, ap, subst, arith, length, drop, ⊎_elim, append-nil, append_assoc, length-append, add-one}
use Rattle.std.specs.Prelude.{Contains, nat_le, unwrap_or}
use Rattle.std.specs.Global.{Vec}
use Rattle.std.proofs.lemmas.Bool.{cases_lt}
use Rattle.std.proofs.lemmas.Bool.Decides.{nat_tests}
use Rattle.byteorder.specs.Endian.{little_number, little_bytes}
use Rattle.byteorder.specs.Numbers.{little_number-reads_back}
use Rattle.table_core.specs.declared.written.ListAt.{ListAt}
use Rattle.table_core.specs.WrittenUnits.{IsUnit, units_bytes}
use Rattle.dw_unit.specs.EntryMoves.{new_list_offset}
use Rattle.dw_lists.specs.declared.indexed_unit.IndexedUnit.{IndexedUnit}
use Rattle.dw_lists.specs.declared.list_entry.TheConstants.{DW_RLE_end_of_list}
use Rattle.dw_lists.specs.declared.list_kind.ListKind.{ListKind}
use Rattle.dw_lists.specs.declared.named_list.NamedList.{NamedList}
use Rattle.dw_lists.specs.Faults.{is_list_table}
use Rattle.list_writer.specs.WrittenTables.{bytes_in, base_name, Begins, Keeps, IsPut, ArePut, keys_end, list_header}
use Rattle.list_writer.specs.WrittenTables.{offset_of, list_offsets, list_table, IsTablePut, StandsAt, IsNamed, first_list, IsLonger}
use Rattle.list_writer.specs.WrittenTables.{IsTableAt, IsListOf, HasBase, IsCountOf, IsOwned, AreApart, UnitsRise, bases_at, IsGroupWritten}
use Rattle.list_writer.specs.ListBytes.{list_bytes}
use Rattle.list_writer.proofs.PutEntries.{bases_put}
use Rattle.list_writer.proofs.SpelledEntries.{length-little}

-- The list without entries.
pub no_entries : (kind : ListKind) → list_bytes kind [] ≡ DW_RLE_end_of_list ∷ []
unfolding list_bytes
no_entries kind = refl

-- Offsets

next_offset : (size : ℕ) (m : BTreeMap ℕ ℕ) (n : ℕ) → list_offsets size m (suc n) ≡ list_offsets size m n
    ++ little_bytes 4 (offset_of size m n)
unfolding list_offsets
next_offset size m n = refl

pub no_offsets : (size : ℕ) (m : BTreeMap ℕ ℕ) → list_offsets size m 0 ≡ []
unfolding list_offsets
no_offsets size m = refl

pub offsets_step : (size : ℕ) (m : BTreeMap ℕ ℕ) (n : ℕ) → list_offsets size m (n + 1) ≡ list_offsets size m n
    ++ little_bytes 4 (offset_of size m n)
offsets_step size m n = ap (list_offsets size m) (add-one n) ∙ next_offset size m n

pub offset_low : (size : ℕ) (m : BTreeMap ℕ ℕ) (n : ℕ) → ((i : ℕ) → i < n → offset_of size m i < 2 ^ 32) → offset_of size m n < 2 ^ 32 →
    (i : ℕ) → i < n + 1 → offset_of size m i < 2 ^ 32
offset_low size m n before here i h = ⊎_elim (λ (lt : i < n). before i lt)
    (λ (le : n ≤ i). let same : n ≡ i = omega (arith, h, le) in subst (λ (k : ℕ). offset_of size m k < 2 ^ 32) same here) (cases_lt i n)

offsets_len : (size : ℕ) (m : BTreeMap ℕ ℕ) (n : ℕ) → length (list_offsets size m n) ≡ 4 * n
unfolding list_offsets
offsets_len size m zero = refl
offsets_len size m (suc n) =
    let a = length-append (list_offsets size m n) (little_bytes 4 (offset_of size m n)) in
    let b = length-little 4 (offset_of size m n) in
    let c = offsets_len size m n in
    omega (arith, a, b, c)

record HasOffset (size : ℕ) (m : BTreeMap ℕ ℕ) (n i : ℕ) : Type 0 where
  pub more : List ℕ
  pub is : list_offsets size m n ≡ list_offsets size m i ++ (little_bytes 4 (offset_of size m i) ++ more)

offset_at : (size : ℕ) (m : BTreeMap ℕ ℕ) (n i : ℕ) → i < n → HasOffset size m n i
unfolding list_offsets
offset_at size m zero i h = absurd (omega arith)
offset_at size m (suc n) i h = ⊎_elim
    (λ (lt : i < n).
    let p = offset_at size m n i lt in
    record {
      more = p.more ++ little_bytes 4 (offset_of size m n);
      is = ap (λ (l : List ℕ). l ++ little_bytes 4 (offset_of size m n)) p.is
          ∙ append_assoc (list_offsets size m i) (little_bytes 4 (offset_of size m i) ++ p.more) (little_bytes 4 (offset_of size m n))
          ∙ ap (λ (l : List ℕ). list_offsets size m i ++ l) (append_assoc (little_bytes 4 (offset_of size m i)) p.more
          (little_bytes 4 (offset_of size m n)));
    })
    (λ (le : n ≤ i).
    let same : n ≡ i = omega (arith, h, le) in
    subst (HasOffset size m (suc n)) same
    (record { more = []; is = ap (λ (l : List ℕ). list_offsets size m n ++ l) (sym (append-nil (little_bytes 4 (offset_of size m n)))) }))
    (cases_lt i n)

-- Tables

header_len : (count : ℕ) → length (list_header count) ≡ 8
header_len count =
    let a = length-append (little_bytes 2 5) (8 ∷ 0 ∷ little_bytes 4 count) in
    let b = length-little 2 5 in
    let c = length-little 4 count in
    omega (arith, a, b, c)

table_size : (count : ℕ) (m : BTreeMap ℕ ℕ) (body : List ℕ) → length (list_table count m body) ≡ 8 + 4 * count + length body
table_size count m body =
    let a = length-append (list_header count) (list_offsets (4 * count) m count ++ body) in
    let b = length-append (list_offsets (4 * count) m count) body in
    let c = header_len count in
    let d = offsets_len (4 * count) m count in
    omega (arith, a, b, c, d)

drop_front : (xs ys : List ℕ) (n : ℕ) → n ≡ length xs → drop n (xs ++ ys) ≡ ys
drop_front [] ys n e = ap (λ (k : ℕ). drop k ys) e
drop_front (x ∷ xs) ys zero e = absurd (omega (arith, e))
drop_front (x ∷ xs) ys (suc n) e = drop_front xs ys n (omega (arith, e))

module _ (count : ℕ) (m : BTreeMap ℕ ℕ) (body : List ℕ) (low : 4 * count < 2 ^ 32) where
  abbrev table : List ℕ
  table = list_table count m body

  abbrev rest : List ℕ
  rest = list_offsets (4 * count) m count ++ body

  front : table ≡ little_bytes 2 5 ++ (8 ∷ 0 ∷ (little_bytes 4 count ++ rest))
  front = append_assoc (little_bytes 2 5) (8 ∷ 0 ∷ little_bytes 4 count) rest

  sizes : drop 2 table ≡ 8 ∷ 0 ∷ (little_bytes 4 count ++ rest)
  sizes =
      let two : 2 ≡ length (little_bytes 2 5) = sym (length-little 2 5) in
      ap (drop 2) front ∙ drop_front (little_bytes 2 5) (8 ∷ 0 ∷ (little_bytes 4 count ++ rest)) 2 two

  pub count_is : little_number 4 (drop 4 table) ≡ count
  count_is =
      let counted : drop 4 table ≡ little_bytes 4 count ++ rest = ap (drop 2) sizes in
      ap (little_number 4) counted ∙ little_number-reads_back 4 count rest (omega (arith, low))

  pub is_table : is_list_table table ≡ true
  is_table =
      let n = table_size count m body in
      let number = count_is in
      let eight : (little_number 2 (drop 2 table) == 8) ≡ true = ap (λ (l : List ℕ). little_number 2 l == 8) sizes in
      let long : nat_le 8 (length table) ≡ true = at_most 8 (length table) (omega (arith, n)) in
      let fits : nat_le (4 * little_number 4 (drop 4 table)) (length table - 8) ≡ true = at_most (4 * little_number 4 (drop 4 table))
      (length table - 8) (omega (arith, n, number)) in
      sound_by (nat_le 8 (length table)) (little_number 2 (drop 2 table) == 8)
      (nat_le (4 * little_number 4 (drop 4 table)) (length table - 8)) long eight fits
    where
      at_most : (a b : ℕ) → a ≤ b → nat_le a b ≡ true
      at_most a b h = grind (arith, nat_tests)

      sound_by : (a b c : Bool) → a ≡ true → b ≡ true → c ≡ true → (a && b && c) ≡ true
      sound_by true true true e f g = refl
      sound_by true true false e f g = absurd (cc)
      sound_by true false c e f g = absurd (cc)
      sound_by false b c e f g = absurd (cc)

  is_unit : 8 + 4 * count + length body < 2 ^ 32 - 1 → IsUnit 5 table
  is_unit small =
      let n = table_size count m body in
      record {
        is_version = ap (little_number 2) front ∙ little_number-reads_back 2 5 (8 ∷ 0 ∷ (little_bytes 4 count ++ rest)) (omega arith);
        some = omega (arith, n);
        small = omega (arith, n, small);
      }

pub units-append : (bs cs : List (List ℕ)) → units_bytes (bs ++ cs) ≡ units_bytes bs ++ units_bytes cs
unfolding units_bytes
units-append [] cs = refl
units-append (b ∷ bs) cs =
    ap (λ l. little_bytes 4 (length b) ++ (b ++ l)) (units-append bs cs)
    ∙ ap (λ (l : List ℕ). little_bytes 4 (length b) ++ l) (sym (append_assoc b (units_bytes bs) (units_bytes cs)))
    ∙ sym (append_assoc (little_bytes 4 (length b)) (b ++ units_bytes bs) (units_bytes cs))

one_unit : (b : List ℕ) → units_bytes (b ∷ []) ≡ little_bytes 4 (length b) ++ b
unfolding units_bytes
one_unit b = ap (λ (l : List ℕ). little_bytes 4 (length b) ++ l) (append-nil b)

pub one_unit_more : (b : List ℕ) (cs : List (List ℕ)) → units_bytes (b ∷ cs) ≡ little_bytes 4 (length b) ++ (b ++ units_bytes cs)
unfolding units_bytes
one_unit_more b cs = refl

-- How attributes find their lists

module _ (lists : List (Vec ℕ)) (tables : List (List ℕ)) (count base : ℕ) (m : BTreeMap ℕ ℕ) (body : List ℕ)
    (low : (i : ℕ) → i < count → offset_of (4 * count) m i < 2 ^ 32) (based : base ≡ length (units_bytes tables) + 12) where
  abbrev with_table : List (List ℕ)
  with_table = tables ++ list_table count m body ∷ []

  list_stands : (o : ℕ) (part : List ℕ) → Begins body o part → StandsAt with_table (base + 4 * count + o) part
  list_stands o part b =
      let offsets : List ℕ = list_offsets (4 * count) m count in
      let head : List ℕ = list_header count ++ (offsets ++ b.before) in
      let split : list_table count m body ≡ head ++ (part ++ b.more) =
      ap (λ (l : List ℕ). list_header count ++ (offsets ++ l)) b.is
      ∙ ap (λ (l : List ℕ). list_header count ++ l) (sym (append_assoc offsets b.before (part ++ b.more)))
      ∙ sym (append_assoc (list_header count) (offsets ++ b.before) (part ++ b.more)) in
      let a = length-append (list_header count) (offsets ++ b.before) in
      let c = length-append offsets b.before in
      let d = header_len count in
      let e = offsets_len (4 * count) m count in
      let f = b.at in
      record {
        before = tables;
        after = [];
        head = head;
        more = b.more;
        are = ap (λ (l : List ℕ). tables ++ l ∷ []) split;
        at_is = omega (arith, a, c, d, e, f, based);
      }

  offset_stands : (i : ℕ) → i < count → StandsAt with_table (base + 4 * i) (little_bytes 4 (offset_of (4 * count) m i))
  offset_stands i h =
      let p = offset_at (4 * count) m count i h in
      let number : List ℕ = little_bytes 4 (offset_of (4 * count) m i) in
      let head : List ℕ = list_header count ++ list_offsets (4 * count) m i in
      let split : list_table count m body ≡ head ++ (number ++ (p.more ++ body)) =
      ap (λ (l : List ℕ). list_header count ++ (l ++ body)) p.is
      ∙ ap (λ (l : List ℕ). list_header count ++ l) (append_assoc (list_offsets (4 * count) m i) (number ++ p.more) body
      ∙ ap (λ (l : List ℕ). list_offsets (4 * count) m i ++ l) (append_assoc number p.more body))
      ∙ sym (append_assoc (list_header count) (list_offsets (4 * count) m i) (number ++ (p.more ++ body))) in
      let a = length-append (list_header count) (list_offsets (4 * count) m i) in
      let d = header_len count in
      let e = offsets_len (4 * count) m i in
      record {
        before = tables;
        after = [];
        head = head;
        more = p.more ++ body;
        are = ap (λ (l : List ℕ). tables ++ l ∷ []) split;
        at_is = omega (arith, a, d, e, based);
      }

  pub table_at : 4 * count < 2 ^ 32 → IsTableAt with_table base count
  table_at fits = record { before = tables; after = []; indexes = m; body = body; are = refl; at = based; low = fits }

  module _ (kind : ListKind) (units : List IndexedUnit) (names more : List ListAt) (entries : List NamedList) (keeps : Keeps names more)
      (owned : (r : NamedList) → Contains entries r → IsOwned units r) (apart : AreApart entries) (counted : IsCountOf units count)
      (named : (x : IndexedUnit) → Contains units x → new_list_offset more x.own (base_name kind) ≡ Some base) where
    low_index : (r : NamedList) (i : ℕ) → Contains entries r → r.index ≡ Some i → i < count
    low_index r i there is =
        let w = owned r there in
        let g = w.index i is in
        let h = counted.above w.x g.0 w.there g.1 in
        let k = g.2 in omega (arith, h, k)

    own_base : (r : NamedList) → Contains entries r → new_list_offset more r.own (base_name kind) ≡ Some base
    own_base r there =
        let w = owned r there in
        subst (λ (n : ℕ). new_list_offset more n (base_name kind) ≡ Some base) w.own (named w.x w.there)

    is_named : (r : NamedList) → Contains entries r → (index : Option ℕ) → r.index ≡ index →
        IsPut lists (base + 4 * count) body m names entries r index → IsNamed kind lists with_table more entries r index
    is_named r there None is p =
        (base + 4 * count + p.0, keeps r.place r.attr (base + 4 * count + p.0) p.1, list_stands p.0 (bytes_in lists r.list) p.2)
    is_named r there (Some i) is p =
        let h : i < count = low_index r i there is in
        let o : offset_of (4 * count) m i ≡ 4 * count + p.0 = ap (λ (x : Option ℕ). 4 * count + unwrap_or x 0) p.2 in
        let at : base + 4 * count + p.0 ≡ base + offset_of (4 * count) m i = omega (arith, o) in (
          base,
          offset_of (4 * count) m i,
          p.1,
          own_base r there,
          offset_stands i h,
          low i h,
          apart p.1 r i p.4 there p.3 is,
          p.3,
          p.4,
          subst (λ (n : ℕ). StandsAt with_table n (bytes_in lists p.1.list)) at (list_stands p.0 (bytes_in lists p.1.list) p.5),
        )

    -- An index that no attribute uses.
    module _ (used : (i o : ℕ) → get nat_cmp m i ≡ Some o →
        (r : NamedList) × Contains entries r × (r.index ≡ Some i) × Begins body o (bytes_in lists r.list))
        (first : IsLonger (first_list count) body) where
      begins_by : (n : ℕ) → 0 < n → IsLonger (first_list n) body → Begins body 0 (list_bytes kind [])
      begins_by zero h l = absurd (omega arith)
      begins_by (suc n) h l =
          subst (Begins body 0) (sym (no_entries kind)) (record { before = []; more = l.more; is = l.is; at = refl })

      listed_by : (i : ℕ) → i < count → (o : Option ℕ) → get nat_cmp m i ≡ o →
          IsListOf kind lists with_table more entries base i (base + offset_of (4 * count) m i)
      listed_by i h None e =
          let o : offset_of (4 * count) m i ≡ 4 * count + 0 = ap (λ (x : Option ℕ). 4 * count + unwrap_or x 0) e in
          let at : base + 4 * count + 0 ≡ base + offset_of (4 * count) m i = omega (arith, o) in
          inr (subst (λ (n : ℕ). StandsAt with_table n (list_bytes kind [])) at
          (list_stands 0 (list_bytes kind []) (begins_by count (omega (arith, h)) first)))
      listed_by i h (Some x) e =
          let o : offset_of (4 * count) m i ≡ 4 * count + x = ap (λ (x : Option ℕ). 4 * count + unwrap_or x 0) e in
          let at : base + 4 * count + x ≡ base + offset_of (4 * count) m i = omega (arith, o) in
          let p = used i x e in
          inl (
            p.0,
            p.1,
            p.2,
            own_base p.0 p.1,
            subst (λ (n : ℕ). StandsAt with_table n (bytes_in lists p.0.list)) at (list_stands x (bytes_in lists p.0.list) p.3),
          )

      pub has_base : 4 * count < 2 ^ 32 → (x : IndexedUnit) → Contains units x → HasBase kind lists with_table more entries x
      has_base fits x there = record {
        base = base;
        named = named x there;
        count = count;
        table = table_at fits;
        above = λ i e. counted.above x i there e;
        slots = λ i h. record {
          offset = offset_of (4 * count) m i;
          stands = offset_stands i h;
          low = low i h;
          list = listed_by i h (get nat_cmp m i) refl;
        };
      }

-- A table of some units is written, and their bases are added.
module _ (kind : ListKind) (lists : List (Vec ℕ)) (lo bound count base : ℕ) (entries : List NamedList) (units : List IndexedUnit)
    (tables : List (List ℕ)) (old new : List ℕ) (body : List ℕ) (m : BTreeMap ℕ ℕ) (was names more : List ListAt)
    (before : old ≡ units_bytes tables) (based : base ≡ length old + 12) (small : base < 2 ^ 32) (fits : 4 * count < 2 ^ 32)
    (first : IsLonger (first_list count) body) (put : ArePut kind lists (base + 4 * count) lo bound body m was names entries)
    (rise : UnitsRise bound units) (owned : (r : NamedList) → Contains entries r → IsOwned units r) (apart : AreApart entries)
    (counted : IsCountOf units count) (named : more ≡ names ++ bases_at kind base units) (table : IsTablePut count m body old new) where
  at_tables : base ≡ length (units_bytes tables) + 12
  at_tables = based ∙ ap (λ (l : List ℕ). length l + 12) before

  pub group_written : IsGroupWritten kind lists lo bound entries units tables new was more
  group_written =
      let b = bases_put kind (keys_end lo entries) bound base units names more put.names_are rise small named in
      let size : 8 + 4 * count + length body ≡ length (list_table count m body) = sym (table_size count m body) in
      record {
        table = list_table count m body;
        bytes_are = table.bytes ∙ (λ i. before i ++ (little_bytes 4 (size i) ++ list_table count m body))
            ∙ ap (λ (l : List ℕ). units_bytes tables ++ l) (sym (one_unit (list_table count m body)))
            ∙ sym (units-append tables (list_table count m body ∷ []));
        is_unit = is_unit count m body fits table.small;
        is_table = is_table count m body fits;
        names_are = b.names_are;
        keeps = λ e attr o is. b.keeps e attr o (put.keeps e attr o is);
        bases = λ e none. b.others e none ∙ put.bases e;
        each = λ r there.
            is_named lists tables count base m body table.low at_tables kind units names more entries b.keeps owned apart counted b.named r
            there r.index refl (put.each r there);
        based = has_base lists tables count base m body table.low at_tables kind units names more entries b.keeps owned apart counted
            b.named put.used first fits;
      }

-- A table's bytes, one part after another.
pub joined_table : (count : ℕ) (m : BTreeMap ℕ ℕ) (body old a b d new : List ℕ) (len : ℕ) → len ≡ 8 + 4 * count + length body →
    a ≡ old ++ little_bytes 4 len →
    b ≡ a ++ list_header count → d ≡ b ++ list_offsets (4 * count) m count → new ≡ d ++ body →
    new ≡ old ++ (little_bytes 4 (8 + 4 * count + length body) ++ list_table count m body)
joined_table count m body old a b d new len e f g h k =
    k ∙ ap (λ (l : List ℕ). l ++ body) (h ∙ ap (λ (l : List ℕ). l ++ list_offsets (4 * count) m count)
    (g ∙ ap (λ (l : List ℕ). l ++ list_header count) f))
    ∙ assoc old (little_bytes 4 len) (list_header count) (list_offsets (4 * count) m count) body
    ∙ ap (λ (n : ℕ). old ++ (little_bytes 4 n ++ list_table count m body)) e
  where
    assoc : (v w x y z : List ℕ) → ((((v ++ w) ++ x) ++ y) ++ z) ≡ v ++ (w ++ (x ++ (y ++ z)))
    assoc v w x y z = simp append_assoc
