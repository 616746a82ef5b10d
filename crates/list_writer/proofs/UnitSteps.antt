-- Tables are written unit by unit.
use Rattle.std.proofs.Common.{Bool, true, false, cond, ◌-◌, ◌*◌, ◌≡◌, ◌≢◌, ◌∙◌, ◌+◌, ◌<◌, ◌≤◌, ◌⊎◌, ◌==◌, ◌||◌, inl, inr, ◌++◌, ◌∷◌, []}
use Rattle.std.proofs.Common.{ℕ, zero, suc, List, Option, Some, None, filter, nat_cmp}
use Rattle.std.proofs.Common.{refl, sym, ap, subst, arith, length, take, drop, get_or, ⊎_elim, append-nil, append_assoc}
use Rattle.std.specs.Prelude.{Contains, ⊤, is_some}
use Rattle.std.specs.BTreeMap.{is_at}
use Rattle.std.specs.BTreeSet.{BTreeSet, contains}
use Rattle.std.specs.List.{list_any}
use Rattle.std.proofs.lemmas.Bool.{cases_eq, eq-eqb, ne_eqb}
use Rattle.std.proofs.lemmas.Grind.{common_steps}
use Rattle.std.proofs.lemmas.List.{take_more}
use Rattle.std.proofs.lemmas.List.Folds.{list_any_more}
use Rattle.std.specs.Global.{Vec}
use Rattle.std.proofs.lemmas.List.Elements.{All-append, All-cons, All-nil, filter-append}
use Rattle.rb_bytes.proofs.Members.{Contains-nil, Contains-cons_cases}
use Rattle.rb_bytes.proofs.Searches.{Contains-filter}
use Rattle.table_core.specs.declared.written.ListAt.{ListAt}
use Rattle.table_core.specs.WrittenUnits.{IsUnit, units_bytes}
use Rattle.dw_unit.specs.EntryMoves.{new_list_offset}
use Rattle.dw_lists.specs.declared.indexed_unit.IndexedUnit.{IndexedUnit}
use Rattle.dw_lists.specs.declared.list_kind.ListKind.{ListKind}
use Rattle.dw_lists.specs.declared.named_list.NamedList.{NamedList}
use Rattle.dw_lists.specs.Faults.{is_list_table}
use Rattle.list_writer.specs.TableGroups.{IsGroup}
use Rattle.list_writer.specs.WrittenTables.{base_name, key, AreInOrder, AreNames, Keeps, keys_end, StandsAt, IsNamed, list_table}
use Rattle.list_writer.specs.WrittenTables.{IsTableAt, IsListOf, HasBase, UnitsRise, units_end, IsOwned, AreApart, IsGroupWritten}
use Rattle.list_writer.specs.WrittenTables.{OwnsRise, AreLeft, needs_table, with_tables, AreWritten}
use Rattle.list_writer.proofs.PutEntries.{at_key, at_same, contains_split, contains_still, contains_behind}

keys_append : (lo : ℕ) (xs ys : List NamedList) → keys_end lo (xs ++ ys) ≡ keys_end (keys_end lo xs) ys
keys_append lo [] ys = refl
keys_append lo (x ∷ xs) ys = keys_append (key x.place x.attr + 1) xs ys

order_front : (kind : ListKind) (lo : ℕ) (xs ys : List NamedList) → AreInOrder kind lo (xs ++ ys) → AreInOrder kind lo xs
order_front kind lo [] ys up = tt
order_front kind lo (x ∷ xs) ys up = (up.0, up.1, order_front kind (key x.place x.attr + 1) xs ys up.2)

pub order_back : (kind : ListKind) (lo : ℕ) (xs ys : List NamedList) → AreInOrder kind lo (xs ++ ys) → AreInOrder kind (keys_end lo xs) ys
order_back kind lo [] ys up = up
order_back kind lo (x ∷ xs) ys up = order_back kind (key x.place x.attr + 1) xs ys up.2

-- The next entry is of another unit.
abbrev pub Next : ℕ → List NamedList → Type 0
Next own [] = ⊤
Next own (r ∷ rs) = r.own ≢ own

-- Own entries of attributes and of units

pub owns_back : (lo : ℕ) (xs ys : List NamedList) → OwnsRise lo (xs ++ ys) → (less : ℕ) × OwnsRise less ys
owns_back lo [] ys rise = (lo, rise)
owns_back lo (x ∷ xs) ys rise = owns_back x.own xs ys rise.1

pub owns_from : (lo : ℕ) (rs : List NamedList) → OwnsRise lo rs → OwnsRise 0 rs
owns_from lo [] rise = tt
owns_from lo (r ∷ rs) rise = (omega arith, rise.1)

owns_least : (lo : ℕ) (rs : List NamedList) (r : NamedList) → OwnsRise lo rs → Contains rs r → lo ≤ r.own
owns_least lo [] r rise c = absurd (Contains-nil r c)
owns_least lo (x ∷ rs) r rise c = ⊎_elim
    (λ (same : x ≡ r). subst (λ (q : NamedList). lo ≤ q.own) same rise.0)
    (λ (there : Contains rs r). let h = owns_least x.own rs r rise.1 there in let k = rise.0 in omega (arith, h, k))
    (Contains-cons_cases x rs r c)

-- After the attributes of a unit all are of later units.
owns_above : (lo own : ℕ) (behind : List NamedList) (r : NamedList) → OwnsRise lo behind → Next own behind →
    ((q : NamedList) → Contains behind q → own ≤ q.own) → Contains behind r → own + 1 ≤ r.own
owns_above lo own [] r rise next low c = absurd (Contains-nil r c)
owns_above lo own (x ∷ rs) r rise next low c =
    let least = owns_least x.own (x ∷ rs) r (omega arith, rise.1) c in
    let first = above own x.own (low x (0, omega arith, refl)) next in
    omega (arith, least, first)
  where
    above : (m n : ℕ) → m ≤ n → n ≢ m → m + 1 ≤ n
    above m n h ne = by_cases (n - m) refl
      where
        by_cases : (d : ℕ) → n - m ≡ d → m + 1 ≤ n
        by_cases zero e = absurd (ne (omega (arith, h, e)))
        by_cases (suc d) e = omega (arith, h, e)

units_least : (lo : ℕ) (xs : List IndexedUnit) (x : IndexedUnit) → UnitsRise lo xs → Contains xs x → lo ≤ x.own
units_least lo [] x rise c = absurd (Contains-nil x c)
units_least lo (y ∷ xs) x rise c = ⊎_elim
    (λ (same : y ≡ x). subst (λ (z : IndexedUnit). lo ≤ z.own) same rise.0)
    (λ (there : Contains xs x). let h = units_least (y.own + 1) xs x rise.1 there in let k = rise.0 in omega (arith, h, k))
    (Contains-cons_cases y xs x c)

pub units_less : (less lo : ℕ) (xs : List IndexedUnit) → less ≤ lo → UnitsRise lo xs → UnitsRise less xs
units_less less lo [] h rise = tt
units_less less lo (x ∷ xs) h rise = let k = rise.0 in (omega (arith, h, k), rise.1)

units_append : (lo : ℕ) (xs ys : List IndexedUnit) → units_end lo (xs ++ ys) ≡ units_end (units_end lo xs) ys
units_append lo [] ys = refl
units_append lo (x ∷ xs) ys = units_append (x.own + 1) xs ys

units_front : (lo : ℕ) (xs ys : List IndexedUnit) → UnitsRise lo (xs ++ ys) → UnitsRise lo xs
units_front lo [] ys rise = tt
units_front lo (x ∷ xs) ys rise = (rise.0, units_front (x.own + 1) xs ys rise.1)

pub units_back : (lo : ℕ) (xs ys : List IndexedUnit) → UnitsRise lo (xs ++ ys) → UnitsRise (units_end lo xs) ys
units_back lo [] ys rise = rise
units_back lo (x ∷ xs) ys rise = units_back (x.own + 1) xs ys rise.1

-- One unit.
module _ (kind : ListKind) (lo bound : ℕ) (entries behind : List NamedList) (x : IndexedUnit) (later : List IndexedUnit)
    (left : AreLeft kind lo bound (entries ++ behind) (x ∷ later))
    (own : (r : NamedList) → Contains entries r → r.own ≡ x.own) (next : Next x.own behind) where
  low : (r : NamedList) → Contains (entries ++ behind) r → x.own ≤ r.own
  low r c =
      let w = left.owned r c in
      subst (λ (n : ℕ). x.own ≤ n) w.own (units_least x.own (x ∷ later) w.x (omega arith, left.rise.1) w.there)

  of_first : (r : NamedList) → Contains entries r → IsOwned (x ∷ []) r
  of_first r c =
      let w = left.owned r (contains_still entries behind r c) in ⊎_elim
      (λ (same : x ≡ w.x). record { x = w.x; there = (0, omega arith, same); own = w.own; index = w.index })
      (λ (there : Contains later w.x).
      let h = units_least (x.own + 1) later w.x left.rise.1 there in
      let e : w.x.own ≡ x.own = w.own ∙ own r c in absurd (omega (arith, h, e)))
      (Contains-cons_cases x later w.x w.there)

  of_later : (r : NamedList) → Contains behind r → IsOwned later r
  of_later r c =
      let w = left.owned r (contains_behind entries behind r c) in
      let back = owns_back 0 entries behind left.owns in
      let above = owns_above back.0 x.own behind r back.1 next (λ q d. low q (contains_behind entries behind q d)) c in ⊎_elim
      (λ (same : x ≡ w.x).
      let e : x.own ≡ r.own = ap (λ (z : IndexedUnit). z.own) same ∙ w.own in absurd (omega (arith, above, e)))
      (λ (there : Contains later w.x). record { x = w.x; there = there; own = w.own; index = w.index })
      (Contains-cons_cases x later w.x w.there)

  pub one_group : IsGroup entries behind (x ∷ []) later
  one_group = record { owned = of_first; later_owned = of_later; apart = λ r q i c d e f. own r c ∙ sym (own q d) }

-- The attributes of a unit

pub taken_own : (rest : List NamedList) (n own : ℕ) → ((k : ℕ) (d : NamedList) → k < n → (get_or rest k d).own ≡ own) → n ≤ length rest →
    (r : NamedList) → Contains (take n rest) r → r.own ≡ own
taken_own rest zero own same h r c = absurd (Contains-nil r c)
taken_own [] (suc n) own same h r c = absurd (omega arith)
taken_own (x ∷ rest) (suc n) own same h r c = ⊎_elim
    (λ (e : x ≡ r). sym (ap (λ (q : NamedList). q.own) e) ∙ same 0 x (omega arith))
    (λ (there : Contains (take n rest) r). taken_own rest n own (λ k d l. same (suc k) d (omega (arith, l))) (omega arith) r there)
    (Contains-cons_cases x (take n rest) r c)

pub next_own : (rest : List NamedList) (n own : ℕ) → ((d : NamedList) → n < length rest → (get_or rest n d).own ≢ own) →
    Next own (drop n rest)
next_own [] zero own next = tt
next_own [] (suc n) own next = tt
next_own (x ∷ rest) zero own next = next x (omega arith)
next_own (x ∷ rest) (suc n) own next = next_own rest n own (λ d h. next d (omega arith))

-- Bytes in tables are still there in more tables.

tables_assoc : (x y z : List (List ℕ)) → ((x ++ y) ++ z) ≡ x ++ (y ++ z)
tables_assoc x y z = append_assoc x y z

stands_still : (tables ys : List (List ℕ)) (at : ℕ) (part : List ℕ) → StandsAt tables at part → StandsAt (tables ++ ys) at part
stands_still tables ys at part s = record {
  before = s.before;
  after = s.after ++ ys;
  head = s.head;
  more = s.more;
  are = ap (λ (l : List (List ℕ)). l ++ ys) s.are ∙ assoc s.before ((s.head ++ (part ++ s.more)) ∷ s.after) ys;
  at_is = s.at_is;
}
  where
    assoc : (x y z : List (List ℕ)) → ((x ++ y) ++ z) ≡ x ++ (y ++ z)
    assoc [] y z = refl
    assoc (q ∷ x) y z = ap (λ (l : List (List ℕ)). q ∷ l) (assoc x y z)

named_still : (kind : ListKind) (lists : List (Vec ℕ)) (tables ys : List (List ℕ)) (names more : List ListAt) (all : List NamedList)
    (r : NamedList) (i : Option ℕ) → Keeps names more →
    IsNamed kind lists tables names all r i → IsNamed kind lists (tables ++ ys) more all r i
named_still kind lists tables ys names more all r None keeps n = (n.0, keeps r.place r.attr n.0 n.1, stands_still tables ys n.0 _ n.2)
named_still kind lists tables ys names more all r (Some i) keeps n = (
  n.0,
  n.1,
  n.2,
  keeps r.own (base_name kind) n.0 n.3,
  stands_still tables ys _ _ n.4,
  n.5,
  n.6,
  n.7,
  n.8,
  stands_still tables ys _ _
      n.9,
)

named_of : (kind : ListKind) (lists : List (Vec ℕ)) (tables : List (List ℕ)) (names : List ListAt) (unit all : List NamedList)
    (r : NamedList) (i : Option ℕ) →
    ((x : NamedList) → Contains unit x → Contains all x) → IsNamed kind lists tables names unit r i →
    IsNamed kind lists tables names all r i
named_of kind lists tables names unit all r None within n = n
named_of kind lists tables names unit all r (Some i) within n = (n.0, n.1, n.2, n.3, n.4, n.5, n.6, n.7, within n.2 n.8, n.9)

table_still : (tables ys : List (List ℕ)) (base count : ℕ) → IsTableAt tables base count → IsTableAt (tables ++ ys) base count
table_still tables ys base count t = record {
  before = t.before;
  after = t.after ++ ys;
  indexes = t.indexes;
  body = t.body;
  are = ap (λ (l : List (List ℕ)). l ++ ys) t.are ∙ tables_assoc t.before (list_table count t.indexes t.body ∷ t.after) ys;
  at = t.at;
  low = t.low;
}

-- A base, with more attributes.
base_of : (kind : ListKind) (lists : List (Vec ℕ)) (tables : List (List ℕ)) (names : List ListAt) (unit all : List NamedList)
    (x : IndexedUnit) → ((r : NamedList) → Contains unit r → Contains all r) → HasBase kind lists tables names unit x →
    HasBase kind lists tables names all x
base_of kind lists tables names unit all x within b = record {
  base = b.base;
  named = b.named;
  count = b.count;
  table = b.table;
  above = b.above;
  slots = λ i h.
      let s = b.slots i h in
      record { offset = s.offset; stands = s.stands; low = s.low; list = by i (b.base + s.offset) s.list };
}
  where
    by : (i at : ℕ) → IsListOf kind lists tables names unit b.base i at → IsListOf kind lists tables names all b.base i at
    by i at (inl p) = inl (p.0, within p.0 p.1, p.2, p.3, p.4)
    by i at (inr p) = inr p

-- A base, with more tables.
base_still : (kind : ListKind) (lists : List (Vec ℕ)) (tables ys : List (List ℕ)) (names more : List ListAt) (all : List NamedList)
    (x : IndexedUnit) → Keeps names more → HasBase kind lists tables names all x → HasBase kind lists (tables ++ ys) more all x
base_still kind lists tables ys names more all x keeps b = record {
  base = b.base;
  named = keeps x.own (base_name kind) b.base b.named;
  count = b.count;
  table = table_still tables ys b.base b.count b.table;
  above = b.above;
  slots = λ i h.
      let s = b.slots i h in record {
        offset = s.offset;
        stands = stands_still tables ys (b.base + 4 * i) _ s.stands;
        low = s.low;
        list = by i (b.base + s.offset) s.list;
      };
}
  where
    by : (i at : ℕ) → IsListOf kind lists tables names all b.base i at → IsListOf kind lists (tables ++ ys) more all b.base i at
    by i at (inl p) = inl (p.0, p.1, p.2, keeps p.0.own (base_name kind) b.base p.3, stands_still tables ys at _ p.4)
    by i at (inr p) = inr (stands_still tables ys at _ p)

-- One more group.
module _ (kind : ListKind) (lists : List (Vec ℕ)) (done unit behind : List NamedList) (before group later : List IndexedUnit)
    (bytes new : List ℕ) (names more : List ListAt) (w : AreWritten kind lists done before bytes names)
    (left : AreLeft kind (keys_end 0 done) (units_end 0 before) (unit ++ behind) (group ++ later)) where
  pub unit_order : AreInOrder kind (keys_end 0 done) unit
  unit_order = order_front kind (keys_end 0 done) unit behind left.order

  pub group_rise : UnitsRise (units_end 0 before) group
  group_rise = units_front (units_end 0 before) group later left.rise

  pub still_left : IsGroup unit behind group later → AreLeft kind (keys_end 0 (done ++ unit)) (units_end 0 (before ++ group)) behind later
  still_left g =
      let back = owns_back 0 unit behind left.owns in record {
        order = subst (λ (n : ℕ). AreInOrder kind n behind) (sym (keys_append 0 done unit))
            (order_back kind (keys_end 0 done) unit behind left.order);
        owns = owns_from back.0 behind back.1;
        rise = subst (λ (n : ℕ). UnitsRise n later) (sym (units_append 0 before group))
            (units_back (units_end 0 before) group later left.rise);
        owned = g.later_owned;
      }

  pub more_written : IsGroupWritten kind lists (keys_end 0 done) (units_end 0 before) unit group w.tables new names more →
      AreWritten kind lists (done ++ unit) (before ++ group) new more
  more_written u = record {
    tables = w.tables ++ u.table ∷ [];
    bytes_are = u.bytes_are;
    units = All-append (IsUnit 5) w.tables (u.table ∷ []) w.units (All-cons (IsUnit 5) u.table [] u.is_unit (All-nil (IsUnit 5)));
    sound = All-append (λ b. is_list_table b ≡ Bool.true) w.tables (u.table ∷ []) w.sound
        (All-cons (λ b. is_list_table b ≡ Bool.true) u.table [] u.is_table (All-nil (λ b. is_list_table b ≡ Bool.true)));
    names_are = subst (λ (n : ℕ). AreNames kind n (units_end 0 (before ++ group)) more) (sym (keys_append 0 done unit))
        (subst (λ (n : ℕ). AreNames kind (keys_end (keys_end 0 done) unit) n more) (sym (units_append 0 before group)) u.names_are);
    each = λ r c. ⊎_elim
        (λ (there : Contains done r).
        named_still kind lists w.tables (u.table ∷ []) names more (done ++ unit) r r.index u.keeps
        (named_of kind lists w.tables names done (done ++ unit) r r.index (contains_still done unit) (w.each r there)))
        (λ (there : Contains unit r).
        named_of kind lists (w.tables ++ u.table ∷ []) more unit (done ++ unit) r r.index (contains_behind done unit) (u.each r there))
        (contains_split done unit r c);
    based = λ x c. ⊎_elim
        (λ (there : Contains before x).
        base_still kind lists w.tables (u.table ∷ []) names more (done ++ unit) x u.keeps
        (base_of kind lists w.tables names done (done ++ unit) x (contains_still done unit) (w.based x there)))
        (λ (there : Contains group x).
        base_of kind lists (w.tables ++ u.table ∷ []) more unit (done ++ unit) x (contains_behind done unit) (u.based x there))
        (contains_split before group x c);
    unbased = λ e none.
        u.bases e (λ x c. none x (contains_behind before group x c))
        ∙ w.unbased e (λ x c. none x (contains_still before group x c));
  }

pub none_written : (kind : ListKind) (lists : List (Vec ℕ)) (bytes : List ℕ) (names : List ListAt) → bytes ≡ [] → names ≡ [] →
    AreWritten kind lists [] [] bytes names
unfolding units_bytes
none_written kind lists bytes names empty unnamed = record {
  tables = [];
  bytes_are = empty;
  units = All-nil (IsUnit 5);
  sound = All-nil (λ b. is_list_table b ≡ Bool.true);
  names_are = subst (AreNames kind 0 0) (sym unnamed) (record {
    attrs = All-nil _;
    once = λ l c. absurd (Contains-nil l c);
    low = All-nil _;
    lists = λ e attr is h. refl;
    bases = λ e h. refl;
  });
  each = λ r c. absurd (Contains-nil r c);
  based = λ x c. absurd (Contains-nil x c);
  unbased = λ e none. ap (λ (l : List ListAt). new_list_offset l e (base_name kind)) unnamed;
}

pub split_is : {X : Type 0} (xs : List X) (n : ℕ) → xs ≡ take n xs ++ drop n xs
split_is xs zero = refl
split_is [] (suc n) = refl
split_is (x ∷ xs) (suc n) = ap (λ l. x ∷ l) (split_is xs n)

-- The units and attributes written so far, and those left.
pub record IsAt (kind : ListKind) (lists : List (Vec ℕ)) (all : List NamedList) (units : List IndexedUnit) (rest : List NamedList)
    (left : List IndexedUnit) (number : ℕ) (bytes : List ℕ) (names : List ListAt) : Type 0 where
  pub done : List NamedList
  pub before : List IndexedUnit
  pub entries_are : all ≡ done ++ rest
  pub units_are : units ≡ before ++ left
  pub fits : length left + number ≤ length units
  pub written : AreWritten kind lists done before bytes names
  pub are_left : AreLeft kind (keys_end 0 done) (units_end 0 before) rest left

-- Nothing is left.
pub all_written : (kind : ListKind) (lists : List (Vec ℕ)) (all : List NamedList) (units : List IndexedUnit) (rest : List NamedList)
    (left : List IndexedUnit) (number : ℕ) (bytes : List ℕ) (names : List ListAt) → IsAt kind lists all units rest left number bytes names →
    length left ≡ 0 → AreWritten kind lists all units bytes names
all_written kind lists all units (r ∷ rest) [] number bytes names at e =
    absurd (Contains-nil _ (at.are_left.owned r (0, omega arith, refl)).there)
all_written kind lists all units [] [] number bytes names at e =
    subst (λ (us : List IndexedUnit). AreWritten kind lists all us bytes names) (sym (at.units_are ∙ append-nil at.before))
    (subst (λ (rs : List NamedList). AreWritten kind lists rs at.before bytes names) (sym (at.entries_are ∙ append-nil at.done)) at.written)
all_written kind lists all units rest (x ∷ left) number bytes names at e = absurd (omega (arith, e))

-- The units at the front are written; they share a table.
pub next_group : (kind : ListKind) (lists : List (Vec ℕ)) (all : List NamedList) (units : List IndexedUnit) (rest : List NamedList)
    (left : List IndexedUnit) (number : ℕ) (bytes new : List ℕ) (names more : List ListAt) (unit behind : List NamedList)
    (group later : List IndexedUnit) (m n : ℕ) → IsAt kind lists all units rest left number bytes names →
    unit ≡ take n rest → behind ≡ drop n rest → group ≡ take m left → later ≡ drop m left → 0 < m → 0 < length left →
    ((kind : ListKind) (lo bound : ℕ) → AreLeft kind lo bound rest left → IsGroup (take n rest) (drop n rest) (take m left) (drop m left)) →
    ((tables : List (List ℕ)) (lo bound : ℕ) → bytes ≡ units_bytes tables → AreNames kind lo bound names → AreInOrder kind lo unit →
    UnitsRise bound group → ((r : NamedList) → Contains unit r → IsOwned group r) → AreApart unit →
    IsGroupWritten kind lists lo bound unit group tables new names more) →
    IsAt kind lists all units behind later (number + 1) new more
next_group kind lists all units rest left number bytes new names more unit behind group later m n at a b c d some any shared put =
    let split : rest ≡ unit ++ behind = split_is rest n ∙ (λ i. sym a i ++ sym b i) in
    let parts : left ≡ group ++ later = split_is left m ∙ (λ i. sym c i ++ sym d i) in
    let are : AreLeft kind (keys_end 0 at.done) (units_end 0 at.before) (unit ++ behind) (group ++ later) =
    subst (λ (us : List IndexedUnit). AreLeft kind (keys_end 0 at.done) (units_end 0 at.before) (unit ++ behind) us) parts
    (subst (λ (rs : List NamedList). AreLeft kind (keys_end 0 at.done) (units_end 0 at.before) rs left) split at.are_left) in
    let g : IsGroup unit behind group later =
    subst (λ (us : List IndexedUnit). IsGroup unit behind group us) (sym d)
    (subst (λ (us : List IndexedUnit). IsGroup unit behind us (drop m left)) (sym c)
    (subst (λ (rs : List NamedList). IsGroup unit rs (take m left) (drop m left)) (sym b)
    (subst (λ (rs : List NamedList). IsGroup rs (drop n rest) (take m left) (drop m left)) (sym a)
    (shared kind (keys_end 0 at.done) (units_end 0 at.before) at.are_left)))) in
    let u = put at.written.tables (keys_end 0 at.done) (units_end 0 at.before) at.written.bytes_are at.written.names_are
    (unit_order kind lists at.done unit behind at.before group later bytes new names more at.written are)
    (group_rise kind lists at.done unit behind at.before group later bytes new names more at.written are) g.owned g.apart in
    let size : length later ≡ length left - m = ap length d ∙ units_dropped left m in
    let fits = at.fits in
    record {
      done = at.done ++ unit;
      before = at.before ++ group;
      entries_are = at.entries_are ∙ ap (λ (l : List NamedList). at.done ++ l) split ∙ sym (append_assoc at.done unit behind);
      units_are = at.units_are ∙ ap (λ (l : List IndexedUnit). at.before ++ l) parts ∙ sym (append_assoc at.before group later);
      fits = omega (arith, size, fits, some, any);
      written = more_written kind lists at.done unit behind at.before group later bytes new names more at.written are u;
      are_left = still_left kind lists at.done unit behind at.before group later bytes new names more at.written are g;
    }
  where
    units_dropped : (xs : List IndexedUnit) (n : ℕ) → length (drop n xs) ≡ length xs - n
    units_dropped xs n = grind (arith, common_steps)

-- Nothing is written yet.
pub at_start : (kind : ListKind) (lists : List (Vec ℕ)) (all : List NamedList) (units : List IndexedUnit) (bytes : List ℕ)
    (names : List ListAt) → AreLeft kind 0 0 all units → AreWritten kind lists [] [] bytes names →
    IsAt kind lists all units all units 0 bytes names
at_start kind lists all units bytes names left w =
    record { done = []; before = []; entries_are = refl; units_are = refl; fits = omega arith; written = w; are_left = left }

-- The units that need a table

pub own_more : (o : ℕ) (named : List NamedList) (i : ℕ) (d : NamedList) (old new : Bool) → i < length named →
    new ≡ cond (is_at (nat_cmp (get_or named i d).own) o) true old → old ≡ list_any (λ (r : NamedList). r.own == o) (take i named) →
    new ≡ list_any (λ (r : NamedList). r.own == o) (take (i + 1) named)
own_more o named i d old new h made before =
    made ∙ by (cases_eq (get_or named i d).own o) ∙ (λ j. before j || (get_or named i d).own == o)
    ∙ sym (list_any_more (λ (r : NamedList). r.own == o) named i d h)
  where
    by : ((get_or named i d).own ≡ o) ⊎ ((get_or named i d).own ≢ o) →
        cond (is_at (nat_cmp (get_or named i d).own) o) true old ≡ (old || (get_or named i d).own == o)
    by (inl e) =
        ap (λ (b : Bool). cond b true old) (at_same (get_or named i d).own o e)
        ∙ sym (ap (λ (b : Bool). old || b) (eq-eqb (get_or named i d).own o e) ∙ or_true old)
      where
        or_true : (b : Bool) → (b || true) ≡ true
        or_true true = refl
        or_true false = refl
    by (inr ne) =
        ap (λ (b : Bool). cond b true old) (at_key (get_or named i d).own o ne)
        ∙ sym (ap (λ (b : Bool). old || b) (ne_eqb (get_or named i d).own o ne) ∙ or_false old)
      where
        or_false : (b : Bool) → (b || false) ≡ b
        or_false true = refl
        or_false false = refl

pub filter_more : {X : Type 0} (p : X → Bool) (xs : List X) (i : ℕ) (d : X) (old new : List X) → i < length xs →
    old ≡ filter p (take i xs) → new ≡ old ++ filter p (get_or xs i d ∷ []) → new ≡ filter p (take (i + 1) xs)
filter_more p xs i d old new h before made =
    made ∙ ap (λ l. l ++ filter p (get_or xs i d ∷ [])) before
    ∙ sym (ap (filter p) (take_more xs i d h) ∙ filter-append p (take i xs) (get_or xs i d ∷ []))

units_filtered : (p : IndexedUnit → Bool) (lo : ℕ) (xs : List IndexedUnit) → UnitsRise lo xs → UnitsRise lo (filter p xs)
units_filtered p lo [] rise = tt
units_filtered p lo (x ∷ xs) rise = by (p x) (units_filtered p (x.own + 1) xs rise.1)
  where
    by : (b : Bool) → UnitsRise (x.own + 1) (filter p xs) → UnitsRise lo (cond b (x ∷ filter p xs) (filter p xs))
    by true more = (rise.0, more)
    by false more = let h = rise.0 in units_less lo (x.own + 1) (filter p xs) (omega (arith, h)) more

-- An attribute's unit needs one.
pub needs_one : (named : List NamedList) (x : IndexedUnit) (r : NamedList) → Contains named r → x.own ≡ r.own → needs_table named x ≡ true
needs_one named x r c own = or_right (is_some x.greatest) (any named c)
  where
    or_right : (b : Bool) {c : Bool} → c ≡ true → (b || c) ≡ true
    or_right true e = refl
    or_right false e = e

    or_left : (b c : Bool) → b ≡ true → (b || c) ≡ true
    or_left true c e = refl
    or_left false c e = absurd (cc)

    any : (rs : List NamedList) → Contains rs r → list_any (λ (q : NamedList). q.own == x.own) rs ≡ true
    any [] c = absurd (Contains-nil r c)
    any (y ∷ rs) c = ⊎_elim
        (λ (same : y ≡ r).
        or_left (y.own == x.own) (list_any (λ (q : NamedList). q.own == x.own) rs)
        (eq-eqb y.own x.own (ap (λ (q : NamedList). q.own) same ∙ sym own)))
        (λ (there : Contains rs r). or_right (y.own == x.own) (any rs there))
        (Contains-cons_cases y rs r c)

pub needing_left : (kind : ListKind) (lo own : ℕ) (named : List NamedList) (units : List IndexedUnit) → AreLeft kind lo own named units →
    AreLeft kind lo own named (with_tables named units)
needing_left kind lo own named units left = record {
  order = left.order;
  owns = left.owns;
  rise = units_filtered (needs_table named) own units left.rise;
  owned = λ r c.
      let w = left.owned r c in
      record {
        x = w.x;
        there = Contains-filter (needs_table named) units w.x w.there (needs_one named w.x r c w.own);
        own = w.own;
        index = w.index;
      };
}

pub needing_are : (named : List NamedList) (units needing : List IndexedUnit) (owns : BTreeSet ℕ) →
    needing ≡ filter (λ (x : IndexedUnit). is_some x.greatest || contains nat_cmp owns x.own) units →
    ((o : ℕ) → contains nat_cmp owns o ≡ list_any (λ (r : NamedList). r.own == o) named) → needing ≡ with_tables named units
needing_are named units needing owns is are = is ∙ (λ i. filter (λ (x : IndexedUnit). is_some x.greatest || are x.own i) units)

pub needing_none : (named : List NamedList) (units : List IndexedUnit) → length units ≡ 0 → length (with_tables named units) ≡ 0
needing_none named [] e = refl
needing_none named (x ∷ units) e = absurd (omega (arith, e))
