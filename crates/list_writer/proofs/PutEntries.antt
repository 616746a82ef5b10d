-- Attributes whose lists are written get offsets, one after another.
use Rattle.std.proofs.Common.{◌≡◌, ◌≢◌, ◌∙◌, ◌+◌, ◌-◌, ◌^◌, ◌<◌, ◌≤◌, ◌==◌, ◌&&◌, ◌||◌, ◌*◌, ◌⊎◌, inl, inr, ◌++◌, ◌∷◌, [], ℕ, zero, suc}
use Rattle.std.proofs.Common.{Bool}
use Rattle.std.proofs.Common.{true, false, List, Option, Some, None, BTreeMap, nat_cmp}
use Rattle.std.proofs.Common.{refl, sym, ap, subst, arith, length, take, get_or, All, ⊎_elim, append-nil, append_assoc}
use Rattle.std.specs.Prelude.{if◌then◌else◌, Contains, option_map, IsTrue, flat_map}
use Rattle.std.specs.BTreeMap.{get, is_at, IsEmpty}
use Rattle.std.specs.Map.{lookup}
use Rattle.std.specs.Global.{Vec}
use Rattle.std.specs.List.{find}
use Rattle.std.specs.Option.{option_or}
use Rattle.std.proofs.lemmas.Bool.{cases_eq, cases_lt, eq-eqb, eqb-true, ne_eqb}
use Rattle.std.proofs.lemmas.Grind.{common_steps}
use Rattle.std.proofs.lemmas.List.{take_more}
use Rattle.std.proofs.lemmas.List.Elements.{All-append, All-cons, All-nil}
use Rattle.std.proofs.lemmas.List.Folds.{find-append}
use Rattle.rb_bytes.proofs.Members.{Contains-nil, Contains-cons_cases, Contains-there}
use Rattle.rb_bytes.proofs.Options.{same_some}
use Rattle.answer_runs.proofs.Grown.{or_none}
use Rattle.table_core.specs.declared.written.ListAt.{ListAt}
use Rattle.dw_unit.specs.EntryMoves.{is_list_of, new_list_offset}
use Rattle.dw_lists.specs.declared.indexed_unit.IndexedUnit.{IndexedUnit}
use Rattle.dw_lists.specs.declared.list_kind.ListKind.{ListKind}
use Rattle.dw_lists.specs.declared.list_kind.ListKind.TheVariants.{Ranges, Locations}
use Rattle.dw_lists.specs.declared.named_list.NamedList.{NamedList}
use Rattle.list_writer.specs.WrittenTables.{base_name, is_of, key, IsNaming, AreInOrder, IsListed, bytes_in, AreListed, AreNames, IsLonger}
use Rattle.list_writer.specs.WrittenTables.{Keeps, name_at}
use Rattle.list_writer.specs.WrittenTables.{base_at, IsOffsetGiven, IsEntryPut, IsPut, ArePut, keys_end, Begins, IsCountOf, IsNoOwn}
use Rattle.list_writer.specs.WrittenTables.{UnitsRise, bases_at, units_end}
use Rattle.list_writer.proofs.WrittenLists.{longer_begins}

-- An element of a list with one more.
pub contains_more : {X : Type 0} (xs : List X) (x y : X) → Contains (xs ++ x ∷ []) y → (Contains xs y) ⊎ (x ≡ y)
contains_more [] x y c = ⊎_elim (λ (e : x ≡ y). inr e) (λ (there : Contains [] y). absurd (Contains-nil y there))
    (Contains-cons_cases x [] y c)
contains_more (z ∷ xs) x y c = ⊎_elim
    (λ (e : z ≡ y). inl (0, omega arith, e))
    (λ (there : Contains (xs ++ x ∷ []) y). ⊎_elim (λ (h : Contains xs y). inl (Contains-there z xs y h)) (λ (e : x ≡ y). inr e)
    (contains_more xs x y there))
    (Contains-cons_cases z (xs ++ x ∷ []) y c)

pub contains_still : {X : Type 0} (xs ys : List X) (y : X) → Contains xs y → Contains (xs ++ ys) y
contains_still [] ys y c = absurd (Contains-nil y c)
contains_still (z ∷ xs) ys y c = ⊎_elim (λ (e : z ≡ y). (0, omega arith, e))
    (λ (there : Contains xs y). Contains-there z (xs ++ ys) y (contains_still xs ys y there))
    (Contains-cons_cases z xs y c)

pub contains_last : {X : Type 0} (xs : List X) (y : X) → Contains (xs ++ y ∷ []) y
contains_last [] y = (0, omega arith, refl)
contains_last (z ∷ xs) y = Contains-there z (xs ++ y ∷ []) y (contains_last xs y)

pub contains_behind : {X : Type 0} (xs ys : List X) (y : X) → Contains ys y → Contains (xs ++ ys) y
contains_behind [] ys y c = c
contains_behind (z ∷ xs) ys y c = Contains-there z (xs ++ ys) y (contains_behind xs ys y c)

pub contains_split : {X : Type 0} (xs ys : List X) (y : X) → Contains (xs ++ ys) y → (Contains xs y) ⊎ (Contains ys y)
contains_split [] ys y c = inr c
contains_split (z ∷ xs) ys y c = ⊎_elim
    (λ (e : z ≡ y). inl (0, omega arith, e))
    (λ (there : Contains (xs ++ ys) y). ⊎_elim (λ (h : Contains xs y). inl (Contains-there z xs y h)) (λ (h : Contains ys y). inr h)
    (contains_split xs ys y there))
    (Contains-cons_cases z (xs ++ ys) y c)

-- Elements of lists that are made one by one

pub flat_has : {X Y : Type 0} (f : X → List Y) (xs : List X) (x : X) (y : Y) → Contains xs x → Contains (f x) y → Contains (flat_map f xs) y
flat_has f [] x y c d = absurd (Contains-nil x c)
flat_has f (z ∷ xs) x y c d = ⊎_elim
    (λ (same : z ≡ x). contains_still (f z) (flat_map f xs) y (subst (λ (w : _). Contains (f w) y) (sym same) d))
    (λ (there : Contains xs x). contains_behind (f z) (flat_map f xs) y (flat_has f xs x y there d))
    (Contains-cons_cases z xs x c)

pub flat_from : {X Y : Type 0} (f : X → List Y) (xs : List X) (y : Y) → Contains (flat_map f xs) y →
    (x : X) × Contains xs x × Contains (f x) y
flat_from f [] y c = absurd (Contains-nil y c)
flat_from f (x ∷ xs) y c = ⊎_elim
    (λ (here : Contains (f x) y). (x, (0, omega arith, refl), here))
    (λ (there : Contains (flat_map f xs) y). let p = flat_from f xs y there in (p.0, Contains-there x xs p.0 p.1, p.2))
    (contains_split (f x) (flat_map f xs) y c)

-- Names

offset_by : (a b : Option ListAt) → option_map (λ (l : ListAt). l.offset) (option_or a b) ≡ option_or
    (option_map (λ (l : ListAt). l.offset) a) (option_map (λ (l : ListAt). l.offset) b)
offset_by None b = refl
offset_by (Some l) b = refl

abbrev named : ListAt → ℕ → ℕ → Option ℕ
named l e attr = option_map (λ (l : ListAt). l.offset) (if l.entry == e && l.attr == attr then Some l else None)

offset_more : (xs : List ListAt) (l : ListAt) (e attr : ℕ) → new_list_offset (xs ++ l ∷ []) e attr ≡ option_or (new_list_offset xs e attr)
    (named l e attr)
offset_more xs l e attr =
    ap (option_map (λ (l : ListAt). l.offset)) (find-append (is_list_of e attr) xs (l ∷ []))
    ∙ offset_by (find (is_list_of e attr) xs) (find (is_list_of e attr) (l ∷ []))

and_both : (a b : Bool) → a ≡ true → b ≡ true → (a && b) ≡ true
and_both true b e f = f
and_both false b e f = absurd (cc)

pub and_left : (a b : Bool) → a ≡ false → (a && b) ≡ false
and_left true b e = absurd (cc)
and_left false b e = refl

pub and_right : (a b : Bool) → b ≡ false → (a && b) ≡ false
and_right true b e = e
and_right false b e = refl

named_self : (l : ListAt) → named l l.entry l.attr ≡ Some l.offset
named_self l =
    ap (λ (b : Bool). option_map (λ (l : ListAt). l.offset) (if b then Some l else None))
    (and_both (l.entry == l.entry) (l.attr == l.attr) (eq-eqb l.entry l.entry refl) (eq-eqb l.attr l.attr refl))

named_other : (l : ListAt) (e attr : ℕ) → (l.entry == e && l.attr == attr) ≡ false → named l e attr ≡ None
named_other l e attr f = ap (λ (b : Bool). option_map (λ (l : ListAt). l.offset) (if b then Some l else None)) f

pub keeps_more : (xs : List ListAt) (l : ListAt) → Keeps xs (xs ++ l ∷ [])
keeps_more xs l e attr o is = offset_more xs l e attr ∙ ap (λ (x : Option ℕ). option_or x (named l e attr)) is

pub new_name : (xs : List ListAt) (l : ListAt) → new_list_offset xs l.entry l.attr ≡ None →
    new_list_offset (xs ++ l ∷ []) l.entry l.attr ≡ Some l.offset
new_name xs l none = offset_more xs l l.entry l.attr ∙ (λ i. option_or (none i) (named_self l i))

pub other_name : (xs : List ListAt) (l : ListAt) (e attr : ℕ) → (l.entry == e && l.attr == attr) ≡ false →
    new_list_offset (xs ++ l ∷ []) e attr ≡ new_list_offset xs e attr
other_name xs l e attr f =
    offset_more xs l e attr ∙ ap (λ (x : Option ℕ). option_or (new_list_offset xs e attr) x) (named_other l e attr f)
    ∙ or_none (new_list_offset xs e attr)

still_none : (xs : List ListAt) (l : ListAt) (e attr : ℕ) → new_list_offset xs e attr ≡ None → (l.entry == e && l.attr == attr) ≡ false →
    new_list_offset (xs ++ l ∷ []) e attr ≡ None
still_none xs l e attr none f = other_name xs l e attr f ∙ none

-- The attributes of a kind

pub by_either : (P : ℕ → Type 0) (n : ℕ) (b c : Bool) → (n == 0x02) ≡ b → (n == 0x40) ≡ c → (b || c) ≡ true → P 0x02 → P 0x40 → P n
by_either P n true c e f g x y = subst P (sym (eqb-true n 0x02 e)) x
by_either P n false true e f g x y = subst P (sym (eqb-true n 0x40 f)) y
by_either P n false false e f g x y = absurd (cc)

pub of_list : (kind : ListKind) (n : ℕ) → IsNaming kind n → IsTrue (is_of kind n)
of_list Ranges n is = subst (λ (n : ℕ). IsTrue (is_of Ranges n)) (sym (eqb-true n 0x55 is)) refl
of_list Locations n is = by_either (λ (n : ℕ). IsTrue (is_of Locations n)) n (n == 0x02) (n == 0x40) refl refl is refl refl

of_base : (kind : ListKind) → IsTrue (is_of kind (base_name kind))
of_base Ranges = refl
of_base Locations = refl

no_base : (kind : ListKind) (n : ℕ) → IsNaming kind n → (n == base_name kind) ≡ false
no_base Ranges n is = subst (λ (n : ℕ). (n == 0x74) ≡ false) (sym (eqb-true n 0x55 is)) refl
no_base Locations n is = by_either (λ (n : ℕ). (n == 0x8c) ≡ false) n (n == 0x02) (n == 0x40) refl refl is refl refl

base_no : (kind : ListKind) (n : ℕ) → IsNaming kind n → (base_name kind == n) ≡ false
base_no Ranges n is = subst (λ (n : ℕ). (0x74 == n) ≡ false) (sym (eqb-true n 0x55 is)) refl
base_no Locations n is = by_either (λ (n : ℕ). (0x8c == n) ≡ false) n (n == 0x02) (n == 0x40) refl refl is refl refl

-- Names of attributes and bases

pub names_less : (kind : ListKind) (lo own less bound : ℕ) (names : List ListAt) → lo ≤ less → own ≤ bound → AreNames kind lo own names →
    AreNames kind less bound names
names_less kind lo own less bound names h k n = record {
  attrs = n.attrs;
  once = n.once;
  low = n.low;
  lists = λ e attr is le. n.lists e attr is (omega (arith, h, le));
  bases = λ e le. n.bases e (omega (arith, k, le));
}

once_more : (kind : ListKind) (lo own : ℕ) (names : List ListAt) (l : ListAt) → AreNames kind lo own names →
    new_list_offset names l.entry l.attr ≡ None →
    (k : ListAt) → Contains (names ++ l ∷ []) k → new_list_offset (names ++ l ∷ []) k.entry k.attr ≡ Some k.offset
once_more kind lo own names l n none k c = ⊎_elim
    (λ (there : Contains names k). keeps_more names l k.entry k.attr k.offset (n.once k there))
    (λ (e : l ≡ k). subst (λ (x : ListAt). new_list_offset (names ++ l ∷ []) x.entry x.attr ≡ Some x.offset) e (new_name names l none))
    (contains_more names l k c)

all_more : (P : ListAt → Type 0) (names : List ListAt) (l : ListAt) → All P names → P l → All P (names ++ l ∷ [])
all_more P names l all here = All-append P names (l ∷ []) all (All-cons P l [] here (All-nil P))

other_key : (place attr e name : ℕ) → key place attr + 1 ≤ key e name → (place == e && attr == name) ≡ false
other_key place attr e name le = step (place == e) (attr == name) refl refl
  where
    past : (a b c d : ℕ) → 128 * a + b + 1 ≤ 128 * c + d → a ≡ c → b ≡ d → ⊥
    past a b c d h e f = omega arith

    step : (b c : Bool) → (place == e) ≡ b → (attr == name) ≡ c → (b && c) ≡ false
    step true true f g = absurd (past place attr e name le (eqb-true place e f) (eqb-true attr name g))
    step true false f g = refl
    step false c f g = refl

pub names_list : (kind : ListKind) (lo own : ℕ) (r : NamedList) (offset : ℕ) (names : List ListAt) → AreNames kind lo own names →
    lo ≤ key r.place r.attr →
    IsNaming kind r.attr → offset < 2 ^ 32 → AreNames kind (key r.place r.attr + 1) own (names ++ name_at r offset ∷ [])
names_list kind lo own r offset names n h naming low = record {
  attrs = all_more (λ (l : ListAt). IsTrue (is_of kind l.attr)) names l n.attrs (of_list kind r.attr naming);
  once = once_more kind lo own names l n (n.lists r.place r.attr naming h);
  low = all_more (λ (l : ListAt). l.offset < 2 ^ 32) names l n.low low;
  lists = λ e attr is le. still_none names l e attr (n.lists e attr is (omega (arith, h, le))) (other_key r.place r.attr e attr le);
  bases = λ e le. still_none names l e (base_name kind) (n.bases e le)
      (and_right (r.place == e) (r.attr == base_name kind) (no_base kind r.attr naming));
}
  where
    l : ListAt
    l = name_at r offset

pub names_base : (kind : ListKind) (lo own e offset : ℕ) (names : List ListAt) → AreNames kind lo own names → own ≤ e → offset < 2 ^ 32 →
    AreNames kind lo (e + 1) (names ++ base_at kind e offset ∷ [])
names_base kind lo own place offset names n h low = record {
  attrs = all_more (λ (l : ListAt). IsTrue (is_of kind l.attr)) names l n.attrs (of_base kind);
  once = once_more kind lo own names l n (n.bases place h);
  low = all_more (λ (l : ListAt). l.offset < 2 ^ 32) names l n.low low;
  lists = λ e attr is le. still_none names l e attr (n.lists e attr is le)
      (and_right (place == e) (base_name kind == attr) (base_no kind attr is));
  bases = λ e le. still_none names l e (base_name kind) (n.bases e (omega (arith, h, le)))
      (and_left (place == e) (base_name kind == base_name kind) (ne_eqb place e (λ same. absurd (past place e same le))));
}
  where
    l : ListAt
    l = base_at kind place offset

    past : (m n : ℕ) → m ≡ n → m + 1 ≤ n → ⊥
    past m n e h = omega arith

-- Attributes

pub keys_more : (lo : ℕ) (ps : List NamedList) (r : NamedList) → keys_end lo (ps ++ r ∷ []) ≡ key r.place r.attr + 1
keys_more lo [] r = refl
keys_more lo (x ∷ ps) r = keys_more (key x.place x.attr + 1) ps r

pub key_at : (kind : ListKind) (lo : ℕ) (rs : List NamedList) (i : ℕ) (d : NamedList) → AreInOrder kind lo rs → i < length rs →
    (keys_end lo (take i rs) ≤ key (get_or rs i d).place (get_or rs i d).attr) × IsNaming kind (get_or rs i d).attr
key_at kind lo [] i d up h = absurd (omega arith)
key_at kind lo (r ∷ rs) zero d up h = (up.0, up.1)
key_at kind lo (r ∷ rs) (suc i) d up h = key_at kind (key r.place r.attr + 1) rs i d up.2 (omega arith)

pub at_key : (k q : ℕ) → k ≢ q → is_at (nat_cmp k) q ≡ false
at_key k q ne = grind (arith, common_steps)

pub at_same : (k q : ℕ) → k ≡ q → is_at (nat_cmp k) q ≡ true
at_same k q e = grind (arith, common_steps)

module _ (lists : List (Vec ℕ)) (start : ℕ) (r : NamedList) (ps : List NamedList) (old new : List ℕ) (known indexes now : BTreeMap ℕ ℕ)
    (names more : List ListAt)
    (o : ℕ) (listed : IsListed lists r.list o old new known) where
  abbrev all : List NamedList
  all = ps ++ r ∷ []

  -- An attribute before this one.
  still_put : (index : Option ℕ) → r.index ≡ index → IsOffsetGiven start o r names more indexes now index → Keeps names more →
      (k : NamedList) (by : Option ℕ) →
      IsPut lists start old indexes names ps k by → IsPut lists start new now more all k by
  still_put index is given keeps k None p = (
    p.0,
    keeps k.place k.attr (start + p.0) p.1,
    longer_begins old new p.0
        (bytes_in lists k.list) listed.longer p.2,
  )
  still_put None is given keeps k (Some i) p = (
    p.0,
    p.1,
    ap (λ (m : BTreeMap ℕ ℕ). get nat_cmp m i) given.2 ∙ p.2,
    p.3,
    contains_still ps (r ∷ []) p.1 p.4,
    longer_begins old new p.0 (bytes_in lists p.1.list) listed.longer p.5,
  )
  still_put (Some j) is given keeps k (Some i) p = ⊎_elim
      (λ (same : j ≡ i). (
        o,
        r,
        given.1 i ∙ ap (λ (b : Bool). if b then Some o else get nat_cmp indexes i) (at_same j i same),
        is
            ∙ ap (λ (n : ℕ). Some n) same,
        contains_last ps r,
        listed.begins,
      ))
      (λ (ne : j ≢ i). (
        p.0,
        p.1,
        given.1 i ∙ ap (λ (b : Bool). if b then Some o else get nat_cmp indexes i) (at_key j i ne) ∙ p.2,
        p.3,
        contains_still ps (r ∷ []) p.1 p.4,
        longer_begins old new p.0 (bytes_in lists p.1.list) listed.longer p.5,
      ))
      (cases_eq j i)

  -- This attribute.
  itself_put : (kind : ListKind) (lo own : ℕ) (index : Option ℕ) → r.index ≡ index → AreNames kind lo own names → lo ≤ key r.place r.attr →
      IsNaming kind r.attr →
      IsOffsetGiven start o r names more indexes now index →
      IsPut lists start new now more all r index
  itself_put kind lo own None is n h naming given = (
    o,
    ap (λ (l : List ListAt). new_list_offset l r.place r.attr) given.0
        ∙ new_name names (name_at r (start + o)) (n.lists r.place r.attr naming h),
    listed.begins,
  )
  itself_put kind lo own (Some i) is n h naming given = (
    o,
    r,
    given.1 i ∙ ap (λ (b : Bool). if b then Some o else get nat_cmp indexes i) (at_same i i refl),
    is,
    contains_last ps r,
    listed.begins,
  )

  names_by : (kind : ListKind) (lo own : ℕ) (index : Option ℕ) → AreNames kind lo own names → lo ≤ key r.place r.attr →
      IsNaming kind r.attr →
      IsOffsetGiven start o r names more indexes now index → AreNames kind (key r.place r.attr + 1) own more × Keeps names more
  names_by kind lo own None n h naming given = (
    subst (AreNames kind (key r.place r.attr + 1) own) (sym given.0) (names_list kind lo own r (start + o) names n h naming given.1),
    subst (Keeps names) (sym given.0) (keeps_more names (name_at r (start + o))),
  )
  names_by kind lo own (Some i) n h naming given = (
    subst (AreNames kind (key r.place r.attr + 1) own) (sym given.0)
        (names_less kind lo own (key r.place r.attr + 1) own names (omega (arith, h)) (omega arith) n),
    subst (Keeps names) (sym given.0) (λ e attr o is. is),
  )

  bases_by : (kind : ListKind) (index : Option ℕ) → IsNaming kind r.attr → IsOffsetGiven start o r names more indexes now index → (e : ℕ) →
      new_list_offset more e (base_name kind) ≡ new_list_offset names e (base_name kind)
  bases_by kind None naming given e =
      ap (λ (l : List ListAt). new_list_offset l e (base_name kind)) given.0
      ∙ other_name names (name_at r (start + o)) e (base_name kind)
      (and_right (r.place == e) (r.attr == base_name kind) (no_base kind r.attr naming))
  bases_by kind (Some i) naming given e = ap (λ (l : List ListAt). new_list_offset l e (base_name kind)) given.0

  abbrev AreUsed : List ℕ → BTreeMap ℕ ℕ → List NamedList → Type 0
  AreUsed body m rs = (i x : ℕ) → get nat_cmp m i ≡ Some x →
      (q : NamedList) × Contains rs q × (q.index ≡ Some i) × Begins body x (bytes_in lists q.list)

  used_by : (index : Option ℕ) → r.index ≡ index → IsOffsetGiven start o r names more indexes now index → AreUsed old indexes ps →
      AreUsed new now all
  used_by None is given before i x e =
      let p = before i x (ap (λ (m : BTreeMap ℕ ℕ). get nat_cmp m i) (sym given.2) ∙ e) in
      (p.0, contains_still ps (r ∷ []) p.0 p.1, p.2, longer_begins old new x (bytes_in lists p.0.list) listed.longer p.3)
  used_by (Some j) is given before i x e = ⊎_elim
      (λ (same : j ≡ i).
      let offset : Some o ≡ Some x =
      sym (given.1 i ∙ ap (λ (b : Bool). if b then Some o else get nat_cmp indexes i) (at_same j i same)) ∙ e in (
        r,
        contains_last ps r,
        is ∙ ap (λ (n : ℕ). Some n) same,
        subst (λ (n : ℕ). Begins new n (bytes_in lists r.list)) (same_some (Some o) o x refl offset) listed.begins,
      ))
      (λ (ne : j ≢ i).
      let p = before i x (sym (given.1 i ∙ ap (λ (b : Bool). if b then Some o else get nat_cmp indexes i) (at_key j i ne)) ∙ e) in
      (p.0, contains_still ps (r ∷ []) p.0 p.1, p.2, longer_begins old new x (bytes_in lists p.0.list) listed.longer p.3))
      (cases_eq j i)

  put_by : (kind : ListKind) (lo own : ℕ) (was : List ListAt) → ArePut kind lists start lo own old indexes was names ps →
      keys_end lo ps ≤ key r.place r.attr →
      IsNaming kind r.attr → (index : Option ℕ) → r.index ≡ index → IsOffsetGiven start o r names more indexes now index →
      ArePut kind lists start lo own new now was more all
  put_by kind lo own was p h naming index is given =
      let n = names_by kind (keys_end lo ps) own index p.names_are h naming given in
      record {
        names_are = subst (λ (e : ℕ). AreNames kind e own more) (sym (keys_more lo ps r)) n.0;
        keeps = λ e attr x f. n.1 e attr x (p.keeps e attr x f);
        bases = λ e. bases_by kind index naming given e ∙ p.bases e;
        used = used_by index is given p.used;
        each = λ k c. ⊎_elim
            (λ (there : Contains ps k). still_put index is given n.1 k k.index (p.each k there))
            (λ (same : r ≡ k).
            subst (λ (x : NamedList). IsPut lists start new now more all x x.index) same
            (subst (IsPut lists start new now more all r) (sym is)
            (itself_put kind (keys_end lo ps) own index is p.names_are h naming given)))
            (contains_more ps r k c);
      }

pub put_taken : (kind : ListKind) (lists : List (Vec ℕ)) (start lo own : ℕ) (rs : List NamedList) (i : ℕ) (d : NamedList) (old new : List ℕ)
    (known indexes now : BTreeMap ℕ ℕ)
    (was names more : List ListAt) → i < length rs → AreInOrder kind lo rs →
    ArePut kind lists start lo own old indexes was names (take i rs) →
    IsEntryPut lists start (get_or rs i d) old new known indexes now names more →
    ArePut kind lists start lo own new now was more (take (i + 1) rs)
put_taken kind lists start lo own rs i d old new known indexes now was names more h up p e =
    let k = key_at kind lo rs i d up h in
    subst (ArePut kind lists start lo own new now was more) (sym (take_more rs i d h))
    (put_by lists start (get_or rs i d) (take i rs) old new known indexes now names more e.offset e.listed kind lo own was p k.0 k.1
    (get_or rs i d).index refl e.given)

-- Nothing is added

pub none_there : (m : BTreeMap ℕ ℕ) (n : ℕ) → IsEmpty m → get nat_cmp m n ≡ None
none_there m n empty = ap (λ (es : List (ℕ × ℕ)). lookup (is_at (nat_cmp n)) es) empty

pub none_listed : (lists : List (Vec ℕ)) (body : List ℕ) (known : BTreeMap ℕ ℕ) → IsEmpty known → AreListed lists body known
none_listed lists body known empty n o e = let f : None ≡ Some o = sym (none_there known n empty) ∙ e in absurd (cc)

pub longer_same : (first body : List ℕ) → body ≡ first → IsLonger first body
longer_same first body e = record { more = []; is = e ∙ sym (append-nil first) }

pub longer_more : (first old new : List ℕ) → IsLonger first old → IsLonger old new → IsLonger first new
longer_more first old new a b = record {
  more = a.more ++ b.more;
  is = b.is ∙ ap (λ (l : List ℕ). l ++ b.more) a.is ∙ append_assoc first a.more b.more;
}

pub none_put : (kind : ListKind) (lists : List (Vec ℕ)) (start lo own : ℕ) (body : List ℕ) (indexes : BTreeMap ℕ ℕ) (names : List ListAt) →
    IsEmpty indexes → AreNames kind lo own names → ArePut kind lists start lo own body indexes names names []
none_put kind lists start lo own body indexes names empty n = record {
  names_are = n;
  keeps = λ e attr o is. is;
  bases = λ e. refl;
  each = λ r c. absurd (Contains-nil r c);
  used = λ i o e. let f : None ≡ Some o = sym (none_there indexes i empty) ∙ e in absurd (cc);
}

-- Units

pub index_none : IsCountOf [] 0
index_none = record { above = λ x i c e. absurd (Contains-nil x c); used = λ some. absurd (omega (arith, some)) }

pub index_more : (us : List IndexedUnit) (i count more : ℕ) (d : IndexedUnit) → i < length us → IsCountOf (take i us) count → count ≤ more →
    ((x : ℕ) → (get_or us i d).greatest ≡ Some x → x < more) → (count < more → (get_or us i d).greatest ≡ Some (more - 1)) →
    IsCountOf (take (i + 1) us) more
index_more us i count more d h before least above used =
    subst (λ (l : List IndexedUnit). IsCountOf l more) (sym (take_more us i d h)) (record {
      above = λ x n c e. ⊎_elim
          (λ (there : Contains (take i us) x). let b = before.above x n there e in omega (arith, b, least))
          (λ (same : get_or us i d ≡ x). above n (ap (λ (q : IndexedUnit). q.greatest) same ∙ e))
          (contains_more (take i us) (get_or us i d) x c);
      used = λ some. ⊎_elim
          (λ (lt : count < more). (get_or us i d, contains_last (take i us) (get_or us i d), used lt))
          (λ (le : more ≤ count).
          let same : count ≡ more = omega (arith, le, least) in
          let b = before.used (omega (arith, same, some)) in
          (b.0, contains_still (take i us) (get_or us i d ∷ []) b.0 b.1, b.2 ∙ ap (λ (n : ℕ). Some (n - 1)) same))
          (cases_lt count more);
    })

-- Names and bases by units

pub record AreBased (kind : ListKind) (lo own base : ℕ) (units : List IndexedUnit) (names more : List ListAt) : Type 0 where
  pub names_are : AreNames kind lo (units_end own units) more
  pub keeps : Keeps names more
  pub named : (x : IndexedUnit) → Contains units x → new_list_offset more x.own (base_name kind) ≡ Some base
  pub others : (e : ℕ) → IsNoOwn units e → new_list_offset more e (base_name kind) ≡ new_list_offset names e (base_name kind)

pub bases_put : (kind : ListKind) (lo own base : ℕ) (units : List IndexedUnit) (names more : List ListAt) → AreNames kind lo own names →
    UnitsRise own units → base < 2 ^ 32 → more ≡ names ++ bases_at kind base units → AreBased kind lo own base units names more
bases_put kind lo own base [] names more n rise low made =
    let same : more ≡ names = made ∙ append-nil names in record {
      names_are = subst (AreNames kind lo own) (sym same) n;
      keeps = subst (Keeps names) (sym same) (λ e attr o is. is);
      named = λ x c. absurd (Contains-nil x c);
      others = λ e none. ap (λ (l : List ListAt). new_list_offset l e (base_name kind)) same;
    }
bases_put kind lo own base (x ∷ xs) names more n rise low made =
    let l : ListAt = base_at kind x.own base in
    let b = bases_put kind lo (x.own + 1) base xs (names ++ l ∷ []) more (names_base kind lo own x.own base names n rise.0 low) rise.1 low
    (made ∙ sym (append_assoc names (l ∷ []) (bases_at kind base xs))) in
    record {
      names_are = b.names_are;
      keeps = λ e attr o is. b.keeps e attr o (keeps_more names l e attr o is);
      named = λ y c. ⊎_elim
          (λ (same : x ≡ y). subst (λ (z : IndexedUnit). new_list_offset more z.own (base_name kind) ≡ Some base) same
          (b.keeps x.own (base_name kind) base (new_name names l (n.bases x.own rise.0))))
          (λ (there : Contains xs y). b.named y there)
          (Contains-cons_cases x xs y c);
      others = λ e none.
          b.others e (λ y c. none y (Contains-there x xs y c))
          ∙ other_name names l e (base_name kind)
          (and_left (x.own == e) (base_name kind == base_name kind) (ne_eqb x.own e (λ same. none x (0, omega arith, refl) same)));
    }
