-- Sound units stay sound when they are changed in place.
use Rattle.std.proofs.Common.{◌≡◌, ◌+◌, ◌*◌, ◌∙◌, ◌++◌, ℕ, List, [], ◌∷◌, Bool, true, false, Option, Some, None, refl, ap, sym, subst}
use Rattle.std.proofs.Common.{arith, drop, length, unwrap_or}
use Rattle.std.specs.Prelude.{◌==◌, ◌&&◌, ◌||◌, not, nat_le, if◌then◌else◌, flat_map, is_some, option_map, option_and_then}
use Rattle.std.specs.List.{find, list_any, list_all}
use Rattle.std.proofs.lemmas.Bool.Decides.{nat_tests}
use Rattle.std.proofs.lemmas.Bool.{and_parts, and_from, or_parts, or_from}
use Rattle.byteorder.specs.Endian.{little_number}
use Rattle.table_core.specs.AttributeForms.{is_form, is_block, is_address_index, is_text_index}
use Rattle.dw_unit.specs.declared.declaration.Spec.{Spec}
use Rattle.dw_unit.specs.declared.entry.Attr.{Attr}
use Rattle.dw_unit.specs.Declarations.{Declaration, has_spec, has_bad_form, has_bad_high, is_bad_high}
use Rattle.dw_unit.specs.CompUnits.{Entry, Unit, base, own_entry, number_in, address_at, address_of, attr}
use Rattle.dw_unit.specs.Faults.{implies, is_located, is_sound_attr, is_sound_unit}
use Rattle.dw_unit.specs.EntryMoves.{Moves, new_list_offset}
use Rattle.dw_unit.specs.Changes.{new_name, keeps_low, new_value, new_address, new_list, changed_attr, changed_spec, ranges_specs}
use Rattle.dw_unit.specs.Changes.{ranges_attrs}
use Rattle.dw_unit.proofs.RewrittenEntries.{IsChanged, AreChanged}
use Rattle.dw_unit.proofs.Spelled.{AreChangedDeclarations}

equal_of : (x y : ℕ) → (x == y) ≡ true → x ≡ y
equal_of x y f = grind (arith, nat_tests)

and_first : (a b c : Bool) → (a && b && c) ≡ true → a ≡ true
and_first true b c e = refl
and_first false b c e = absurd (cc)

-- Names that no change adds or removes.
pub record IsSteady (k : ℕ) : Type 0 where
  pub entry : (82 == k) ≡ false
  pub unused_low : (16145 == k) ≡ false
  pub unused_table : (16146 == k) ≡ false
  pub low : (17 == k) ≡ false
  pub macros : (121 == k) ≡ false
  pub views : (8503 == k) ≡ false

either : (a b : Bool) (n k : ℕ) → (n == 121) ≡ a → (n == 8503) ≡ b → (a || b) ≡ true → IsSteady k → (n == k) ≡ false
either true b n k e f g i = ap (λ (x : ℕ). x == k) (equal_of n 121 e) ∙ i.macros
either false true n k e f g i = ap (λ (x : ℕ). x == k) (equal_of n 8503 f) ∙ i.views
either false false n k e f g i = absurd (cc)

name_by : (n k : ℕ) (h l m e t : Bool) → IsSteady k → (n == 17 && h && l) ≡ m → (n == 121 || n == 8503) ≡ t →
    ((if m then (if e then 16145 else 82) else (if t then 16146 else n)) == k) ≡ (n == k)
name_by n k h l true true t i f g = i.unused_low ∙ sym (ap (λ (x : ℕ). x == k) (equal_of n 17 (and_first (n == 17) h l f)) ∙ i.low)
name_by n k h l true false t i f g = i.entry ∙ sym (ap (λ (x : ℕ). x == k) (equal_of n 17 (and_first (n == 17) h l f)) ∙ i.low)
name_by n k h l false e true i f g = i.unused_table ∙ sym (either (n == 121) (n == 8503) n k refl refl g i)
name_by n k h l false e false i f g = refl

named_same : (own : Bool) (d : Declaration) (n k : ℕ) → IsSteady k → (new_name own d n == k) ≡ (n == k)
named_same own d n k i =
    name_by n k (has_spec 18 d) (not (keeps_low own d)) (n == 17 && has_spec 18 d && not (keeps_low own d)) (has_spec 82 d)
    (n == 121 || n == 8503) i refl refl

steady : (k : ℕ) → (82 == k) ≡ false → (16145 == k) ≡ false → (16146 == k) ≡ false → (17 == k) ≡ false → (121 == k) ≡ false →
    (8503 == k) ≡ false → IsSteady k
steady k a b c d e f = record { entry = a; unused_low = b; unused_table = c; low = d; macros = e; views = f }

-- Values by names

module _ (m : Moves) (own first : Bool) (e : Entry) where
  abbrev value_of : Attr → ℕ
  value_of a = unwrap_or (new_value m own first e a) a.value

  abbrev plain_value : Attr → ℕ
  plain_value a = a.value

  ranges_skipped : (k len : ℕ) (b : Bool) (x y : Attr) (rest : List Attr) → (x.name == k) ≡ false → (y.name == k) ≡ false →
      find (λ (a : Attr). a.name == k) ((x ∷ (if b then y ∷ [] else [])) ++ rest) ≡ find (λ (a : Attr). a.name == k) rest
  ranges_skipped k len true x y rest f g =
      ap (λ (b : Bool). if b then Some x else find (λ (a : Attr). a.name == k) (y ∷ rest)) f
      ∙ ap (λ (b : Bool). if b then Some y else find (λ (a : Attr). a.name == k) rest) g
  ranges_skipped k len false x y rest f g = ap (λ (b : Bool). if b then Some x else find (λ (a : Attr). a.name == k) rest) f

  module _ (k : ℕ) (i : IsSteady k) (high : (18 == k) ≡ false) (ranges : (85 == k) ≡ false) (unused : (16144 == k) ≡ false) where
    mapped : (b : Bool) (x : Attr) (o : Option Attr) → option_map plain_value (if b then Some x else o) ≡
        (if b then Some x.value else option_map plain_value o)
    mapped true x o = refl
    mapped false x o = refl

    one_more : (a : Attr) (b : Bool) (rest : List Attr) → (a.name == 18) ≡ b →
        option_map plain_value (find (λ (a : Attr). a.name == k) ((if b then ranges_attrs m e a else record {
          name = new_name own e.declaration a.name;
          form = a.form;
          place = a.place;
          len = a.len;
          value = value_of a;
        } ∷ []) ++ rest)) ≡ (if a.name == k then Some (value_of a) else option_map plain_value (find (λ (a : Attr). a.name == k) rest))
    one_more a true rest f =
        ap (option_map plain_value) (ranges_skipped k a.len (a.len == 8) _ _ rest ranges unused)
        ∙ sym (ap (λ (b : Bool). if b then Some (value_of a) else option_map plain_value (find (λ (a : Attr). a.name == k) rest))
        (ap (λ (x : ℕ). x == k) (equal_of a.name 18 f) ∙ high))
    one_more a false rest f =
        mapped (new_name own e.declaration a.name == k) _ (find (λ (a : Attr). a.name == k) rest)
        ∙ ap (λ (b : Bool). if b then Some (value_of a) else option_map plain_value (find (λ (a : Attr). a.name == k) rest))
        (named_same own e.declaration a.name k i)

    mapped_by : (b : Bool) (x : Attr) (o : Option Attr) → (if b then Some (value_of x) else option_map value_of o) ≡ option_map value_of
        (if b then Some x else o)
    mapped_by true x o = refl
    mapped_by false x o = refl

    found_changed : (attrs : List Attr) →
        option_map plain_value (find (λ (a : Attr). a.name == k) (flat_map (changed_attr m own first e) attrs)) ≡ option_map value_of
        (find (λ (a : Attr). a.name == k) attrs)
    found_changed [] = refl
    found_changed (a ∷ attrs) =
        one_more a (a.name == 18) (flat_map (changed_attr m own first e) attrs) refl
        ∙ ap (λ (o : Option ℕ). if a.name == k then Some (value_of a) else o) (found_changed attrs)
        ∙ mapped_by (a.name == k) a (find (λ (a : Attr). a.name == k) attrs)

  abbrev value_by : Attr → ℕ → Bool → Bool → Option ℕ
  value_by a n b c =
      if b then new_address m own e (record { name = n; form = a.form; place = a.place; len = a.len; value = a.value })
      else (if c then new_list m first e (record { name = n; form = a.form; place = a.place; len = a.len; value = a.value }) else None)

  -- The base of addresses doesn't change.
  base_kept : (a : Attr) → a.name ≡ 115 → new_value m own first e a ≡ None
  base_kept a f = subst (λ (n : ℕ). value_by a n (a.form == 1) (a.form == 23) ≡ None) (sym f) (none (a.form == 1) (a.form == 23)) where
    none : (b c : Bool) → value_by a 115 b c ≡ None
    none true c = refl
    none false true = refl
    none false false = refl

  base_same : (attrs : List Attr) → option_map value_of (find (λ (a : Attr). a.name == 115) attrs) ≡ option_map plain_value
      (find (λ (a : Attr). a.name == 115) attrs)
  base_same [] = refl
  base_same (a ∷ attrs) = by_test (a.name == 115) refl (base_same attrs) where
    by_test : (b : Bool) → (a.name == 115) ≡ b →
        (option_map value_of (find (λ (a : Attr). a.name == 115) attrs) ≡ option_map plain_value
        (find (λ (a : Attr). a.name == 115) attrs)) →
        option_map value_of (if b then Some a else find (λ (a : Attr). a.name == 115) attrs)
        ≡ option_map plain_value (if b then Some a else find (λ (a : Attr). a.name == 115) attrs)
    by_test true f ih = ap (λ (o : Option ℕ). Some (unwrap_or o a.value)) (base_kept a (equal_of a.name 115 f))
    by_test false f ih = ih

-- Bases of units

module _ (m : Moves) (own : Declaration → Bool) (first : Entry → Bool) where
  some_same : (k : ℕ) (e n : Entry) → IsSteady k → (18 == k) ≡ false → (85 == k) ≡ false → (16144 == k) ≡ false →
      IsChanged m own first e n →
      is_some (option_map (λ (a : Attr). a.value) (attr k n)) ≡ is_some (option_map (λ (a : Attr). a.value) (attr k e))
  some_same k e n i high ranges unused c =
      ap (λ (l : List Attr). is_some (option_map (λ (a : Attr). a.value) (find (λ (a : Attr). a.name == k) l))) c.attrs
      ∙ ap is_some (found_changed m (own e.declaration) (first e) e k i high ranges unused e.attrs)
      ∙ is_mapped (find (λ (a : Attr). a.name == k) e.attrs) where
        is_mapped : (o : Option Attr) → is_some (option_map (λ (a : Attr). unwrap_or (new_value m (own e.declaration) (first e) e a)
            a.value) o)
            ≡ is_some (option_map (λ (a : Attr). a.value) o)
        is_mapped None = refl
        is_mapped (Some a) = refl

  module _ (u v : Unit) (changed : AreChanged m own first u.entries v.entries) where
    base_of : (k : ℕ) → IsSteady k → (18 == k) ≡ false → (85 == k) ≡ false → (16144 == k) ≡ false →
        is_some (base k v) ≡ is_some (base k u)
    base_of k i high ranges unused = step u.entries v.entries changed where
      step : (old new : List Entry) → AreChanged m own first old new →
          is_some (option_map (λ (a : Attr). a.value) (option_and_then (attr k)
          (own_entry (record { place = 0; abbrev_offset = 0; entries = new }))))
          ≡ is_some (option_map (λ (a : Attr). a.value) (option_and_then (attr k)
          (own_entry (record { place = 0; abbrev_offset = 0; entries = old }))))
      step [] [] c = refl
      step [] (n ∷ new) c = absurd c
      step (o ∷ old) [] c = absurd c
      step (o ∷ old) (n ∷ new) c = some_same k o n i high ranges unused c.0

    addresses_base : base 115 v ≡ base 115 u
    addresses_base = step u.entries v.entries changed where
      step : (old new : List Entry) → AreChanged m own first old new →
          option_map (λ (a : Attr). a.value) (option_and_then (attr 115)
          (own_entry (record { place = 0; abbrev_offset = 0; entries = new })))
          ≡ option_map (λ (a : Attr). a.value) (option_and_then (attr 115)
          (own_entry (record { place = 0; abbrev_offset = 0; entries = old })))
      step [] [] c = refl
      step [] (n ∷ new) c = absurd c
      step (o ∷ old) [] c = absurd c
      step (o ∷ old) (n ∷ new) c =
          ap (λ (l : List Attr). option_map (λ (a : Attr). a.value) (find (λ (a : Attr). a.name == 115) l)) c.0.attrs
          ∙ found_changed m (own o.declaration) (first o) o 115 (steady 115 refl refl refl refl refl refl) refl refl refl o.attrs
          ∙ base_same m (own o.declaration) (first o) o o.attrs

-- Attributes

-- The tests of an attribute, by the bases and forms found.
abbrev sound_by : (form : ℕ) (text address loc rng located ranges bases : Bool) → Bool
sound_by form text address loc rng located ranges bases =
    implies (is_text_index form) text
    && implies (is_address_index form) address
    && implies (form == 34) loc
    && implies (form == 35) rng
    && implies located (is_block form || form == 23 || form == 34)
    && implies ranges (form == 23 || form == 35)
    && implies bases (form == 23)

module _ (m : Moves) (own first : Bool) (e : Entry) (addr new_addr : List ℕ) (size : length new_addr ≡ length addr) (u v : Unit)
    (text : is_some (base 114 v) ≡ is_some (base 114 u)) (addresses : base 115 v ≡ base 115 u)
    (loc : is_some (base 140 v) ≡ is_some (base 140 u)) (rng : is_some (base 116 v) ≡ is_some (base 116 u)) where
  abbrev one : Attr → Attr
  one a = record {
    name = new_name own e.declaration a.name;
    form = a.form;
    place = a.place;
    len = a.len;
    value = unwrap_or (new_value m own first e a) a.value;
  }

  number_size : (place : ℕ) (x y : ℕ) (b : Bool) → is_some (if b then Some x else None) ≡ is_some (if b then Some y else None)
  number_size place x y true = refl
  number_size place x y false = refl

  number_same : (place : ℕ) → is_some (number_in 8 place new_addr) ≡ is_some (number_in 8 place addr)
  number_same place =
      ap (λ (n : ℕ). is_some (if nat_le (place + 8) n then Some (little_number 8 (drop place new_addr)) else None)) size
      ∙ number_size place _ _ (nat_le (place + 8) (length addr))

  at_same : (index : ℕ) → is_some (address_at new_addr v index) ≡ is_some (address_at addr u index)
  at_same index =
      ap (λ (o : Option ℕ). is_some (option_and_then (λ (b : ℕ). number_in 8 (b + 8 * index) new_addr) o)) addresses
      ∙ step (base 115 u) where
        step : (o : Option ℕ) → is_some (option_and_then (λ (b : ℕ). number_in 8 (b + 8 * index) new_addr) o) ≡ is_some
            (option_and_then (λ (b : ℕ). number_in 8 (b + 8 * index) addr) o)
        step None = refl
        step (Some b) = number_same (b + 8 * index)

  -- A value of an index form doesn't change.
  index_kept : (a : Attr) (b c d : Bool) → (a.form == 1) ≡ b → (a.form == 23) ≡ c → is_address_index a.form ≡ d → b ≡ false → d ≡ true →
      (if b then new_address m own e a else (if c then new_list m first e a else None)) ≡ None
  index_kept a true c d f g h i j = absurd (cc)
  index_kept a false false d f g h i j = refl
  index_kept a false true d f g h i j =
      let k : is_address_index 23 ≡ true = sym (ap is_address_index (equal_of a.form 23 g)) ∙ h ∙ j in absurd (cc)

  address_by : (a : Attr) (b d : Bool) → (a.form == 1) ≡ b → is_address_index a.form ≡ d →
      is_some (if b then Some (one a).value else (if d then address_at new_addr v (one a).value else None))
      ≡ is_some (if b then Some a.value else (if d then address_at addr u a.value else None))
  address_by a true d f g = refl
  address_by a false false f g = refl
  address_by a false true f g =
      let kept : new_value m own first e a ≡ None = index_kept a (a.form == 1) (a.form == 23) (is_address_index a.form) refl refl refl f g
      in
      ap (λ (o : Option ℕ). is_some (address_at new_addr v (unwrap_or o a.value))) kept ∙ at_same a.value

  located_same : (n : ℕ) → is_located (new_name own e.declaration n) ≡ is_located n
  located_same n =
      ap (λ (b : Bool). b || (new_name own e.declaration n == 64))
      (named_same own e.declaration n 2 (steady 2 refl refl refl refl refl refl))
      ∙ ap (λ (b : Bool). (n == 2) || b) (named_same own e.declaration n 64 (steady 64 refl refl refl refl refl refl))

  bases_same : (n : ℕ) → (new_name own e.declaration n == 116 || new_name own e.declaration n == 140) ≡ (n == 116 || n == 140)
  bases_same n =
      ap (λ (b : Bool). b || (new_name own e.declaration n == 140))
      (named_same own e.declaration n 116 (steady 116 refl refl refl refl refl refl))
      ∙ ap (λ (b : Bool). (n == 116) || b) (named_same own e.declaration n 140 (steady 140 refl refl refl refl refl refl))

  one_sound : (a : Attr) → is_sound_attr new_addr v (one a) ≡ is_sound_attr addr u a
  one_sound a =
      let located : Bool = is_located (one a).name in
      let ranges : Bool = (one a).name == 85 in
      let bases : Bool = (one a).name == 116 || (one a).name == 140 in
      ap (λ (x : Bool). sound_by a.form x (is_some (address_of new_addr v (one a))) (is_some (base 140 v))
      (is_some (base 116 v)) located ranges bases) text
      ∙ ap (λ (x : Bool). sound_by a.form (is_some (base 114 u)) x (is_some (base 140 v)) (is_some (base 116 v)) located ranges bases)
      (address_by a (a.form == 1) (is_address_index a.form) refl refl)
      ∙ ap (λ (x : Bool). sound_by a.form (is_some (base 114 u)) (is_some (address_of addr u a)) x (is_some (base 116 v)) located ranges
      bases) loc
      ∙ ap (λ (x : Bool). sound_by a.form (is_some (base 114 u)) (is_some (address_of addr u a)) (is_some (base 140 u)) x located ranges
      bases) rng
      ∙ ap (λ (x : Bool). sound_by a.form (is_some (base 114 u)) (is_some (address_of addr u a)) (is_some (base 140 u))
      (is_some (base 116 u)) x ranges bases) (located_same a.name)
      ∙ ap (λ (x : Bool). sound_by a.form (is_some (base 114 u)) (is_some (address_of addr u a)) (is_some (base 140 u))
      (is_some (base 116 u)) (is_located a.name) x bases)
      (named_same own e.declaration a.name 85 (steady 85 refl refl refl refl refl refl))
      ∙ ap (λ (x : Bool). sound_by a.form (is_some (base 114 u)) (is_some (address_of addr u a)) (is_some (base 140 u))
      (is_some (base 116 u)) (is_located a.name) (a.name == 85) x)
      (bases_same a.name)

  all_joined : (xs ys : List Attr) → list_all (is_sound_attr new_addr v) xs ≡ true → list_all (is_sound_attr new_addr v) ys ≡ true →
      list_all (is_sound_attr new_addr v) (xs ++ ys) ≡ true
  all_joined [] ys f g = g
  all_joined (x ∷ xs) ys f g =
      let p = and_parts (is_sound_attr new_addr v x) (list_all (is_sound_attr new_addr v) xs) f in
      and_from (is_sound_attr new_addr v x) (list_all (is_sound_attr new_addr v) (xs ++ ys)) p.0 (all_joined xs ys p.1 g)

  ranges_sound : (a : Attr) (b : Bool) → list_all (is_sound_attr new_addr v)
      (record { name = 85; form = 23; place = a.place; len = 4; value = a.value } ∷
      (if b then record { name = 16144; form = 6; place = a.place + 4; len = 4; value = 0 } ∷ [] else [])) ≡ true
  ranges_sound a true = refl
  ranges_sound a false = refl

  changed_by : (a : Attr) (b : Bool) → is_sound_attr addr u a ≡ true →
      list_all (is_sound_attr new_addr v) (if b then ranges_attrs m e a else one a ∷ []) ≡ true
  changed_by a true f = ranges_sound (record {
    name = a.name;
    form = a.form;
    place = a.place;
    len = a.len;
    value = unwrap_or (new_list_offset m.lists e.place 85) 0;
  }) (a.len == 8)
  changed_by a false f = and_from (is_sound_attr new_addr v (one a)) true (one_sound a ∙ f) refl

  pub attrs_sound : (attrs : List Attr) → list_all (is_sound_attr addr u) attrs ≡ true →
      list_all (is_sound_attr new_addr v) (flat_map (changed_attr m own first e) attrs) ≡ true
  attrs_sound [] f = refl
  attrs_sound (a ∷ attrs) f =
      let p = and_parts (is_sound_attr addr u a) (list_all (is_sound_attr addr u) attrs) f in
      all_joined (changed_attr m own first e a) (flat_map (changed_attr m own first e) attrs) (changed_by a (a.name == 18) p.0)
      (attrs_sound attrs p.1)

-- Units

module _ (m : Moves) (own : Declaration → Bool) (first : Entry → Bool) (addr new_addr : List ℕ) (size : length new_addr ≡ length addr)
    (u v : Unit)
    (changed : AreChanged m own first u.entries v.entries) where
  entries_sound : (old new : List Entry) → AreChanged m own first old new →
      list_all (λ (e : Entry). list_all (is_sound_attr addr u) e.attrs) old ≡ true →
      list_all (λ (e : Entry). list_all (is_sound_attr new_addr v) e.attrs) new ≡ true
  entries_sound [] [] c f = refl
  entries_sound [] (n ∷ new) c f = absurd c
  entries_sound (o ∷ old) [] c f = absurd c
  entries_sound (o ∷ old) (n ∷ new) c f =
      let p = and_parts (list_all (is_sound_attr addr u) o.attrs) (list_all (λ (e : Entry). list_all (is_sound_attr addr u) e.attrs) old)
      f in
      and_from (list_all (is_sound_attr new_addr v) n.attrs) (list_all (λ (e : Entry). list_all (is_sound_attr new_addr v) e.attrs) new)
      (ap (list_all (is_sound_attr new_addr v)) c.0.attrs
      ∙ attrs_sound m (own o.declaration) (first o) o addr new_addr size u v
      (base_of m own first u v changed 114 (steady 114 refl refl refl refl refl refl) refl refl refl)
      (addresses_base m own first u v changed)
      (base_of m own first u v changed 140 (steady 140 refl refl refl refl refl refl) refl refl refl)
      (base_of m own first u v changed 116 (steady 116 refl refl refl refl refl refl) refl refl refl) o.attrs p.0)
      (entries_sound old new c.1 p.1)

  pub unit_sound : is_sound_unit addr u ≡ true → is_sound_unit new_addr v ≡ true
  unit_sound f = entries_sound u.entries v.entries changed f

-- Declarations

module _ (own : Declaration → Bool) where
  forms_joined : (xs ys : List Spec) → list_any (λ (s : Spec). not (is_form s.form)) xs ≡ false →
      list_any (λ (s : Spec). not (is_form s.form)) ys ≡ false →
      list_any (λ (s : Spec). not (is_form s.form)) (xs ++ ys) ≡ false
  forms_joined [] ys f g = g
  forms_joined (x ∷ xs) ys f g =
      let p = or_parts (not (is_form x.form)) (list_any (λ (s : Spec). not (is_form s.form)) xs) f in
      or_from (not (is_form x.form)) (list_any (λ (s : Spec). not (is_form s.form)) (xs ++ ys)) p.0 (forms_joined xs ys p.1 g)

  ranges_forms : (b : Bool) → list_any (λ (s : Spec). not (is_form s.form))
      (record { name = 85; form = 23; implicit = 0 } ∷ (if b then [] else record { name = 16144; form = 6; implicit = 0 } ∷ [])) ≡ false
  ranges_forms true = refl
  ranges_forms false = refl

  form_by : (is_own : Bool) (d : Declaration) (s : Spec) (b : Bool) → not (is_form s.form) ≡ false →
      list_any (λ (s : Spec). not (is_form s.form)) (if b then ranges_specs s.form else record
      { name = new_name is_own d s.name; form = s.form; implicit = s.implicit } ∷ []) ≡ false
  form_by is_own d s true f = ranges_forms (s.form == 6)
  form_by is_own d s false f = or_from (not (is_form s.form)) false f refl

  forms_changed : (is_own : Bool) (d : Declaration) (specs : List Spec) → list_any (λ (s : Spec). not (is_form s.form)) specs ≡ false →
      list_any (λ (s : Spec). not (is_form s.form)) (flat_map (changed_spec is_own d) specs) ≡ false
  forms_changed is_own d [] f = refl
  forms_changed is_own d (s ∷ specs) f =
      let p = or_parts (not (is_form s.form)) (list_any (λ (s : Spec). not (is_form s.form)) specs) f in
      forms_joined (changed_spec is_own d s) (flat_map (changed_spec is_own d) specs) (form_by is_own d s (s.name == 18) p.0)
      (forms_changed is_own d specs p.1)

  -- No high address remains.
  high_joined : (d : Declaration) (xs ys : List Spec) → list_any (is_bad_high d) xs ≡ false → list_any (is_bad_high d) ys ≡ false →
      list_any (is_bad_high d) (xs ++ ys) ≡ false
  high_joined d [] ys f g = g
  high_joined d (x ∷ xs) ys f g =
      let p = or_parts (is_bad_high d x) (list_any (is_bad_high d) xs) f in
      or_from (is_bad_high d x) (list_any (is_bad_high d) (xs ++ ys)) p.0 (high_joined d xs ys p.1 g)

  ranges_high : (d : Declaration) (b : Bool) → list_any (is_bad_high d)
      (record { name = 85; form = 23; implicit = 0 } ∷ (if b then [] else record { name = 16144; form = 6; implicit = 0 } ∷ [])) ≡ false
  ranges_high d true = refl
  ranges_high d false = refl

  not_and : (a b : Bool) → a ≡ false → (a && b) ≡ false
  not_and true b e = absurd (cc)
  not_and false b e = refl

  high_by : (is_own : Bool) (d n : Declaration) (s : Spec) (b : Bool) → (s.name == 18) ≡ b →
      list_any (is_bad_high n) (if b then ranges_specs s.form else record
      { name = new_name is_own d s.name; form = s.form; implicit = s.implicit } ∷ []) ≡ false
  high_by is_own d n s true f = ranges_high n (s.form == 6)
  high_by is_own d n s false f =
      or_from (is_bad_high n (record { name = new_name is_own d s.name; form = s.form; implicit = s.implicit })) false
      (not_and (new_name is_own d s.name == 18) _ (named_same is_own d s.name 18 (steady 18 refl refl refl refl refl refl) ∙ f)) refl

  high_changed : (is_own : Bool) (d n : Declaration) (specs : List Spec) →
      list_any (is_bad_high n) (flat_map (changed_spec is_own d) specs) ≡ false
  high_changed is_own d n [] = refl
  high_changed is_own d n (s ∷ specs) =
      high_joined n (changed_spec is_own d s) (flat_map (changed_spec is_own d) specs) (high_by is_own d n s (s.name == 18) refl)
      (high_changed is_own d n specs)

  pub forms_stay : (old new : List Declaration) → AreChangedDeclarations own old new → list_any has_bad_form old ≡ false →
      list_any has_bad_form new ≡ false
  forms_stay [] [] c f = refl
  forms_stay [] (n ∷ new) c f = absurd c
  forms_stay (o ∷ old) [] c f = absurd c
  forms_stay (o ∷ old) (n ∷ new) c f =
      let p = or_parts (has_bad_form o) (list_any has_bad_form old) f in
      or_from (has_bad_form n) (list_any has_bad_form new)
      (ap (list_any (λ (s : Spec). not (is_form s.form))) c.0.specs ∙ forms_changed (own o) o o.specs p.0) (forms_stay old new c.1 p.1)

  pub none_high : (old new : List Declaration) → AreChangedDeclarations own old new → list_any has_bad_high new ≡ false
  none_high [] [] c = refl
  none_high [] (n ∷ new) c = absurd c
  none_high (o ∷ old) [] c = absurd c
  none_high (o ∷ old) (n ∷ new) c =
      or_from (has_bad_high n) (list_any has_bad_high new) (ap (list_any (is_bad_high n)) c.0.specs ∙ high_changed (own o) o n o.specs)
      (none_high old new c.1)
