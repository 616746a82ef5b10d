-- The attributes that refer to ranges, and the bases of units, in entries that were changed in place.
use Rattle.std.proofs.Common.{◌≡◌, ◌∙◌, ◌+◌, ◌==◌, ◌&&◌, ◌||◌, ◌∷◌, [], ℕ, Bool, true, false, not, List, Option, Some, None, refl, sym, ap}
use Rattle.std.proofs.Common.{option_map}
use Rattle.std.specs.Prelude.{flat_map, unwrap_or, if◌then◌else◌}
use Rattle.std.specs.List.{find}
use Rattle.std.specs.Option.{option_or}
use Rattle.std.proofs.lemmas.Bool.{eqb-true}
use Rattle.std.proofs.lemmas.List.Folds.{find-append}
use Rattle.dw_unit.specs.declared.entry.Attr.{Attr}
use Rattle.dw_unit.specs.Declarations.{Declaration, has_spec}
use Rattle.dw_unit.specs.CompUnits.{Entry, Sections, attr}
use Rattle.dw_unit.specs.EntryMoves.{Moves, new_list_offset}
use Rattle.dw_unit.specs.Changes.{new_name, keeps_low, new_value, changed_attr, ranges_attrs, is_own}
use Rattle.dw_unit.specs.ChangedEntries.{IsChangedEntry}

abbrev pub named : ℕ → Attr → Bool
named k a = a.name == k

-- A name that no change adds or removes.
pub record IsKept (k : ℕ) : Type 0 where
  pub high : (0x12 == k) ≡ false
  pub low : (0x11 == k) ≡ false
  pub entry : (0x52 == k) ≡ false
  pub unused_low : (0x3f11 == k) ≡ false
  pub macros : (0x79 == k) ≡ false
  pub views : (0x2137 == k) ≡ false
  pub unused_table : (0x3f12 == k) ≡ false

ranges_kept : IsKept 0x55
ranges_kept = record { high = refl; low = refl; entry = refl; unused_low = refl; macros = refl; views = refl; unused_table = refl }

-- A name that no attribute has which replaces a high address.
pub record IsOther (k : ℕ) : Type 0 where
  pub kept : IsKept k
  pub ranges : (0x55 == k) ≡ false
  pub spare : (0x3f10 == k) ≡ false

pub range_base : IsOther 0x74
range_base = record {
  kept = record { high = refl; low = refl; entry = refl; unused_low = refl; macros = refl; views = refl; unused_table = refl };
  ranges = refl;
  spare = refl;
}

pub location_base : IsOther 0x8c
location_base = record {
  kept = record { high = refl; low = refl; entry = refl; unused_low = refl; macros = refl; views = refl; unused_table = refl };
  ranges = refl;
  spare = refl;
}

pub location : IsOther 0x02
location = record {
  kept = record { high = refl; low = refl; entry = refl; unused_low = refl; macros = refl; views = refl; unused_table = refl };
  ranges = refl;
  spare = refl;
}

pub frame_base : IsOther 0x40
frame_base = record {
  kept = record { high = refl; low = refl; entry = refl; unused_low = refl; macros = refl; views = refl; unused_table = refl };
  ranges = refl;
  spare = refl;
}

named_not : (n j k : ℕ) → (n == j) ≡ true → (j == k) ≡ false → (n == k) ≡ false
named_not n j k e f = ap (λ (x : ℕ). x == k) (eqb-true n j e) ∙ f

either : (n k : ℕ) (a b : Bool) → (n == 0x79) ≡ a → (n == 0x2137) ≡ b → (a || b) ≡ true → IsKept k → (n == k) ≡ false
either n k true b e f g i = named_not n 0x79 k e i.macros
either n k false true e f g i = named_not n 0x2137 k f i.views
either n k false false e f g i = absurd (cc)

and_first : (a b c : Bool) → (a && b && c) ≡ true → a ≡ true
and_first true b c e = refl
and_first false b c e = absurd (cc)

name_by : (n k : ℕ) (h l m e t : Bool) → IsKept k → (n == 0x11 && h && l) ≡ m → (n == 0x79 || n == 0x2137) ≡ t →
    ((if m then (if e then 0x3f11 else 0x52) else (if t then 0x3f12 else n)) == k) ≡ (n == k)
name_by n k h l true true t i f g = i.unused_low ∙ sym (named_not n 0x11 k (and_first (n == 0x11) h l f) i.low)
name_by n k h l true false t i f g = i.entry ∙ sym (named_not n 0x11 k (and_first (n == 0x11) h l f) i.low)
name_by n k h l false e true i f g = i.unused_table ∙ sym (either n k (n == 0x79) (n == 0x2137) refl refl g i)
name_by n k h l false e false i f g = refl

same_name : (own : Bool) (d : Declaration) (n k : ℕ) → IsKept k → (new_name own d n == k) ≡ (n == k)
same_name own d n k i =
    name_by n k (has_spec 0x12 d) (not (keeps_low own d)) (n == 0x11 && has_spec 0x12 d && not (keeps_low own d)) (has_spec 0x52 d)
    (n == 0x79 || n == 0x2137) i refl refl

-- Only a high address has its name after the change.
high_by : (n : ℕ) (m e t : Bool) → (n == 0x12) ≡ false → ((if m then (if e then 0x3f11 else 0x52) else (if t then 0x3f12 else n)) == 0x12) ≡
    false
high_by n true true t f = refl
high_by n true false t f = refl
high_by n false e true f = refl
high_by n false e false f = f

module _ (m : Moves) (own first : Bool) (e : Entry) where
  abbrev pub change : Attr → List Attr
  change a = changed_attr m own first e a

  -- An attribute other than a high address.
  abbrev pub changed : Attr → Attr
  changed a = record {
    name = new_name own e.declaration a.name;
    form = a.form;
    place = a.place;
    len = a.len;
    value = unwrap_or (new_value m own first e a) a.value;
  }

  -- The ranges that replace a high address, and its other bytes.
  abbrev pub for_high : Attr → Attr
  for_high h = record { name = 0x55; form = 0x17; place = h.place; len = 4; value = unwrap_or (new_list_offset m.lists e.place 0x55) 0 }

  abbrev unused_high : Attr → Attr
  unused_high h = record { name = 0x3f10; form = 0x06; place = h.place + 4; len = 4; value = 0 }

  abbrev unused : Attr → Bool → List Attr
  unused h b = if b then unused_high h ∷ [] else []

  other : (a : Attr) → (a.name == 0x12) ≡ false → change a ≡ changed a ∷ []
  other a f = ap (λ (b : Bool). if b then ranges_attrs m e a else changed a ∷ []) f

  high : (a : Attr) → (a.name == 0x12) ≡ true → change a ≡ ranges_attrs m e a
  high a f = ap (λ (b : Bool). if b then ranges_attrs m e a else changed a ∷ []) f

  -- After the change there is no high address.
  spare_high : (a : Attr) (b : Bool) → find (named 0x12) (if b then record
      { name = 0x3f10; form = 0x06; place = a.place + 4; len = 4; value = 0 } ∷ [] else []) ≡ None
  spare_high a true = refl
  spare_high a false = refl

  one_high : (a : Attr) (b : Bool) → (a.name == 0x12) ≡ b → find (named 0x12) (change a) ≡ None
  one_high a true f = ap (find (named 0x12)) (high a f) ∙ spare_high a (a.len == 8)
  one_high a false f = ap (find (named 0x12)) (other a f)
      ∙ ap (λ (b : Bool). if b then Some (changed a) else None)
      (high_by a.name (a.name == 0x11 && has_spec 0x12 e.declaration && not (keeps_low own e.declaration)) (has_spec 0x52 e.declaration)
      (a.name == 0x79 || a.name == 0x2137) f)

  no_high : (xs : List Attr) → find (named 0x12) (flat_map change xs) ≡ None
  no_high [] = refl
  no_high (a ∷ xs) = find-append (named 0x12) (change a) (flat_map change xs)
      ∙ ap (λ (o : Option Attr). option_or o (find (named 0x12) (flat_map change xs))) (one_high a (a.name == 0x12) refl) ∙ no_high xs

  -- An attribute with a kept name, if what replaces a high address hasn't that name, or there is none.
  module _ (k : ℕ) (i : IsKept k) where
    join : (b : Bool) (x y : Attr) (o p : Option Attr) → o ≡ option_map changed p → y ≡ changed x →
        option_or (if b then Some y else None) o ≡ option_map changed (if b then Some x else p)
    join true x y o p f g = ap (λ (z : Attr). Some z) g
    join false x y o p f g = f

    plain_step : (a : Attr) (xs : List Attr) → (a.name == 0x12) ≡ false →
        find (named k) (flat_map change xs) ≡ option_map changed (find (named k) xs) →
        find (named k) (flat_map change (a ∷ xs)) ≡ option_map changed (find (named k) (a ∷ xs))
    plain_step a xs f more =
        find-append (named k) (change a) (flat_map change xs)
        ∙ ap (λ (l : List Attr). option_or (find (named k) l) (find (named k) (flat_map change xs))) (other a f)
        ∙ ap (λ (b : Bool). option_or (if b then Some (changed a) else None) (find (named k) (flat_map change xs)))
        (same_name own e.declaration a.name k i)
        ∙ join (a.name == k) a (changed a) (find (named k) (flat_map change xs)) (find (named k) xs) more refl

  not_there : (k : ℕ) (a : Attr) (xs : List Attr) (b : Bool) → (a.name == k) ≡ b → (if b then Some a else find (named k) xs) ≡ None →
      (b ≡ false) × (find (named k) xs ≡ None)
  not_there k a xs true f g = absurd (cc)
  not_there k a xs false f g = (refl, g)

  -- Ranges that had a list, if there is no high address.
  same_ranges : (xs : List Attr) → find (named 0x12) xs ≡ None →
      find (named 0x55) (flat_map change xs) ≡ option_map changed (find (named 0x55) xs)
  same_ranges [] none = refl
  same_ranges (a ∷ xs) none =
      let p = not_there 0x12 a xs (a.name == 0x12) refl none in
      plain_step 0x55 ranges_kept a xs p.0 (same_ranges xs p.1)

  -- An attribute that has nothing to do with ranges.
  spare_other : (k : ℕ) → IsOther k → (a : Attr) → find (named k) (ranges_attrs m e a) ≡ None
  spare_other k i a =
      ap (λ (b : Bool). if b then Some (for_high a) else find (named k) (unused a (a.len == 8))) i.ranges ∙ unused_other (a.len == 8)
    where
      unused_other : (b : Bool) → find (named k) (unused a b) ≡ None
      unused_other true = ap (λ (c : Bool). if c then Some (unused_high a) else None) i.spare
      unused_other false = refl

  same_other : (k : ℕ) → IsOther k → (xs : List Attr) → find (named k) (flat_map change xs) ≡ option_map changed (find (named k) xs)
  same_other k i [] = refl
  same_other k i (a ∷ xs) = step (a.name == 0x12) refl (same_other k i xs)
    where
      step : (b : Bool) → (a.name == 0x12) ≡ b → find (named k) (flat_map change xs) ≡ option_map changed (find (named k) xs) →
          find (named k) (flat_map change (a ∷ xs)) ≡ option_map changed (find (named k) (a ∷ xs))
      step false f more = plain_step k i.kept a xs f more
      step true f more =
          find-append (named k) (change a) (flat_map change xs)
          ∙ ap (λ (l : List Attr). option_or (find (named k) l) (find (named k) (flat_map change xs))) (high a f)
          ∙ ap (λ (o : Option Attr). option_or o (find (named k) (flat_map change xs))) (spare_other k i a)
          ∙ more ∙ sym (ap (λ (b : Bool). option_map changed (if b then Some a else find (named k) xs))
          (named_not a.name 0x12 k f i.kept.high))

  -- The ranges that replace a high address.
  high_ranges : (xs : List Attr) (h : Attr) → find (named 0x12) xs ≡ Some h → find (named 0x55) xs ≡ None →
      find (named 0x55) (flat_map change xs) ≡ Some (for_high h)
  high_ranges [] h is none = absurd (cc)
  high_ranges (a ∷ xs) h is none = step (a.name == 0x12) refl is (λ is none. high_ranges xs h is none)
    where
      step : (b : Bool) → (a.name == 0x12) ≡ b → (if b then Some a else find (named 0x12) xs) ≡ Some h →
          (find (named 0x12) xs ≡ Some h → find (named 0x55) xs ≡ None → find (named 0x55) (flat_map change xs) ≡ Some (for_high h)) →
          find (named 0x55) (flat_map change (a ∷ xs)) ≡ Some (for_high h)
      step true f is more =
          find-append (named 0x55) (change a) (flat_map change xs)
          ∙ ap (λ (l : List Attr). option_or (find (named 0x55) l) (find (named 0x55) (flat_map change xs))) (high a f)
          ∙ ap (option_map for_high) is
      step false f is more =
          let p = not_there 0x55 a xs (a.name == 0x55) refl none in
          find-append (named 0x55) (change a) (flat_map change xs)
          ∙ ap (λ (l : List Attr). option_or (find (named 0x55) l) (find (named 0x55) (flat_map change xs))) (other a f)
          ∙ ap (λ (b : Bool). option_or (if b then Some (changed a) else None) (find (named 0x55) (flat_map change xs)))
          (same_name own e.declaration a.name 0x55 ranges_kept ∙ p.0)
          ∙ more is p.1

-- For a changed entry

module _ (s : Sections) (info : List ℕ) (m : Moves) (first : Bool) (old new : Entry) (c : IsChangedEntry s info m first old new) where
  abbrev own : Bool
  own = is_own s old.declaration

  pub new_high : attr 0x12 new ≡ None
  new_high = ap (find (named 0x12)) c.attrs ∙ no_high m own first old old.attrs

  pub from_high : (h : Attr) → attr 0x12 old ≡ Some h → attr 0x55 old ≡ None → attr 0x55 new ≡ Some (for_high m own first old h)
  from_high h is none = ap (find (named 0x55)) c.attrs ∙ high_ranges m own first old old.attrs h is none

  pub from_ranges : attr 0x12 old ≡ None → attr 0x55 new ≡ option_map (changed m own first old) (attr 0x55 old)
  from_ranges none = ap (find (named 0x55)) c.attrs ∙ same_ranges m own first old old.attrs none

  pub from_other : (k : ℕ) → IsOther k → attr k new ≡ option_map (changed m own first old) (attr k old)
  from_other k i = ap (find (named k)) c.attrs ∙ same_other m own first old k i old.attrs
