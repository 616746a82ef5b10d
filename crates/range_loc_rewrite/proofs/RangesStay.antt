-- The ranges of an entry whose list was written.
use Rattle.std.proofs.Common.{◌≡◌, ◌∙◌, ◌+◌, ◌*◌, ◌<◌, ◌==◌, ◌&&◌, ◌||◌, ◌∷◌, [], ℕ, Bool, true, false, not, List, Option, Some, None}
use Rattle.std.proofs.Common.{refl, sym, ap, subst, arith, length, map, All, ⊎_elim}
use Rattle.std.specs.Prelude.{Contains, option_and_then, option_map, if◌then◌else◌, is_some, nat_lt, unwrap_or}
use Rattle.std.specs.List.{find, list_all}
use Rattle.std.proofs.lemmas.Bool.{eqb-true}
use Rattle.std.proofs.lemmas.Bool.Decides.{nat_tests}
use Rattle.rb_bytes.proofs.Members.{Contains-nil, Contains-cons_cases, Contains-there}
use Rattle.answer_runs.specs.declared.range.Range.{Range}
use Rattle.answer_runs.specs.declared.run.Run.{Run}
use Rattle.answer_runs.specs.AnswerRuns.{run_at}
use Rattle.table_core.specs.WrittenUnits.{IsUnit, units_bytes}
use Rattle.dw_unit.specs.declared.entry.Attr.{Attr}
use Rattle.dw_unit.specs.CompUnits.{Entry, Unit, attr, base, number_in, may_repeat, address_of}
use Rattle.dw_unit.specs.Changes.{new_value}
use Rattle.dw_unit.specs.EntryMoves.{Moves, new_list_offset}
use Rattle.table_core.specs.AttributeForms.{is_block, is_address_index, is_text_index}
use Rattle.dw_unit.specs.Faults.{is_sound_attr, is_located, implies}
use Rattle.dw_unit.proofs.SoundEntries.{IsSoundEntry}
use Rattle.dw_lists.specs.declared.list_kind.ListKind.TheVariants as kind
use Rattle.dw_lists.specs.Faults.{ListSections}
use Rattle.cover_lists.specs.Located.{ranges_in, Located, hold}
use Rattle.list_writer.specs.ListBytes.{IsWritable, located_at}
use Rattle.dw_lists.specs.Lists.{Kind, ranges_kind, has_list, list_offset, list_at, only_within, offset_of_index}
use Rattle.dw_lists.specs.Ranges.{ranges_of}
use Rattle.list_writer.specs.WrittenRanges.{bounded, runs_bytes}
use Rattle.list_writer.specs.WrittenTables.{StandsAt}
use Rattle.range_loc_rewrite.proofs.ChangedAttrs.{named, changed}
use Rattle.list_writer.proofs.HeldRuns.{ranges_hold}
use Rattle.range_loc_rewrite.proofs.KeptLookups.{no_bounds}
use Rattle.list_writer.proofs.ListsThere.{list_there}
use Rattle.dw_lists.proofs.OwnRanges.{listed_ranges, of_offset}
use Rattle.range_loc_rewrite.proofs.SoundLists.{IsFine, AreFine}

-- An attribute that refers to ranges.
abbrev ranges_attr : (form place len value : ℕ) → Attr
ranges_attr form place len value = record { name = 0x55; form = form; place = place; len = len; value = value }

attr_is : (a : Attr) (form : ℕ) → a.name ≡ 0x55 → a.form ≡ form → a ≡ ranges_attr form a.place a.len a.value
attr_is a form n f = λ i. record { name = n i; form = f i; place = a.place; len = a.len; value = a.value }

inside_is : (section : List ℕ) (at : ℕ) → at < length section → only_within section at ≡ Some at
inside_is section at h = let t : nat_lt at (length section) ≡ true = grind (arith, nat_tests) in
    ap (λ (b : Bool). if b then Some at else None) t

-- The attribute that is found has the name.
pub found_name : (k : ℕ) (xs : List Attr) (a : Attr) → find (named k) xs ≡ Some a → a.name ≡ k
found_name k [] a e = absurd (cc)
found_name k (x ∷ xs) a e = step (x.name == k) refl e (λ e. found_name k xs a e)
  where
    same : Some x ≡ Some a → x ≡ a
    same e = cc

    step : (b : Bool) → (x.name == k) ≡ b → (if b then Some x else find (named k) xs) ≡ Some a → (find (named k) xs ≡ Some a → a.name ≡ k) →
        a.name ≡ k
    step true f e ih = sym (ap (λ (y : Attr). y.name) (same e)) ∙ eqb-true x.name k f
    step false f e ih = ih e

pub found_there : (k : ℕ) (xs : List Attr) (a : Attr) → find (named k) xs ≡ Some a → Contains xs a
found_there k [] a e = absurd (cc)
found_there k (x ∷ xs) a e = step (x.name == k) e (λ e. found_there k xs a e)
  where
    same : Some x ≡ Some a → x ≡ a
    same e = cc

    step : (b : Bool) → (if b then Some x else find (named k) xs) ≡ Some a → (find (named k) xs ≡ Some a → Contains xs a) →
        Contains (x ∷ xs) a
    step true e ih = (0, omega arith, same e)
    step false e ih = Contains-there x xs a (ih e)

-- The ranges of an entry of a written file, by its list.
module _ (t : ListSections) (v : Unit) (e : Entry) (tables : List (List ℕ)) (units : All (IsUnit 5) tables)
    (ranges_are : t.ranges ≡ units_bytes tables)
    (none : attr 0x12 e ≡ None) (sound : IsSoundEntry t.units.addr v e) (a : Attr) (is : attr 0x55 e ≡ Some a) (at : ℕ)
    (offset : list_offset ranges_kind t.ranges v a ≡ Some at) (runs : List (Run Bool))
    (stands : StandsAt tables at (runs_bytes runs)) (writable : All (IsWritable kind.Ranges) (map bounded runs)) where
  abbrev said : List Located
  said = map located_at (map bounded runs)

  listed : list_at ranges_kind t.ranges t.units.addr v at ≡ Some said
  listed =
      ap (λ (l : List ℕ). list_at ranges_kind l t.units.addr v at) ranges_are
      ∙ list_there kind.Ranges tables at (map bounded runs) stands units writable t.units.addr v

  ranges_by : ranges_of t v e ≡ Some (ranges_in said)
  ranges_by =
      no_bounds t v e none ∙ ap (listed_ranges t v) is ∙ of_offset t v a (Some at) offset ∙ ap (option_map ranges_in) listed

  pub held_by : (p : ℕ) → hold (ranges_of t v e) p ≡ is_some (run_at runs p)
  held_by p = ap (λ (o : Option (List Range)). hold o p) ranges_by ∙ ranges_hold runs p

  -- It is the only attribute that refers to ranges.
  only : (x : Attr) → Contains e.attrs x → has_list ranges_kind x ≡ true → a ≡ x
  only x c h =
      let name : x.name ≡ 0x55 = eqb-true x.name 0x55 (first (x.name == 0x55) _ h) in
      same (sym is ∙ subst (λ (n : ℕ). attr n e ≡ Some x) name (sound.sole x c (ap may_repeat name)))
    where
      first : (b d : Bool) → (b && d) ≡ true → b ≡ true
      first true d f = refl
      first false d f = absurd (cc)

      same : Some a ≡ Some x → a ≡ x
      same f = cc

  pub fine_by : AreFine t v e.attrs
  fine_by x c h = subst (IsFine t v) (only x c h) (record { at = at; offset = offset; read = ap is_some listed })

-- The tests of a sound attribute, for lists.
pub record SoundTests (addr : List ℕ) (u : Unit) (a : Attr) : Type 0 where
  pub location : (a.form == 0x22) ≡ true → is_some (base 0x8c u) ≡ true
  pub index : (a.form == 0x23) ≡ true → is_some (base 0x74 u) ≡ true
  pub located : is_located a.name ≡ true → (is_block a.form || a.form == 0x17 || a.form == 0x22) ≡ true
  pub ranges : (a.name == 0x55) ≡ true → (a.form == 0x17 || a.form == 0x23) ≡ true
  pub bases : (a.name == 0x74 || a.name == 0x8c) ≡ true → (a.form == 0x17) ≡ true

sound_tests : (addr : List ℕ) (u : Unit) (a : Attr) → is_sound_attr addr u a ≡ true → SoundTests addr u a
sound_tests addr u a e =
    let p = seven (implies (is_text_index a.form) (is_some (base 0x72 u)))
    (implies (is_address_index a.form) (is_some (address_of addr u a)))
    (implies (a.form == 0x22) (is_some (base 0x8c u))) (implies (a.form == 0x23) (is_some (base 0x74 u)))
    (implies (is_located a.name) (is_block a.form || a.form == 0x17 || a.form == 0x22))
    (implies (a.name == 0x55) (a.form == 0x17 || a.form == 0x23))
    (implies (a.name == 0x74 || a.name == 0x8c) (a.form == 0x17)) e in
    record {
      location = λ f. implied (a.form == 0x22) (is_some (base 0x8c u)) p.0 f;
      index = λ f. implied (a.form == 0x23) (is_some (base 0x74 u)) p.1 f;
      located = λ f. implied (is_located a.name) (is_block a.form || a.form == 0x17 || a.form == 0x22) p.2 f;
      ranges = λ f. implied (a.name == 0x55) (a.form == 0x17 || a.form == 0x23) p.3 f;
      bases = λ f. implied (a.name == 0x74 || a.name == 0x8c) (a.form == 0x17) p.4 f;
    }
  where
    implied : (b d : Bool) → (not b || d) ≡ true → b ≡ true → d ≡ true
    implied true d f g = f
    implied false d f g = absurd (cc)

    seven : (b1 b2 b3 b4 b5 b6 b7 : Bool) → (b1 && b2 && b3 && b4 && b5 && b6 && b7) ≡ true → (b3 ≡ true) × (b4 ≡ true) × (b5 ≡ true)
        × (b6 ≡ true) × (b7 ≡ true)
    seven true true true true true true true f = (refl, refl, refl, refl, refl)
    seven true true true true true true false f = absurd (cc)
    seven true true true true true false b7 f = absurd (cc)
    seven true true true true false b6 b7 f = absurd (cc)
    seven true true true false b5 b6 b7 f = absurd (cc)
    seven true true false b4 b5 b6 b7 f = absurd (cc)
    seven true false b3 b4 b5 b6 b7 f = absurd (cc)
    seven false b2 b3 b4 b5 b6 b7 f = absurd (cc)

all_there : (test : Attr → Bool) (attrs : List Attr) (a : Attr) → list_all test attrs ≡ true → Contains attrs a → test a ≡ true
all_there test [] a e c = absurd (Contains-nil a c)
all_there test (b ∷ attrs) a e c =
    let p = both (test b) (list_all test attrs) e in
    ⊎_elim (λ (same : b ≡ a). subst (λ (x : Attr). test x ≡ true) same p.0) (λ (there : Contains attrs a). all_there test attrs a p.1 there)
    (Contains-cons_cases b attrs a c)
  where
    both : (x y : Bool) → (x && y) ≡ true → (x ≡ true) × (y ≡ true)
    both true y f = (refl, f)
    both false y f = absurd (cc)

pub tests_of : (addr : List ℕ) (u : Unit) (e : Entry) (k : ℕ) (a : Attr) → IsSoundEntry addr u e → attr k e ≡ Some a → SoundTests addr u a
tests_of addr u e k a sound is = sound_tests addr u a (all_there (is_sound_attr addr u) e.attrs a sound.sound (found_there k e.attrs a is))

-- New values

pub new_offset : (m : Moves) (own first : Bool) (d : Entry) (a : Attr) (at : ℕ) → a.name ≡ 0x55 → a.form ≡ 0x17 →
    new_list_offset m.lists d.place 0x55 ≡ Some at →
    (changed m own first d a).value ≡ at
new_offset m own first d a at n f given =
    ap (λ (x : Attr). unwrap_or (new_value m own first d x) x.value) (attr_is a 0x17 n f) ∙ ap (λ (o : Option ℕ). unwrap_or o a.value) given

pub kept_index : (m : Moves) (own first : Bool) (d : Entry) (a : Attr) → a.name ≡ 0x55 → a.form ≡ 0x23 →
    (changed m own first d a).value ≡ a.value
kept_index m own first d a n f = ap (λ (x : Attr). unwrap_or (new_value m own first d x) x.value) (attr_is a 0x23 n f)

pub new_base : (m : Moves) (own : Bool) (d : Entry) (a : Attr) (at : ℕ) → a.name ≡ 0x74 → a.form ≡ 0x17 →
    new_list_offset m.lists d.place 0x74 ≡ Some at →
    (changed m own true d a).value ≡ at
new_base m own d a at n f given =
    ap (λ (x : Attr). unwrap_or (new_value m own true d x) x.value)
    (λ i. record { name = n i; form = f i; place = a.place; len = a.len; value = a.value })
    ∙ ap (λ (o : Option ℕ). unwrap_or o a.value) given

-- The offset of a list, by its attribute

pub plain_offset : (k : Kind) (section : List ℕ) (v : Unit) (a : Attr) (at : ℕ) → (a.form == k.index_form) ≡ false → a.value ≡ at →
    at < length section →
    list_offset k section v a ≡ Some at
plain_offset k section v a at f value h =
    ap (λ (b : Bool). option_and_then (only_within section) (if b then offset_of_index k section v a.value else Some a.value)) f
    ∙ ap (only_within section) value ∙ inside_is section at h

pub index_offset : (k : Kind) (section : List ℕ) (v : Unit) (a : Attr) (i b o : ℕ) → (a.form == k.index_form) ≡ true → a.value ≡ i →
    base k.base_name v ≡ Some b →
    number_in 4 (b + 4 * i) section ≡ Some o → b + o < length section → list_offset k section v a ≡ Some (b + o)
index_offset k section v a i b o f value based there h =
    ap (λ (b : Bool). option_and_then (only_within section) (if b then offset_of_index k section v a.value else Some a.value)) f
    ∙ ap (λ (n : ℕ). option_and_then (only_within section) (offset_of_index k section v n)) value
    ∙ ap (λ (x : Option ℕ). option_and_then (only_within section)
    (option_and_then (λ b. option_map (λ n. b + n) (number_in 4 (b + 4 * i) section)) x)) based
    ∙ ap (λ (x : Option ℕ). option_and_then (only_within section) (option_map (λ n. b + n) x)) there
    ∙ inside_is section (b + o) h
