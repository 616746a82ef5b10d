-- The bases of indexes in a unit of a written file.
use Rattle.std.proofs.Common.{◌≡◌, ◌∙◌, ◌==◌, ◌||◌, ◌∷◌, [], ℕ, Bool, true, false, List, Option, Some, None, refl, sym, ap, subst, arith}
use Rattle.std.specs.Prelude.{Contains, option_and_then, option_map, is_some, unwrap_or}
use Rattle.std.specs.List.{AllZip}
use Rattle.std.specs.Option.{option_map_or}
use Rattle.std.proofs.lemmas.Bool.{eqb-true, eq-eqb}
use Rattle.rb_bytes.proofs.Members.{Contains-nil}
use Rattle.answer_runs.specs.Choices.{first_of}
use Rattle.dw_unit.specs.declared.entry.Attr.{Attr}
use Rattle.dw_unit.specs.CompUnits.{Entry, Unit, attr, base}
use Rattle.dw_unit.specs.Changes.{is_own, is_first_of, new_value}
use Rattle.dw_unit.specs.ChangedEntries.{IsChangedEntry}
use Rattle.dw_unit.specs.EntryMoves.{Moves, new_list_offset}
use Rattle.dw_unit.proofs.SoundEntries.{IsSoundEntry}
use Rattle.dw_lists.specs.Faults.{ListSections}
use Rattle.dw_lists.specs.UnitLists.{own_place}
use Rattle.range_loc_rewrite.proofs.ChangedAttrs.{IsOther, changed, from_other}
use Rattle.range_loc_rewrite.proofs.KeptLookups.{own_at}
use Rattle.range_loc_rewrite.proofs.RangesStay.{found_name, SoundTests, tests_of, new_base}

-- The first of a list of entries, pair by pair.
record OwnPair (R : Entry → Entry → Type 0) (xs ys : List Entry) : Type 0 where
  pub d : Entry
  pub e : Entry
  pub old : first_of xs ≡ Some d
  pub new : first_of ys ≡ Some e
  pub are : R d e
  pub there : Contains xs d

own_pair : (R : Entry → Entry → Type 0) (xs ys : List Entry) (x : Entry) → AllZip R xs ys → Contains xs x → OwnPair R xs ys
own_pair R [] ys x z c = absurd (Contains-nil x c)
own_pair R (d ∷ xs) [] x z c = absurd z
own_pair R (d ∷ xs) (e ∷ ys) x z c = record { d = d; e = e; old = refl; new = refl; are = z.0; there = (0, omega arith, refl) }

new_location_base : (m : Moves) (own : Bool) (d : Entry) (a : Attr) (at : ℕ) → a.name ≡ 0x8c → a.form ≡ 0x17 →
    new_list_offset m.lists d.place 0x8c ≡ Some at →
    (changed m own true d a).value ≡ at
new_location_base m own d a at n f given =
    ap (λ (x : Attr). unwrap_or (new_value m own true d x) x.value)
    (λ i. record { name = n i; form = f i; place = a.place; len = a.len; value = a.value })
    ∙ ap (λ (o : Option ℕ). unwrap_or o a.value) given

base_value : (m : Moves) (own : Bool) (d : Entry) (a : Attr) (at k : ℕ) (b c : Bool) → (k == 0x74) ≡ b → (k == 0x8c) ≡ c → (b || c) ≡ true →
    a.name ≡ k → a.form ≡ 0x17 →
    new_list_offset m.lists d.place k ≡ Some at → (changed m own true d a).value ≡ at
base_value m own d a at k true c e f g n form given =
    new_base m own d a at (n ∙ eqb-true k 0x74 e) form (subst (λ (k : ℕ). new_list_offset m.lists d.place k ≡ Some at)
    (eqb-true k 0x74 e) given)
base_value m own d a at k false true e f g n form given =
    new_location_base m own d a at (n ∙ eqb-true k 0x8c f) form (subst (λ (k : ℕ). new_list_offset m.lists d.place k ≡ Some at)
    (eqb-true k 0x8c f) given)
base_value m own d a at k false false e f g n form given = absurd (cc)

module _ (s t : ListSections) (m : Moves) (u v : Unit) (zip : AllZip (λ x y. IsChangedEntry s.units t.units.info m (is_first_of u x) x y)
    u.entries v.entries)
    (sound : (d : Entry) → Contains u.entries d → IsSoundEntry s.units.addr u d) (k : ℕ) (i : IsOther k)
    (is_base : (k == 0x74 || k == 0x8c) ≡ true) where
  pub base_stays : (d : Entry) → Contains u.entries d → is_some (base k u) ≡ true → (b : ℕ) →
      new_list_offset m.lists (own_place u) k ≡ Some b → base k v ≡ Some b
  base_stays d dc some b offset = by_base (attr k w.d) refl
    where
      w : OwnPair (λ x y. IsChangedEntry s.units t.units.info m (is_first_of u x) x y) u.entries v.entries
      w = own_pair _ u.entries v.entries d zip dc

      first : is_first_of u w.d ≡ true
      first = ap (λ (o : Option Entry). option_map_or (λ (f : Entry). f.place == w.d.place) o false) w.old ∙ eq-eqb w.d.place w.d.place refl

      place : own_place u ≡ w.d.place
      place = own_at u w.d w.old

      based : base k u ≡ option_map (λ (a : Attr). a.value) (attr k w.d)
      based = ap (λ (o : Option Entry). option_map (λ (a : Attr). a.value) (option_and_then (attr k) o)) w.old

      by_base : (o : Option Attr) → attr k w.d ≡ o → base k v ≡ Some b
      by_base None is = let f : true ≡ false = sym some ∙ ap is_some (based ∙ ap (option_map (λ (a : Attr). a.value)) is) in absurd (cc)
      by_base (Some a) is =
          let tests : SoundTests s.units.addr u a = tests_of s.units.addr u w.d k a (sound w.d w.there) is in
          let name : a.name ≡ k = found_name k w.d.attrs a is in
          let form : a.form ≡ 0x17 = eqb-true a.form 0x17 (tests.bases (ap (λ (n : ℕ). n == 0x74 || n == 0x8c) name ∙ is_base)) in
          let own_decl : Bool = is_own s.units w.d.declaration in
          ap (λ (o : Option Entry). option_map (λ (a : Attr). a.value) (option_and_then (attr k) o)) w.new
          ∙ ap (option_map (λ (a : Attr). a.value))
          (from_other s.units t.units.info m (is_first_of u w.d) w.d w.e w.are k i
          ∙ ap (option_map (changed m own_decl (is_first_of u w.d) w.d)) is)
          ∙ ap (λ (b : Bool). Some (changed m own_decl b w.d a).value) first
          ∙ ap (λ (n : ℕ). Some n) (base_value m own_decl w.d a b k (k == 0x74) (k == 0x8c) refl refl is_base name form
          (subst (λ (n : ℕ). new_list_offset m.lists n k ≡ Some b) place offset))
