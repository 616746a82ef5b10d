-- The names of entries of two files whose units agree.
use Rattle.std.proofs.Common.{◌≡◌, ◌∙◌, ℕ, zero, suc, ◌+◌, ◌*◌, Bool, true, false, List, Option, Some, None, refl, ap, subst}
use Rattle.std.specs.Prelude.{◌==◌, ◌&&◌, ◌-◌, not, take, nat_le, if◌then◌else◌, option_and_then}
use Rattle.std.specs.List.{AllZip, find}
use Rattle.std.specs.Option.{option_or}
use Rattle.std.proofs.lemmas.Bool.{eqb-true}
use Rattle.elf_image.specs.declared.elf.Elf.{Elf}
use Rattle.answer_runs.specs.CarriedAnswers.{Agree}
use Rattle.table_core.specs.AttributeForms.{is_text_index}
use Rattle.table_core.specs.Texts.{text_in}
use Rattle.table_core.specs.declared.form.TheConstants.{DW_FORM_addr, DW_FORM_string, DW_FORM_strp, DW_FORM_line_strp}
use Rattle.table_core.specs.declared.form.TheConstants.{DW_FORM_ref_addr, DW_FORM_ref_udata}
use Rattle.dw_unit.specs.declared.entry.Attr.{Attr}
use Rattle.dw_unit.specs.declared.attribute.TheConstants.{DW_AT_name, DW_AT_abstract_origin, DW_AT_specification, DW_AT_str_offsets_base}
use Rattle.dw_unit.specs.Changes.{names_base}
use Rattle.dw_unit.specs.CompUnits.{Entry, Unit, units, entries, attr, base, number_in, value_bytes}
use Rattle.inline_frames.specs.Names.{name_sections, unit_of_entry, text_of_index, text_of, target_of, referred}
use Rattle.inline_frames.specs.Names.{name_or, name_within, name_of, own_name_or, reference_limit}
use Rattle.inline_frames.proofs.KeptChains.{IsKeptAttr, IsKeptEntry, IsKeptUnit, plain_name}
use Rattle.inline_frames.proofs.Pairs.{find_each, then_each, flat_each}

-- A form that is another one isn't an address.
no_address : (form other : ℕ) → (form == other) ≡ true → (other == DW_FORM_addr) ≡ false → (form == DW_FORM_addr) ≡ false
no_address form other is apart = ap (λ n. n == DW_FORM_addr) (eqb-true form other is) ∙ apart

-- A value that is no address.
pub value_of : (i f : List ℕ) (a b : Attr) → IsKeptAttr i f a b → (a.form == DW_FORM_addr) ≡ false → b.value ≡ a.value
value_of i f a b h other = h.value (ap (λ t. t && not (names_base a.name)) other)

index_no_address : (form : ℕ) → is_text_index form ≡ true → (form == DW_FORM_addr) ≡ false
index_no_address form is = by (form == DW_FORM_addr) refl
  where
    by : (b : Bool) → (form == DW_FORM_addr) ≡ b → (form == DW_FORM_addr) ≡ false
    by false e = e
    by true e = absurd (isnt (subst (λ n. is_text_index n ≡ true) (eqb-true form DW_FORM_addr e) is))
      where
        isnt : is_text_index DW_FORM_addr ≡ true → ⊥
        isnt h = absurd (cc)

reference_no_address : (form : ℕ) → (nat_le DW_FORM_ref_addr form && nat_le form DW_FORM_ref_udata) ≡ true →
    (form == DW_FORM_addr) ≡ false
reference_no_address form is = by (form == DW_FORM_addr) refl
  where
    by : (b : Bool) → (form == DW_FORM_addr) ≡ b → (form == DW_FORM_addr) ≡ false
    by false e = e
    by true e = absurd (isnt (subst (λ n. (nat_le DW_FORM_ref_addr n && nat_le n DW_FORM_ref_udata) ≡ true)
        (eqb-true form DW_FORM_addr e) is))
      where
        isnt : (nat_le DW_FORM_ref_addr DW_FORM_addr && nat_le DW_FORM_addr DW_FORM_ref_udata) ≡ true → ⊥
        isnt h = absurd (cc)

pub record AreNamesKept (i f : Elf) : Type 0 where
  pub units_are : AllZip (IsKeptUnit i f) (units (name_sections i).units) (units (name_sections f).units)
  pub str : (name_sections f).str ≡ (name_sections i).str
  pub line_str : (name_sections f).line_str ≡ (name_sections i).line_str
  pub str_offsets : (name_sections f).str_offsets ≡ (name_sections i).str_offsets

abbrev text_by : ℕ → (t1 t2 t3 t4 : Option (List ℕ)) → Option (List ℕ)
text_by form t1 t2 t3 t4 =
    if form == DW_FORM_string then t1
    else (if form == DW_FORM_strp then t2 else (if form == DW_FORM_line_strp then t3 else (if is_text_index form then t4 else None)))

choose_text : (form : ℕ) (t1 t2 t3 t4 u1 u2 u3 u4 : Option (List ℕ)) → ((form == DW_FORM_string) ≡ true → u1 ≡ t1) →
    ((form == DW_FORM_strp) ≡ true → u2 ≡ t2) → ((form == DW_FORM_line_strp) ≡ true → u3 ≡ t3) →
    (is_text_index form ≡ true → u4 ≡ t4) → text_by form u1 u2 u3 u4 ≡ text_by form t1 t2 t3 t4
choose_text form t1 t2 t3 t4 u1 u2 u3 u4 e1 e2 e3 e4 =
    by (form == DW_FORM_string) (form == DW_FORM_strp) (form == DW_FORM_line_strp) (is_text_index form) e1 e2 e3 e4
  where
    by : (b1 b2 b3 b4 : Bool) → (b1 ≡ true → u1 ≡ t1) → (b2 ≡ true → u2 ≡ t2) → (b3 ≡ true → u3 ≡ t3) →
        (b4 ≡ true → u4 ≡ t4) →
        (if b1 then u1 else (if b2 then u2 else (if b3 then u3 else (if b4 then u4 else None))))
        ≡ (if b1 then t1 else (if b2 then t2 else (if b3 then t3 else (if b4 then t4 else None))))
    by true b2 b3 b4 f1 f2 f3 f4 = f1 refl
    by false true b3 b4 f1 f2 f3 f4 = f2 refl
    by false false true b4 f1 f2 f3 f4 = f3 refl
    by false false false true f1 f2 f3 f4 = f4 refl
    by false false false false f1 f2 f3 f4 = refl

abbrev Infos : Elf → Elf → Entry → Entry → Type 0
Infos i f = IsKeptEntry (name_sections i).units.info (name_sections f).units.info

abbrev KeptIn : Elf → Elf → Attr → Attr → Type 0
KeptIn i f = IsKeptAttr (name_sections i).units.info (name_sections f).units.info

abbrev text_with : List ℕ → List ℕ → ℕ → Option ℕ → Option (List ℕ)
text_with str offsets n b = option_and_then (λ b. option_and_then (text_in str) (number_in 4 (b + 4 * n) offsets)) b

module _ (i f : Elf) (kept : AreNamesKept i f) where
  value : (a b : Attr) → KeptIn i f a b → (a.form == DW_FORM_addr) ≡ false → b.value ≡ a.value
  value a b h other = value_of (name_sections i).units.info (name_sections f).units.info a b h other

  pub unit_each : (x y : Entry) → y.unit ≡ x.unit →
      Agree (IsKeptUnit i f) (unit_of_entry (name_sections i) x) (unit_of_entry (name_sections f) y)
  unit_each x y same = find_each (IsKeptUnit i f) (λ (u : Unit). u.place == x.unit) (λ (u : Unit). u.place == y.unit)
      (λ u v h. ap (λ n. n == y.unit) h.place ∙ ap (λ n. u.place == n) same)
      (units (name_sections i).units) (units (name_sections f).units) kept.units_are

  pub index_text : (x y : Entry) → y.unit ≡ x.unit → (n m : ℕ) → m ≡ n →
      text_of_index (name_sections f) y m ≡ text_of_index (name_sections i) x n
  index_text x y same n m is = then_each (IsKeptUnit i f)
      (λ u. text_with (name_sections i).str (name_sections i).str_offsets n (base DW_AT_str_offsets_base u))
      (λ u. text_with (name_sections f).str (name_sections f).str_offsets m (base DW_AT_str_offsets_base u))
      (λ u v h. ap (λ o. text_with (name_sections f).str (name_sections f).str_offsets m o) h.text_base
      ∙ ap (λ k. text_with (name_sections f).str (name_sections f).str_offsets k (base DW_AT_str_offsets_base u)) is
      ∙ ap (λ t. text_with t (name_sections f).str_offsets n (base DW_AT_str_offsets_base u)) kept.str
      ∙ ap (λ t. text_with (name_sections i).str t n (base DW_AT_str_offsets_base u)) kept.str_offsets)
      (unit_of_entry (name_sections i) x) (unit_of_entry (name_sections f) y) (unit_each x y same)

  -- The text of an attribute that is kept.
  pub text_kept : (x y : Entry) → y.unit ≡ x.unit → (a b : Attr) → KeptIn i f a b →
      text_of (name_sections f) y b ≡ text_of (name_sections i) x a
  text_kept x y same a b h =
      ap (λ n. text_by n (Some (take (b.len - 1) (value_bytes (name_sections f).units.info b))) (text_in (name_sections f).str b.value)
      (text_in (name_sections f).line_str b.value) (text_of_index (name_sections f) y b.value)) h.form
      ∙ choose_text a.form
      (Some (take (a.len - 1) (value_bytes (name_sections i).units.info a))) (text_in (name_sections i).str a.value)
      (text_in (name_sections i).line_str a.value) (text_of_index (name_sections i) x a.value)
      (Some (take (b.len - 1) (value_bytes (name_sections f).units.info b))) (text_in (name_sections f).str b.value)
      (text_in (name_sections f).line_str b.value) (text_of_index (name_sections f) y b.value)
      (λ is. (λ j. Some (take (h.len j - 1) (h.text is j))))
      (λ is. ap (λ v. text_in (name_sections f).str v) (value a b h (no_address a.form DW_FORM_strp is refl))
      ∙ ap (λ t. text_in t a.value) kept.str)
      (λ is. ap (λ v. text_in (name_sections f).line_str v) (value a b h (no_address a.form DW_FORM_line_strp is refl))
      ∙ ap (λ t. text_in t a.value) kept.line_str)
      (λ is. index_text x y same a.value b.value (value a b h (index_no_address a.form is)))

  -- The offset that a reference gives.
  pub target_kept : (x y : Entry) → y.unit ≡ x.unit → (a b : Attr) → KeptIn i f a b → target_of y b ≡ target_of x a
  target_kept x y same a b h =
      ap (λ n. if n == DW_FORM_ref_addr then Some b.value
      else (if nat_le DW_FORM_ref_addr n && nat_le n DW_FORM_ref_udata then Some (y.unit + b.value) else None)) h.form
      ∙ by (a.form == DW_FORM_ref_addr) (nat_le DW_FORM_ref_addr a.form && nat_le a.form DW_FORM_ref_udata)
      (λ is. value a b h (no_address a.form DW_FORM_ref_addr is refl)) (λ is. value a b h (reference_no_address a.form is))
    where
      by : (b1 b2 : Bool) → (b1 ≡ true → b.value ≡ a.value) → (b2 ≡ true → b.value ≡ a.value) →
          (if b1 then Some b.value else (if b2 then Some (y.unit + b.value) else None))
          ≡ (if b1 then Some a.value else (if b2 then Some (x.unit + a.value) else None))
      by true b2 e1 e2 = ap Some (e1 refl)
      by false true e1 e2 = ap (λ n. Some (n + b.value)) same ∙ ap (λ n. Some (x.unit + n)) (e2 refl)
      by false false e1 e2 = refl

  -- The first of two attributes that are kept.
  or_kept : (a b c d : Option Attr) → Agree (KeptIn i f) a b → Agree (KeptIn i f) c d →
      Agree (KeptIn i f) (option_or a c) (option_or b d)
  or_kept None None c d h more = more
  or_kept None (Some b) c d h more = absurd h
  or_kept (Some a) None c d h more = absurd h
  or_kept (Some a) (Some b) c d h more = h

  pub entries_each : AllZip (Infos i f) (entries (name_sections i).units) (entries (name_sections f).units)
  entries_each = flat_each (IsKeptUnit i f) (Infos i f) (λ (u : Unit). u.entries) (λ u v h. h.entries)
      (units (name_sections i).units) (units (name_sections f).units) kept.units_are

  found_at : (o q : Option ℕ) → q ≡ o → Agree (Infos i f)
      (option_and_then (λ place. find (λ (x : Entry). x.place == place) (entries (name_sections i).units)) o)
      (option_and_then (λ place. find (λ (x : Entry). x.place == place) (entries (name_sections f).units)) q)
  found_at None None e = tt
  found_at None (Some n) e = absurd (cc)
  found_at (Some n) None e = absurd (cc)
  found_at (Some n) (Some m) e = find_each (Infos i f) (λ (x : Entry). x.place == n) (λ (x : Entry). x.place == m)
      (λ x y h. ap (λ p. p == m) h.place ∙ ap (λ p. x.place == p) (some_is e))
      (entries (name_sections i).units) (entries (name_sections f).units) entries_each
    where
      some_is : Some m ≡ Some n → m ≡ n
      some_is h = cc

  pub referred_each : (x y : Entry) → Infos i f x y →
      Agree (Infos i f) (referred (name_sections i) x) (referred (name_sections f) y)
  referred_each x y h = found_at
      (option_and_then (target_of x) (option_or (attr DW_AT_abstract_origin x) (attr DW_AT_specification x)))
      (option_and_then (target_of y) (option_or (attr DW_AT_abstract_origin y) (attr DW_AT_specification y)))
      (then_each (KeptIn i f) (target_of x) (target_of y) (λ a b k. target_kept x y h.unit a b k)
      (option_or (attr DW_AT_abstract_origin x) (attr DW_AT_specification x))
      (option_or (attr DW_AT_abstract_origin y) (attr DW_AT_specification y))
      (or_kept (attr DW_AT_abstract_origin x) (attr DW_AT_abstract_origin y) (attr DW_AT_specification x)
      (attr DW_AT_specification y) (h.attrs DW_AT_abstract_origin (plain_name DW_AT_abstract_origin refl refl))
      (h.attrs DW_AT_specification (plain_name DW_AT_specification refl refl))))

  own_name : (x y : Entry) → Infos i f x y → (more more' : Option (List ℕ)) → more' ≡ more →
      name_or (name_sections f) y more' ≡ name_or (name_sections i) x more
  own_name x y h more more' same = by (attr DW_AT_name x) (attr DW_AT_name y) (h.attrs DW_AT_name (plain_name DW_AT_name refl refl))
    where
      by : (a b : Option Attr) → Agree (KeptIn i f) a b →
          own_name_or (name_sections f) y b more' ≡ own_name_or (name_sections i) x a more
      by None None k = same
      by None (Some b) k = absurd k
      by (Some a) None k = absurd k
      by (Some a) (Some b) k = text_kept x y h.unit a b k

  pub within_each : (n : ℕ) → (x y : Entry) → Infos i f x y →
      name_within (name_sections f) n y ≡ name_within (name_sections i) n x
  within_each zero x y h = own_name x y h None None refl
  within_each (suc n) x y h = own_name x y h
      (option_and_then (name_within (name_sections i) n) (referred (name_sections i) x))
      (option_and_then (name_within (name_sections f) n) (referred (name_sections f) y))
      (then_each (Infos i f) (name_within (name_sections i) n) (name_within (name_sections f) n)
      (λ u v k. within_each n u v k) (referred (name_sections i) x) (referred (name_sections f) y) (referred_each x y h))

  pub name_each : (x y : Entry) → Infos i f x y → name_of (name_sections f) y ≡ name_of (name_sections i) x
  name_each x y h = within_each reference_limit x y h
