-- The name of an entry is found by following its references.
use Rattle.std.proofs.Common.{◌≡◌, ◌∙◌, ◌+◌, ◌-◌, ◌*◌, ◌==◌, ℕ, zero, suc, Bool, true, false, List, Option, Some, None, refl, sym, ap}
use Rattle.std.proofs.Common.{arith, drop, take}
use Rattle.std.specs.Prelude.{if◌then◌else◌, option_and_then, option_map}
use Rattle.std.specs.Option.{option_or}
use Rattle.std.proofs.lemmas.Grind.{common_steps}
use Rattle.table_core.specs.AttributeForms.{is_text_index}
use Rattle.table_core.specs.Texts.{text_in}
use Rattle.table_core.specs.declared.form.TheConstants.{DW_FORM_string, DW_FORM_strp, DW_FORM_line_strp}
use Rattle.dw_unit.specs.declared.attribute.TheConstants.{DW_AT_abstract_origin, DW_AT_name, DW_AT_specification, DW_AT_str_offsets_base}
use Rattle.dw_unit.specs.declared.entry.Attr.{Attr}
use Rattle.dw_unit.specs.CompUnits.{Entry, Unit, attr, base, number_in, value_bytes}
use Rattle.inline_frames.specs.Names.{NameSections, name_within, own_name_or, referred, target_of, text_of, text_of_index, unit_of_entry}
use Rattle.inline_frames.specs.Naming.{entry_at, followed, followed_times, index_place, naming_by, naming_of, naming_or_none, text_at_place}
use Rattle.inline_frames.specs.Naming.{text_named, text_place}
use Rattle.inline_frames.specs.declared.naming.Naming.{Naming}
use Rattle.inline_frames.specs.declared.naming.Naming.TheVariants.{Named}
use Rattle.inline_frames.specs.declared.naming.TextPlace.TheVariants.{InInfo, InStr, InLineStr}

taken_less : (n : ℕ) (xs : List ℕ) → take (n - 1) (take n xs) ≡ take (n - 1) xs
taken_less n xs = grind (arith, common_steps)

module _ (s : NameSections) (e : Entry) where
  abbrev text_base : Option ℕ
  text_base = option_and_then (base DW_AT_str_offsets_base) (unit_of_entry s e)

  index_text : (index : ℕ) → text_of_index s e index ≡ option_and_then (text_at_place s) (index_place s.str_offsets text_base index)
  index_text index = by (unit_of_entry s e) where
    by_number : (o : Option ℕ) → option_and_then (text_in s.str) o ≡ option_and_then (text_at_place s) (option_map InStr o)
    by_number None = refl
    by_number (Some n) = refl

    by_base : (o : Option ℕ) →
        option_and_then (λ b. option_and_then (text_in s.str) (number_in 4 (b + 4 * index) s.str_offsets)) o
        ≡ option_and_then (text_at_place s) (index_place s.str_offsets o index)
    by_base None = refl
    by_base (Some b) = by_number (number_in 4 (b + 4 * index) s.str_offsets)

    by : (o : Option Unit) →
        option_and_then (λ u. option_and_then (λ b. option_and_then (text_in s.str) (number_in 4 (b + 4 * index) s.str_offsets))
        (base DW_AT_str_offsets_base u)) o
        ≡ option_and_then (text_at_place s) (index_place s.str_offsets (option_and_then (base DW_AT_str_offsets_base) o) index)
    by None = refl
    by (Some u) = by_base (base DW_AT_str_offsets_base u)

  text_is : (a : Attr) → text_of s e a ≡ option_and_then (text_at_place s) (text_place s.str_offsets text_base a)
  text_is a = by (a.form == DW_FORM_string) (a.form == DW_FORM_strp) (a.form == DW_FORM_line_strp) (is_text_index a.form) where
    by : (b1 b2 b3 b4 : Bool) →
        (if b1 then Some (take (a.len - 1) (value_bytes s.units.info a)) else (if b2 then text_in s.str a.value
        else (if b3 then text_in s.line_str a.value else (if b4 then text_of_index s e a.value else None))))
        ≡ option_and_then (text_at_place s) (if b1 then Some (InInfo a.place (a.len - 1)) else (if b2 then Some (InStr a.value)
        else (if b3 then Some (InLineStr a.value) else (if b4 then index_place s.str_offsets text_base a.value else None))))
    by true b2 b3 b4 = ap (λ (l : List ℕ). Some l) (taken_less a.len (drop a.place s.units.info))
    by false true b3 b4 = refl
    by false false true b4 = refl
    by false false false true = index_text a.value
    by false false false false = refl

times_named : (s : NameSections) (n : ℕ) (x : Naming) → followed s x ≡ x → followed_times s n x ≡ x
times_named s zero x e = refl
times_named s (suc n) x e = ap (followed_times s n) e ∙ times_named s n x e

module _ (s : NameSections) where
  abbrev target : Entry → Option ℕ
  target e = option_and_then (target_of e) (option_or (attr DW_AT_abstract_origin e) (attr DW_AT_specification e))

  abbrev naming_with : Entry → Option Attr → Option ℕ → Naming
  naming_with e o place = naming_by s.str_offsets (option_and_then (base DW_AT_str_offsets_base) (unit_of_entry s e)) o place

  by_name : (n : ℕ) (e : Entry) (o : Option Attr) (more : Option (List ℕ)) →
      (o ≡ None → more ≡ text_named s (followed_times s n (naming_with e None (target e)))) →
      own_name_or s e o more ≡ text_named s (followed_times s n (naming_with e o (target e)))
  by_name n e None more is = is refl
  by_name n e (Some a) more is =
      text_is s e a ∙ sym (ap (text_named s) (times_named s n (naming_with e (Some a) (target e)) refl))

  by_none : (e : Entry) (place : Option ℕ) → None ≡ text_named s (naming_with e None place)
  by_none e None = refl
  by_none e (Some place) = refl

  pub name_followed : (n : ℕ) (e : Entry) → name_within s n e ≡ text_named s (followed_times s n (naming_of s e))
  name_followed zero e = by_name zero e (attr DW_AT_name e) None (λ none. by_none e (target e))
  name_followed (suc n) e =
      by_name (suc n) e (attr DW_AT_name e) (option_and_then (name_within s n) (referred s e))
      (λ none. by_target (target e) (λ x. name_followed n x)) where
        by_entry : (o : Option Entry) → ((x : Entry) → name_within s n x ≡ text_named s (followed_times s n (naming_of s x))) →
            option_and_then (name_within s n) o ≡ text_named s (followed_times s n (naming_or_none (option_map (naming_of s) o)))
        by_entry None ih = sym (ap (text_named s) (times_named s n (Named None) refl))
        by_entry (Some x) ih = ih x

        by_target : (place : Option ℕ) → ((x : Entry) → name_within s n x ≡ text_named s (followed_times s n (naming_of s x))) →
            option_and_then (name_within s n) (option_and_then (λ place. entry_at s place) place)
            ≡ text_named s (followed_times s (suc n) (naming_with e None place))
        by_target None ih = sym (ap (text_named s) (times_named s n (Named None) refl))
        by_target (Some place) ih = by_entry (entry_at s place) ih
