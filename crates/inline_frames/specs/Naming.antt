-- How names are found by following references, one after another.
use Rattle.std.specs.Prelude.{◌+◌, ◌-◌, ◌*◌, ◌==◌, ◌&&◌, ℕ, zero, suc, List, drop, nat_le, take, if◌then◌else◌, Option}
use Rattle.std.specs.Prelude.{Some, None, option_and_then, option_map}
use Rattle.std.specs.List.{find}
use Rattle.std.specs.Option.{option_or}
use Rattle.table_core.specs.declared.form.TheConstants.{DW_FORM_string, DW_FORM_strp, DW_FORM_line_strp}
use Rattle.table_core.specs.declared.form.TheConstants.{DW_FORM_ref_addr, DW_FORM_ref_udata}
use Rattle.table_core.specs.AttributeForms.{is_text_index}
use Rattle.table_core.specs.Texts.{text_in}
use Rattle.dw_unit.specs.declared.attribute.TheConstants.{DW_AT_name, DW_AT_abstract_origin, DW_AT_specification}
use Rattle.dw_unit.specs.declared.attribute.TheConstants.{DW_AT_str_offsets_base}
use Rattle.dw_unit.specs.declared.entry.Attr.{Attr}
use Rattle.dw_unit.specs.CompUnits.{Entry, base, entries, number_in}
use Rattle.inline_frames.specs.Names.{NameSections, unit_of_entry}
use Rattle.inline_frames.specs.declared.naming.Naming.{Naming}
use Rattle.inline_frames.specs.declared.naming.Naming.TheVariants.{Named, Refers}
use Rattle.inline_frames.specs.declared.naming.TextPlace.{TextPlace}
use Rattle.inline_frames.specs.declared.naming.TextPlace.TheVariants.{InInfo, InStr, InLineStr}

-- The first attribute with a name.
abbrev pub attr_in : ℕ → List Attr → Option Attr
attr_in name attrs = find (λ (a : Attr). a.name == name) attrs

-- Where the text of an attribute is, by the base of its unit's string offsets.
abbrev pub index_place : List ℕ → Option ℕ → ℕ → Option TextPlace
index_place str_offsets base index =
    option_map InStr (option_and_then (λ b. number_in 4 (b + 4 * index) str_offsets) base)

-- Where the text of an attribute is, by its form.
abbrev pub text_place : List ℕ → Option ℕ → Attr → Option TextPlace
text_place str_offsets base a =
    if a.form == DW_FORM_string then Some (InInfo a.place (a.len - 1))
    else (if a.form == DW_FORM_strp then Some (InStr a.value)
    else (if a.form == DW_FORM_line_strp then Some (InLineStr a.value)
    else (if is_text_index a.form then index_place str_offsets base a.value else None)))

-- The offset of the entry to which the attribute `a` refers, in an entry of the unit at offset `unit`.
abbrev pub target_by : ℕ → Attr → Option ℕ
target_by unit a =
    if a.form == DW_FORM_ref_addr then Some a.value
    else (if nat_le DW_FORM_ref_addr a.form && nat_le a.form DW_FORM_ref_udata then Some (unit + a.value) else None)

-- The attribute that refers to another entry for the name.
abbrev pub reference_in : List Attr → Option Attr
reference_in attrs = option_or (attr_in DW_AT_abstract_origin attrs) (attr_in DW_AT_specification attrs)

-- The entry's own name, or the entry that it refers to.
abbrev pub naming_by : List ℕ → Option ℕ → Option Attr → Option ℕ → Naming
naming_by str_offsets base (Some a) target = Named (text_place str_offsets base a)
naming_by str_offsets base None (Some place) = Refers place
naming_by str_offsets base None None = Named None

-- How the name of an entry with these attributes is found.
abbrev pub naming_in : List ℕ → Option ℕ → (unit : ℕ) → List Attr → Naming
naming_in str_offsets base unit attrs =
    naming_by str_offsets base (attr_in DW_AT_name attrs) (option_and_then (target_by unit) (reference_in attrs))

-- Namings in a file

-- How the name of an entry of a file is found.
abbrev pub naming_of : NameSections → Entry → Naming
naming_of s e =
    naming_in s.str_offsets (option_and_then (base DW_AT_str_offsets_base) (unit_of_entry s e)) e.unit e.attrs

-- The text at a place.
abbrev pub text_at_place : NameSections → TextPlace → Option (List ℕ)
text_at_place s (InInfo place len) = Some (take len (drop place s.units.info))
text_at_place s (InStr offset) = text_in s.str offset
text_at_place s (InLineStr offset) = text_in s.line_str offset

-- The naming, or no name.
abbrev pub naming_or_none : Option Naming → Naming
naming_or_none (Some n) = n
naming_or_none None = Named None

-- The entry at an offset.
abbrev pub entry_at : NameSections → ℕ → Option Entry
entry_at s place = find (λ (x : Entry). x.place == place) (entries s.units)

-- A naming with its reference followed once.
abbrev pub followed : NameSections → Naming → Naming
followed s (Named t) = Named t
followed s (Refers place) = naming_or_none (option_map (naming_of s) (entry_at s place))

-- The text of a naming that isn't a reference.
abbrev pub text_named : NameSections → Naming → Option (List ℕ)
text_named s (Named t) = option_and_then (text_at_place s) t
text_named s (Refers place) = None

-- A naming with `k` references followed.
abbrev pub followed_times : NameSections → ℕ → Naming → Naming
followed_times s zero n = n
followed_times s (suc k) n = followed_times s k (followed s n)
