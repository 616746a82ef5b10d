-- The names of entries. DWARF 5, sections 2.15, 3.3.8, 7.5.5 and 7.26.
use Rattle.std.specs.Prelude.{◌+◌, ◌-◌, ◌*◌, ◌==◌, ◌&&◌, ℕ, zero, suc, List, codes, nat_le, take, if◌then◌else◌, Option}
use Rattle.std.specs.Prelude.{Some, None, option_and_then}
use Rattle.std.specs.List.{find}
use Rattle.std.specs.Option.{option_or}
use Rattle.elf_image.specs.declared.elf.Elf.{Elf}
use Rattle.table_core.specs.declared.form.TheConstants.{DW_FORM_string, DW_FORM_strp, DW_FORM_line_strp}
use Rattle.table_core.specs.declared.form.TheConstants.{DW_FORM_ref_addr, DW_FORM_ref_udata}
use Rattle.table_core.specs.AttributeForms.{is_text_index}
use Rattle.table_core.specs.Texts.{text_in}
use Rattle.table_core.specs.Sections.{bytes_of}
use Rattle.dw_unit.specs.declared.attribute.TheConstants.{DW_AT_name, DW_AT_abstract_origin, DW_AT_specification}
use Rattle.dw_unit.specs.declared.attribute.TheConstants.{DW_AT_str_offsets_base}
use Rattle.dw_unit.specs.declared.entry.Attr.{Attr}
use Rattle.dw_unit.specs.CompUnits.{Entry, Unit, Sections, units, entries, attr, base, number_in, value_bytes}
use Rattle.dw_unit.specs.Tables.{sections_of}

-- The sections that names are read from.
pub record NameSections : Type 0 where
  pub units : Sections
  pub str : List ℕ
  pub line_str : List ℕ
  pub str_offsets : List ℕ

-- The sections of a file that names are read from.
abbrev pub name_sections : Elf → NameSections
name_sections elf = record {
  units = sections_of elf;
  str = bytes_of elf (codes ".debug_str");
  line_str = bytes_of elf (codes ".debug_line_str");
  str_offsets = bytes_of elf (codes ".debug_str_offsets");
}

-- The unit of an entry.
abbrev pub unit_of_entry : NameSections → Entry → Option Unit
unit_of_entry s e = find (λ (u : Unit). u.place == e.unit) (units s.units)

-- The text with an index: the table of four-byte offsets begins at the unit's base.
abbrev pub text_of_index : NameSections → Entry → ℕ → Option (List ℕ)
text_of_index s e index =
    option_and_then
    (λ u. option_and_then (λ b. option_and_then (text_in s.str) (number_in 4 (b + 4 * index) s.str_offsets))
    (base DW_AT_str_offsets_base u))
    (unit_of_entry s e)

-- A text in the entry itself ends with a zero byte.
abbrev pub text_of : NameSections → Entry → Attr → Option (List ℕ)
text_of s e a =
    if a.form == DW_FORM_string then Some (take (a.len - 1) (value_bytes s.units.info a))
    else (if a.form == DW_FORM_strp then text_in s.str a.value
    else (if a.form == DW_FORM_line_strp then text_in s.line_str a.value
    else (if is_text_index a.form then text_of_index s e a.value else None)))

-- The offset that a reference gives: in the section, or from the unit's start.
abbrev pub target_of : Entry → Attr → Option ℕ
target_of e a =
    if a.form == DW_FORM_ref_addr then Some a.value
    else (if nat_le DW_FORM_ref_addr a.form && nat_le a.form DW_FORM_ref_udata then Some (e.unit + a.value) else None)

-- The entry that this one is an instance of (DW_AT_abstract_origin), or that it completes (DW_AT_specification).
abbrev pub referred : NameSections → Entry → Option Entry
referred s e = option_and_then (λ place. find (λ (x : Entry). x.place == place) (entries s.units))
    (option_and_then (target_of e) (option_or (attr DW_AT_abstract_origin e) (attr DW_AT_specification e)))

-- The entry's own name, or `more`, the name of the entry that it refers to. An own name that can't be read is none.
abbrev pub own_name_or : NameSections → Entry → Option Attr → Option (List ℕ) → Option (List ℕ)
own_name_or s e (Some a) more = text_of s e a
own_name_or s e None more = more

-- The entry's own name, or `more`.
abbrev pub name_or : NameSections → Entry → Option (List ℕ) → Option (List ℕ)
name_or s e more = own_name_or s e (attr DW_AT_name e) more

-- The name of an entry, found through at most `n` references.
abbrev pub name_within : NameSections → ℕ → Entry → Option (List ℕ)
name_within s zero e = name_or s e None
name_within s (suc n) e = name_or s e (option_and_then (name_within s n) (referred s e))

-- The limit of references in a row.
abbrev pub reference_limit : ℕ
reference_limit = 16

-- The name of an entry, if it has one.
abbrev pub name_of : NameSections → Entry → Option (List ℕ)
name_of s e = name_within s reference_limit e
