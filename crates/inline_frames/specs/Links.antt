-- The fields that are kept of the entries of functions.
use Rattle.std.specs.Prelude.{◌==◌, ◌||◌, ℕ, List, if◌then◌else◌, Option, Some, None, option_and_then, option_map}
use Rattle.answer_runs.specs.Choices.{first_of}
use Rattle.table_core.specs.declared.form.TheConstants.{DW_FORM_addr, DW_FORM_sec_offset}
use Rattle.table_core.specs.declared.written.TheConstants.{DW_AT_stmt_list}
use Rattle.table_core.specs.AttributeForms.{is_address_index}
use Rattle.dw_unit.specs.declared.attribute.TheConstants.{DW_AT_call_file, DW_AT_call_line, DW_AT_call_column}
use Rattle.dw_unit.specs.declared.attribute.TheConstants.{DW_AT_str_offsets_base}
use Rattle.dw_unit.specs.declared.entry.Attr.{Attr}
use Rattle.dw_unit.specs.CompUnits.{Entry}
use Rattle.dw_unit.specs.ListedEntries.{ListedEntry}
use Rattle.inline_frames.specs.Frames.{named_line_unit, unsigned_of}
use Rattle.inline_frames.specs.Names.{NameSections}
use Rattle.inline_frames.specs.Naming.{attr_in, naming_in, naming_of}
use Rattle.inline_frames.specs.declared.link.Link.{Link}
use Rattle.inline_frames.specs.declared.link.OwnSays.{OwnSays}

-- An attribute's number, unless its form is an address.
abbrev pub unsigned_in : ℕ → List Attr → Option ℕ
unsigned_in name attrs =
    option_and_then (λ (a : Attr). if a.form == DW_FORM_addr || is_address_index a.form then None else Some a.value)
    (attr_in name attrs)

-- The value of an attribute.
abbrev pub value_in : ℕ → List Attr → Option ℕ
value_in name attrs = option_map (λ (a : Attr). a.value) (attr_in name attrs)

-- The offset of the line number program in DW_AT_stmt_list.
abbrev pub line_unit_in : List Attr → Option ℕ
line_unit_in attrs =
    option_and_then (λ (a : Attr). if a.form == DW_FORM_sec_offset then Some a.value else None)
    (attr_in DW_AT_stmt_list attrs)

-- The fields of a unit's own entry.
abbrev pub says_of : Option ListedEntry → OwnSays
says_of (Some e) = record { text_base = value_in DW_AT_str_offsets_base e.attrs; line_unit = line_unit_in e.attrs }
says_of None = record { text_base = None; line_unit = None }

-- The fields of the first entry of a unit.
abbrev pub own_says : List ListedEntry → OwnSays
own_says es = says_of (first_of es)

-- The fields of a listed entry.
abbrev pub listed_link : List ℕ → OwnSays → ListedEntry → Link
listed_link str_offsets own e = record {
  naming = naming_in str_offsets own.text_base e.unit e.attrs;
  file = unsigned_in DW_AT_call_file e.attrs;
  line = unsigned_in DW_AT_call_line e.attrs;
  column = unsigned_in DW_AT_call_column e.attrs;
  line_unit = own.line_unit;
}

-- The fields of an entry of a file.
abbrev pub link_of : NameSections → Entry → Link
link_of s e = record {
  naming = naming_of s e;
  file = unsigned_of DW_AT_call_file e;
  line = unsigned_of DW_AT_call_line e;
  column = unsigned_of DW_AT_call_column e;
  line_unit = named_line_unit s e;
}
