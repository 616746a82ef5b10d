-- The bases of a unit, and what they are needed for.
use Rattle.std.specs.Prelude.{◌==◌, ◌&&◌, ◌||◌, ℕ, Bool, List, is_some}
use Rattle.table_core.specs.declared.form.TheConstants.{DW_FORM_sec_offset, DW_FORM_loclistx, DW_FORM_rnglistx}
use Rattle.table_core.specs.AttributeForms.{is_block, is_address_index, is_text_index}
use Rattle.dw_unit.specs.declared.attribute.TheConstants.{DW_AT_addr_base, DW_AT_ranges, DW_AT_str_offsets_base}
use Rattle.dw_unit.specs.declared.attribute.TheConstants.{DW_AT_rnglists_base, DW_AT_loclists_base}
use Rattle.dw_unit.specs.declared.bases.Bases.{Bases}
use Rattle.dw_unit.specs.declared.entry.Attr.{Attr}
use Rattle.dw_unit.specs.CompUnits.{Unit, base, address_at}
use Rattle.dw_unit.specs.Faults.{implies, is_located}

-- The bases in a unit's own entry.
abbrev pub bases_of : Unit → Bases
bases_of u = record {
  addr = base DW_AT_addr_base u;
  str_offsets = base DW_AT_str_offsets_base u;
  rnglists = base DW_AT_rnglists_base u;
  loclists = base DW_AT_loclists_base u;
}

-- An attribute whose form is an index has the table that it needs.
abbrev pub has_table : List ℕ → Unit → Attr → Bool
has_table addr u a =
    implies (is_text_index a.form) (is_some (base DW_AT_str_offsets_base u))
    && implies (is_address_index a.form) (is_some (address_at addr u a.value))
    && implies (a.form == DW_FORM_loclistx) (is_some (base DW_AT_loclists_base u))
    && implies (a.form == DW_FORM_rnglistx) (is_some (base DW_AT_rnglists_base u))

-- Ranges, expressions and bases have the forms that are read.
abbrev pub has_form : Attr → Bool
has_form a =
    implies (is_located a.name) (is_block a.form || a.form == DW_FORM_sec_offset || a.form == DW_FORM_loclistx)
    && implies (a.name == DW_AT_ranges) (a.form == DW_FORM_sec_offset || a.form == DW_FORM_rnglistx)
    && implies (a.name == DW_AT_rnglists_base || a.name == DW_AT_loclists_base) (a.form == DW_FORM_sec_offset)
