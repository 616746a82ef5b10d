-- The frames of an address: the name of each function of its chain, and where control is in it. DWARF 5, section
-- 3.3.8.2.
use Rattle.std.specs.Prelude.{◌==◌, ◌||◌, ℕ, List, [], ◌∷◌, ◌++◌, flat_map, codes, decimal, if◌then◌else◌, unwrap_or}
use Rattle.std.specs.Prelude.{Option, Some, None, option_map, option_and_then}
use Rattle.elf_image.specs.declared.elf.Elf.{Elf}
use Rattle.table_core.specs.declared.form.TheConstants.{DW_FORM_addr, DW_FORM_sec_offset}
use Rattle.table_core.specs.AttributeForms.{is_address_index}
use Rattle.table_core.specs.Texts.{or_none}
use Rattle.table_core.specs.declared.written.TheConstants.{DW_AT_stmt_list}
use Rattle.dw_unit.specs.declared.attribute.TheConstants.{DW_AT_call_file, DW_AT_call_line, DW_AT_call_column}
use Rattle.dw_unit.specs.declared.entry.Attr.{Attr}
use Rattle.dw_unit.specs.CompUnits.{Entry, attr, own_entry}
use Rattle.line_rewrite.specs.FilePaths.{path_at}
use Rattle.line_rewrite.specs.LineAnswers.{RowSaid, LineSaid}
use Rattle.line_rewrite.specs.Tables.{line_sections, line}
use Rattle.range_loc_rewrite.specs.Tables.{list_sections}
use Rattle.inline_frames.specs.Names.{NameSections, name_sections, name_of, unit_of_entry}
use Rattle.inline_frames.specs.Chains.{chain}

-- A function's name, and the position in it.
pub record Frame : Type 0 where
  pub name : List ℕ
  pub path : List ℕ
  pub line : ℕ
  pub column : ℕ

-- A name or a path, or `?` if there is none.
abbrev pub or_unknown : Option (List ℕ) → List ℕ
or_unknown text = unwrap_or text (codes "?")

-- The position in the innermost function: the last row in force.

-- The last of the rows.
abbrev pub last_row : List RowSaid → Option RowSaid
last_row [] = None
last_row (r ∷ []) = Some r
last_row (r ∷ (s ∷ rows)) = last_row (s ∷ rows)

-- The last row in force at an address.
abbrev pub row_of : Elf → ℕ → Option RowSaid
row_of elf a = option_and_then (λ (l : LineSaid). last_row l.rows) (line elf a)

-- An attribute's number, unless its form is an address. The position in a function with an inlined call is that call.

abbrev pub unsigned_of : ℕ → Entry → Option ℕ
unsigned_of name e =
    option_and_then (λ (a : Attr). if a.form == DW_FORM_addr || is_address_index a.form then None else Some a.value)
    (attr name e)

-- The offset of the line number program that the unit's own entry refers to.
abbrev pub named_line_unit : NameSections → Entry → Option ℕ
named_line_unit s e =
    option_and_then (λ (a : Attr). if a.form == DW_FORM_sec_offset then Some a.value else None)
    (option_and_then (attr DW_AT_stmt_list) (option_and_then own_entry (unit_of_entry s e)))

-- The path of the file in which an inlined function is called.
abbrev pub call_path : Elf → Entry → Option (List ℕ)
call_path elf e =
    option_and_then (λ offset. option_and_then (path_at (line_sections elf) offset) (unsigned_of DW_AT_call_file e))
    (named_line_unit (name_sections elf) e)

-- The frame of the innermost function: the position is the row in force.
abbrev pub frame_at_row : Elf → ℕ → Entry → Frame
frame_at_row elf a e = record {
  name = or_unknown (name_of (name_sections elf) e);
  path = or_unknown (option_map (λ (r : RowSaid). r.path) (row_of elf a));
  line = unwrap_or (option_map (λ (r : RowSaid). r.line) (row_of elf a)) 0;
  column = unwrap_or (option_map (λ (r : RowSaid). r.column) (row_of elf a)) 0;
}

-- The frame of an entry, at the call of the function inlined in it.
abbrev pub frame_at_call : Elf → Entry → Entry → Frame
frame_at_call elf inlined e = record {
  name = or_unknown (name_of (name_sections elf) e);
  path = or_unknown (call_path elf inlined);
  line = unwrap_or (unsigned_of DW_AT_call_line inlined) 0;
  column = unwrap_or (unsigned_of DW_AT_call_column inlined) 0;
}

-- The frames of the functions around an inlined one, each at the call of the one before.
abbrev pub callers : Elf → Entry → List Entry → List Frame
callers elf inlined [] = []
callers elf inlined (e ∷ es) = frame_at_call elf inlined e ∷ callers elf e es

-- The frames of a chain.
abbrev pub frames_of : Elf → ℕ → List Entry → List Frame
frames_of elf a [] = []
frames_of elf a (e ∷ es) = frame_at_row elf a e ∷ callers elf e es

-- The frames at an address of a file.
abbrev pub frames : Elf → ℕ → List Frame
frames elf a = frames_of elf a (chain (list_sections elf) a)

-- The line that is printed for a frame.
abbrev pub frame_line : Frame → List ℕ
frame_line f = f.name ++ codes " " ++ f.path ++ codes ":" ++ decimal f.line ++ codes ":" ++ decimal f.column
    ++ codes "\n"

-- A line for each frame, or a line that says that there is none.
abbrev pub frames_text : Elf → ℕ → List ℕ
frames_text elf a = or_none (flat_map frame_line (frames elf a))
