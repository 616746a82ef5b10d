-- The debug data on which chains of inlined calls depend, and which a written file keeps: units and entries pair by pair, the texts of
-- names, and the files of line number programs.
use Rattle.std.specs.Prelude.{◌≡◌, ◌==◌, ◌&&◌, ℕ, false, true, not, List, [], ◌∷◌, Option, option_map}
use Rattle.std.specs.List.{AllZip, list_any}
use Rattle.std.proofs.lemmas.Bool.{or_parts}
use Rattle.elf_image.specs.declared.elf.Elf.{Elf}
use Rattle.answer_runs.specs.CarriedAnswers.{Agree}
use Rattle.table_core.specs.declared.form.TheConstants.{DW_FORM_addr, DW_FORM_string, DW_FORM_sec_offset}
use Rattle.table_core.specs.declared.written.TheConstants.{DW_AT_stmt_list}
use Rattle.dw_unit.specs.declared.entry.Attr.{Attr}
use Rattle.dw_unit.specs.declared.attribute.TheConstants as at
use Rattle.dw_unit.specs.declared.attribute.TheConstants.{DW_AT_str_offsets_base}
use Rattle.dw_unit.specs.Changes.{names_base}
use Rattle.dw_unit.specs.CompUnits.{Entry, Unit, units, attr, base, own_entry, value_bytes}
use Rattle.line_rewrite.specs.FilePaths.{line_unit_at}
use Rattle.line_rewrite.specs.KeptLineUnits.{Files, files_of}
use Rattle.line_rewrite.specs.Tables.{line, line_sections}
use Rattle.range_loc_rewrite.specs.Tables.{list_sections}
use Rattle.inline_frames.specs.Names.{name_sections}
use Rattle.inline_frames.specs.Chains.{is_function_at}

-- A name that no rewrite changes or adds.
pub record IsStable (name : ℕ) : Type 0 where
  pub low : (at.DW_AT_low_pc == name) ≡ false
  pub high : (at.DW_AT_high_pc == name) ≡ false
  pub entry : (at.DW_AT_entry_pc == name) ≡ false
  pub ranges : (at.DW_AT_ranges == name) ≡ false
  pub macros : (at.DW_AT_macros == name) ≡ false
  pub views : (at.DW_AT_GNU_locviews == name) ≡ false
  pub unused_high : (at.DW_AT_unused_high == name) ≡ false
  pub unused_low : (at.DW_AT_unused_low == name) ≡ false
  pub unused_table : (at.DW_AT_unused_table == name) ≡ false

-- Such a name whose attribute gets no list.
pub record IsPlain (name : ℕ) : Type 0 where
  pub stable : IsStable name
  pub stmt : (DW_AT_stmt_list == name) ≡ false
  pub location : (at.DW_AT_location == name) ≡ false
  pub frame_base : (at.DW_AT_frame_base == name) ≡ false
  pub rnglists : (at.DW_AT_rnglists_base == name) ≡ false
  pub loclists : (at.DW_AT_loclists_base == name) ≡ false

-- The names that a rewrite changes or adds, and those whose attributes get lists.
abbrev pub changed_names : List ℕ
changed_names = at.DW_AT_low_pc ∷ at.DW_AT_high_pc ∷ at.DW_AT_entry_pc ∷ at.DW_AT_ranges ∷ at.DW_AT_macros ∷ at.DW_AT_GNU_locviews
    ∷ at.DW_AT_unused_high ∷ at.DW_AT_unused_low ∷ at.DW_AT_unused_table ∷ []

abbrev pub listed_names : List ℕ
listed_names = DW_AT_stmt_list ∷ at.DW_AT_location ∷ at.DW_AT_frame_base ∷ at.DW_AT_rnglists_base ∷ at.DW_AT_loclists_base ∷ []

pub stable_name : (name : ℕ) → list_any (λ x. x == name) changed_names ≡ false → IsStable name
stable_name name other =
    let low = or_parts (at.DW_AT_low_pc == name) _ other in
    let high = or_parts (at.DW_AT_high_pc == name) _ low.1 in
    let entry = or_parts (at.DW_AT_entry_pc == name) _ high.1 in
    let ranges = or_parts (at.DW_AT_ranges == name) _ entry.1 in
    let macros = or_parts (at.DW_AT_macros == name) _ ranges.1 in
    let views = or_parts (at.DW_AT_GNU_locviews == name) _ macros.1 in
    let unused_high = or_parts (at.DW_AT_unused_high == name) _ views.1 in
    let unused_low = or_parts (at.DW_AT_unused_low == name) _ unused_high.1 in
    let unused_table = or_parts (at.DW_AT_unused_table == name) _ unused_low.1 in
    record {
      low = low.0;
      high = high.0;
      entry = entry.0;
      ranges = ranges.0;
      macros = macros.0;
      views = views.0;
      unused_high = unused_high.0;
      unused_low = unused_low.0;
      unused_table = unused_table.0;
    }

pub plain_name : (name : ℕ) → list_any (λ x. x == name) changed_names ≡ false → list_any (λ x. x == name) listed_names ≡ false →
    IsPlain name
plain_name name other unlisted =
    let stmt = or_parts (DW_AT_stmt_list == name) _ unlisted in
    let location = or_parts (at.DW_AT_location == name) _ stmt.1 in
    let frame_base = or_parts (at.DW_AT_frame_base == name) _ location.1 in
    let rnglists = or_parts (at.DW_AT_rnglists_base == name) _ frame_base.1 in
    let loclists = or_parts (at.DW_AT_loclists_base == name) _ rnglists.1 in
    record {
      stable = stable_name name other;
      stmt = stmt.0;
      location = location.0;
      frame_base = frame_base.0;
      rnglists = rnglists.0;
      loclists = loclists.0;
    }

-- An attribute with such a name is kept, unless it is the address of an instruction. A text in the entry is kept too: `i` and `f` are the
-- bytes of `.debug_info`.
pub record IsKeptAttr (i f : List ℕ) (a b : Attr) : Type 0 where
  pub form : b.form ≡ a.form
  pub len : b.len ≡ a.len
  pub value : (a.form == DW_FORM_addr && not (names_base a.name)) ≡ false → b.value ≡ a.value
  pub text : (a.form == DW_FORM_string) ≡ true → value_bytes f b ≡ value_bytes i a

pub record IsKeptEntry (i f : List ℕ) (old new : Entry) : Type 0 where
  pub place : new.place ≡ old.place
  pub unit : new.unit ≡ old.unit
  pub depth : new.depth ≡ old.depth
  pub tag : new.declaration.tag ≡ old.declaration.tag
  pub attrs : (name : ℕ) → IsPlain name → Agree (IsKeptAttr i f) (attr name old) (attr name new)

-- The files of the line number program at an offset.
abbrev pub files_at : Elf → ℕ → Option Files
files_at elf offset = option_map files_of (line_unit_at (line_sections elf) offset)

-- They refer to line number programs with the same files.
pub record NamesSameFiles (i f : Elf) (a b : Attr) : Type 0 where
  pub form : b.form ≡ a.form
  pub files : (a.form == DW_FORM_sec_offset) ≡ true → files_at f b.value ≡ files_at i a.value

-- The fields of a unit's own entry are kept.
pub record IsKeptOwn (i f : Elf) (old new : Entry) : Type 0 where
  pub line : Agree (NamesSameFiles i f) (attr DW_AT_stmt_list old) (attr DW_AT_stmt_list new)

pub record IsKeptUnit (i f : Elf) (u v : Unit) : Type 0 where
  pub place : v.place ≡ u.place
  pub text_base : base DW_AT_str_offsets_base v ≡ base DW_AT_str_offsets_base u
  pub own : Agree (IsKeptOwn i f) (own_entry u) (own_entry v)
  pub entries : AllZip (IsKeptEntry (name_sections i).units.info (name_sections f).units.info) u.entries v.entries

-- An entry contains the byte `p` in the written file if it contained the owner `o` in the input.
pub record IsCarriedEntry (i f : Elf) (p o : ℕ) (u v : Unit) (old new : Entry) : Type 0 where
  pub kept : IsKeptEntry (name_sections i).units.info (name_sections f).units.info old new
  pub held : is_function_at (list_sections f) p v new ≡ is_function_at (list_sections i) o u old

pub record IsCarriedUnit (i f : Elf) (p o : ℕ) (u v : Unit) : Type 0 where
  pub kept : IsKeptUnit i f u v
  pub entries : AllZip (IsCarriedEntry i f p o u v) u.entries v.entries

-- All that a chain at `p` depends on.
pub record IsChainKept (i f : Elf) (p o : ℕ) : Type 0 where
  pub units : AllZip (IsCarriedUnit i f p o) (units (name_sections i).units) (units (name_sections f).units)
  pub str : (name_sections f).str ≡ (name_sections i).str
  pub line_str : (name_sections f).line_str ≡ (name_sections i).line_str
  pub str_offsets : (name_sections f).str_offsets ≡ (name_sections i).str_offsets
  pub line_is : line f p ≡ line i o
