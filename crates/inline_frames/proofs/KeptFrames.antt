-- The law: the frames of a byte of the written file are those of its owner in the input.
use Rattle.std.proofs.Common.{◌≡◌, ◌∙◌, ℕ, Bool, true, false, List, [], ◌∷◌, Option, Some, None, refl, sym, ap}
use Rattle.std.specs.Prelude.{◌==◌, ◌||◌, if◌then◌else◌, option_and_then, option_map, unwrap_or, slice_get}
use Rattle.std.specs.List.{AllZip}
use Rattle.elf_image.specs.declared.elf.Elf.{Elf}
use Rattle.answer_runs.specs.CarriedAnswers.{Agree}
use Rattle.table_core.specs.AttributeForms.{is_address_index}
use Rattle.table_core.specs.declared.form.TheConstants.{DW_FORM_addr, DW_FORM_sec_offset}
use Rattle.dw_unit.specs.declared.entry.Attr.{Attr}
use Rattle.table_core.specs.declared.written.TheConstants.{DW_AT_stmt_list}
use Rattle.dw_unit.specs.declared.attribute.TheConstants.{DW_AT_call_file, DW_AT_call_line, DW_AT_call_column}
use Rattle.dw_unit.specs.CompUnits.{Entry, Unit, units, attr, own_entry}
use Rattle.line_rewrite.specs.Entries.{path_of}
use Rattle.line_rewrite.specs.LineUnits.{LineUnit}
use Rattle.line_rewrite.specs.LineAnswers.{LineSaid, RowSaid}
use Rattle.line_rewrite.specs.Tables.{line_sections}
use Rattle.range_loc_rewrite.specs.Tables.{list_sections}
use Rattle.inline_frames.specs.Names.{name_sections, name_of, unit_of_entry}
use Rattle.inline_frames.specs.Chains.{chain, chain_in, last_chain, is_function_at}
use Rattle.inline_frames.specs.Frames.{Frame, frames, frames_of, callers, frame_at_row, frame_at_call, unsigned_of, call_path}
use Rattle.inline_frames.specs.Frames.{or_unknown, row_of, last_row}
use Rattle.line_rewrite.specs.FilePaths.{file_path, line_unit_at, path_at}
use Rattle.line_rewrite.specs.KeptLineUnits.{Files, files_of}
use Rattle.inline_frames.proofs.KeptChains.{IsKeptEntry, IsKeptUnit, IsKeptOwn, IsKeptAttr, NamesSameFiles, files_at}
use Rattle.inline_frames.proofs.KeptChains.{IsCarriedEntry, IsCarriedUnit, IsChainKept, plain_name}
use Rattle.inline_frames.proofs.Pairs.{map_each, then_each}
use Rattle.inline_frames.proofs.AlikeChains.{IsAlike, chain_in_each}
use Rattle.inline_frames.proofs.KeptNames.{AreNamesKept, name_each, unit_each, value_of}

abbrev Infos : Elf → Elf → Entry → Entry → Type 0
Infos i f = IsKeptEntry (name_sections i).units.info (name_sections f).units.info

-- Numbers of calls

abbrev number_by : ℕ → ℕ → Option ℕ
number_by form value = if form == DW_FORM_addr || is_address_index form then None else Some value

number_kept : (form n m : ℕ) → ((form == DW_FORM_addr) ≡ false → m ≡ n) → number_by form m ≡ number_by form n
number_kept form n m same = by (form == DW_FORM_addr) (is_address_index form) same
  where
    by : (b1 b2 : Bool) → (b1 ≡ false → m ≡ n) →
        (if b1 || b2 then None else Some m) ≡ (if b1 || b2 then None else Some n)
    by true b2 e = refl
    by false true e = refl
    by false false e = ap Some (e refl)

-- Frames, made from equal parts

abbrev made_at_row : Option (List ℕ) → Option RowSaid → Frame
made_at_row n r = record {
  name = or_unknown n;
  path = or_unknown (option_map (λ (r : RowSaid). r.path) r);
  line = unwrap_or (option_map (λ (r : RowSaid). r.line) r) 0;
  column = unwrap_or (option_map (λ (r : RowSaid). r.column) r) 0;
}

abbrev made_at_call : Option (List ℕ) → Option (List ℕ) → Option ℕ → Option ℕ → Frame
made_at_call n q l k = record { name = or_unknown n; path = or_unknown q; line = unwrap_or l 0; column = unwrap_or k 0 }

module _ (i f : Elf) (p o : ℕ) (kept : IsChainKept i f p o) where
  units_kept : AllZip (IsKeptUnit i f) (units (name_sections i).units) (units (name_sections f).units)
  units_kept = map_each (IsCarriedUnit i f p o) (IsKeptUnit i f) (λ u v h. h.kept) (units (name_sections i).units)
      (units (name_sections f).units) kept.units

  names_kept : AreNamesKept i f
  names_kept = record { units_are = units_kept; str = kept.str; line_str = kept.line_str; str_offsets = kept.str_offsets }

  -- A number of a call.
  unsigned_each : (name : ℕ) (x y : Entry) →
      Agree (IsKeptAttr (name_sections i).units.info (name_sections f).units.info) (attr name x) (attr name y) →
      unsigned_of name y ≡ unsigned_of name x
  unsigned_each name x y h = then_each (IsKeptAttr (name_sections i).units.info (name_sections f).units.info)
      (λ (a : Attr). number_by a.form a.value) (λ (a : Attr). number_by a.form a.value)
      (λ a b k. ap (λ n. number_by n b.value) k.form ∙ number_kept a.form a.value b.value (value_of _ _ a b k)) (attr name x)
      (attr name y) h

  -- The files of a unit.

  abbrev files_named : Elf → Attr → Option Files
  files_named elf a = option_and_then (files_at elf) (if a.form == DW_FORM_sec_offset then Some a.value else None)

  named_each : (a b : Attr) → NamesSameFiles i f a b → files_named f b ≡ files_named i a
  named_each a b h =
      ap (λ n. option_and_then (files_at f) (if n == DW_FORM_sec_offset then Some b.value else None)) h.form
      ∙ by (a.form == DW_FORM_sec_offset) h.files
    where
      by : (t : Bool) → (t ≡ true → files_at f b.value ≡ files_at i a.value) →
          option_and_then (files_at f) (if t then Some b.value else None)
          ≡ option_and_then (files_at i) (if t then Some a.value else None)
      by true e = e refl
      by false e = refl

  -- The chain.

  last_each : (us vs : List Unit) → AllZip (IsCarriedUnit i f p o) us vs → (found found' : List Entry) →
      AllZip (Infos i f) found found' →
      AllZip (Infos i f) (last_chain (list_sections i) o found us) (last_chain (list_sections f) p found' vs)
  last_each [] [] h found found' hf = hf
  last_each [] (v ∷ vs) h found found' hf = absurd h
  last_each (u ∷ us) [] h found found' hf = absurd h
  last_each (u ∷ us) (v ∷ vs) h found found' hf = last_each us vs h.1
      (chain_in (is_function_at (list_sections i) o u) found [] u.entries)
      (chain_in (is_function_at (list_sections f) p v) found' [] v.entries)
      (chain_in_each (is_function_at (list_sections i) o u) (is_function_at (list_sections f) p v) (Infos i f) found found' hf
      [] [] tt u.entries v.entries
      (map_each (IsCarriedEntry i f p o u v)
      (IsAlike (is_function_at (list_sections i) o u) (is_function_at (list_sections f) p v) (Infos i f))
      (λ x y k. record { kept = k.kept; depth = k.kept.depth; tag = k.kept.tag; test = k.held }) u.entries v.entries
      h.0.entries))

  chain_each : AllZip (Infos i f) (chain (list_sections i) o) (chain (list_sections f) p)
  chain_each = last_each (units (name_sections i).units) (units (name_sections f).units) kept.units [] [] tt

  -- The path of a call.

  abbrev unit_files : Elf → Unit → Option Files
  unit_files elf u = option_and_then (λ e. option_and_then (files_named elf) (attr DW_AT_stmt_list e)) (own_entry u)

  unit_files_each : (u v : Unit) → IsKeptUnit i f u v → unit_files f v ≡ unit_files i u
  unit_files_each u v h = then_each (IsKeptOwn i f)
      (λ e. option_and_then (files_named i) (attr DW_AT_stmt_list e)) (λ e. option_and_then (files_named f) (attr DW_AT_stmt_list e))
      (λ x y k. then_each (NamesSameFiles i f) (files_named i) (files_named f) named_each (attr DW_AT_stmt_list x)
      (attr DW_AT_stmt_list y) k.line) (own_entry u) (own_entry v) h.own

  abbrev entry_files : Elf → Entry → Option Files
  entry_files elf e = option_and_then (unit_files elf) (unit_of_entry (name_sections elf) e)

  entry_files_each : (x y : Entry) → Infos i f x y → entry_files f y ≡ entry_files i x
  entry_files_each x y h = then_each (IsKeptUnit i f) (unit_files i) (unit_files f) unit_files_each
      (unit_of_entry (name_sections i) x) (unit_of_entry (name_sections f) y) (unit_each i f names_kept x y h.unit)

  -- The path of a call only depends on these files.
  abbrev path_by : Option Files → Option ℕ → Option (List ℕ)
  path_by u index = option_and_then (λ (u : Files). option_and_then (λ n. option_and_then (path_of u.directories)
      (slice_get u.files n)) index) u

  call_path_is : (elf : Elf) (e : Entry) → call_path elf e ≡ path_by (entry_files elf e) (unsigned_of DW_AT_call_file e)
  call_path_is elf e = by (unit_of_entry (name_sections elf) e)
    where
      with_unit : (index : Option ℕ) (u : Option LineUnit) →
          option_and_then (λ n. option_and_then (λ u. file_path u n) u) index ≡ path_by (option_map files_of u) index
      with_unit None None = refl
      with_unit None (Some u) = refl
      with_unit (Some n) None = refl
      with_unit (Some n) (Some u) = refl

      with_attr : (a : Option Attr) →
          option_and_then (λ offset. option_and_then (path_at (line_sections elf) offset) (unsigned_of DW_AT_call_file e))
          (option_and_then (λ (a : Attr). if a.form == DW_FORM_sec_offset then Some a.value else None) a)
          ≡ path_by (option_and_then (files_named elf) a) (unsigned_of DW_AT_call_file e)
      with_attr None = refl
      with_attr (Some a) = test (a.form == DW_FORM_sec_offset)
        where
          test : (t : Bool) →
              option_and_then (λ offset. option_and_then (path_at (line_sections elf) offset) (unsigned_of DW_AT_call_file e))
              (if t then Some a.value else None)
              ≡ path_by (option_and_then (files_at elf) (if t then Some a.value else None)) (unsigned_of DW_AT_call_file e)
          test true = with_unit (unsigned_of DW_AT_call_file e) (line_unit_at (line_sections elf) a.value)
          test false = refl

      with_own : (own : Option Entry) →
          option_and_then (λ offset. option_and_then (path_at (line_sections elf) offset) (unsigned_of DW_AT_call_file e))
          (option_and_then (λ (a : Attr). if a.form == DW_FORM_sec_offset then Some a.value else None)
          (option_and_then (attr DW_AT_stmt_list) own))
          ≡ path_by (option_and_then (λ e. option_and_then (files_named elf) (attr DW_AT_stmt_list e)) own)
          (unsigned_of DW_AT_call_file e)
      with_own None = refl
      with_own (Some own) = with_attr (attr DW_AT_stmt_list own)

      by : (u : Option Unit) →
          option_and_then (λ offset. option_and_then (path_at (line_sections elf) offset) (unsigned_of DW_AT_call_file e))
          (option_and_then (λ (a : Attr). if a.form == DW_FORM_sec_offset then Some a.value else None)
          (option_and_then (attr DW_AT_stmt_list) (option_and_then own_entry u)))
          ≡ path_by (option_and_then (unit_files elf) u) (unsigned_of DW_AT_call_file e)
      by None = refl
      by (Some u) = with_own (own_entry u)

  call_path_each : (x y : Entry) → Infos i f x y → call_path f y ≡ call_path i x
  call_path_each x y h = call_path_is f y
      ∙ ap (λ u. path_by u (unsigned_of DW_AT_call_file y)) (entry_files_each x y h)
      ∙ ap (λ n. path_by (entry_files i x) n) (unsigned_each DW_AT_call_file x y
      (h.attrs DW_AT_call_file (plain_name DW_AT_call_file refl refl)))
      ∙ sym (call_path_is i x)

  -- The frames.

  row_is : row_of f p ≡ row_of i o
  row_is = ap (λ l. option_and_then (λ (l : LineSaid). last_row l.rows) l) kept.line_is

  at_row_each : (x y : Entry) → Infos i f x y → frame_at_row f p y ≡ frame_at_row i o x
  at_row_each x y h = ap (λ r. made_at_row (name_of (name_sections f) y) r) row_is
      ∙ ap (λ n. made_at_row n (row_of i o)) (name_each i f names_kept x y h)

  at_call_each : (c d x y : Entry) → Infos i f c d → Infos i f x y → frame_at_call f d y ≡ frame_at_call i c x
  at_call_each c d x y hc h =
      ap (λ n. made_at_call n (call_path f d) (unsigned_of DW_AT_call_line d) (unsigned_of DW_AT_call_column d))
      (name_each i f names_kept x y h)
      ∙ ap (λ q. made_at_call (name_of (name_sections i) x) q (unsigned_of DW_AT_call_line d) (unsigned_of DW_AT_call_column d))
      (call_path_each c d hc)
      ∙ ap (λ n. made_at_call (name_of (name_sections i) x) (call_path i c) n (unsigned_of DW_AT_call_column d))
      (unsigned_each DW_AT_call_line c d (hc.attrs DW_AT_call_line (plain_name DW_AT_call_line refl refl)))
      ∙ ap (λ n. made_at_call (name_of (name_sections i) x) (call_path i c) (unsigned_of DW_AT_call_line c) n)
      (unsigned_each DW_AT_call_column c d (hc.attrs DW_AT_call_column (plain_name DW_AT_call_column refl refl)))

  callers_each : (c d : Entry) → Infos i f c d → (xs ys : List Entry) → AllZip (Infos i f) xs ys →
      callers f d ys ≡ callers i c xs
  callers_each c d hc [] [] h = refl
  callers_each c d hc [] (y ∷ ys) h = absurd h
  callers_each c d hc (x ∷ xs) [] h = absurd h
  callers_each c d hc (x ∷ xs) (y ∷ ys) h =
      ap (λ k. k ∷ callers f y ys) (at_call_each c d x y hc h.0)
      ∙ ap (λ ks. frame_at_call i c x ∷ ks) (callers_each x y h.0 xs ys h.1)

  frames_of_each : (xs ys : List Entry) → AllZip (Infos i f) xs ys → frames_of f p ys ≡ frames_of i o xs
  frames_of_each [] [] h = refl
  frames_of_each [] (y ∷ ys) h = absurd h
  frames_of_each (x ∷ xs) [] h = absurd h
  frames_of_each (x ∷ xs) (y ∷ ys) h =
      ap (λ k. k ∷ callers f y ys) (at_row_each x y h.0)
      ∙ ap (λ ks. frame_at_row i o x ∷ ks) (callers_each x y h.0 xs ys h.1)

  pub frames_are_kept : frames f p ≡ frames i o
  frames_are_kept = frames_of_each (chain (list_sections i) o) (chain (list_sections f) p) chain_each
