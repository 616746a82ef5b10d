-- If debug data is kept and answers are carried, the frames of a byte of the written file are those of its owner in the input.
use Rattle.std.proofs.Common.{◌≡◌, ◌≢◌, ◌∙◌, ℕ, Bool, true, false, List, [], ◌∷◌, Option, Some, None, refl, sym, ap, subst, arith}
use Rattle.std.specs.Prelude.{◌==◌, ◌&&◌, ◌||◌, not, codes, if◌then◌else◌, option_map, option_and_then, unwrap_or}
use Rattle.std.specs.List.{Contains, find}
use Rattle.rb_bytes.proofs.Members.{Contains-there}
use Rattle.std.proofs.lemmas.Bool.{eqb-true, eq-eqb}
use Rattle.rb_bytes.specs.FirstFault.{IsFree}
use Rattle.elf_image.specs.declared.elf.Elf.{Elf}
use Rattle.addr_map.specs.declared.span.Span.{Span}
use Rattle.answer_runs.specs.CarriedAnswers.{Agree}
use Rattle.table_core.specs.declared.form.TheConstants.{DW_FORM_addr, DW_FORM_sec_offset, DW_FORM_string}
use Rattle.table_core.specs.declared.written.ListAt.{ListAt}
use Rattle.table_core.specs.declared.written.TheConstants.{DW_AT_stmt_list}
use Rattle.dw_unit.specs.declared.attribute.TheConstants as at
use Rattle.dw_unit.specs.declared.attribute.TheConstants.{DW_AT_str_offsets_base}
use Rattle.dw_unit.specs.declared.entry.Attr.{Attr}
use Rattle.dw_unit.specs.ChangedEntries.{IsChangedEntry, IsChangedUnit}
use Rattle.dw_unit.specs.Changes.{is_first_of, is_own, names_base, new_address, new_list, new_value}
use Rattle.dw_unit.specs.CompUnits.{Entry, Unit, attr, base, own_entry, units}
use Rattle.dw_unit.specs.EntryMoves.{Moves, new_list_offset}
use Rattle.dw_unit.specs.Faults.{HasDwarfFault, is_located, unit_fault_places}
use Rattle.dw_unit.specs.Tables.{sections_of}
use Rattle.line_rewrite.specs.KeptLineUnits.{unit_number}
use Rattle.line_rewrite.specs.Tables.{line, line_fault, line_sections}
use Rattle.range_loc_rewrite.specs.Ranges.{covers, ranges_of}
use Rattle.range_loc_rewrite.specs.Located.{hold}
use Rattle.range_loc_rewrite.specs.Tables.{list_sections}
use Rattle.table_set.specs.AllAnswers.{AnswersCarried}
use Rattle.table_set.specs.KeptData.{IsDebugKept, new_line_offset}
use Rattle.inline_frames.specs.Frames.{frames}
use Rattle.inline_frames.specs.Names.{name_sections}
use Rattle.inline_frames.specs.declared.tag.TheConstants.{DW_TAG_subprogram, DW_TAG_inlined_subroutine}
use Rattle.inline_frames.proofs.ChangedAttrs.{IsChanged, KeepsText, find_kept, found_changed}
use Rattle.inline_frames.proofs.CoveredEntries.{Covered, all_covered}
use Rattle.inline_frames.proofs.KeptChains.{IsCarriedEntry, IsCarriedUnit, IsKeptAttr, IsKeptEntry, IsKeptOwn, IsKeptUnit}
use Rattle.inline_frames.proofs.KeptChains.{NamesSameFiles, plain_name, stable_name}
use Rattle.inline_frames.proofs.KeptFrames.{frames_are_kept}
use Rattle.inline_frames.proofs.LineFiles.{same_files}
use Rattle.inline_frames.proofs.Pairs.{AllOf, agree_to, first_each, map_each, with_all}

-- A text in an entry gets no new value.
no_new : (m : Moves) (own first : Bool) (e : Entry) (a : Attr) → (a.form == DW_FORM_string) ≡ true → new_value m own first e a ≡ None
no_new m own first e a is =
    ap (λ (form : ℕ). if form == DW_FORM_addr then new_address m own e a
    else (if form == DW_FORM_sec_offset then new_list m first e a else None)) (eqb-true a.form DW_FORM_string is)

differs : (a b : ℕ) → (a == b) ≡ false → a ≢ b
differs a b e same = let t : (a == b) ≡ true = eq-eqb a b same in absurd (cc)

all_among : {A : Type 0} (P : A → Type 0) (xs : List A) → ((x : A) → Contains xs x → P x) → AllOf P xs
all_among P [] h = tt
all_among P (x ∷ xs) h = (h x (0, omega arith, refl), all_among P xs (λ y c. h y (Contains-there x xs y c)))

-- The offset of a line number program.
named_value : (m : Moves) (own first : Bool) (e : Entry) (a : Attr) → (a.name == DW_AT_stmt_list) ≡ true →
    (a.form == DW_FORM_sec_offset) ≡ true → unwrap_or (new_value m own first e a) a.value ≡ new_line_offset m.lists a.value
named_value m own first e a named is =
    ap (λ (form : ℕ). unwrap_or (if form == DW_FORM_addr then new_address m own e a
    else (if form == DW_FORM_sec_offset then new_list m first e a else None)) a.value) (eqb-true a.form DW_FORM_sec_offset is)
    ∙ ap (λ (b : Bool). unwrap_or (if b then Some (new_line_offset m.lists a.value)
    else (if a.name == at.DW_AT_ranges || is_located a.name then new_list_offset m.lists e.place a.name
    else (if (a.name == at.DW_AT_rnglists_base || a.name == at.DW_AT_loclists_base) && first
    then new_list_offset m.lists e.place a.name else None))) a.value) named

found_name : (n : ℕ) (xs : List Attr) (a : Attr) → find (λ (x : Attr). x.name == n) xs ≡ Some a → (a.name == n) ≡ true
found_name n [] a e = absurd (cc)
found_name n (x ∷ xs) a e = by (x.name == n) refl e (found_name n xs a) where
  by : (b : Bool) → (x.name == n) ≡ b → (if b then Some x else find (λ (x : Attr). x.name == n) xs) ≡ Some a →
      (find (λ (x : Attr). x.name == n) xs ≡ Some a → (a.name == n) ≡ true) → (a.name == n) ≡ true
  by true t e more = let same : x ≡ a = cc in subst (λ (y : Attr). (y.name == n) ≡ true) same t
  by false t e more = more e

and_not : (b c : Bool) → c ≡ true → (b && not c) ≡ false
and_not true true e = refl
and_not false true e = refl
and_not b false e = absurd (cc)

module _ (spans : List Span) (lists : List ListAt) (i f : Elf) (kept : IsDebugKept spans lists i f)
    (sound_input : IsFree (HasDwarfFault (unit_fault_places (sections_of i))))
    (sound : IsFree (HasDwarfFault (unit_fault_places (sections_of f))))
    (lines_input : line_fault (line_sections i) ≡ None) (lines : line_fault (line_sections f) ≡ None) where
  abbrev Infos : Entry → Entry → Type 0
  Infos x y = IsKeptEntry (name_sections i).units.info (name_sections f).units.info x y

  abbrev Changed : Unit → Entry → Entry → Type 0
  Changed u x y = IsChangedEntry (sections_of i) (sections_of f).info kept.units.changed.moves (is_first_of u x) x y

  texts_of : (u : Unit) (x y : Entry) → Changed u x y → AllOf (KeepsText (sections_of i).info (sections_of f).info) x.attrs
  texts_of u x y h = all_among (KeepsText (sections_of i).info (sections_of f).info) x.attrs (λ a has is low.
      h.bytes a has (
        differs a.name at.DW_AT_high_pc low,
        no_new kept.units.changed.moves (is_own (sections_of i) x.declaration) (is_first_of u x) x a is,
      ))

  entry_kept : (u : Unit) (x y : Entry) → Changed u x y → Infos x y
  entry_kept u x y h = record {
    place = h.place;
    unit = h.unit;
    depth = h.depth;
    tag = h.tag;
    attrs = λ name plain. subst
        (λ (attrs : List Attr). Agree (IsKeptAttr (name_sections i).units.info (name_sections f).units.info) (attr name x)
        (find (λ (a : Attr). a.name == name) attrs)) (sym h.attrs)
        (find_kept kept.units.changed.moves (is_own (sections_of i) x.declaration) (is_first_of u x) x (sections_of i).info
        (sections_of f).info
        name plain x.attrs (texts_of u x y h));
  }

  base_of : (o q : Option Attr) → Agree (IsKeptAttr (name_sections i).units.info (name_sections f).units.info) o q →
      ((a : Attr) → o ≡ Some a → names_base a.name ≡ true) →
      option_map (λ (a : Attr). a.value) q ≡ option_map (λ (a : Attr). a.value) o
  base_of None None h is = refl
  base_of None (Some b) h is = absurd h
  base_of (Some a) None h is = absurd h
  base_of (Some a) (Some b) h is = ap (λ (n : ℕ). Some n) (h.value (and_not (a.form == DW_FORM_addr) (names_base a.name) (is a refl)))

  is_base : (e : Entry) (a : Attr) → attr DW_AT_str_offsets_base e ≡ Some a → names_base a.name ≡ true
  is_base e a is = ap names_base (eqb-true a.name DW_AT_str_offsets_base (found_name DW_AT_str_offsets_base e.attrs a is))

  text_base : (u v : Unit) → IsChangedUnit (sections_of i) (sections_of f).info kept.units.changed.moves u v →
      base DW_AT_str_offsets_base v ≡ base DW_AT_str_offsets_base u
  text_base u v h = by (own_entry u) (own_entry v) (first_each (Changed u) u.entries v.entries h.entries)
    where
      by : (o q : Option Entry) → Agree (Changed u) o q →
          option_map (λ (a : Attr). a.value) (option_and_then (attr DW_AT_str_offsets_base) q)
          ≡ option_map (λ (a : Attr). a.value) (option_and_then (attr DW_AT_str_offsets_base) o)
      by None None k = refl
      by None (Some y) k = absurd k
      by (Some x) None k = absurd k
      by (Some x) (Some y) k = base_of (attr DW_AT_str_offsets_base x) (attr DW_AT_str_offsets_base y)
          ((entry_kept u x y k).attrs DW_AT_str_offsets_base (plain_name DW_AT_str_offsets_base refl refl)) (is_base x)

  -- The line number program of a unit's own entry.
  names_same : (own first : Bool) (e : Entry) (a b : Attr) →
      IsChanged kept.units.changed.moves own first e (sections_of i).info (sections_of f).info DW_AT_stmt_list a b → NamesSameFiles i f a b
  names_same own first e a b h = record {
    form = ap (λ (x : Attr). x.form) h.is;
    files = λ is. same_files i f lines_input lines kept.units.line_units.files a.value b.value
        (ap (unit_number (line_sections f)) (ap (λ (x : Attr). x.value) h.is
        ∙ named_value kept.units.changed.moves own first e a h.name is
        ∙ ap (λ (ls : List ListAt). new_line_offset ls a.value) kept.units.changed.lists_are)
        ∙ kept.units.line_offsets a.value);
  }

  own_kept : (u : Unit) (x y : Entry) → Changed u x y → IsKeptOwn i f x y
  own_kept u x y h = record {
    line = subst (λ (attrs : List Attr). Agree (NamesSameFiles i f) (attr DW_AT_stmt_list x)
        (find (λ (a : Attr). a.name == DW_AT_stmt_list) attrs))
        (sym h.attrs)
        (agree_to (IsChanged kept.units.changed.moves (is_own (sections_of i) x.declaration) (is_first_of u x) x
        (sections_of i).info (sections_of f).info DW_AT_stmt_list) (NamesSameFiles i f)
        (names_same (is_own (sections_of i) x.declaration) (is_first_of u x) x) (attr DW_AT_stmt_list x) _
        (found_changed kept.units.changed.moves (is_own (sections_of i) x.declaration) (is_first_of u x) x (sections_of i).info
        (sections_of f).info DW_AT_stmt_list (stable_name DW_AT_stmt_list refl) x.attrs (texts_of u x y h)));
  }

  abbrev ChangedUnit : Unit → Unit → Type 0
  ChangedUnit u v = IsChangedUnit (sections_of i) (sections_of f).info kept.units.changed.moves u v

  unit_kept : (u v : Unit) → ChangedUnit u v → IsKeptUnit i f u v
  unit_kept u v h = record {
    place = h.place;
    text_base = text_base u v h;
    own = agree_to (Changed u) (IsKeptOwn i f) (own_kept u) (own_entry u) (own_entry v)
        (first_each (Changed u) u.entries v.entries h.entries);
    entries = map_each (Changed u) Infos (entry_kept u) u.entries v.entries h.entries;
  }

  module _ (p o : ℕ) (covered : (d : ℕ) → covers (list_sections f) d p ≡ covers (list_sections i) d o) where
    entry_carried : (u v : Unit) (x y : Entry) → Changed u x y →
        covers (list_sections i) x.place o ≡ hold (ranges_of (list_sections i) u x) o →
        covers (list_sections f) y.place p ≡ hold (ranges_of (list_sections f) v y) p → IsCarriedEntry i f p o u v x y
    entry_carried u v x y h old new = record {
      kept = entry_kept u x y h;
      held = ap (λ t. (t == DW_TAG_subprogram || t == DW_TAG_inlined_subroutine) && hold (ranges_of (list_sections f) v y) p) h.tag
          ∙ ap (λ b. (x.declaration.tag == DW_TAG_subprogram || x.declaration.tag == DW_TAG_inlined_subroutine) && b)
          (sym new ∙ ap (λ d. covers (list_sections f) d p) h.place ∙ covered x.place ∙ old);
    }

    unit_carried : (u v : Unit) → ChangedUnit u v → Covered (list_sections i) o u → Covered (list_sections f) p v →
        IsCarriedUnit i f p o u v
    unit_carried u v h old new = record {
      kept = unit_kept u v h;
      entries = with_all (Changed u) (λ (e : Entry). covers (list_sections i) e.place o ≡ hold (ranges_of (list_sections i) u e) o)
          (λ (e : Entry). covers (list_sections f) e.place p ≡ hold (ranges_of (list_sections f) v e) p)
          (IsCarriedEntry i f p o u v) (entry_carried u v) u.entries v.entries h.entries old new;
    }

    -- The frames at a byte of the written file are those at its owner.
    chain_law : line f p ≡ line i o → frames f p ≡ frames i o
    chain_law same = frames_are_kept i f p o (record {
      units = with_all ChangedUnit (Covered (list_sections i) o) (Covered (list_sections f) p)
          (IsCarriedUnit i f p o) unit_carried (units (name_sections i).units) (units (name_sections f).units) kept.units.changed.units_are
          (all_covered (list_sections i) o sound_input) (all_covered (list_sections f) p sound);
      str = kept.others (codes ".debug_str") refl refl refl;
      line_str = kept.others (codes ".debug_line_str") refl refl refl;
      str_offsets = kept.others (codes ".debug_str_offsets") refl refl refl;
      line_is = same;
    })

-- If debug data is kept, units and lines of both files have no fault, and the answers at a byte are those at its owner, then the frames of
-- the byte are the owner's frames.
pub frames_carried : (spans : List Span) (lists : List ListAt) (i f : Elf) → IsDebugKept spans lists i f →
    IsFree (HasDwarfFault (unit_fault_places (sections_of i))) → IsFree (HasDwarfFault (unit_fault_places (sections_of f))) →
    line_fault (line_sections i) ≡ None → line_fault (line_sections f) ≡ None →
    (p o : ℕ) → AnswersCarried spans i f p o → frames f p ≡ frames i o
frames_carried spans lists i f kept sound_input sound lines_input lines p o carried =
    chain_law spans lists i f kept sound_input sound lines_input lines p o carried.covers_is carried.line_is
