-- A written file that contains the new tables has the input's answers.
use Rattle.std.proofs.Common.{◌≡◌, ◌∙◌, ap, refl, sym, subst, ℕ, ◌+◌, ◌*◌, ◌≤◌, List, [], ◌∷◌, Option, Some, None, Bool}
use Rattle.std.proofs.Common.{suc, true, false, length, arith}
use Rattle.std.proofs.lemmas.Bool.Decides.{nat_tests}
use Rattle.std.specs.Prelude.{◌==◌, ◌&&◌, ◌||◌, IfSome, IsSomeAnd, IsTrue, codes, if◌then◌else◌, is_none, is_some, not, option_map, sum_by}
use Rattle.std.specs.Prelude.{unwrap_or}
use Rattle.std.specs.List.{list_any}
use Rattle.std.specs.Str.{bytes_eq}
use Rattle.std.proofs.lemmas.Bool.{and_parts}
use Rattle.elf_image.specs.declared.elf.Elf.{Elf}
use Rattle.elf_image.specs.declared.section.Section.{Section}
use Rattle.elf_image.specs.declared.segment.TheConstants.{PT_GNU_EH_FRAME}
use Rattle.elf_image.specs.file.SectionNames.{names_debug, section_called}
use Rattle.addr_map.specs.declared.span.Span.{Span}
use Rattle.area_room.specs.Room.{area_start_of}
use Rattle.elf_write.specs.Area.{table_end, table_start}
use Rattle.elf_write.specs.Contents.{section_bytes}
use Rattle.elf_write.specs.NewSections.{adds_ranges, bytes_called}
use Rattle.elf_write.specs.NewTables.{area_for}
use Rattle.elf_write.specs.TablePlaces.{Holds, HoldsAt, IsLoadedAt, TablesStand, is_given}
use Rattle.elf_write.specs.TableSizes.{table_size}
use Rattle.rb_bytes.proofs.Tests.{clash}
use Rattle.answer_runs.specs.declared.run.Run.{Run}
use Rattle.answer_runs.specs.AnswerRuns.{AreRunsOf, carried}
use Rattle.table_core.specs.Sections.{Held, bytes_of, held, held_by}
use Rattle.cfi_rows.specs.Entries.{Fde, Frames, frames, walk}
use Rattle.cfi_rows.specs.Frames.{frames_of}
use Rattle.cfi_rows.specs.ReadFrames.{read_as}
use Rattle.frame_rewrite.specs.FrameAnswers.{FrameAnswer}
use Rattle.frame_rewrite.specs.Index.{AreApart, AreFilled, IsIndexOf, StandsIndex, has_frames, has_index}
use Rattle.frame_rewrite.specs.Tables.{ComesAfter, EndsWithMark, StandsAs, StandsEh, debug_name, eh_name, eh_says, run_size}
use Rattle.frame_rewrite.proofs.FramesCarried.{read_is, eh_stretches, df_stretches, df_plain}
use Rattle.line_rewrite.specs.Tables.{AreSequencesApart, LineSections, line_sections}
use Rattle.addr_rewrite.specs.Aranges.{ArePairsApart}
use Rattle.bolt_core.specs.CarriedAnswers.{CarriesTables}
use Rattle.bolt_core.specs.GivenTables.{AreGivenFor, DebugContents, ReadTable, debug_listed, ranges_given}
use Rattle.bolt_core.specs.internal.CarriedTables.{AreNewTables, debug_contents}
use Rattle.bolt_core.specs.internal.GivenIndex.{IsIndexFor, frames_at, index_at}
use Rattle.table_set.specs.AllAnswers.{HoldAll}
use Rattle.table_set.specs.AllTables.{AllComeFrom}
use Rattle.table_set.specs.CarriedTables.{all_lists}
use Rattle.table_set.specs.KeptData.{dropped_names, is_one_of, written_names}
use Rattle.table_set.specs.declared.all.AllTables.{AllTables}
use Rattle.dw_unit.specs.Tables.{sections_of}
use Rattle.range_loc_rewrite.specs.Faults.{ListSections}
use Rattle.range_loc_rewrite.specs.ListTables.{AreWithoutHighAddresses}
use Rattle.table_set.proofs.EmptySections.{no_abbrevs, no_addr, no_info}
use Rattle.table_set.proofs.NoFaults.{no_fault}
use Rattle.table_set.proofs.Standing.{all_carried, all_sound, units_kept}
use Rattle.line_rewrite.proofs.LinesCarried.{nothing_read}
use Rattle.bolt_core.proofs.ListedTables.{debug_bytes, debug_given, frames_bytes, frames_size, index_bytes, index_size, not_given}
use Rattle.bolt_core.proofs.ListedTables.{ranges_bytes, ranges_given_is, seen}
use Rattle.bolt_core.proofs.TableRoom.{SizesFit}

-- The contents of a file, in the terms of tables.

held_from : (f : Elf) (name bytes : List ℕ) (a : ℕ) → HoldsAt f name a bytes → held f name ≡ record { bytes = bytes; address = a }
held_from f name bytes a h = by (section_called f.sections.items name) h
  where
    by : (o : Option Section) → IsSomeAnd o (IsLoadedAt a bytes f.file.now) →
        held_by f.file.now o ≡ record { bytes = bytes; address = a }
    by None h = absurd h
    by (Some s) h = λ i. record { bytes = h.contents i; address = h.addr i }

bytes_from : (f : Elf) (name bytes : List ℕ) → Holds f name bytes → bytes_of f name ≡ bytes
bytes_from f name bytes h = by (section_called f.sections.items name) h
  where
    by : (o : Option Section) → IsSomeAnd o (λ s. section_bytes f.file.now s ≡ bytes) → (held_by f.file.now o).bytes ≡ bytes
    by None h = absurd h
    by (Some s) h = h

none_held : (f : Elf) (name : List ℕ) → section_called f.sections.items name ≡ None → bytes_of f name ≡ []
none_held f name e = ap (λ (o : Option Section). (held_by f.file.now o).bytes) e

is_there : (b : Bool) (xs : List ℕ) → is_some (if b then Some xs else None) ≡ b
is_there true xs = refl
is_there false xs = refl

some_of : (o : Option (List ℕ)) → is_some o ≡ true → (xs : List ℕ) × (o ≡ Some xs)
some_of (Some xs) h = (xs, refl)
some_of None h = absurd (cc)

none_of : (o : Option (List ℕ)) → is_some o ≡ false → o ≡ None
none_of None h = refl
none_of (Some xs) h = absurd (cc)

not_zero : (n : ℕ) → (suc n == 0) ≡ false
not_zero n = grind (arith, nat_tests)

-- an empty table has no entries, at any address
none_listed : (a b : ℕ) → (frames false a []).list ≡ (frames false b []).list
unfolding walk
none_listed a b = refl

-- the only name of a list
alone : (b : Bool) → (b || false) ≡ false → b ≡ false
alone false h = refl
alone true h = absurd (cc)

-- the table of ranges is one of the rewritten tables
not_ranges : (name : List ℕ) → name ≡ codes ".debug_rnglists" → is_one_of written_names name ≡ false → ⊥
not_ranges name same other =
    clash (is_one_of written_names name) (ap (is_one_of written_names) same) other

module _ (elf : Elf) (t : AllTables) (comes : AllComeFrom t elf) (spans : List Span) (start : ℕ) (code : List ℕ)
    (given : List ReadTable) (made : AreNewTables elf t spans start (length code) given) where
  abbrev eh : List ℕ
  eh = made.written.eh.bytes.items

  abbrev ranges : Option (List ℕ)
  ranges = ranges_given elf made.written.ranges.bytes.items

  abbrev debug : DebugContents
  debug = debug_contents made.written

  abbrev listed_frames : Option (List ℕ)
  listed_frames = if has_frames elf then Some eh else None

  there : t.eh.has_section ≡ has_frames elf
  there = comes.eh.there

  loaded : has_frames elf ≡ true → listed_frames ≡ Some eh
  loaded e = ap (λ (b : Bool). if b then Some eh else None) e

  unloaded : has_frames elf ≡ false → listed_frames ≡ None
  unloaded e = ap (λ (b : Bool). if b then Some eh else None) e

  pub are_given : AreGivenFor elf given
  are_given = record {
    frames = listed_frames;
    index = made.are_listed.index;
    ranges = made.written.ranges.bytes.items;
    no_ranges = λ none without. made.are_carried.ranges_made.nothing
        (ap (λ (s : ListSections). s.ranges) comes.ranges ∙ none)
        (subst (λ (s : ListSections). AreWithoutHighAddresses s.units) (sym comes.ranges) without);
    debug = debug;
    are = made.are_listed.are;
    frames_there = is_there (has_frames elf) eh;
    index_there = made.are_listed.there;
  }

  size_eh : table_size given (codes ".eh_frame") ≡ option_map length listed_frames
  size_eh = frames_size given listed_frames made.are_listed.index ranges debug made.are_listed.are

  size_index : table_size given (codes ".eh_frame_hdr") ≡ option_map length made.are_listed.index
  size_index = index_size given listed_frames made.are_listed.index ranges debug made.are_listed.are

  -- The sizes of the tables.

  module _ (more : ℕ) (room : IsTrue t.eh.has_section → (runs : List (Run FrameAnswer)) →
      AreRunsOf (carried (eh_says t.eh) spans) runs →
      64 + 64 * (read_as t.eh.frames).cies + sum_by (λ r. run_size r.answer) runs ≤ more) where
    with_index : (index : Option (List ℕ)) → t.eh.has_section ≡ true → IfSome index (IsIndexFor start (length code) eh) →
        SizesFit (Some (length eh)) (option_map length index) more
    with_index None has is =
        let r = room has made.are_carried.eh_runs made.are_carried.are_eh_runs in
        let size = made.are_carried.eh_made.size in
        omega (arith, size, r)
    with_index (Some x) has is =
        let r = room has made.are_carried.eh_runs made.are_carried.are_eh_runs in
        let size = made.are_carried.eh_made.size in
        let count = made.are_carried.eh_made.count (frames_at start (length code)) made.after in
        let long = is.size in
        omega (arith, size, r, count, long)

    pub sizes_fit : SizesFit (table_size given (codes ".eh_frame")) (table_size given (codes ".eh_frame_hdr")) more
    sizes_fit =
        subst (λ (o : Option ℕ). SizesFit o (table_size given (codes ".eh_frame_hdr")) more) (sym size_eh)
        (subst (λ (o : Option ℕ). SizesFit (option_map length listed_frames) o more) (sym size_index)
        (by (has_frames elf) refl))
      where
        by : (b : Bool) → has_frames elf ≡ b →
            SizesFit (option_map length listed_frames) (option_map length made.are_listed.index) more
        by true e =
            subst (λ (o : Option (List ℕ)). SizesFit (option_map length o) (option_map length made.are_listed.index) more)
            (sym (loaded e)) (with_index made.are_listed.index (there ∙ e) made.are_listed.index_is)
        by false e =
            let no_index : made.are_listed.index ≡ None =
            none_of made.are_listed.index (made.are_listed.there ∙ ap (λ (b : Bool). b && list_any (λ p. p.kind == PT_GNU_EH_FRAME)
            elf.segments.items) e) in
            subst (λ (o : Option (List ℕ)). SizesFit (option_map length o) (option_map length made.are_listed.index) more)
            (sym (unloaded e))
            (subst (λ (o : Option (List ℕ)). SizesFit None (option_map length o) more) (sym no_index) tt)

  -- The answers of the written file.

  module _ (new : Elf) (tight : Bool) (start_is : start ≡ area_start_of elf.segments.items tight)
      (stand : TablesStand elf new given (area_for elf given code tight)) where
    abbrev base : ℕ
    base = area_start_of elf.segments.items tight

    frames_held : has_frames elf ≡ true → held new (codes ".eh_frame") ≡ record { bytes = eh; address = frames_at start (length code) }
    frames_held e =
        let size : table_size given (codes ".eh_frame") ≡ Some (length eh) = size_eh ∙ ap (option_map length) (loaded e) in
        let bytes : bytes_called given (codes ".eh_frame") ≡ eh =
        frames_bytes given listed_frames made.are_listed.index ranges debug made.are_listed.are
        ∙ ap (λ (o : Option (List ℕ)). unwrap_or o []) (loaded e) in
        let holds : HoldsAt new (codes ".eh_frame") (frames_at base (length code)) (bytes_called given (codes ".eh_frame")) =
        subst (λ (o : Option ℕ). IfSome (table_start 8 (base + length code) o)
        (λ a. HoldsAt new (codes ".eh_frame") a (bytes_called given (codes ".eh_frame")))) size stand.frames in
        held_from new (codes ".eh_frame") eh (frames_at start (length code))
        (subst (λ (n : ℕ). HoldsAt new (codes ".eh_frame") (frames_at n (length code)) eh) (sym start_is)
        (subst (λ (xs : List ℕ). HoldsAt new (codes ".eh_frame") (frames_at base (length code)) xs) bytes holds))

    index_held : has_frames elf ≡ true → (x : List ℕ) → made.are_listed.index ≡ Some x →
        held new (codes ".eh_frame_hdr") ≡ record { bytes = x; address = index_at start (length code) eh }
    index_held e x is =
        let size : table_size given (codes ".eh_frame") ≡ Some (length eh) = size_eh ∙ ap (option_map length) (loaded e) in
        let long : table_size given (codes ".eh_frame_hdr") ≡ Some (length x) = size_index ∙ ap (option_map length) is in
        let bytes : bytes_called given (codes ".eh_frame_hdr") ≡ x =
        index_bytes given listed_frames made.are_listed.index ranges debug made.are_listed.are
        ∙ ap (λ (o : Option (List ℕ)). unwrap_or o []) is in
        let holds : HoldsAt new (codes ".eh_frame_hdr") (index_at base (length code) eh) (bytes_called given (codes ".eh_frame_hdr")) =
        subst (λ (o : Option ℕ). IfSome (table_start 4 (table_end 8 (base + length code) (Some (length eh))) o)
        (λ b. HoldsAt new (codes ".eh_frame_hdr") b (bytes_called given (codes ".eh_frame_hdr")))) long
        (subst (λ (o : Option ℕ). IfSome (table_start 8 (base + length code) o) (λ a.
        IfSome (table_start 4 (table_end 8 (base + length code) o) (table_size given (codes ".eh_frame_hdr")))
        (λ b. HoldsAt new (codes ".eh_frame_hdr") b (bytes_called given (codes ".eh_frame_hdr"))))) size stand.index) in
        held_from new (codes ".eh_frame_hdr") x (index_at start (length code) eh)
        (subst (λ (n : ℕ). HoldsAt new (codes ".eh_frame_hdr") (index_at n (length code) eh) x) (sym start_is)
        (subst (λ (xs : List ℕ). HoldsAt new (codes ".eh_frame_hdr") (index_at base (length code) eh) xs) bytes holds))

    eh_bytes : StandsAs eh_name made.written.eh new
    eh_bytes = by (has_frames elf) refl
      where
        by : (b : Bool) → has_frames elf ≡ b → bytes_of new (codes ".eh_frame") ≡ eh
        by true e = ap (λ (h : Held). h.bytes) (frames_held e)
        by false e =
            let size : table_size given (codes ".eh_frame") ≡ None = size_eh ∙ ap (option_map length) (unloaded e) in
            let none : table_start 8 (base + length code) (table_size given (codes ".eh_frame")) ≡ None =
            ap (table_start 8 (base + length code)) size in
            none_held new (codes ".eh_frame") (stand.no_frames none) ∙ sym (made.are_carried.eh_made.nothing (there ∙ e))

    eh_stands : StandsEh elf spans made.written.eh new
    eh_stands = record {
      bytes = eh_bytes;
      place = λ e. subst (ComesAfter spans) (sym (ap (λ (h : Held). h.address) (frames_held e))) made.after;
    }

    -- A section of debug data has the contents that are given for it; a section that the input doesn't have is empty.
    debug_stands : (name bytes : List ℕ) → names_debug name ≡ true → bytes_eq name (codes ".debug_rnglists") ≡ false →
        seen name (debug_listed debug) ≡ Some (name, bytes) →
        (section_called elf.sections.items name ≡ None → bytes ≡ []) → bytes_of new name ≡ bytes
    debug_stands name bytes is_debug other listed_is empty = by (section_called elf.sections.items name) refl
      where
        differs : name ≡ codes ".debug_rnglists" → ⊥
        differs same =
            clash (bytes_eq name (codes ".debug_rnglists")) (ap (λ (n : List ℕ). bytes_eq n (codes ".debug_rnglists")) same) other

        by : (o : Option Section) → section_called elf.sections.items name ≡ o → bytes_of new name ≡ bytes
        by (Some s) e =
            bytes_from new name (bytes_called given name)
            (stand.debug name is_debug
            (debug_given given listed_frames made.are_listed.index ranges debug made.are_listed.are name is_debug (name, bytes) listed_is)
            (ap is_some e))
            ∙ debug_bytes given listed_frames made.are_listed.index ranges debug made.are_listed.are name is_debug (name, bytes) listed_is
        by None e = none_held new name (stand.absent name is_debug e (λ adds same. differs same)) ∙ sym (empty e)

    -- Any other section keeps its contents.
    others_stand : (name : List ℕ) → IsTrue (names_debug name) → is_one_of written_names name ≡ false →
        is_one_of dropped_names name ≡ false → bytes_of new name ≡ bytes_of elf name
    others_stand name is_debug other kept_name = by (section_called elf.sections.items name) refl
      where
        kept : IfSome (section_called elf.sections.items name) (λ s. Holds new name (section_bytes elf.file.now s))
        kept =
            stand.others name is_debug
            (not_given given listed_frames made.are_listed.index ranges debug made.are_listed.are name is_debug other)
            (alone (bytes_eq name (codes ".debug_macro")) kept_name)

        by : (o : Option Section) → section_called elf.sections.items name ≡ o → bytes_of new name ≡ bytes_of elf name
        by (Some s) e =
            bytes_from new name (section_bytes elf.file.now s)
            (subst (λ (o : Option Section). IfSome o (λ s. Holds new name (section_bytes elf.file.now s))) e kept)
            ∙ sym (ap (λ (o : Option Section). (held_by elf.file.now o).bytes) e)
        by None e =
            none_held new name (stand.absent name is_debug e (λ adds same. not_ranges name same other)) ∙ sym (none_held elf name e)

    -- The section of ranges is added if ranges are written.
    ranges_stand : bytes_of new (codes ".debug_rnglists") ≡ made.written.ranges.bytes.items
    ranges_stand = by (section_called elf.sections.items (codes ".debug_rnglists")) refl made.written.ranges.bytes.items refl
      where
        given_is : bytes_called given (codes ".debug_rnglists") ≡ unwrap_or ranges []
        given_is = ranges_bytes given listed_frames made.are_listed.index ranges debug made.are_listed.are

        is_in : is_given given (codes ".debug_rnglists") ≡ is_some ranges
        is_in = ranges_given_is given listed_frames made.are_listed.index ranges debug made.are_listed.are

        not_added : is_given given (codes ".debug_rnglists") ≡ false → IsTrue (adds_ranges elf.sections.items given) → ⊥
        not_added absent adds =
            clash (is_given given (codes ".debug_rnglists"))
            ((and_parts (is_given given (codes ".debug_rnglists"))
            (is_none (section_called elf.sections.items (codes ".debug_rnglists"))) adds).0)
            absent

        is_added : is_given given (codes ".debug_rnglists") ≡ true →
            section_called elf.sections.items (codes ".debug_rnglists") ≡ None → IsTrue (adds_ranges elf.sections.items given)
        is_added given_so none = rw (given_so, none) refl

        by : (o : Option Section) → section_called elf.sections.items (codes ".debug_rnglists") ≡ o → (bytes : List ℕ) →
            made.written.ranges.bytes.items ≡ bytes → bytes_of new (codes ".debug_rnglists") ≡ made.written.ranges.bytes.items
        by (Some s) e bytes is =
            let some : ranges ≡ Some made.written.ranges.bytes.items =
            ap (λ (o : Option Section). if is_some o || not (length made.written.ranges.bytes.items == 0)
            then Some made.written.ranges.bytes.items else None) e in
            bytes_from new (codes ".debug_rnglists") (bytes_called given (codes ".debug_rnglists"))
            (stand.debug (codes ".debug_rnglists") refl (is_in ∙ ap is_some some) (ap is_some e))
            ∙ given_is ∙ ap (λ (o : Option (List ℕ)). unwrap_or o []) some
        by None e [] is =
            let none : ranges ≡ None =
            ap (λ (o : Option Section). if is_some o || not (length made.written.ranges.bytes.items == 0)
            then Some made.written.ranges.bytes.items else None) e
            ∙ ap (λ (xs : List ℕ). if not (length xs == 0) then Some xs else None) is in
            none_held new (codes ".debug_rnglists")
            (stand.absent (codes ".debug_rnglists") refl e (λ adds same. not_added (is_in ∙ ap is_some none) adds)) ∙ sym is
        by None e (b ∷ bytes) is =
            let some : ranges ≡ Some made.written.ranges.bytes.items =
            ap (λ (o : Option Section). if is_some o || not (length made.written.ranges.bytes.items == 0)
            then Some made.written.ranges.bytes.items else None) e
            ∙ ap (λ (xs : List ℕ). if not (length xs == 0) then Some made.written.ranges.bytes.items else None) is
            ∙ ap (λ (z : Bool). if not z then Some made.written.ranges.bytes.items else None) (not_zero (length bytes)) in
            bytes_from new (codes ".debug_rnglists") (bytes_called given (codes ".debug_rnglists"))
            (stand.ranges (is_added (is_in ∙ ap is_some some) e))
            ∙ given_is ∙ ap (λ (o : Option (List ℕ)). unwrap_or o []) some

    hold_all : HoldAll elf new spans made.written
    hold_all = record {
      eh = eh_stands;
      df = debug_stands (codes ".debug_frame") made.written.df.bytes.items refl refl refl
          (λ e. made.are_carried.df_made.nothing
          (ap (λ (h : Held). h.bytes) comes.df.section ∙ none_held elf (codes ".debug_frame") e));
      lines = debug_stands (codes ".debug_line") made.written.lines.bytes.items refl refl refl
          (λ e. nothing_read t.lines made.written.lines made.are_carried.lines_made
          (ap (λ (s : LineSections). s.line) comes.lines ∙ none_held elf (codes ".debug_line") e));
      strings = λ i. record {
        str = others_stand (codes ".debug_str") refl refl refl i;
        line_str = others_stand (codes ".debug_line_str") refl refl refl i;
      };
      ranges = ranges_stand;
      places = debug_stands (codes ".debug_loclists") made.written.places.bytes.items refl refl refl
          (λ e. made.are_carried.places_made.nothing
          (ap (λ (s : ListSections). s.locations) comes.places ∙ none_held elf (codes ".debug_loclists") e));
      aranges = debug_stands (codes ".debug_aranges") made.written.aranges.bytes.items refl refl refl
          (λ e. made.are_carried.aranges_made.nothing (comes.aranges ∙ none_held elf (codes ".debug_aranges") e));
      info = debug_stands (codes ".debug_info") made.written.info.items refl refl refl
          (λ e. made.are_carried.units.info_is
          ∙ no_info (sections_of elf) made.are_carried.units.moves (none_held elf (codes ".debug_info") e));
      abbrevs = debug_stands (codes ".debug_abbrev") made.written.abbrevs.items refl refl refl
          (λ e. made.are_carried.units.abbrevs_are ∙ no_abbrevs (sections_of elf) (none_held elf (codes ".debug_abbrev") e));
      addr = debug_stands (codes ".debug_addr") made.written.addr.items refl refl refl
          (λ e. made.are_carried.addr made.are_carried.units.moves made.are_carried.units.are_moves.spans_are
          ∙ no_addr made.are_carried.units.moves (sections_of elf).addr (none_held elf (codes ".debug_addr") e));
    }

    index_stands : has_index elf ≡ true → StandsIndex new
    index_stands e =
        let loads : has_frames elf ≡ true =
        (and_parts (has_frames elf) (list_any (λ p. p.kind == PT_GNU_EH_FRAME) elf.segments.items) e).0 in
        let (x, is) = some_of made.are_listed.index (made.are_listed.there ∙ e) in
        let index : IsIndexFor start (length code) eh x =
        subst (λ (o : Option (List ℕ)). IfSome o (IsIndexFor start (length code) eh)) is made.are_listed.index_is in
        subst (λ (h : Held). IsIndexOf h.address (held new (codes ".eh_frame_hdr")).address (frames_of false h).list
        (bytes_of new (codes ".eh_frame_hdr"))) (sym (frames_held loads))
        (subst (λ (h : Held). IsIndexOf (frames_at start (length code)) h.address (frames false (frames_at start (length code)) eh).list
        h.bytes) (sym (index_held loads x is)) index.is)

    -- a property of the unwind table at any address after the new code holds at its address
    of_eh : (P : List Fde → Type 0) → ((at : ℕ) → ComesAfter spans at → P (frames false at eh).list) →
        P (frames_of false (held new eh_name)).list
    of_eh P all = by (has_frames elf) refl
      where
        here : P (frames false (frames_at start (length code)) eh).list
        here = all (frames_at start (length code)) made.after

        by : (b : Bool) → has_frames elf ≡ b → P (frames_of false (held new eh_name)).list
        by true e = subst (λ (h : Held). P (frames_of false h).list) (sym (frames_held e)) here
        by false e =
            let none : eh ≡ [] = made.are_carried.eh_made.nothing (there ∙ e) in
            subst (λ (l : List ℕ). P (frames false (held new eh_name).address l).list) (sym (eh_bytes ∙ none))
            (subst P (none_listed (frames_at start (length code)) (held new eh_name).address)
            (subst (λ (l : List ℕ). P (frames false (frames_at start (length code)) l).list) none here))

    -- a property of a written table at any address holds at its address
    of_frames : (debug : Bool) (name bytes : List ℕ) (P : List Fde → Type 0) → ((at : ℕ) → P (frames debug at bytes).list)
        → bytes_of new name ≡ bytes → P (frames_of debug (held new name)).list
    of_frames debug name bytes P all is =
        subst (λ (l : List ℕ). P (frames debug (held new name).address l).list) (sym is) (all (held new name).address)

    lines_are : record { line = made.written.lines.bytes.items; strings = t.lines.strings } ≡ line_sections new
    lines_are = λ j. record {
      line = sym hold_all.lines j;
      strings = (ap (λ (s : LineSections). s.strings) comes.lines ∙ sym hold_all.strings) j;
    }

    pub carries_tables : CarriesTables spans elf new
    carries_tables = record {
      answers = all_carried elf spans t made.written comes made.are_carried new hold_all;
      sound = no_fault new (all_sound elf spans t made.written comes made.are_carried new hold_all);
      ends = λ e. subst EndsWithMark (sym eh_bytes) (made.are_carried.eh_made.ends (there ∙ e));
      index = index_stands;
      apart = λ apart. of_eh AreApart
          (made.are_carried.eh_made.apart (subst (λ (f : Frames). AreApart f.list) (sym (read_is t.eh elf comes.eh)) apart));
      filled = of_eh AreFilled made.are_carried.eh_made.filled;
      debug_apart = of_frames true debug_name made.written.df.bytes.items AreApart made.are_carried.df_made.apart hold_all.df;
      stretches = eh_stretches spans t.eh elf new made.are_carried.eh_runs made.written.eh comes.eh made.are_carried.eh_made eh_stands;
      debug_stretches = df_stretches spans t.df elf new made.written.df comes.df made.are_carried.df_made hold_all.df;
      plain = df_plain spans t.df new made.written.df made.are_carried.df_made hold_all.df;
      lines_apart = subst AreSequencesApart lines_are made.are_carried.lines_made.apart;
      units_apart = subst ArePairsApart (sym hold_all.aranges) made.are_carried.aranges_made.apart;
      lists = all_lists made.written;
      kept = record {
        units = units_kept elf spans t made.written comes made.are_carried new hold_all;
        others = others_stand;
      };
    }
