-- Room, limits and faults of tables are the same, whichever reading of a file they are taken of.
use Rattle.std.proofs.Common.{◌≡◌, ◌≢◌, ◌∙◌, ◌<◌, refl, sym, ap, subst, ℕ, ◌+◌, ◌*◌, ◌-◌, List, [], ◌∷◌}
use Rattle.std.proofs.Common.{Option, Some, None, Bool, true, false}
use Rattle.std.proofs.Common.{drop, filter, length, map, option_map, take, if◌then◌else◌}
use Rattle.std.specs.Prelude.{◌==◌, ◌&&◌, Any, IsSomeAnd, codes, find, fold, is_some, nat_le, nat_lt, option_and_then, slice_get, sum_by}
use Rattle.std.specs.List.{list_any}
use Rattle.std.specs.Option.{option_map_or}
use Rattle.std.proofs.lemmas.List.{length-map}
use Rattle.rb_bytes.specs.declared.fault.FaultKind.{FaultKind}
use Rattle.rb_bytes.specs.declared.fault.FaultKind.TheVariants as fault
use Rattle.rv_code.specs.declared.placed.Block.{Block}
use Rattle.rv_code.specs.declared.placed.Func.{Func}
use Rattle.rv_code.specs.declared.placed.Placed.{Placed}
use Rattle.addr_map.specs.declared.span.Span.{Span}
use Rattle.elf_image.specs.declared.elf.Elf.{Elf}
use Rattle.elf_image.specs.declared.section.Section.{Section}
use Rattle.elf_image.specs.declared.section.TheConstants.{SHT_SYMTAB}
use Rattle.elf_image.specs.declared.segment.TheConstants.{PT_GNU_EH_FRAME}
use Rattle.elf_image.specs.declared.symbol.Symbol.{Symbol}
use Rattle.elf_image.specs.file.Cuts.{names_function}
use Rattle.elf_image.specs.file.Header.{e_shstrndx}
use Rattle.elf_image.specs.file.SectionNames.{is_called, section_called}
use Rattle.elf_readings.proofs.Alike.{Alike, any_alike, bare, bare_symbol}
use Rattle.file_room.specs.Numbers.{capped}
use Rattle.cfi_rows.specs.Entries.{Fde, Frames, is_in_range}
use Rattle.cfi_rows.specs.EntryCounts.{row_count}
use Rattle.cfi_rows.specs.FrameNeed.{bound_count, frame_need, is_block_in, need_of, piece_size}
use Rattle.cfi_rows.specs.Frames.{eh_frames, frames_of}
use Rattle.elf_plan.specs.ColdSymbols.{first_named, start_around}
use Rattle.elf_plan.specs.NameTables.{names_of_sections, names_of_symbols, size_of, symbols_section}
use Rattle.elf_plan.specs.NameWeight.{cold_weight, name_weight, section_weight, weight_of}
use Rattle.area_room.specs.Need.{need}
use Rattle.frame_rewrite.specs.Faults.{IsRegisteredFrames, IsRegistration}
use Rattle.dw_unit.specs.AbbrevWeight.{abbrev_weight}
use Rattle.answer_runs.specs.Weights.{weight_limit}
use Rattle.line_rewrite.specs.Tables.{IsLineWeight}
use Rattle.range_loc_rewrite.specs.Weights.{IsPlacesWeight, IsRangesWeight}
use Rattle.addr_rewrite.specs.Tables.{IsArangesWeight}
use Rattle.table_set.specs.TableLimits.{IsTooHeavy}
use Rattle.bolt_core.specs.TableFaults.{HasCarryingFault}
use Rattle.cli_run.proofs.TabledRanges.{same_held}
use Rattle.refusal_laws.proofs.SameBlocks.{same_worst}
use Rattle.refusal_laws.proofs.SameFunctions.{View, at_image, found, same_at, same_found, view}
use Rattle.refusal_laws.proofs.SameTables.{same_bytes, same_lines, same_lists, same_place, same_units}

-- what is said of an element that may be there, by its image
said_of_image : {X : Type 0} (v : X → X) (P : X → Type 0) (o : Option X) → IsSomeAnd o (λ x. P (v x)) → IsSomeAnd (option_map v o) P
said_of_image v P None has = has
said_of_image v P (Some x) has = has

said_by_image : {X : Type 0} (v : X → X) (P : X → Type 0) (o : Option X) → IsSomeAnd (option_map v o) P → IsSomeAnd o (λ x. P (v x))
said_by_image v P None has = has
said_by_image v P (Some x) has = has

some_image : {X Y : Type 0} (v : X → Y) (o : Option X) → is_some (option_map v o) ≡ is_some o
some_image v None = refl
some_image v (Some x) = refl

number_of_image : {X Y : Type 0} (v : X → Y) (F : Y → ℕ) (d : ℕ) (o : Option X) →
    option_map_or F (option_map v o) d ≡ option_map_or (λ x. F (v x)) o d
number_of_image v F d None = refl
number_of_image v F d (Some x) = refl

summed : {X Y : Type 0} (v : X → Y) (F : Y → ℕ) (xs : List X) → sum_by (λ x. F (v x)) xs ≡ sum_by F (map v xs)
summed v F xs = sym (folded v F xs 0)
  where
    folded : {X Y : Type 0} (v : X → Y) (F : Y → ℕ) (ys : List X) (n : ℕ) →
        fold (λ a y. a + F y) n (map v ys) ≡ fold (λ a y. a + F (v y)) n ys
    folded v F [] n = refl
    folded v F (y ∷ ys) n = folded v F ys (n + F (v y))

module _ (e e' : Elf) (alike : Alike e e') where
  called : (name : List ℕ) →
      option_map bare (section_called e.sections.items name) ≡ option_map bare (section_called e'.sections.items name)
  called name = same_found bare e.sections.items e'.sections.items alike.sections (is_called name)

  -- A frame table that is registered.

  registered : (place : ℕ) → IsRegisteredFrames e place → IsRegisteredFrames e' place
  registered place r = record {
    table = said_by_image bare (λ s. (s.size ≢ 0) × (s.addr ≡ place)) (section_called e'.sections.items (codes ".eh_frame"))
        (subst (λ (o : Option Section). IsSomeAnd o (λ s. (s.size ≢ 0) × (s.addr ≡ place))) (called (codes ".eh_frame"))
        (said_of_image bare (λ s. (s.size ≢ 0) × (s.addr ≡ place)) (section_called e.sections.items (codes ".eh_frame")) r.table));
    no_header = λ has. r.no_header (subst (λ ps. Any (λ p. p.kind ≡ PT_GNU_EH_FRAME) ps) (sym alike.segments) has);
    registers = any_alike bare_symbol IsRegistration
        (λ s t is. subst {A = Symbol} IsRegistration is) e.symbols.items e'.symbols.items alike.symbols r.registers;
  }

  pub same_carrying : (kind : FaultKind) (place : ℕ) → HasCarryingFault e kind place → HasCarryingFault e' kind place
  same_carrying fault.RegisteredFrames place has = registered place has
  same_carrying fault.NotElf place has = sym (same_place e e' alike fault.NotElf) ∙ has
  same_carrying fault.Truncated place has = sym (same_place e e' alike fault.Truncated) ∙ has
  same_carrying fault.Flags place has = sym (same_place e e' alike fault.Flags) ∙ has
  same_carrying fault.NotStatic place has = sym (same_place e e' alike fault.NotStatic) ∙ has
  same_carrying fault.ExecSegments place has = sym (same_place e e' alike fault.ExecSegments) ∙ has
  same_carrying fault.WritableCode place has = sym (same_place e e' alike fault.WritableCode) ∙ has
  same_carrying fault.HighAddress place has = sym (same_place e e' alike fault.HighAddress) ∙ has
  same_carrying fault.CompressedSection place has = sym (same_place e e' alike fault.CompressedSection) ∙ has
  same_carrying fault.RelocType place has = sym (same_place e e' alike fault.RelocType) ∙ has
  same_carrying fault.RelocMismatch place has = sym (same_place e e' alike fault.RelocMismatch) ∙ has
  same_carrying fault.LoMismatch place has = sym (same_place e e' alike fault.LoMismatch) ∙ has
  same_carrying fault.NarrowDiff place has = sym (same_place e e' alike fault.NarrowDiff) ∙ has
  same_carrying fault.IfuncOrPlt place has = sym (same_place e e' alike fault.IfuncOrPlt) ∙ has
  same_carrying fault.AlreadyMoved place has = sym (same_place e e' alike fault.AlreadyMoved) ∙ has
  same_carrying fault.BadEntry place has = sym (same_place e e' alike fault.BadEntry) ∙ has
  same_carrying fault.BadInstruction place has = sym (same_place e e' alike fault.BadInstruction) ∙ has
  same_carrying fault.BareAuipc place has = sym (same_place e e' alike fault.BareAuipc) ∙ has
  same_carrying fault.BadTarget place has = sym (same_place e e' alike fault.BadTarget) ∙ has
  same_carrying fault.UnitTooLong place has = sym (same_place e e' alike fault.UnitTooLong) ∙ has
  same_carrying fault.KeptBranch place has = sym (same_place e e' alike fault.KeptBranch) ∙ has
  same_carrying fault.FrameFault place has = sym (same_place e e' alike fault.FrameFault) ∙ has
  same_carrying fault.DwarfVersion place has = sym (same_place e e' alike fault.DwarfVersion) ∙ has
  same_carrying fault.DwarfForm place has = sym (same_place e e' alike fault.DwarfForm) ∙ has
  same_carrying fault.HighPcForm place has = sym (same_place e e' alike fault.HighPcForm) ∙ has
  same_carrying fault.DwarfFault place has = sym (same_place e e' alike fault.DwarfFault) ∙ has
  same_carrying fault.LineFault place has = sym (same_place e e' alike fault.LineFault) ∙ has
  same_carrying fault.NoRoom place has = sym (same_place e e' alike fault.NoRoom) ∙ has
  same_carrying fault.TooLarge place has = sym (same_place e e' alike fault.TooLarge) ∙ has

  pub same_weights : (spans : List Span) → IsTooHeavy e spans → IsTooHeavy e' spans
  same_weights spans (IsTooHeavy.lines n is heavy) =
      IsTooHeavy.lines n (subst (λ s. IsLineWeight s spans n) (same_lines e e' alike) is) heavy
  same_weights spans (IsTooHeavy.ranges n is heavy) =
      IsTooHeavy.ranges n (subst (λ s. IsRangesWeight s spans n) (same_lists e e' alike) is) heavy
  same_weights spans (IsTooHeavy.places n is heavy) =
      IsTooHeavy.places n (subst (λ s. IsPlacesWeight s spans n) (same_lists e e' alike) is) heavy
  same_weights spans (IsTooHeavy.aranges n is heavy) =
      IsTooHeavy.aranges n (subst (λ (s : List ℕ). IsArangesWeight s spans n) (same_bytes e e' alike (codes ".debug_aranges")) is) heavy
  same_weights spans (IsTooHeavy.abbreviations heavy) =
      IsTooHeavy.abbreviations (subst (λ s. weight_limit < abbrev_weight s) (same_units e e' alike) heavy)

  -- Names.

  sections_names : size_of (names_of_sections e) ≡ size_of (names_of_sections e')
  sections_names =
      same_at bare e.sections.items e'.sections.items alike.sections (λ (s : Section). s.size) 0 (e_shstrndx e.file.now)
      ∙ ap (λ (file : List ℕ). size_of (slice_get e'.sections.items (e_shstrndx file))) alike.file

  -- the section of a file's symbols links to their names
  abbrev linked : List Section → ℕ
  linked xs = size_of (option_map_or (λ s. slice_get xs s.link) (find (λ s. s.kind == SHT_SYMTAB) xs) None)

  linked_image : (xs : List Section) → linked xs ≡ linked (map bare xs)
  linked_image xs = by (find (λ s. s.kind == SHT_SYMTAB) xs) (find (λ s. s.kind == SHT_SYMTAB) (map bare xs))
      (found bare (λ s. s.kind == SHT_SYMTAB) xs)
    where
      by : (o p : Option Section) → option_map bare o ≡ p →
          size_of (option_map_or (λ s. slice_get xs s.link) o None)
          ≡ size_of (option_map_or (λ s. slice_get (map bare xs) s.link) p None)
      by None p is = ap (λ (q : Option Section). size_of (option_map_or (λ s. slice_get (map bare xs) s.link) q None)) is
      by (Some s) p is =
          at_image bare (λ (t : Section). t.size) 0 xs s.link
          ∙ ap (λ (q : Option Section). size_of (option_map_or (λ t. slice_get (map bare xs) t.link) q None)) is

  symbols_names : size_of (names_of_symbols e) ≡ size_of (names_of_symbols e')
  symbols_names =
      let count : length e.symbols.items ≡ length e'.symbols.items =
      sym (length-map e.symbols.items bare_symbol) ∙ ap length alike.symbols ∙ length-map e'.symbols.items bare_symbol in
      let one = linked_image e.sections.items ∙ ap linked alike.sections ∙ sym (linked_image e'.sections.items) in
      chosen e ∙ (λ i. if count i == 0 then 0 else one i) ∙ sym (chosen e')
    where
      chosen : (f : Elf) → size_of (names_of_symbols f) ≡ (if length f.symbols.items == 0 then 0 else linked f.sections.items)
      chosen f = by (length f.symbols.items == 0)
        where
          by : (b : Bool) →
              size_of (if b then None else option_map_or (λ s. slice_get f.sections.items s.link) (symbols_section f) None)
              ≡ (if b then 0 else linked f.sections.items)
          by true = refl
          by false = refl

  module _ (fs gs : List Func) (same : map view fs ≡ map view gs) where
    around : (a : ℕ) → start_around fs a ≡ start_around gs a
    around a =
        starts_found fs
        ∙ ap (option_map (λ (v : View). v.0)) (same_found view fs gs same (λ v. nat_le v.0 a && nat_lt a v.1))
        ∙ sym (starts_found gs)
      where
        starts_found : (hs : List Func) → start_around hs a
            ≡ option_map (λ (v : View). v.0) (option_map view (find (λ f. nat_le f.start a && nat_lt a f.end) hs))
        starts_found hs = by (find (λ f. nat_le f.start a && nat_lt a f.end) hs)
          where
            by : (o : Option Func) → option_map (λ f. f.start) o ≡ option_map (λ (v : View). v.0) (option_map view o)
            by None = refl
            by (Some f) = refl

    -- the weight of the name of a symbol that may be there
    abbrev named_weight : Option Symbol → ℕ
    named_weight o = option_map_or (λ s. weight_of s.name.now) o 0

    same_first : (start : ℕ) → named_weight (first_named e.symbols.items start) ≡ named_weight (first_named e'.symbols.items start)
    same_first start =
        sym (number_of_image bare_symbol (λ (s : Symbol). weight_of s.name.now) 0 (first_named e.symbols.items start))
        ∙ ap named_weight
        (same_found bare_symbol e.symbols.items e'.symbols.items alike.symbols (λ s. names_function s && (s.value == start)))
        ∙ number_of_image bare_symbol (λ (s : Symbol). weight_of s.name.now) 0 (first_named e'.symbols.items start)

    weighed : (a : ℕ) → cold_weight e.symbols.items fs a ≡ cold_weight e'.symbols.items gs a
    weighed a = ap (λ (o : Option ℕ). named_weight (option_and_then (first_named e.symbols.items) o)) (around a)
        ∙ by (start_around gs a)
      where
        by : (o : Option ℕ) → named_weight (option_and_then (first_named e.symbols.items) o)
            ≡ named_weight (option_and_then (first_named e'.symbols.items) o)
        by None = refl
        by (Some start) = same_first start

    pub same_names : (cold cold' : List ℕ) → cold ≡ cold' → name_weight e fs cold ≡ name_weight e' gs cold'
    same_names cold cold' is =
        let renamed = summed bare section_weight e.sections.items ∙ ap (sum_by section_weight) alike.sections
        ∙ sym (summed bare section_weight e'.sections.items) in λ i.
        capped (64 + sections_names i + symbols_names i + renamed i + sum_by (λ a. weighed a i) (is i))

    -- Room.

    in_block : (f : Fde) (b : Block) → is_block_in fs f b ≡ is_block_in gs f b
    in_block f b =
        same_at view fs gs same
        (λ (v : View). list_any (λ (p : Placed). is_in_range f p.addr) (take (b.last + 1 - b.first) (drop b.first v.3))) false b.func

    entries_need : (blocks : List Block) (t : Frames) → need_of fs blocks t ≡ need_of gs blocks t
    entries_need blocks t = λ i.
        64 + 64 * t.cies
        + sum_by (λ f. (length (filter (λ b. in_block f b i) blocks) + row_count f + bound_count t.list f) * piece_size f) t.list

    frames_need : (blocks : List Block) → frame_need e fs blocks ≡ frame_need e' gs blocks
    frames_need blocks =
        let there = sym (some_image bare (section_called e.sections.items (codes ".eh_frame")))
        ∙ ap is_some (called (codes ".eh_frame")) ∙ some_image bare (section_called e'.sections.items (codes ".eh_frame")) in
        let table : eh_frames e ≡ eh_frames e' = λ i. frames_of false (same_held e e' alike (codes ".eh_frame") i) in
        (λ i. if there i then entries_need blocks (table i) i else 0)

    pub same_need : (blocks : List Block) → need e fs blocks ≡ need e' gs blocks
    same_need blocks = λ i. capped (sum_by (λ b. same_worst fs gs same b i) blocks + frames_need blocks i)
