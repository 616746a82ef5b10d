use Rattle.std.proofs.Common.{◌≡◌, ◌∙◌, ◌<◌, ◌^◌, ℕ, List, All, false, arith, refl, sym, subst, length, rules, nat_cmp}
use Rattle.std.specs.Prelude.{flat_map}
use Rattle.std.proofs.lemmas.List.{nil_from_length}
use Rattle.std.specs.List.{list_any}
use Rattle.std.specs.BTreeMap.{get}
use Rattle.rb_bytes.specs.FirstFault.{IsFree}
use Rattle.elf_image.specs.declared.elf.Elf.{Elf}
use Rattle.table_core.specs.DebugUnits.{walked}
use Rattle.table_core.specs.declared.written.ListAt.{ListAt}
use Rattle.dw_unit.specs.Changes.{changed_abbrevs}
use Rattle.dw_unit.specs.ChangedEntries.{AreChangedUnits}
use Rattle.dw_unit.specs.CompUnits.{Sections}
use Rattle.dw_unit.specs.EntryChanges.{AreBehind}
use Rattle.dw_unit.specs.EntryMoves.{Moves}
use Rattle.dw_unit.specs.Declarations.{has_bad_high}
use Rattle.dw_unit.specs.Faults.{HasDwarfFault, declarations_of, unit_fault_places}
use Rattle.dw_unit.specs.OwnPlaces.{AllRead}
use Rattle.dw_unit.specs.Tables.{AreChanged, sections_of}
use Rattle.dw_unit.proofs.AbbrevSizes.{abbrevs_size}
use Rattle.dw_unit.proofs.Changeable.{AreSmall}
use Rattle.dw_unit.proofs.NewSections.{all_can_read, no_bad_high, units_behind, units_changed, written, written_sound}
use Rattle.dw_unit.proofs.SmallMoves.{lists_small, moved_small}
use Rattle.dw_unit.proofs.WalkSteps.{ok_map2}
use Rattle.dw_unit.proofs.NoUnits.{unchanged}
use Rattle.dw_unit.proofs.changes.change.Goals as goal
use Rattle.dw_unit.proofs.changes.change.Goals.{then-is_empty, else-is_empty}

pub changed_sections-requires-clause-behind : goal.changed_sections-requires-clause-behind
changed_sections-requires-clause-behind c =
    subst (λ (l : List ℕ). AreBehind 0 (length l) (walked 5 l)) (sym c.contents_of-info.ensures)
    (units_behind (sections_of c.args.elf.now) c.requires.sound)

pub changed_sections-requires-clause-read : goal.changed_sections-requires-clause-read
changed_sections-requires-clause-read c =
    subst (λ (l : List ℕ). AllRead c.contents_of-abbrevs.result.now (walked 5 l)) (sym c.contents_of-info.ensures)
    (subst (λ (l : List ℕ). AllRead l (walked 5 (sections_of c.args.elf.now).info)) (sym c.contents_of-abbrevs.ensures)
    (all_can_read (sections_of c.args.elf.now) c.requires.sound))

pub changed_sections-requires-clause-fine : goal.changed_sections-requires-clause-fine
changed_sections-requires-clause-fine c =
    subst (λ (l : List ℕ). list_any has_bad_high (flat_map (declarations_of c.contents_of-abbrevs.result.now) (walked 5 l)) ≡ false)
    (sym c.contents_of-info.ensures)
    (subst (λ (l : List ℕ). list_any has_bad_high (flat_map (declarations_of l) (walked 5 (sections_of c.args.elf.now).info)) ≡ false)
    (sym c.contents_of-abbrevs.ensures)
    (no_bad_high (sections_of c.args.elf.now) c.requires.sound))

pub returns-then-has_neither : goal.returns-then-has_neither
returns-then-has_neither c = elim c.if-is_empty.branch [
  | then-is_empty w ↦
      let none : length c.contents_of-info.result.now ≡ 0 = search rules in
      let tables : length c.contents_of-addr.result.now ≡ 0 = search rules in
      rw (c.new.ensures.items, c.new-then-has_neither.ensures.items) (unchanged c.args.elf.now c.args.map.now c.args.lists.now
      (sym c.contents_of-info.ensures ∙ nil_from_length c.contents_of-info.result.now none)
      (sym c.contents_of-addr.ensures ∙ nil_from_length c.contents_of-addr.result.now tables))
  | else-is_empty w ↦ absurd (search rules)
]

pub returns : goal.returns
returns c =
    let s : Sections = sections_of c.args.elf.now in
    let m : Moves = record { spans = c.args.map.now; lists = c.in_ok-lists.lists; call_end = get nat_cmp c.in_ok-call_ends.call_ends } in
    let lists : c.in_ok-lists.lists ≡ c.args.lists.now = c.in_ok-lists.ensures in
    let low : All (λ (l : ListAt). l.offset < 2 ^ 32) c.in_ok-lists.lists = subst
    (λ (ls : List ListAt). All (λ (l : ListAt). l.offset < 2 ^ 32) ls) (sym lists) c.requires.low in
    let small : AreSmall m = record {
      moved = λ a b e. moved_small c.args.map.now a b c.in_ok-call_ends.ensures.below e;
      call_end = λ a b e. c.in_ok-call_ends.ensures.ends.below a b e;
      lists = λ entry attr o e. lists_small c.in_ok-lists.lists entry attr o low e;
    } in
    let free : IsFree (HasDwarfFault (unit_fault_places s)) = c.requires.sound in
    let low_size : length (changed_abbrevs s) < 2 ^ 32 = let size = abbrevs_size s in let light = c.requires.light in omega arith in
    ok_map2 c.changed_sections.result _ _ _ (λ w info abbrevs.
    let abbrevs_are : w.1.items ≡ changed_abbrevs s = abbrevs s (sym c.contents_of-info.ensures) (sym c.contents_of-abbrevs.ensures) free in
    let of : (f : Elf) → AreChanged m c.args.elf.now f → written s m small free low_size ≡ sections_of f =
    λ f e i. record { info = sym e.info i; abbrevs = sym e.abbrevs i; addr = sym e.addr i } in
    record {
      moves = m;
      are_moves = record {
        spans_are = refl;
        call_end_is = c.in_ok-call_ends.ensures.ends.is;
        no_call_end = c.in_ok-call_ends.ensures.ends.none;
      };
      lists_are = lists;
      info_is = info s m (sym c.contents_of-info.ensures) (sym c.contents_of-abbrevs.ensures) free
          (record { spans = refl; lists = refl; call_end = λ a. refl });
      abbrevs_are = abbrevs_are;
      units_are = λ f e. subst (λ (t : Sections). AreChangedUnits s m t) (of f e) (units_changed s m small free low_size);
      sound = λ f e. subst (λ (t : Sections). IsFree (HasDwarfFault (unit_fault_places t))) (of f e)
          (written_sound s m small free low_size);
    })
    c.changed_sections.ensures.info c.changed_sections.ensures.abbrevs
