-- The tables that are given are in the written file.
use Rattle.std.proofs.Common.{◌≡◌, ℕ, List, Option, Some, None, Bool, true, false, refl, sym, ap, ◌∙◌, subst, arith}
use Rattle.std.specs.Prelude.{find, if◌then◌else◌, is_none, is_some, slice_get, position, IfSome, IsSomeAnd, IsTrue, String, Vec}
use Rattle.std.specs.Prelude.{string_bytes, codes}
use Rattle.std.specs.Option.{option_map_or}
use Rattle.std.specs.Str.{bytes_eq}
use Rattle.std.proofs.lemmas.Bool.{and_parts}
use Rattle.std.proofs.lemmas.List.Elements.{All-contains}
use Rattle.std.proofs.lemmas.Option.{slice_get_within}
use Rattle.rb_bytes.proofs.ListLemmas.{slice_get_found}
use Rattle.rb_bytes.proofs.Searches.{find-found}
use Rattle.elf_image.specs.declared.elf.Elf.{Elf}
use Rattle.elf_image.specs.declared.section.Section.{Section}
use Rattle.elf_image.specs.file.SectionNames.{is_called, names_debug, section_called}
use Rattle.elf_plan.specs.declared.area.Area.{Area}
use Rattle.elf_plan.specs.declared.area.Shift.{Shift}
use Rattle.elf_plan.specs.Contents.{place_replaced, section_bytes}
use Rattle.elf_plan.specs.NewSections.{AreNewSections, bytes_called}
use Rattle.elf_write.specs.TablePlaces.{ArePlaced, Holds, HoldsAt, KeepsTables, TablesStand, has_place, is_given, takes_table}
use Rattle.elf_write.specs.TablePlaces.{takes_table_at}
use Rattle.elf_write.proofs.AddedSections.{absent_stays, ranges_stand}
use Rattle.elf_write.proofs.AreaTables.{frames_stand, index_stands, no_frames_stand}
use Rattle.elf_write.proofs.GivenTables.{FirstAt, first_at, given_stands, new_called, no_frames, same_bytes}
use Rattle.elf_write.proofs.OtherTables.{other_stands}

-- an option that holds something
some_value : {X : Type 0} (o : Option X) → is_some o ≡ true → (x : X) × (o ≡ Some x)
some_value (Some x) h = (x, refl)
some_value None h = absurd (cc)

none_value : {X : Type 0} (o : Option X) → is_none o ≡ true → o ≡ None
none_value (Some x) h = absurd (cc)
none_value None h = refl

if_each : {X : Type 0} (o : Option X) (P : X → Type 0) → ((x : X) → o ≡ Some x → P x) → IfSome o P
if_each (Some x) P h = h x refl
if_each None P h = tt

module _ {Y Z : Type 0} (elf new : Elf) (tables : List (String Y × Vec ℕ Z)) (area : Area) (shift : Shift) (code : List ℕ)
    (are : AreNewSections elf new tables area shift code) (placed : ArePlaced elf tables) (keeps : KeepsTables elf) where
  module _ (name : List ℕ) (debug : names_debug name ≡ true) (table : String Y × Vec ℕ Z)
      (found : find (λ t. bytes_eq (string_bytes t.0) name) tables ≡ Some table) (s : Section)
      (called : section_called elf.sections.items name ≡ Some s) where
    first : FirstAt (is_called name) elf.sections.items s
    first = first_at (is_called name) elf.sections.items s called

    replaces : place_replaced elf.sections.items name ≡ Some first.i
    replaces =
        ap (λ (b : Bool). if b then None else position (is_called name) elf.sections.items) (no_frames name debug) ∙ first.place

    takes : takes_table elf first.i s ≡ true
    takes =
        let given = find-found (λ (t : String Y × Vec ℕ Z). bytes_eq (string_bytes t.0) name) tables table found in
        let all = All-contains (λ (t : String Y × Vec ℕ Z). IsTrue (has_place elf (string_bytes t.0))) tables table placed given.1 in
        let here : has_place elf name ≡ true =
        ap (has_place elf) (sym (same_bytes (string_bytes table.0) name given.0)) ∙ all in
        sym (ap (λ (o : Option Section). option_map_or (takes_table elf first.i) o false) first.at)
        ∙ sym (ap (λ (o : Option ℕ). option_map_or (takes_table_at elf) o true) replaces) ∙ here

    holds : (n : Section) → slice_get new.sections.items first.i ≡ Some n → Holds new name (bytes_called tables name)
    holds n at_new =
        subst (λ (o : Option Section). IsSomeAnd o (λ m. section_bytes new.file.now m ≡ bytes_called tables name))
        (sym (new_called elf new tables area shift code are name debug first.i first.place s n first.at at_new))
        (given_stands elf new tables area shift code are name debug first.i first.place s n first.at at_new
        table found takes)

  debug_stands : (name : List ℕ) → names_debug name ≡ true → is_given tables name ≡ true →
      is_some (section_called elf.sections.items name) ≡ true → Holds new name (bytes_called tables name)
  debug_stands name debug given called =
      let (table, found) = some_value (find (λ (t : String Y × Vec ℕ Z). bytes_eq (string_bytes t.0) name) tables) given in
      let (s, is) = some_value (section_called elf.sections.items name) called in
      let f = first name debug table found s is in
      let within = slice_get_within elf.sections.items f.i s f.at in
      let count = are.count in
      let n = slice_get_found new.sections.items f.i (omega (arith, within, count)) in
      holds name debug table found s is n.0 n.1

  others_stand : (name : List ℕ) → names_debug name ≡ true → is_given tables name ≡ false →
      bytes_eq name (codes ".debug_macro") ≡ false → (s : Section) → section_called elf.sections.items name ≡ Some s →
      Holds new name (section_bytes elf.file.now s)
  others_stand name debug not_given other s is =
      let f = first_at (is_called name) elf.sections.items s is in
      let within = slice_get_within elf.sections.items f.i s f.at in
      let count = are.count in
      let n = slice_get_found new.sections.items f.i (omega (arith, within, count)) in
      other_stands elf new tables area shift code are keeps name debug not_given other s f n.0 n.1

  pub stand : TablesStand elf new tables area
  stand = record {
    frames = if_each area.frames (λ a. HoldsAt new (codes ".eh_frame") a (bytes_called tables (codes ".eh_frame")))
        (frames_stand elf new tables area shift code are);
    no_frames = no_frames_stand elf new tables area shift code are;
    index = if_each area.frames (λ a. IfSome area.index
        (λ b. HoldsAt new (codes ".eh_frame_hdr") b (bytes_called tables (codes ".eh_frame_hdr"))))
        (λ a at_a. if_each area.index
        (λ b. HoldsAt new (codes ".eh_frame_hdr") b (bytes_called tables (codes ".eh_frame_hdr")))
        (index_stands elf new tables area shift code are a at_a));
    debug = debug_stands;
    others = λ name debug not_given other.
        if_each (section_called elf.sections.items name) (λ s. Holds new name (section_bytes elf.file.now s))
        (others_stand name debug not_given other);
    ranges = λ adds. ranges_stand elf new tables area shift code are adds
        (none_value (section_called elf.sections.items (codes ".debug_rnglists"))
        (and_parts (is_given tables (codes ".debug_rnglists"))
        (is_none (section_called elf.sections.items (codes ".debug_rnglists"))) adds).1);
    absent = λ name debug absent differs. absent_stays elf new tables area shift code are name debug absent differs;
  }
