-- A debug table for which none is given keeps its contents in a written file.
use Rattle.std.proofs.Common.{◌≡◌, ℕ, List, [], Option, Some, None, Bool, true, false, refl, sym, ap, ◌∙◌, subst}
use Rattle.std.specs.Prelude.{◌+◌, ◌==◌, ◌&&◌, ◌||◌, not, find, IsSomeAnd, if◌then◌else◌, is_some, slice_get, String, Vec, string_bytes}
use Rattle.std.specs.Prelude.{codes, drop, take}
use Rattle.std.specs.Option.{option_map_or}
use Rattle.std.specs.Str.{bytes_eq}
use Rattle.std.proofs.lemmas.Bool.{and_parts, eqb-true}
use Rattle.std.proofs.lemmas.List.Quantifiers.{position-Some}
use Rattle.std.proofs.lemmas.Option.{slice_get_within, get_or_from_slice_get}
use Rattle.elf_image.specs.declared.elf.Elf.{Elf}
use Rattle.elf_image.specs.declared.section.Section.{Section}
use Rattle.elf_image.specs.declared.section.TheConstants.{SHT_NOBITS}
use Rattle.elf_image.specs.file.Header.{e_shstrndx}
use Rattle.elf_image.specs.file.SectionNames.{is_called, is_loaded, is_meant_by, names_debug}
use Rattle.elf_image.specs.file.Sections.{holds_code}
use Rattle.elf_plan.specs.declared.area.Area.{Area}
use Rattle.elf_plan.specs.declared.area.Shift.{Shift}
use Rattle.elf_plan.specs.declared.section_bytes.TheConstants.{SHT_NULL}
use Rattle.elf_plan.specs.declared.sections.Contents.{Contents}
use Rattle.elf_plan.specs.declared.sections.Contents.TheVariants.{Dropped, Inactive, Kept, Copied, SectionNames, Symbols, SymbolNames}
use Rattle.elf_plan.specs.declared.sections.Contents.TheVariants.{Given}
use Rattle.elf_plan.specs.Contents.{contents_of, is_at, is_inactive, is_left_out, own_contents, place_replaced, section_bytes, stays}
use Rattle.elf_plan.specs.Contents.{table_for}
use Rattle.elf_plan.specs.NameTables.{place_of_names, place_of_symbols}
use Rattle.elf_plan.specs.NewSections.{AreNewSections, Follows}
use Rattle.elf_write.specs.TablePlaces.{Holds, KeepsTables, is_debug_table, is_given, keeps_table, takes_table}
use Rattle.elf_write.proofs.GivenTables.{FirstAt, new_called, no_frames, not_found, same_bytes, same_table}

-- one that is none of names or symbols, isn't left out, and is given no table, has its own contents
own_by : (a b c d : Bool) (own : Contents) (table : Option ℕ) → table ≡ None → (not (a || (b || c)) && not d) ≡ true →
    (if a then SectionNames else if b then Symbols else if c then SymbolNames else if d then Dropped
    else option_map_or Given table own) ≡ own
own_by true b c d own table none h = absurd (cc)
own_by false true c d own table none h = absurd (cc)
own_by false false true d own table none h = absurd (cc)
own_by false false false true own table none h = absurd (cc)
own_by false false false false own table none h = ap (λ (o : Option ℕ). option_map_or Given o own) none

is_none : {X : Type 0} (o : Option X) → is_some o ≡ false → o ≡ None
is_none None h = refl
is_none (Some x) h = absurd (cc)

all_of : (a b c : Bool) → a ≡ true → b ≡ true → c ≡ false → (a && (b && not c)) ≡ true
all_of true true false a b c = refl
all_of false b c h k l = absurd (cc)
all_of true false c h k l = absurd (cc)
all_of true true true h k l = absurd (cc)

no_bytes : (w : List ℕ) (n : Section) → n.size ≡ 0 → section_bytes w n ≡ []
no_bytes w n e = by (n.kind == SHT_NOBITS)
  where
    by : (b : Bool) → (if b then [] else take n.size (drop n.offset w)) ≡ []
    by true = refl
    by false = ap (λ (k : ℕ). take k (drop n.offset w)) e

no_bits : (w : List ℕ) (n : Section) → (n.kind == SHT_NOBITS) ≡ true → section_bytes w n ≡ []
no_bits w n e = ap (λ (b : Bool). if b then [] else take n.size (drop n.offset w)) e

module _ {Y Z : Type 0} (tables : List (String Y × Vec ℕ Z)) (shift : Shift) (file w : List ℕ) (s n : Section) where
  -- contents of a section that isn't loaded are copied, or there are none
  kept_bytes : (inactive bits loaded held : Bool) → is_inactive s ≡ inactive → (s.kind == SHT_NOBITS) ≡ bits → loaded ≡ false →
      Follows tables shift file w (if inactive then Inactive else if bits then Kept else if loaded && held then Kept else Copied) s n →
      section_bytes w n ≡ section_bytes file s
  kept_bytes true bits loaded held inactive b l f =
      let empty : s.size ≡ 0 = eqb-true s.size 0 ((and_parts (s.kind == SHT_NULL) (s.size == 0) inactive).1) in
      no_bytes w n (f.size ∙ empty) ∙ sym (no_bytes file s empty)
  kept_bytes false true loaded held i b l f =
      no_bits w n (ap (λ (k : ℕ). k == SHT_NOBITS) f.kind ∙ b) ∙ sym (no_bits file s b)
  kept_bytes false false true held i b l f = absurd (cc)
  kept_bytes false false false held i b l f = f.contents.contents

module _ {Y Z : Type 0} (elf new : Elf) (tables : List (String Y × Vec ℕ Z)) (area : Area) (shift : Shift) (code : List ℕ)
    (are : AreNewSections elf new tables area shift code) (keeps : KeepsTables elf)
    (name : List ℕ) (debug : names_debug name ≡ true) (not_given : is_given tables name ≡ false)
    (other : bytes_eq name (codes ".debug_macro") ≡ false)
    (s : Section) (first : FirstAt (is_called name) elf.sections.items s) where
  called : is_called name s ≡ true
  called =
      let h = position-Some (is_called name) elf.sections.items first.i s first.place in
      ap (is_called name) (sym (get_or_from_slice_get elf.sections.items first.i s s first.at)) ∙ h.1

  named : s.name.now ≡ name
  named = same_bytes s.name.now name ((and_parts (bytes_eq s.name.now name) (is_meant_by name s) called).0)

  meant : is_meant_by name s ≡ true
  meant = (and_parts (bytes_eq s.name.now name) (is_meant_by name s) called).1

  unloaded : is_loaded s ≡ false
  unloaded = by (is_loaded s) (sym (rw (no_frames name debug, debug) refl) ∙ meant)
    where
      by : (b : Bool) → (not b && not (holds_code s.flags)) ≡ true → b ≡ false
      by true h = absurd (cc)
      by false h = refl

  is_debug : is_debug_table s ≡ true
  is_debug =
      subst (λ (x : List ℕ). (names_debug x && (is_meant_by x s && not (bytes_eq x (codes ".debug_macro")))) ≡ true) (sym named)
      (all_of (names_debug name) (is_meant_by name s) (bytes_eq name (codes ".debug_macro")) debug meant other)

  takes : takes_table elf first.i s ≡ true
  takes =
      let here : option_map_or (keeps_table elf first.i) (slice_get elf.sections.items first.i) true ≡ true =
      keeps first.i (slice_get_within elf.sections.items first.i s first.at) in
      by (is_debug_table s) is_debug
      (sym (ap (λ (o : Option Section). option_map_or (keeps_table elf first.i) o true) first.at) ∙ here)
    where
      by : (b : Bool) → b ≡ true → (not b || takes_table elf first.i s) ≡ true → takes_table elf first.i s ≡ true
      by true e h = h
      by false e h = absurd (cc)

  module _ (n : Section) (at_new : slice_get new.sections.items first.i ≡ Some n) where
    no_table : table_for tables elf.sections.items first.i ≡ None
    no_table =
        not_found (λ (t : String Y × Vec ℕ Z). is_at first.i (place_replaced elf.sections.items (string_bytes t.0)))
        (λ (t : String Y × Vec ℕ Z). bytes_eq (string_bytes t.0) name) tables
        (is_none (find (λ (t : String Y × Vec ℕ Z). bytes_eq (string_bytes t.0) name) tables) not_given)
        (λ t. same_table elf new tables area shift code are name debug first.i first.place s n first.at at_new (string_bytes t.0))

    own : contents_of elf tables area shift first.i s ≡ own_contents elf.segments.items area shift s
    own =
        own_by (e_shstrndx elf.file.now == first.i) (is_at first.i (place_of_symbols elf)) (is_at first.i (place_of_names elf))
        (is_left_out s) (own_contents elf.segments.items area shift s) (table_for tables elf.sections.items first.i) no_table takes

    pub other_stands : Holds new name (section_bytes elf.file.now s)
    other_stands =
        let f : Follows tables shift elf.file.now new.file.now (own_contents elf.segments.items area shift s) s n =
        subst (λ (c : Contents). Follows tables shift elf.file.now new.file.now c s n) own (are.follows first.i s n first.at at_new) in
        let kept : section_bytes new.file.now n ≡ section_bytes elf.file.now s =
        kept_bytes tables shift elf.file.now new.file.now s n (is_inactive s) (s.kind == SHT_NOBITS) (is_loaded s)
        ((s.size == 0) || stays elf.segments.items area shift s.offset (s.offset + s.size)) refl refl unloaded f in
        subst (λ (o : Option Section). IsSomeAnd o (λ m. section_bytes new.file.now m ≡ section_bytes elf.file.now s))
        (sym (new_called elf new tables area shift code are name debug first.i first.place s n first.at at_new)) kept
