-- The ranges of code with exception tables depend only on the file, not on the reading of it.
use Rattle.std.proofs.Common.{◌≡◌, ◌∙◌, refl, sym, ap, ℕ, List, [], ◌∷◌, Some, Bool, true, false, map, filter}
use Rattle.std.specs.Prelude.{if◌then◌else◌, codes, nat_lt}
use Rattle.elf_image.specs.declared.elf.Elf.{Elf}
use Rattle.elf_image.specs.declared.section.Section.{Section}
use Rattle.elf_image.specs.file.ParsedFile.{IsElfOf}
use Rattle.elf_image.specs.file.SectionNames.{is_called, section_called}
use Rattle.elf_readings.proofs.Alike.{Alike, bare}
use Rattle.elf_readings.proofs.Readings.{readings_alike}
use Rattle.table_core.specs.Sections.{Held, held, held_by}
use Rattle.cfi_rows.specs.Entries.{Fde}
use Rattle.cfi_rows.specs.Frames.{frames_of, tabled}

-- the contents of a section don't depend on the index of its name
bare_held : (name file : List ℕ) (xs : List Section) →
    held_by file (section_called xs name) ≡ held_by file (section_called (map bare xs) name)
bare_held name file [] = refl
bare_held name file (x ∷ xs) = by (is_called name x) (bare_held name file xs)
  where
    by : (b : Bool) → held_by file (section_called xs name) ≡ held_by file (section_called (map bare xs) name) →
        held_by file (if b then Some x else section_called xs name)
        ≡ held_by file (if b then Some (bare x) else section_called (map bare xs) name)
    by true rest = refl
    by false rest = rest

pub same_held : (e e' : Elf) → Alike e e' → (name : List ℕ) → held e name ≡ held e' name
same_held e e' a name =
    bare_held name e.file.now e.sections.items
    ∙ ap (λ (xs : List Section). held_by e.file.now (section_called xs name)) a.sections
    ∙ sym (bare_held name e.file.now e'.sections.items)
    ∙ ap (λ (file : List ℕ). held_by file (section_called e'.sections.items name)) a.file

pub same_tabled : (file : List ℕ) (e e' : Elf) → IsElfOf file e → IsElfOf file e' → tabled e ≡ tabled e'
same_tabled file e e' read read' =
    ap (λ (h : Held). map (λ (f : Fde). (f.start, f.end)) (filter (λ (f : Fde). nat_lt 0 f.table) (frames_of false h).list))
    (same_held e e' (readings_alike file e e' read read') (codes ".eh_frame"))
