-- The relocations of a table, one by one.
use Rattle.std.proofs.Common.{◌≡◌, ◌∙◌, ap, refl, ℕ, List, [], ◌∷◌, ◌++◌, map, append_assoc}
use Rattle.std.proofs.Common.{None, slice_get, eq-eqb, Bool, true, false, if◌then◌else◌, ◌/◌}
use Rattle.std.proofs.lemmas.List.{map-append}
use Rattle.elf_image.specs.declared.section.Section.{Section}
use Rattle.elf_image.specs.declared.relocation.TheConstants.{RELA_SIZE, SHT_RELA}
use Rattle.elf_code.specs.Relocations.{Relocation, entries_from, entries_for, entries_of}
use Rattle.elf_image.specs.declared.elf.Elf.{Elf}
use Rattle.rv_reloc.specs.declared.records.Record.{Record}
use Rattle.rv_reloc.specs.Records.{seen, counts}

pub read_one : (was now : List Record) (r : Record) (left : List Relocation) (one : Relocation) →
    now ≡ was ++ r ∷ [] → seen r ≡ one → map seen now ++ left ≡ map seen was ++ one ∷ left
read_one was now r left one pushed is =
    ap (λ (rs : List Record). map seen rs ++ left) pushed
    ∙ ap (λ (rs : List Relocation). rs ++ left) (map-append seen was (r ∷ []))
    ∙ append_assoc (map seen was) (seen r ∷ []) left
    ∙ ap (λ (x : Relocation). map seen was ++ x ∷ left) is

-- A table that applies to no section.
pub entries_of-missing : (elf : Elf) (table : Section) → table.kind ≡ SHT_RELA → slice_get elf.sections.items table.info ≡ None →
    entries_of elf table ≡ []
entries_of-missing elf table kind none = rw (eq-eqb table.kind SHT_RELA kind, none) refl

-- A table without entries.
pub entries_for-empty : (elf : Elf) (table section : Section) → table.size ≡ 0 → entries_for elf table section ≡ []
unfolding entries_from
entries_for-empty elf table section none = by (counts section)
  where
    empty : entries_from elf.file.now section table.offset (table.size / RELA_SIZE) ≡ []
    empty = ap (λ (n : ℕ). entries_from elf.file.now section table.offset (n / RELA_SIZE)) none

    by : (b : Bool) → (if b then entries_from elf.file.now section table.offset (table.size / RELA_SIZE) else []) ≡ []
    by true = empty
    by false = refl
