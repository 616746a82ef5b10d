-- Relations between the sections that were read and the headers in the file.
use Rattle.std.proofs.Common.{◌≡◌, ◌∙◌, sym, refl, ℕ, ◌+◌, ◌<◌, ◌≤◌, ⊎_elim, List, length, get_or, arith}
use Rattle.std.proofs.lemmas.Option.{slice_get-get_or}
use Rattle.elf_image.specs.declared.section.Section.{Section}
use Rattle.elf_image.specs.declared.relocation.TheConstants.{SHT_RELA}
use Rattle.elf_image.specs.declared.section.TheConstants.{SHT_NOBITS}
use Rattle.elf_image.specs.file.Header.{e_shnum}
use Rattle.elf_image.specs.faults.FileFaults.{is_compressed}
use Rattle.elf_image.specs.file.ParsedFile.{IsSectionAt, AreSections}
use Rattle.elf_image.specs.file.Sections.{section_header, section_name}
use Rattle.elf_image.specs.faults.Truncation.{IsReadable}

-- The section with an index.
pub section-at : (file : List ℕ) (count : ℕ) (sections : List Section) (i : ℕ) (d : Section) → AreSections file count sections →
    i < length sections → IsSectionAt file i (get_or sections i d)
section-at file count sections i d are within = are.each i (get_or sections i d) (slice_get-get_or sections i d within)

-- Whether the section is compressed.
pub is_compressed-same : (file : List ℕ) (i : ℕ) (s : Section) → IsSectionAt file i s →
    is_compressed s.flags s.name.now ≡ is_compressed (section_header file i).flags (section_name file i)
is_compressed-same file i s at = rw (at.flags, at.name) refl

-- Relocation tables are completely in the file.
pub tables-whole : (file : List ℕ) (sections : List Section) → IsReadable file → AreSections file (e_shnum file) sections →
    (i : ℕ) (d : Section) → i < length sections → (get_or sections i d).kind ≡ SHT_RELA → 0 < (get_or sections i d).size →
    (get_or sections i d).offset + (get_or sections i d).size ≤ length file
tables-whole file sections readable are i d within kind some =
    let at = section-at file (e_shnum file) sections i d are within in
    let count = are.count_is in
    let size = at.size in
    let offset = at.offset in
    ⊎_elim
    (λ (no_bits : (section_header file i).kind ≡ SHT_NOBITS). let e : SHT_RELA ≡ SHT_NOBITS = sym kind ∙ at.kind ∙ no_bits in
    absurd (omega arith))
    (λ whole. ⊎_elim (λ none. absurd (omega arith)) (λ inside. omega arith) whole)
    (readable.contents i (omega arith))
