use Rattle.std.proofs.Common.{◌≡◌, ◌∙◌, sym, refl, ℕ, List, Option, Some, None, IsSomeAnd, if◌then◌else◌, slice_get}
use Rattle.std.proofs.Common.{rules}
use Rattle.elf_image.specs.declared.section.Section.{Section}
use Rattle.elf_image.specs.faults.FileFaults.{IsCompressed, HasCompressed, is_compressed}
use Rattle.elf_image.specs.faults.LowestPlace.{IsLowest}
use Rattle.elf_image.specs.file.Header.{e_shnum}
use Rattle.elf_image.specs.file.ParsedFile.{AreSections}
use Rattle.elf_image.proofs.Folds.{IsLowest-of}
use Rattle.elf_image.proofs.LowestPlaces.{IsLowest-all, IsLowest-place}
use Rattle.elf_image.proofs.SectionLemmas.{is_compressed-same}
use Rattle.elf_image.proofs.faults.checks.lowest_compressed.Goals as goal

-- The result for an index, in a file with these sections.
found_at : (file : List ℕ) (sections : List Section) (i : ℕ) (r : Option ℕ) → AreSections file (e_shnum file) sections →
    IsSomeAnd (slice_get sections i) (λ s. r ≡ (if is_compressed s.flags s.name.now then Some i else None)) →
    IsLowest (IsCompressed file i) r
found_at file sections i r are given = by (slice_get sections i) refl given
  where
    by : (o : Option Section) → slice_get sections i ≡ o →
        IsSomeAnd o (λ s. r ≡ (if is_compressed s.flags s.name.now then Some i else None)) → IsLowest (IsCompressed file i) r
    by None e given = absurd given
    by (Some s) e given =
        let same = is_compressed-same file i s (are.each i s e) in
        IsLowest-place (HasCompressed file i) (is_compressed s.flags s.name.now) i i r given refl
        (λ holds. sym same ∙ holds, λ holds. same ∙ holds)

pub returns : goal.returns
returns c = λ file are.
    IsLowest-all (IsCompressed file) _ _ _ are.count_is
    (IsLowest-of (IsCompressed file) _ _ _
    (λ i r below gives.
    let given : IsSomeAnd (slice_get c.args.sections.now i)
    (λ s. r ≡ (if is_compressed s.flags s.name.now then Some i else None)) = search (rules, gives) in
    found_at file c.args.sections.now i r are given)
    c.lowest_below.ensures)
