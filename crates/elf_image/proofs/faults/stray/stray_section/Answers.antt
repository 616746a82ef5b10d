use Rattle.std.proofs.Common.{◌≢◌, ◌+◌, ◌↔◌, subst, IsTrue}
use Rattle.elf_image.specs.declared.section.SectionHeader.{SectionHeader}
use Rattle.elf_image.specs.file.Sections.{section_header, holds_code}
use Rattle.elf_image.specs.internal.Extents.{IsInOneExtent}
use Rattle.elf_image.proofs.LowestPlaces.{IsLowest-place}
use Rattle.elf_image.proofs.ReachLemmas.{IsStray-same}
use Rattle.elf_image.proofs.faults.stray.stray_section.Goals as goal

pub returns : goal.returns
returns c =
    let file = c.args.headers.file.now in
    let Says : SectionHeader → Type 0 =
    λ s. IsTrue c.is_stray-is_wrong.result
    ↔ (IsTrue (holds_code s.flags) × (s.size ≢ 0) × (IsInOneExtent c.args.reaches.now s.addr (s.addr + s.size) → ⊥)) in
    IsLowest-place _ _ _ _ _ c.place_if.ensures c.place.ensures
    (IsStray-same file c.args.reaches.now (section_header file c.args.index) _ c.requires.covered
    (subst Says c.section_of.ensures c.is_stray-is_wrong.ensures))
