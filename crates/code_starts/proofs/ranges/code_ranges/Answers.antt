use Rattle.std.proofs.Common.{◌≡◌, ◌<◌, ◌+◌, ◌↔◌, ◌∙◌, ap, ℕ, List, Result, Ok, Err, IfOk, map}
use Rattle.std.specs.List.{filter}
use Rattle.elf_image.specs.declared.section.Section.{Section}
use Rattle.elf_image.specs.declared.elf.Elf.{Elf}
use Rattle.elf_image.specs.declared.extent.Extent.{Extent}
use Rattle.elf_image.specs.file.Sections.{holds_code}
use Rattle.elf_code.specs.Parts.{IsInCode}
use Rattle.elf_image.specs.internal.Extents.{IsInOneExtent}
use Rattle.code_starts.specs.declared.ranges.Ranges.{Ranges}
use Rattle.code_starts.specs.Ranges.{section_extent}
use Rattle.code_starts.proofs.RangeLists.{IsInOneExtent-code}
use Rattle.code_starts.proofs.ranges.code_ranges.Goals as goal

asked : {E : Type 0} (elf : Elf) (extents : List Extent) (r : Result Ranges E) →
    extents ≡ map section_extent (filter (λ s. holds_code s.flags) elf.sections.items) →
    IfOk r (λ x. (a e : ℕ) → a < e → IsInOneExtent x.reaches.items a e ↔ IsInOneExtent extents a e) →
    IfOk r (λ x. (a : ℕ) → IsInOneExtent x.reaches.items a (a + 1) ↔ IsInCode elf a)
asked elf extents (Ok x) are same = IsInOneExtent-code elf x.reaches.items extents same are
asked elf extents (Err e) are same = same

pub returns : goal.returns
returns c =
    let are = c.in_ok-section_extents.ensures
    ∙ ap (λ (ss : List Section). map section_extent (filter (λ s. holds_code s.flags) ss)) c.deref.ensures.value in
    asked c.args.elf.now _ c.new.result are c.new.ensures
