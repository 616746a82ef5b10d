-- A section with the header of one that is added in the new area has its bytes, where these are there.
use Rattle.std.proofs.Common.{◌≡◌, ◌∙◌, ap, ℕ, List, [], length, take, drop}
use Rattle.std.specs.Prelude.{◌==◌, if◌then◌else◌}
use Rattle.elf_image.specs.declared.section.Section.{Section}
use Rattle.elf_image.specs.declared.section.TheConstants.{SHT_NOBITS}
use Rattle.elf_parts.specs.Patches.{Stands}
use Rattle.elf_parts.proofs.Patches.{take-stands}
use Rattle.elf_plan.specs.declared.area.Area.{Area}
use Rattle.elf_plan.specs.Area.{area_offset}
use Rattle.elf_plan.specs.Contents.{section_bytes}
use Rattle.elf_plan.specs.NewSections.{IsHeader, IsInArea}

pub in_area : (w : List ℕ) (area : Area) (name bytes : List ℕ) (flags addr align : ℕ) (n : Section) →
    IsHeader name flags addr align n → n.offset ≡ area_offset area addr → n.size ≡ length bytes →
    Stands w (area_offset area addr) bytes → IsInArea w area name bytes flags addr align n
in_area w area name bytes flags addr align n header offset size stands = record {
  added = record { header = header; contents = contents; size = size };
  offset = offset;
}
  where
    contents : section_bytes w n ≡ bytes
    contents =
        ap (λ (k : ℕ). if k == SHT_NOBITS then [] else take n.size (drop n.offset w)) header.kind
        ∙ ap (λ (m : ℕ). take m (drop n.offset w)) size
        ∙ ap (λ (o : ℕ). take (length bytes) (drop o w)) offset
        ∙ take-stands w (area_offset area addr) bytes stands
