-- Lists without some of the relocations that only differ from others in their sections.
use Rattle.std.specs.Prelude.{◌≡◌, ◌≤◌, ◌⊎◌, Bool, List, Contains}
use Rattle.std.specs.List.{count_by}
use Rattle.elf_image.specs.declared.section.Section.{Section}
use Rattle.elf_code.specs.Relocations.{Relocation}
use Rattle.rv_reloc.specs.AppliesTo.{end_of}

-- The relocation, for another section.
abbrev pub for_section : Section → Relocation → Relocation
for_section s r = record r { section = s }

-- For each relocation, `kept` has one for a section that starts at the same address or later, and one for a section
-- that ends at the same address or earlier. For each test that ignores sections, both lists have the same number of
-- passing relocations, or both have at least two.
pub record IsThinned (full kept : List Relocation) : Type 0 where
  pub back : (r : Relocation) → Contains kept r → Contains full r
  pub starts : (r : Relocation) → Contains full r → (s : Section) × Contains kept (for_section s r)
      × (r.section.addr ≤ s.addr)
  pub ends : (r : Relocation) → Contains full r → (s : Section) × Contains kept (for_section s r)
      × (end_of s ≤ end_of r.section)
  pub counts : (test : Relocation → Bool) → ((s : Section) (r : Relocation) → test (for_section s r) ≡ test r) →
      (count_by test kept ≡ count_by test full) ⊎ ((2 ≤ count_by test kept) × (2 ≤ count_by test full))
