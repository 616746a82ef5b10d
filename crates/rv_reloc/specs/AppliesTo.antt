-- The sections that a relocation applies to, as far as they are kept.
use Rattle.std.specs.Prelude.{ℕ, ◌+◌, nat_lt, if◌then◌else◌, List, [], ◌∷◌}
use Rattle.elf_image.specs.declared.section.Section.{Section}
use Rattle.rv_reloc.specs.declared.applies_to.AppliesTo.{AppliesTo}
use Rattle.rv_reloc.specs.declared.applies_to.AppliesTo.TheVariants.{One, Several}

abbrev pub end_of : Section → ℕ
end_of s = s.addr + s.size

abbrev pub sections_of : AppliesTo → List Section
sections_of (One s) = s.now ∷ []
sections_of (Several last first) = last.now ∷ first.now ∷ []

-- The section that starts last, and the section that ends first.
abbrev pub last_start : AppliesTo → Section
last_start (One s) = s.now
last_start (Several last first) = last.now

abbrev pub first_end : AppliesTo → Section
first_end (One s) = s.now
first_end (Several last first) = first.now

-- Of two sections, the one that starts later, and the one that ends earlier.

abbrev pub later_start : Section → Section → Section
later_start s t = if nat_lt s.addr t.addr then t else s

abbrev pub sooner_end : Section → Section → Section
sooner_end s t = if nat_lt (end_of t) (end_of s) then t else s

-- The kept sections of two lists of sections together.
abbrev pub joined : AppliesTo → AppliesTo → List Section
joined a b = later_start (last_start a) (last_start b) ∷ sooner_end (first_end a) (first_end b) ∷ []
