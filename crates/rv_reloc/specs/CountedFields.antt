-- The fields that count among those that can be cells, as a sweep finds them.
use Rattle.std.specs.Prelude.{◌≡◌, ◌⊎◌, ◌<◌, ◌≤◌, ◌+◌, ℕ, ◌<ℤ◌, ◌≤ℤ◌, true, List, Contains, AllPairs}
use Rattle.elf_image.specs.declared.elf.Elf.{Elf}
use Rattle.elf_code.specs.Cells as cells
use Rattle.elf_code.specs.Cells.{CanBeCell, Counts, IsFieldBefore}
use Rattle.rv_reloc.specs.declared.sweep.Candidate.{Candidate}
use Rattle.rv_reloc.specs.declared.sweep.Content.{Content}
use Rattle.rv_reloc.specs.declared.sweep.Content.TheVariants.{Address, Difference}

abbrev pub content : Content → cells.Content
content (Address to) = cells.Address to
content (Difference to from) = cells.Difference to from

abbrev pub as_field : Candidate → cells.Field
as_field c = record { place = c.place; width = c.width; content = content c.content }

-- The sort order by place, width and content. It also distinguishes two addresses.

abbrev pub IsContentUpTo : cells.Content → cells.Content → Type 0
IsContentUpTo (cells.Address to) (cells.Address to') = to ≤ to'
IsContentUpTo (cells.Address to) (cells.Difference to' from') = Unit {0}
IsContentUpTo (cells.Difference to from) (cells.Address to') = ⊥
IsContentUpTo (cells.Difference to from) (cells.Difference to' from') = (to <ℤ to') ⊎ ((to ≡ to') × (from ≤ℤ from'))

abbrev pub IsKeyUpTo : cells.Field → cells.Field → Type 0
IsKeyUpTo f g =
    (f.place < g.place)
    ⊎ ((f.place ≡ g.place) × ((g.width < f.width) ⊎ ((f.width ≡ g.width) × IsContentUpTo f.content g.content)))

-- The field comes before another, or is equal to it.
abbrev pub IsFieldUpTo : cells.Field → cells.Field → Type 0
IsFieldUpTo f g = IsFieldBefore f g ⊎ (f ≡ g)

-- All fields that can be cells, sorted. A field may occur several times.
pub record AreCandidates (elf : Elf) (tabled : List (ℕ × ℕ)) (fields : List cells.Field) : Type 0 where
  pub only : (f : cells.Field) → Contains fields f → CanBeCell elf tabled f
  pub each : (f : cells.Field) → CanBeCell elf tabled f → Contains fields f
  pub ordered : AllPairs IsFieldUpTo fields
  pub has_bytes : (f : cells.Field) → Contains fields f → 0 < f.width

-- The fields that count, by address, with no byte in two of them.
pub record AreCounted (elf : Elf) (tabled : List (ℕ × ℕ)) (fields : List cells.Field) : Type 0 where
  pub only : (f : cells.Field) → Contains fields f → Counts elf tabled f true
  pub each : (f : cells.Field) → Counts elf tabled f true → Contains fields f
  pub ordered : AllPairs (λ f g. f.place + f.width ≤ g.place) fields
