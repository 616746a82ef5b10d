-- The relocations of a file, as the code keeps them.
use Rattle.std.specs.Prelude.{◌≡◌, ◌⊎◌, ◌<◌, ◌≤◌, ◌+◌, ◌&&◌, Bool, codes, not, ℕ, List, AllPairs, map, length}
use Rattle.std.specs.Prelude.{slice_index_or, ◌==◌, Option, IfSome, IsSomeAnd}
use Rattle.elf_image.specs.declared.elf.Elf.{Elf}
use Rattle.elf_image.specs.declared.section.Section.{Section}
use Rattle.elf_image.specs.declared.relocation.TheConstants.{SHT_RELA}
use Rattle.elf_code.specs.Cells.{IsOnly}
use Rattle.elf_code.specs.Relocations.{Relocation, relocations, is_named}
use Rattle.elf_image.specs.file.SectionNames.{is_loaded}
use Rattle.rv_reloc.specs.declared.records.Record.{Record}
use Rattle.rv_reloc.specs.Index.{class}
use Rattle.rv_reloc.specs.Thinned.{IsThinned}

-- The relocation that a record represents.
abbrev pub seen : Record → Relocation
seen r = record { place = r.place; kind = r.kind; symbol = r.symbol; addend = r.addend; section = r.section.now }

-- All of a relocation table is in the file.
abbrev pub IsContained : List ℕ → Section → Type 0
IsContained file s = s.kind ≡ SHT_RELA → 0 < s.size → s.offset + s.size ≤ length file

abbrev pub counts : Section → Bool
counts section = is_loaded section && not (is_named section (codes ".eh_frame"))

-- The order by place, and then by class.

abbrev pub class_of : Record → ℕ
class_of r = class r.kind

abbrev pub IsBelow : ℕ → ℕ → Record → Type 0
IsBelow place at r = (r.place < place) ⊎ ((r.place ≡ place) × (class_of r < at))

abbrev pub IsFrom : ℕ → ℕ → Record → Type 0
IsFrom place at r = (place < r.place) ⊎ ((place ≡ r.place) × (at ≤ class_of r))

abbrev pub AreInOrder : List Record → Type 0
AreInOrder records = AllPairs (λ q r. IsFrom q.place (class_of q) r) records

-- All relocations that count, sorted. Of relocations that only differ in their sections, some may be left out.
pub record AreRecords (elf : Elf) (records : List Record) : Type 0 where
  pub all : IsThinned (relocations elf) (map seen records)
  pub ordered : AreInOrder records

-- Searches by place and class.

abbrev pub has_key : ℕ → ℕ → Record → Bool
has_key place at r = r.place == place && class_of r == at

-- The records before `index` come before those of a place and class, and the other records don't.
pub record IsSplit (place at : ℕ) (records : List Record) (index : ℕ) : Type 0 where
  pub bound : index ≤ length records
  pub below : (k : ℕ) (d : Record) → k < index → IsBelow place at (slice_index_or records k d)
  pub above : (k : ℕ) (d : Record) → index ≤ k → k < length records → IsFrom place at (slice_index_or records k d)

-- The record with index `k` has this place and class.
abbrev pub HasKeyAt : ℕ → ℕ → List Record → ℕ → Type 0
HasKeyAt place at records k =
    (k < length records)
    × ((d : Record) → ((slice_index_or records k d).place ≡ place) × (class_of (slice_index_or records k d) ≡ at))

-- The only relocation that passes a test, for any file with these records.
pub record FindsOnly (passes : Relocation → Bool) (records : List Record) (found : Option Record) : Type 0 where
  pub is : (elf : Elf) → AreRecords elf records → IfSome found (λ r. IsOnly passes (relocations elf) (seen r))
  pub only : (elf : Elf) (r : Relocation) → AreRecords elf records → IsOnly passes (relocations elf) r →
      IsSomeAnd found (λ q. seen q ≡ r)
