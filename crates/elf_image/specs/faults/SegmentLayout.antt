-- The layout that the segments of an executable must have: one executable segment (or two in a file that was
-- rewritten), with no overlap with other segments in memory or in the file. gABI, "Program Header" and "Program
-- Loading".
use Rattle.std.specs.Prelude.{◌≡◌, ◌≢◌, ◌≤◌, ◌<◌, ◌⊎◌, ◌+◌, ◌*◌, ℕ, List, IsTrue, nat_eq, codes, Bool, ◌&&◌}
use Rattle.std.specs.List.{starts_with}
use Rattle.elf_image.specs.declared.segment.Segment.{Segment}
use Rattle.elf_image.specs.declared.segment.TheConstants.{PF_X, PF_W, PHDR_SIZE, ADDRESS_END}
use Rattle.elf_image.specs.file.Header.{e_phoff, e_phnum, e_shnum, segment, segment_place}
use Rattle.elf_image.specs.memory.Image.{is_load, end_of, has_flag, loads_address}
use Rattle.elf_image.specs.faults.LowestPlace.{SomeBelow}
use Rattle.elf_image.specs.file.Sections.{holds_code, section_header, section_place, section_name}

-- An executable segment.
abbrev pub is_code_segment : Segment → Bool
is_code_segment p = is_load p && has_flag PF_X p

-- The segment with index `i` is executable.
abbrev pub IsCode : List ℕ → ℕ → Type 0
IsCode file i = (i < e_phnum file) × IsTrue (is_code_segment (segment file i))

-- A section has a name with the prefix that a rewrite gives to sections that it replaces.
abbrev pub HasOldSection : List ℕ → Type 0
HasOldSection file = (i : ℕ) × (i < e_shnum file) × IsTrue (starts_with nat_eq (section_name file i) (codes ".old."))

-- No segment is executable. The place is the offset of the header field e_phoff.
abbrev pub HasNoCode : List ℕ → ℕ → Type 0
HasNoCode file place = ((i : ℕ) → IsCode file i → ⊥) × (place ≡ 0x20)

-- The second executable segment in the table.
abbrev pub IsSecondCode : List ℕ → ℕ → Type 0
IsSecondCode file i = IsCode file i × ((j : ℕ) × IsCode file j × (j < i) × ((k : ℕ) → IsCode file k → k < i → k ≡ j))

-- There is a third executable segment, or the file was not rewritten.
abbrev pub IsTooMany : List ℕ → ℕ → Type 0
IsTooMany file i = ((k : ℕ) × IsCode file k × (i < k)) ⊎ (HasOldSection file → ⊥)

abbrev pub IsOneTooMany : List ℕ → ℕ → ℕ → Type 0
IsOneTooMany file i place = (IsSecondCode file i × IsTooMany file i) × (place ≡ segment_place file i)

-- An executable segment starts at address 0, or some of its bytes don't come from the file.
abbrev pub IsOddCode : List ℕ → ℕ → ℕ → Type 0
IsOddCode file i place =
    let p = segment file i in
    (IsCode file i × ((p.vaddr ≡ 0) ⊎ (p.filesz ≢ p.memsz))) × (place ≡ segment_place file i)

-- Two loaded segments share an address, or a byte of the file.
abbrev pub IsFileByte : ℕ → Segment → Type 0
IsFileByte k p = IsTrue (is_load p) × (p.offset ≤ k) × (k < p.offset + p.filesz)

abbrev pub ShareAddress : Segment → Segment → Type 0
ShareAddress p q = (a : ℕ) × IsTrue (loads_address a p) × IsTrue (loads_address a q)

abbrev pub ShareFileByte : Segment → Segment → Type 0
ShareFileByte p q = (k : ℕ) × IsFileByte k p × IsFileByte k q

-- A segment shares an address, or a byte of the file, with another segment.
abbrev pub SharesAddress : List ℕ → ℕ → ℕ → Type 0
SharesAddress file i place =
    ((j : ℕ) × (j < e_phnum file) × (j ≢ i) × ShareAddress (segment file i) (segment file j))
    × (place ≡ segment_place file i)

abbrev pub SharesFileByte : List ℕ → ℕ → ℕ → Type 0
SharesFileByte file i place =
    ((j : ℕ) × (j < e_phnum file) × (j ≢ i) × ShareFileByte (segment file i) (segment file j))
    × (place ≡ segment_place file i)

-- The executable segment at the lowest address among the first n segments. If there are several, the first in the
-- table.
abbrev pub IsLowestCodeBelow : List ℕ → ℕ → ℕ → Type 0
IsLowestCodeBelow file n i =
    IsCode file i
    × ((j : ℕ) → IsCode file j → j < n → ((segment file i).vaddr < (segment file j).vaddr)
    ⊎ (((segment file i).vaddr ≡ (segment file j).vaddr) × (i ≤ j)))

abbrev pub IsLowestCode : List ℕ → ℕ → Type 0
IsLowestCode file i = IsLowestCodeBelow file (e_phnum file) i

-- A range of the file starts before the end of the lowest executable segment's bytes, and ends after it.
abbrev pub CrossesEnd : List ℕ → ℕ → ℕ → Type 0
CrossesEnd file offset size =
    (c : ℕ) × IsLowestCode file c
    × (offset < (segment file c).offset + (segment file c).filesz)
    × ((segment file c).offset + (segment file c).filesz < offset + size)

-- The bytes of a segment, loaded or not, cross that end.
abbrev pub IsCrossing : List ℕ → ℕ → ℕ → Type 0
IsCrossing file i place = CrossesEnd file (segment file i).offset (segment file i).filesz
    × (place ≡ segment_place file i)

-- The table of program headers crosses that end.
abbrev pub IsCrossingTable : List ℕ → ℕ → Type 0
IsCrossingTable file place = CrossesEnd file (e_phoff file) (PHDR_SIZE * e_phnum file) × (place ≡ e_phoff file)

-- A single executable segment loads all addresses of a range.
abbrev pub LiesInCode : List ℕ → ℕ → ℕ → Type 0
LiesInCode file start end = (j : ℕ) × IsCode file j × ((segment file j).vaddr ≤ start) × (end ≤ end_of (segment file j))

-- An executable section that isn't empty and isn't inside an executable segment.
abbrev pub IsStraySection : List ℕ → ℕ → ℕ → Type 0
IsStraySection file i place =
    let s = section_header file i in
    (IsTrue (holds_code s.flags) × (s.size ≢ 0) × (LiesInCode file s.addr (s.addr + s.size) → ⊥))
    × (place ≡ section_place file i)

-- Places at which the layout of segments is wrong.
abbrev pub IsBadCode : List ℕ → ℕ → Type 0
IsBadCode file place =
    HasNoCode file place ⊎ (SomeBelow (e_phnum file) (IsOneTooMany file) place
    ⊎ SomeBelow (e_phnum file) (IsOddCode file) place)

abbrev pub IsShared : List ℕ → ℕ → Type 0
IsShared file place = SomeBelow (e_phnum file) (SharesAddress file) place
    ⊎ SomeBelow (e_phnum file) (SharesFileByte file) place

abbrev pub IsCrossed : List ℕ → ℕ → Type 0
IsCrossed file place = SomeBelow (e_phnum file) (IsCrossing file) place ⊎ IsCrossingTable file place

abbrev pub IsBadLoading : List ℕ → ℕ → Type 0
IsBadLoading file place =
    IsBadCode file place ⊎ (IsShared file place ⊎ (IsCrossed file place
    ⊎ SomeBelow (e_shnum file) (IsStraySection file) place))

-- An executable segment is writable.
abbrev pub IsWritableCode : List ℕ → ℕ → ℕ → Type 0
IsWritableCode file i place = (IsCode file i × IsTrue (has_flag PF_W (segment file i))) × (place ≡ segment_place file i)

-- A segment loads this address, which is at or above the limit.
abbrev pub IsHigh : List ℕ → ℕ → ℕ → Type 0
IsHigh file i address = IsTrue (loads_address address (segment file i)) × (ADDRESS_END ≤ address)
